use Rattle.power.proofs.Driven.{sound_once_lowered}
use Rattle.power.proofs.drive.Drive.lower_part.Goals as goal

pub invariant_of-self-clause-sound : goal.invariant_of-self-clause-sound
invariant_of-self-clause-sound g c = sound_once_lowered _ _ c.args.x.n c.args.self.now.sound c.requires.may c.lower.ensures
