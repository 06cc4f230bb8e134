use Rattle.power.proofs.Driven.{sound_once_levelled}
use Rattle.power.proofs.drive.Drive.level_part.Goals as goal

pub invariant_of-self-clause-sound : goal.invariant_of-self-clause-sound
invariant_of-self-clause-sound g c = sound_once_levelled _ _ c.args.x.n c.args.v.n c.args.self.now.sound c.requires.may c.level.ensures
