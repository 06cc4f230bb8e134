use Rattle.power.proofs.SoundSteps.{steps_keep_sound}
use Rattle.power.proofs.theorems_walk.steps_keep_sound.Goals as goal

pub returns : goal.returns
returns c = steps_keep_sound
