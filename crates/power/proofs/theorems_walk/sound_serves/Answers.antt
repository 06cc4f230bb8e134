use Rattle.power.proofs.SoundLevels.{sound_serves}
use Rattle.power.proofs.theorems_walk.sound_serves.Goals as goal

pub returns : goal.returns
returns c = sound_serves
