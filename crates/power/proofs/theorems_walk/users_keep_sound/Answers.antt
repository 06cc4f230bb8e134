use Rattle.power.proofs.SoundUsers.{users_keep_sound}
use Rattle.power.proofs.theorems_walk.users_keep_sound.Goals as goal

pub returns : goal.returns
returns c = users_keep_sound
