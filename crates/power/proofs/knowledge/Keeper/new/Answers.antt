use Rattle.std.proofs.Common.{refl}
use Rattle.power.proofs.KeptCalls.{kept_start}
use Rattle.power.proofs.knowledge.Keeper.new.Goals as goal

pub returns : goal.returns
returns g c = kept_start _ _ c.requires.starts c.parts.ensures (c.«new».ensures _ c.requires.starts) c.«new-2».ensures c.«new-3».ensures refl
