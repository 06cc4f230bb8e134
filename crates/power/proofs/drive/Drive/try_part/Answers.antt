use Rattle.std.proofs.Common.{arith, rules}
use Rattle.power.proofs.Driven.{sound_once_tried, was_good, was_not_yet}
use Rattle.power.proofs.OnePart.{rising_is}
use Rattle.power.proofs.Shown.{part_shown}
use Rattle.power.proofs.drive.Drive.try_part.Goals as goal

pub good-requires : goal.good-requires
good-requires g c =
    let d = c.args.self.now in
    (omega (arith, d.knows.left), (c.requires.there, rising_is _ (part_shown d.driver.now.mirror _ c.args.x.n _ d.knows.parts c.requires.rises)))

pub invariant_of-self-clause-sound : goal.invariant_of-self-clause-sound
invariant_of-self-clause-sound g c = sound_once_tried _ _ c.args.x.n _ c.args.self.now.sound c.requires.there c.good.ensures

pub invariant_of-self-2-clause-sound : goal.invariant_of-self-2-clause-sound
invariant_of-self-2-clause-sound g c = sound_once_tried _ _ c.args.x.n _ c.args.self.now.sound c.requires.there c.good.ensures

pub invariant_of-self-clause-knows : goal.invariant_of-self-clause-knows
invariant_of-self-clause-knows g c = let e = was_good c.good.ensures c.if-good.true in search rules

pub invariant_of-self-2-clause-knows : goal.invariant_of-self-2-clause-knows
invariant_of-self-2-clause-knows g c = let e = was_not_yet c.good.ensures c.if-good.false in search rules
