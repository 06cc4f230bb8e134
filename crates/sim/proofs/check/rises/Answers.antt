-- A list rises if no number is below the one before it.
use Rattle.std.proofs.Common.{rules}
use Rattle.std.proofs.iter.runs.Made.{chains}
use Rattle.std.proofs.lemmas.List.Sorted.{non_decreasing_from_is_sorted}
use Rattle.sim.proofs.Sensible.{rising_from_sorted}
use Rattle.sim.proofs.check.rises.Goals as goal

pub returns : goal.returns
returns c =
    rising_from_sorted c.args.least.now c.is_sorted.result
    (non_decreasing_from_is_sorted c.args.least.now c.is_sorted.result (search (rules, chains)))
