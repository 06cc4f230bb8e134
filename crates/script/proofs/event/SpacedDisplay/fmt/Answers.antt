use Rattle.std.proofs.Common.{rules, ◌-◌, [], ◌∷◌, length, get_or, take, drop, arith}
use Rattle.std.proofs.Output.{has_written_append, has_written_of_eq}
use Rattle.script.proofs.Printed.{spaced_more}
use Rattle.script.proofs.event.SpacedDisplay.fmt.Goals as goal

pub loop-level-preserved : goal.loop-level-preserved
loop-level-preserved g c p =
    let levels = c.args.self.now.0.now in
    has_written_of_eq _ _ _ _ _ (spaced_more (get_or levels 0 0) (take (length levels - 1) (drop 1 levels)) c.loop-level.level-index (omega arith))
    (has_written_append _ _ _ _ _ _ (c.loop-level.invariant p) (has_written_append _ _ (32 ∷ []) c.write_str.new.self _ _ (search rules) (search rules)))
