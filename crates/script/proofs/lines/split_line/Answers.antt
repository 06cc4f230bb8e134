use Rattle.std.proofs.lemmas.List.{take_rest}
use Rattle.script.proofs.Ended.{ends_at}
use Rattle.script.proofs.lines.split_line.Goals as goal

pub returns-in-Some : goal.returns-in-Some
returns-in-Some c =
    let ends = ends_at c.args.text.now _ (c.in-Some.ensures.value) in
    record { front = ends.0; rest = rw take_rest ends.1 }

pub returns-in-None : goal.returns-in-None
returns-in-None c =
    let ends = ends_at c.args.text.now _ (c.in-None.ensures.value) in
    record { front = ends.0; rest = ends.1 }
