use Rattle.std.proofs.Common.{rules}
use Rattle.script.proofs.Printed.{line_put}
use Rattle.script.proofs.sink.put_line.Goals as goal

pub returns-in-Ok : goal.returns-in-Ok
returns-in-Ok g c = line_put (λ line. g.S.Sink.puts c.args.sink.now line c.put.new.self) (g.D.Display.output c.args.value) c.new-line.result c.write_line.new.line (search rules) (search rules) (search rules)
