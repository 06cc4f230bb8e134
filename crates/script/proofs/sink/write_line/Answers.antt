-- The end of the line stands behind the value's text.
use Rattle.script.proofs.Printed.{line_written}
use Rattle.script.proofs.sink.write_line.Goals as goal

pub returns : goal.returns
returns g c = line_written (g.D.Display.output c.args.value) c.args.line.now c.write.new.self c.write_str.new.self c.write_str.result c.in_ok-write.ensures.writes c.write_str.ensures.ok
