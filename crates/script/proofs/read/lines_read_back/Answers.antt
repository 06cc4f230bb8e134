use Rattle.script.proofs.Formed.{reads_back}
use Rattle.script.proofs.read.lines_read_back.Goals as goal

pub returns : goal.returns
returns c = reads_back
