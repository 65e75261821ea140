use Rattle.problem.proofs.Lines.{line_size}
use Rattle.text_line.proofs.frame.Frame.kind.Goals as goal

-- a line has at least one byte
pub byte-requires : goal.byte-requires
byte-requires c = (line_size _ _ _ c.args.self.now.holds).0
