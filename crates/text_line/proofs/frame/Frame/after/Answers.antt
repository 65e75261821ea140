use Rattle.std.proofs.Common.{refl, arith}
use Rattle.problem.proofs.Lines.{line_room}
use Rattle.text_line.proofs.frame.Frame.after.Goals as goal

-- the line ends within the text
pub overflow_mul-result : goal.overflow_mul-result
overflow_mul-result c = omega (arith, (line_room _ _ _ c.args.self.now.holds).0)

pub overflow_add-result : goal.overflow_add-result
overflow_add-result c = omega (arith, (line_room _ _ _ c.args.self.now.holds).0)

pub overflow_add-result-2 : goal.overflow_add-result-2
overflow_add-result-2 c = omega (arith, (line_room _ _ _ c.args.self.now.holds).0)

pub returns : goal.returns
returns c = (refl, omega (arith, (line_room _ _ _ c.args.self.now.holds).0))
