-- The bytes of a line that the code holds.
use Rattle.std.specs.Prelude.{ℕ, List}
use Rattle.problem.specs.Line.{frame_at}
use Rattle.text_line.specs.declared.frame.Frame.{Frame}

abbrev pub bytes_of : Frame → List ℕ
bytes_of f = frame_at f.text.now f.at f.size
