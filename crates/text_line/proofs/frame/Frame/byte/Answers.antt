use Rattle.std.proofs.Common.{◌≡◌, ℕ, ◌+◌, ◌*◌, ◌<◌, length, get_or, sym, arith, add-one}
use Rattle.lists.proofs.Digits.{horner_two}
use Rattle.problem.specs.Digit.{digit_of}
use Rattle.problem.specs.Line.{byte_at}
use Rattle.problem.proofs.Digits.{digit_small}
use Rattle.problem.proofs.Lines.{line_room, line_digits, frame_byte}
use Rattle.text_line.specs.declared.frame.Frame.{Frame}
use Rattle.text_line.proofs.frame.Frame.byte.Goals as goal

module _ (f : Frame) where
  room : f.at + 2 * f.size < length f.text.now
  room = (line_room _ _ _ f.holds).0

  -- the two bytes are digits
  high : (j : ℕ) → j < f.size → digit_of (get_or f.text.now (f.at + 2 * j) 0) < 16
  high j within = digit_small _ (line_digits _ _ _ f.holds (2 * j) (omega (arith, within)))

  low : (j : ℕ) → j < f.size → digit_of (get_or f.text.now (f.at + 2 * j + 1) 0) < 16
  low j within =
      let place : f.at + (2 * j + 1) ≡ f.at + 2 * j + 1 = omega arith in
      rw place at (digit_small _ (line_digits _ _ _ f.holds (2 * j + 1) (omega (arith, within))))

pub overflow_mul-i : goal.overflow_mul-i
overflow_mul-i c = omega (arith, room c.args.self.now)

pub overflow_add-i : goal.overflow_add-i
overflow_add-i c = omega (arith, room c.args.self.now)

pub bounds-self-i : goal.bounds-self-i
bounds-self-i c = omega (arith, room c.args.self.now)

pub known-high-requires : goal.known-high-requires
known-high-requires c = high c.args.self.now c.args.j c.requires

pub overflow_add-i-2 : goal.overflow_add-i-2
overflow_add-i-2 c = omega (arith, room c.args.self.now)

pub bounds-self-i-2 : goal.bounds-self-i-2
bounds-self-i-2 c = omega (arith, room c.args.self.now)

pub known-low-requires : goal.known-low-requires
known-low-requires c = low c.args.self.now c.args.j c.requires

pub overflow_mul-result : goal.overflow_mul-result
overflow_mul-result c = omega (arith, high c.args.self.now c.args.j c.requires, c.known-high.ensures)

pub overflow_add-result : goal.overflow_add-result
overflow_add-result c =
    omega (arith, high c.args.self.now c.args.j c.requires, c.known-high.ensures, low c.args.self.now c.args.j c.requires, c.known-low.ensures)

pub returns : goal.returns
unfolding byte_at
returns c = rw (frame_byte _ _ _ c.args.j c.requires, c.known-high.ensures, c.known-low.ensures, add-one) (sym (horner_two 16 _ _))
