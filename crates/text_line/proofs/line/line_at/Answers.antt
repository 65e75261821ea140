use Rattle.std.proofs.Common.{◌≡◌, ℕ, ◌+◌, ◌/◌, ◌%◌, ◌<◌, List, length, cond, sym, lt-ltb, le-ltb, eq-eqb, ne_eqb, eqb, get_or, arith}
use lib.ListN.{get_or-eq_default}
use Rattle.problem.specs.declared.line.Line.TheVariants.{Bad, Holds}
use Rattle.problem.specs.Line.{run, line_at, line_of}
use Rattle.problem.proofs.Lines.{line_past, line_counted}
use Rattle.text_line.proofs.line.line_at.Goals as goal

-- with d digits counted
module _ (x : List ℕ) (at d : ℕ) (within : at < length x) (count : d ≡ run x at 71) where
  counted : line_at x at ≡ line_of x at d
  counted = line_counted x at d within count

  -- and as many as a line may have, so that only the byte after them is left to test
  paired : 0 < d → d < 71 → d % 2 ≡ 0 → line_at x at ≡ cond (eqb (get_or x (at + d) 0) 10) (Holds (d / 2)) Bad
  paired some few even = rw (counted, lt-ltb 0 d some, lt-ltb d 71 few, eq-eqb (d % 2) 0 even)

pub returns-then-text-at : goal.returns-then-text-at
returns-then-text-at c = sym (line_past c.args.text.now c.args.at c.if-text-at.true)

pub returns-then-d-eq0 : goal.returns-then-d-eq0
returns-then-d-eq0 c = rw (counted _ _ _ c.if-text-at.false c.run_of-d.ensures.0, c.if-d-eq0.true)

pub returns-then-d-gt70 : goal.returns-then-d-gt70
returns-then-d-gt70 c =
    let d = c.run_of-d.result in
    rw (counted _ _ _ c.if-text-at.false c.run_of-d.ensures.0, lt-ltb 0 d (omega arith), le-ltb d 71 (omega arith))

pub returns-then-d-ne0 : goal.returns-then-d-ne0
returns-then-d-ne0 c =
    let d = c.run_of-d.result in
    rw (counted _ _ _ c.if-text-at.false c.run_of-d.ensures.0, lt-ltb 0 d (omega arith), lt-ltb d 71 (omega arith), ne_eqb (d % 2) 0 c.if-d-ne0.true)

pub returns-then-text-end : goal.returns-then-text-end
returns-then-text-end c =
    rw (paired _ _ _ c.if-text-at.false c.run_of-d.ensures.0 (omega arith) (omega arith) c.if-d-ne0.false, get_or-eq_default c.args.text.now 0 c.if-text-end.true)

pub returns-then-text-end-ne10 : goal.returns-then-text-end-ne10
returns-then-text-end-ne10 c =
    rw (paired _ _ _ c.if-text-at.false c.run_of-d.ensures.0 (omega arith) (omega arith) c.if-d-ne0.false, ne_eqb _ 10 c.if-text-end-ne10.true)

pub returns : goal.returns
returns c = rw (paired _ _ _ c.if-text-at.false c.run_of-d.ensures.0 (omega arith) (omega arith) c.if-d-ne0.false, eq-eqb _ 10 c.if-text-end-ne10.false)
