use Rattle.std.proofs.Common.{◌≡◌, arith}
use Rattle.problem.proofs.Lines.{run_more, run_stops, run_past, run_full}
use Rattle.text_line.proofs.line.run_of.Goals as goal

pub returns-then-text-i : goal.returns-then-text-i
returns-then-text-i c =
    let l = c.loop-d in
    (run_past _ _ 71 l.d l.invariant.counted c.if-text-i.true, omega (arith, l.invariant.within), omega arith)

pub returns-then-digit-ge16 : goal.returns-then-digit-ge16
returns-then-digit-ge16 c =
    let l = c.loop-d in
    (run_stops _ _ 71 l.d l.invariant.counted (omega arith), omega (arith, l.invariant.within), omega arith)

pub loop-d-preserved : goal.loop-d-preserved
loop-d-preserved c =
    let l = c.loop-d in
    record { counted = run_more _ _ 71 l.d l.invariant.counted (omega arith) (omega arith); within = omega (arith, c.if-text-i.false) }

pub returns : goal.returns
returns c =
    let l = c.loop-d in
    let all : l.d ≡ 71 = omega arith in
    (rw all at (run_full _ _ 71 l.d l.invariant.counted all), rw all at l.invariant.within, omega arith)
