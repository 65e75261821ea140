use Prim.Native.Nat.{ℕ}
use mathlib.Core.List.{List}
use mathlib.Core.Path.{sym, ap, ◌∙◌}
use native.Mathlib.Omega.{arith}
use borrow.Author.Rules.{rules}
use Rattle.problem.specs.Problem.{Problem}
use Rattle.problem.specs.Layout.{problem_in}
use Rattle.writing.proofs.WriteLaws.{put_as, put_most, put_then}
use Rattle.ground.specs.declared.verdict.Verdict.{Verdict}
use Rattle.report.specs.terms.Told.{told}
use Rattle.report.proofs.ToldLaws.{told-Refused, told_satisfied, told_refuted, told_exhausted}
use Rattle.report.proofs.answer.put_verdict.Goals as goal

pub returns-in-Refused : goal.returns-in-Refused
returns-in-Refused c =
    let s = c.args in
    let q : Problem = problem_in s.table.now in
    let answer : List ℕ = s.answer.now in
    put_as
    (put_most c.put_head.ensures (omega arith))
    (told-Refused q answer _ ∙ ap (λ (w : Verdict). told q w answer) (sym c.in-Refused.is))

pub returns-in-Satisfied : goal.returns-in-Satisfied
returns-in-Satisfied c =
    let s = c.args in
    let q : Problem = problem_in s.table.now in
    let answer : List ℕ = s.answer.now in
    put_as
    (put_then c.put_head-next.ensures (omega arith) c.put_model.ensures)
    (told_satisfied q answer _ ∙ ap (λ (w : Verdict). told q w answer) (sym c.in-Satisfied.is))

pub returns-in-Refuted : goal.returns-in-Refuted
returns-in-Refuted c =
    let s = c.args in
    let q : Problem = problem_in s.table.now in
    let answer : List ℕ = s.answer.now in
    put_as
    (put_most c.put_head-in-Refuted.ensures (omega arith))
    (told_refuted q answer _ ∙ ap (λ (w : Verdict). told q w answer) (sym c.in-Refuted.is))

pub returns-in-Exhausted : goal.returns-in-Exhausted
returns-in-Exhausted c =
    let s = c.args in
    let q : Problem = problem_in s.table.now in
    let answer : List ℕ = s.answer.now in
    put_as
    (put_most c.put_head-in-Exhausted.ensures (omega arith))
    (told_exhausted q answer _ ∙ ap (λ (w : Verdict). told q w answer) (sym c.in-Exhausted.is))
