use Prim.Native.Nat.{ℕ, ◌-◌, ◌≤◌, ◌<◌}
use mathlib.Core.Bool.{cond}
use mathlib.Core.List.{List}
use mathlib.Core.Path.{◌≡◌, refl, sym, ap, ◌∙◌}
use native.Mathlib.Omega.{arith}
use borrow.Author.Rules.{rules}
use lib.Dec.{eqb}
use lib.ListN.{length, get_or, set, length-set}
use Rattle.lists.specs.Tabulate.{tabulate}
use Rattle.parting.specs.terms.Tally.{joined_as}
use Rattle.parting.proofs.LoopLaws.{filled, filled_read, filled_more, filled_all}
use Rattle.parting.proofs.part.join.Goals as goal

pub loop-a-preserved : goal.loop-a-preserved
loop-a-preserved c =
    let l = c.loop-a in
    let d : List ℕ = c.args.joined.now in
    let f : ℕ → ℕ = joined_as c.args.marks.now c.args.x c.args.bits.now d in
    let here : l.a < length d = omega arith in
    let same : get_or l.joined l.a 0 ≡ get_or d l.a 0 = ap (λ (r : List ℕ). get_or r l.a 0) l.invariant ∙ filled_read f d l.a here in
    let said : c.chosen.result ≡ f l.a = c.chosen.ensures ∙ ap (λ (y : ℕ). cond (eqb (get_or c.args.marks.now l.a 0) c.args.x) (get_or c.args.bits.now l.a 0) y) same in
    ap (λ (y : ℕ). set l.joined l.a y) said ∙ ap (λ (r : List ℕ). set r l.a (f l.a)) l.invariant ∙ filled_more f d l.a here

pub returns : goal.returns
returns c =
    let l = c.loop-a in
    let d : List ℕ = c.args.joined.now in
    let f : ℕ → ℕ = joined_as c.args.marks.now c.args.x c.args.bits.now d in
    l.invariant ∙ filled_all f d l.a (omega arith) ∙ ap (tabulate f) c.requires.2
