use Prim.Native.Nat.{ℕ, ◌-◌, ◌≤◌, ◌<◌}
use mathlib.Core.List.{List}
use mathlib.Core.Path.{◌≡◌, refl, sym, ap, ◌∙◌}
use native.Mathlib.Omega.{arith}
use lib.ListN.{length, get_or, set, length-set}
use Rattle.parting.specs.terms.Labels.{renamed}
use Rattle.parting.proofs.LoopLaws.{filled, filled_read, filled_more, filled_all, tabulate_mapped}
use Rattle.parting.proofs.labels.rename.Goals as goal

abbrev rule : List ℕ → ℕ → ℕ → ℕ → ℕ
rule d from to a = renamed from to (get_or d a 0)

pub loop-i-preserved : goal.loop-i-preserved
loop-i-preserved c =
    let l = c.loop-i in
    let a = c.args in
    let d : List ℕ = a.labels.now in
    let f : ℕ → ℕ = rule d a.from a.to in
    let here : l.i < length d = omega arith in
    let same : get_or l.labels l.i 0 ≡ get_or d l.i 0 = ap (λ (r : List ℕ). get_or r l.i 0) l.invariant ∙ filled_read f d l.i here in
    let said : c.renamed.result ≡ f l.i = c.renamed.ensures ∙ ap (renamed a.from a.to) same in
    ap (λ (x : ℕ). set l.labels l.i x) said ∙ ap (λ (r : List ℕ). set r l.i (f l.i)) l.invariant ∙ filled_more f d l.i here

pub returns : goal.returns
returns c =
    let l = c.loop-i in
    let a = c.args in
    let d : List ℕ = a.labels.now in
    l.invariant ∙ filled_all (rule d a.from a.to) d l.i (omega arith) ∙ tabulate_mapped (renamed a.from a.to) d
