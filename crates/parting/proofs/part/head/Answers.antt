use Prim.Native.Nat.{ℕ, ◌≤◌}
use mathlib.Core.List.{List, ◌++◌}
use mathlib.Core.Path.{◌≡◌, refl, sym, ap, ◌∙◌}
use native.Mathlib.Omega.{arith}
use borrow.Author.Rules.{rules}
use lib.ListN.{length, take, drop, set, replicate, length-replicate}
use lib.Seq.{length-take-le}
use Rattle.problem.specs.Layout.{layout, problem_in}
use Rattle.ground.proofs.AtomLaws.{table_size}
use Rattle.parting.proofs.GatherLaws.{head_laid}
use Rattle.parting.proofs.part.head.Goals as goal

pub slice_bounds-copy-end : goal.slice_bounds-copy-end
slice_bounds-copy-end c = sym (length-take-le 144 c.args.table.now (omega (arith, table_size c.args.table.now c.requires.lawful)))

pub copy-requires : goal.copy-requires
copy-requires c = omega (arith, ap length c.requires.own_value, length-replicate {A = ℕ} 4096 0, length-take-le 144 c.args.table.now (omega (arith, table_size c.args.table.now c.requires.lawful)))

pub returns : goal.returns
returns c =
    let tb : List ℕ = c.args.table.now in
    let own : List ℕ = c.args.own.now in
    let long = length-take-le 144 tb (omega (arith, table_size tb c.requires.lawful)) in
    ap (λ (l : List ℕ). set l 2 0) (c.copy.ensures ∙ ap (λ (n : ℕ). take 144 tb ++ drop n own) long)
    ∙ ap (λ (l : List ℕ). set (take 144 l ++ drop 144 own) 2 0) (sym c.requires.lawful.laid)
    ∙ head_laid (problem_in tb) c.requires.lawful.fits own c.requires.own_value
