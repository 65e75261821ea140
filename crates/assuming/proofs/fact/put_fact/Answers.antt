use Prim.Native.Nat.{ℕ}
use mathlib.Core.Path.{◌≡◌, refl, sym, ap, ◌∙◌}
use native.Mathlib.Omega.{arith}
use borrow.Author.Rules.{rules}
use lib.ListN.{length, length-set, length-replicate}
use Rattle.assuming.proofs.FactLaws.{fact_place, few_arguments, copied_count, copied_fits, written_size, fact_record}
use Rattle.assuming.proofs.fact.put_fact.Goals as goal

pub bounds-table-base : goal.bounds-table-base
bounds-table-base c = omega (arith, fact_place _ c.requires.lawful _ _ _ c.decode-p.ensures)

pub slice_bounds-args-end : goal.slice_bounds-args-end
slice_bounds-args-end c = omega (arith, few_arguments _ c.requires.lawful _ _ _ c.decode-p.ensures)

pub slice_bounds-copy-end-2 : goal.slice_bounds-copy-end-2
slice_bounds-copy-end-2 c = copied_count _ c.requires.lawful _ _ _ c.decode-p.ensures _ c.requires.a_bound.1 _ refl

pub bounds-table-base-2 : goal.bounds-table-base-2
bounds-table-base-2 c = omega (arith, fact_place _ c.requires.lawful _ _ _ c.decode-p.ensures)

pub bounds-table-base-3 : goal.bounds-table-base-3
bounds-table-base-3 c = omega (arith, fact_place _ c.requires.lawful _ _ _ c.decode-p.ensures)

pub returns : goal.returns
returns c = fact_record _ c.requires.lawful _ _ _ c.decode-p.ensures _ c.requires.a_bound.1 _ refl _ c.copy.ensures
