-- The alternatives of a split node, by the table.
use Prim.Native.Nat.{ℕ, ◌+◌, ◌*◌, ◌<◌}
use mathlib.Core.List.{List}
use mathlib.Core.Path.{◌≡◌, refl, sym, ap, ◌∙◌}
use native.Mathlib.Omega.{arith}
use lib.ListN.{length, take, get_or, replicate, length-replicate}
use Rattle.std.specs.Prelude.{Option}
use Rattle.search.specs.Relevancy.{branches}
use Rattle.problem.specs.Layout.{problem_in}
use Rattle.problem.specs.Table.{Lawful}
use Rattle.ground.specs.Instance.{InstanceOf, clause_of, ground_atoms, ground_of}
use Rattle.ground.specs.terms.Branching.{SlotsNumbered, slot_numbers, NextOf}
use Rattle.ground.specs.terms.Placed.{Placed}
use Rattle.ground.proofs.AtomLaws.{Row, alts_row, alts_numbers}
use Rattle.ground.proofs.Headings.{numbered_in}
use Rattle.ground.proofs.Turns.{ClauseKnown, clause_known, numbers_take}
use Rattle.walk.specs.terms.Path.{number_at, four_at, site_at, alts_at}
use Rattle.relevancy_walk.specs.terms.Place.{instance_of, relevancy_walker}

module _ (tb : List ℕ) (h : Lawful tb) (path : List ℕ) (depth : ℕ) (listed : InstanceOf (problem_in tb) (instance_of (site_at (relevancy_walker tb) path depth))) where
  abbrev clause : ℕ
  clause = number_at path depth

  abbrev four : List ℕ
  four = four_at path depth

  site_known : number_at path depth < length (problem_in tb).clauses
  unfolding site_at
  site_known = listed.known

  pub site_clause : ClauseKnown tb (number_at path depth)
  site_clause = clause_known tb h clause site_known

  -- what is asked of flags holds of any that are enough
  abbrev flags : List ℕ
  flags = replicate 1024 0

  site_placed : Placed tb clause four flags
  unfolding site_at problem_in
  site_placed = record { known = site_known; four = refl; below = listed.constants; flagged = omega (arith, h.fits.atoms_fit, length-replicate {A = ℕ} 1024 0) }

  site_row : Row tb (144 + 56 * clause + 32) (get_or tb (144 + 56 * clause + 1) 0) four flags
  site_row = alts_row tb h clause four flags site_placed

  alts_are : branches (slot_numbers tb (144 + 56 * clause + 32) 6 four (get_or tb (144 + 56 * clause + 1) 0)) ≡ alts_at (relevancy_walker tb) path depth
  unfolding site_at ground_of
  alts_are =
      let q = problem_in tb in
      let v = (clause_of q clause).vars in
      let same : ground_atoms q (take v four) (clause_of q clause).alts ≡ ground_atoms q four (clause_of q clause).alts =
      numbers_take q.constants q.arities v four (clause_of q clause).alts site_clause.fits.alts_fit in
      ap branches (sym (same ∙ alts_numbers tb h clause four flags site_placed))

  -- by what the functions of a node's record give
  module _ (k : ℕ) (values : List ℕ) (k_is : k ≡ number_at path depth) (values_are : values ≡ four_at path depth) where
    pub slots_numbered : SlotsNumbered tb (144 + 56 * k + 32) 6 (get_or tb (144 + 56 * k + 1) 0) values
    slots_numbered = rw (k_is, values_are) (record { few = site_row.few; each = λ i l. numbered_in tb h (144 + 56 * clause + 32 + 6 * i) four (site_row.numbered i l) })

    pub slots_next : (n : ℕ) (r : Option ℕ) → NextOf (branches (slot_numbers tb (144 + 56 * k + 32) 6 values (get_or tb (144 + 56 * k + 1) 0))) n r → NextOf (alts_at (relevancy_walker tb) path depth) n r
    slots_next n r next = rw (← alts_are, ← k_is, ← values_are) next
