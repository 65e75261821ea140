-- The name of a turn's part, by each way out, and one run by either engine.
use Prim.Native.Nat.{ℕ, ◌+◌, ◌-◌, ◌*◌, ◌≤◌, ◌<◌}
use mathlib.Core.Bool.{Bool, true, false}
use mathlib.Core.List.{List}
use mathlib.Core.Path.{◌≡◌, refl, sym, ap, subst, ◌∙◌}
use native.Mathlib.Omega.{arith}
use borrow.Author.Tests.{lt-ltb, le-ltb, eq-eqb, ne_eqb}
use lib.ListN.{length, get_or}
use Rattle.problem.specs.Layout.{problem_in}
use Rattle.problem.specs.Table.{Lawful}
use Rattle.ground.specs.declared.verdict.Verdict.{Verdict}
use Rattle.ground.specs.declared.verdict.Verdict.TheVariants.{Refused, Satisfied as IsSatisfied, Refuted as IsRefuted, Exhausted as IsExhausted}
use Rattle.ground.proofs.Turns.{clauses_byte, clause_listed}
use Rattle.relevancy.specs.Engine.{outcome_in}
use Rattle.magic.specs.Engine.{magic_outcome}
use Rattle.parting.specs.Runs.{run_by}
use Rattle.parting.specs.terms.Labels.{clause_at, labels_in}
use Rattle.parting.specs.terms.Tally.{name_at, Counting}
use Rattle.parting.proofs.LabelLaws.{ClauseRoom, clause_room, labels_known}
use Rattle.parting.proofs.PartsLaws.{predicates_byte}
use Rattle.parting.proofs.TurnLaws.{magic_run, relevancy_run}

-- ---- the name of a turn's part

module _ (tb : List ℕ) (i : ℕ) where
  pub name_bare : i < get_or tb 2 0 → get_or tb (clause_at i) 0 + get_or tb (clause_at i + 1) 0 ≡ 0 → 32 + i ≡ name_at tb i
  name_bare l e = rw (lt-ltb i (get_or tb 2 0) l, eq-eqb (get_or tb (clause_at i) 0 + get_or tb (clause_at i + 1) 0) 0 e)

  pub name_full : i < get_or tb 2 0 → (get_or tb (clause_at i) 0 + get_or tb (clause_at i + 1) 0 ≡ 0 → ⊥) → 255 ≡ name_at tb i
  name_full l o = rw (lt-ltb i (get_or tb 2 0) l, ne_eqb (get_or tb (clause_at i) 0 + get_or tb (clause_at i + 1) 0) 0 o)

  module _ (labels : List ℕ) (is : labels ≡ labels_in tb) (past : get_or tb 2 0 ≤ i) where
    pub name_lowest : get_or labels (i - get_or tb 2 0) 0 ≡ i - get_or tb 2 0 → i - get_or tb 2 0 ≡ name_at tb i
    name_lowest e =
        let own : get_or (labels_in tb) (i - get_or tb 2 0) 0 ≡ i - get_or tb 2 0 = ap (λ (ls : List ℕ). get_or ls (i - get_or tb 2 0) 0) (sym is) ∙ e in
        rw (le-ltb i (get_or tb 2 0) past, eq-eqb (get_or (labels_in tb) (i - get_or tb 2 0) 0) (i - get_or tb 2 0) own)

    pub name_later : (get_or labels (i - get_or tb 2 0) 0 ≡ i - get_or tb 2 0 → ⊥) → 255 ≡ name_at tb i
    name_later o =
        let other : get_or (labels_in tb) (i - get_or tb 2 0) 0 ≡ i - get_or tb 2 0 → ⊥ = λ e. o (ap (λ (ls : List ℕ). get_or ls (i - get_or tb 2 0) 0) is ∙ e) in
        rw (le-ltb i (get_or tb 2 0) past, ne_eqb (get_or (labels_in tb) (i - get_or tb 2 0) 0) (i - get_or tb 2 0) other)

-- where a turn reads
pub turn_clause : (tb : List ℕ) → Lawful tb → (i : ℕ) → i < get_or tb 2 0 → ClauseRoom tb i
turn_clause tb h i l = clause_room tb h i (clause_listed tb h i l)

pub turn_label : (tb : List ℕ) → Lawful tb → (labels : List ℕ) → labels ≡ labels_in tb → (i : ℕ) → i < get_or tb 2 0 + get_or tb 1 0 → i - get_or tb 2 0 < length labels
turn_label tb h labels is i l = omega (arith, ap length is ∙ (labels_known tb h).size, predicates_byte tb h, h.fits.predicates_fit)

-- there are at most 96 turns
pub turns_few : (tb : List ℕ) → Lawful tb → get_or tb 2 0 + get_or tb 1 0 ≤ 96
turns_few tb h = omega (arith, predicates_byte tb h, clauses_byte tb h, h.fits.predicates_fit, h.fits.clauses_fit)

-- ---- one run

pub ran_magic : (magic : Bool) → magic ≡ true → (tb : List ℕ) → Lawful tb → (rules : List ℕ) → magic_outcome tb rules ≡ run_by magic (problem_in tb)
ran_magic magic e tb h rules = magic_run tb h rules ∙ ap (λ (b : Bool). run_by b (problem_in tb)) (sym e)

pub ran_relevancy : (magic : Bool) → magic ≡ false → (tb : List ℕ) → outcome_in tb ≡ run_by magic (problem_in tb)
ran_relevancy magic e tb = relevancy_run tb ∙ ap (λ (b : Bool). run_by b (problem_in tb)) (sym e)
