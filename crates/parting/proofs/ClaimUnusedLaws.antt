-- A part without clauses fits at once.
use Prim.Native.Nat.{ℕ, zero, suc, ◌+◌}
use mathlib.Core.Bool.{Bool, true, false}
use mathlib.Core.List.{List, [], ◌∷◌, flat_map}
use mathlib.Core.Option.{none, some}
use mathlib.Core.Path.{◌≡◌, refl, ap, ◌∙◌}
use lib.ListN.{length}
use Rattle.search.specs.Closure.{grow, least}
use Rattle.search.specs.Ground.{Found, opened}
use Rattle.search.specs.Relevancy.{horn_rules, true_set, find_r}
use Rattle.search.specs.Machine.{Place, Satisfied, placed, after, answer, answer_at, last, root, entries, proceed, outcome}
use Rattle.problem.specs.Problem.{Problem, Fits, limit_of}
use Rattle.problem.specs.Extended.{with_clauses}
use Rattle.ground.specs.declared.verdict.Verdict.TheVariants.{Satisfied as IsSatisfied}
use Rattle.ground.specs.Instance.{ground_of}
use Rattle.ground.specs.Verdict.{verdict_of}
use Rattle.parting.specs.Runs.{run_by}
use Rattle.parting.proofs.ClaimFitLaws.{none_fit}
use Rattle.parting.proofs.ClaimWalkLaws.{outcomes}

-- an open root ends the walk
module _ {I : Type 0} (find : List ℕ → Found I) (bits : List Bool) (e : find [] ≡ opened bits) where
  no_entry : (n : ℕ) → entries find n (root find) ≡ []
  unfolding entries
  no_entry zero = refl
  no_entry (suc n) = ap {B = List (Place I)} (λ (x : Found I). elim (placed find (after x [])) [ none ↦ [] | some t ↦ t ∷ entries find n t ]) e

  open_at_once : (n : ℕ) → outcome find n ≡ Satisfied 0 bits
  unfolding proceed
  open_at_once n =
      ap (λ (es : List (Place I)). answer (last (root find) es) (0 + length es)) (no_entry n)
      ∙ ap (λ (x : Found I). answer_at x (after x []) 0) e

-- where there is no instance nothing is true, and there is nothing to split
open_root : (q : Problem) → (bits : List Bool) × (find_r (ground_of (with_clauses q [])) [] ≡ opened bits)
unfolding ground_of find_r true_set horn_rules least grow flat_map
open_root q = (_, refl)

module _ (q : Problem) (f : Fits q) where
  by_relevancy : verdict_of (run_by false (with_clauses q [])) ≡ IsSatisfied 0
  unfolding run_by
  by_relevancy =
      let o = open_root q in
      ap verdict_of (open_at_once (find_r (ground_of (with_clauses q []))) o.0 o.1 (limit_of q.limit))

  pub unused_fits : (by : Bool) → verdict_of (run_by by (with_clauses q [])) ≡ IsSatisfied 0
  unused_fits true = ap verdict_of (outcomes (with_clauses q []) (none_fit q f)) ∙ by_relevancy
  unused_fits false = by_relevancy
