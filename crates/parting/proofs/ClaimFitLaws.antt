-- Every part is a well-formed problem by itself.
use Prim.Native.Nat.{ℕ, ◌≤◌}
use mathlib.Core.Bool.{Bool}
use mathlib.Core.List.{List, [], ◌∷◌}
use mathlib.Core.Path.{sym, subst}
use native.Mathlib.Omega.{arith}
use lib.ListN.{length}
use lib.Seq.{take-length}
use Rattle.lists.specs.Member.{All}
use Rattle.lists.proofs.Bytes.{all_at}
use Rattle.problem.specs.Problem.{Clause, Problem, ClauseFits, Fits, weights}
use Rattle.problem.proofs.Access.{weights_upto}
use Rattle.problem.specs.Extended.{with_clauses}
use Rattle.ground.specs.Instance.{clause_of, no_clause}
use Rattle.ground.proofs.ClauseLaws.{all_places}
use Rattle.parting.specs.Parts.{predicates_of, family, only, touches, part_of, parts_of}
use Rattle.parting.proofs.GatherLaws.{Sub-Fits}
use Rattle.parting.proofs.ClaimOnlyLaws.{only-All, only_few, only_weigh}
use Rattle.parting.proofs.ClaimEachLaws.{parts_each}

module _ (q : Problem) (f : Fits q) where
  abbrev Fit : Clause → Type 0
  Fit = ClauseFits q.constants q.arities

  -- clauses that are no more, fit and weigh no more
  pub some_fit : (ks : List Clause) → length ks ≤ length q.clauses → All (ClauseFits q.constants q.arities) ks → weights q.constants ks ≤ weights q.constants q.clauses
      → Fits (with_clauses q ks)
  some_fit ks few each light =
      Sub-Fits q f ks (length q.clauses) (omega arith)
      (record { few = few; each = each; weigh = subst (λ (l : List Clause). weights q.constants ks ≤ weights q.constants l) (sym (take-length q.clauses)) light })

  pub none_fit : Fits (with_clauses q [])
  none_fit = some_fit [] (omega arith) tt (omega arith)

  pub part_fits : (p : ℕ) → Fits (part_of q p)
  unfolding part_of
  part_fits p =
      let t : Clause → Bool = λ k. touches (family q p) (predicates_of k) in
      some_fit (only t q.clauses) (only_few t q.clauses) (only-All t Fit q.clauses f.each_fits) (only_weigh q.constants t q.clauses)

  alone_fits : All (λ (k : Clause). Fits (with_clauses q (k ∷ []))) q.clauses
  alone_fits =
      all_places (λ (k : Clause). Fits (with_clauses q (k ∷ []))) no_clause q.clauses
      (λ i h.
      some_fit (clause_of q i ∷ []) (omega arith) (all_at Fit q.clauses no_clause i h f.each_fits, tt)
      (omega (arith, weights_upto q.constants no_clause q.clauses i h)))

  pub parts_fit : All Fits (parts_of q)
  parts_fit = parts_each q Fits alone_fits part_fits
