-- What holds of all parts, by the clauses and the predicates that they are made of.
use Prim.Native.Nat.{ℕ, ◌<◌}
use mathlib.Core.List.{List, [], ◌∷◌, map}
use lib.Dec.{T}
use lib.ListN.{length}
use Rattle.lists.specs.Member.{All}
use Rattle.lists.specs.Tabulate.{tabulate}
use Rattle.lists.proofs.Bytes.{all_at}
use Rattle.lists.proofs.Member.{All-append, append_left, append_right, all_mapped, mapped_all, all_of}
use Rattle.problem.specs.Problem.{Clause, Problem}
use Rattle.problem.specs.Extended.{with_clauses}
use Rattle.ground.specs.Instance.{clause_of, no_clause}
use Rattle.ground.proofs.ClauseLaws.{tabulate-All}
use Rattle.parting.specs.Parts.{only, part_of, is_lowest, is_bare, parts_of}
use Rattle.parting.proofs.ClaimOnlyLaws.{only-All, All-only}

module _ {ℓ} (q : Problem) (P : Problem → Type ℓ) where
  abbrev alone : Clause → Problem
  alone k = with_clauses q (k ∷ [])

  abbrev bare : List Clause
  bare = only is_bare q.clauses

  abbrev names : List ℕ
  names = only (is_lowest q) (tabulate (λ p. p) (length q.arities))

  pub parts_each : All (λ k. P (with_clauses q (k ∷ []))) q.clauses → ((p : ℕ) → P (part_of q p)) → All P (parts_of q)
  unfolding parts_of
  parts_each a f =
      All-append P (map alone bare) (map (part_of q) names)
      (all_mapped alone P bare (only-All is_bare (λ k. P (alone k)) q.clauses a))
      (all_mapped (part_of q) P names (all_of (λ p. P (part_of q p)) f names))

  -- a clause without atoms is a part
  pub bare_part : All P (parts_of q) → (i : ℕ) → i < length q.clauses → T (is_bare (clause_of q i)) → P (with_clauses q (clause_of q i ∷ []))
  unfolding parts_of
  bare_part a i h =
      all_at (λ k. T (is_bare k) → P (alone k)) q.clauses no_clause i h
      (All-only is_bare (λ k. P (alone k)) q.clauses (mapped_all alone P bare (append_left P (map alone bare) (map (part_of q) names) a)))

  -- and so are the clauses of a lowest predicate
  pub named_part : All P (parts_of q) → (p : ℕ) → p < length q.arities → T (is_lowest q p) → P (part_of q p)
  unfolding parts_of
  named_part a p h =
      tabulate-All (λ p. T (is_lowest q p) → P (part_of q p)) (λ p. p) (length q.arities)
      (All-only (is_lowest q) (λ p. P (part_of q p)) (tabulate (λ p. p) (length q.arities)) (mapped_all (part_of q) P names (append_right P (map alone bare) (map (part_of q) names) a)))
      p h
