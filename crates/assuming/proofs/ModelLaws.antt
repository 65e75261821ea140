-- The models of a problem, clause by clause, and those of a problem with facts.
use Prim.Native.Nat.{ℕ, ◌<◌}
use mathlib.Core.List.{List, [], ◌∷◌, map}
use mathlib.Core.Logic.{inl, inr, ∥∥₁_map}
use mathlib.Core.Path.{◌≡◌, refl, sym, ap, ap₂, subst, ◌∙◌}
use native.Mathlib.Omega.{arith}
use borrow.Author.Tests.{lt-ltb}
use lib.ListN.{length}
use Rattle.lists.specs.Digits.{tuples}
use Rattle.lists.specs.Member.{All, Any}
use Rattle.lists.specs.Tabulate.{tabulate}
use Rattle.lists.proofs.Bytes.{tabulate_of}
use Rattle.lists.proofs.Member.{all_map, All-append, append_left, append_right, all_zip, all_mapped, mapped_all, all_flat, flat_all}
use Rattle.lists.proofs.Tabulate.{tabulate-map}
use Rattle.search.specs.Ground.{Model}
use Rattle.problem.specs.Problem.{Clause, Problem, Fits, atom_count}
use Rattle.ground.specs.Instance.{Instance, value_of, ground_number, no_clause, clause_of, instances_of, ground_atoms, ground_of}
use Rattle.assuming.specs.Assume.{fact_clause, assuming}
use Rattle.assuming.proofs.FactLaws.{fact_atom, fact_atom_lem}

-- ---- clause by clause

module _ (q : Problem) (M : ℕ → Type 0) where
  -- of the instance of a clause with these values: its conditions are in the set only where an alternative is
  abbrev pub Kept : Clause → List ℕ → Type 0
  Kept k values = All M (ground_atoms q values k.conds) → ∥ Any M (ground_atoms q values k.alts) ∥₁

  abbrev pub ClauseKept : Clause → Type 0
  ClauseKept k = All (Kept k) (tuples q.constants k.vars)

  abbrev Instances : Instance → Type 0
  Instances i = Kept (clause_of q i.clause) i.values

  abbrev pub one : ℕ → List ℕ → Instance
  one k values = record { clause = k; values = values }

  clauses_listed : map (clause_of q) (tabulate (λ k. k) (length q.clauses)) ≡ q.clauses
  clauses_listed = tabulate-map (clause_of q) (λ k. k) (length q.clauses) ∙ tabulate_of (clause_of q) no_clause q.clauses (length q.clauses) refl (λ i l. refl)

  pub model_kept : Model (ground_of q) M → All ClauseKept q.clauses
  unfolding ground_of
  model_kept m =
      subst (All ClauseKept) clauses_listed
      (all_mapped (clause_of q) ClauseKept (tabulate (λ k. k) (length q.clauses))
      (all_map (λ k. All Instances (instances_of q k)) (λ k. ClauseKept (clause_of q k)) (λ k a. mapped_all (one k) Instances (tuples q.constants (clause_of q k).vars) a)
      (tabulate (λ k. k) (length q.clauses))
      (flat_all (instances_of q) Instances (tabulate (λ k. k) (length q.clauses)) m)))

  pub kept_model : All ClauseKept q.clauses → Model (ground_of q) M
  unfolding ground_of
  kept_model a =
      all_flat (instances_of q) Instances (tabulate (λ k. k) (length q.clauses))
      (all_map (λ k. ClauseKept (clause_of q k)) (λ k. All Instances (instances_of q k)) (λ k b. all_mapped (one k) Instances (tuples q.constants (clause_of q k).vars) b)
      (tabulate (λ k. k) (length q.clauses))
      (mapped_all (clause_of q) ClauseKept (tabulate (λ k. k) (length q.clauses)) (subst (All ClauseKept) (sym clauses_listed) a)))

-- ---- with facts

module _ (q : Problem) (f : Fits q) where
  -- a constant's value is itself
  constant_value : (values args : List ℕ) → All (λ d. d < q.constants) args → map (value_of values) args ≡ args
  constant_value values [] a = refl
  constant_value values (d ∷ args) a =
      let small : d < 128 = omega (arith, a.0, f.constants_fit) in
      ap₂ (λ (x : ℕ) (xs : List ℕ). x ∷ xs) (rw (lt-ltb d 128 small)) (constant_value values args a.1)

  module _ (a : ℕ) (below : a < atom_count q.constants q.arities) where
    pub fact_is : (values : List ℕ) → ground_atoms q values (fact_clause q a).alts ≡ a ∷ []
    fact_is values =
        let n = fact_atom q f a below in
        ap (λ (k : Clause). ground_atoms q values k.alts) (fact_atom_lem q f a below)
        ∙ ap (λ (x : ℕ). x ∷ []) (ap (λ (args : List ℕ). ground_number q.constants q.arities n.pred args) (constant_value values n.args n.atom.below) ∙ n.numbered)

    -- a fact's clause is kept exactly where the fact is in the set
    module _ (M : ℕ → Type 0) where
      fact_kept : ∥ M a ∥₁ → ClauseKept q M (fact_clause q a)
      fact_kept m = (λ u. subst (λ (xs : List ℕ). ∥ Any M xs ∥₁) (sym (fact_is [])) (∥∥₁_map m (λ x. inl x)), tt)

      kept_fact : ClauseKept q M (fact_clause q a) → ∥ M a ∥₁
      kept_fact k = ∥∥₁_map (subst (λ (xs : List ℕ). ∥ Any M xs ∥₁) (fact_is []) (k.0 tt)) (λ w. elim w [ inl x ↦ x | inr x ↦ absurd x ])

  module _ (facts : List ℕ) (below : All (λ a. a < atom_count q.constants q.arities) facts) (M : ℕ → Type 0) where
    pub added_model : Model (ground_of q) M → All (λ a. ∥ M a ∥₁) facts → Model (ground_of (assuming q facts)) M
    added_model m held =
        kept_model (assuming q facts) M
        (All-append (ClauseKept q M) q.clauses (map (fact_clause q) facts) (model_kept q M m)
        (all_mapped (fact_clause q) (ClauseKept q M) facts
        (all_zip (λ a. a < atom_count q.constants q.arities) (λ a. ∥ M a ∥₁) (λ a. ClauseKept q M (fact_clause q a)) (λ a b h. fact_kept a b M h) facts below held)))

    pub model_added : Model (ground_of (assuming q facts)) M → Model (ground_of q) M × All (λ a. ∥ M a ∥₁) facts
    model_added m =
        let all = model_kept (assuming q facts) M m in (
          kept_model q M (append_left (ClauseKept q M) q.clauses (map (fact_clause q) facts) all),
          all_zip (λ a. a < atom_count q.constants q.arities) (λ a. ClauseKept q M (fact_clause q a)) (λ a. ∥ M a ∥₁) (λ a b k. kept_fact a b M k) facts below
              (mapped_all (fact_clause q) (ClauseKept q M) facts (append_right (ClauseKept q M) q.clauses (map (fact_clause q) facts) all)),
        )
