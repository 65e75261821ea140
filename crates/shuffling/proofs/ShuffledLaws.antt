-- Shuffling: another order alone, two lines exchanged, a renumbering alone, one shuffling after the other, and back.
use Prim.Native.Nat.{ℕ, ◌≤◌, ◌<◌}
use mathlib.Core.List.{List, ◌∷◌, ◌++◌, map}
use mathlib.Core.Path.{◌≡◌, refl, sym, subst, ◌∙◌}
use Rattle.lists.specs.Member.{All}
use Rattle.problem.specs.Problem.{Clause, Problem, ClauseFits}
use Rattle.problem.specs.Extended.{with_clauses}
use Rattle.shuffling.specs.Shuffled.{Permuted, one_by_one, clause_by, OneToOne, Shuffled}
use Rattle.shuffling.proofs.PermutedLaws.{permuted_self, permuted_back, Permuted-map, permuted_exchange}
use Rattle.shuffling.proofs.RenumberLaws.{clauses_self, clauses_twice}
use Rattle.shuffling.proofs.OneToOneLaws.{same_one, one_after, back, back_one, there_back}

pub order_shuffles : (q : Problem) (ks : List Clause) → Permuted q.clauses ks → Shuffled q (with_clauses q ks)
order_shuffles q ks p =
    record {
      constants_same = refl;
      arities_same = refl;
      renumbering = λ d. d;
      one_to_one = same_one q.constants;
      clauses_permuted = subst (λ (ls : List Clause). Permuted ls ks) (sym (clauses_self q.clauses)) p;
    }

pub lines_exchanged : (q : Problem) (front mid back : List Clause) (k l : Clause) → q.clauses ≡ front ++ (k ∷ mid ++ (l ∷ back))
    → Shuffled q (with_clauses q (front ++ (l ∷ mid ++ (k ∷ back))))
lines_exchanged q front mid back k l e =
    let after : List Clause = front ++ (l ∷ mid ++ (k ∷ back)) in
    order_shuffles q after (subst (λ (ks : List Clause). Permuted ks after) (sym e) (permuted_exchange front mid back k l))

pub renumbering_shuffles : (q : Problem) (σ : ℕ → ℕ) → OneToOne q.constants σ → Shuffled q (with_clauses q (map (clause_by σ) q.clauses))
renumbering_shuffles q σ one =
    record {
      constants_same = refl;
      arities_same = refl;
      renumbering = σ;
      one_to_one = one;
      clauses_permuted = permuted_self (map (clause_by σ) q.clauses);
    }

module _ (q r : Problem) (few : q.constants ≤ 32) (fits : All (ClauseFits q.constants q.arities) q.clauses) (s : Shuffled q r) where
  -- the shuffled clauses renumbered once more, where the two renumberings together are a third
  renumbered : (τ ρ : ℕ → ℕ) → ((d : ℕ) → d < q.constants → τ (s.renumbering d) ≡ ρ d) → Permuted (map (clause_by ρ) q.clauses) (map (clause_by τ) r.clauses)
  renumbered τ ρ meets =
      subst (λ (ks : List Clause). Permuted ks (map (clause_by τ) r.clauses))
      (clauses_twice q.constants few s.renumbering τ ρ s.one_to_one.below meets q.arities q.clauses fits)
      (Permuted-map (clause_by τ) (map (clause_by s.renumbering) q.clauses) r.clauses s.clauses_permuted)

  pub again : (t : Problem) → Shuffled r t → Shuffled q t
  again t u =
      let σ = s.renumbering in
      let τ = u.renumbering in
      let ρ : ℕ → ℕ = λ d. τ (σ d) in
      record {
        constants_same = u.constants_same ∙ s.constants_same;
        arities_same = u.arities_same ∙ s.arities_same;
        renumbering = ρ;
        one_to_one = one_after q.constants σ τ s.one_to_one (subst (λ (c : ℕ). OneToOne c τ) s.constants_same u.one_to_one);
        clauses_permuted =
            one_by_one (map (clause_by ρ) q.clauses) (map (clause_by τ) r.clauses) t.clauses (renumbered τ ρ (λ d h. refl)) u.clauses_permuted;
      }

  pub back_again : Shuffled r q
  back_again =
      let τ = back q.constants s.renumbering s.one_to_one in
      let there = renumbered τ (λ d. d) (there_back q.constants s.renumbering s.one_to_one) in
      record {
        constants_same = sym s.constants_same;
        arities_same = sym s.arities_same;
        renumbering = τ;
        one_to_one = subst (λ (c : ℕ). OneToOne c τ) (sym s.constants_same) (back_one q.constants s.renumbering s.one_to_one);
        clauses_permuted =
            permuted_back q.clauses (map (clause_by τ) r.clauses)
            (subst (λ (ks : List Clause). Permuted ks (map (clause_by τ) r.clauses)) (clauses_self q.clauses) there);
      }
