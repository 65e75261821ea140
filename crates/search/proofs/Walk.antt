-- The relevancy walk: what an instance that it splits has, and that the atoms entered are relevant and new.
use Prim.Native.Nat.{ℕ, ◌<◌}
use mathlib.Core.Bool.{Bool, not, ◌&&◌}
use mathlib.Core.List.{List, ◌∷◌}
use mathlib.Core.Option.{some}
use mathlib.Core.Path.{◌≡◌, sym, subst}
use lib.Dec.{T, T_not}
use Rattle.lists.specs.Key.{nat_key}
use Rattle.lists.specs.Member.{All, every, first, In}
use Rattle.lists.specs.Test.{T_left, T_right}
use Rattle.lists.proofs.Firsts.{firsts-All}
use Rattle.lists.proofs.Member.{all_map, all_zip, all_of, every-All, first-some, has_all}
use Rattle.search.specs.Ground.{Ground, Proper, split, disjunctive}
use Rattle.search.specs.Relevancy.{true_set, relevant_set, is_true, is_relevant, splittable, branches, find_r}
use Rattle.search.specs.Machine.{Branch, entered, Genuine}
use Rattle.search.proofs.Relevancy.{true_entered, true_grows, relevant_grows}
use Rattle.search.proofs.Found.{find_r-split}
use Rattle.search.proofs.Path.{genuine_ind}
use Rattle.search.proofs.Sound.{Fresh}

-- the parts of `splittable`
pub record Splits {I : Type 0} (p : Ground I) (t r : ℕ → Bool) (i : I) : Type 0 where
  pub many : T (disjunctive (p.alts i))
  pub conds_true : All (λ a. T (t a)) (p.conds i)
  pub alts_relevant : All (λ a. T (r a)) (p.alts i)
  pub alts_untrue : All (λ a. T (not (t a))) (p.alts i)

module _ {I : Type 0} (p : Ground I) where
  splits : (t r : ℕ → Bool) (i : I) → T (splittable p t r i) → Splits p t r i
  splits t r i h =
      let a = disjunctive (p.alts i) in
      let b = every t (p.conds i) in
      let c = every r (p.alts i) in
      let d = every (λ x. not (t x)) (p.alts i) in
      let abc : T (a && b && c) = T_left (a && b && c) d h in
      let ab : T (a && b) = T_left (a && b) c abc in
      record {
        many = T_left a b ab;
        conds_true = every-All t (p.conds i) (T_right a b ab);
        alts_relevant = every-All r (p.alts i) (T_right (a && b) c abc);
        alts_untrue = every-All (λ x. not (t x)) (p.alts i) (T_right (a && b && c) d h);
      }

  -- what holds of every instance that can be split holds of the first
  pub at_first {ℓ} : (t r : ℕ → Bool) (P : I → Type ℓ) → All (λ i. Splits p t r i → P i) p.instances → (i : I) → first (splittable p t r) p.instances ≡ some i → P i
  at_first t r P a =
      first-some
      (splittable p t r)
      P
      p.instances
      (all_map (λ j. Splits p t r j → P j) (λ j. T (splittable p t r j) → P j) (λ j f u. f (splits t r j u)) p.instances a)

  pub first-Splits : (t r : ℕ → Bool) (i : I) → first (splittable p t r) p.instances ≡ some i → Splits p t r i
  first-Splits t r = at_first t r (Splits p t r) (all_of (λ j. Splits p t r j → Splits p t r j) (λ j s. s) p.instances)

  untrue_fresh : (l : List ℕ) (a : ℕ) → T (not (is_true p l a)) → In nat_key l a → ⊥
  untrue_fresh l a t h = T_not (is_true p l a) t (has_all nat_key (In nat_key (true_set p l)) l (true_entered p l) a h)

  -- the alternatives of a split, under whatever marks, are atoms that are not entered
  pub alts-Fresh : Proper p → (l : List ℕ) (r : ℕ → Bool) (i : I) → first (splittable p (is_true p l) r) p.instances ≡ some i → All (Fresh p l) (branches (p.alts i))
  alts-Fresh proper l r i e =
      let t : ℕ → Bool = is_true p l in
      let below : All (λ a. a < p.atoms) (p.alts i) = at_first t r (λ j. All (λ a. a < p.atoms) (p.alts j)) (all_map (λ j. All (λ a. a < p.atoms) (p.conds j) × All (λ a. a < p.atoms) (p.alts j)) (λ j. Splits p t r j → All (λ a. a < p.atoms) (p.alts j)) (λ j h q. h.1) p.instances proper) i e in
      firsts-All nat_key (Fresh p l) (p.alts i)
      (all_zip (λ a. a < p.atoms) (λ a. T (not (is_true p l a))) (Fresh p l) (λ a b u. (b, untrue_fresh l a u)) (p.alts i) below (first-Splits t r i e).alts_untrue)

  -- every entered atom is relevant
  abbrev pub AllRelevant : List ℕ → Type 0
  AllRelevant l = All (In nat_key (relevant_set p (is_true p l))) l

  deeper : (l : List ℕ) (a x : ℕ) → In nat_key (relevant_set p (is_true p l)) x → In nat_key (relevant_set p (is_true p (a ∷ l))) x
  deeper l a = relevant_grows p (is_true p l) (is_true p (a ∷ l)) (true_grows p l (a ∷ l) (true_entered p (a ∷ l)).1)

  pub path_relevant : (bs : List (Branch I)) → Genuine (find_r p) bs → AllRelevant (entered bs)
  path_relevant = genuine_ind (find_r p) AllRelevant tt step
    where
      step : (l : List ℕ) (i : I) (ds : List ℕ) → AllRelevant l → find_r p l ≡ split i ds → All (λ a. AllRelevant (a ∷ l)) ds
      step l i ds s e =
          subst
          (All (λ a. AllRelevant (a ∷ l)))
          (sym (find_r-split p l i ds e).1)
          (firsts-All nat_key (λ a. AllRelevant (a ∷ l)) (p.alts i)
          (all_map
          (λ a. T (is_relevant p l a))
          (λ a. AllRelevant (a ∷ l))
          (λ a r. (deeper l a a r, all_map (In nat_key (relevant_set p (is_true p l))) (In nat_key (relevant_set p (is_true p (a ∷ l)))) (deeper l a) l s))
          (p.alts i)
          (first-Splits (is_true p l) (is_relevant p l) i (find_r-split p l i ds e).0).alts_relevant))
