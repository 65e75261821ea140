-- Models and the relevancy walk: a closed place bars every model, a split continues each, and an open place's bits are one. So the walk is sound.
use Prim.Native.Nat.{ℕ, ◌<◌}
use mathlib.Core.Bool.{Bool, true, false, not, cond, ◌&&◌, ◌||◌}
use mathlib.Core.HLevel.{⊥_prop}
use mathlib.Core.List.{List, [], ◌∷◌}
use mathlib.Core.Logic.{◌⊎◌, inl, inr, ∥∥₁_prop, ∥∥₁_map, ∥∥₁_map₂, ∥∥₁_elim}
use mathlib.Core.Option.{none, some}
use mathlib.Core.Path.{◌≡◌, refl, sym, ap, subst, ◌∙◌}
use native.Mathlib.Omega.{arith}
use lib.Dec.{T, T_not}
use lib.ListN.{length, get_or}
use Rattle.lists.specs.Key.{nat_key}
use Rattle.lists.specs.Member.{All, Any, every, first, In}
use Rattle.lists.proofs.Test.{decided, not-not}
use Rattle.lists.specs.Test.{and-T}
use Rattle.lists.proofs.Firsts.{firsts-Any}
use Rattle.lists.proofs.Member.{all_map, all_zip, any_zip, every-All, All-every, some_fails, first-none}
use Rattle.lists.proofs.Tabulate.{tabulate_at, tabulate-length}
use Rattle.search.specs.Ground.{Ground, Proper, Model, Marked, Found, closed, opened, split, goals, or_false, disjunctive}
use Rattle.search.specs.Relevancy.{true_set, relevant_set, is_true, is_relevant, asked, splittable, branches, model_bits, find_r}
use Rattle.search.specs.Machine.{Branch, entered, Genuine}
use Rattle.search.specs.Sound.{SoundFind}
use Rattle.search.proofs.Relevancy.{HornClosed, true_closed, true_ind, relevant_false, relevant_closed}
use Rattle.search.proofs.Found.{find_r-closed, find_r-opened, find_r-split}
use Rattle.search.proofs.Sound.{Fresh, path_small}
use Rattle.search.proofs.Walk.{Splits, at_first, first-Splits, alts-Fresh}

-- finitely many truncated facts are one
merely : (M : ℕ → Type 0) (cs : List ℕ) → All (λ a. ∥ M a ∥₁) cs → ∥ All M cs ∥₁
merely M [] a = ∣ tt ∣₁
merely M (c ∷ cs) a = ∥∥₁_map₂ a.0 (merely M cs a.1) (λ m ms. (m, ms))

module _ {I : Type 0} (p : Ground I) (proper : Proper p) (M : ℕ → Type 0) (model : Model p M) (l : List ℕ) (small : All (λ a. a < p.atoms) l) (held : All M l) where
  -- what is true is in every model that holds the entered atoms, and "false" is in none
  Kept : ℕ → Type 0
  Kept x = ∥ M x ∥₁ × (x ≡ p.atoms → ⊥)

  instance_kept : (cs ds : List ℕ) → All (λ a. a < p.atoms) ds → (All M cs → ∥ Any M ds ∥₁) → HornClosed Kept cs (or_false p.atoms ds)
  unfolding Kept
  instance_kept cs [] below m g e a =
      absurd (∥∥₁_elim (merely M cs (all_map Kept (λ x. ∥ M x ∥₁) (λ x h. h.0) cs a)) ⊥_prop (λ c. ∥∥₁_elim (m c) ⊥_prop (λ w. w)))
  instance_kept cs (d ∷ ds) below m g e a =
      let same : d ≡ g = cc in
      let single : ds ≡ [] = cc in
      let some_alt : ∥ Any M (d ∷ ds) ∥₁ = ∥∥₁_elim (merely M cs (all_map Kept (λ x. ∥ M x ∥₁) (λ x h. h.0) cs a)) ∥∥₁_prop m in
      let has_d : ∥ M d ∥₁ = ∥∥₁_map (subst (λ (xs : List ℕ). ∥ Any M (d ∷ xs) ∥₁) single some_alt) (λ w. elim w [ inl h ↦ h | inr h ↦ absurd h ]) in
      subst Kept same (has_d, λ q. let b : d < p.atoms = below.0 in omega arith)

  true_kept : (x : ℕ) → In nat_key (true_set p l) x → Kept x
  unfolding Kept
  true_kept =
      true_ind
      p
      l
      Kept
      (all_zip
      (λ i. All (λ a. a < p.atoms) (p.conds i) × All (λ a. a < p.atoms) (p.alts i))
      (λ i. All M (p.conds i) → ∥ Any M (p.alts i) ∥₁)
      (λ i. HornClosed Kept (p.conds i) (goals p i))
      (λ i b m. instance_kept (p.conds i) (p.alts i) b.1 m)
      p.instances
      proper
      model)
      (all_zip M (λ a. a < p.atoms) Kept (λ a m b. (∣ m ∣₁, λ q. let c : a < p.atoms = b in omega arith)) l held small)

  closed_bars : T (is_true p l p.atoms) → ⊥
  unfolding Kept
  closed_bars c = (true_kept p.atoms c).1 refl

  split_continues : (r : ℕ → Bool) (i : I) → first (splittable p (is_true p l) r) p.instances ≡ some i → ∥ Any M (branches (p.alts i)) ∥₁
  unfolding Kept
  split_continues r i e =
      let t : ℕ → Bool = is_true p l in
      let m : All M (p.conds i) → ∥ Any M (p.alts i) ∥₁ = at_first p t r (λ j. All M (p.conds j) → ∥ Any M (p.alts j) ∥₁) (all_map (λ j. All M (p.conds j) → ∥ Any M (p.alts j) ∥₁) (λ j. Splits p t r j → All M (p.conds j) → ∥ Any M (p.alts j) ∥₁) (λ j f q. f) p.instances model) i e in
      let cs : ∥ All M (p.conds i) ∥₁ = merely M (p.conds i) (all_map (λ a. T (t a)) (λ a. ∥ M a ∥₁) (λ a u. (true_kept a u).0) (p.conds i) (first-Splits p t r i e).conds_true) in
      ∥∥₁_elim (∥∥₁_elim cs ∥∥₁_prop m) ∥∥₁_prop (λ a. ∣ firsts-Any nat_key M (p.alts i) a ∣₁)

-- what is asked and relevant, and in the model given, is true; so all conditions are
chosen_true : (t r : ℕ → Bool) (cs : List ℕ) → All (λ a. T (t a || not (r a))) cs → All (λ a. T (r a)) (asked t cs) → All (λ a. T (t a)) cs
chosen_true t r [] c a = tt
chosen_true t r (x ∷ cs) c a = go (t x) (r x) (chosen_true t r cs c.1) c.0 a.0 a.1
  where
    go : (b d : Bool) → (All (λ y. T (r y)) (asked t cs) → All (λ y. T (t y)) cs) → T (b || not d) → T d → All (λ y. T (r y)) (cond b (asked t cs) []) → T b × All (λ y. T (t y)) cs
    go true d f u w q = (tt, f q)
    go false true f u w q = absurd u
    go false false f u w q = absurd w

-- what is not in the model given is relevant and not true
not_chosen : (b d : Bool) → T (not (b || not d)) → T d × T (not b)
not_chosen true d u = absurd u
not_chosen false true u = (tt, tt)
not_chosen false false u = absurd u

module _ {I : Type 0} (p : Ground I) (proper : Proper p) (l : List ℕ) where
  -- an instance of which no alternative is in the model given has no violated condition, if the node is open
  instance_met : (cs ds : List ℕ) → T (not (is_true p l p.atoms))
      → HornClosed (λ a. T (is_true p l a)) cs (or_false p.atoms ds)
      → (All (λ a. T (is_relevant p l a)) (or_false p.atoms ds) → All (λ a. T (is_relevant p l a)) (asked (is_true p l) cs))
      → T (not (disjunctive ds && every (is_true p l) cs && every (is_relevant p l) ds && every (λ a. not (is_true p l a)) ds))
      → All (λ a. T (is_true p l a || not (is_relevant p l a))) cs
      → All (λ a. T (not (is_true p l a || not (is_relevant p l a)))) ds → ⊥
  instance_met cs [] o h q s c n =
      T_not (is_true p l p.atoms) o (h p.atoms refl (chosen_true (is_true p l) (is_relevant p l) cs c (q (relevant_false p (is_true p l), tt))))
  instance_met cs (d ∷ []) o h q s c n =
      let nc = not_chosen (is_true p l d) (is_relevant p l d) n.0 in
      T_not (is_true p l d) nc.1 (h d refl (chosen_true (is_true p l) (is_relevant p l) cs c (q (nc.0, tt))))
  instance_met cs (d ∷ e ∷ ds) o h q s c n =
      let both = all_map (λ a. T (not (is_true p l a || not (is_relevant p l a)))) (λ a. T (is_relevant p l a) × T (not (is_true p l a))) (λ a u. not_chosen (is_true p l a) (is_relevant p l a) u) (d ∷ e ∷ ds) n in
      let rs : All (λ a. T (is_relevant p l a)) (d ∷ e ∷ ds) = all_map (λ a. T (is_relevant p l a) × T (not (is_true p l a))) (λ a. T (is_relevant p l a)) (λ a u. u.0) (d ∷ e ∷ ds) both in
      let us : All (λ a. T (not (is_true p l a))) (d ∷ e ∷ ds) = all_map (λ a. T (is_relevant p l a) × T (not (is_true p l a))) (λ a. T (not (is_true p l a))) (λ a u. u.1) (d ∷ e ∷ ds) both in
      let ts : All (λ a. T (is_true p l a)) cs = chosen_true (is_true p l) (is_relevant p l) cs c (q rs) in
      T_not
      (every (is_true p l) cs && every (is_relevant p l) (d ∷ e ∷ ds) && every (λ a. not (is_true p l a)) (d ∷ e ∷ ds))
      s
      (and-T
      (every (is_true p l) cs && every (is_relevant p l) (d ∷ e ∷ ds))
      (every (λ a. not (is_true p l a)) (d ∷ e ∷ ds))
      (and-T (every (is_true p l) cs) (every (is_relevant p l) (d ∷ e ∷ ds)) (All-every (is_true p l) cs ts) (All-every (is_relevant p l) (d ∷ e ∷ ds) rs))
      (All-every (λ a. not (is_true p l a)) (d ∷ e ∷ ds) us))

  chosen : ℕ → Bool
  chosen a = is_true p l a || not (is_relevant p l a)

  -- below A the bits are the model given
  bit_chosen : (bits : List Bool) → model_bits p.atoms (is_true p l) (is_relevant p l) ≡ bits → (a : ℕ) → a < p.atoms → get_or bits a false ≡ chosen a
  unfolding chosen
  bit_chosen bits e a h = ap (λ (b : List Bool). get_or b a false) (sym e) ∙ tabulate_at (λ x. is_true p l x || not (is_relevant p l x)) false p.atoms a h

  opened_model : (bits : List Bool) → find_r p l ≡ opened bits → Model p (Marked bits)
  unfolding chosen
  opened_model bits e =
      all_zip
      (λ i. Proper₁ i × Horn i)
      (λ i. Asked i × Unsplit i)
      (λ i. All (Marked bits) (p.conds i) → ∥ Any (Marked bits) (p.alts i) ∥₁)
      (λ i a b. met i a.0 a.1 b.0 b.1)
      p.instances
      (all_zip Proper₁ Horn (λ i. Proper₁ i × Horn i) (λ i a b. (a, b)) p.instances proper (true_closed p l))
      (all_zip Asked Unsplit (λ i. Asked i × Unsplit i) (λ i a b. (a, b)) p.instances (relevant_closed p (is_true p l)) (first-none (splittable p (is_true p l) (is_relevant p l)) p.instances o.1))
    where
      o : T (not (is_true p l p.atoms)) × (first (splittable p (is_true p l) (is_relevant p l)) p.instances ≡ none) × (model_bits p.atoms (is_true p l) (is_relevant p l) ≡ bits)
      o = find_r-opened p l bits e

      Proper₁ : I → Type 0
      Proper₁ i = All (λ a. a < p.atoms) (p.conds i) × All (λ a. a < p.atoms) (p.alts i)

      Horn : I → Type 0
      Horn i = HornClosed (In nat_key (true_set p l)) (p.conds i) (goals p i)

      Asked : I → Type 0
      Asked i = All (In nat_key (relevant_set p (is_true p l))) (goals p i) → All (In nat_key (relevant_set p (is_true p l))) (asked (is_true p l) (p.conds i))

      Unsplit : I → Type 0
      Unsplit i = T (not (splittable p (is_true p l) (is_relevant p l) i))

      unmarked : (a : ℕ) → a < p.atoms → T (not (not (chosen a))) → Marked bits a
      unmarked a h u = subst T (sym (bit_chosen bits o.2 a h)) (not-not (chosen a) u)

      met : (i : I) → Proper₁ i → Horn i → Asked i → Unsplit i → All (Marked bits) (p.conds i) → ∥ Any (Marked bits) (p.alts i) ∥₁
      met i b h q s c = go (decided (every (λ a. not (chosen a)) (p.alts i)))
        where
          cs : All (λ a. T (chosen a)) (p.conds i)
          cs = all_zip (Marked bits) (λ a. a < p.atoms) (λ a. T (chosen a)) (λ a m u. subst T (bit_chosen bits o.2 a u) m) (p.conds i) c b.0

          go : T (every (λ a. not (chosen a)) (p.alts i)) ⊎ T (not (every (λ a. not (chosen a)) (p.alts i))) → ∥ Any (Marked bits) (p.alts i) ∥₁
          go (inl n) = absurd (instance_met (p.conds i) (p.alts i) o.0 h q s cs (every-All (λ a. not (chosen a)) (p.alts i) n))
          go (inr n) =
              ∣ any_zip (λ a. T (not (not (chosen a)))) (λ a. a < p.atoms) (Marked bits) (λ a u m. unmarked a m u) (p.alts i) (some_fails (λ a. not (chosen a)) (p.alts i) n) b.1 ∣₁

-- a way of finding a node that differs from the relevancy walk in the marks under which it splits alone
pub record Alike {I : Type 0} (p : Ground I) (find : List ℕ → Found I) : Type 0 where
  pub closed_true : (l : List ℕ) → find l ≡ closed → T (is_true p l p.atoms)
  pub split_under : (l : List ℕ) (i : I) (ds : List ℕ) → find l ≡ split i ds
      → (r : ℕ → Bool) × (first (splittable p (is_true p l) r) p.instances ≡ some i) × (ds ≡ branches (p.alts i))
  pub opened_alike : (l : List ℕ) (bits : List Bool) → find l ≡ opened bits → find_r p l ≡ opened bits

pub alike_sound : {I : Type 0} (p : Ground I) (find : List ℕ → Found I) → Proper p → Alike p find → SoundFind p find
alike_sound {I} p find proper alike =
    record {
      closed_refutes = λ bs g e M m. closed_bars p proper M m.model (entered bs) (below bs g) m.holds (alike.closed_true (entered bs) e);
      split_covers = λ bs g i ds e M m.
          let s = alike.split_under (entered bs) i ds e in
          subst (λ (xs : List ℕ). ∥ Any M xs ∥₁) (sym s.2) (split_continues p proper M m.model (entered bs) (below bs g) m.holds s.0 i s.1);
      split_fresh = fresh;
      opened_model = λ bs g bits e.
          let o = alike.opened_alike (entered bs) bits e in
          (ap length (sym (find_r-opened p (entered bs) bits o).2) ∙ tabulate-length _ p.atoms, opened_model p proper (entered bs) bits o);
    }
  where
    fresh : (bs : List (Branch I)) → Genuine find bs → (i : I) (ds : List ℕ) → find (entered bs) ≡ split i ds → All (Fresh p (entered bs)) ds
    fresh bs g i ds e =
        let s = alike.split_under (entered bs) i ds e in
        subst (All (Fresh p (entered bs))) (sym s.2) (alts-Fresh p proper (entered bs) s.0 i s.1)

    below : (bs : List (Branch I)) → Genuine find bs → All (λ a. a < p.atoms) (entered bs)
    below bs g = (path_small p find fresh bs g).1

pub relevancy_sound : {I : Type 0} (p : Ground I) → Proper p → SoundFind p (find_r p)
relevancy_sound p proper =
    alike_sound p (find_r p) proper
    (record { closed_true = find_r-closed p; split_under = λ l i ds e. let f = find_r-split p l i ds e in (is_relevant p l, f.0, f.1); opened_alike = λ l bits e. e })
