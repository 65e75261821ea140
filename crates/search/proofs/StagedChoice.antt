-- How the walk that marks in stages chooses at a node: where its marking ends, and what it finds there.
use Prim.Native.Nat.{ℕ, zero, suc, ◌≤◌, ◌<◌}
use mathlib.Core.Bool.{Bool, true, false, not}
use mathlib.Core.List.{List, ◌∷◌}
use mathlib.Core.Logic.{◌⊎◌, inl, inr}
use mathlib.Core.Option.{Option, none, some}
use mathlib.Core.Path.{◌≡◌, refl, sym, ap, subst, fun_ext, ◌∙◌}
use native.Mathlib.Omega.{arith}
use lib.Dec.{T, T_not}
use lib.ListN.{length}
use Rattle.lists.specs.Key.{nat_key}
use Rattle.lists.specs.Member.{All, every, first, has}
use Rattle.lists.proofs.Test.{lt_or_le, same_test, T-false}
use Rattle.lists.proofs.Member.{all_map, All-every, every-All, append_right}
use Rattle.search.specs.Ground.{Ground, Found, closed, opened, split}
use Rattle.search.specs.Relevancy.{is_true, is_relevant, splittable, branches, model_bits, found_as, with_alts, find_r}
use Rattle.search.specs.Choice.{CanSplit, FirstSplit}
use Rattle.search.specs.Staged.{step_marks, next_stage, stage_of, first_split, mark_from, marking, find_s}
use Rattle.search.specs.StagedClaims.{Over, marked_at, Unsplit, StageSplit, MarkingIs, StagedChoice}
use Rattle.search.proofs.Found.{found_as-closed, found_as_closes, found_as-opened, found_as-split, with_alts-none, with_alts-some, find_r-opened}
use Rattle.search.proofs.Choice.{first_can, none_can}
use Rattle.search.proofs.Staged.{left, left_length, left_still, still_over, stage_relevant, marking_ends}

module _ {I : Type 0} (p : Ground I) (t : ℕ → Bool) where
  -- marking ended, with the marks s, at the first stage with an instance that can be split
  pub record SplitStage (i : I) (s : List ℕ) : Type 0 where
    pub stage : ℕ
    pub marks_are : s ≡ stage_of p t stage
    pub there : first_split p t (stage_of p t stage) ≡ some i
    pub before : (k : ℕ) → k < stage → first_split p t (stage_of p t k) ≡ none

  -- marking is over, and no instance can be split
  pub record OverStage (s : List ℕ) : Type 0 where
    pub stage : ℕ
    pub marks_are : s ≡ stage_of p t stage
    pub over : Over p t stage
    pub unsplit : first_split p t (stage_of p t stage) ≡ none
    pub before : (k : ℕ) → k < stage → first_split p t (stage_of p t k) ≡ none

  Ended : Option I → List ℕ → Type 0
  Ended (some i) s = SplitStage i s
  Ended none s = OverStage s

  -- marking from stage k on ends so, if no stage before it could be split and the fuel is enough
  ended : (n k : ℕ) → left p t (stage_of p t k) ≤ n → ((j : ℕ) → j < k → first_split p t (stage_of p t j) ≡ none)
      → Ended (mark_from p t n (stage_of p t k)).0 (mark_from p t n (stage_of p t k)).1
  unfolding mark_from stage_of Ended
  ended zero k h b = go (first_split p t (stage_of p t k)) refl
    where
      go : (o : Option I) → first_split p t (stage_of p t k) ≡ o → Ended o (stage_of p t k)
      go (some i) e = record { stage = k; marks_are = refl; there = e; before = b }
      go none e = record { stage = k; marks_are = refl; over = still_over p t k (left_still p t (stage_of p t k) (omega arith)); unsplit = e; before = b }
  ended (suc n) k h b = go (first_split p t (stage_of p t k)) refl (ended n (suc k))
    where
      Later : Type 0
      Later = left p t (stage_of p t (suc k)) ≤ n → ((j : ℕ) → j < suc k → first_split p t (stage_of p t j) ≡ none)
          → Ended (mark_from p t n (stage_of p t (suc k))).0 (mark_from p t n (stage_of p t (suc k))).1

      result : Option I → Bool → Option I × List ℕ
      result o d =
          elim o [
            | some i ↦ (some i, stage_of p t k)
            | none ↦ elim d [ true ↦ (none, stage_of p t k) | false ↦ mark_from p t n (next_stage p t (stage_of p t k)) ]
          ]

      none_yet : first_split p t (stage_of p t k) ≡ none → (j : ℕ) → j < suc k → first_split p t (stage_of p t j) ≡ none
      none_yet e j l = pick (lt_or_le j k)
        where
          pick : (j < k) ⊎ (k ≤ j) → first_split p t (stage_of p t j) ≡ none
          pick (inl m) = b j m
          pick (inr m) = let same : k ≡ j = omega arith in subst (λ (x : ℕ). first_split p t (stage_of p t x) ≡ none) same e

      stepped : first_split p t (stage_of p t k) ≡ none → Later → (d : Bool) → every (has nat_key (stage_of p t k)) (step_marks p t (stage_of p t k)) ≡ d
          → Ended (result none d).0 (result none d).1
      stepped e later true q = record { stage = k; marks_are = refl; over = still_over p t k (every-All (has nat_key (stage_of p t k)) (step_marks p t (stage_of p t k)) (subst T (sym q) tt)); unsplit = e; before = b }
      stepped e later false q = later (less (lt_or_le (left p t (stage_of p t (suc k))) (left p t (stage_of p t k)))) (none_yet e)
        where
          less : (left p t (stage_of p t (suc k)) < left p t (stage_of p t k)) ⊎ (left p t (stage_of p t k) ≤ left p t (stage_of p t (suc k))) → left p t (stage_of p t (suc k)) ≤ n
          less (inl m) = omega arith
          less (inr m) = absurd (subst T q (All-every (has nat_key (stage_of p t k)) (step_marks p t (stage_of p t k)) (left_still p t (stage_of p t k) m)))

      go : (o : Option I) → first_split p t (stage_of p t k) ≡ o → Later
          → Ended (result o (every (has nat_key (stage_of p t k)) (step_marks p t (stage_of p t k)))).0 (result o (every (has nat_key (stage_of p t k)) (step_marks p t (stage_of p t k)))).1
      go (some i) e later = record { stage = k; marks_are = refl; there = e; before = b }
      go none e later = stepped e later (every (has nat_key (stage_of p t k)) (step_marks p t (stage_of p t k))) refl

  marking-Ended : Ended (marking p t).0 (marking p t).1
  marking-Ended = ended (length p.instances) 0 (left_length p t (stage_of p t 0)) (λ j l. absurd (omega arith))

  marking_split : (i : I) → (marking p t).0 ≡ some i → SplitStage i (marking p t).1
  unfolding Ended
  marking_split i e = subst (λ (o : Option I). Ended o (marking p t).1) e marking-Ended

  marking_over : (marking p t).0 ≡ none → OverStage (marking p t).1
  unfolding Ended
  marking_over e = subst (λ (o : Option I). Ended o (marking p t).1) e marking-Ended

-- what can be split under some marks can be split under more
can_more : {I : Type 0} (p : Ground I) (t r q : ℕ → Bool) → ((a : ℕ) → T (r a) → T (q a)) → (i : I) → CanSplit p t r i → CanSplit p t q i
can_more p t r q f i s =
    record {
      disjunctive = s.disjunctive;
      conditions_true = s.conditions_true;
      alternatives_relevant = all_map (λ a. T (r a)) (λ a. T (q a)) f (p.alts i) s.alternatives_relevant;
      none_true = s.none_true;
    }

pub none_less : {I : Type 0} (p : Ground I) (t r q : ℕ → Bool) → ((a : ℕ) → T (r a) → T (q a)) → All (λ i. CanSplit p t q i → ⊥) p.instances → All (λ i. CanSplit p t r i → ⊥) p.instances
none_less p t r q f = all_map (λ i. CanSplit p t q i → ⊥) (λ i. CanSplit p t r i → ⊥) (λ i g s. g (can_more p t r q f i s)) p.instances

-- the first that can be split is none that cannot
pub first_barred : {I : Type 0} (p : Ground I) (t r : ℕ → Bool) (i : I) → FirstSplit p t r i → All (λ j. CanSplit p t r j → ⊥) p.instances → ⊥
first_barred p t r i f a = (append_right (λ j. CanSplit p t r j → ⊥) f.before (i ∷ f.after) (subst (All (λ j. CanSplit p t r j → ⊥)) f.order a)).0 f.here

module _ {I : Type 0} (p : Ground I) (l : List ℕ) where
  pub find_s-closed : find_s p l ≡ closed → T (is_true p l p.atoms)
  unfolding find_s
  find_s-closed e = found_as-closed (is_true p l p.atoms) _ _ e

  find_s_closes : T (is_true p l p.atoms) → find_s p l ≡ closed
  unfolding find_s
  find_s_closes t = found_as_closes (is_true p l p.atoms) _ _ t

  pub find_s-split : (i : I) (ds : List ℕ) → find_s p l ≡ split i ds → SplitStage p (is_true p l) i (marking p (is_true p l)).1 × (ds ≡ branches (p.alts i))
  unfolding find_s
  find_s-split i ds e =
      let f = (found_as-split (is_true p l p.atoms) _ _ i ds e).1 in
      let w = with_alts-some p (marking p (is_true p l)).0 f.0 f.1 in
      (marking_split p (is_true p l) i (w.0 ∙ ap some f.2), sym f.3 ∙ ap branches (sym w.1 ∙ ap p.alts f.2))

  -- an open node: marking is over, nothing can be split, and the bits
  pub record OpenStage (bits : List Bool) : Type 0 where
    pub stage : ℕ
    pub not_closed : T (not (is_true p l p.atoms))
    pub over : Over p (is_true p l) stage
    pub unsplit : first_split p (is_true p l) (stage_of p (is_true p l) stage) ≡ none
    pub bits_are : bits ≡ model_bits p.atoms (is_true p l) (marked_at p l stage)

  pub find_s-opened : (bits : List Bool) → find_s p l ≡ opened bits → OpenStage bits
  unfolding find_s
  find_s-opened bits e =
      let f = found_as-opened (is_true p l p.atoms) _ _ bits e in
      let s = marking_over p (is_true p l) (with_alts-none p (marking p (is_true p l)).0 f.1) in
      record {
        stage = s.stage;
        not_closed = f.0;
        over = s.over;
        unsplit = s.unsplit;
        bits_are = sym f.2 ∙ ap (λ (m : List ℕ). model_bits p.atoms (is_true p l) (has nat_key m)) s.marks_are;
      }

  -- at an open node no stage can be split: each is inside the last
  pub never_split : (bits : List Bool) → find_s p l ≡ opened bits → (k : ℕ) → Unsplit p l k
  never_split bits e k =
      let f = find_s-opened bits e in
      none_less p (is_true p l) (marked_at p l k) (marked_at p l f.stage) (f.over k) (none_can p (is_true p l) (marked_at p l f.stage) f.unsplit)

  stage_split : (i : I) (m : List ℕ) → SplitStage p (is_true p l) i m → StageSplit p l i
  stage_split i m s =
      record {
        stage = s.stage;
        first_there = first_can p (is_true p l) (marked_at p l s.stage) i s.there;
        none_before = λ k h. none_can p (is_true p l) (marked_at p l k) (s.before k h);
      }

  -- the marks of a finished marking, as a test
  pub over_same : (k : ℕ) → Over p (is_true p l) k → marked_at p l k ≡ is_relevant p l
  over_same k o =
      fun_ext (λ a.
      let same = (marking_ends p (is_true p l)).over_relevant k o a in
      same_test (marked_at p l k a) (is_relevant p l a) same.0 same.1)

  pub opened_to : (bits : List Bool) → find_s p l ≡ opened bits → find_r p l ≡ opened bits
  unfolding find_r
  opened_to bits e =
      let f = find_s-opened bits e in
      let t : ℕ → Bool = is_true p l in
      let found : (ℕ → Bool) → Found I = λ r. found_as (t p.atoms) (with_alts p (first (splittable p t r) p.instances)) (model_bits p.atoms t r) in
      subst (λ (r : ℕ → Bool). found r ≡ opened bits) (over_same f.stage f.over)
      (rw (T-false (t p.atoms) f.not_closed, f.unsplit) (ap opened (sym f.bits_are)))

  opened_from : (bits : List Bool) → find_r p l ≡ opened bits → find_s p l ≡ opened bits
  opened_from bits e = go (find_s p l) refl
    where
      o : T (not (is_true p l p.atoms)) × (first (splittable p (is_true p l) (is_relevant p l)) p.instances ≡ none) × (model_bits p.atoms (is_true p l) (is_relevant p l) ≡ bits)
      o = find_r-opened p l bits e

      unsplit : (k : ℕ) → Unsplit p l k
      unsplit k = none_less p (is_true p l) (marked_at p l k) (is_relevant p l) (stage_relevant p (is_true p l) k) (none_can p (is_true p l) (is_relevant p l) o.1)

      go : (f : Found I) → find_s p l ≡ f → find_s p l ≡ opened bits
      go closed q = absurd (T_not (is_true p l p.atoms) o.0 (find_s-closed q))
      go (opened b) q = let same : opened b ≡ opened bits = sym (opened_to b q) ∙ e in q ∙ same
      go (split i ds) q =
          let s = stage_split i (marking p (is_true p l)).1 (find_s-split i ds q).0 in
          absurd (first_barred p (is_true p l) (marked_at p l s.stage) i s.first_there (unsplit s.stage))

  pub marking_is : MarkingIs p l
  unfolding Ended
  marking_is = go (marking p (is_true p l)).0 (marking-Ended p (is_true p l))
    where
      unsplit : (k : ℕ) → first_split p (is_true p l) (stage_of p (is_true p l) k) ≡ none → Unsplit p l k
      unsplit k = none_can p (is_true p l) (marked_at p l k)

      go : (o : Option I) → Ended p (is_true p l) o (marking p (is_true p l)).1 → MarkingIs p l
      go (some i) s =
          record {
            stage = s.stage;
            marks_are = s.marks_are;
            none_before = λ k h. unsplit k (s.before k h);
            ends = inl (i, first_can p (is_true p l) (marked_at p l s.stage) i s.there);
          }
      go none s =
          record {
            stage = s.stage;
            marks_are = s.marks_are;
            none_before = λ k h. unsplit k (s.before k h);
            ends = inr (s.over, unsplit s.stage s.unsplit);
          }

  pub staged_chooses : StagedChoice p l
  staged_chooses =
      record {
        closed_exactly = (find_s-closed, find_s_closes);
        split_first = λ i ds e. let f = find_s-split i ds e in (stage_split i (marking p (is_true p l)).1 f.0, f.1);
        opened_unsplit = λ bits e.
            let f = find_s-opened bits e in
            (never_split bits e, record { stage = f.stage; over = f.over; bits_are = f.bits_are });
        opened_alike = λ bits. (opened_to bits, opened_from bits);
      }
