-- How each walk chooses at a node, by the tests that it makes.
use Prim.Native.Nat.{ℕ, ◌≤◌}
use mathlib.Core.Bool.{Bool, not, ◌&&◌}
use mathlib.Core.List.{List}
use mathlib.Core.Option.{none, some}
use mathlib.Core.Path.{◌≡◌, sym, subst}
use lib.Dec.{T, T_not}
use lib.ListN.{length}
use Rattle.lists.specs.Key.{Key}
use Rattle.lists.specs.Member.{All, every, first}
use Rattle.lists.specs.Test.{and-T, T_left, T_right}
use Rattle.lists.proofs.Test.{fails}
use Rattle.lists.proofs.Member.{all_map, every-All, All-every, first-none, first_of_lem}
use Rattle.search.specs.Ground.{Ground, disjunctive}
use Rattle.search.specs.Relevancy.{is_true, is_relevant, splittable}
use Rattle.search.specs.Magic.{Magic, tru, MagicRule, heads_of, holds, ready}
use Rattle.search.specs.Choice.{CanSplit, FirstSplit, RuleCanSplit, RelevancyChoice, MagicChoice}
use Rattle.search.proofs.Found.{find_r-closed, find_r_closes, find_r-opened, find_r-split, find_m-closed, find_m_closes, find_m-opened, find_m-split}
use Rattle.search.proofs.Ground.{disjunctive_two, disjunctive_many}

-- none passes a test
none_passes : (t : ℕ → Bool) (ds : List ℕ) → T (every (λ a. not (t a)) ds) → All (λ a. T (t a) → ⊥) ds
none_passes t ds u = all_map (λ a. T (not (t a))) (λ a. T (t a) → ⊥) (λ a. T_not (t a)) ds (every-All (λ a. not (t a)) ds u)

passes_none : (t : ℕ → Bool) (ds : List ℕ) → All (λ a. T (t a) → ⊥) ds → T (every (λ a. not (t a)) ds)
passes_none t ds u = All-every (λ a. not (t a)) ds (all_map (λ a. T (t a) → ⊥) (λ a. T (not (t a))) (λ a. fails (t a)) ds u)

many_disjunctive : (ds : List ℕ) → 2 ≤ length ds → T (disjunctive ds)
many_disjunctive ds h = subst T (sym (disjunctive_two ds h)) tt

module _ {I : Type 0} (p : Ground I) (t r : ℕ → Bool) where
  pub can_split : (i : I) → T (splittable p t r i) → CanSplit p t r i
  can_split i u =
      let a = disjunctive (p.alts i) in
      let b = every t (p.conds i) in
      let c = every r (p.alts i) in
      let d = every (λ x. not (t x)) (p.alts i) in
      let abc = T_left (a && b && c) d u in
      let ab = T_left (a && b) c abc in
      record {
        disjunctive = disjunctive_many (p.alts i) (T_left a b ab);
        conditions_true = every-All t (p.conds i) (T_right a b ab);
        alternatives_relevant = every-All r (p.alts i) (T_right (a && b) c abc);
        none_true = none_passes t (p.alts i) (T_right (a && b && c) d u);
      }

  pub split_can : (i : I) → CanSplit p t r i → T (splittable p t r i)
  split_can i s =
      let a = disjunctive (p.alts i) in
      let b = every t (p.conds i) in
      let c = every r (p.alts i) in
      and-T (a && b && c) (every (λ x. not (t x)) (p.alts i))
      (and-T (a && b) c
      (and-T a b (many_disjunctive (p.alts i) s.disjunctive) (All-every t (p.conds i) s.conditions_true))
      (All-every r (p.alts i) s.alternatives_relevant))
      (passes_none t (p.alts i) s.none_true)

  -- where the first instance that passes the test stands, and that none does
  pub first_can : (i : I) → first (splittable p t r) p.instances ≡ some i → FirstSplit p t r i
  first_can i = first_of_lem (splittable p t r) (CanSplit p t r) can_split split_can p.instances i

  pub none_can : first (splittable p t r) p.instances ≡ none → All (λ i. CanSplit p t r i → ⊥) p.instances
  none_can e =
      all_map (λ i. T (not (splittable p t r i))) (λ i. CanSplit p t r i → ⊥) (λ i u s. T_not (splittable p t r i) u (split_can i s)) p.instances
      (first-none (splittable p t r) p.instances e)

module _ {I : Type 0} (k : Key I) (h : Magic I → Bool) where
  rule_can_split : (r : MagicRule I) → T (ready k h r) → RuleCanSplit h r
  rule_can_split r u =
      let gs = heads_of r.gives in
      let a = disjunctive gs in
      let b = every h r.asks in
      let c = every (λ x. not (h (tru x))) gs in
      let ab = T_left (a && b) c u in
      record {
        disjunctive = disjunctive_many gs (T_left a b ab);
        asks_held = every-All h r.asks (T_right a b ab);
        none_held_true = none_passes (λ x. h (tru x)) gs (T_right (a && b) c u);
      }

  rule_split_can : (r : MagicRule I) → RuleCanSplit h r → T (ready k h r)
  rule_split_can r s =
      let gs = heads_of r.gives in
      let a = disjunctive gs in
      let b = every h r.asks in
      and-T (a && b) (every (λ x. not (h (tru x))) gs)
      (and-T a b (many_disjunctive gs s.disjunctive) (All-every h r.asks s.asks_held))
      (passes_none (λ x. h (tru x)) gs s.none_held_true)

pub relevancy_chooses : {I : Type 0} (p : Ground I) (l : List ℕ) → RelevancyChoice p l
relevancy_chooses p l =
    let t : ℕ → Bool = is_true p l in
    let r : ℕ → Bool = is_relevant p l in
    record {
      closed_exactly = (find_r-closed p l, find_r_closes p l);
      split_first = λ i ds e.
          let f = find_r-split p l i ds e in
          (first_can p t r i f.0, f.1);
      opened_unsplit = λ bits e. none_can p t r (find_r-opened p l bits e).1;
    }

pub magic_chooses : {I : Type 0} (k : Key I) (n : ℕ) (rs : List (MagicRule I)) (l : List ℕ) → MagicChoice k n rs l
magic_chooses {I} k n rs l =
    let h : Magic I → Bool = holds k n rs l in
    record {
      closed_exactly = (find_m-closed k n rs l, find_m_closes k n rs l);
      split_first = λ i ds e.
          let f = find_m-split k n rs l i ds e in
          (f.0, first_of_lem (ready k h) (RuleCanSplit h) (rule_can_split k h) (rule_split_can k h) rs f.0 f.1, f.2, f.3);
      opened_unsplit = λ bits e.
          all_map
          (λ r. T (not (ready k h r)))
          (λ r. RuleCanSplit h r → ⊥)
          (λ r u s. T_not (ready k h r) u (rule_split_can k h r s))
          rs
          (first-none (ready k h) rs (find_m-opened k n rs l bits e));
    }
