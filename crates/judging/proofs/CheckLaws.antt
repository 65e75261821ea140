-- Laws of the model check: what it says.
use Prim.Native.Nat.{ℕ}
use mathlib.Core.Bool.{Bool, not}
use mathlib.Core.HLevel.{⊥_prop}
use mathlib.Core.List.{List, ◌∷◌, []}
use mathlib.Core.Logic.{◌⊎◌, inl, inr, ∥∥₁_elim}
use mathlib.Core.Option.{Option, none, some}
use mathlib.Core.Path.{◌≡◌, refl, sym, ap, ◌∙◌}
use native.Mathlib.Omega.{arith}
use borrow.Author.Tests.{eq-eqb}
use lib.Dec.{T, T_not, eqb, eqb→eq}
use lib.ListN.{length, get_or, length-map}
use Rattle.lists.specs.Member.{All, Any, every, first, lead}
use Rattle.lists.proofs.Member.{all_map, every-All, All-every, some_fails, first-none, none_first, first_of_lem, lead-All, All-lead}
use Rattle.lists.proofs.Test.{decided, fails, not-not}
use Rattle.lists.specs.Test.{and-T, T_left, T_right}
use Rattle.search.specs.Ground.{Model}
use Rattle.problem.specs.Problem.{Problem}
use Rattle.judging.specs.declared.judge.Judgement.TheVariants.{Model as IsModel, Violated}
use Rattle.ground.specs.Instance.{Instance, number, clause_of, ground_atoms, ground_of}
use Rattle.lists.specs.Bytes.{is_set}
use Rattle.judging.specs.ModelCheck.{violates, named, check_of}
use Rattle.judging.specs.Claims.{FirstViolated}

-- ---- tests

module _ {A : Type 0} where
  any_map : (P Q : A → Type 0) → ((x : A) → P x → Q x) → (xs : List A) → Any P xs → Any Q xs
  any_map P Q f [] x' = elim x' [ ]
  any_map P Q f (x ∷ xs) (inl p) = inl (f x p)
  any_map P Q f (x ∷ xs) (inr p) = inr (any_map P Q f xs p)

  -- no member passes a test that every member fails
  apart : (p : A → Bool) (xs : List A) → Any (λ x. T (p x)) xs → All (λ x. T (not (p x))) xs → ⊥
  apart p [] x'' a = elim x'' [ ]
  apart p (x ∷ xs) (inl t) a = T_not (p x) a.0 t
  apart p (x ∷ xs) (inr t) a = apart p xs t a.1

-- ---- what violated means

module _ (q : Problem) (answer : List ℕ) (i : Instance) where
  abbrev conds : List ℕ
  conds = ground_atoms q i.values (clause_of q i.clause).conds

  abbrev alts : List ℕ
  alts = ground_atoms q i.values (clause_of q i.clause).alts

  sizes : length conds ≡ length (clause_of q i.clause).conds
  sizes = length-map (clause_of q i.clause).conds (number q.constants q.arities i.values)

  abbrev holding : Bool
  holding = eqb (lead (is_set answer) conds) (length (clause_of q i.clause).conds)

  abbrev none_holding : Bool
  none_holding = every (λ a. not (is_set answer a)) alts

  pub violated_from : T (violates q answer i) → All (λ a. T (is_set answer a)) ((ground_of q).conds i) × All (λ a. T (not (is_set answer a))) ((ground_of q).alts i)
  unfolding ground_of
  violated_from t = (
    lead-All (is_set answer) conds (eqb→eq (lead (is_set answer) conds) (length (clause_of q i.clause).conds) (T_left holding none_holding t) ∙ sym sizes),
    every-All (λ a. not (is_set answer a)) alts (T_right holding none_holding t),
  )

  pub violated_to : All (λ a. T (is_set answer a)) ((ground_of q).conds i) × All (λ a. T (not (is_set answer a))) ((ground_of q).alts i) → T (violates q answer i)
  unfolding ground_of
  violated_to p =
      let n = length (clause_of q i.clause).conds in
      and-T holding none_holding
      (rw (eq-eqb (lead (is_set answer) conds) n (All-lead (is_set answer) conds p.0 ∙ sizes)) tt)
      (All-every (λ a. not (is_set answer a)) alts p.1)

  -- an instance is not violated exactly if it has an alternative in the set where all its conditions are
  abbrev Kept : Type 0
  Kept = All (λ a. T (is_set answer a)) ((ground_of q).conds i) → ∥ Any (λ a. T (is_set answer a)) ((ground_of q).alts i) ∥₁

  pub kept_from : T (not (violates q answer i)) → Kept
  kept_from t c = go (decided (every (λ a. not (is_set answer a)) ((ground_of q).alts i)))
    where
      go : T (every (λ a. not (is_set answer a)) ((ground_of q).alts i)) ⊎ T (not (every (λ a. not (is_set answer a)) ((ground_of q).alts i)))
          → ∥ Any (λ a. T (is_set answer a)) ((ground_of q).alts i) ∥₁
      go (inl n) = absurd (T_not (violates q answer i) t (violated_to (c, every-All (λ a. not (is_set answer a)) ((ground_of q).alts i) n)))
      go (inr n) =
          let some_alt = some_fails (λ a. not (is_set answer a)) ((ground_of q).alts i) n in
          ∣ any_map (λ a. T (not (not (is_set answer a)))) (λ a. T (is_set answer a)) (λ a. not-not (is_set answer a)) ((ground_of q).alts i) some_alt ∣₁

  pub kept_to : Kept → T (not (violates q answer i))
  kept_to k =
      fails (violates q answer i)
      (λ t.
      let p = violated_from t in
      ∥∥₁_elim (k p.0) ⊥_prop (λ s. apart (λ a. is_set answer a) ((ground_of q).alts i) s p.1))

-- ---- the answer named

pub named_model : (o : Option Instance) → named o ≡ IsModel → o ≡ none
named_model none e = refl
named_model (some i) e = absurd (let z : ◌≡◌ {A = ℕ} 0 1 = cc in omega arith)

-- the instance that is named by clause and values
pub record Named (o : Option Instance) (k a b c d : ℕ) : Type 0 where
  pub found : Instance
  pub some_found : o ≡ some found
  pub clause : found.clause ≡ k
  pub value_80 : get_or found.values 0 0 ≡ a
  pub value_81 : get_or found.values 1 0 ≡ b
  pub value_82 : get_or found.values 2 0 ≡ c
  pub value_83 : get_or found.values 3 0 ≡ d

pub named-Violated : (o : Option Instance) (k a b c d : ℕ) → named o ≡ Violated k a b c d → Named o k a b c d
named-Violated none k a b c d e = absurd (let z : ◌≡◌ {A = ℕ} 0 1 = cc in omega arith)
named-Violated (some i) k a b c d e = record { found = i; some_found = refl; clause = cc; value_80 = cc; value_81 = cc; value_82 = cc; value_83 = cc }

module _ (q : Problem) (answer : List ℕ) where
  pub checked_model : check_of q answer ≡ IsModel → Model (ground_of q) (λ a. T (is_set answer a))
  unfolding check_of
  checked_model e =
      let is = (ground_of q).instances in
      all_map (λ i. T (not (violates q answer i))) (Kept q answer) (kept_from q answer) is
      (first-none (violates q answer) is (named_model (first (violates q answer) is) e))

  pub model_checked : Model (ground_of q) (λ a. T (is_set answer a)) → check_of q answer ≡ IsModel
  unfolding check_of
  model_checked m =
      let is = (ground_of q).instances in
      ap named (none_first (violates q answer) is (all_map (Kept q answer) (λ i. T (not (violates q answer i))) (kept_to q answer) is m))

  pub violated_first : (k a b c d : ℕ) → check_of q answer ≡ Violated k a b c d → FirstViolated q answer k a b c d
  unfolding check_of
  violated_first k a b c d e =
      let is = (ground_of q).instances in
      let n = named-Violated (first (violates q answer) is) k a b c d e in
      let s = first_of_lem (violates q answer) (λ i. T (violates q answer i)) (λ i t. t) (λ i t. t) is n.found n.some_found in
      record {
        before = s.before;
        found = n.found;
        after = s.after;
        order = s.order;
        none_before = all_map (λ i. T (violates q answer i) → ⊥) (λ i. T (not (violates q answer i))) (λ i. fails (violates q answer i)) s.before s.none_before;
        here = s.here;
        clause = n.clause;
        value_80 = n.value_80;
        value_81 = n.value_81;
        value_82 = n.value_82;
        value_83 = n.value_83;
      }
