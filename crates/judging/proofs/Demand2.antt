-- Demand 2 of any engine that finds its nodes soundly: what a walk's verdict says of its outcome, of the walk without a limit, and of models.
use Prim.Native.Nat.{ℕ, ◌≤◌, ◌<◌}
use mathlib.Core.Bool.{Bool, true, false}
use mathlib.Core.List.{List, [], ◌++◌, map}
use mathlib.Core.Logic.{◌↔◌, ◌⊎◌, inl, inr}
use mathlib.Core.Option.{Option, none, some}
use mathlib.Core.Path.{◌≡◌, refl, sym, ap, subst, ◌∙◌}
use native.Mathlib.Omega.{arith}
use lib.Dec.{T, ltb}
use lib.ListN.{length, take, drop, get_or}
use borrow.Author.Tests.{lt-ltb, le-ltb}
use Rattle.lists.specs.Bytes.{bit, is_set}
use Rattle.lists.specs.Member.{every}
use Rattle.lists.proofs.Test.{T-true, lt_or_le}
use Rattle.search.specs.Ground.{Ground, Proper, Model, Marked, Found, closed, opened, split}
use Rattle.search.specs.Machine.{Branch, Place, Outcome, Satisfied, Refuted, Exhausted, stopped, answer_at, next_path, answer, last, root, outcome, FullWalk}
use Rattle.search.specs.Sound.{SoundFind}
use Rattle.search.specs.Claims.{SoundWalk}
use Rattle.search.proofs.Ground.{model_same}
use Rattle.search.proofs.Theorems.{theorems as walks}
use Rattle.problem.specs.Problem.{Problem, atom_count}
use Rattle.problem.specs.Layout.{problem_in}
use Rattle.problem.specs.Table.{Valid, Lawful, is_valid}
use Rattle.problem.proofs.Theorems.{theorems as tables}
use Rattle.ground.specs.declared.verdict.Verdict.TheVariants.{Satisfied as IsSatisfied, Refuted as IsRefuted, Exhausted as IsExhausted}
use Rattle.ground.specs.Instance.{Instance}
use Rattle.ground.specs.Verdict.{verdict_of, answer_of}
use Rattle.ground.proofs.AnswerLaws.{given_set, given_length, given_marks}
use Rattle.ground.proofs.Instances.{atoms_are, atoms_few, ground_proper}
use Rattle.std.specs.Prelude.{Ok}
use Rattle.judging.specs.declared.judge.Judgement.TheVariants.{Model as IsModel}
use Rattle.judging.specs.ModelCheck.{judge_result}
use Rattle.judging.specs.Demand2.{ground_lent, Demand2}
use Rattle.judging.proofs.CheckLaws.{model_checked}

-- ---- a verdict and its outcome

abbrev count_of : Outcome → ℕ
count_of (Satisfied n bits) = n
count_of (Refuted n) = n
count_of (Exhausted n) = n

abbrev bits_of : Outcome → List Bool
bits_of (Satisfied n bits) = bits
bits_of (Refuted n) = []
bits_of (Exhausted n) = []

was_satisfied : (o : Outcome) (n : ℕ) → verdict_of o ≡ IsSatisfied n → o ≡ Satisfied n (bits_of o)
was_satisfied (Satisfied m bits) n e = let same : m ≡ n = cc in ap (λ (c : ℕ). Satisfied c bits) same
was_satisfied (Refuted m) n e = absurd (let z : ◌≡◌ {A = ℕ} 0 1 = cc in omega arith)
was_satisfied (Exhausted m) n e = absurd (let z : ◌≡◌ {A = ℕ} 0 1 = cc in omega arith)

was_refuted : (o : Outcome) (n : ℕ) → verdict_of o ≡ IsRefuted n → o ≡ Refuted n
was_refuted (Satisfied m bits) n e = absurd (let z : ◌≡◌ {A = ℕ} 0 1 = cc in omega arith)
was_refuted (Refuted m) n e = let same : m ≡ n = cc in ap Refuted same
was_refuted (Exhausted m) n e = absurd (let z : ◌≡◌ {A = ℕ} 0 1 = cc in omega arith)

was_exhausted : (o : Outcome) (n : ℕ) → verdict_of o ≡ IsExhausted n → o ≡ Exhausted n
was_exhausted (Satisfied m bits) n e = absurd (let z : ◌≡◌ {A = ℕ} 0 1 = cc in omega arith)
was_exhausted (Refuted m) n e = absurd (let z : ◌≡◌ {A = ℕ} 0 1 = cc in omega arith)
was_exhausted (Exhausted m) n e = let same : m ≡ n = cc in ap Exhausted same

-- satisfied or refuted, after n entries
abbrev Settles : Outcome → ℕ → Type 0
Settles o n = (verdict_of o ≡ IsSatisfied n) ⊎ (verdict_of o ≡ IsRefuted n)

settles_count : (o : Outcome) (n : ℕ) → Settles o n → count_of o ≡ n
settles_count o n (inl e) = ap count_of (was_satisfied o n e)
settles_count o n (inr e) = ap count_of (was_refuted o n e)

settles_not : (n m : ℕ) → Settles (Exhausted m) n → ⊥
settles_not n m (inl e) = let z : ◌≡◌ {A = ℕ} 0 1 = cc in omega arith
settles_not n m (inr e) = let z : ◌≡◌ {A = ℕ} 0 1 = cc in omega arith

-- an outcome settles, with its own count, or is Exhausted
settles_or : (o : Outcome) → ((n : ℕ) → o ≡ Exhausted n → ⊥) → Settles o (count_of o)
settles_or (Satisfied n bits) f = inl refl
settles_or (Refuted n) f = inr refl
settles_or (Exhausted n) f = absurd (f n refl)

stopped_count : {I : Type 0} (o : Option (List (Branch I))) (n : ℕ) → count_of (stopped o n) ≡ n
stopped_count none n = refl
stopped_count (some bs) n = refl

answer_count : {I : Type 0} (f : Found I) (o : Option (List (Branch I))) (n : ℕ) → count_of (answer_at f o n) ≡ n
answer_count closed o n = stopped_count o n
answer_count (opened bits) o n = refl
answer_count (split i ds) o n = stopped_count o n

-- ---- the walk without a limit, and the outcome under one

module _ {I : Type 0} (find : List ℕ → Found I) (limit : ℕ) (es : List (Place I)) (full : FullWalk find es) where
  abbrev out : Outcome
  out = outcome find limit

  out_long : limit < length es → out ≡ Exhausted limit
  out_long h = (walks.any_walk find).limited es full limit ∙ rw (lt-ltb limit (length es) h)

  out_short : length es ≤ limit → out ≡ answer (last (root find) es) (length es)
  out_short h = (walks.any_walk find).limited es full limit ∙ rw (le-ltb limit (length es) h)

  not_long : length es ≤ limit → (n : ℕ) → out ≡ Exhausted n → ⊥
  not_long h n e = (walks.any_walk find).whole_settled es full n (sym (out_short h) ∙ e)

  -- where the walk is not cut, the count is that of all entries
  short_count : length es ≤ limit → count_of out ≡ length es
  short_count h = ap count_of (out_short h) ∙ answer_count (last (root find) es).found (next_path (last (root find) es)) (length es)

  exhausted_is : (n : ℕ) → (verdict_of out ≡ IsExhausted n) ↔ ((limit < length es) × (n ≡ limit))
  exhausted_is n = (λ e. go (was_exhausted out n e) (lt_or_le limit (length es)), λ h. ap verdict_of (out_long h.0) ∙ ap IsExhausted (sym h.1))
    where
      go : out ≡ Exhausted n → (limit < length es) ⊎ (length es ≤ limit) → (limit < length es) × (n ≡ limit)
      go was (inl h) = (h, ap count_of (sym was ∙ out_long h))
      go was (inr h) = absurd (not_long h n was)

  settled_is : (n : ℕ) → Settles out n ↔ ((length es ≤ limit) × (n ≡ length es))
  settled_is n = (λ s. go s (lt_or_le limit (length es)), λ h. subst (Settles out) (short_count h.0 ∙ sym h.1) (settles_or out (not_long h.0)))
    where
      go : Settles out n → (limit < length es) ⊎ (length es ≤ limit) → (length es ≤ limit) × (n ≡ length es)
      go s (inl h) = absurd (settles_not n limit (subst (λ (o : Outcome). Settles o n) (out_long h) s))
      go s (inr h) = (h, sym (settles_count out n s) ∙ short_count h)

-- ---- an engine's walk of a lent table

module _ (find : List ℕ → Found Instance) (limit : ℕ) (tb answer : List ℕ) (long : 4096 ≤ length tb) (wide : 1024 ≤ length answer) (valid : Valid (take 4096 tb)) (sound : SoundFind (ground_lent tb) find) where
  abbrev q : Problem
  q = problem_in (take 4096 tb)

  abbrev p : Ground Instance
  p = ground_lent tb

  abbrev o : Outcome
  o = outcome find limit

  lawful : Lawful (take 4096 tb)
  lawful = tables.lawful (take 4096 tb) valid

  proper : Proper p
  proper = ground_proper q lawful.fits

  walk : SoundWalk p find
  walk = walks.sound_walk p find sound

  -- it is satisfied
  module _ (n : ℕ) (e : verdict_of o ≡ IsSatisfied n) where
    abbrev bits : List Bool
    bits = bits_of o

    was : o ≡ Satisfied n bits
    was = was_satisfied o n e

    given : (length bits ≡ p.atoms) × Model p (Marked bits)
    given = walk.satisfied limit n bits was

    left_is : answer_of o answer ≡ map bit bits ++ drop (length bits) answer
    left_is = ap (λ (x : Outcome). answer_of x answer) was

    model : Model p (λ a. T (is_set (answer_of o answer) a))
    model =
        let same : (a : ℕ) → a < p.atoms → is_set (answer_of o answer) a ≡ get_or bits a false =
        λ a h. ap (λ (x : List ℕ). is_set x a) left_is ∙ given_set bits answer a (omega (arith, given.0)) in
        model_same p (Marked bits) (λ a. T (is_set (answer_of o answer) a)) proper (λ a h m. subst T (sym (same a h)) m) (λ a h m. subst T (same a h) m) given.1

    judged : judge_result tb (answer_of o answer) ≡ Ok IsModel
    unfolding judge_result
    judged =
        let few : length bits ≤ 1024 = omega (arith, given.0, atoms_few q lawful.fits) in
        let room : 1024 ≤ length (answer_of o answer) = rw (left_is, given_length bits answer (omega arith)) wide in
        let A : ℕ = atom_count q.constants q.arities in
        let marks : every (λ b. ltb b 2) (take A (answer_of o answer)) ≡ true =
        ap (λ (x : List ℕ). every (λ b. ltb b 2) (take A x)) left_is
        ∙ ap (λ (m : ℕ). every (λ b. ltb b 2) (take m (map bit bits ++ drop (length bits) answer))) (sym (given.0 ∙ atoms_are q))
        ∙ given_marks bits answer in
        let good : is_valid (take 4096 tb) ≡ true = T-true (is_valid (take 4096 tb)) ((tables.valid (take 4096 tb)).1 valid) in
        rw (le-ltb (length tb) 4096 long, le-ltb (length (answer_of o answer)) 1024 room, good, marks) (ap Ok (model_checked q (answer_of o answer) model))

  pub demand_2 : Demand2 find p limit tb (verdict_of o) (answer_of o answer)
  demand_2 =
      record {
        model = model;
        judged = judged;
        no_model = λ n e. walk.refuted limit n (was_refuted o n e);
        full = walk.ends;
        full_one = (walks.any_walk find).whole_one;
        exhausted = exhausted_is find limit;
        settled = settled_is find limit;
      }
