-- Fits and none are right for the whole: the joined answer is a model and judged to be one, and where the runs say none there is no model.
use Prim.Native.Nat.{ℕ, ◌≤◌, ◌<◌}
use mathlib.Core.Bool.{Bool, true, false}
use mathlib.Core.List.{List, ◌∷◌, ◌++◌, map, []}
use mathlib.Core.Logic.{inl, inr}
use mathlib.Core.Path.{◌≡◌, refl, sym, ap, subst, ◌∙◌}
use native.Mathlib.Omega.{arith}
use borrow.Author.Tests.{le-ltb}
use lib.Dec.{T, ltb}
use lib.ListN.{length, take, drop, get_or}
use Rattle.lists.specs.Bytes.{bit, is_set}
use Rattle.lists.specs.Member.{All, Any, every}
use Rattle.lists.proofs.Member.{all_zip}
use Rattle.lists.proofs.Tabulate.{tabulate-length, tabulate_at}
use Rattle.lists.proofs.Test.{T-true}
use Rattle.search.specs.Ground.{Model, Marked}
use Rattle.search.specs.Claims.{SoundWalk}
use Rattle.search.specs.Machine.{Outcome, Satisfied, Refuted, Exhausted}
use Rattle.search.proofs.Ground.{model_same}
use Rattle.search.proofs.Theorems.{theorems as walks}
use Rattle.problem.specs.Problem.{Problem, Fits, atom_count, limit_of}
use Rattle.problem.specs.Layout.{problem_in}
use Rattle.problem.specs.Table.{Valid, is_valid}
use Rattle.problem.proofs.Theorems.{theorems as tables}
use Rattle.ground.specs.Instance.{ground_of}
use Rattle.ground.proofs.AnswerLaws.{given_set, given_length, given_marks}
use Rattle.ground.proofs.Instances.{atoms_are, ground_proper}
use Rattle.std.specs.Prelude.{Ok}
use Rattle.judging.specs.declared.judge.Judgement.TheVariants.{Model as IsModel}
use Rattle.judging.specs.ModelCheck.{judge_result}
use Rattle.judging.specs.Demand2.{ground_lent}
use Rattle.judging.proofs.CheckLaws.{model_checked}
use Rattle.parting.specs.declared.parts.Parting.{Parting}
use Rattle.parting.specs.declared.parts.Parting.TheVariants as parting
use Rattle.parting.specs.Parts.{part_of, parts_of}
use Rattle.parting.specs.Runs.{find_by, is_refuted, is_exhausted, run_by, runs_of, said_by, bits_of, predicate_at, joined_bits, answer_by, parts_result, parts_answer}
use Rattle.parting.specs.Claims.{WholeRight}
use Rattle.parting.proofs.ClaimFitLaws.{parts_fit}
use Rattle.parting.proofs.ClaimWalkLaws.{sound}
use Rattle.parting.proofs.ClaimModelLaws.{apart, joined}
use Rattle.parting.proofs.ClaimSaidLaws.{said_of}

-- ---- one part

record Fitted (o : Outcome) : Type 0 where
  count : ℕ
  is : o ≡ Satisfied count (bits_of o)

fitted : (o : Outcome) → (T (is_refuted o) → ⊥) → (T (is_exhausted o) → ⊥) → Fitted o
fitted (Satisfied n bits) h k = record { count = n; is = refl }
fitted (Refuted n) h k = absurd (h tt)
fitted (Exhausted n) h k = absurd (k tt)

record Denied (o : Outcome) : Type 0 where
  count : ℕ
  is : o ≡ Refuted count

denied : (o : Outcome) → T (is_refuted o) → Denied o
denied (Satisfied n bits) h = absurd h
denied (Refuted n) h = record { count = n; is = refl }
denied (Exhausted n) h = absurd h

module _ (by : Bool) (p : Problem) (f : Fits p) where
  walk : SoundWalk (ground_of p) (find_by by p)
  walk = walks.sound_walk (ground_of p) (find_by by p) (sound p f by)

  part_model : (T (is_refuted (run_by by p)) → ⊥) → (T (is_exhausted (run_by by p)) → ⊥) → Model (ground_of p) (Marked (bits_of (run_by by p)))
  unfolding run_by
  part_model h k = let s = fitted (run_by by p) h k in (walk.satisfied (limit_of p.limit) s.count (bits_of (run_by by p)) s.is).1

  part_none : T (is_refuted (run_by by p)) → (M : ℕ → Type 0) → Model (ground_of p) M → ⊥
  unfolding run_by
  part_none h = let s = denied (run_by by p) h in walk.refuted (limit_of p.limit) s.count s.is

-- ---- the whole

module _ (by : Bool) (q : Problem) (f : Fits q) where
  abbrev bits : List Bool
  bits = joined_bits by q

  pub bits_count : length (joined_bits by q) ≡ atom_count q.constants q.arities
  unfolding joined_bits
  bits_count = tabulate-length (λ a. get_or (bits_of (run_by by (part_of q (predicate_at q a)))) a false) (atom_count q.constants q.arities)

  bit_is : (a : ℕ) → a < (ground_of q).atoms → get_or (joined_bits by q) a false ≡ get_or (bits_of (run_by by (part_of q (predicate_at q a)))) a false
  unfolding joined_bits
  bit_is a h = tabulate_at (λ a. get_or (bits_of (run_by by (part_of q (predicate_at q a)))) a false) false (atom_count q.constants q.arities) a (omega (arith, atoms_are q))

  pub whole_model : said_by (runs_of by q) ≡ parting.Satisfied → Model (ground_of q) (Marked (joined_bits by q))
  whole_model e =
      let s = (said_of by q).satisfied.0 e in
      let Own : Problem → ℕ → Type 0 = λ p. Marked (bits_of (run_by by p)) in
      let each : All (λ p. (T (is_exhausted (run_by by p)) → ⊥) → Model (ground_of p) (Own p)) (parts_of q) =
      all_zip Fits (λ p. T (is_refuted (run_by by p)) → ⊥) (λ p. (T (is_exhausted (run_by by p)) → ⊥) → Model (ground_of p) (Own p)) (λ p g h k. part_model by p g h k) (parts_of q) (parts_fit q f) s.0 in
      let models : All (λ p. Model (ground_of p) (Own p)) (parts_of q) =
      all_zip (λ p. (T (is_exhausted (run_by by p)) → ⊥) → Model (ground_of p) (Own p)) (λ p. T (is_exhausted (run_by by p)) → ⊥) (λ p. Model (ground_of p) (Own p)) (λ p g k. g k) (parts_of q) each s.1 in
      model_same (ground_of q) (λ a. Own (part_of q (predicate_at q a)) a) (Marked bits) (ground_proper q f)
      (λ a h m. subst T (sym (bit_is a h)) m) (λ a h m. subst T (bit_is a h) m) (joined q f Own models)

  pub whole_none : said_by (runs_of by q) ≡ parting.Refuted → (M : ℕ → Type 0) → Model (ground_of q) M → ⊥
  whole_none e M m = go (parts_of q) ((said_of by q).refuted.0 e) (parts_fit q f) (apart q M m)
    where
      go : (ps : List Problem) → Any (λ p. T (is_refuted (run_by by p))) ps → All Fits ps → All (λ p. Model (ground_of p) M) ps → ⊥
      go [] x3 a b = elim x3 [ ]
      go (p ∷ ps) (inl h) a b = part_none by p a.0 h M b.0
      go (p ∷ ps) (inr h) a b = go ps h a.1 b.1

-- ---- a call that is taken

module _ (by short : Bool) (tb answer : List ℕ) (long : 4096 ≤ length tb) (wide : 1024 ≤ length answer) (valid : Valid (take 4096 tb)) (fine : short ≡ false) where
  abbrev q : Problem
  q = problem_in (take 4096 tb)

  fits : Fits (problem_in (take 4096 tb))
  fits = (tables.lawful (take 4096 tb) valid).fits

  good : is_valid (take 4096 tb) ≡ true
  good = T-true (is_valid (take 4096 tb)) ((tables.valid (take 4096 tb)).1 valid)

  pub result_is : parts_result by short tb ≡ said_by (runs_of by (problem_in (take 4096 tb)))
  unfolding parts_result
  result_is = rw (fine, good)

  pub answer_is : parts_answer by short tb answer ≡ answer_by (said_by (runs_of by (problem_in (take 4096 tb)))) (joined_bits by (problem_in (take 4096 tb))) answer
  unfolding parts_answer
  answer_is = rw (fine, good)

  module _ (e : parts_result by short tb ≡ parting.Satisfied) where
    abbrev given : List Bool
    given = joined_bits by q

    abbrev left : List ℕ
    left = parts_answer by short tb answer

    said : said_by (runs_of by (problem_in (take 4096 tb))) ≡ parting.Satisfied
    said = sym result_is ∙ e

    left_is : parts_answer by short tb answer ≡ map bit (joined_bits by (problem_in (take 4096 tb))) ++ drop (length (joined_bits by (problem_in (take 4096 tb)))) answer
    left_is = answer_is ∙ ap (λ (r : Parting). answer_by r given answer) said

    model : Model (ground_lent tb) (λ a. T (is_set (parts_answer by short tb answer) a))
    model =
        let same : (a : ℕ) → a < (ground_of q).atoms → is_set left a ≡ get_or given a false =
        λ a h. ap (λ (x : List ℕ). is_set x a) left_is ∙ given_set given answer a (omega (arith, bits_count by q fits, atoms_are q)) in
        model_same (ground_of q) (Marked given) (λ a. T (is_set left a)) (ground_proper q fits) (λ a h m. subst T (sym (same a h)) m) (λ a h m. subst T (same a h) m)
        (whole_model by q fits said)

    judged : judge_result tb (parts_answer by short tb answer) ≡ Ok IsModel
    unfolding judge_result
    judged =
        let A : ℕ = atom_count q.constants q.arities in
        let few : length given ≤ 1024 = omega (arith, bits_count by q fits, fits.atoms_fit) in
        let room : 1024 ≤ length left = rw (left_is, given_length given answer (omega arith)) wide in
        let marks : every (λ b. ltb b 2) (take A left) ≡ true =
        ap (λ (x : List ℕ). every (λ b. ltb b 2) (take A x)) left_is
        ∙ ap (λ (m : ℕ). every (λ b. ltb b 2) (take m (map bit given ++ drop (length given) answer))) (sym (bits_count by q fits))
        ∙ given_marks given answer in
        rw (le-ltb (length tb) 4096 long, le-ltb (length left) 1024 room, good, marks) (ap Ok (model_checked q left model))

  pub whole_right : WholeRight tb (parts_result by short tb) (parts_answer by short tb answer)
  whole_right = record { model = model; judged = judged; no_model = λ e. whole_none by q fits (sym result_is ∙ e) }
