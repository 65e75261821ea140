-- Both engines say and leave the same, since each part's outcomes are.
use Prim.Native.Nat.{ℕ}
use mathlib.Core.Bool.{Bool, true, false}
use mathlib.Core.List.{List}
use mathlib.Core.Path.{◌≡◌, ap, ap₂}
use lib.ListN.{take, get_or}
use Rattle.lists.proofs.Member.{all_map}
use Rattle.lists.proofs.Tabulate.{tabulate_same}
use Rattle.lists.proofs.Test.{T-true}
use Rattle.search.specs.Machine.{Outcome}
use Rattle.problem.specs.Problem.{Problem, Fits, atom_count}
use Rattle.problem.specs.Layout.{problem_in}
use Rattle.problem.specs.Table.{Valid, is_valid}
use Rattle.problem.proofs.Theorems.{theorems as tables}
use Rattle.ground.proofs.AtomLaws.{map_same}
use Rattle.parting.specs.Parts.{part_of, parts_of}
use Rattle.parting.specs.Runs.{run_by, up_to_refuted, runs_of, said_by, sum_of, bits_of, predicate_at, joined_bits, answer_by, parts_result, parts_count, parts_answer}
use Rattle.parting.specs.Claims.{SameParts}
use Rattle.parting.proofs.ClaimFitLaws.{part_fits, parts_fit}
use Rattle.parting.proofs.ClaimWalkLaws.{outcomes}

module _ (q : Problem) (f : Fits q) where
  runs_same : runs_of true q ≡ runs_of false q
  unfolding runs_of
  runs_same = ap up_to_refuted (map_same (run_by true) (run_by false) (parts_of q) (all_map Fits (λ p. run_by true p ≡ run_by false p) outcomes (parts_of q) (parts_fit q f)))

  bits_same : joined_bits true q ≡ joined_bits false q
  unfolding joined_bits
  bits_same =
      tabulate_same (λ a. get_or (bits_of (run_by true (part_of q (predicate_at q a)))) a false) (λ a. get_or (bits_of (run_by false (part_of q (predicate_at q a)))) a false)
      (atom_count q.constants q.arities)
      (λ a h. ap (λ (o : Outcome). get_or (bits_of o) a false) (outcomes (part_of q (predicate_at q a)) (part_fits q f (predicate_at q a))))

module _ (tb : List ℕ) (valid : Valid (take 4096 tb)) (short₁ short₂ : Bool) (fine₁ : short₁ ≡ false) (fine₂ : short₂ ≡ false) where
  abbrev q : Problem
  q = problem_in (take 4096 tb)

  fits : Fits (problem_in (take 4096 tb))
  fits = (tables.lawful (take 4096 tb) valid).fits

  good : is_valid (take 4096 tb) ≡ true
  good = T-true (is_valid (take 4096 tb)) ((tables.valid (take 4096 tb)).1 valid)

  pub same_parts : SameParts tb short₁ short₂
  unfolding parts_result parts_count parts_answer
  same_parts =
      record {
        results = rw (fine₁, fine₂, good) (ap said_by (runs_same q fits));
        counts = λ count. rw (fine₁, fine₂, good) (ap sum_of (runs_same q fits));
        answers = λ answer. rw (fine₁, fine₂, good) (ap₂ (λ (os : List Outcome) (bits : List Bool). answer_by (said_by os) bits answer) (runs_same q fits) (bits_same q fits));
      }
