-- The claims of `specs/Claims.antt`, proved.
use Prim.Native.Nat.{ℕ}
use mathlib.Core.List.{List}
use mathlib.Core.Path.{refl}
use lib.ListN.{take}
use Rattle.search.specs.Machine.{outcome}
use Rattle.search.specs.Relevancy.{find_r}
use Rattle.search.specs.Staged.{find_s}
use Rattle.problem.specs.Problem.{Fits}
use Rattle.problem.specs.Layout.{problem_in}
use Rattle.problem.specs.Table.{Valid}
use Rattle.problem.proofs.Theorems.{theorems as tables}
use Rattle.ground.specs.Verdict.{verdict_of}
use Rattle.judging.specs.Demand2.{ground_lent, limit_lent}
use Rattle.relevancy.specs.Claims.{Taken}
use Rattle.relevancy.specs.Engine.{fit_result, fit_answer}
use Rattle.relevancy.proofs.Theorems.{theorems as relevancy}
use Rattle.staged.specs.Engine.{staged_result, staged_answer}
use Rattle.staged.proofs.Theorems.{theorems as staged}
use Rattle.rewriting.specs.Facts.{find_in}
use Rattle.magic.specs.Claims.{MagicTaken}
use Rattle.magic.specs.Engine.{magic_result, magic_rules, magic_answer}
use Rattle.magic.proofs.Theorems.{theorems as magic}
use Rattle.shuffling.specs.Claims.{Call, by_relevancy, by_magic, by_stages, said_by, problem_lent, Theorems}
use Rattle.shuffling.proofs.Cases.{case_shuffled}
use Rattle.shuffling.proofs.FitLaws.{shuffled_fits}
use Rattle.shuffling.proofs.ShuffledLaws.{order_shuffles, lines_exchanged, renumbering_shuffles, again, back_again}
use Rattle.shuffling.proofs.OneToOneLaws.{swaps}
use Rattle.shuffling.proofs.MoveLaws.{models_move}
use Rattle.shuffling.proofs.VerdictLaws.{Right, right, never_contradict, never_apart, Outcome-Right}

lent_fits : (tb : List ℕ) → Valid (take 4096 tb) → Fits (problem_in (take 4096 tb))
lent_fits tb valid = (tables.lawful (take 4096 tb) valid).fits

-- each of the engines
said_right : (call : Call) → Right (problem_lent call) (said_by call)
said_right (by_relevancy tb answer work) =
    right (problem_in (take 4096 tb)) (fit_result tb answer work) (Taken tb answer work) (relevancy.taken_or_refused tb answer work)
    (find_r (ground_lent tb)) (limit_lent tb) tb (fit_answer tb answer work) (λ t. lent_fits tb t.valid) (relevancy.demand_2 tb answer work)
said_right (by_magic tb rules answer work) =
    right (problem_in (take 4096 tb)) (magic_result tb rules answer work) (MagicTaken tb rules answer work) (magic.taken_or_refused tb rules answer work)
    (find_in (magic_rules tb rules answer work)) (limit_lent tb) tb (magic_answer tb rules answer work) (λ t. lent_fits tb t.valid) (magic.demand_2 tb rules answer work)
said_right (by_stages tb answer work) =
    right (problem_in (take 4096 tb)) (staged_result tb answer work) (Taken tb answer work) (staged.taken_or_refused tb answer work)
    (find_s (ground_lent tb)) (limit_lent tb) tb (staged_answer tb answer work) (λ t. lent_fits tb t.valid) (staged.demand_2 tb answer work)

pub theorems : Theorems
theorems =
    record {
      never_turned = λ a b s. never_contradict (problem_lent a) (problem_lent b) s (said_by a) (said_by b) (said_right a) (said_right b);
      never_contradict = λ a b e. never_apart (problem_lent a) (problem_lent b) e (said_by a) (said_by b) (said_right a) (said_right b);
      walks_never_turned =
          λ q r fits also s f g sound too limit other.
          never_contradict q r s (verdict_of (outcome f limit)) (verdict_of (outcome g other)) (Outcome-Right q fits f sound limit (outcome f limit) refl)
          (Outcome-Right r also g too other (outcome g other) refl);
      order_shuffles = order_shuffles;
      lines_exchanged = lines_exchanged;
      renumbering_shuffles = renumbering_shuffles;
      swaps = swaps;
      shuffled_again = λ q r s f t u. again q r f.constants_fit f.each_fits t s u;
      shuffled_back = λ q r f s. back_again q r f.constants_fit f.each_fits s;
      shuffled_fits = λ q r f s. shuffled_fits q r s f;
      models_move = models_move;
      case_shuffled = case_shuffled;
    }
