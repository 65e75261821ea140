-- The claims of `specs/Claims.antt`, proved.
use Prim.Native.Nat.{ℕ}
use mathlib.Core.Bool.{true, false}
use mathlib.Core.List.{List}
use Rattle.lists.specs.Member.{All}
use Rattle.lists.proofs.Member.{all_map, all_of}
use Rattle.problem.specs.Problem.{Problem, Fits}
use Rattle.relevancy.specs.Engine.{too_short}
use Rattle.relevancy.specs.Claims.{Taken}
use Rattle.relevancy.proofs.EngineLaws as relevancy
use Rattle.magic.specs.Engine.{magic_too_short}
use Rattle.magic.specs.Claims.{MagicTaken}
use Rattle.magic.proofs.EngineLaws as magic
use Rattle.agreement.specs.Claims.{BothTaken}
use Rattle.parting.specs.Parts.{parts_of}
use Rattle.parting.specs.Runs.{parts_result, parts_answer}
use Rattle.parting.specs.Listed.{RunByEngines}
use Rattle.parting.specs.Claims.{PartsAre, PartWalked, WholeRight, SameParts, Theorems}
use Rattle.parting.proofs.FamilyLaws.{families, together, lowest, placed_once}
use Rattle.parting.proofs.ClaimPlaceLaws.{run, placed, unused}
use Rattle.parting.proofs.ClaimFitLaws.{parts_fit}
use Rattle.parting.proofs.ClaimWalkLaws.{walked}
use Rattle.parting.proofs.ClaimUnusedLaws.{unused_fits}
use Rattle.parting.proofs.ClaimModelLaws.{models_join}
use Rattle.parting.proofs.ClaimSaidLaws.{said_of}
use Rattle.parting.proofs.ClaimRightLaws.{whole_right}
use Rattle.parting.proofs.ClaimSameLaws.{same_parts}
use Rattle.parting.proofs.ClaimTakenLaws.{taken_or_refused, magic_taken_or_refused}
use Rattle.parting.proofs.ListedLaws.{parts_listed}
use Rattle.parting.proofs.CountedLaws.{said_by_all, counted}
use Rattle.parting.proofs.JoinedLaws.{bits_joined, run_whole}
use Rattle.parting.proofs.ToldLaws.{run_by_engines, relevancy_tells, magic_tells, refusal_keeps, refused_alike, magic_refused_alike}

parts_are : (q : Problem) → Fits q → PartsAre q
parts_are q f =
    record {
      families = families q;
      together = together q;
      lowest = lowest q;
      placed = placed q f;
      placed_once = placed_once q;
      run = run q;
      unused = unused q;
      unused_fits = unused_fits q f;
    }

parts_walked : (q : Problem) → Fits q → All PartWalked (parts_of q)
parts_walked q f = all_map Fits PartWalked walked (parts_of q) (parts_fit q f)

module _ (tb answer work : List ℕ) (t : Taken tb answer work) where
  relevancy_right : WholeRight tb (parts_result false (too_short tb answer work) tb) (parts_answer false (too_short tb answer work) tb answer)
  relevancy_right =
      whole_right false (too_short tb answer work) tb answer t.table_long t.answer_long t.valid
      (relevancy.long_enough tb answer work t.table_long t.answer_long t.work_long)

module _ (tb rules answer work : List ℕ) (t : MagicTaken tb rules answer work) where
  magic_right : WholeRight tb (parts_result true (magic_too_short tb rules answer work) tb) (parts_answer true (magic_too_short tb rules answer work) tb answer)
  magic_right =
      whole_right true (magic_too_short tb rules answer work) tb answer t.table_long t.answer_long t.valid
      (magic.long_enough tb rules answer work t.table_long t.rules_long t.answer_long t.work_long)

engines_agree : (tb rules answer work₁ work₂ : List ℕ) → BothTaken tb rules answer work₁ work₂ → SameParts tb (too_short tb answer work₁) (magic_too_short tb rules answer work₂)
engines_agree tb rules answer work₁ work₂ b =
    let t = b.by_relevancy in
    let m = b.by_magic in
    same_parts tb t.valid (too_short tb answer work₁) (magic_too_short tb rules answer work₂)
    (relevancy.long_enough tb answer work₁ t.table_long t.answer_long t.work_long)
    (magic.long_enough tb rules answer work₂ m.table_long m.rules_long m.answer_long m.work_long)

pub theorems : Theorems
theorems =
    record {
      parts_are = parts_are;
      models_join = models_join;
      parts_walked = parts_walked;
      said_of = said_of;
      relevancy_right = relevancy_right;
      magic_right = magic_right;
      taken_or_refused = taken_or_refused;
      magic_taken_or_refused = magic_taken_or_refused;
      refused_alike = refused_alike;
      magic_refused_alike = magic_refused_alike;
      engines_agree = engines_agree;
      parts_listed = parts_listed;
      said_by_all = said_by_all;
      counted = counted;
      run_by_engines = λ q. all_of RunByEngines run_by_engines (parts_of q);
      bits_joined = bits_joined;
      run_whole = run_whole;
      relevancy_tells = relevancy_tells;
      magic_tells = magic_tells;
      refusal_keeps = refusal_keeps;
    }
