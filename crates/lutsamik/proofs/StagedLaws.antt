-- The staged engine's verdict is packed as one whose deepest figure is 0, and told as that of a first run.
use Prim.Native.Nat.{ℕ}
use mathlib.Core.Bool.{Bool, true, false, cond}
use mathlib.Core.List.{List}
use mathlib.Core.Path.{◌≡◌, refl}
use native.Mathlib.Omega.{arith}
use lib.ListN.{take}
use Rattle.search.specs.Machine.{Outcome}
use Rattle.search.specs.Session.{Session, told}
use Rattle.problem.specs.Table.{is_valid}
use Rattle.ground.specs.declared.verdict.Verdict.{Verdict}
use Rattle.ground.specs.declared.verdict.Verdict.TheVariants as verdict
use Rattle.ground.specs.Verdict.{verdict_of}
use Rattle.session.specs.Calls.{screened, verdict_told}
use Rattle.relevancy.specs.Engine.{too_short}
use Rattle.staged.specs.Engine.{staged_outcome, staged_result}
use Rattle.lutsamik.specs.Pack.{pack_verdict, pack_staged}

pub figure_none : (v : Verdict) → pack_staged v ≡ pack_verdict v 0
figure_none (verdict.Refused e) = refl
figure_none (verdict.Refuted n) = omega arith
figure_none (verdict.Satisfied n) = omega arith
figure_none (verdict.Exhausted n) = omega arith

-- whatever session that run would leave
pub staged_told : (tb answer work : List ℕ) (s : Session)
    → verdict_told (screened (too_short tb answer work) (is_valid (take 4096 tb)) (told (staged_outcome (take 4096 tb)) s)) ≡ staged_result tb answer work
unfolding staged_result
staged_told tb answer work s = go (too_short tb answer work) (is_valid (take 4096 tb)) (staged_outcome (take 4096 tb))
  where
    go : (short valid : Bool) (o : Outcome)
        → ◌≡◌ {A = Verdict} (verdict_told (screened short valid (told o s))) (cond short (verdict.Refused 11) (cond valid (verdict_of o) (verdict.Refused 31)))
    go true valid o = refl
    go false true o = refl
    go false false o = refl
