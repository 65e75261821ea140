-- A call with a session is packed with the figure that it tells: its record has that figure, and a refusal has none in its number.
use Prim.Native.Nat.{ℕ}
use mathlib.Core.List.{List}
use mathlib.Core.Path.{◌≡◌, refl, sym, ap, ap₂, ◌∙◌}
use Rattle.search.specs.Session.{Called, declined, told}
use Rattle.ground.specs.declared.verdict.Verdict.{Verdict}
use Rattle.ground.specs.Verdict.{verdict_of}
use Rattle.session.specs.declared.record.Session.{Session as Record}
use Rattle.session.specs.Calls.{verdict_told, deepest_told, record_left}
use Rattle.session.proofs.RecordLaws.{laid-deepest}
use Rattle.relevancy.specs.Engine.{fit_result, fit_deepest}
use Rattle.relevancy.specs.Sessions.{begun}
use Rattle.relevancy.proofs.Theorems.{theorems as relevancy}
use Rattle.magic.specs.Engine.{magic_result, magic_deepest}
use Rattle.magic.specs.Sessions.{magic_begun}
use Rattle.magic.proofs.Theorems.{theorems as magic}
use Rattle.lutsamik.specs.Pack.{pack_verdict}

told_packed : (c : Called) (r : Record) → pack_verdict (verdict_told c) (record_left c r).deepest ≡ pack_verdict (verdict_told c) (deepest_told c)
told_packed (declined e) r = refl
told_packed (told o s) r = ap (pack_verdict (verdict_of o)) (laid-deepest s)

-- by the verdict and the record that it gives back
pub call_packed : (c : Called) (r : Record) {v : Verdict} {left : Record} → v ≡ verdict_told c → left ≡ record_left c r
    → pack_verdict v left.deepest ≡ pack_verdict (verdict_told c) (deepest_told c)
call_packed c r is_v is_left = ap₂ (λ (w : Verdict) (q : Record). pack_verdict w q.deepest) is_v is_left ∙ told_packed c r

-- a first run's are said without a session too
pub relevancy_packed : (tb answer work : List ℕ) (r : Record) {v : Verdict} {left : Record} → v ≡ fit_result tb answer work → left ≡ record_left (begun tb answer work) r
    → pack_verdict v left.deepest ≡ pack_verdict (fit_result tb answer work) (fit_deepest tb answer work)
relevancy_packed tb answer work r is_v is_left =
    let same = (relevancy.begun_same tb answer work).0 in
    call_packed (begun tb answer work) r (is_v ∙ sym same) is_left ∙ ap₂ pack_verdict same (relevancy.begun_shows tb answer work)

pub magic_packed : (tb rules answer work : List ℕ) (r : Record) {v : Verdict} {left : Record} → v ≡ magic_result tb rules answer work
    → left ≡ record_left (magic_begun tb rules answer work) r
    → pack_verdict v left.deepest ≡ pack_verdict (magic_result tb rules answer work) (magic_deepest tb rules answer work)
magic_packed tb rules answer work r is_v is_left =
    let same = (magic.begun_same tb rules answer work).0 in
    call_packed (magic_begun tb rules answer work) r (is_v ∙ sym same) is_left ∙ ap₂ pack_verdict same (magic.begun_shows tb rules answer work)
