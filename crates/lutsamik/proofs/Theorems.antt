-- The claims of `specs/Claims.antt`, proved: numbers that have room in their bits are taken apart again, and each answer is what its numbers say.
use Prim.Native.Nat.{ℕ, ◌+◌, ◌*◌, ◌/◌, ◌%◌, ◌<◌}
use mathlib.Core.List.{List, [], ◌∷◌}
use mathlib.Core.Path.{◌≡◌, refl, sym, ap, subst, ◌∙◌}
use native.Mathlib.Nat.{mod-eq_of_lt}
use native.Mathlib.Omega.{arith}
use borrow.Author.Tests.{ne_eqb}
use lib.Arith.{digits_div, digits_mod}
use lib.ListN.{take}
use Rattle.lists.proofs.Digits.{digits_horner, horner_below}
use Rattle.search.specs.Machine.{Outcome, Satisfied, Refuted, Exhausted}
use Rattle.search.specs.Session.{Session, first_session, Called, declined, told}
use Rattle.search.specs.SessionRight.{count_of}
use Rattle.search.specs.Staged.{find_s}
use Rattle.problem.specs.Problem.{limit_of}
use Rattle.problem.specs.Layout.{problem_in}
use Rattle.problem.specs.Table.{is_valid}
use Rattle.problem.specs.Numbers.{Numbers, refused_at, answered}
use Rattle.std.specs.Prelude.{Result, Ok, Err}
use Rattle.problem.specs.declared.fault.Fault.{Fault}
use Rattle.problem.specs.declared.fault.Fault.TheVariants.{BadLine, BadKind, BadLength, BadVersion, BadCount, Unknown, BadNumbering, FreeVariable, TooManyAtoms, TooManyMarks, ShortBuffer, NoTable, BadAnswer, TooManyEntries, NoSession, StaleSlip, NoInstance, BadFacts}
use Rattle.problem.specs.Faults.{fault_number}
use Rattle.problem.proofs.Faults.{fault_back}
use Rattle.reading.specs.Read.{Reading, read_result}
use Rattle.writing.specs.Write.{write_result, writing_numbers}
use Rattle.offering.specs.Offer.{Offering, offer_result, set_result}
use Rattle.ground.specs.declared.verdict.Verdict.{Verdict}
use Rattle.ground.specs.declared.verdict.Verdict.TheVariants as verdict
use Rattle.ground.specs.Verdict.{verdict_of}
use Rattle.ground.specs.Instance.{ground_in}
use Rattle.judging.specs.declared.judge.Judgement.{Judgement}
use Rattle.judging.specs.declared.judge.Judgement.TheVariants as judging
use Rattle.judging.specs.ModelCheck.{judge_result, judging_numbers}
use Rattle.judging.specs.Holding.{holding_result, holding_numbers}
use Rattle.rewriting.specs.Rewrite.{rewrite_result, rewriting_numbers}
use Rattle.session.specs.Calls.{screened, verdict_told, deepest_told}
use Rattle.relevancy.specs.Engine.{too_short}
use Rattle.relevancy.specs.Sessions.{begun, resumed}
use Rattle.relevancy.proofs.Theorems.{theorems as relevancy}
use Rattle.staged.specs.Engine.{staged_outcome, staged_result}
use Rattle.magic.specs.Sessions.{magic_begun, magic_resumed}
use Rattle.magic.proofs.Theorems.{theorems as magic}
use Rattle.lutsamik.specs.Pack.{as_value, packed, pack_reading, pack_offering, pack_judging, with_deepest, pack_verdict, unpacked, as_reading, as_offering, violated_by, as_judging, verdict_by, as_verdict}
use Rattle.lutsamik.specs.Claims.{Narrow, VerdictBack, Theorems}
use Rattle.lutsamik.proofs.AssumeLaws.{relevancy_assumed_back, magic_assumed_back}
use Rattle.lutsamik.proofs.PartsLaws.{parted_back}
use Rattle.lutsamik.proofs.StagedLaws.{figure_none, staged_told}
use Rattle.lutsamik.proofs.Narrow.{NarrowReading, NarrowValue, NarrowJudging, NarrowCall, narrow_reading, narrow_writing, narrow_judging, narrow_holding, narrow_begun, narrow_resumed, narrow_staged, narrow_magic_begun, narrow_magic_resumed, narrow_rewriting}

-- a part of a number, between what stands above it and what stands below
part : (n above w q m below : ℕ) → n ≡ (above * w + q) * m + below → q < w → below < m → n / m % w ≡ q
part n above w q m below e small short = ap (λ (k : ℕ). k / m % w) e ∙ ap (λ (k : ℕ). k % w) (digits_div (above * w + q) short) ∙ digits_mod above small

parts_back : (a : Numbers) → Narrow a → unpacked (packed a) ≡ a
parts_back a narrow =
    let n = packed a in
    let rest : n ≡ (a.number + 65536 * a.clause + 16777216 * a.value) * 256 + a.refusal = omega arith in
    let refusal : n % 256 ≡ a.refusal = ap (λ (k : ℕ). k % 256) rest ∙ digits_mod (a.number + 65536 * a.clause + 16777216 * a.value) narrow.refusal in
    let number : n / 256 % 256 ≡ a.number = part n (256 * a.clause + 65536 * a.value) 256 a.number 256 a.refusal (omega arith) narrow.number narrow.refusal in
    let clause : n / 16777216 % 256 ≡ a.clause = part n a.value 256 a.clause 16777216 (a.refusal + 256 * a.number) (omega arith) narrow.clause (omega arith) in
    let value : n / 4294967296 % 4294967296 ≡ a.value =
    part n 0 4294967296 a.value 4294967296 (a.refusal + 256 * a.number + 16777216 * a.clause) (omega arith) narrow.value (omega arith) in
    λ d. record { refusal = refusal d; number = number d; clause = clause d; value = value d }

refused_narrow : (e line : ℕ) → e < 256 → line < 4294967296 → Narrow (refused_at e line)
refused_narrow e line h l = record { refusal = h; number = omega arith; clause = omega arith; value = l }

answered-Narrow : (number value : ℕ) → number < 256 → value < 4294967296 → Narrow (answered number value)
answered-Narrow number value h l = record { refusal = omega arith; number = h; clause = omega arith; value = l }

-- ---- each answer is what its numbers say

reading_back : (r : Reading) → NarrowReading r → as_reading (unpacked (pack_reading r)) ≡ r
reading_back (Err r) h =
    let e = fault_number r.fault in
    ap as_reading (parts_back (refused_at e r.line) (refused_narrow e r.line h.0.1 h.1)) ∙ rw (ne_eqb e 0 (omega (arith, h.0.0)), fault_back r.fault)
reading_back (Ok u) h = refl

-- a refusal's number has room, and names it
fault_small : (e : Fault) → (0 < fault_number e) × (fault_number e < 256)
fault_small BadLine = (omega arith, omega arith)
fault_small BadKind = (omega arith, omega arith)
fault_small BadLength = (omega arith, omega arith)
fault_small BadVersion = (omega arith, omega arith)
fault_small BadCount = (omega arith, omega arith)
fault_small Unknown = (omega arith, omega arith)
fault_small BadNumbering = (omega arith, omega arith)
fault_small FreeVariable = (omega arith, omega arith)
fault_small TooManyAtoms = (omega arith, omega arith)
fault_small TooManyMarks = (omega arith, omega arith)
fault_small ShortBuffer = (omega arith, omega arith)
fault_small NoTable = (omega arith, omega arith)
fault_small BadAnswer = (omega arith, omega arith)
fault_small TooManyEntries = (omega arith, omega arith)
fault_small NoSession = (omega arith, omega arith)
fault_small StaleSlip = (omega arith, omega arith)
fault_small NoInstance = (omega arith, omega arith)
fault_small BadFacts = (omega arith, omega arith)

fault_told : (e : Fault) → unpacked (packed (refused_at (fault_number e) 0)) ≡ refused_at (fault_number e) 0
fault_told e = parts_back (refused_at (fault_number e) 0) (refused_narrow (fault_number e) 0 (fault_small e).1 (omega arith))

value_back : (r : Result ℕ Fault) → NarrowValue r → as_value (unpacked (packed (writing_numbers r))) ≡ r
value_back (Err e) h = ap as_value (fault_told e) ∙ rw (ne_eqb (fault_number e) 0 (omega (arith, fault_small e)), fault_back e)
value_back (Ok n) h = ap as_value (parts_back (answered 0 n) (answered-Narrow 0 n (omega arith) h))

-- what writing, asking and rewriting answer has the same numbers
holding_same : (r : Result ℕ Fault) → holding_numbers r ≡ writing_numbers r
holding_same (Err e) = refl
holding_same (Ok n) = refl

rewriting_same : (r : Result ℕ Fault) → rewriting_numbers r ≡ writing_numbers r
rewriting_same (Err e) = refl
rewriting_same (Ok n) = refl

abbrev as_packed : Numbers → Result ℕ Fault
as_packed a = as_value (unpacked (packed a))

offering_back : (o : Offering) → as_offering (unpacked (pack_offering o)) ≡ o
offering_back (Err e) = ap as_offering (fault_told e) ∙ rw (ne_eqb (fault_number e) 0 (omega (arith, fault_small e)), fault_back e)
offering_back (Ok u) = refl

judging_back : (j : Result Judgement Fault) → NarrowJudging j → as_judging (unpacked (pack_judging j)) ≡ j
judging_back (Err e) h = ap as_judging (fault_told e) ∙ rw (ne_eqb (fault_number e) 0 (omega (arith, fault_small e)), fault_back e)
judging_back (Ok judging.Model) h = refl
judging_back (Ok (judging.Violated k a b c d)) h =
    let values = d ∷ c ∷ b ∷ a ∷ [] in
    ap as_judging
    (parts_back (judging_numbers (Ok (judging.Violated k a b c d)))
    (record { refusal = omega arith; number = omega arith; clause = h.0; value = horner_below 256 values h.1 }))
    ∙ ap (λ (vs : List ℕ). Ok (violated_by k vs)) (digits_horner 256 values h.1)

-- a number, a count and a figure
told_back : (v : Verdict) (k n d : ℕ) → pack_verdict v d ≡ with_deepest (answered k n) d → v ≡ verdict_by k n → k < 256 → n < 4294967296 → d < 65536 → VerdictBack v d
told_back v k n d is so hk hn hd =
    let m : ℕ = pack_verdict v d in
    let e : m ≡ 256 * k + 65536 * d + 4294967296 * n = omega (arith, is, mod-eq_of_lt hd) in
    let refusal : m % 256 ≡ 0 = ap (λ (i : ℕ). i % 256) (omega (arith, e)) ∙ digits_mod (k + 256 * d + 16777216 * n) (omega arith) in
    let number : m / 256 % 256 ≡ k = part m (d + 65536 * n) 256 k 256 0 (omega (arith, e)) hk (omega arith) in
    let value : m / 4294967296 % 4294967296 ≡ n = part m 0 4294967296 n 4294967296 (256 * k + 65536 * d) (omega (arith, e)) hn (omega (arith, hk, hd)) in
    record { verdict_back = rw (refusal, number, value) (sym so); deepest_back = part m n 65536 d 65536 (256 * k) (omega (arith, e)) hd (omega (arith, hk)) }

outcome_back : (o : Outcome) (d : ℕ) → count_of o < 4294967296 → d < 65536 → VerdictBack (verdict_of o) d
outcome_back (Satisfied n bits) d h l = told_back (verdict.Satisfied n) 1 n d refl refl (omega arith) h l
outcome_back (Refuted n) d h l = told_back (verdict.Refuted n) 0 n d refl refl (omega arith) h l
outcome_back (Exhausted n) d h l = told_back (verdict.Exhausted n) 2 n d refl refl (omega arith) h l

refusal_back : (e : ℕ) → 0 < e → e < 256 → VerdictBack (verdict.Refused e) 0
refusal_back e Some-number small =
    record {
      verdict_back = ap as_verdict (parts_back (refused_at e 0) (refused_narrow e 0 small (omega arith))) ∙ rw (ne_eqb e 0 (omega arith));
      deepest_back = part (packed (refused_at e 0)) 0 65536 0 65536 e (omega arith) (omega arith) (omega (arith, small));
    }

call_back : (c : Called) → NarrowCall c → VerdictBack (verdict_told c) (deepest_told c)
call_back (declined e) h = refusal_back e h.0 h.1
call_back (told o s) h = outcome_back o s.deepest h.0 h.1

-- the verdict of a call alone
alone_back : (c : Called) → NarrowCall c → VerdictBack (verdict_told c) 0
alone_back (declined e) h = refusal_back e h.0 h.1
alone_back (told o s) h = outcome_back o 0 h.0 (omega arith)

staged_back : (tb answer work : List ℕ) → VerdictBack (staged_result tb answer work) 0
staged_back tb answer work =
    let t = take 4096 tb in
    let s : Session = first_session (find_s (ground_in t)) (limit_of (problem_in t).limit) in
    subst (λ (v : Verdict). VerdictBack v 0) (staged_told tb answer work s)
    (alone_back (screened (too_short tb answer work) (is_valid t) (told (staged_outcome t) s)) (narrow_staged tb answer work))

pub theorems : Theorems
theorems =
    record {
      parts_back = parts_back;
      reading_back = λ x tb. reading_back (read_result x tb) (narrow_reading x tb);
      writing_back = λ tb out. value_back (write_result tb out) (narrow_writing tb out);
      offer_back = λ tb f slip. offering_back (offer_result tb f slip);
      set_back = λ tb slip. offering_back (set_result tb slip);
      judging_back = λ tb answer. judging_back (judge_result tb answer) (narrow_judging tb answer);
      holding_back = λ tb answer k a b c d.
          let r = holding_result tb answer k a b c d in
          ap as_packed (holding_same r) ∙ value_back r (narrow_holding tb answer k a b c d);
      rewriting_back = λ tb rules. let r = rewrite_result tb rules in ap as_packed (rewriting_same r) ∙ value_back r (narrow_rewriting tb rules);
      relevancy_back = λ tb answer work.
          rw (← (relevancy.begun_same tb answer work).0, ← (relevancy.begun_shows tb answer work)) (call_back (begun tb answer work) (narrow_begun tb answer work));
      magic_back = λ tb rules answer work.
          rw (← (magic.begun_same tb rules answer work).0, ← (magic.begun_shows tb rules answer work))
          (call_back (magic_begun tb rules answer work) (narrow_magic_begun tb answer work rules));
      staged_back = λ tb answer work. rw (figure_none (staged_result tb answer work)) (staged_back tb answer work).verdict_back;
      staged_figureless = λ tb answer work. rw (figure_none (staged_result tb answer work)) (staged_back tb answer work).deepest_back;
      relevancy_resumed_back = λ r further tb answer work. call_back (resumed r further tb answer work) (narrow_resumed tb answer work r further);
      magic_resumed_back = λ r further tb rules answer work. call_back (magic_resumed r further tb rules answer work) (narrow_magic_resumed tb answer work rules r further);
      relevancy_assumed_back = relevancy_assumed_back;
      magic_assumed_back = magic_assumed_back;
      parted_back = parted_back;
    }
