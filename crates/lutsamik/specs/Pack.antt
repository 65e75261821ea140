-- An operation's answer as one number: bits 0 to 7 the refusal's number, 0 where there is none; bits 8 to 15 the number of what is answered; bits 24 to 31 the clause
-- that it names; bits 32 to 63 the value that goes with it. Of an engine's verdict, bits 16 to 31 are the deepest figure.
use Rattle.std.specs.Prelude.{ℕ, zero, suc, ◌+◌, ◌*◌, ◌/◌, ◌%◌, cond, List, eqb, get_or, Result, Ok, Err}
use Rattle.lists.specs.Digits.{bytes_of}
use Rattle.problem.specs.declared.fault.Fault.{Fault}
use Rattle.problem.specs.Faults.{fault_of}
use Rattle.problem.specs.Numbers.{Numbers}
use Rattle.reading.specs.Read.{Reading, reading_numbers}
use Rattle.offering.specs.Offer.{Offering, offering_numbers}
use Rattle.judging.specs.declared.judge.Judgement.{Judgement}
use Rattle.judging.specs.declared.judge.Judgement.TheVariants as judging
use Rattle.judging.specs.ModelCheck.{judging_numbers}
use Rattle.ground.specs.declared.verdict.Verdict.{Verdict}
use Rattle.ground.specs.declared.verdict.Verdict.TheVariants as verdict
use Rattle.ground.specs.Verdict.{verdict_numbers}
use Rattle.assuming.specs.declared.assume.Assumed.{Assumed}
use Rattle.assuming.specs.declared.assume.Assumed.TheVariants as assumed
use Rattle.assuming.specs.Assume.{assumed_numbers}
use Rattle.parting.specs.declared.parts.Parting.{Parting}
use Rattle.parting.specs.declared.parts.Parting.TheVariants as parting
use Rattle.parting.specs.Runs.{parting_numbers}

abbrev pub packed : Numbers → ℕ
packed a = a.refusal + 256 * a.number + 16777216 * a.clause + 4294967296 * a.value

abbrev pub pack_reading : Reading → ℕ
pack_reading r = packed (reading_numbers r)

abbrev pub pack_offering : Offering → ℕ
pack_offering o = packed (offering_numbers o)

abbrev pub pack_judging : Result Judgement Fault → ℕ
pack_judging j = packed (judging_numbers j)

-- the figure of a verdict's answer beside its numbers, which leave these bits free
abbrev pub with_deepest : Numbers → ℕ → ℕ
with_deepest a d = packed a + 65536 * (d % 65536)

abbrev pub pack_verdict : Verdict → ℕ → ℕ
pack_verdict (verdict.Refused e) d = packed (verdict_numbers (verdict.Refused e))
pack_verdict (verdict.Refuted n) d = with_deepest (verdict_numbers (verdict.Refuted n)) d
pack_verdict (verdict.Satisfied n) d = with_deepest (verdict_numbers (verdict.Satisfied n)) d
pack_verdict (verdict.Exhausted n) d = with_deepest (verdict_numbers (verdict.Exhausted n)) d

-- a verdict without a figure: the staged engine's
abbrev pub pack_staged : Verdict → ℕ
pack_staged v = packed (verdict_numbers v)

abbrev pub pack_assumed : Assumed → ℕ
pack_assumed a = packed (assumed_numbers a)

-- of the calls by parts; the sum of the counts goes into a lent number
abbrev pub pack_parting : Parting → ℕ
pack_parting p = packed (parting_numbers p)

-- The parts of a number, as a host takes them out, and what they say
abbrev pub unpacked : ℕ → Numbers
unpacked n = record { refusal = n % 256; number = n / 256 % 256; clause = n / 16777216 % 256; value = n / 4294967296 % 4294967296 }

-- the deepest figure of an engine's answer, as a host takes it out
abbrev pub deepest_of : ℕ → ℕ
deepest_of n = n / 65536 % 65536

abbrev pub as_reading : Numbers → Reading
as_reading a = cond (eqb a.refusal 0) (Ok tt) (Err (record { fault = fault_of a.refusal; line = a.value }))

-- a number, or a refusal: what writing, rewriting and asking how far an instance holds answer
abbrev pub as_value : Numbers → Result ℕ Fault
as_value a = cond (eqb a.refusal 0) (Ok a.value) (Err (fault_of a.refusal))

abbrev pub as_offering : Numbers → Offering
as_offering a = cond (eqb a.refusal 0) (Ok tt) (Err (fault_of a.refusal))

-- clause k with the values of 83, 82, 81 and 80
abbrev pub violated_by : ℕ → List ℕ → Judgement
violated_by k values = judging.Violated k (get_or values 3 0) (get_or values 2 0) (get_or values 1 0) (get_or values 0 0)

abbrev pub as_judging : Numbers → Result Judgement Fault
as_judging a = cond (eqb a.refusal 0) (Ok (cond (eqb a.number 1) judging.Model (violated_by a.clause (bytes_of 4 a.value)))) (Err (fault_of a.refusal))

abbrev pub verdict_by : ℕ → ℕ → Verdict
verdict_by zero n = verdict.Refuted n
verdict_by (suc zero) n = verdict.Satisfied n
verdict_by (suc (suc k)) n = verdict.Exhausted n

abbrev pub as_verdict : Numbers → Verdict
as_verdict a = cond (eqb a.refusal 0) (verdict_by a.number a.value) (verdict.Refused a.refusal)

abbrev pub assumed_by : ℕ → Assumed
assumed_by zero = assumed.Always
assumed_by (suc zero) = assumed.Never
assumed_by (suc (suc zero)) = assumed.Exhausted
assumed_by (suc (suc (suc k))) = assumed.Sometimes

abbrev pub as_assumed : Numbers → Assumed
as_assumed a = cond (eqb a.refusal 0) (assumed_by a.number) (assumed.Refused a.refusal)

abbrev pub parting_by : ℕ → Parting
parting_by zero = parting.Refuted
parting_by (suc zero) = parting.Satisfied
parting_by (suc (suc k)) = parting.Exhausted

abbrev pub as_parting : Numbers → Parting
as_parting a = cond (eqb a.refusal 0) (parting_by a.number) (parting.Refused a.refusal)
