-- A fault and its number; and a fault that is given its line on the way: what the answer with the line says of the answer without it.
use Rattle.std.proofs.Common.{◌≡◌, ℕ, ◌<◌, refl, sym, ap, subst, ◌∙◌, arith}
use Rattle.std.specs.Prelude.{Result, Ok, Err, MatchResult, IsErrAnd}
use Rattle.problem.specs.declared.fault.Fault.{Fault}
use Rattle.problem.specs.declared.fault.Fault.TheVariants.{BadLine, BadKind, BadLength, BadVersion, BadCount, Unknown, BadNumbering, FreeVariable, TooManyAtoms, TooManyMarks, ShortBuffer, NoTable, BadAnswer, TooManyEntries, NoSession, StaleSlip, NoInstance, BadFacts}
use Rattle.problem.specs.Faults.{fault_number, fault_of}
use Rattle.problem.specs.declared.fault.Refusal.{Refusal}

-- no two have the same number
pub fault_back : (e : Fault) → fault_of (fault_number e) ≡ e
fault_back BadLine = refl
fault_back BadKind = refl
fault_back BadLength = refl
fault_back BadVersion = refl
fault_back BadCount = refl
fault_back Unknown = refl
fault_back BadNumbering = refl
fault_back FreeVariable = refl
fault_back TooManyAtoms = refl
fault_back TooManyMarks = refl
fault_back ShortBuffer = refl
fault_back NoTable = refl
fault_back BadAnswer = refl
fault_back TooManyEntries = refl
fault_back NoSession = refl
fault_back StaleSlip = refl
fault_back NoInstance = refl
fault_back BadFacts = refl

pub fault_same : (d e : Fault) → fault_number d ≡ fault_number e → d ≡ e
fault_same d e q = sym (fault_back d) ∙ ap fault_of q ∙ fault_back e

-- a fault's number fits a byte, and is not 0
pub fault_some : (e : Fault) → 0 < fault_number e
fault_some BadLine = omega arith
fault_some BadKind = omega arith
fault_some BadLength = omega arith
fault_some BadVersion = omega arith
fault_some BadCount = omega arith
fault_some Unknown = omega arith
fault_some BadNumbering = omega arith
fault_some FreeVariable = omega arith
fault_some TooManyAtoms = omega arith
fault_some TooManyMarks = omega arith
fault_some ShortBuffer = omega arith
fault_some NoTable = omega arith
fault_some BadAnswer = omega arith
fault_some TooManyEntries = omega arith
fault_some NoSession = omega arith
fault_some StaleSlip = omega arith
fault_some NoInstance = omega arith
fault_some BadFacts = omega arith

pub fault_small : (e : Fault) → fault_number e < 256
fault_small BadLine = omega arith
fault_small BadKind = omega arith
fault_small BadLength = omega arith
fault_small BadVersion = omega arith
fault_small BadCount = omega arith
fault_small Unknown = omega arith
fault_small BadNumbering = omega arith
fault_small FreeVariable = omega arith
fault_small TooManyAtoms = omega arith
fault_small TooManyMarks = omega arith
fault_small ShortBuffer = omega arith
fault_small NoTable = omega arith
fault_small BadAnswer = omega arith
fault_small TooManyEntries = omega arith
fault_small NoSession = omega arith
fault_small StaleSlip = omega arith
fault_small NoInstance = omega arith
fault_small BadFacts = omega arith

-- the fault that was found, at this line
pub record FoundAt {T : Type 0} (r : Result T Fault) (line : ℕ) (d : Refusal) : Type 0 where
  pub fault : Fault
  pub found : r ≡ Err fault
  pub refusal : d ≡ record { fault = fault; line = line }

pub fault_at : {T : Type 0} (r : Result T Fault) {s : Result T Refusal} (line : ℕ) (Gives : Fault → Refusal → Type 0) {d : Refusal}
    → ((e : Fault) (x : Refusal) → Gives e x → x ≡ record { fault = e; line = line })
    → MatchResult r (λ x. s ≡ Ok x) (λ e. IsErrAnd s (Gives e)) → s ≡ Err d → FoundAt r line d
fault_at (Ok x) line Gives is h e = let z : ◌≡◌ {A = ℕ} 0 1 = cc in absurd (omega arith)
fault_at {T} (Err f) line Gives is h e = record { fault = f; found = refl; refusal = is f _ (subst (λ (o : Result T Refusal). IsErrAnd o (Gives f)) e h) }

pub kept_ok : {T : Type 0} (r : Result T Fault) {s : Result T Refusal} (Gives : Fault → Refusal → Type 0) {x : T}
    → MatchResult r (λ y. s ≡ Ok y) (λ e. IsErrAnd s (Gives e)) → s ≡ Ok x → r ≡ Ok x
kept_ok {T} (Ok y) {s} Gives {x} h e = let same : y ≡ x = cc in ap Ok same
kept_ok {T} (Err f) Gives h e = absurd (subst (λ (o : Result T Refusal). IsErrAnd o (Gives f)) e h)
