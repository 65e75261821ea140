-- The papers' number for each refusal: document 01's "Where each operation stops", and 41 to 45 of document 02.
use Rattle.std.specs.Prelude.{ℕ, List, [], ◌∷◌, cond, eqb}
use Rattle.problem.specs.declared.fault.Fault.{Fault}
use Rattle.problem.specs.declared.fault.Fault.TheVariants.{BadLine, BadKind, BadLength, BadVersion, BadCount, Unknown, BadNumbering, FreeVariable, TooManyAtoms, TooManyMarks, ShortBuffer, NoTable, BadAnswer, TooManyEntries, NoSession, StaleSlip, NoInstance, BadFacts}

abbrev pub fault_number : Fault → ℕ
fault_number BadLine = 1
fault_number BadKind = 2
fault_number BadLength = 3
fault_number BadVersion = 4
fault_number BadCount = 5
fault_number Unknown = 6
fault_number BadNumbering = 7
fault_number FreeVariable = 8
fault_number TooManyAtoms = 9
fault_number TooManyMarks = 10
fault_number ShortBuffer = 11
fault_number NoTable = 31
fault_number BadAnswer = 32
fault_number TooManyEntries = 41
fault_number NoSession = 42
fault_number StaleSlip = 43
fault_number NoInstance = 44
fault_number BadFacts = 45

abbrev pub all_faults : List Fault
all_faults =
    BadLine ∷ BadKind ∷ BadLength ∷ BadVersion ∷ BadCount ∷ Unknown ∷ BadNumbering ∷ FreeVariable ∷ TooManyAtoms ∷ TooManyMarks ∷ ShortBuffer
    ∷ NoTable ∷ BadAnswer ∷ TooManyEntries ∷ NoSession ∷ StaleSlip ∷ NoInstance ∷ BadFacts ∷ []

-- the first of some faults with a number, or the one that is given if none has it
abbrev pub first_numbered : Fault → List Fault → ℕ → Fault
first_numbered other [] n = other
first_numbered other (e ∷ es) n = cond (eqb (fault_number e) n) e (first_numbered other es n)

-- the refusal with a number, as a host takes it out of an answer
abbrev pub fault_of : ℕ → Fault
fault_of n = first_numbered BadLine all_faults n
