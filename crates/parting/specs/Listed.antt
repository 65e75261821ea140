-- What leaves one list of parts, one sum of their counts and one joined answer: records of the parts in order, of the runs that are made, of each atom's bit and of a call.
use Rattle.std.specs.Prelude.{ℕ, ◌+◌, ◌<◌, Bool, true, false, List, [], ◌∷◌, ◌++◌, map, ◌↔◌, ◌⊎◌, ◌≡◌, T, length, take, drop, get_or}
use Rattle.lists.specs.Bytes.{bit}
use Rattle.lists.specs.Key.{nat_key}
use Rattle.lists.specs.Member.{All, Any, In}
use Rattle.search.specs.Machine.{Satisfied, Refuted, Exhausted, root, entries}
use Rattle.problem.specs.Problem.{Clause, Problem, limit_of, atom_count}
use Rattle.problem.specs.Layout.{problem_in}
use Rattle.problem.specs.Extended.{with_clauses}
use Rattle.ground.specs.Instance.{GroundAtom, clause_of, ground_number}
use Rattle.ground.specs.Verdict.{verdict_of, answer_of}
use Rattle.relevancy.specs.Engine.{fit_result, fit_answer}
use Rattle.relevancy.specs.Claims.{Taken}
use Rattle.magic.specs.Engine.{magic_result, magic_answer}
use Rattle.magic.specs.Claims.{MagicTaken}
use Rattle.parting.specs.declared.parts.Parting.{Parting}
use Rattle.parting.specs.declared.parts.Parting.TheVariants as parting
use Rattle.parting.specs.Parts.{predicates_of, family, touches, part_of, is_lowest, is_bare, parts_of}
use Rattle.parting.specs.Runs.{find_by, is_refuted, is_exhausted, run_by, runs_of, said_by, sum_of, joined_bits, parts_result, parts_count, parts_answer}

-- ---- the parts in order

-- the numbers below n of which P holds, each once, in ascending order
pub record NumbersWhere (n : ℕ) (P : ℕ → Type 0) (ns : List ℕ) : Type 0 where
  pub members : (i : ℕ) → In nat_key ns i ↔ ((i < n) × P i)
  pub ascending : (front mid back : List ℕ) (a b : ℕ) → ns ≡ front ++ (a ∷ mid ++ (b ∷ back)) → a < b

-- "Each part keeps all constants and the full limit L": the ticket's constants, limit and arities, and those of its clauses that have these numbers, in this order
pub record WithThese (q : Problem) (ns : List ℕ) (part : Problem) : Type 0 where
  pub constants : part.constants ≡ q.constants
  pub limit : part.limit ≡ q.limit
  pub arities : part.arities ≡ q.arities
  pub clauses : part.clauses ≡ map (clause_of q) ns

-- the part of a predicate: the clauses that have a predicate of its family
pub record PartListed (q : Problem) (p : ℕ) : Type 0 where
  pub places : List ℕ
  pub listed : NumbersWhere (length q.clauses) (λ i. T (touches (family q p) (predicates_of (clause_of q i)))) places
  pub part : WithThese q places (part_of q p)

-- each clause without atoms is a part, in the order of the clauses; then each family has one, in the order of their lowest predicates; there are no others.
-- A clause is bare, and has a predicate, by its conditions and alternatives
pub record PartsListed (q : Problem) : Type 0 where
  pub bare : List ℕ
  pub lows : List ℕ
  pub parts : parts_of q ≡ map (λ i. with_clauses q (clause_of q i ∷ [])) bare ++ map (part_of q) lows
  pub bare_listed : NumbersWhere (length q.clauses) (λ i. T (is_bare (clause_of q i))) bare
  pub lows_listed : NumbersWhere (length q.arities) (λ p. T (is_lowest q p)) lows
  pub bare_is : (k : Clause) → T (is_bare k) ↔ ((k.conds ≡ []) × (k.alts ≡ []))
  pub predicates_are : (k : Clause) (p : ℕ) → In nat_key (predicates_of k) p ↔ Any (λ a. a.pred ≡ p) (k.conds ++ k.alts)
  pub bare_part : (i : ℕ) → WithThese q (i ∷ []) (with_clauses q (clause_of q i ∷ []))
  pub low_part : (p : ℕ) → PartListed q p

-- ---- the runs that are made

-- how the walk of a part ends
abbrev pub SatisfiedBy : Bool → Problem → Type 0
SatisfiedBy magic p = (n : ℕ) × ((bits : List Bool) × (run_by magic p ≡ Satisfied n bits))

abbrev pub RefutedBy : Bool → Problem → Type 0
RefutedBy magic p = (n : ℕ) × (run_by magic p ≡ Refuted n)

abbrev pub ExhaustedBy : Bool → Problem → Type 0
ExhaustedBy magic p = (n : ℕ) × (run_by magic p ≡ Exhausted n)

-- fits exactly if every part fits; and the tests for none and spent are what they are called
pub record SaidByAll (magic : Bool) (q : Problem) : Type 0 where
  pub satisfied : (said_by (runs_of magic q) ≡ parting.Satisfied) ↔ All (SatisfiedBy magic) (parts_of q)
  pub refuted_is : (p : Problem) → T (is_refuted (run_by magic p)) ↔ RefutedBy magic p
  pub exhausted_is : (p : Problem) → T (is_exhausted (run_by magic p)) ↔ ExhaustedBy magic p

-- the number of entries that an engine's walk of a part makes under a limit
abbrev pub entries_made : Bool → ℕ → Problem → ℕ
entries_made magic limit p = length (entries (find_by magic p) limit (root (find_by magic p)))

abbrev pub total : (Problem → ℕ) → List Problem → ℕ
total f [] = 0
total f (p ∷ ps) = f p + total f ps

-- the last of these is none, and none before it is
pub record EndsRefuted (magic : Bool) (made : List Problem) : Type 0 where
  pub front : List Problem
  pub final : Problem
  pub order : made ≡ front ++ (final ∷ [])
  pub none_before : All (λ p. RefutedBy magic p → ⊥) front
  pub refuted : RefutedBy magic final

-- "The first none ends it": all parts are run, or those up to the first none; "the count is the sum" of the entries of each under the ticket's limit
pub record Counted (magic : Bool) (q : Problem) (n : ℕ) : Type 0 where
  pub made : List Problem
  pub rest : List Problem
  pub parts : parts_of q ≡ made ++ rest
  pub ended : ((rest ≡ []) × All (λ p. RefutedBy magic p → ⊥) made) ⊎ EndsRefuted magic made
  pub sum : n ≡ total (entries_made magic (limit_of q.limit)) made

-- a part is run by the engine itself: its operation says and leaves the same of a table that has the part, as `layout` makes it
pub record RunByEngines (p : Problem) : Type 0 where
  pub relevancy : (tb answer work : List ℕ) → Taken tb answer work → problem_in (take 4096 tb) ≡ p
      → (fit_result tb answer work ≡ verdict_of (run_by false p)) × (fit_answer tb answer work ≡ answer_of (run_by false p) answer)
  pub magic : (tb rules answer work : List ℕ) → MagicTaken tb rules answer work → problem_in (take 4096 tb) ≡ p
      → (magic_result tb rules answer work ≡ verdict_of (run_by true p)) × (magic_answer tb rules answer work ≡ answer_of (run_by true p) answer)

-- ---- the joined answer

-- a bit for each atom: that which the model of its predicate's part has at the atom's number, whichever predicate of the family names the part
pub record BitsJoined (magic : Bool) (q : Problem) : Type 0 where
  pub one_part : (p r : ℕ) → In nat_key (family q p) r → part_of q r ≡ part_of q p
  pub size : length (joined_bits magic q) ≡ atom_count q.constants q.arities
  pub each : (p r : ℕ) (args : List ℕ) → In nat_key (family q p) r → GroundAtom q.constants q.arities r args
      → (n : ℕ) (bits : List Bool) → run_by magic (part_of q p) ≡ Satisfied n bits
      → (otherwise : Bool) → get_or (joined_bits magic q) (ground_number q.constants q.arities r args) otherwise ≡ get_or bits (ground_number q.constants q.arities r args) otherwise

-- a ticket that is one part is run as it is: the call says, counts and leaves what its walk does
pub record RunWhole (magic : Bool) (q : Problem) : Type 0 where
  pub satisfied : (n : ℕ) (bits : List Bool) → run_by magic q ≡ Satisfied n bits
      → (said_by (runs_of magic q) ≡ parting.Satisfied) × (sum_of (runs_of magic q) ≡ n) × (joined_bits magic q ≡ bits)
  pub refuted : (n : ℕ) → run_by magic q ≡ Refuted n → (said_by (runs_of magic q) ≡ parting.Refuted) × (sum_of (runs_of magic q) ≡ n)
  pub exhausted : (n : ℕ) → run_by magic q ≡ Exhausted n → (said_by (runs_of magic q) ≡ parting.Exhausted) × (sum_of (runs_of magic q) ≡ n)

-- ---- a call

-- one that is not refused says what the runs say, gives their sum, and leaves the joined bits where all parts fit; "none and spent leave the answer untouched"
pub record CallTells (magic : Bool) (q : Problem) (r : Parting) (n : ℕ) (answer left : List ℕ) : Type 0 where
  pub said : r ≡ said_by (runs_of magic q)
  pub counted : Counted magic q n
  pub given : r ≡ parting.Satisfied → left ≡ map bit (joined_bits magic q) ++ drop (length (joined_bits magic q)) answer
  pub untouched : (r ≡ parting.Satisfied → ⊥) → left ≡ answer

-- a refusal leaves the lent number and the answer
pub record RefusalKeeps (magic short : Bool) (tb : List ℕ) : Type 0 where
  pub count : (e : ℕ) → parts_result magic short tb ≡ parting.Refused e → (n : ℕ) → parts_count magic short tb n ≡ n
  pub answer : (e : ℕ) → parts_result magic short tb ≡ parting.Refused e → (bytes : List ℕ) → parts_answer magic short tb bytes ≡ bytes
