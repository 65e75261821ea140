-- What is claimed of a rule offered, then set, as what the operations give and leave: the contracts of `offer` and `set` equate them with `offer_result`,
-- `offer_leaves` and `set_result`, `set_leaves`. `proofs/Theorems.antt` proves `Theorems`.
use Rattle.std.specs.Prelude.{ℕ, ◌+◌, ◌-◌, ◌≤◌, ◌<◌, List, [], ◌∷◌, ◌++◌, ◌≡◌, length, take, drop, get_or, replicate, Ok, Err}
use Rattle.lists.specs.Key.{nat_key}
use Rattle.lists.specs.Member.{All, In}
use Rattle.problem.specs.Problem.{Clause, Problem, Fits}
use Rattle.problem.specs.Layout.{layout, problem_in}
use Rattle.problem.specs.Table.{Valid}
use Rattle.problem.specs.Print.{clause_frame}
use Rattle.problem.specs.Extended.{with_clause, judge_next, text_with}
use Rattle.problem.specs.declared.fault.Fault.{Fault}
use Rattle.problem.specs.declared.fault.Fault.TheVariants.{BadLength, NoTable, StaleSlip}
use Rattle.problem.specs.Faults.{fault_number}
use Rattle.reading.specs.Read.{Reading, read_result, read_leaves}
use Rattle.offering.specs.Offer.{Offering, count_held, frame_held, offering_of, offer_result, offer_leaves, set_result, set_leaves}

-- the problem in a lent table
abbrev pub problem_lent : List ℕ → Problem
problem_lent tb = problem_in (take 4096 tb)

-- what a slip holds after an offer that was taken
pub record Held (tb f slip : List ℕ) : Type 0 where
  pub count : count_held slip ≡ length (problem_lent tb).clauses
  pub frame : frame_held slip ≡ f
  pub rest : drop (length f) (take 35 (drop 2 slip)) ≡ replicate (35 - length f) 0

-- a slip after any frames were offered, each into what the one before left
abbrev pub after_offers : List ℕ → List (List ℕ) → List ℕ → List ℕ
after_offers tb [] slip = slip
after_offers tb (f ∷ fs) slip = after_offers tb fs (offer_leaves tb f slip)

-- what an offer says, as reading says it of a line
abbrev pub as_read : ℕ → Offering → Reading
as_read line (Err e) = Err (record { fault = e; line = line })
as_read line (Ok u) = Ok tt

-- a slip set: exactly its clause is added after the others, in a valid table
pub record SetAs (tb slip : List ℕ) : Type 0 where
  pub clause : Clause
  pub said : clause_frame clause ≡ frame_held slip
  pub fits : Fits (with_clause (problem_lent tb) clause)
  pub added : set_leaves tb slip ≡ layout (with_clause (problem_lent tb) clause) ++ drop 4096 tb
  pub valid : Valid (take 4096 (set_leaves tb slip))

-- "the refusal (2, 3, 5 to 8 or 10) that reading it as the next clause line would give"
abbrev pub clause_refusals : List ℕ
clause_refusals = 2 ∷ 3 ∷ 5 ∷ 6 ∷ 7 ∷ 8 ∷ 10 ∷ []

pub record Theorems : Type 0 where
  -- "Both calls check 31 first", after 11; an offer then says what judging the frame as the next clause line says
  pub unlawful : (tb f slip : List ℕ) → 4096 ≤ length tb → 37 ≤ length slip → (Valid (take 4096 tb) → ⊥) → (offer_result tb f slip ≡ Err NoTable) × (set_result tb slip ≡ Err NoTable)
  pub judged : (tb f slip : List ℕ) → 4096 ≤ length tb → 37 ≤ length slip → Valid (take 4096 tb) → offer_result tb f slip ≡ offering_of (judge_next (problem_lent tb) f)
  -- which numbers an offer is refused by, and a setting
  pub refusals : (tb f slip : List ℕ) (e : Fault) → offer_result tb f slip ≡ Err e → In nat_key (11 ∷ 31 ∷ clause_refusals) (fault_number e)
  pub set_refusals : (tb slip : List ℕ) (e : Fault) → set_result tb slip ≡ Err e → In nat_key (11 ∷ 31 ∷ 43 ∷ clause_refusals) (fault_number e)
  -- a refusal changes nothing
  pub unoffered_kept : (tb f slip : List ℕ) (e : Fault) → offer_result tb f slip ≡ Err e → offer_leaves tb f slip ≡ slip
  pub unset_kept : (tb slip : List ℕ) (e : Fault) → set_result tb slip ≡ Err e → set_leaves tb slip ≡ tb
  -- "The slip holds the frame and the clause count seen."
  pub slip_holds : (tb f slip : List ℕ) → offer_result tb f slip ≡ Ok tt → Held tb f (offer_leaves tb f slip)
  pub slip_beyond : (tb f slip : List ℕ) → offer_result tb f slip ≡ Ok tt → drop 37 (offer_leaves tb f slip) ≡ drop 37 slip
  -- "If only offers were made in between, setting succeeds": any number of them, to the same ticket, with any bytes, into this slip; one into another leaves this one
  pub offers_between : (tb f slip : List ℕ) (fs : List (List ℕ)) → offer_result tb f slip ≡ Ok tt → set_result tb (after_offers tb fs (offer_leaves tb f slip)) ≡ Ok tt
  -- "Setting it adds exactly that clause after the others."
  pub set_as : (tb slip : List ℕ) → set_result tb slip ≡ Ok tt → SetAs tb slip
  -- a slip is set once
  pub set_once : (tb slip : List ℕ) → set_result tb slip ≡ Ok tt → set_result (set_leaves tb slip) slip ≡ Err StaleSlip
  -- a slip may hold anything: 43 comes before its clause is looked at, a frame longer than its room is 3, and else its clause is judged as an offer of it is
  pub seen_first : (tb slip : List ℕ) → 4096 ≤ length tb → 37 ≤ length slip → Valid (take 4096 tb) → (count_held slip ≡ length (problem_lent tb).clauses → ⊥)
      → set_result tb slip ≡ Err StaleSlip
  pub too_long : (tb slip : List ℕ) → 4096 ≤ length tb → 37 ≤ length slip → Valid (take 4096 tb) → count_held slip ≡ length (problem_lent tb).clauses
      → 36 ≤ get_or slip 1 0 → set_result tb slip ≡ Err BadLength
  pub set_as_offered : (tb slip : List ℕ) → count_held slip ≡ length (problem_lent tb).clauses → get_or slip 1 0 ≤ 35 → set_result tb slip ≡ offer_result tb (frame_held slip) slip
  -- the refusal is the one that reading the text with this line gives, at that line
  pub offered_as_read : (tb f slip : List ℕ) → 4096 ≤ length tb → 37 ≤ length slip → Valid (take 4096 tb) → All (λ b. b < 256) f → length f ≤ 35 → get_or f 0 0 ≡ 3
      → read_result (text_with (problem_lent tb) f) tb ≡ as_read (2 + length (problem_lent tb).arities + length (problem_lent tb).clauses) (offer_result tb f slip)
  -- offering and setting is reading the longer text
  pub set_as_read : (tb f slip : List ℕ) → offer_result tb f slip ≡ Ok tt
      → set_leaves tb (offer_leaves tb f slip) ≡ read_leaves (text_with (problem_lent tb) f) tb
