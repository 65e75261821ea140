-- What is claimed of shuffled problems and of the three engines on them, whatever the code: the contracts of `relevancy_calls::fit::fit`, `magic_calls::fit::fit` and
-- `staged::fit::fit` equate their verdicts with `fit_result`, `magic_result` and `staged_result`. `proofs/Theorems.antt` proves `Theorems`.
use Rattle.std.specs.Prelude.{ℕ, ◌<◌, List, ◌∷◌, ◌++◌, map, ◌↔◌, ◌≡◌, length, take}
use Rattle.lists.specs.Member.{All}
use Rattle.search.specs.Ground.{Model, Found}
use Rattle.search.specs.Machine.{Outcome, outcome}
use Rattle.search.specs.Sound.{SoundFind}
use Rattle.problem.specs.Problem.{Clause, Problem, Fits}
use Rattle.problem.specs.Layout.{problem_in}
use Rattle.problem.specs.Extended.{with_clauses}
use Rattle.ground.specs.Instance.{Instance, ground_of}
use Rattle.ground.specs.declared.verdict.Verdict.{Verdict}
use Rattle.ground.specs.Verdict.{verdict_of}
use Rattle.relevancy.specs.Engine.{fit_result}
use Rattle.staged.specs.Engine.{staged_result}
use Rattle.staged.specs.Claims.{Contradict}
use Rattle.magic.specs.Engine.{magic_result}
use Rattle.shuffling.specs.Shuffled.{Permuted, clause_by, OneToOne, swap, Shuffled}
use Rattle.shuffling.specs.Cases.{CaseShuffled}

-- a call of one of the three engines, with all that is lent to it: the table first, the answer and the work buffer last
pub data Call : Type 0 where
  by_relevancy : List ℕ → List ℕ → List ℕ → Call
  by_magic : List ℕ → List ℕ → List ℕ → List ℕ → Call
  by_stages : List ℕ → List ℕ → List ℕ → Call

abbrev pub said_by : Call → Verdict
said_by (by_relevancy tb answer work) = fit_result tb answer work
said_by (by_magic tb rules answer work) = magic_result tb rules answer work
said_by (by_stages tb answer work) = staged_result tb answer work

abbrev pub table_of : Call → List ℕ
table_of (by_relevancy tb answer work) = tb
table_of (by_magic tb rules answer work) = tb
table_of (by_stages tb answer work) = tb

-- the problem of the table that is lent
abbrev pub problem_lent : Call → Problem
problem_lent call = problem_in (take 4096 (table_of call))

abbrev pub HasModel : Problem → Type 1
HasModel q = (M : ℕ → Type 0) × Model (ground_of q) M

-- a model by one walk, and none by the other
abbrev pub ContradictBy : Outcome → Outcome → Type 0
ContradictBy o p = Contradict (verdict_of o) (verdict_of p)

pub record Theorems : Type 1 where
  -- "never turn fits into none or none into fits, in any of the three engines": whichever engine is called for either problem, and whatever else is lent
  pub never_turned : (a b : Call) → Shuffled (problem_lent a) (problem_lent b) → Contradict (said_by a) (said_by b) → ⊥
  -- U12: so on one and the same ground problem, under whatever limits
  pub never_contradict : (a b : Call) → ground_of (problem_lent a) ≡ ground_of (problem_lent b) → Contradict (said_by a) (said_by b) → ⊥
  -- any sound ways of finding a node, so walks in pieces too
  pub walks_never_turned : (q r : Problem) → Fits q → Fits r → Shuffled q r → (f g : List ℕ → Found Instance) → SoundFind (ground_of q) f → SoundFind (ground_of r) g → (limit other : ℕ)
      → ContradictBy (outcome f limit) (outcome g other) → ⊥
  -- "the same clauses in another order of lines"; "likewise when the constants are renumbered one to one throughout"; and one after the other
  pub order_shuffles : (q : Problem) (ks : List Clause) → Permuted q.clauses ks → Shuffled q (with_clauses q ks)
  pub renumbering_shuffles : (q : Problem) (σ : ℕ → ℕ) → OneToOne q.constants σ → Shuffled q (with_clauses q (map (clause_by σ) q.clauses))
  -- any two constants exchanged, and so, by `shuffled_again`, any renumbering
  pub swaps : (c a b : ℕ) → a < c → b < c → OneToOne c (swap a b)
  pub shuffled_again : (q r s : Problem) → Fits q → Shuffled q r → Shuffled r s → Shuffled q s
  pub shuffled_back : (q r : Problem) → Fits q → Shuffled q r → Shuffled r q
  -- any two lines exchanged, and so, by `shuffled_again`, any order
  pub lines_exchanged : (q : Problem) (front mid back : List Clause) (k l : Clause) → q.clauses ≡ front ++ (k ∷ mid ++ (l ∷ back))
      → Shuffled q (with_clauses q (front ++ (l ∷ mid ++ (k ∷ back))))
  -- a shuffled problem is well formed, so that its text is accepted
  pub shuffled_fits : (q r : Problem) → Fits q → Shuffled q r → length r.limit ≡ 4 → All (λ b. b < 256) r.limit → Fits r
  -- and it has a model exactly where the problem has one
  pub models_move : (q r : Problem) → Fits q → Shuffled q r → HasModel q ↔ HasModel r
  -- as on this ticket
  pub case_shuffled : CaseShuffled
