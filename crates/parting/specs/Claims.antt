-- What is claimed of parts and of the calls that run them, whatever the code: the contracts of `parts_calls::by_relevancy::parts_relevancy` and `parts_calls::by_magic::parts_magic` equate what they give and
-- leave with `parts_result`, `parts_count`, `parts_answer`, `fit_work`, `magic_work` and `magic_rules`. `proofs/Theorems.antt` proves `Theorems`.
use Rattle.std.specs.Prelude.{ℕ, ◌≤◌, ◌<◌, Bool, true, false, List, [], ◌∷◌, ◌↔◌, ◌⊎◌, ◌≡◌, T, length, take, Ok}
use Rattle.lists.specs.Bytes.{is_set}
use Rattle.lists.specs.Key.{nat_key}
use Rattle.lists.specs.Member.{All, Any, In}
use Rattle.search.specs.Ground.{Model}
use Rattle.search.specs.Machine.{trail}
use Rattle.search.specs.Relevancy.{find_r}
use Rattle.problem.specs.Problem.{Problem, Fits, limit_of}
use Rattle.problem.specs.Layout.{layout, problem_in}
use Rattle.problem.specs.Extended.{with_clauses}
use Rattle.ground.specs.declared.verdict.Verdict.TheVariants.{Satisfied as IsSatisfied, Refused as IsRefused}
use Rattle.ground.specs.Instance.{clause_of, ground_of}
use Rattle.ground.specs.Verdict.{verdict_of, answer_of}
use Rattle.judging.specs.declared.judge.Judgement.TheVariants.{Model as IsModel}
use Rattle.judging.specs.ModelCheck.{judge_result}
use Rattle.judging.specs.Demand2.{ground_lent, Demand2}
use Rattle.relevancy.specs.Engine.{too_short, fit_result}
use Rattle.relevancy.specs.Claims.{Taken}
use Rattle.rewriting.specs.Facts.{find_in}
use Rattle.rewriting.specs.RulesLayout.{rules_layout}
use Rattle.magic.specs.Engine.{magic_too_short, magic_result}
use Rattle.magic.specs.Claims.{MagicTaken}
use Rattle.agreement.specs.Claims.{BothTaken, SameFacts}
use Rattle.parting.specs.declared.parts.Parting.{Parting}
use Rattle.parting.specs.declared.parts.Parting.TheVariants as parting
use Rattle.parting.specs.Parts.{predicates_of, Together, family, touches, part_of, is_lowest, is_bare, parts_of}
use Rattle.parting.specs.Runs.{is_refuted, is_exhausted, run_by, runs_of, said_by, sum_of, predicate_at, parts_result, parts_count, parts_answer}
use Rattle.parting.specs.Listed.{PartsListed, SaidByAll, Counted, RunByEngines, BitsJoined, RunWhole, CallTells, RefusalKeeps}

-- ---- what a part is

-- clause i has predicate p
abbrev pub Has : Problem → ℕ → ℕ → Type 0
Has q i p = In nat_key (predicates_of (clause_of q i)) p

-- two predicates stand in clauses that belong together
pub record Joined (q : Problem) (p r : ℕ) : Type 0 where
  pub from : ℕ
  pub to : ℕ
  pub together : Together q from to
  pub has_first : Has q from p
  pub has_second : Has q to r

-- clause i is one of the part that predicate p belongs to
abbrev pub Within : Problem → ℕ → ℕ → Type 0
Within q p i = T (touches (family q p) (predicates_of (clause_of q i)))

pub record PartsAre (q : Problem) : Type 0 where
  -- predicates are of one family exactly if they stand in clauses that belong together, or are the same
  pub families : (p r : ℕ) → In nat_key (family q p) r ↔ ((p ≡ r) ⊎ Joined q p r)
  -- two clauses are of one part exactly if they belong together
  pub together : (p i j : ℕ) → Within q p i → Within q p j ↔ Together q i j
  -- a part is named by the lowest predicate of its family
  pub lowest : (p : ℕ) → T (is_lowest q p) ↔ ((r : ℕ) → In nat_key (family q p) r → p ≤ r)
  -- every clause has no atoms, or is of a part so named, and of no other
  pub placed : (i : ℕ) → i < length q.clauses → T (is_bare (clause_of q i)) ⊎ ((p : ℕ) × ((p < length q.arities) × T (is_lowest q p) × Within q p i))
  pub placed_once : (p r i : ℕ) → T (is_lowest q p) → T (is_lowest q r) → Within q p i → Within q r i → p ≡ r
  -- the part that a predicate belongs to, from which the bits of its atoms are taken, is one of those that are run
  pub run : (r : ℕ) → r < length q.arities → Any (λ p. p ≡ part_of q r) (parts_of q)
  -- a predicate in no clause is a part without clauses, and it fits
  pub unused : (p : ℕ) → ((i : ℕ) → Has q i p → ⊥) → T (is_lowest q p) × (part_of q p ≡ with_clauses q [])
  pub unused_fits : (magic : Bool) → verdict_of (run_by magic (with_clauses q [])) ≡ IsSatisfied 0

-- ---- models of the parts join, and a model of the whole is one of each part

pub record ModelsJoin (q : Problem) : Type 1 where
  pub apart : (M : ℕ → Type 0) → Model (ground_of q) M → All (λ p. Model (ground_of p) M) (parts_of q)
  -- an atom is in the joined set if it is in the set of the part that its predicate belongs to
  pub joined : (M : Problem → ℕ → Type 0) → All (λ p. Model (ground_of p) (M p)) (parts_of q) → Model (ground_of q) (λ a. M (part_of q (predicate_at q a)) a)

-- ---- demands 2 and 3 of one part

pub record PartWalked (p : Problem) : Type 1 where
  -- it is a problem by itself
  pub fits : Fits p
  -- each engine's verdict of it is right by the logic, spent and count are those of the engine's own walk of it
  pub demand_2 : (answer : List ℕ) → 1024 ≤ length answer
      → Demand2 (find_r (ground_of p)) (ground_of p) (limit_of p.limit) (layout p) (verdict_of (run_by false p)) (answer_of (run_by false p) answer)
  pub magic_demand_2 : (answer : List ℕ) → 1024 ≤ length answer
      → Demand2 (find_in (rules_layout p)) (ground_of p) (limit_of p.limit) (layout p) (verdict_of (run_by true p)) (answer_of (run_by true p) answer)
  -- the two whole trails are one, at every place the facts agree, and so do verdict, count and model
  pub trails : trail (find_in (rules_layout p)) (limit_of p.limit) ≡ trail (find_r (ground_of p)) (limit_of p.limit)
  pub facts : All (λ s. (x : ℕ) → SameFacts (layout p) (rules_layout p) s x) (trail (find_r (ground_of p)) (limit_of p.limit))
  pub outcomes : run_by true p ≡ run_by false p

-- ---- what the runs say

-- none exactly if some part is none, whatever the others are; spent exactly if some part is spent and none is none; fits exactly if all fit
pub record SaidOf (magic : Bool) (q : Problem) : Type 0 where
  pub refuted : (said_by (runs_of magic q) ≡ parting.Refuted) ↔ Any (λ p. T (is_refuted (run_by magic p))) (parts_of q)
  pub exhausted : (said_by (runs_of magic q) ≡ parting.Exhausted)
      ↔ (Any (λ p. T (is_exhausted (run_by magic p))) (parts_of q) × All (λ p. T (is_refuted (run_by magic p)) → ⊥) (parts_of q))
  pub satisfied : (said_by (runs_of magic q) ≡ parting.Satisfied)
      ↔ (All (λ p. T (is_refuted (run_by magic p)) → ⊥) (parts_of q) × All (λ p. T (is_exhausted (run_by magic p)) → ⊥) (parts_of q))

-- "Fits and none are right for the whole ticket"
pub record WholeRight (tb : List ℕ) (r : Parting) (left : List ℕ) : Type 1 where
  pub model : r ≡ parting.Satisfied → Model (ground_lent tb) (λ a. T (is_set left a))
  pub judged : r ≡ parting.Satisfied → judge_result tb left ≡ Ok IsModel
  pub no_model : r ≡ parting.Refuted → (M : ℕ → Type 0) → Model (ground_lent tb) M → ⊥

-- both engines say and leave the same
pub record SameParts (tb : List ℕ) (short₁ short₂ : Bool) : Type 0 where
  pub results : parts_result true short₂ tb ≡ parts_result false short₁ tb
  pub counts : (count : ℕ) → parts_count true short₂ tb count ≡ parts_count false short₁ tb count
  pub answers : (answer : List ℕ) → parts_answer true short₂ tb answer ≡ parts_answer false short₁ tb answer

pub record Theorems : Type 1 where
  pub parts_are : (q : Problem) → Fits q → PartsAre q
  pub models_join : (q : Problem) → Fits q → ModelsJoin q
  -- "demand 2's spent and count, and demand 3, hold part by part"
  pub parts_walked : (q : Problem) → Fits q → All PartWalked (parts_of q)
  pub said_of : (magic : Bool) (q : Problem) → SaidOf magic q
  pub relevancy_right : (tb answer work : List ℕ) → Taken tb answer work
      → WholeRight tb (parts_result false (too_short tb answer work) tb) (parts_answer false (too_short tb answer work) tb answer)
  pub magic_right : (tb rules answer work : List ℕ) → MagicTaken tb rules answer work
      → WholeRight tb (parts_result true (magic_too_short tb rules answer work) tb) (parts_answer true (magic_too_short tb rules answer work) tb answer)
  -- every other call is refused
  pub taken_or_refused : (tb answer work : List ℕ)
      → Taken tb answer work ⊎ (parts_result false (too_short tb answer work) tb ≡ parting.Refused 11) ⊎ (parts_result false (too_short tb answer work) tb ≡ parting.Refused 31)
  pub magic_taken_or_refused : (tb rules answer work : List ℕ)
      → MagicTaken tb rules answer work ⊎ (parts_result true (magic_too_short tb rules answer work) tb ≡ parting.Refused 11)
      ⊎ (parts_result true (magic_too_short tb rules answer work) tb ≡ parting.Refused 31)
  -- "refusals 11 and 31 as in a first run": just where the engine's own run is refused, and by the same number
  pub refused_alike : (tb answer work : List ℕ) (e : ℕ) → (parts_result false (too_short tb answer work) tb ≡ parting.Refused e) ↔ (fit_result tb answer work ≡ IsRefused e)
  pub magic_refused_alike : (tb rules answer work : List ℕ) (e : ℕ)
      → (parts_result true (magic_too_short tb rules answer work) tb ≡ parting.Refused e) ↔ (magic_result tb rules answer work ≡ IsRefused e)
  pub engines_agree : (tb rules answer work₁ work₂ : List ℕ) → BothTaken tb rules answer work₁ work₂ → SameParts tb (too_short tb answer work₁) (magic_too_short tb rules answer work₂)
  -- one list of parts, one sum and one joined answer
  pub parts_listed : (q : Problem) → PartsListed q
  pub said_by_all : (magic : Bool) (q : Problem) → SaidByAll magic q
  pub counted : (magic : Bool) (q : Problem) → Counted magic q (sum_of (runs_of magic q))
  pub run_by_engines : (q : Problem) → All RunByEngines (parts_of q)
  pub bits_joined : (magic : Bool) (q : Problem) → Fits q → BitsJoined magic q
  pub run_whole : (magic : Bool) (q : Problem) → Fits q → parts_of q ≡ q ∷ [] → RunWhole magic q
  -- and these are what a call tells
  pub relevancy_tells : (tb answer work : List ℕ) → Taken tb answer work → (count : ℕ)
      → CallTells false (problem_in (take 4096 tb)) (parts_result false (too_short tb answer work) tb) (parts_count false (too_short tb answer work) tb count) answer
      (parts_answer false (too_short tb answer work) tb answer)
  pub magic_tells : (tb rules answer work : List ℕ) → MagicTaken tb rules answer work → (count : ℕ)
      → CallTells true (problem_in (take 4096 tb)) (parts_result true (magic_too_short tb rules answer work) tb) (parts_count true (magic_too_short tb rules answer work) tb count) answer
      (parts_answer true (magic_too_short tb rules answer work) tb answer)
  pub refusal_keeps : (magic short : Bool) (tb : List ℕ) → RefusalKeeps magic short tb
