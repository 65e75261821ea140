-- What is claimed of a call with assumptions (02: U11), whatever the code: the contracts of `assume_relevancy` and `assume_magic` equate what they give and leave with
-- `assumed_of`, `first_left`, `second_left`, `work_left` and `rules_left` of `relevancy_runs` and `magic_runs`. `proofs/Theorems.antt` proves `Theorems`.
use Rattle.std.specs.Prelude.{ℕ, ◌+◌, ◌≤◌, ◌<◌, min, Bool, true, false, List, [], ◌∷◌, ◌++◌, ◌↔◌, ◌⊎◌, ◌≡◌, length, take, replicate}
use Rattle.lists.specs.Key.{nat_key}
use Rattle.lists.specs.Member.{All, Distinct}
use Rattle.search.specs.Ground.{Model, Marked, Found}
use Rattle.search.specs.Machine.{Place, Outcome, Refuted, outcome, FullWalk}
use Rattle.search.specs.Relevancy.{find_r}
use Rattle.problem.specs.Problem.{Problem, Fits, atom_count, limit_of}
use Rattle.problem.specs.Extended.{with_clause}
use Rattle.problem.specs.Layout.{problem_in}
use Rattle.problem.specs.Table.{Valid}
use Rattle.ground.specs.declared.verdict.Verdict.TheVariants.{Refused as IsRefused}
use Rattle.ground.specs.Instance.{Instance, ground_atoms, ground_of}
use Rattle.ground.specs.Verdict.{verdict_of, answer_of}
use Rattle.judging.specs.Demand2.{Demand2}
use Rattle.relevancy.specs.Claims.{Taken}
use Rattle.relevancy.specs.Engine.{fit_result, fit_work}
use Rattle.rewriting.specs.Facts.{find_in}
use Rattle.rewriting.specs.Rewrite.{rules_over}
use Rattle.magic.specs.Claims.{MagicTaken}
use Rattle.magic.specs.Engine.{magic_result, magic_work}
use Rattle.assuming.specs.declared.assume.Assumed.{Assumed}
use Rattle.assuming.specs.declared.assume.Assumed.TheVariants.{Always, Sometimes, Never, Exhausted}
use Rattle.assuming.specs.Assume.{fact_clause, assuming, assumed_table, picked, Runs, declined, runs, assumed_of, first_left, second_left, work_left}
use Rattle.assuming.specs.Engines.{relevancy_runs, magic_runs, rules_left}

-- the problem in a lent table
abbrev pub problem_lent : List ℕ → Problem
problem_lent tb = problem_in (take 4096 tb)

-- ---- what the answers mean

-- "no fitting exists, whatever L": no set of atoms at all is a model
abbrev pub NoModel : Problem → Type 1
NoModel q = (M : ℕ → Type 0) → Model (ground_of q) M → ⊥

-- a set of atoms, given by bits, is a model
pub record HasModel (q : Problem) : Type 0 where
  pub bits : List Bool
  pub model : Model (ground_of q) (Marked bits)

-- "the choices of which open facts to add, including no fact and all of them": a bit for each fact
abbrev pub EachChoice {ℓ} : (Problem → Type ℓ) → Problem → List ℕ → Type ℓ
EachChoice P q facts = (bits : List Bool) → length bits ≡ length facts → P (assuming q (picked bits facts))

abbrev pub SomeChoice {ℓ} : (Problem → Type ℓ) → Problem → List ℕ → Type ℓ
SomeChoice P q facts = (bits : List Bool) × ((length bits ≡ length facts) × P (assuming q (picked bits facts)))

-- "for all, for some but not all, or for none of the choices": exactly so, but where a run is spent
pub record Meaning (q : Problem) (facts : List ℕ) (r : Assumed) : Type 1 where
  pub always : (r ≡ Exhausted → ⊥) → (r ≡ Always) ↔ EachChoice NoModel q facts
  pub sometimes : (r ≡ Exhausted → ⊥) → (r ≡ Sometimes) ↔ (SomeChoice NoModel q facts × SomeChoice HasModel q facts)
  pub never : (r ≡ Exhausted → ⊥) → (r ≡ Never) ↔ EachChoice HasModel q facts

-- ---- the runs of a call

-- facts that a call takes beside a problem
pub record Assumable (q : Problem) (facts : List ℕ) : Type 0 where
  pub room : length q.clauses + length facts ≤ 64
  pub few : length facts ≤ 16
  pub atoms : All (λ a. a < atom_count q.constants q.arities) facts
  pub distinct : Distinct nat_key facts

-- a run by an engine that finds its nodes so, on a table of a problem: demand 2 of the outcome, whatever buffer the model is put into
pub record Ran (find : List ℕ → Found Instance) (q : Problem) (tb : List ℕ) (o : Outcome) : Type 1 where
  pub valid : Valid (take 4096 tb)
  pub problem : problem_lent tb ≡ q
  pub walked : o ≡ outcome find (limit_of q.limit)
  pub demand_2 : (answer : List ℕ) → 1024 ≤ length answer → Demand2 find (ground_of q) (limit_of q.limit) tb (verdict_of o) (answer_of o answer)

-- the problem by itself, then with all facts, each run with its own way of finding nodes
pub record TwoRuns (find find_all : List ℕ → Found Instance) (tb facts : List ℕ) (r : Runs) : Type 1 where
  pub alone : Outcome
  pub all : Outcome
  pub made : r ≡ runs alone all
  pub first : Ran find (problem_lent tb) tb alone
  pub second : Ran find_all (assuming (problem_lent tb) facts) (assumed_table (take 4096 tb) facts) all
  pub meaning : Meaning (problem_lent tb) facts (assumed_of r)
  -- "spent in a run that is made gives spent": by the two walks without a limit, es and fs
  pub exhausted : (es fs : List (Place Instance)) → FullWalk find es → FullWalk find_all fs → (assumed_of r ≡ Exhausted)
      ↔ ((limit_of (problem_lent tb).limit < length es) ⊎ (HasModel (problem_lent tb) × (limit_of (problem_lent tb).limit < length fs)))
  -- "Each run's count is given, 0 for one not made"
  pub first_count : (es : List (Place Instance)) → FullWalk find es → (held : ℕ) → first_left r held ≡ min (limit_of (problem_lent tb).limit) (length es)
  pub second_count : (fs : List (Place Instance)) → FullWalk find_all fs → ((n : ℕ) → alone ≡ Refuted n → ⊥) → (held : ℕ)
      → second_left r held ≡ min (limit_of (problem_lent tb).limit) (length fs)
  pub not_made : (n : ℕ) → alone ≡ Refuted n → (held : ℕ) → second_left r held ≡ 0

-- a refusal leaves the lent numbers and the work as they were
pub record RefusalKeeps (r : Runs) : Type 0 where
  pub first : (e : ℕ) → r ≡ declined e → (held : ℕ) → first_left r held ≡ held
  pub second : (e : ℕ) → r ≡ declined e → (held : ℕ) → second_left r held ≡ held
  pub work : (e : ℕ) → r ≡ declined e → (bytes : List ℕ) → work_left r bytes ≡ bytes

-- a call by the relevancy engine
pub record ByRelevancy (tb facts answer work : List ℕ) : Type 1 where
  -- every call is taken or refused: as a first run is, by 11 or 31; then by 5, then by 45
  pub one_of : (Taken tb answer work × Assumable (problem_lent tb) facts) ⊎ (relevancy_runs tb facts answer work ≡ declined 11)
      ⊎ (relevancy_runs tb facts answer work ≡ declined 31) ⊎ (relevancy_runs tb facts answer work ≡ declined 5) ⊎ (relevancy_runs tb facts answer work ≡ declined 45)
  pub refused_first : (e : ℕ) → fit_result tb answer work ≡ IsRefused e → relevancy_runs tb facts answer work ≡ declined e
  pub refused_5 : Taken tb answer work → 64 < length (problem_lent tb).clauses + length facts → relevancy_runs tb facts answer work ≡ declined 5
  pub refused_45 : Taken tb answer work → length (problem_lent tb).clauses + length facts ≤ 64 → (Assumable (problem_lent tb) facts → ⊥) → relevancy_runs tb facts answer work ≡ declined 45
  pub two_runs : Taken tb answer work → Assumable (problem_lent tb) facts
      → TwoRuns (find_r (ground_of (problem_lent tb))) (find_r (ground_of (assuming (problem_lent tb) facts))) tb facts (relevancy_runs tb facts answer work)
  pub refused_kept : RefusalKeeps (relevancy_runs tb facts answer work)
  -- "Work bytes are zero afterwards", as after an engine's own run
  pub work_left : Taken tb answer work → Assumable (problem_lent tb) facts → work_left (relevancy_runs tb facts answer work) work ≡ fit_work tb answer work

-- a call by the magic engine; each of its runs is by the rules that are in the rules buffer then
pub record ByMagic (tb facts rules answer work : List ℕ) : Type 1 where
  pub one_of : (MagicTaken tb rules answer work × Assumable (problem_lent tb) facts) ⊎ (magic_runs tb facts rules answer work ≡ declined 11)
      ⊎ (magic_runs tb facts rules answer work ≡ declined 31) ⊎ (magic_runs tb facts rules answer work ≡ declined 5) ⊎ (magic_runs tb facts rules answer work ≡ declined 45)
  pub refused_first : (e : ℕ) → magic_result tb rules answer work ≡ IsRefused e → magic_runs tb facts rules answer work ≡ declined e
  pub refused_5 : MagicTaken tb rules answer work → 64 < length (problem_lent tb).clauses + length facts → magic_runs tb facts rules answer work ≡ declined 5
  pub refused_45 : MagicTaken tb rules answer work → length (problem_lent tb).clauses + length facts ≤ 64 → (Assumable (problem_lent tb) facts → ⊥)
      → magic_runs tb facts rules answer work ≡ declined 45
  pub two_runs : MagicTaken tb rules answer work → Assumable (problem_lent tb) facts
      → TwoRuns (find_in (rules_over (take 4096 tb) (take 16384 rules))) (find_in (rules_over (assumed_table (take 4096 tb) facts) (take 16384 rules))) tb facts
      (magic_runs tb facts rules answer work)
  pub refused_kept : RefusalKeeps (magic_runs tb facts rules answer work)
  -- a refusal leaves the rules as they were too
  pub refused_rules : (e : ℕ) → rules_left (declined e) tb facts rules ≡ rules
  pub work_left : MagicTaken tb rules answer work → Assumable (problem_lent tb) facts → work_left (magic_runs tb facts rules answer work) work ≡ magic_work tb rules answer work

-- ---- all of it

pub record Theorems : Type 1 where
  -- the clause of a fact gives the atom that has the fact's number
  pub fact_is : (q : Problem) → Fits q → (a : ℕ) → a < atom_count q.constants q.arities → (values : List ℕ) → ground_atoms q values (fact_clause q a).alts ≡ a ∷ []
  -- "in the lent order", after the ticket's clauses: each fact's clause comes next
  pub none_added : (q : Problem) → assuming q [] ≡ q
  pub next_added : (q : Problem) (facts : List ℕ) (a : ℕ) → assuming q (facts ++ (a ∷ [])) ≡ with_clause (assuming q facts) (fact_clause q a)
  -- so the models of a problem with facts are its models that hold them
  pub added : (q : Problem) → Fits q → (facts : List ℕ) → All (λ a. a < atom_count q.constants q.arities) facts → (M : ℕ → Type 0)
      → Model (ground_of (assuming q facts)) M ↔ (Model (ground_of q) M × All (λ a. ∥ M a ∥₁) facts)
  -- a well-formed problem stays one, whichever of the facts are added
  pub choice_fits : (q : Problem) → Fits q → (facts : List ℕ) → Assumable q facts → (bits : List Bool) → Fits (assuming q (picked bits facts))
  -- "including no fact and all of them": the choices that the two runs are about
  pub no_fact : (q : Problem) (facts : List ℕ) → assuming q (picked (replicate (length facts) false) facts) ≡ q
  pub all_facts : (facts : List ℕ) → picked (replicate (length facts) true) facts ≡ facts
  pub by_relevancy : (tb facts answer work : List ℕ) → ByRelevancy tb facts answer work
  pub by_magic : (tb facts rules answer work : List ℕ) → ByMagic tb facts rules answer work
