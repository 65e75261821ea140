-- What is claimed of the model check, whatever the code. `proofs/Theorems.antt` proves `Theorems`.
use Rattle.std.specs.Prelude.{ℕ, ◌≤◌, ◌<◌, not, List, [], ◌∷◌, ◌++◌, ◌↔◌, ◌≡◌, T, length, take, get_or, Ok, Err}
use Rattle.lists.specs.Member.{All, Any}
use Rattle.search.specs.Ground.{Model, Found}
use Rattle.search.specs.Machine.{outcome}
use Rattle.search.specs.Sound.{SoundFind}
use Rattle.problem.specs.Problem.{Problem, Fits}
use Rattle.problem.specs.Layout.{problem_in}
use Rattle.problem.specs.Table.{Valid}
use Rattle.problem.specs.declared.fault.Fault.{Fault}
use Rattle.problem.specs.declared.fault.Fault.TheVariants.{NoInstance}
use Rattle.judging.specs.declared.judge.Judgement.TheVariants.{Model as IsModel, Violated}
use Rattle.ground.specs.Instance.{Instance, clause_of, ground_of}
use Rattle.lists.specs.Bytes.{is_set}
use Rattle.ground.specs.Verdict.{verdict_of, answer_of}
use Rattle.judging.specs.ModelCheck.{violates, check_of, judge_result}
use Rattle.judging.specs.Holding.{holding_of, instance_named, is_named, holding_result}
use Rattle.judging.specs.Demand2.{ground_lent, Demand2}

-- clause k with the values a, b, c, d, 0 for a variable that it lacks, is the first violated instance
pub record FirstViolated (q : Problem) (answer : List ℕ) (k a b c d : ℕ) : Type 0 where
  pub before : List Instance
  pub found : Instance
  pub after : List Instance
  pub order : (ground_of q).instances ≡ before ++ (found ∷ after)
  pub none_before : All (λ i. T (not (violates q answer i))) before
  pub here : T (violates q answer found)
  pub clause : found.clause ≡ k
  pub value_80 : get_or found.values 0 0 ≡ a
  pub value_81 : get_or found.values 1 0 ≡ b
  pub value_82 : get_or found.values 2 0 ≡ c
  pub value_83 : get_or found.values 3 0 ≡ d

pub record Theorems : Type 1 where
  -- violated: all conditions in the set, and no alternative
  pub violated : (q : Problem) (answer : List ℕ) (i : Instance)
      → T (violates q answer i) ↔ (All (λ a. T (is_set answer a)) ((ground_of q).conds i) × All (λ a. T (not (is_set answer a))) ((ground_of q).alts i))
  -- "fitting" exactly if the set is a model
  pub model : (q : Problem) (answer : List ℕ) → (check_of q answer ≡ IsModel) ↔ Model (ground_of q) (λ a. T (is_set answer a))
  -- and what is named otherwise is the first violated instance
  pub first_named : (q : Problem) (answer : List ℕ) (k a b c d : ℕ) → check_of q answer ≡ Violated k a b c d → FirstViolated q answer k a b c d
  -- of the conditions of an instance, in order, as many as its number says hold, and the next, if there is one, does not
  pub held_so_far : (q : Problem) (answer : List ℕ) (i : Instance) → All (λ a. T (is_set answer a)) (take (holding_of q answer i) ((ground_of q).conds i))
  pub gives_out : (q : Problem) (answer : List ℕ) (i : Instance) → holding_of q answer i < length ((ground_of q).conds i)
      → T (not (is_set answer (get_or ((ground_of q).conds i) (holding_of q answer i) 0)))
  -- violated: the number is that of its conditions, and no alternative is in the set
  pub violated_held : (q : Problem) (answer : List ℕ) (i : Instance)
      → T (violates q answer i) ↔ ((holding_of q answer i ≡ length ((ground_of q).conds i)) × All (λ a. T (not (is_set answer a))) ((ground_of q).alts i))
  -- a clause and four values that are not refused by 44 name an instance of the ticket, and those that are do not
  pub instance_is_named : (q : Problem) → Fits q → (k : ℕ) (four : List ℕ) → length four ≡ 4
      → T (is_named q k four) ↔ Any (λ i. i ≡ instance_named q k four) (ground_of q).instances
  -- the companion call is refused as judging is; else it tells the number of the instance that is named, and 44 where none is
  pub refused_as_judged : (tb answer : List ℕ) (k a b c d : ℕ) (e : Fault) → judge_result tb answer ≡ Err e → holding_result tb answer k a b c d ≡ Err e
  pub told : (tb answer : List ℕ) (k a b c d : ℕ) → ((e : Fault) → judge_result tb answer ≡ Err e → ⊥) → T (is_named (problem_in (take 4096 tb)) k (a ∷ b ∷ c ∷ d ∷ []))
      → holding_result tb answer k a b c d ≡ Ok (holding_of (problem_in (take 4096 tb)) answer (instance_named (problem_in (take 4096 tb)) k (a ∷ b ∷ c ∷ d ∷ [])))
  pub lacked : (tb answer : List ℕ) (k a b c d : ℕ) → ((e : Fault) → judge_result tb answer ≡ Err e → ⊥)
      → (T (is_named (problem_in (take 4096 tb)) k (a ∷ b ∷ c ∷ d ∷ [])) → ⊥) → holding_result tb answer k a b c d ≡ Err NoInstance
  -- values past the clause's own variables do not matter
  pub past_unseen : (tb answer : List ℕ) (k a b c d e f g h : ℕ)
      → take (clause_of (problem_in (take 4096 tb)) k).vars (a ∷ b ∷ c ∷ d ∷ []) ≡ take (clause_of (problem_in (take 4096 tb)) k).vars (e ∷ f ∷ g ∷ h ∷ [])
      → holding_result tb answer k a b c d ≡ holding_result tb answer k e f g h
  -- demand 2 of every engine that finds its nodes soundly, and whose verdict and answer are those of its walk under a limit
  pub demand_2 : (find : List ℕ → Found Instance) (limit : ℕ) (tb answer : List ℕ) → 4096 ≤ length tb → 1024 ≤ length answer → Valid (take 4096 tb) → SoundFind (ground_lent tb) find
      → Demand2 find (ground_lent tb) limit tb (verdict_of (outcome find limit)) (answer_of (outcome find limit) answer)
