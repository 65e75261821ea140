-- How far an instance holds: how many of its conditions are in the set that an answer marks, from the left, before the first that is not.
use Rattle.std.specs.Prelude.{ℕ, Bool, cond, ◌&&◌, List, [], ◌∷◌, ltb, length, take, Result, Ok, Err}
use Rattle.lists.specs.Bytes.{is_set}
use Rattle.lists.specs.Member.{every, lead}
use Rattle.problem.specs.declared.fault.Fault.{Fault}
use Rattle.problem.specs.declared.fault.Fault.TheVariants.{NoInstance}
use Rattle.problem.specs.Faults.{fault_number}
use Rattle.problem.specs.Numbers.{Numbers, refused_as, answered}
use Rattle.problem.specs.Problem.{Problem}
use Rattle.ground.specs.Instance.{Instance, clause_of, ground_of}
use Rattle.judging.specs.ModelCheck.{judgeable}

-- n if all n conditions hold
abbrev pub holding_of : Problem → List ℕ → Instance → ℕ
holding_of q flags i = lead (is_set flags) ((ground_of q).conds i)

-- the instance that a clause and four values name: "values past the clause's own variables are not looked at"
abbrev pub instance_named : Problem → ℕ → List ℕ → Instance
instance_named q k four = record { clause = k; values = take (clause_of q k).vars four }

-- the ticket has the clause, and has the clause's own values as constants
abbrev pub is_named : Problem → ℕ → List ℕ → Bool
is_named q k four = ltb k (length q.clauses) && every (λ d. ltb d q.constants) (take (clause_of q k).vars four)

-- "44 for a clause or value that the ticket lacks"
abbrev pub holding_named : Problem → List ℕ → ℕ → List ℕ → Result ℕ Fault
holding_named q flags k four = cond (is_named q k four) (Ok (holding_of q flags (instance_named q k four))) (Err NoInstance)

-- the number of conditions that hold is the value
abbrev pub holding_numbers : Result ℕ Fault → Numbers
holding_numbers (Err e) = refused_as (fault_number e)
holding_numbers (Ok n) = answered 0 n

-- How far the instance of clause k with four values holds, by a lent table and answer: 11, 31, 32, "after 32" 44
unfoldable pub holding_result : List ℕ → List ℕ → ℕ → ℕ → ℕ → ℕ → ℕ → Result ℕ Fault
holding_result tb answer k a b c d = judgeable tb answer Err (λ q. holding_named q answer k (a ∷ b ∷ c ∷ d ∷ []))
