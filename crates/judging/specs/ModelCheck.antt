-- The model check (01: judging).
use Rattle.std.specs.Prelude.{ℕ, Bool, not, cond, ◌&&◌, ◌||◌, List, [], ◌∷◌, eqb, ltb, length, take, get_or, Result, Ok, Err}
use Rattle.std.proofs.Math.Option.{Option, none, some}
use Rattle.lists.specs.Digits.{horner}
use Rattle.lists.specs.Member.{every, first, lead}
use Rattle.problem.specs.declared.fault.Fault.{Fault}
use Rattle.problem.specs.declared.fault.Fault.TheVariants.{ShortBuffer, NoTable, BadAnswer}
use Rattle.problem.specs.Faults.{fault_number}
use Rattle.problem.specs.Numbers.{Numbers, refused_as, answered}
use Rattle.problem.specs.Problem.{Problem, atom_count}
use Rattle.problem.specs.Layout.{problem_in}
use Rattle.problem.specs.Table.{is_valid}
use Rattle.judging.specs.declared.judge.Judgement.{Judgement}
use Rattle.judging.specs.declared.judge.Judgement.TheVariants.{Model as IsModel, Violated}
use Rattle.ground.specs.Instance.{Instance, clause_of, instances_of, ground_atoms, ground_of}
use Rattle.lists.specs.Bytes.{is_set}

-- all conditions hold and no alternative does
abbrev pub violated_by : Problem → List ℕ → ℕ → List ℕ → Bool
violated_by q flags k values =
    eqb (lead (is_set flags) (ground_atoms q values (clause_of q k).conds)) (length (clause_of q k).conds)
    && every (λ a. not (is_set flags a)) (ground_atoms q values (clause_of q k).alts)

abbrev pub violates : Problem → List ℕ → Instance → Bool
violates q flags i = violated_by q flags i.clause i.values

-- "by clause and values, with 0 for a variable the clause lacks"
abbrev pub named : Option Instance → Judgement
named none = IsModel
named (some i) = Violated i.clause (get_or i.values 0 0) (get_or i.values 1 0) (get_or i.values 2 0) (get_or i.values 3 0)

-- 1 for "fitting", 2 for a violated instance, with its clause, and with its values as one number of four bytes, that of 80 the low byte
abbrev pub judging_numbers : Result Judgement Fault → Numbers
judging_numbers (Err e) = refused_as (fault_number e)
judging_numbers (Ok IsModel) = answered 1 0
judging_numbers (Ok (Violated k a b c d)) = record { refusal = 0; number = 2; clause = k; value = horner 256 (d ∷ c ∷ b ∷ a ∷ []) }

unfoldable pub clause_check : Problem → List ℕ → ℕ → Judgement
clause_check q flags k = named (first (violates q flags) (instances_of q k))

-- "fitting", or the first violated instance, in the walk's order
unfoldable pub check_of : Problem → List ℕ → Judgement
check_of q flags = named (first (violates q flags) (ground_of q).instances)

-- By a lent table and answer: 11, then 31, then "32 if one of the first A answer bytes is neither 0 nor 1", else by the problem
abbrev pub judgeable : {R : Type 0} → List ℕ → List ℕ → (Fault → R) → (Problem → R) → R
judgeable tb answer refused judged =
    cond (ltb (length tb) 4096 || ltb (length answer) 1024)
    (refused ShortBuffer)
    (cond (is_valid (take 4096 tb))
    (cond (every (λ b. ltb b 2) (take (atom_count (problem_in (take 4096 tb)).constants (problem_in (take 4096 tb)).arities) answer))
    (judged (problem_in (take 4096 tb)))
    (refused BadAnswer))
    (refused NoTable))

unfoldable pub judge_result : List ℕ → List ℕ → Result Judgement Fault
judge_result tb answer = judgeable tb answer Err (λ q. Ok (check_of q answer))
