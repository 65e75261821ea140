-- What a lent table, with buffers that may be too short, is refused for.
use Rattle.std.specs.Prelude.{ℕ, Bool, cond, ◌||◌, List, ltb, length, take, Result, Ok, Err}
use Rattle.problem.specs.declared.fault.Fault.{Fault}
use Rattle.problem.specs.declared.fault.Fault.TheVariants.{ShortBuffer, NoTable}
use Rattle.problem.specs.Table.{is_valid}

unfoldable pub taken_of : List ℕ → Bool → Result (Unit {0}) Fault
taken_of tb short = cond (ltb (length tb) 4096 || short) (Err ShortBuffer) (cond (is_valid (take 4096 tb)) (Ok tt) (Err NoTable))

-- by number, 0 where it is taken
unfoldable pub refusal_of : List ℕ → Bool → ℕ
refusal_of tb short = cond (ltb (length tb) 4096 || short) 11 (cond (is_valid (take 4096 tb)) 0 31)
