-- What writing gives, and what it leaves in the lent text out.
use Rattle.std.specs.Prelude.{ℕ, cond, ◌||◌, List, ◌++◌, ltb, length, take, drop, Result, Ok, Err}
use Rattle.problem.specs.declared.fault.Fault.{Fault}
use Rattle.problem.specs.declared.fault.Fault.TheVariants.{ShortBuffer, NoTable}
use Rattle.problem.specs.Faults.{fault_number}
use Rattle.problem.specs.Numbers.{Numbers, refused_as, answered}
use Rattle.problem.specs.Print.{print}
use Rattle.problem.specs.Table.{is_valid}

-- with the number of bytes written
abbrev pub writing_numbers : Result ℕ Fault → Numbers
writing_numbers (Err e) = refused_as (fault_number e)
writing_numbers (Ok n) = answered 0 n

-- Writing a lent table out: 11 if a lent buffer is too short, 31 if the table's first 4,096 bytes are not valid
unfoldable pub write_result : List ℕ → List ℕ → Result ℕ Fault
write_result tb out =
    cond (ltb (length tb) 4096 || ltb (length out) 7168)
    (Err ShortBuffer)
    (cond (is_valid (take 4096 tb)) (Ok (length (print (take 4096 tb)))) (Err NoTable))

unfoldable pub write_leaves : List ℕ → List ℕ → List ℕ
write_leaves tb out =
    cond (ltb (length tb) 4096 || ltb (length out) 7168)
    out
    (cond (is_valid (take 4096 tb)) (print (take 4096 tb) ++ drop (length (print (take 4096 tb))) out) out)
