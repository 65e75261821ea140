use Rattle.std.proofs.Common.{◌≡◌, arith, rules, length, sym, ◌∙◌, Result, Ok, Err}
use Prim.Native.Nat.{ℕ}
use Rattle.problem.specs.declared.fault.Fault.{Fault}
use borrow.Author.Tests.{ltb-false}
use lib.Seq.{length-take-le}
use Rattle.writing.proofs.LentLaws.{taken_by}
use Rattle.writing.proofs.WriteLaws.{write_refused, write_done}
use Rattle.writing.proofs.write.write.Goals as goal

pub returns-in_err-taken : goal.returns-in_err-taken
returns-in_err-taken c =
    let same : ◌≡◌ {A = Result ℕ Fault} c.from_residual.result (Err c.in_err-taken.field-0.0) = search rules in
    let left = write_refused c.args.table.now c.args.out.now (sym c.taken.ensures ∙ c.in_err-taken.was) in
    (same ∙ left.0, left.1)

pub slice_bounds-print_table-end : goal.slice_bounds-print_table-end
slice_bounds-print_table-end c = sym (length-take-le 4096 c.args.table.now (taken_by _ _ (sym c.taken.ensures ∙ c.in_ok-taken.was)).long)

pub print_table-size-requires : goal.print_table-size-requires
print_table-size-requires c =
    let t = taken_by _ _ (sym c.taken.ensures ∙ c.in_ok-taken.was) in
    (length-take-le 4096 c.args.table.now t.long, omega (arith, ltb-false (length c.args.out.now) 7168 t.room))

pub returns : goal.returns
returns c = write_done c.args.table.now c.args.out.now (sym c.taken.ensures ∙ c.in_ok-taken.was) c.print_table-size.ensures
