use Rattle.std.proofs.Common.{sym, ◌∙◌}
use Rattle.problem.specs.Faults.{fault_number}
use Rattle.writing.specs.terms.Lent.{refusal_of}
use Rattle.writing.proofs.LentLaws.{fault_says, ok_says}
use Rattle.writing.proofs.lent.refusal.Goals as goal

pub returns-in-Ok : goal.returns-in-Ok
unfolding refusal_of
returns-in-Ok c = ok_says c.args.table.now c.args.short fault_number 0 (sym c.taken.ensures ∙ c.in-Ok.is)

pub returns-in-Err : goal.returns-in-Err
unfolding refusal_of
returns-in-Err c = c.number.ensures ∙ fault_says c.args.table.now c.args.short fault_number 0 (sym c.taken.ensures ∙ c.in-Err.is)
