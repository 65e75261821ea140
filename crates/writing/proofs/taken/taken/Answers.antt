use Rattle.std.proofs.Common.{sym, ◌∙◌, arith, take}
use lib.Seq.{length-take-le}
use Rattle.problem.proofs.Theorems.{valid_table}
use Rattle.writing.proofs.LentLaws.{taken}
use Rattle.writing.proofs.taken.taken.Goals as goal

pub slice_bounds-result-end : goal.slice_bounds-result-end
slice_bounds-result-end c = sym (length-take-le 4096 c.args.table.now (taken _ c.args.short (sym c.refusal-e.ensures ∙ (omega arith))).long)

pub invariant_of-result : goal.invariant_of-result
invariant_of-result c = valid_table (take 4096 c.args.table.now) (taken _ c.args.short (sym c.refusal-e.ensures ∙ (omega arith))).valid
