-- What was printed lies in the buffer.
use Rattle.report.proofs.PrintLaws.{printed_within, printed_size}
use Rattle.cases.proofs.case.Goals as goal

pub slice_bounds-out-end : goal.slice_bounds-out-end
slice_bounds-out-end c = printed_within _ _ _ c.print_relevancy-n.ensures

pub slice_bounds-same-end : goal.slice_bounds-same-end
slice_bounds-same-end c = printed_size _ _ _ c.print_relevancy-n.ensures

pub slice_bounds-out-end-2 : goal.slice_bounds-out-end-2
slice_bounds-out-end-2 c = printed_within _ _ _ c.print_magic-m.ensures

pub slice_bounds-same-end-3 : goal.slice_bounds-same-end-3
slice_bounds-same-end-3 c = printed_size _ _ _ c.print_magic-m.ensures
