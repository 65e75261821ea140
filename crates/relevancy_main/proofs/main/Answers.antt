-- What was printed lies in the buffer.
use Rattle.report.proofs.PrintLaws.{printed_within, printed_size}
use Rattle.relevancy_main.proofs.main.Goals as goal

pub slice_bounds-out-end : goal.slice_bounds-out-end
slice_bounds-out-end c = printed_within _ _ _ c.print_relevancy-n.ensures

pub slice_bounds-write_all-end : goal.slice_bounds-write_all-end
slice_bounds-write_all-end c = printed_size _ _ _ c.print_relevancy-n.ensures
