-- K1 to K9 and a refused text, by computing both walks from the text.
use mathlib.Core.List.{flat_map}
use mathlib.Core.Path.{refl}
use Rattle.search.specs.Closure.{grow, least}
use Rattle.search.specs.Machine.{entries, proceed}
use Rattle.search.specs.Magic.{rewriting, held_set, find_m}
use Rattle.search.specs.Relevancy.{horn_rules, true_set, relevant_rules, relevant_set, find_r}
use Rattle.problem.specs.Digit.{digit_of, is_digit, hex_byte, hex_line}
use Rattle.problem.specs.Line.{run, line_at, byte_at, frame_at}
use Rattle.problem.specs.Judge.{judge_sizes, judge_heading, judge_arity, judge_variable, judge_arg, judge_args, judge_atom, judge_atoms, judge_end, judge_body, judge_clause}
use Rattle.problem.specs.Parse.{judge_closing, parse_end, parse_closing, parse_clauses, parse_arities, parse}
use Rattle.ground.specs.Instance.{ground_of}
use Rattle.ground.specs.Report.{report}
use Rattle.ground.specs.Walks.{relevancy, magic, printed}
use Rattle.ground.specs.Cases.{CasesHold, RefusalsPrinted}

pub cases_hold : CasesHold
unfolding flat_map grow least entries proceed rewriting held_set find_m horn_rules true_set relevant_rules relevant_set find_r digit_of is_digit hex_byte hex_line run line_at byte_at frame_at judge_sizes judge_heading judge_arity judge_variable judge_arg judge_args judge_atom judge_atoms judge_end judge_body judge_clause judge_closing parse_end parse_closing parse_clauses parse_arities parse ground_of report relevancy magic printed
cases_hold = refl

pub refusals_printed : RefusalsPrinted
unfolding flat_map digit_of is_digit hex_byte hex_line run line_at byte_at frame_at judge_sizes judge_heading judge_arity parse_arities parse printed
refusals_printed = refl
