-- The texts that are refused, by reading each.
use mathlib.Core.List.{flat_map}
use mathlib.Core.Path.{refl}
use Rattle.problem.specs.Cases.{RefusalsHold}
use Rattle.problem.specs.Digit.{digit_of, is_digit}
use Rattle.problem.specs.Judge.{judge_sizes, judge_heading, judge_arity, judge_variable, judge_arg, judge_args, judge_atom, judge_atoms, judge_end, judge_body, judge_clause}
use Rattle.problem.specs.Line.{run, line_at, byte_at, frame_at}
use Rattle.problem.specs.Parse.{judge_closing, parse_end, parse_closing, parse_clauses, parse_arities, parse}

pub refusals_hold : RefusalsHold
unfolding flat_map digit_of is_digit run line_at byte_at frame_at judge_sizes judge_heading judge_arity judge_variable judge_arg judge_args judge_atom judge_atoms judge_end judge_body judge_clause judge_closing parse_end parse_closing parse_clauses parse_arities parse
refusals_hold = refl
