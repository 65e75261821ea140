-- The ticket of `specs/Cases.antt`, read and shuffled.
use Prim.Native.Nat.{ℕ, ◌+◌, ◌%◌, ◌<◌}
use mathlib.Core.List.{List, [], ◌∷◌}
use mathlib.Core.Path.{◌≡◌, refl}
use native.Mathlib.Omega.{arith}
use Rattle.problem.specs.Digit.{digit_of, is_digit}
use Rattle.problem.specs.Line.{run, line_at, byte_at, frame_at}
use Rattle.problem.specs.Problem.{Clause, Problem}
use Rattle.problem.specs.Judge.{judge_sizes, judge_heading, judge_arity, judge_variable, judge_arg, judge_args, judge_atom, judge_atoms, judge_end, judge_body, judge_clause}
use Rattle.problem.specs.Parse.{judge_closing, parse_end, parse_closing, parse_clauses, parse_arities, parse}
use Rattle.shuffling.specs.Shuffled.{swapped, same_first, one_by_one, OneToOne}
use Rattle.shuffling.specs.Cases.{CaseShuffled}

-- a fact, a rule and a bar, with three constants
abbrev fact : ℕ → ℕ → Clause
fact a b = record { vars = 0; conds = []; alts = record { pred = 0; args = a ∷ b ∷ [] } ∷ [] }

abbrev rule : ℕ → Clause
rule a =
    record {
      vars = 2;
      conds = record { pred = 0; args = 128 ∷ 129 ∷ [] } ∷ [];
      alts = record { pred = 1; args = 128 ∷ [] } ∷ record { pred = 1; args = a ∷ [] } ∷ [];
    }

abbrev bar : ℕ → Clause
bar a = record { vars = 0; conds = record { pred = 1; args = a ∷ [] } ∷ []; alts = [] }

abbrev sheet : ℕ → List Clause → Problem
sheet limit ks = record { constants = 3; limit = 0 ∷ 0 ∷ 0 ∷ limit ∷ []; arities = 2 ∷ 1 ∷ []; clauses = ks }

abbrev next : ℕ → ℕ
next d = (d + 1) % 3

next_one : OneToOne 3 next
next_one = record { below = λ d h. omega arith; apart = λ d e h l s. omega arith }

pub case_shuffled : CaseShuffled
unfolding digit_of is_digit run line_at byte_at frame_at judge_sizes judge_heading judge_arity judge_variable judge_arg judge_args judge_atom judge_atoms judge_end judge_body judge_clause judge_closing parse_end parse_closing parse_clauses parse_arities parse
case_shuffled =
    record {
      before = sheet 100 (fact 0 1 ∷ rule 2 ∷ bar 1 ∷ []);
      after = sheet 5 (bar 2 ∷ fact 1 2 ∷ rule 0 ∷ []);
      before_read = refl;
      after_read = refl;
      shuffled =
          record {
            constants_same = refl;
            arities_same = refl;
            renumbering = next;
            one_to_one = next_one;
            clauses_permuted =
                one_by_one (fact 1 2 ∷ rule 0 ∷ bar 2 ∷ []) (fact 1 2 ∷ bar 2 ∷ rule 0 ∷ []) (bar 2 ∷ fact 1 2 ∷ rule 0 ∷ [])
                (same_first (fact 1 2) (rule 0 ∷ bar 2 ∷ []) (bar 2 ∷ rule 0 ∷ []) (swapped (rule 0) (bar 2) []))
                (swapped (fact 1 2) (bar 2) (rule 0 ∷ []));
          };
    }
