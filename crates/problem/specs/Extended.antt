-- A problem with other clauses, or with one more, and the bytes of a clause frame as its next clause line (02: U4).
use Rattle.std.specs.Prelude.{ℕ, suc, ◌+◌, cond, List, [], ◌∷◌, ◌++◌, eqb, length, get_or, Ok, Err}
use Rattle.problem.specs.declared.fault.Fault.TheVariants.{BadKind, BadLength, BadCount, Unknown, BadNumbering}
use Rattle.problem.specs.Digit.{hex_line}
use Rattle.problem.specs.Problem.{Clause, Problem, weights}
use Rattle.problem.specs.Judge.{Judged, judge_clause, clause_at}
use Rattle.problem.specs.Parse.{Parsed, refused, parsed}
use Rattle.problem.specs.Print.{lines_of}

-- a problem with other clauses: constants, limit and arities stay
abbrev pub with_clauses : Problem → List Clause → Problem
with_clauses q ks = record { constants = q.constants; limit = q.limit; arities = q.arities; clauses = ks }

-- the clause after the others
abbrev pub with_clause : Problem → Clause → Problem
with_clause q k = with_clauses q (q.clauses ++ (k ∷ []))

-- "no bytes, or a first byte other than 03, is 2"; then 5 after 64 clauses; then what judging it as a clause line gives, 3 for bytes left over at any length
unfoldable pub judge_next : Problem → List ℕ → Judged
judge_next q f =
    cond (eqb (get_or f 0 0) 3)
    (cond (eqb (length q.clauses) 64) (Err BadCount) (judge_clause q.constants q.arities (weights q.constants q.clauses) f))
    (Err BadKind)

-- a frame whose first 35 bytes are judged so, and that has more: bytes left over are 3, but a fault before the end, 5 to 7, comes first
unfoldable pub past_line : Judged → Judged
past_line (Err BadCount) = Err BadCount
past_line (Err Unknown) = Err Unknown
past_line (Err BadNumbering) = Err BadNumbering
past_line _ = Err BadLength

-- the written-out text with the frame's line before FF, and FF one higher
unfoldable pub text_with : Problem → List ℕ → List ℕ
text_with q f = lines_of q (hex_line f ++ hex_line (255 ∷ suc (length q.clauses) ∷ []))

-- what reading that text gives, where its next clause line is judged so: a refusal at that line, or the longer problem
abbrev pub next_read : Problem → List ℕ → Judged → Parsed
next_read q f (Err e) = refused e (2 + length q.arities + length q.clauses)
next_read q f (Ok v) = parsed (with_clause q (clause_at q.arities f v))
