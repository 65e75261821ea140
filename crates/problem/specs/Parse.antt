-- Reading a text, line by line: "the first faulty line decides".
use Rattle.std.specs.Prelude.{ℕ, zero, suc, true, false, cond, List, [], ◌∷◌, ◌++◌, eqb, length, take, drop, get_or, Ok, Err}
use Rattle.problem.specs.declared.fault.Fault.{Fault}
use Rattle.problem.specs.declared.fault.Fault.TheVariants.{BadLine, BadKind, BadLength, BadCount}
use Rattle.problem.specs.declared.line.Line.TheVariants.{Absent, Bad, Holds}
use Rattle.problem.specs.Line.{line_at, frame_at, after_line}
use Rattle.problem.specs.Problem.{Clause, Problem, atom_count, weights}
use Rattle.problem.specs.Judge.{Judged, present, judge_heading, judge_arity, judge_clause, clause_at}

-- a refusal, why and at which line, or the problem
pub data Parsed : Type 0 where
  refused : Fault → ℕ → Parsed
  parsed : Problem → Parsed

-- "FF, number of clause lines", after the kind
unfoldable pub judge_closing : ℕ → List ℕ → Judged
judge_closing count f =
    present f 1 (Err BadLength) (cond (eqb (get_or f 1 0) count) (cond (eqb (length f) 2) (Ok 0) (Err BadLength)) (Err BadCount))

-- of the text x, with c constants and this limit
module _ (x : List ℕ) (c : ℕ) (limit : List ℕ) where
  module _ (arities : List ℕ) where
    -- after the last line: 1 or 2 for a line there
    unfoldable pub parse_end : List Clause → ℕ → ℕ → Parsed
    parse_end ks line at =
        elim (line_at x at) [
          | Absent ↦ parsed (record { constants = c; limit = limit; arities = arities; clauses = ks })
          | Bad ↦ refused BadLine line
          | Holds n ↦ refused BadKind line
        ]

    -- the last line, of n bytes
    unfoldable pub parse_closing : List Clause → ℕ → ℕ → ℕ → Parsed
    parse_closing ks line at n =
        elim (judge_closing (length ks) (frame_at x at n)) [ Err e ↦ refused e line | Ok k ↦ parse_end ks (suc line) (after_line at n) ]

    -- the clause lines and the last line, with so many clause lines still allowed: "The 65th clause line is 5 before its bytes"
    unfoldable pub parse_clauses : ℕ → List Clause → ℕ → ℕ → Parsed
    parse_clauses zero ks line at =
        elim (line_at x at) [
          | Absent ↦ refused BadKind line
          | Bad ↦ refused BadLine line
          | Holds n ↦
              elim (eqb (get_or (frame_at x at n) 0 0) 3) [
                | true ↦ refused BadCount line
                | false ↦ elim (eqb (get_or (frame_at x at n) 0 0) 255) [ true ↦ parse_closing ks line at n | false ↦ refused BadKind line ]
              ]
        ]
    parse_clauses (suc left) ks line at =
        elim (line_at x at) [
          | Absent ↦ refused BadKind line
          | Bad ↦ refused BadLine line
          | Holds n ↦
              elim (eqb (get_or (frame_at x at n) 0 0) 3) [
                | true ↦
                    elim (judge_clause c arities (weights c ks) (frame_at x at n)) [
                      | Err e ↦ refused e line
                      | Ok v ↦ parse_clauses left (ks ++ (clause_at arities (frame_at x at n) v ∷ [])) (suc line) (after_line at n)
                    ]
                | false ↦ elim (eqb (get_or (frame_at x at n) 0 0) 255) [ true ↦ parse_closing ks line at n | false ↦ refused BadKind line ]
              ]
        ]

  -- so many arity lines still to come, and then the clause lines
  unfoldable pub parse_arities : ℕ → List ℕ → ℕ → ℕ → Parsed
  parse_arities zero arities line at = parse_clauses arities 64 [] line at
  parse_arities (suc left) arities line at =
      elim (line_at x at) [
        | Absent ↦ refused BadKind line
        | Bad ↦ refused BadLine line
        | Holds n ↦
            elim (judge_arity c (atom_count c arities) (frame_at x at n)) [
              | Err e ↦ refused e line
              | Ok a ↦ parse_arities left (arities ++ (a ∷ [])) (suc line) (after_line at n)
            ]
      ]

unfoldable pub parse : List ℕ → Parsed
parse x =
    elim (line_at x 0) [
      | Absent ↦ refused BadKind 1
      | Bad ↦ refused BadLine 1
      | Holds n ↦
          elim (judge_heading (frame_at x 0 n)) [
            | Err e ↦ refused e 1
            | Ok s ↦ parse_arities x s.constants (take 4 (drop 4 (frame_at x 0 n))) s.predicates [] 2 (after_line 0 n)
          ]
    ]
