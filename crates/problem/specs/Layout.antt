-- The table: 4,096 bytes at fixed places, zero where unused.
--     0 constants, 1 predicates, 2 clauses, 4 to 7 the limit, 8 and 9 the number of atoms A
--     16 + 4 j    predicate j: its arity, the number of its first atom (2 bytes)
--     144 + 56 k  clause k: n, m, v, 0, its number of instances (2 bytes), the sum of n × (c to the power v) of the clauses before it (2 bytes)
--       + 8 + 6 i   condition i: predicate, three argument bytes, the number of the predicate's first atom (2 bytes)
--       + 32 + 6 i  alternative i: the same
-- Numbers of 2 bytes have the low byte first.
use Rattle.std.specs.Prelude.{ℕ, ◌+◌, ◌*◌, ◌^◌, min, length, take, drop, get_or, replicate}
use mathlib.Core.List.{List, [], ◌∷◌, ◌++◌, flat_map}
use Rattle.lists.specs.Bytes.{pad}
use Rattle.lists.specs.Digits.{low_bytes}
use Rattle.lists.specs.Tabulate.{tabulate}
use Rattle.problem.specs.Problem.{Atom, Clause, Problem, atom_count, first_atom, weight}

abbrev pub predicate_record : ℕ → ℕ → List ℕ
predicate_record first a = a ∷ low_bytes 2 first ++ (0 ∷ [])

-- the records of predicates with these arities, the first of whose atoms has this number
abbrev pub predicate_records : ℕ → ℕ → List ℕ → List ℕ
predicate_records c first [] = []
predicate_records c first (a ∷ arities) = predicate_record first a ++ predicate_records c (first + c ^ a) arities

abbrev pub slot : ℕ → List ℕ → Atom → List ℕ
slot c arities a = a.pred ∷ pad 3 a.args ++ low_bytes 2 (first_atom c arities a.pred)

abbrev pub slots : ℕ → List ℕ → List Atom → List ℕ
slots c arities atoms = pad 24 (flat_map (slot c arities) atoms)

abbrev pub clause_record : ℕ → List ℕ → ℕ → Clause → List ℕ
clause_record c arities before k =
    length k.conds ∷ length k.alts ∷ k.vars ∷ 0 ∷ low_bytes 2 (c ^ k.vars) ++ low_bytes 2 before ++ slots c arities k.conds ++ slots c arities k.alts

abbrev pub clause_records : ℕ → List ℕ → ℕ → List Clause → List ℕ
clause_records c arities before [] = []
clause_records c arities before (k ∷ ks) = clause_record c arities before k ++ clause_records c arities (before + weight c k) ks

abbrev pub heading : Problem → List ℕ
heading q =
    q.constants ∷ length q.arities ∷ length q.clauses ∷ 0 ∷ q.limit ++ low_bytes 2 (atom_count q.constants q.arities) ++ replicate 6 0

unfoldable pub layout : Problem → List ℕ
layout q =
    heading q
    ++ pad 128 (predicate_records q.constants 0 q.arities)
    ++ pad 3584 (clause_records q.constants q.arities 0 q.clauses)
    ++ replicate 368 0

-- The problem in any 4,096 bytes. Where a count is past its range the range's end stands for it, so that what is printed of any bytes is bounded
abbrev pub atom_in : List ℕ → List ℕ → ℕ → Atom
atom_in arities tb at = record { pred = get_or tb at 0; args = tabulate (λ j. get_or tb (at + 1 + j) 0) (get_or arities (get_or tb at 0) 0) }

abbrev pub clause_in : List ℕ → List ℕ → ℕ → Clause
clause_in arities tb at =
    record {
      vars = get_or tb (at + 2) 0;
      conds = tabulate (λ i. atom_in arities tb (at + 8 + 6 * i)) (min (get_or tb at 0) 4);
      alts = tabulate (λ i. atom_in arities tb (at + 32 + 6 * i)) (min (get_or tb (at + 1) 0) 4);
    }

abbrev pub arities_in : List ℕ → List ℕ
arities_in tb = tabulate (λ j. min (get_or tb (16 + 4 * j) 0) 3) (min (get_or tb 1 0) 32)

unfoldable pub problem_in : List ℕ → Problem
problem_in tb =
    record {
      constants = get_or tb 0 0;
      limit = take 4 (drop 4 tb);
      arities = arities_in tb;
      clauses = tabulate (λ k. clause_in (arities_in tb) tb (144 + 56 * k)) (min (get_or tb 2 0) 64);
    }
