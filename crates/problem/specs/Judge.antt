-- The faults of a line's bytes, in document 01's order. A frame is the list of a line's bytes; its kind is byte 0.
use Rattle.std.specs.Prelude.{ℕ, zero, suc, ◌+◌, ◌-◌, ◌*◌, ◌^◌, cond, ◌&&◌, List, [], ◌∷◌, eqb, ltb, leb, length, take, drop, get_or, Result, Ok, Err}
use Rattle.problem.specs.declared.fault.Fault.{Fault}
use Rattle.problem.specs.declared.fault.Fault.TheVariants.{BadKind, BadLength, BadVersion, BadCount, Unknown, BadNumbering, FreeVariable, TooManyAtoms, TooManyMarks}
use Rattle.problem.specs.declared.judge.Sizes.{Sizes}
use Rattle.problem.specs.Problem.{Atom, Clause}

-- what is said of some bytes: the fault, or the number that was asked for
abbrev pub Judged : Type 0
Judged = Result ℕ Fault

-- the fault, or where the bytes judged end and how many variables have appeared
abbrev pub Span : Type 0
Span = Result (ℕ × ℕ) Fault

-- the fault, or how many constants and predicates there are
abbrev pub Heading : Type 0
Heading = Result Sizes Fault

-- where the frame has byte j, go on; else 3
abbrev pub present : {R : Type 0} → List ℕ → ℕ → R → R → R
present f j missing r = cond (ltb j (length f)) r missing

-- the first line: "01, version (01), constants c (0 to 32), predicates p (1 to 32), limit L (4 bytes, high byte first)"
unfoldable pub judge_sizes : ℕ → List ℕ → Heading
judge_sizes c f =
    present f 3 (Err BadLength)
    (cond (ltb 0 (get_or f 3 0) && ltb (get_or f 3 0) 33)
    (cond (eqb (length f) 8) (Ok (record { constants = c; predicates = get_or f 3 0 })) (Err BadLength))
    (Err BadCount))

unfoldable pub judge_heading : List ℕ → Heading
judge_heading f =
    cond (eqb (get_or f 0 0) 1)
    (present f 1 (Err BadLength)
    (cond (eqb (get_or f 1 0) 1)
    (present f 2 (Err BadLength)
    (cond (ltb (get_or f 2 0) 33) (judge_sizes (get_or f 2 0) f) (Err BadCount)))
    (Err BadVersion)))
    (Err BadKind)

-- "02, arity (0 to 3)", with 9 if A, which was `atoms`, now passes 1,024
unfoldable pub judge_arity : ℕ → ℕ → List ℕ → Judged
judge_arity c atoms f =
    cond (eqb (get_or f 0 0) 2)
    (present f 1 (Err BadLength)
    (cond (ltb (get_or f 1 0) 4)
    (cond (eqb (length f) 2)
    (cond (leb (atoms + c ^ get_or f 1 0) 1024) (Ok (get_or f 1 0)) (Err TooManyAtoms))
    (Err BadLength))
    (Err BadCount)))
    (Err BadKind)

-- "Variables first appear in a clause as 80, 81, 82, 83 in that order": with v variables so far and then variable x, how many there are
unfoldable pub judge_variable : ℕ → ℕ → Judged
judge_variable v x = cond (ltb x v) (Ok v) (cond (eqb x v) (Ok (suc v)) (Err BadNumbering))

-- "An argument is a constant (00 to 1F, below c) or a variable (80 to 83)"
unfoldable pub judge_arg : ℕ → ℕ → ℕ → Judged
judge_arg c v b =
    cond (ltb b 32)
    (cond (ltb b c) (Ok v) (Err Unknown))
    (cond (leb 128 b && ltb b 132) (judge_variable v (b - 128)) (Err Unknown))

-- n arguments from byte j on
unfoldable pub judge_args : ℕ → List ℕ → ℕ → ℕ → ℕ → Span
judge_args c f zero j v = Ok (j, v)
judge_args c f (suc n) j v = present f j (Err BadLength) (elim (judge_arg c v (get_or f j 0)) [ Err e ↦ Err e | Ok w ↦ judge_args c f n (suc j) w ])

-- "An atom is a predicate byte and its arguments."
unfoldable pub judge_atom : ℕ → List ℕ → List ℕ → ℕ → ℕ → Span
judge_atom c arities f j v =
    present f j (Err BadLength) (cond (ltb (get_or f j 0) (length arities)) (judge_args c f (get_or arities (get_or f j 0) 0) (suc j) v) (Err Unknown))

-- n atoms from byte j on
unfoldable pub judge_atoms : ℕ → List ℕ → List ℕ → ℕ → ℕ → ℕ → Span
judge_atoms c arities f zero j v = Ok (j, v)
judge_atoms c arities f (suc n) j v = elim (judge_atom c arities f j v) [ Err e ↦ Err e | Ok (i, w) ↦ judge_atoms c arities f n i w ]

-- after the alternatives of a frame of so many bytes, at byte j with w variables, of which v stand in conditions: 3 for bytes left over, 8 an
-- alternative's variable in no condition, 10 the sum now passes 16,384
unfoldable pub judge_end : ℕ → ℕ → ℕ → ℕ → ℕ → ℕ → ℕ → Judged
judge_end c sum size conds v j w =
    cond (eqb j size)
    (cond (eqb w v)
    (cond (leb (sum + conds * c ^ v) 16384) (Ok v) (Err TooManyMarks))
    (Err FreeVariable))
    (Err BadLength)

-- the atoms of a clause line with so many conditions and alternatives
unfoldable pub judge_body : ℕ → List ℕ → ℕ → ℕ → ℕ → List ℕ → Judged
judge_body c arities sum conds alts f =
    elim (judge_atoms c arities f conds 3 0) [
      | Err e ↦ Err e
      | Ok (i, v) ↦
          elim (judge_atoms c arities f alts i v) [ Err e ↦ Err e | Ok (j, w) ↦ judge_end c sum (length f) conds v j w ]
    ]

-- "03, n conditions (0 to 4), m alternatives (0 to 4), then n + m atoms", after the kind: how many variables the clause has
unfoldable pub judge_clause : ℕ → List ℕ → ℕ → List ℕ → Judged
judge_clause c arities sum f =
    present f 1 (Err BadLength)
    (cond (ltb (get_or f 1 0) 5)
    (present f 2 (Err BadLength)
    (cond (ltb (get_or f 2 0) 5) (judge_body c arities sum (get_or f 1 0) (get_or f 2 0) f) (Err BadCount)))
    (Err BadCount))

-- the frame cut into its atoms, whatever its faults
abbrev pub atom_at : List ℕ → List ℕ → ℕ → Atom
atom_at arities f j = record { pred = get_or f j 0; args = take (get_or arities (get_or f j 0) 0) (drop (suc j) f) }

-- where the atom after it starts
abbrev pub after_atom : List ℕ → List ℕ → ℕ → ℕ
after_atom arities f j = suc j + get_or arities (get_or f j 0) 0

abbrev pub atoms_at : List ℕ → List ℕ → ℕ → ℕ → List Atom
atoms_at arities f zero j = []
atoms_at arities f (suc n) j = atom_at arities f j ∷ atoms_at arities f n (after_atom arities f j)

abbrev pub after_atoms : List ℕ → List ℕ → ℕ → ℕ → ℕ
after_atoms arities f zero j = j
after_atoms arities f (suc n) j = after_atoms arities f n (after_atom arities f j)

-- a clause line's frame as a clause, with so many conditions, alternatives and variables
abbrev pub clause_with : List ℕ → List ℕ → ℕ → ℕ → ℕ → Clause
clause_with arities f conds alts v =
    record { vars = v; conds = atoms_at arities f conds 3; alts = atoms_at arities f alts (after_atoms arities f conds 3) }

abbrev pub clause_at : List ℕ → List ℕ → ℕ → Clause
clause_at arities f v = clause_with arities f (get_or f 1 0) (get_or f 2 0) v
