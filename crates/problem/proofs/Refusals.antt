-- A refusal has a number from 1 to 10 and a line from 1 to 99.
use Rattle.std.specs.Prelude.{Ok, Err}
use Rattle.problem.specs.declared.fault.Fault.{Fault}
use Rattle.problem.specs.declared.fault.Fault.TheVariants.{BadLine, BadKind, BadLength, BadCount, Unknown, BadNumbering}
use Rattle.problem.specs.Faults.{fault_number}
use Prim.Native.Nat.{ℕ, zero, suc, ◌+◌, ◌-◌, ◌*◌, ◌^◌, ◌≤◌}
use mathlib.Core.Bool.{Bool, true, false, cond, ◌&&◌}
use mathlib.Core.List.{List, [], ◌∷◌, ◌++◌}
use mathlib.Core.Path.{◌≡◌, refl, subst}
use native.Mathlib.Omega.{arith}
use lib.Dec.{T, eqb, ltb, leb, leb→le}
use lib.ListN.{length, take, drop, get_or}
use Rattle.lists.specs.Test.{T_left, T_right}
use Rattle.problem.specs.declared.line.Line.{Line}
use Rattle.problem.specs.declared.line.Line.TheVariants.{Absent, Bad, Holds}
use Rattle.problem.specs.Line.{line_at, frame_at, after_line}
use Rattle.problem.specs.Problem.{Clause, atom_count, weights}
use Rattle.problem.specs.Judge.{Judged, Span, Heading, judge_sizes, judge_heading, judge_arity, judge_variable, judge_arg, judge_args, judge_atom, judge_atoms, judge_end, judge_body, judge_clause, clause_at}
use Rattle.problem.specs.Parse.{Parsed, refused, parsed, judge_closing, parse_end, parse_closing, parse_clauses, parse_arities, parse}
use Rattle.problem.proofs.Judges.{heading_sizes}

-- ---- the judges' numbers

abbrev Numbered : Fault → Type 0
Numbered e = T (leb 1 (fault_number e) && leb (fault_number e) 10)

-- if a fault, then one with such a number
abbrev pub JudgedBy : (Fault → Type 0) → Judged → Type 0
JudgedBy N (Err e) = N e
JudgedBy N (Ok v) = Unit

abbrev pub SpanBy : (Fault → Type 0) → Span → Type 0
SpanBy N (Err e) = N e
SpanBy N (Ok (i, w)) = Unit

abbrev JudgedNumbered : Judged → Type 0
JudgedNumbered o = JudgedBy Numbered o

abbrev HeadingNumbered : Heading → Type 0
HeadingNumbered (Err e) = Numbered e
HeadingNumbered (Ok s) = Unit

-- by both ways of a test
either : {R : Type 0} (P : R → Type 0) (b : Bool) (r missing : R) → P r → P missing → P (cond b r missing)
either P true r missing p m = p
either P false r missing p m = m

-- a fault is passed on with its number
module _ (N : Fault → Type 0) where
  arg_passed : (o : Judged) (g : ℕ → Span) → JudgedBy N o → ((v : ℕ) → SpanBy N (g v)) → SpanBy N (elim o [ Err e ↦ Err e | Ok v ↦ g v ])
  arg_passed (Err e) g n f = n
  arg_passed (Ok v) g n f = f v

  atom_passed : (o : Span) (g : ℕ → ℕ → Span) → SpanBy N o → ((i w : ℕ) → SpanBy N (g i w)) → SpanBy N (elim o [ Err e ↦ Err e | Ok (i, w) ↦ g i w ])
  atom_passed (Err e) g n f = n
  atom_passed (Ok (i, w)) g n f = f i w

  atoms_passed : (o : Span) (g : ℕ → ℕ → Judged) → SpanBy N o → ((i w : ℕ) → JudgedBy N (g i w)) → JudgedBy N (elim o [ Err e ↦ Err e | Ok (i, w) ↦ g i w ])
  atoms_passed (Err e) g n f = n
  atoms_passed (Ok (i, w)) g n f = f i w

heading_numbered : (f : List ℕ) → HeadingNumbered (judge_heading f)
unfolding judge_heading judge_sizes
heading_numbered f =
    either HeadingNumbered (eqb (get_or f 0 0) 1) _ _
    (either HeadingNumbered (ltb 1 (length f)) _ _
    (either HeadingNumbered (eqb (get_or f 1 0) 1) _ _
    (either HeadingNumbered (ltb 2 (length f)) _ _
    (either HeadingNumbered (ltb (get_or f 2 0) 33) _ _
    (either HeadingNumbered (ltb 3 (length f)) _ _
    (either HeadingNumbered (ltb 0 (get_or f 3 0) && ltb (get_or f 3 0) 33) _ _ (either HeadingNumbered (eqb (length f) 8) _ _ tt tt) tt) tt) tt) tt) tt) tt) tt

arity_numbered : (c atoms : ℕ) (f : List ℕ) → JudgedNumbered (judge_arity c atoms f)
unfolding judge_arity
arity_numbered c atoms f =
    either JudgedNumbered (eqb (get_or f 0 0) 2) _ _
    (either JudgedNumbered (ltb 1 (length f)) _ _
    (either JudgedNumbered (ltb (get_or f 1 0) 4) _ _
    (either JudgedNumbered (eqb (length f) 2) _ _ (either JudgedNumbered (leb (atoms + c ^ get_or f 1 0) 1024) _ _ tt tt) tt) tt) tt) tt

-- an atom's faults are 3, 6 and 7
module _ (N : Fault → Type 0) (three : N BadLength) (six : N Unknown) (seven : N BadNumbering) (c : ℕ) where
  arg_numbered : (v b : ℕ) → JudgedBy N (judge_arg c v b)
  unfolding judge_arg judge_variable
  arg_numbered v b =
      either (JudgedBy N) (ltb b 32) _ _
      (either (JudgedBy N) (ltb b c) _ _ tt six)
      (either (JudgedBy N) (leb 128 b && ltb b 132) _ _ (either (JudgedBy N) (ltb (b - 128) v) _ _ tt (either (JudgedBy N) (eqb (b - 128) v) _ _ tt seven)) six)

  args_numbered : (f : List ℕ) (n j v : ℕ) → SpanBy N (judge_args c f n j v)
  unfolding judge_args
  args_numbered f zero j v = tt
  args_numbered f (suc n) j v =
      either (SpanBy N) (ltb j (length f)) _ _ (arg_passed N (judge_arg c v (get_or f j 0)) _ (arg_numbered v (get_or f j 0)) (λ w. args_numbered f n (suc j) w)) three

  atom_numbered : (arities f : List ℕ) (j v : ℕ) → SpanBy N (judge_atom c arities f j v)
  unfolding judge_atom
  atom_numbered arities f j v =
      either (SpanBy N) (ltb j (length f)) _ _
      (either (SpanBy N) (ltb (get_or f j 0) (length arities)) _ _ (args_numbered f (get_or arities (get_or f j 0) 0) (suc j) v) six) three

  pub atoms_numbered : (arities f : List ℕ) (n j v : ℕ) → SpanBy N (judge_atoms c arities f n j v)
  unfolding judge_atoms
  atoms_numbered arities f zero j v = tt
  atoms_numbered arities f (suc n) j v = atom_passed N (judge_atom c arities f j v) _ (atom_numbered arities f j v) (λ i w. atoms_numbered arities f n i w)

module _ (c : ℕ) (arities f : List ℕ) where
  body_numbered : (sum conds alts : ℕ) → JudgedNumbered (judge_body c arities sum conds alts f)
  unfolding judge_body judge_end
  body_numbered sum conds alts =
      atoms_passed Numbered (judge_atoms c arities f conds 3 0) _ (atoms_numbered Numbered tt tt tt c arities f conds 3 0) λ i v.
      atoms_passed Numbered (judge_atoms c arities f alts i v) _ (atoms_numbered Numbered tt tt tt c arities f alts i v) λ j w.
      either JudgedNumbered (eqb j (length f)) _ _ (either JudgedNumbered (eqb w v) _ _ (either JudgedNumbered (leb (sum + conds * c ^ v) 16384) _ _ tt tt) tt) tt

  clause_numbered : (sum : ℕ) → JudgedNumbered (judge_clause c arities sum f)
  unfolding judge_clause
  clause_numbered sum =
      either JudgedNumbered (ltb 1 (length f)) _ _
      (either JudgedNumbered (ltb (get_or f 1 0) 5) _ _
      (either JudgedNumbered (ltb 2 (length f)) _ _ (either JudgedNumbered (ltb (get_or f 2 0) 5) _ _ (body_numbered sum (get_or f 1 0) (get_or f 2 0)) tt) tt) tt) tt

closing_numbered : (count : ℕ) (f : List ℕ) → JudgedNumbered (judge_closing count f)
unfolding judge_closing
closing_numbered count f = either JudgedNumbered (ltb 1 (length f)) _ _ (either JudgedNumbered (eqb (get_or f 1 0) count) _ _ (either JudgedNumbered (eqb (length f) 2) _ _ tt tt) tt) tt

-- ---- the lines

-- a refusal's number and line
record Within (e : Fault) (line : ℕ) : Type 0 where
  numbered : Numbered e
  some_line : 1 ≤ line
  line_most : line ≤ 99

abbrev ParsedWithin : Parsed → Type 0
ParsedWithin (refused e line) = Within e line
ParsedWithin (parsed q) = Unit

module _ (line : ℕ) (low : 1 ≤ line) (high : line ≤ 99) where
  refused_within : (e : Fault) → Numbered e → ParsedWithin (refused e line)
  refused_within e n = record { numbered = n; some_line = low; line_most = high }

  line_within : (o : Line) (g : ℕ → Parsed) → ((n : ℕ) → ParsedWithin (g n)) → ParsedWithin (elim o [ Absent ↦ refused BadKind line | Bad ↦ refused BadLine line | Holds n ↦ g n ])
  line_within Absent g f = refused_within BadKind tt
  line_within Bad g f = refused_within BadLine tt
  line_within (Holds n) g f = f n

  judge_within : (o : Judged) (g : ℕ → Parsed) → JudgedNumbered o → ((v : ℕ) → ParsedWithin (g v)) → ParsedWithin (elim o [ Err e ↦ refused e line | Ok v ↦ g v ])
  judge_within (Err e) g n f = refused_within e n
  judge_within (Ok v) g n f = f v

test_within : (b : Bool) (r t : Parsed) → ParsedWithin r → ParsedWithin t → ParsedWithin (elim b [ true ↦ r | false ↦ t ])
test_within true r t p q = p
test_within false r t p q = q

module _ (x : List ℕ) (c : ℕ) (limit : List ℕ) where
  module _ (arities : List ℕ) where
    end_within : (ks : List Clause) (line at : ℕ) → 1 ≤ line → line ≤ 99 → ParsedWithin (parse_end x c limit arities ks line at)
    unfolding parse_end
    end_within ks line at low high = go (line_at x at)
      where
        go : (o : Line) → ParsedWithin (elim o [
          | Absent ↦ parsed (record { constants = c; limit = limit; arities = arities; clauses = ks })
          | Bad ↦ refused BadLine line
          | Holds n ↦ refused BadKind line
        ])
        go Absent = tt
        go Bad = refused_within line low high BadLine tt
        go (Holds n) = refused_within line low high BadKind tt

    -- a line that is no clause line
    last_within : (ks : List Clause) (line at n : ℕ) → 1 ≤ line → line ≤ 98
        → ParsedWithin (elim (eqb (get_or (frame_at x at n) 0 0) 255) [ true ↦ parse_closing x c limit arities ks line at n | false ↦ refused BadKind line ])
    unfolding parse_closing
    last_within ks line at n low high =
        test_within (eqb (get_or (frame_at x at n) 0 0) 255) _ _
        (judge_within line low (omega arith) (judge_closing (length ks) (frame_at x at n)) _ (closing_numbered (length ks) (frame_at x at n))
        (λ v. end_within ks (suc line) (after_line at n) (omega arith) (omega arith)))
        (refused_within line low (omega arith) BadKind tt)

    clauses_within : (left : ℕ) (ks : List Clause) (line at : ℕ) → 1 ≤ line → line + left ≤ 98 → ParsedWithin (parse_clauses x c limit arities left ks line at)
    unfolding parse_clauses
    clauses_within zero ks line at low high =
        line_within line low (omega arith) (line_at x at) _ λ n.
        test_within (eqb (get_or (frame_at x at n) 0 0) 3) _ _ (refused_within line low (omega arith) BadCount tt) (last_within ks line at n low (omega arith))
    clauses_within (suc left) ks line at low high =
        line_within line low (omega arith) (line_at x at) _ λ n.
        test_within (eqb (get_or (frame_at x at n) 0 0) 3) _ _
        (judge_within line low (omega arith) (judge_clause c arities (weights c ks) (frame_at x at n)) _ (clause_numbered c arities (frame_at x at n) (weights c ks)) λ v.
        clauses_within left (ks ++ (clause_at arities (frame_at x at n) v ∷ [])) (suc line) (after_line at n) (omega arith) (omega arith))
        (last_within ks line at n low (omega arith))

  arities_within : (left : ℕ) (arities : List ℕ) (line at : ℕ) → 1 ≤ line → line + left ≤ 34 → ParsedWithin (parse_arities x c limit left arities line at)
  unfolding parse_arities
  arities_within zero arities line at low high = clauses_within arities 64 [] line at low (omega arith)
  arities_within (suc left) arities line at low high =
      line_within line low (omega arith) (line_at x at) _ λ n.
      judge_within line low (omega arith) (judge_arity c (atom_count c arities) (frame_at x at n)) _ (arity_numbered c (atom_count c arities) (frame_at x at n)) λ a.
      arities_within left (arities ++ (a ∷ [])) (suc line) (after_line at n) (omega arith) (omega arith)

parse_within : (x : List ℕ) → ParsedWithin (parse x)
unfolding parse
parse_within x =
    line_within 1 (omega arith) (omega arith) (line_at x 0) _ λ n.
    go n (judge_heading (frame_at x 0 n)) refl (heading_numbered (frame_at x 0 n))
  where
    go : (n : ℕ) (o : Heading) → judge_heading (frame_at x 0 n) ≡ o → HeadingNumbered o
        → ParsedWithin (elim o [ Err e ↦ refused e 1 | Ok s ↦ parse_arities x s.constants (take 4 (drop 4 (frame_at x 0 n))) s.predicates [] 2 (after_line 0 n) ])
    go n (Err e) j so = refused_within 1 (omega arith) (omega arith) e so
    go n (Ok s) j so =
        arities_within x s.constants (take 4 (drop 4 (frame_at x 0 n))) s.predicates [] 2 (after_line 0 n) (omega arith) (omega (arith, (heading_sizes (frame_at x 0 n) s j).predicates_fit))

pub parse_refuses : (x : List ℕ) (e : Fault) (line : ℕ) → parse x ≡ refused e line → (1 ≤ fault_number e) × (fault_number e ≤ 10) × (1 ≤ line) × (line ≤ 99)
parse_refuses x e line q =
    let so : Within e line = subst ParsedWithin q (parse_within x) in
    (leb→le 1 (fault_number e) (T_left (leb 1 (fault_number e)) (leb (fault_number e) 10) so.numbered), leb→le (fault_number e) 10 (T_right (leb 1 (fault_number e)) (leb (fault_number e) 10) so.numbered), so.some_line, so.line_most)
