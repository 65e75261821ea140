-- The bytes of a frame as a problem's next clause line, and a frame that goes on past a line.
use Rattle.std.specs.Prelude.{Ok, Err}
use Rattle.problem.specs.declared.fault.Fault.TheVariants.{BadKind, BadLength, BadCount, FreeVariable, TooManyMarks}
use Prim.Native.Nat.{ℕ, zero, suc, ◌+◌, ◌-◌, ◌*◌, ◌^◌, ◌≤◌, ◌<◌}
use mathlib.Core.Bool.{Bool, true, false, cond}
use mathlib.Core.List.{List, [], ◌∷◌, ◌++◌, append_assoc, append-nil, flat_map}
use mathlib.Core.Logic.{◌⊎◌, inl, inr}
use mathlib.Core.Path.{◌≡◌, refl, sym, ap, ◌∙◌}
use native.Mathlib.Omega.{arith}
use borrow.Author.Tests.{lt-ltb, le-ltb, eq-eqb, ne_eqb}
use lib.Dec.{eqb, ltb, leb, eqb→eq}
use lib.ListN.{length, take, drop, get_or, length-append, length-drop, take-append-drop, get_or-append, get_or-eq_default}
use lib.Seq.{length-take-le}
use Rattle.lists.specs.Member.{All}
use Rattle.lists.proofs.Bytes.{all_at}
use Rattle.lists.proofs.Member.{All-append}
use Rattle.lists.proofs.Test.{same_or_other, lt_or_le}
use Rattle.problem.specs.declared.line.Line.TheVariants.{Holds}
use Rattle.problem.specs.Digit.{hex_line}
use Rattle.problem.specs.Line.{line_at, frame_at, after_line}
use Rattle.problem.specs.Problem.{Clause, Problem, ClauseFits, Fits, weights}
use Rattle.problem.specs.Judge.{Judged, Span, judge_arg, judge_args, judge_atom, judge_atoms, judge_end, judge_body, judge_clause, after_atom, after_atoms, clause_at}
use Rattle.problem.specs.Parse.{Parsed, refused, parsed, parse_clauses, parse}
use Rattle.problem.specs.Print.{heading_frame, clause_frame, text_of}
use Rattle.problem.specs.Extended.{with_clause, judge_next, past_line, text_with, next_read}
use Rattle.problem.specs.Claims.{NextClause}
use Rattle.problem.proofs.Lines.{Holding, line_printed}
use Rattle.problem.proofs.Judges.{ClauseJudged, passed, fault_found, atom_reached, atoms_reached, clause_found}
use Rattle.problem.proofs.Parse.{arity_lines, clause_lines}
use Rattle.problem.proofs.TableLayout.{weights_snoc}
use Rattle.problem.proofs.WellFormed.{clause_short}
use Rattle.problem.proofs.Accepted.{past_line_lem, past_test, lines_taken, last_taken}
use Rattle.problem.proofs.Refusals.{SpanBy, atoms_numbered}

-- a frame printed is read as the line that holds it
pub line_of_frame : (f rest : List ℕ) → All (λ b. b < 256) f → 0 < length f → length f ≤ 35
    → (line_at (hex_line f ++ rest) 0 ≡ Holds (length f)) × (frame_at (hex_line f ++ rest) 0 (length f) ≡ f)
line_of_frame f rest bytes some short =
    let held = line_printed (hex_line f ++ rest) 0 f rest bytes some (omega arith) refl in
    (held.line, held.frame)

-- ---- a frame that goes on: what is judged of the bytes that it begins with is judged of it

module _ (c : ℕ) (arities f more : List ℕ) where
  -- a byte of the front is there in both
  there : {R : Type 0} (j : ℕ) (r missing : R) → j < length f → cond (ltb j (length (f ++ more))) r missing ≡ cond (ltb j (length f)) r missing
  there j r missing h = rw (lt-ltb j (length f) h, lt-ltb j (length (f ++ more)) (simp length-append (omega arith)))

  args_longer : (n j v : ℕ) → j + n ≤ length f → judge_args c (f ++ more) n j v ≡ judge_args c f n j v
  unfolding judge_args
  args_longer zero j v room = refl
  args_longer (suc n) j v room =
      there j _ _ (omega arith) ∙ rw (get_or-append f more 0 j (omega arith), go (judge_arg c v (get_or f j 0)) (λ w. args_longer n (suc j) w (omega arith)))
    where
      go : (o : Judged) → ((w : ℕ) → judge_args c (f ++ more) n (suc j) w ≡ judge_args c f n (suc j) w)
          → ◌≡◌ {A = Span} (elim o [ Err e ↦ Err e | Ok w ↦ judge_args c (f ++ more) n (suc j) w ]) (elim o [ Err e ↦ Err e | Ok w ↦ judge_args c f n (suc j) w ])
      go (Err e) same = refl
      go (Ok w) same = same w

  atom_longer : (j v : ℕ) → after_atom arities f j ≤ length f → judge_atom c arities (f ++ more) j v ≡ judge_atom c arities f j v
  unfolding judge_atom
  atom_longer j v room =
      there j _ _ (omega arith)
      ∙ rw (get_or-append f more 0 j (omega arith), args_longer (get_or arities (get_or f j 0) 0) (suc j) v room)

  after_grows : (n j : ℕ) → j ≤ after_atoms arities f n j
  after_grows zero j = omega arith
  after_grows (suc n) j = omega (arith, after_grows n (after_atom arities f j))

  atoms_longer : (n j v : ℕ) → after_atoms arities f n j ≤ length f → judge_atoms c arities (f ++ more) n j v ≡ judge_atoms c arities f n j v
  unfolding judge_atoms
  atoms_longer zero j v room = refl
  atoms_longer (suc n) j v room =
      ap {B = Span} (λ (o : Span). elim o [ Err e ↦ Err e | Ok (i, w) ↦ judge_atoms c arities (f ++ more) n i w ])
      (atom_longer j v (omega (arith, after_grows n (after_atom arities f j))))
      ∙ go (judge_atom c arities f j v) refl (λ i w h. atoms_longer n i w h)
    where
      go : (o : Span) → judge_atom c arities f j v ≡ o
          → ((i w : ℕ) → after_atoms arities f n i ≤ length f → judge_atoms c arities (f ++ more) n i w ≡ judge_atoms c arities f n i w)
          → ◌≡◌ {A = Span} (elim o [ Err e ↦ Err e | Ok (i, w) ↦ judge_atoms c arities (f ++ more) n i w ]) (elim o [ Err e ↦ Err e | Ok (i, w) ↦ judge_atoms c arities f n i w ])
      go (Err e) q same = refl
      go (Ok (i, w)) q same = same i w (rw (atom_reached c arities f j v i w q).place room)

  -- more stands after the atoms of a clause, so that they do not end it
  module _ (sum : ℕ) (some : 0 < length more) where
    end_longer : (size conds v j w : ℕ) → j ≤ length f → judge_end c sum (length (f ++ more)) conds v j w ≡ past_line (judge_end c sum size conds v j w)
    unfolding judge_end past_line
    end_longer size conds v j w room =
        rw (ne_eqb j (length (f ++ more)) (λ e. omega (arith, length-append f more)))
        (go (eqb j size) (eqb w v) (leb (sum + conds * c ^ v) 16384))
      where
        go : (a b d : Bool) → Err BadLength ≡ past_line (cond a (cond b (cond d (Ok v) (Err TooManyMarks)) (Err FreeVariable)) (Err BadLength))
        go true true true = refl
        go true true false = refl
        go true false d = refl
        go false b d = refl

    -- a fault before the end is the first
    atoms_past : (o : Span) (g h : ℕ → ℕ → Judged) → SpanBy (λ e. past_line (Err e) ≡ Err e) o
        → ((i w : ℕ) → o ≡ Ok (i, w) → g i w ≡ past_line (h i w))
        → ◌≡◌ {A = Judged} (elim o [ Err e ↦ Err e | Ok (i, w) ↦ g i w ]) (past_line (elim o [ Err e ↦ Err e | Ok (i, w) ↦ h i w ]))
    atoms_past (Err e) g h early same = sym early
    atoms_past (Ok (i, w)) g h early same = same i w refl

    early_atoms : (n j v : ℕ) → SpanBy (λ e. past_line (Err e) ≡ Err e) (judge_atoms c arities f n j v)
    unfolding past_line
    early_atoms n j v = atoms_numbered (λ e. past_line (Err e) ≡ Err e) refl refl refl c arities f n j v

    body_longer : (conds alts : ℕ) → after_atoms arities f alts (after_atoms arities f conds 3) ≤ length f
        → judge_body c arities sum conds alts (f ++ more) ≡ past_line (judge_body c arities sum conds alts f)
    unfolding judge_body
    body_longer conds alts room =
        ap {B = Judged} (λ (o : Span). elim o [
          | Err e ↦ Err e
          | Ok (i, v) ↦ elim (judge_atoms c arities (f ++ more) alts i v) [ Err e ↦ Err e | Ok (j, w) ↦ judge_end c sum (length (f ++ more)) conds v j w ]
        ]) (atoms_longer conds 3 0 (omega (arith, after_grows alts (after_atoms arities f conds 3))))
        ∙ atoms_past (judge_atoms c arities f conds 3 0) _ _ (early_atoms conds 3 0) second
      where
        second : (i v : ℕ) → judge_atoms c arities f conds 3 0 ≡ Ok (i, v)
            → ◌≡◌ {A = Judged} (elim (judge_atoms c arities (f ++ more) alts i v) [ Err e ↦ Err e | Ok (j, w) ↦ judge_end c sum (length (f ++ more)) conds v j w ])
            (past_line (elim (judge_atoms c arities f alts i v) [ Err e ↦ Err e | Ok (j, w) ↦ judge_end c sum (length f) conds v j w ]))
        second i v q =
            let within : after_atoms arities f alts i ≤ length f = rw (atoms_reached c arities f conds 3 0 i v q).place room in
            ap {B = Judged} (λ (o : Span). elim o [ Err e ↦ Err e | Ok (j, w) ↦ judge_end c sum (length (f ++ more)) conds v j w ]) (atoms_longer alts i v within)
            ∙ atoms_past (judge_atoms c arities f alts i v) _ _ (early_atoms alts i v)
            (λ j w s. end_longer (length f) conds v j w (rw (atoms_reached c arities f alts i v j w s).place within))

    -- a frame whose front has the atoms of its clause, and that has more
    clause_longer : 2 < length f → (get_or f 1 0 < 5 → get_or f 2 0 < 5 → after_atoms arities f (get_or f 2 0) (after_atoms arities f (get_or f 1 0) 3) ≤ length f)
        → judge_clause c arities sum (f ++ more) ≡ past_line (judge_clause c arities sum f)
    unfolding judge_clause past_line
    clause_longer two room =
        rw (
          lt-ltb 1 (length f) (omega arith),
          lt-ltb 2 (length f) two,
          lt-ltb 1 (length (f ++ more)) (simp length-append (omega arith)),
          lt-ltb 2 (length (f ++ more)) (simp length-append (omega arith)),
          get_or-append f more 0 1 (omega arith),
          get_or-append f more 0 2 two,
        )
        (go (lt_or_le (get_or f 1 0) 5) (lt_or_le (get_or f 2 0) 5))
      where
        go : (get_or f 1 0 < 5) ⊎ (5 ≤ get_or f 1 0) → (get_or f 2 0 < 5) ⊎ (5 ≤ get_or f 2 0)
            → cond (ltb (get_or f 1 0) 5) (cond (ltb (get_or f 2 0) 5) (judge_body c arities sum (get_or f 1 0) (get_or f 2 0) (f ++ more)) (Err BadCount)) (Err BadCount)
            ≡ past_line (cond (ltb (get_or f 1 0) 5) (cond (ltb (get_or f 2 0) 5) (judge_body c arities sum (get_or f 1 0) (get_or f 2 0) f) (Err BadCount)) (Err BadCount))
        go (inl a) (inl b) = rw (lt-ltb (get_or f 1 0) 5 a, lt-ltb (get_or f 2 0) 5 b) (body_longer (get_or f 1 0) (get_or f 2 0) (room a b))
        go (inl a) (inr b) = rw (lt-ltb (get_or f 1 0) 5 a, le-ltb (get_or f 2 0) 5 b)
        go (inr a) d = rw (le-ltb (get_or f 1 0) 5 a)

-- at most 4 bytes an atom
module _ (arities f : List ℕ) (small : All (λ a. a ≤ 3) arities) where
  arity_most : (p : ℕ) → get_or arities p 0 ≤ 3
  arity_most p = go (lt_or_le p (length arities))
    where
      go : (p < length arities) ⊎ (length arities ≤ p) → get_or arities p 0 ≤ 3
      go (inl h) = all_at (λ a. a ≤ 3) arities 0 p h small
      go (inr h) = rw (get_or-eq_default arities 0 h) (omega arith)

  after_most : (n j : ℕ) → after_atoms arities f n j ≤ j + 4 * n
  after_most zero j = omega arith
  after_most (suc n) j = omega (arith, after_most n (after_atom arities f j), arity_most (get_or f j 0))

-- a frame longer than a line is judged by the bytes that a line would hold
pub judged_past : (c : ℕ) (arities : List ℕ) (sum : ℕ) (f : List ℕ) → All (λ a. a ≤ 3) arities → 35 < length f
    → judge_clause c arities sum f ≡ past_line (judge_clause c arities sum (take 35 f))
judged_past c arities sum f small long =
    let g = take 35 f in
    let size : length g ≡ 35 = length-take-le 35 f (omega arith) in
    ap (judge_clause c arities sum) (sym (take-append-drop 35 f))
    ∙ clause_longer c arities g (drop 35 f) sum (simp length-drop (omega arith)) (omega arith)
    (λ a b. omega (arith, after_most arities g small (get_or g 1 0) 3, after_most arities g small (get_or g 2 0) (after_atoms arities g (get_or g 1 0) 3)))

-- ---- a frame as the next clause line

-- a frame that is taken
record Taken (q : Problem) (f : List ℕ) (v : ℕ) : Type 0 where
  kind : get_or f 0 0 ≡ 3
  room : length q.clauses ≡ 64 → ⊥
  judged : judge_clause q.constants q.arities (weights q.constants q.clauses) f ≡ Ok v

module _ (q : Problem) (f : List ℕ) (v : ℕ) (found : judge_next q f ≡ Ok v) where
  taken : Taken q f v
  unfolding judge_next
  taken =
      let kind = passed (eqb (get_or f 0 0) 3) _ _ _ (fault_found BadKind v) found in
      go (eqb→eq (get_or f 0 0) 3 kind.0) (same_or_other (length q.clauses) 64) kind.1
    where
      judged : Judged
      judged = judge_clause q.constants q.arities (weights q.constants q.clauses) f

      go : get_or f 0 0 ≡ 3 → (length q.clauses ≡ 64) ⊎ (length q.clauses ≡ 64 → ⊥) → cond (eqb (length q.clauses) 64) (Err BadCount) judged ≡ Ok v → Taken q f v
      go kind (inl e) s = absurd (fault_found BadCount v (rw (eq-eqb (length q.clauses) 64 e) at s))
      go kind (inr n) s = record { kind = kind; room = n; judged = rw (ne_eqb (length q.clauses) 64 n) at s }

  clause : ClauseJudged q.constants q.arities (weights q.constants q.clauses) f v
  clause = clause_found q.constants q.arities (weights q.constants q.clauses) f v taken.judged taken.kind

  pub next_clause : Fits q → NextClause q f (clause_at q.arities f v)
  next_clause fits =
      let k = clause_at q.arities f v in
      let short = clause_short q.constants q.arities fits.predicates_fit fits.arities_fit k clause.fits in
      record {
        said = sym clause.bytes;
        short = omega (arith, short, ap length clause.bytes);
        fits = record {
          constants_fit = fits.constants_fit;
          limit_four = fits.limit_four;
          limit_bytes = fits.limit_bytes;
          some_predicate = fits.some_predicate;
          predicates_fit = fits.predicates_fit;
          arities_fit = fits.arities_fit;
          atoms_fit = fits.atoms_fit;
          clauses_fit = simp length-append (omega (arith, fits.clauses_fit, taken.room));
          each_fits = All-append (ClauseFits q.constants q.arities) q.clauses (k ∷ []) fits.each_fits (clause.fits, tt);
          weights_fit = rw (weights_snoc q.constants q.clauses k) clause.light;
        };
      }

  pub left_over : (bs : List ℕ) (b : ℕ) → judge_next q (f ++ (b ∷ bs)) ≡ Err BadLength
  unfolding judge_next past_line
  left_over bs b =
      let two : 2 < length f = omega (arith, ap length clause.bytes) in
      rw (
        get_or-append f (b ∷ bs) 0 0 (omega arith),
        eq-eqb (get_or f 0 0) 3 taken.kind,
        ne_eqb (length q.clauses) 64 taken.room,
      )
      (clause_longer q.constants q.arities f (b ∷ bs) (weights q.constants q.clauses) (omega arith) two (λ m n. omega (arith, clause.ended))
      ∙ rw taken.judged)

pub next_kind : (q : Problem) (f : List ℕ) → (get_or f 0 0 ≡ 3 → ⊥) → judge_next q f ≡ Err BadKind
unfolding judge_next
next_kind q f other = rw (ne_eqb (get_or f 0 0) 3 other)

-- ---- the longer text is read so

module _ (q : Problem) (f : List ℕ) (kind : get_or f 0 0 ≡ 3) where
  -- "5 after 64 clauses", and else it is judged
  pub next_full : length q.clauses ≡ 64 → judge_next q f ≡ Err BadCount
  unfolding judge_next
  next_full e = rw (kind, eq-eqb (length q.clauses) 64 e)

  next_judged : (length q.clauses ≡ 64 → ⊥) → judge_next q f ≡ judge_clause q.constants q.arities (weights q.constants q.clauses) f
  unfolding judge_next
  next_judged n = rw (kind, ne_eqb (length q.clauses) 64 n)

  -- of a text in which the frame's line stands at a place, and then the last line
  module _ (fits : Fits q) (x : List ℕ) (at : ℕ) (held : Holding x at f (hex_line (255 ∷ suc (length q.clauses) ∷ []))) where
    abbrev here : ℕ
    here = 2 + length q.arities + length q.clauses

    -- the last line after the clause
    clause_last : (left v : ℕ) → judge_next q f ≡ Ok v
        → parse_clauses x q.constants q.limit q.arities left (q.clauses ++ (clause_at q.arities f v ∷ [])) (suc here) (after_line at (length f))
        ≡ parsed (with_clause q (clause_at q.arities f v))
    clause_last left v found =
        let k = clause_at q.arities f v in
        let count : suc (length q.clauses) ≡ length (q.clauses ++ (k ∷ [])) = simp length-append (omega arith) in
        last_taken (with_clause q k) (next_clause q f v found fits).fits x (suc here) (after_line at (length f))
        (held.rest ∙ ap (λ (n : ℕ). hex_line (255 ∷ n ∷ [])) count) left

    clause_next : (left : ℕ) → left ≡ 64 - length q.clauses
        → parse_clauses x q.constants q.limit q.arities left q.clauses here at ≡ next_read q f (judge_next q f)
    unfolding parse_clauses
    clause_next zero e =
        past_line_lem here (line_at x at) _ (length f) held.line
        ∙ past_test (eqb (get_or (frame_at x at (length f)) 0 0) 3) _ _ (rw (held.frame, kind))
        ∙ rw (next_full (omega (arith, fits.clauses_fit)))
    clause_next (suc left) e =
        past_line_lem here (line_at x at) _ (length f) held.line
        ∙ past_test (eqb (get_or (frame_at x at (length f)) 0 0) 3) _ _ (rw (held.frame, kind))
        ∙ rw (held.frame, ← next_judged (λ full. omega arith)) (go (judge_next q f) refl)
      where
        go : (o : Judged) → judge_next q f ≡ o
            → ◌≡◌ {A = Parsed} (elim o [
              | Err n ↦ refused n here
              | Ok v ↦
                  parse_clauses x q.constants q.limit q.arities left (q.clauses ++ (clause_at q.arities (frame_at x at (length f)) v ∷ [])) (suc here)
                  (after_line at (length f))
            ]) (next_read q f o)
        go (Err n) found = refl
        go (Ok v) found = rw held.frame (clause_last left v found)

pub next_line : (q : Problem) (f : List ℕ) → Fits q → All (λ b. b < 256) f → length f ≤ 35 → get_or f 0 0 ≡ 3 → parse (text_with q f) ≡ next_read q f (judge_next q f)
unfolding text_with
next_line q [] fits bytes short kind = absurd (omega arith)
next_line q (b ∷ bs) fits bytes short kind =
    let f = b ∷ bs in
    let last = hex_line (255 ∷ suc (length q.clauses) ∷ []) in
    let lines = lines_taken q fits (text_with q f) (hex_line f ++ last) refl in
    let held = line_printed (text_with q f) lines.at f last bytes (omega arith) (omega arith) lines.rest in
    lines.read ∙ clause_next q f kind fits (text_with q f) lines.at held (64 - length q.clauses) refl

pub next_longer : (q : Problem) (f : List ℕ) → Fits q → get_or f 0 0 ≡ 3 → 35 < length f → length q.clauses < 64 → judge_next q f ≡ past_line (judge_next q (take 35 f))
next_longer q [] fits kind long room = absurd (omega arith)
next_longer q (b ∷ bs) fits kind long room =
    let f = b ∷ bs in
    next_judged q f kind (λ full. omega arith)
    ∙ judged_past q.constants q.arities (weights q.constants q.clauses) f fits.arities_fit long
    ∙ ap past_line (sym (next_judged q (take 35 f) kind (λ full. omega arith)))

-- the lines of one clause more
lines_longer : (k : Clause) (ks : List Clause) (last : List ℕ) → clause_lines (ks ++ (k ∷ [])) ++ last ≡ clause_lines ks ++ (hex_line (clause_frame k) ++ last)
unfolding flat_map
lines_longer k [] last = rw append-nil
lines_longer k (j ∷ ks) last =
    append_assoc (hex_line (clause_frame j)) (clause_lines (ks ++ (k ∷ []))) last
    ∙ ap (λ (x : List ℕ). hex_line (clause_frame j) ++ x) (lines_longer k ks last)
    ∙ sym (append_assoc (hex_line (clause_frame j)) (clause_lines ks) (hex_line (clause_frame k) ++ last))

pub text_longer : (q : Problem) (k : Clause) → text_with q (clause_frame k) ≡ text_of (with_clause q k)
unfolding text_with text_of
text_longer q k =
    let count : suc (length q.clauses) ≡ length (q.clauses ++ (k ∷ [])) = simp length-append (omega arith) in
    let lines : clause_lines q.clauses ++ (hex_line (clause_frame k) ++ hex_line (255 ∷ suc (length q.clauses) ∷ []))
    ≡ clause_lines (q.clauses ++ (k ∷ [])) ++ hex_line (255 ∷ length (q.clauses ++ (k ∷ [])) ∷ []) =
    sym (lines_longer k q.clauses (hex_line (255 ∷ suc (length q.clauses) ∷ []))) ∙ rw count
    in
    let before = hex_line (heading_frame q) ++ arity_lines q.arities in
    append_assoc before (clause_lines q.clauses) (hex_line (clause_frame k) ++ hex_line (255 ∷ suc (length q.clauses) ∷ []))
    ∙ ap (λ (x : List ℕ). before ++ x) lines
    ∙ sym (append_assoc before (clause_lines (q.clauses ++ (k ∷ []))) (hex_line (255 ∷ length (q.clauses ++ (k ∷ [])) ∷ [])))
