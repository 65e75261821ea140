-- The text of a well-formed problem is read to it.
use Rattle.std.specs.Prelude.{Ok, Err}
use Rattle.problem.specs.declared.judge.Sizes.{Sizes}
use Rattle.problem.specs.declared.fault.Fault.TheVariants.{BadLine, BadKind}
use Prim.Native.Nat.{ℕ, zero, suc, ◌+◌, ◌-◌, ◌≤◌}
use mathlib.Core.Bool.{Bool, true, false}
use mathlib.Core.List.{List, [], ◌∷◌, ◌++◌, append_assoc, append-nil, flat_map}
use mathlib.Core.Path.{◌≡◌, refl, sym, ap, ◌∙◌}
use native.Mathlib.Omega.{arith}
use lib.Dec.{eqb}
use lib.ListN.{length, take, drop, get_or, length-append, length-drop}
use lib.Seq.{append_snoc, take_all}
use Rattle.lists.specs.Member.{All}
use Rattle.problem.specs.declared.line.Line.{Line}
use Rattle.problem.specs.declared.line.Line.TheVariants.{Absent, Bad, Holds}
use Rattle.problem.specs.Digit.{hex_line}
use Rattle.problem.specs.Line.{line_at, frame_at, after_line}
use Rattle.problem.specs.Problem.{Clause, Problem, ClauseFits, Fits, atom_count, weights}
use Rattle.problem.specs.Judge.{Judged, Heading, judge_heading, judge_arity, judge_clause}
use Rattle.problem.specs.Parse.{Parsed, refused, parsed, judge_closing, parse_end, parse_closing, parse_clauses, parse_arities, parse}
use Rattle.problem.specs.Print.{heading_frame, arity_frame, clause_frame, closing_frame, lines_of, text_of}
use Rattle.problem.proofs.Lines.{Holding, line_past, line_printed}
use Rattle.problem.proofs.Parse.{arity_lines, clause_lines}
use Rattle.problem.proofs.TableLayout.{atom_count_snoc, weights_snoc}
use Rattle.problem.proofs.WellFormed.{heading_taken, arity_taken, clause_taken, clause_cut, closing_taken, heading_bytes, clause_bytes, clause_short}

-- reading goes on past a line, a judge and a test
module _ (line : ℕ) where
  pub past_line_lem : (o : Line) (g : ℕ → Parsed) (n : ℕ) → o ≡ Holds n → ◌≡◌ {A = Parsed} (elim o [ Absent ↦ refused BadKind line | Bad ↦ refused BadLine line | Holds m ↦ g m ]) (g n)
  past_line_lem o g n e = rw e

  past_judge : (o : Judged) (g : ℕ → Parsed) (v : ℕ) → o ≡ Ok v → ◌≡◌ {A = Parsed} (elim o [ Err e ↦ refused e line | Ok w ↦ g w ]) (g v)
  past_judge o g v e = rw e

  past_heading : (o : Heading) (g : ℕ → ℕ → Parsed) (h : Sizes) → o ≡ Ok h → ◌≡◌ {A = Parsed} (elim o [ Err e ↦ refused e line | Ok s ↦ g s.constants s.predicates ]) (g h.constants h.predicates)
  past_heading o g h e = rw e

pub past_test : (b : Bool) (r t : Parsed) → b ≡ true → ◌≡◌ {A = Parsed} (elim b [ true ↦ r | false ↦ t ]) r
past_test b r t e = rw e

other_test : (b : Bool) (r t : Parsed) → b ≡ false → ◌≡◌ {A = Parsed} (elim b [ true ↦ r | false ↦ t ]) t
other_test b r t e = rw e

module _ (q : Problem) (fits : Fits q) (x : List ℕ) where
  -- nothing stands after the last line
  end_taken : (line at : ℕ) → drop at x ≡ [] → parse_end x q.constants q.limit q.arities q.clauses line at ≡ parsed q
  unfolding parse_end
  end_taken line at e =
      ap {B = Parsed} (λ (o : Line). elim o [ Absent ↦ parsed q | Bad ↦ refused BadLine line | Holds n ↦ refused BadKind line ])
      (line_past x at (omega (arith, simp length-drop at (ap length e))))

  -- the last line
  module _ (line at : ℕ) (e : drop at x ≡ hex_line (closing_frame q)) where
    last_held : Holding x at (closing_frame q) []
    last_held =
        line_printed x at (closing_frame q) [] (omega arith, (omega (arith, fits.clauses_fit), tt)) (omega arith) (omega arith)
        (e ∙ sym (append-nil (hex_line (closing_frame q))))

    closing_read : parse_closing x q.constants q.limit q.arities q.clauses line at 2 ≡ parsed q
    unfolding parse_closing
    closing_read =
        past_judge line (judge_closing (length q.clauses) (frame_at x at 2)) _ 0 (rw last_held.frame (closing_taken (length q.clauses)))
        ∙ end_taken (suc line) (after_line at 2) last_held.rest

    -- whatever is done with a clause line
    no_clause : (r : ℕ → Parsed)
        → ◌≡◌ {A = Parsed} (elim (line_at x at) [
          | Absent ↦ refused BadKind line
          | Bad ↦ refused BadLine line
          | Holds n ↦
              elim (eqb (get_or (frame_at x at n) 0 0) 3) [
                | true ↦ r n
                | false ↦
                    elim (eqb (get_or (frame_at x at n) 0 0) 255) [
                      | true ↦ parse_closing x q.constants q.limit q.arities q.clauses line at n
                      | false ↦ refused BadKind line
                    ]
              ]
        ]) (parsed q)
    no_clause r =
        past_line_lem line (line_at x at) _ 2 last_held.line
        ∙ other_test (eqb (get_or (frame_at x at 2) 0 0) 3) _ _ (rw last_held.frame)
        ∙ past_test (eqb (get_or (frame_at x at 2) 0 0) 255) _ _ (rw last_held.frame)
        ∙ closing_read

    pub last_taken : (left : ℕ) → parse_clauses x q.constants q.limit q.arities left q.clauses line at ≡ parsed q
    unfolding parse_clauses
    last_taken zero = no_clause _
    last_taken (suc left) = no_clause _

-- reading so comes to what stands after the clause lines of a problem
pub record LinesTaken (q : Problem) (x last : List ℕ) (o : Parsed) : Type 0 where
  pub at : ℕ
  pub rest : drop at x ≡ last
  pub read : o ≡ parse_clauses x q.constants q.limit q.arities (64 - length q.clauses) q.clauses (2 + length q.arities + length q.clauses) at

lines_on : (q : Problem) (x last : List ℕ) (o p : Parsed) → o ≡ p → LinesTaken q x last p → LinesTaken q x last o
lines_on q x last o p e r = record { at = r.at; rest = r.rest; read = e ∙ r.read }

module _ (q : Problem) (fits : Fits q) (x last : List ℕ) where
  clauses_taken : (rest : List Clause) (left : ℕ) (ks : List Clause) (line at : ℕ) → ks ++ rest ≡ q.clauses → length ks + left ≡ 64
      → line ≡ 2 + length q.arities + length ks → All (ClauseFits q.constants q.arities) rest → weights q.constants ks + weights q.constants rest ≤ 16384
      → drop at x ≡ clause_lines rest ++ last → LinesTaken q x last (parse_clauses x q.constants q.limit q.arities left ks line at)
  unfolding parse_clauses flat_map
  clauses_taken [] left ks line at whole count place fit light e =
      let same : ks ≡ q.clauses = sym (append-nil ks) ∙ whole in
      let room : left ≡ 64 - length ks = omega arith in
      record { at = at; rest = e; read = rw (place, room, same) }
  clauses_taken (k ∷ rest) zero ks line at whole count place fit light e =
      absurd (omega (arith, fits.clauses_fit, simp length-append at (ap length whole)))
  clauses_taken (k ∷ rest) (suc left) ks line at whole count place fit light e =
      let f = clause_frame k in
      let n = length f in
      let held =
      line_printed x at f (clause_lines rest ++ last)
      (clause_bytes q.constants q.arities fits.predicates_fit fits.arities_fit k fit.0) (omega arith)
      (clause_short q.constants q.arities fits.predicates_fit fits.arities_fit k fit.0)
      (e ∙ append_assoc (hex_line f) (clause_lines rest) last)
      in
      lines_on q x last _ _
      (past_line_lem line (line_at x at) _ n held.line
      ∙ past_test (eqb (get_or (frame_at x at n) 0 0) 3) _ _ (rw held.frame)
      ∙ past_judge line (judge_clause q.constants q.arities (weights q.constants ks) (frame_at x at n)) _ k.vars
      (rw held.frame (clause_taken q.constants q.arities k fit.0 (weights q.constants ks) (omega arith))))
      (rw (held.frame, clause_cut q.constants q.arities k fit.0)
      (clauses_taken rest left (ks ++ (k ∷ [])) (suc line) (after_line at n) (append_snoc ks k rest ∙ whole) (simp length-append (omega arith)) (simp length-append (omega arith))
      fit.1 (rw (weights_snoc q.constants ks k) (omega arith)) held.rest))

  arities_taken : (rest arities : List ℕ) (line at : ℕ) → arities ++ rest ≡ q.arities → line ≡ 2 + length arities → All (λ a. a ≤ 3) rest
      → atom_count q.constants arities + atom_count q.constants rest ≤ 1024 → drop at x ≡ arity_lines rest ++ (clause_lines q.clauses ++ last)
      → LinesTaken q x last (parse_arities x q.constants q.limit (length rest) arities line at)
  unfolding parse_arities flat_map
  arities_taken [] arities line at whole place fit room e =
      let same : arities ≡ q.arities = sym (append-nil arities) ∙ whole in
      rw same (clauses_taken q.clauses 64 [] line at refl refl (omega (arith, ap length same)) fits.each_fits (omega (arith, fits.weights_fit)) e)
  arities_taken (a ∷ rest) arities line at whole place fit room e =
      let small : a ≤ 3 = fit.0 in
      let held =
      line_printed x at (arity_frame a) (arity_lines rest ++ (clause_lines q.clauses ++ last)) (omega arith, (omega arith, tt)) (omega arith) (omega arith)
      (e ∙ append_assoc (hex_line (arity_frame a)) (arity_lines rest) (clause_lines q.clauses ++ last))
      in
      lines_on q x last _ _
      (past_line_lem line (line_at x at) _ 2 held.line
      ∙ past_judge line (judge_arity q.constants (atom_count q.constants arities) (frame_at x at 2)) _ a
      (rw held.frame (arity_taken q.constants (atom_count q.constants arities) a small (omega arith))))
      (arities_taken rest (arities ++ (a ∷ [])) (suc line) (after_line at 2) (append_snoc arities a rest ∙ whole) (simp length-append (omega arith)) fit.1
      (rw (atom_count_snoc q.constants arities a) (omega arith)) held.rest)

  pub lines_taken : x ≡ lines_of q last → LinesTaken q x last (parse x)
  unfolding parse
  lines_taken e =
      let f = heading_frame q in
      let eight : length f ≡ 8 = omega (arith, fits.limit_four) in
      let after = arity_lines q.arities ++ (clause_lines q.clauses ++ last) in
      let held = line_printed x 0 f after (heading_bytes q fits) (omega arith) (omega arith) (e ∙ simp append_assoc) in
      let limit : take 4 (drop 4 f) ≡ q.limit = take_all 4 q.limit (omega (arith, fits.limit_four)) in
      lines_on q x last _ _
      (past_line_lem 1 (line_at x 0) _ (length f) held.line
      ∙ past_heading 1 (judge_heading (frame_at x 0 (length f))) _ (record { constants = q.constants; predicates = length q.arities }) (rw held.frame (heading_taken q fits)))
      (rw (held.frame, limit) (arities_taken q.arities [] 2 (after_line 0 (length f)) refl refl fits.arities_fit (omega (arith, fits.atoms_fit)) held.rest))

pub parse_accepts : (q : Problem) → Fits q → parse (text_of q) ≡ parsed q
unfolding text_of
parse_accepts q fits =
    let lines = lines_taken q fits (text_of q) (hex_line (closing_frame q)) refl in
    lines.read ∙ last_taken q fits (text_of q) (2 + length q.arities + length q.clauses) lines.at lines.rest (64 - length q.clauses)
