-- The numbers that a frame is refused by as the next clause line.
use Rattle.std.specs.Prelude.{Ok, Err}
use Prim.Native.Nat.{ℕ, ◌+◌, ◌*◌, ◌^◌}
use mathlib.Core.Bool.{Bool, true, false, cond}
use mathlib.Core.List.{List, ◌∷◌}
use mathlib.Core.Path.{◌≡◌, subst}
use lib.Dec.{eqb, ltb, leb}
use lib.ListN.{length, get_or}
use Rattle.lists.specs.Key.{nat_key}
use Rattle.lists.specs.Member.{In}
use Rattle.problem.specs.declared.fault.Fault.{Fault}
use Rattle.problem.specs.declared.fault.Fault.TheVariants.{BadKind, BadLength, BadCount, Unknown, BadNumbering, FreeVariable, TooManyMarks, ShortBuffer, NoTable, StaleSlip}
use Rattle.problem.specs.Faults.{fault_number}
use Rattle.problem.specs.Problem.{Problem, weights}
use Rattle.problem.specs.Judge.{Judged, Span, judge_atoms, judge_end, judge_body, judge_clause}
use Rattle.problem.specs.Extended.{judge_next}
use Rattle.problem.proofs.Refusals.{JudgedBy, SpanBy, atoms_numbered}
use Rattle.offering.specs.Offer.{Offering, count_held, frame_held, offering_of, judge_slip}
use Rattle.offering.specs.Claims.{clause_refusals}

refused_same : (i e : Fault) → ◌≡◌ {A = Offering} (Err i) (Err e) → i ≡ e
refused_same i e q = cc

-- what is refused by such numbers, by both ways of a test
module _ (N : Fault → Type 0) where
  by_test : (b : Bool) (o missing : Judged) → JudgedBy N o → JudgedBy N missing → JudgedBy N (cond b o missing)
  by_test true o missing p m = p
  by_test false o missing p m = m

  by_atoms : (o : Span) (g : ℕ → ℕ → Judged) → SpanBy N o → ((i w : ℕ) → JudgedBy N (g i w)) → JudgedBy N (elim o [ Err e ↦ Err e | Ok (i, w) ↦ g i w ])
  by_atoms (Err e) g n f = n
  by_atoms (Ok (i, w)) g n f = f i w

module _ (N : Fault → Type 0) (two : N BadKind) (three : N BadLength) (five : N BadCount) (six : N Unknown) (seven : N BadNumbering) (eight : N FreeVariable) (ten : N TooManyMarks) where
  body_by : (c : ℕ) (arities f : List ℕ) (sum conds alts : ℕ) → JudgedBy N (judge_body c arities sum conds alts f)
  unfolding judge_body judge_end
  body_by c arities f sum conds alts =
      by_atoms N (judge_atoms c arities f conds 3 0) _ (atoms_numbered N three six seven c arities f conds 3 0) λ i v.
      by_atoms N (judge_atoms c arities f alts i v) _ (atoms_numbered N three six seven c arities f alts i v) λ j w.
      by_test N (eqb j (length f)) _ _ (by_test N (eqb w v) _ _ (by_test N (leb (sum + conds * c ^ v) 16384) _ _ tt ten) eight) three

  clause_by : (c : ℕ) (arities f : List ℕ) (sum : ℕ) → JudgedBy N (judge_clause c arities sum f)
  unfolding judge_clause
  clause_by c arities f sum =
      by_test N (ltb 1 (length f)) _ _
      (by_test N (ltb (get_or f 1 0) 5) _ _
      (by_test N (ltb 2 (length f)) _ _ (by_test N (ltb (get_or f 2 0) 5) _ _ (body_by c arities f sum (get_or f 1 0) (get_or f 2 0)) five) three) five) three

  next_by : (q : Problem) (f : List ℕ) → JudgedBy N (judge_next q f)
  unfolding judge_next
  next_by q f = by_test N (eqb (get_or f 0 0) 3) _ _ (by_test N (eqb (length q.clauses) 64) _ _ five (clause_by q.constants q.arities f (weights q.constants q.clauses))) two

  -- and as a slip's frame
  slip_by : N StaleSlip → (q : Problem) (slip : List ℕ) → JudgedBy N (judge_slip q slip)
  unfolding judge_slip
  slip_by stale q slip = by_test N (eqb (count_held slip) (length q.clauses)) _ _ (by_test N (ltb (get_or slip 1 0) 36) _ _ (next_by q (frame_held slip)) three) stale

pub next_numbers : (q : Problem) (f : List ℕ) → JudgedBy (λ e. In nat_key (11 ∷ 31 ∷ clause_refusals) (fault_number e)) (judge_next q f)
next_numbers q f = next_by (λ e. In nat_key (11 ∷ 31 ∷ clause_refusals) (fault_number e)) tt tt tt tt tt tt tt q f

pub slip_numbers : (q : Problem) (slip : List ℕ) → JudgedBy (λ e. In nat_key (11 ∷ 31 ∷ 43 ∷ clause_refusals) (fault_number e)) (judge_slip q slip)
slip_numbers q slip = slip_by (λ e. In nat_key (11 ∷ 31 ∷ 43 ∷ clause_refusals) (fault_number e)) tt tt tt tt tt tt tt tt q slip

-- what is said by such faults: a short buffer, no table, or what was judged
pub said_numbers : (N : Fault → Type 0) (short valid : Bool) (o : Judged) (e : Fault) → N ShortBuffer → N NoTable → JudgedBy N o
    → ◌≡◌ {A = Offering} (cond short (Err ShortBuffer) (cond valid (offering_of o) (Err NoTable))) (Err e) → N e
said_numbers N true valid o e n m j q = subst N (refused_same ShortBuffer e q) n
said_numbers N false false o e n m j q = subst N (refused_same NoTable e q) m
said_numbers N false true (Err i) e n m j q = subst N (refused_same i e q) j
said_numbers N false true (Ok v) e n m j q = cc
