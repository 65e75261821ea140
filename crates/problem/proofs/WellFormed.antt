-- The judges accept the frames of a well-formed problem, and its text is short.
use Rattle.std.specs.Prelude.{Ok, Err}
use Prim.Native.Nat.{ℕ, suc, ◌+◌, ◌-◌, ◌*◌, ◌^◌, ◌≤◌, ◌<◌}
use mathlib.Core.Bool.{not, cond}
use mathlib.Core.List.{List, [], ◌∷◌, ◌++◌, append_assoc, append-nil, flat_map}
use mathlib.Core.Logic.{◌⊎◌, inl, inr}
use mathlib.Core.Path.{◌≡◌, refl, sym, ap, ◌∙◌}
use native.Mathlib.Nat.{add-zero, mul-zero, mul-suc}
use native.Mathlib.Omega.{arith}
use borrow.Author.Tests.{lt-ltb, le-ltb, le-leb, eq-eqb}
use lib.Dec.{T, ltb, ltb→lt, nltb→le}
use lib.ListN.{length, drop, get_or, length-append}
use lib.Seq.{append_snoc, drop-drop, drop-append_seam, take-append_seam}
use Rattle.lists.specs.Member.{All}
use Rattle.lists.proofs.Bytes.{drop_next}
use Rattle.lists.proofs.Member.{all_of, all_map, All-append, all_flat, any_left, any_flat, flat_append}
use Rattle.lists.proofs.Test.{decided}
use Rattle.problem.specs.Digit.{hex_byte, hex_line}
use Rattle.problem.specs.Problem.{Atom, Clause, Problem, ArgFits, AtomFits, arguments_of, VariablesInOrder, ClauseFits, Fits, weight}
use Rattle.problem.specs.Judge.{Judged, Span, judge_sizes, judge_heading, judge_arity, judge_variable, judge_arg, judge_args, judge_atom, judge_atoms, judge_end, judge_body, judge_clause, atom_at, after_atom, atoms_at, after_atoms, clause_at}
use Rattle.problem.specs.Parse.{judge_closing}
use Rattle.problem.specs.Print.{atom_bytes, heading_frame, arity_frame, clause_frame, closing_frame, text_of}
use Rattle.problem.proofs.Judges.{arguments_in, atoms_reached}
use Rattle.problem.proofs.TableLayout.{fits_short}
use Rattle.problem.proofs.Variables.{Stands, Seen, seen_none, seen_not, seen_old, seen_new, seen_same}

-- the way of a test
module _ {R : Type 0} (a b : ℕ) (r other : R) where
  below : a < b → cond (ltb a b) r other ≡ r
  below l = rw (lt-ltb a b l)

  above : b ≤ a → cond (ltb a b) r other ≡ other
  above l = rw (le-ltb a b l)

-- an argument after others is judged, and counted
record ArgTaken (c v b : ℕ) (front : List ℕ) : Type 0 where
  count : ℕ
  judged : judge_arg c v b ≡ Ok count
  seen : Seen (front ++ (b ∷ [])) count

module _ (c vars : ℕ) (few : vars ≤ 4) where
  arg_taken : (v b : ℕ) (front : List ℕ) → Seen front v → ((x : ℕ) → b ≡ 128 + x → (y : ℕ) → y < x → Stands y front) → ArgFits c vars b → ArgTaken c v b front
  unfolding judge_arg judge_variable
  arg_taken v b front s before (inl p) =
      record { count = v; judged = below b _ _ _ (omega arith) ∙ below b c _ _ p.1; seen = seen_old front v s b (omega arith) }
  arg_taken v b front s before (inr p) = go (decided (ltb (b - 128) v)) (decided (ltb v (b - 128)))
    where
      variable : judge_arg c v b ≡ judge_variable v (b - 128)
      variable = above b _ _ _ (omega arith) ∙ rw (le-leb 128 b p.0, lt-ltb b 132 (omega arith))

      go : T (ltb (b - 128) v) ⊎ T (not (ltb (b - 128) v)) → T (ltb v (b - 128)) ⊎ T (not (ltb v (b - 128))) → ArgTaken c v b front
      go (inl t) d =
          let old = ltb→lt (b - 128) v t in
          record {
            count = v;
            judged = variable ∙ below (b - 128) v _ _ old;
            seen = seen_old front v s b (omega arith);
          }
      go (inr t) (inl u) = absurd (seen_not front v s (before (b - 128) (omega arith) v (ltb→lt v (b - 128) u)))
      go (inr t) (inr u) =
          let low = nltb→le (b - 128) v t in
          let high = nltb→le v (b - 128) u in
          record {
            count = suc v;
            judged = variable ∙ rw (le-ltb (b - 128) v low, eq-eqb (b - 128) v (omega arith));
            seen = seen_new front v s b (omega arith);
          }

-- what stands behind the first part of a list's end
past : (f : List ℕ) (j : ℕ) (xs post : List ℕ) → drop j f ≡ xs ++ post → drop (j + length xs) f ≡ post
past f j xs post e = sym (drop-drop (length xs) j f) ∙ rw e (drop-append_seam xs post)

atoms_next : (c : ℕ) (arities f : List ℕ) (n j v i w : ℕ) → judge_atom c arities f j v ≡ Ok (i, w) → judge_atoms c arities f (suc n) j v ≡ judge_atoms c arities f n i w
unfolding judge_atoms
atoms_next c arities f n j v i w e = ap {B = Span} (λ (o : Span). elim o [ Err k ↦ Err k | Ok (i, w) ↦ judge_atoms c arities f n i w ]) e

-- judged to a place, and these arguments counted
record SpanTaken (o : Span) (bs : List ℕ) (at : ℕ) : Type 0 where
  count : ℕ
  judged : o ≡ Ok (at, count)
  seen : Seen bs count

-- of a frame, in a clause with so many variables and these arguments
module _ (c vars : ℕ) (few : vars ≤ 4) (arities f whole : List ℕ) (ordered : VariablesInOrder whole) where
  args_taken : (args : List ℕ) (j v : ℕ) (front back post : List ℕ) → All (ArgFits c vars) args → drop j f ≡ args ++ post → whole ≡ front ++ (args ++ back)
      → Seen front v → SpanTaken (judge_args c f (length args) j v) (front ++ args) (j + length args)
  unfolding judge_args
  args_taken [] j v front back post fit e w s = record { count = v; judged = rw add-zero; seen = rw append-nil s }
  args_taken (b ∷ args) j v front back post fit e w s =
      let next = drop_next f j b (args ++ post) e in
      let arg = arg_taken c vars few v b front s (λ x q y l. ordered front (args ++ back) x (w ∙ rw q) y l) fit.0 in
      let more = args_taken args (suc j) arg.count (front ++ (b ∷ [])) back post fit.1 next.2 (w ∙ rw (append_snoc front b (args ++ back))) arg.seen in
      let place : suc j + length args ≡ j + suc (length args) = omega arith in
      record {
        count = more.count;
        judged = rw (lt-ltb j (length f) next.0, next.1, arg.judged, ← place) more.judged;
        seen = rw (append_snoc front b args) at more.seen;
      }

  atom_taken : (a : Atom) (j v : ℕ) (front back post : List ℕ) → AtomFits c arities vars a → drop j f ≡ atom_bytes a ++ post → whole ≡ front ++ (a.args ++ back)
      → Seen front v → SpanTaken (judge_atom c arities f j v) (front ++ a.args) (j + length (atom_bytes a))
  unfolding judge_atom
  atom_taken a j v front back post fit e w s =
      let next = drop_next f j a.pred (a.args ++ post) e in
      let args = args_taken a.args (suc j) v front back post fit.args_fit next.2 w s in
      let place : suc j + length a.args ≡ j + suc (length a.args) = omega arith in
      record {
        count = args.count;
        judged = rw (lt-ltb j (length f) next.0, next.1, lt-ltb a.pred (length arities) fit.known, ← fit.arity, ← place) args.judged;
        seen = args.seen;
      }

  -- an atom, and those after it
  atoms_more : (a : Atom) (atoms : List Atom) (j v : ℕ) (front : List ℕ) (one : SpanTaken (judge_atom c arities f j v) (front ++ a.args) (j + length (atom_bytes a)))
      → SpanTaken (judge_atoms c arities f (length atoms) (j + length (atom_bytes a)) one.count) (front ++ a.args ++ arguments_in atoms)
      (j + length (atom_bytes a) + length (flat_map atom_bytes atoms))
      → SpanTaken (judge_atoms c arities f (length (a ∷ atoms)) j v) (front ++ arguments_in (a ∷ atoms)) (j + length (flat_map atom_bytes (a ∷ atoms)))
  unfolding flat_map
  atoms_more a atoms j v front one more =
      let place : j + length (atom_bytes a) + length (flat_map atom_bytes atoms) ≡ j + length (flat_map atom_bytes (a ∷ atoms)) =
      omega (arith, length-append (atom_bytes a) (flat_map atom_bytes atoms))
      in
      record {
        count = more.count;
        judged = rw (← place) (atoms_next c arities f (length atoms) j v (j + length (atom_bytes a)) one.count one.judged ∙ more.judged);
        seen = rw (append_assoc front a.args (arguments_in atoms)) at more.seen;
      }

  atoms_taken : (atoms : List Atom) (j v : ℕ) (front back post : List ℕ) → All (AtomFits c arities vars) atoms → drop j f ≡ flat_map atom_bytes atoms ++ post
      → whole ≡ front ++ (arguments_in atoms ++ back) → Seen front v
      → SpanTaken (judge_atoms c arities f (length atoms) j v) (front ++ arguments_in atoms) (j + length (flat_map atom_bytes atoms))
  unfolding judge_atoms flat_map
  atoms_taken [] j v front back post fit e w s = record { count = v; judged = rw add-zero; seen = rw append-nil s }
  atoms_taken (a ∷ atoms) j v front back post fit e w s =
      let rest = flat_map atom_bytes atoms ++ post in
      let first : drop j f ≡ atom_bytes a ++ rest = e ∙ append_assoc (atom_bytes a) (flat_map atom_bytes atoms) post in
      let args : whole ≡ front ++ (a.args ++ (arguments_in atoms ++ back)) = w ∙ ap (λ (l : List ℕ). front ++ l) (append_assoc a.args (arguments_in atoms) back) in
      let one = atom_taken a j v front (arguments_in atoms ++ back) rest fit.0 first args s in
      atoms_more a atoms j v front one
      (atoms_taken atoms (j + length (atom_bytes a)) one.count (front ++ a.args) back post fit.1
      (past f j (atom_bytes a) rest first)
      (args ∙ sym (append_assoc front a.args (arguments_in atoms ++ back)))
      one.seen)

-- ---- a frame is cut into the atoms that it was printed from

-- as many arguments as its predicate's arity
abbrev HasArity : List ℕ → Atom → Type 0
HasArity arities a = length a.args ≡ get_or arities a.pred 0

module _ (arities f : List ℕ) where
  atom_cut : (a : Atom) (j : ℕ) (post : List ℕ) → HasArity arities a → drop j f ≡ atom_bytes a ++ post
      → (atom_at arities f j ≡ a) × (after_atom arities f j ≡ j + length (atom_bytes a))
  atom_cut a j post sized e =
      let next = drop_next f j a.pred (a.args ++ post) e in (
        rw (next.1, ← sized, next.2, take-append_seam a.args post),
        rw (next.1, ← sized) (omega arith),
      )

  atoms_cut : (atoms : List Atom) (j : ℕ) (post : List ℕ) → All (HasArity arities) atoms → drop j f ≡ flat_map atom_bytes atoms ++ post → atoms_at arities f (length atoms) j ≡ atoms
  unfolding flat_map
  atoms_cut [] j post sized e = refl
  atoms_cut (a ∷ atoms) j post sized e =
      let rest = flat_map atom_bytes atoms ++ post in
      let first : drop j f ≡ atom_bytes a ++ rest = e ∙ append_assoc (atom_bytes a) (flat_map atom_bytes atoms) post in
      let one = atom_cut a j rest sized.0 first in
      rw (one.0, one.1, atoms_cut atoms (j + length (atom_bytes a)) post sized.1 (past f j (atom_bytes a) rest first))

-- ---- a clause line

arg_below : (c v b : ℕ) → ArgFits c v b → b < 128 + v
arg_below c v b (inl p) = omega arith
arg_below c v b (inr p) = p.1

args_below : (c : ℕ) (arities : List ℕ) (v : ℕ) (atoms : List Atom) → All (AtomFits c arities v) atoms → All (λ b. b < 128 + v) (arguments_in atoms)
args_below c arities v atoms h = all_flat (λ a. a.args) (λ b. b < 128 + v) atoms (all_map (AtomFits c arities v) (λ a. All (λ b. b < 128 + v) a.args) each atoms h)
  where
    each : (a : Atom) → AtomFits c arities v a → All (λ b. b < 128 + v) a.args
    each a r = all_map (ArgFits c v) (λ b. b < 128 + v) (arg_below c v) a.args r.args_fit

span_count : (o : Span) (bs : List ℕ) (at v : ℕ) → SpanTaken o bs at → Seen bs v → o ≡ Ok (at, v)
span_count o bs at v s t = s.judged ∙ ap (λ (w : ℕ). Ok (at, w)) (seen_same bs s.count v s.seen t)

module _ (c : ℕ) (arities : List ℕ) (k : Clause) (fits : ClauseFits c arities k) where
  -- all of a clause's variables stand in its conditions
  conds_named : (x : ℕ) → x < k.vars → Stands x (arguments_in k.conds)
  conds_named x l = any_flat (λ a. a.args) (λ b. b ≡ 128 + x) k.conds (fits.named x l)

  conds-Seen : Seen (arguments_in k.conds) k.vars
  conds-Seen = record { named = conds_named; below = args_below c arities k.vars k.conds fits.conds_fit }

  all_seen : Seen (arguments_in k.conds ++ arguments_in k.alts) k.vars
  all_seen =
      record {
        named = λ x l. any_left (λ b. b ≡ 128 + x) (arguments_in k.conds) (arguments_in k.alts) (conds_named x l);
        below = All-append (λ b. b < 128 + k.vars) (arguments_in k.conds) (arguments_in k.alts) conds-Seen.below (args_below c arities k.vars k.alts fits.alts_fit);
      }

  both : arguments_of k ≡ arguments_in k.conds ++ arguments_in k.alts
  both = flat_append (λ a. a.args) k.conds k.alts

  -- where the conditions end, and the alternatives
  abbrev half : ℕ
  half = 3 + length (flat_map atom_bytes k.conds)

  abbrev end : ℕ
  end = half + length (flat_map atom_bytes k.alts)

  -- the alternatives stand behind the conditions, and nothing behind them
  behind : drop half (clause_frame k) ≡ flat_map atom_bytes k.alts ++ []
  behind = past (clause_frame k) 3 (flat_map atom_bytes k.conds) (flat_map atom_bytes k.alts) refl ∙ rw append-nil

  conds_judged : judge_atoms c arities (clause_frame k) (length k.conds) 3 0 ≡ Ok (half, k.vars)
  conds_judged =
      span_count _ (arguments_in k.conds) half k.vars
      (atoms_taken c k.vars fits.few_vars arities (clause_frame k) (arguments_of k) fits.in_order k.conds 3 0 [] (arguments_in k.alts) (flat_map atom_bytes k.alts)
      fits.conds_fit refl both seen_none)
      conds-Seen

  alts_judged : judge_atoms c arities (clause_frame k) (length k.alts) half k.vars ≡ Ok (end, k.vars)
  alts_judged =
      span_count _ (arguments_in k.conds ++ arguments_in k.alts) end k.vars
      (atoms_taken c k.vars fits.few_vars arities (clause_frame k) (arguments_of k) fits.in_order k.alts half k.vars (arguments_in k.conds) [] []
      fits.alts_fit behind (both ∙ rw append-nil) conds-Seen)
      all_seen

  frame_size : length (clause_frame k) ≡ end
  frame_size = omega (arith, length-append (flat_map atom_bytes k.conds) (flat_map atom_bytes k.alts))

  body_judged : (sum : ℕ) → sum + weight c k ≤ 16384 → judge_body c arities sum (length k.conds) (length k.alts) (clause_frame k) ≡ Ok k.vars
  unfolding judge_body judge_end
  body_judged sum light =
      ap {B = Judged} (λ (o : Span). elim o [
        | Err e ↦ Err e
        | Ok (i, v) ↦ elim (judge_atoms c arities (clause_frame k) (length k.alts) i v) [ Err e ↦ Err e | Ok (j, w) ↦ judge_end c sum (length (clause_frame k)) (length k.conds) v j w ]
      ]) conds_judged
      ∙ ap {B = Judged} (λ (o : Span). elim o [ Err e ↦ Err e | Ok (j, w) ↦ judge_end c sum (length (clause_frame k)) (length k.conds) k.vars j w ]) alts_judged
      ∙ rw (eq-eqb end (length (clause_frame k)) (sym frame_size), eq-eqb k.vars k.vars refl, le-leb (sum + weight c k) 16384 light)

  pub clause_taken : (sum : ℕ) → sum + weight c k ≤ 16384 → judge_clause c arities sum (clause_frame k) ≡ Ok k.vars
  unfolding judge_clause
  clause_taken sum light =
      rw (
        lt-ltb 1 (length (clause_frame k)) (omega (arith, frame_size)),
        lt-ltb (length k.conds) 5 (omega (arith, fits.few_conds)),
        lt-ltb 2 (length (clause_frame k)) (omega (arith, frame_size)),
        lt-ltb (length k.alts) 5 (omega (arith, fits.few_alts)),
      )
      (body_judged sum light)

  pub clause_cut : clause_at arities (clause_frame k) k.vars ≡ k
  clause_cut =
      let place : half ≡ after_atoms arities (clause_frame k) (length k.conds) 3 = (atoms_reached c arities (clause_frame k) (length k.conds) 3 0 half k.vars conds_judged).place in
      rw (
        atoms_cut arities (clause_frame k) k.conds 3 (flat_map atom_bytes k.alts) (sized k.conds fits.conds_fit) refl,
        ← place,
        atoms_cut arities (clause_frame k) k.alts half [] (sized k.alts fits.alts_fit) behind,
      )
    where
      sized : (atoms : List Atom) → All (AtomFits c arities k.vars) atoms → All (HasArity arities) atoms
      sized atoms h = all_map (AtomFits c arities k.vars) (HasArity arities) (λ a r. r.arity) atoms h

-- ---- the other lines

pub heading_taken : (q : Problem) → Fits q → judge_heading (heading_frame q) ≡ Ok (record { constants = q.constants; predicates = length q.arities })
unfolding judge_heading judge_sizes
heading_taken q fits =
    rw (
      fits.limit_four,
      lt-ltb q.constants 33 (omega (arith, fits.constants_fit)),
      lt-ltb 0 (length q.arities) fits.some_predicate,
      lt-ltb (length q.arities) 33 (omega (arith, fits.predicates_fit)),
    )

pub arity_taken : (c atoms a : ℕ) → a ≤ 3 → atoms + c ^ a ≤ 1024 → judge_arity c atoms (arity_frame a) ≡ Ok a
unfolding judge_arity
arity_taken c atoms a h room = rw (lt-ltb a 4 (omega arith), le-leb (atoms + c ^ a) 1024 room)

pub closing_taken : (count : ℕ) → judge_closing count (255 ∷ count ∷ []) ≡ Ok 0
unfolding judge_closing
closing_taken count = rw (eq-eqb count count refl)

-- ---- frames are short, and made of bytes

abbrev Bytes : List ℕ → Type 0
Bytes f = All (λ b. b < 256) f

flat_most : {A : Type 0} (g : A → List ℕ) (w : ℕ) (xs : List A) → All (λ a. length (g a) ≤ w) xs → length (flat_map g xs) ≤ w * length xs
unfolding flat_map
flat_most g w [] h = rw mul-zero (omega arith)
flat_most g w (a ∷ xs) h = rw (length-append, mul-suc) (omega (arith, h.0, flat_most g w xs h.1))

module _ (c : ℕ) (arities : List ℕ) (few : length arities ≤ 32) (small : All (λ a. a ≤ 3) arities) (k : Clause) (fits : ClauseFits c arities k) where
  atoms_bytes : (atoms : List Atom) → All (AtomFits c arities k.vars) atoms → Bytes (flat_map atom_bytes atoms)
  atoms_bytes atoms h = all_flat atom_bytes (λ b. b < 256) atoms (all_map (AtomFits c arities k.vars) (λ a. Bytes (atom_bytes a)) each atoms h)
    where
      each : (a : Atom) → AtomFits c arities k.vars a → Bytes (atom_bytes a)
      each a r =
          let known : a.pred < length arities = r.known in (
            omega arith,
            all_map (ArgFits c k.vars) (λ b. b < 256) (λ b p. omega (arith, arg_below c k.vars b p, fits.few_vars)) a.args r.args_fit,
          )

  atoms_size : (atoms : List Atom) → All (AtomFits c arities k.vars) atoms → length (flat_map atom_bytes atoms) ≤ 4 * length atoms
  atoms_size atoms h = flat_most atom_bytes 4 atoms (all_map (AtomFits c arities k.vars) (λ a. length (atom_bytes a) ≤ 4) (λ a r. omega (arith, fits_short c arities k.vars a small r)) atoms h)

  pub clause_bytes : Bytes (clause_frame k)
  clause_bytes =
      let atoms = All-append (λ b. b < 256) (flat_map atom_bytes k.conds) (flat_map atom_bytes k.alts) (atoms_bytes k.conds fits.conds_fit) (atoms_bytes k.alts fits.alts_fit) in
      (omega arith, (omega (arith, fits.few_conds), (omega (arith, fits.few_alts), atoms)))

  pub clause_short : length (clause_frame k) < 36
  clause_short =
      omega (
        arith,
        frame_size c arities k fits,
        atoms_size k.conds fits.conds_fit,
        atoms_size k.alts fits.alts_fit,
        fits.few_conds,
        fits.few_alts,
      )

pub heading_bytes : (q : Problem) → Fits q → Bytes (heading_frame q)
heading_bytes q fits = (omega arith, (omega arith, (omega (arith, fits.constants_fit), (omega (arith, fits.predicates_fit), fits.limit_bytes))))

-- ---- so the text is short

line_most : (f : List ℕ) → length (hex_line f) ≤ 2 * length f + 1
unfolding hex_byte hex_line
line_most f = omega (arith, length-append (flat_map hex_byte f) (10 ∷ []), flat_most hex_byte 2 f (all_of (λ b. length (hex_byte b) ≤ 2) (λ b. omega arith) f))

pub text_short : (q : Problem) → Fits q → length (text_of q) ≤ 4726
unfolding text_of
text_short q fits =
    let arity_line : ℕ → List ℕ = λ a. hex_line (arity_frame a) in
    let clause_line : Clause → List ℕ = λ k. hex_line (clause_frame k) in
    let arities : length (flat_map arity_line q.arities) ≤ 5 * length q.arities =
    flat_most arity_line 5 q.arities (all_of (λ a. length (arity_line a) ≤ 5) (λ a. line_most (arity_frame a)) q.arities) in
    let clauses : length (flat_map clause_line q.clauses) ≤ 71 * length q.clauses =
    flat_most clause_line 71 q.clauses (all_map (ClauseFits q.constants q.arities) (λ k. length (clause_line k) ≤ 71) each q.clauses fits.each_fits) in
    simp length-append (omega (arith, line_most (heading_frame q), line_most (closing_frame q), fits.limit_four, fits.predicates_fit, fits.clauses_fit))
  where
    each : (k : Clause) → ClauseFits q.constants q.arities k → length (hex_line (clause_frame k)) ≤ 71
    each k f = omega (arith, line_most (clause_frame k), clause_short q.constants q.arities fits.predicates_fit fits.arities_fit k f)
