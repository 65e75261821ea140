-- What a judge's answer says of the bytes judged.
use Rattle.std.specs.Prelude.{Ok, Err}
use Rattle.problem.specs.declared.fault.Fault.{Fault}
use Rattle.problem.specs.declared.judge.Sizes.{Sizes}
use Rattle.problem.specs.declared.fault.Fault.TheVariants.{BadKind, BadLength, BadVersion, BadCount, Unknown, BadNumbering, FreeVariable, TooManyAtoms, TooManyMarks}
use Prim.Native.Nat.{ℕ, zero, suc, ◌+◌, ◌-◌, ◌*◌, ◌^◌, ◌≤◌, ◌<◌}
use mathlib.Core.Bool.{Bool, true, false, not, cond, ◌&&◌}
use mathlib.Core.List.{List, [], ◌∷◌, ◌++◌, append_assoc, append-nil, flat_map}
use mathlib.Core.Logic.{◌⊎◌, inl, inr}
use mathlib.Core.Path.{◌≡◌, refl, sym, ap, subst, ◌∙◌}
use native.Mathlib.Omega.{arith}
use lib.Dec.{T, eqb, ltb, leb, eqb→eq, ltb→lt, nltb→le, leb→le}
use lib.ListN.{length, take, drop, get_or, length-append, length-drop, take-append-drop}
use lib.Seq.{drop-cons, drop-drop, take_all, drop-length, length-take-le}
use Rattle.lists.specs.Member.{All, Any}
use Rattle.lists.proofs.Test.{decided}
use Rattle.lists.specs.Test.{T_left, T_right}
use Rattle.lists.proofs.Member.{all_map, any_flat, flat_append}
use Rattle.problem.specs.Problem.{Atom, ArgFits, AtomFits, VariablesInOrder, ClauseFits, weight}
use Rattle.problem.specs.Judge.{Judged, Span, Heading, judge_sizes, judge_heading, judge_arity, judge_variable, judge_arg, judge_args, judge_atom, judge_atoms, judge_end, judge_body, judge_clause, atom_at, after_atom, atoms_at, after_atoms, clause_at}
use Rattle.problem.specs.Print.{atom_bytes, arity_frame, clause_frame}
use Rattle.problem.proofs.Variables.{Stands, InOrderFrom, order_none, order_append}

-- where the answer is none that a failed test gives, the test passed
pub passed : {R : Type 0} (b : Bool) (r missing t : R) → (missing ≡ t → ⊥) → cond b r missing ≡ t → T b × (r ≡ t)
passed true r missing t f e = (tt, e)
passed false r missing t f e = absurd (f e)

-- by either way of a test
tested : {R S : Type 0} (a b : ℕ) (r other t : R) → cond (ltb a b) r other ≡ t → (a < b → r ≡ t → S) → (b ≤ a → other ≡ t → S) → S
tested {R} {S} a b r other t e f g = go (ltb a b) (ltb→lt a b) (nltb→le a b) e
  where
    go : (d : Bool) → (T d → a < b) → (T (not d) → b ≤ a) → cond d r other ≡ t → S
    go true l m q = f (l tt) q
    go false l m q = g (m tt) q

pub wrong_sizes : (e : Fault) (s : Sizes) → ◌≡◌ {A = Heading} (Err e) (Ok s) → ⊥
wrong_sizes e s q = let z : ◌≡◌ {A = ℕ} 0 1 = cc in omega arith

pub fault_found : (e : Fault) (v : ℕ) → ◌≡◌ {A = Judged} (Err e) (Ok v) → ⊥
fault_found e v q = let z : ◌≡◌ {A = ℕ} 0 1 = cc in omega arith

pub broken_reached : (e : Fault) (i w : ℕ) → ◌≡◌ {A = Span} (Err e) (Ok (i, w)) → ⊥
broken_reached e i w q = let z : ◌≡◌ {A = ℕ} 0 1 = cc in omega arith

-- where the bytes end, and how many variables have appeared
abbrev reached_at : Span → ℕ
reached_at (Err e) = 0
reached_at (Ok (i, w)) = i

abbrev seen_by : Span → ℕ
seen_by (Err e) = 0
seen_by (Ok (i, w)) = w

-- the first line
pub record Headed (f : List ℕ) (c p : ℕ) : Type 0 where
  pub bytes : f ≡ 1 ∷ 1 ∷ c ∷ p ∷ take 4 (drop 4 f)
  pub eight : length f ≡ 8
  pub constants_fit : c ≤ 32
  pub some_predicate : 1 ≤ p
  pub predicates_fit : p ≤ 32

four_then : (f : List ℕ) → length f ≡ 8 → f ≡ get_or f 0 0 ∷ get_or f 1 0 ∷ get_or f 2 0 ∷ get_or f 3 0 ∷ take 4 (drop 4 f)
four_then f h =
    let rest : take 4 (drop 4 f) ≡ drop 4 f = take_all 4 (drop 4 f) (omega (arith, length-drop 4 f)) in
    drop-cons f 0 0 (omega arith)
    ∙ rw (drop-cons f 1 0 (omega arith), drop-cons f 2 0 (omega arith), drop-cons f 3 0 (omega arith), rest)

pub heading_sizes : (f : List ℕ) (s : Sizes) → judge_heading f ≡ Ok s → Headed f s.constants s.predicates
unfolding judge_heading judge_sizes
heading_sizes f s e =
    let c = s.constants in
    let p = s.predicates in
    let kind = passed (eqb (get_or f 0 0) 1) _ _ _ (wrong_sizes BadKind s) e in
    let one = passed (ltb 1 (length f)) _ _ _ (wrong_sizes BadLength s) kind.1 in
    let version = passed (eqb (get_or f 1 0) 1) _ _ _ (wrong_sizes BadVersion s) one.1 in
    let two = passed (ltb 2 (length f)) _ _ _ (wrong_sizes BadLength s) version.1 in
    let constants = passed (ltb (get_or f 2 0) 33) _ _ _ (wrong_sizes BadCount s) two.1 in
    let three = passed (ltb 3 (length f)) _ _ _ (wrong_sizes BadLength s) constants.1 in
    let predicates = passed (ltb 0 (get_or f 3 0) && ltb (get_or f 3 0) 33) _ _ _ (wrong_sizes BadCount s) three.1 in
    let whole = passed (eqb (length f) 8) _ _ _ (wrong_sizes BadLength s) predicates.1 in
    let same : ◌≡◌ {A = Heading} (Ok (record { constants = get_or f 2 0; predicates = get_or f 3 0 })) (Ok s) = whole.1 in
    let same_c : get_or f 2 0 ≡ c = cc in
    let same_p : get_or f 3 0 ≡ p = cc in
    let zero_is : get_or f 0 0 ≡ 1 = eqb→eq (get_or f 0 0) 1 kind.0 in
    let one_is : get_or f 1 0 ≡ 1 = eqb→eq (get_or f 1 0) 1 version.0 in
    let eight : length f ≡ 8 = eqb→eq (length f) 8 whole.0 in
    let low : 0 < get_or f 3 0 = ltb→lt 0 (get_or f 3 0) (T_left (ltb 0 (get_or f 3 0)) (ltb (get_or f 3 0) 33) predicates.0) in
    let high : get_or f 3 0 < 33 = ltb→lt (get_or f 3 0) 33 (T_right (ltb 0 (get_or f 3 0)) (ltb (get_or f 3 0) 33) predicates.0) in
    let small : get_or f 2 0 < 33 = ltb→lt (get_or f 2 0) 33 constants.0 in
    let front : ◌≡◌ {A = List ℕ} (get_or f 0 0 ∷ get_or f 1 0 ∷ get_or f 2 0 ∷ get_or f 3 0 ∷ take 4 (drop 4 f)) (1 ∷ 1 ∷ c ∷ p ∷ take 4 (drop 4 f)) = cc in
    record {
      bytes = four_then f eight ∙ front;
      eight = eight;
      constants_fit = omega arith;
      some_predicate = omega arith;
      predicates_fit = omega arith;
    }

pub two_bytes : (f : List ℕ) → length f ≡ 2 → f ≡ get_or f 0 0 ∷ get_or f 1 0 ∷ []
two_bytes f h =
    let over : drop 2 f ≡ [] = subst (λ (k : ℕ). drop k f ≡ []) h (drop-length f) in
    drop-cons f 0 0 (omega arith) ∙ rw (drop-cons f 1 0 (omega arith), over)

pub arity_found : (c atoms : ℕ) (f : List ℕ) (a : ℕ) → judge_arity c atoms f ≡ Ok a → (f ≡ arity_frame a) × (a ≤ 3) × (atoms + c ^ a ≤ 1024)
unfolding judge_arity
arity_found c atoms f a e =
    let kind = passed (eqb (get_or f 0 0) 2) _ _ _ (fault_found BadKind a) e in
    let one = passed (ltb 1 (length f)) _ _ _ (fault_found BadLength a) kind.1 in
    let few = passed (ltb (get_or f 1 0) 4) _ _ _ (fault_found BadCount a) one.1 in
    let whole = passed (eqb (length f) 2) _ _ _ (fault_found BadLength a) few.1 in
    let room = passed (leb (atoms + c ^ get_or f 1 0) 1024) _ _ _ (fault_found TooManyAtoms a) whole.1 in
    let found : ◌≡◌ {A = Judged} (Ok (get_or f 1 0)) (Ok a) = room.1 in
    let same : get_or f 1 0 ≡ a = cc in
    let zero_is : get_or f 0 0 ≡ 2 = eqb→eq (get_or f 0 0) 2 kind.0 in
    let two : length f ≡ 2 = eqb→eq (length f) 2 whole.0 in
    let small : get_or f 1 0 < 4 = ltb→lt (get_or f 1 0) 4 few.0 in (
      two_bytes f two ∙ rw (zero_is, same),
      omega arith,
      subst (λ (k : ℕ). atoms + c ^ k ≤ 1024) same (leb→le (atoms + c ^ get_or f 1 0) 1024 room.0),
    )

-- an argument judged with v variables so far, and w with it
pub record ArgJudged (c v w b : ℕ) : Type 0 where
  pub grows : v ≤ w
  pub few : v ≤ 4 → w ≤ 4
  pub fits : ArgFits c w b
  pub named : (x : ℕ) → v ≤ x → x < w → b ≡ 128 + x

pub arg_found : (c v b w : ℕ) → judge_arg c v b ≡ Ok w → ArgJudged c v w b
unfolding judge_arg judge_variable
arg_found c v b w e = tested b _ _ _ _ e (λ l q. constant (omega arith) q) (λ l q. variable q)
  where
    old : v ≡ w → ArgFits c v b → ArgJudged c v w b
    old same fit =
        record {
          grows = omega arith;
          few = λ h. omega arith;
          fits = subst (λ (k : ℕ). ArgFits c k b) same fit;
          named = λ x l h. absurd (omega arith);
        }

    new : 128 ≤ b → b < 132 → b - 128 ≡ v → suc v ≡ w → ArgJudged c v w b
    new low high q same =
        record { grows = omega arith; few = λ h. omega arith; fits = inr (low, omega arith); named = λ x l h. omega arith }

    constant : b < 32 → cond (ltb b c) (Ok v) (Err Unknown) ≡ Ok w → ArgJudged c v w b
    constant l q =
        let p = passed (ltb b c) _ _ _ (fault_found Unknown w) q in
        let found : ◌≡◌ {A = Judged} (Ok v) (Ok w) = p.1 in
        old (cc) (inl (l, ltb→lt b c p.0))

    next : 128 ≤ b → b < 132 → cond (eqb (b - 128) v) (Ok (suc v)) (Err BadNumbering) ≡ Ok w → ArgJudged c v w b
    next low high q =
        let p = passed (eqb (b - 128) v) _ _ _ (fault_found BadNumbering w) q in
        let found : ◌≡◌ {A = Judged} (Ok (suc v)) (Ok w) = p.1 in
        new low high (eqb→eq (b - 128) v p.0) (cc)

    seen : 128 ≤ b → b < 132 → b - 128 < v → ◌≡◌ {A = Judged} (Ok v) (Ok w) → ArgJudged c v w b
    seen low high l q = old (cc) (inr (low, omega arith))

    variable : cond (leb 128 b && ltb b 132) (cond (ltb (b - 128) v) (Ok v) (cond (eqb (b - 128) v) (Ok (suc v)) (Err BadNumbering))) (Err Unknown) ≡ Ok w → ArgJudged c v w b
    variable q =
        let p = passed (leb 128 b && ltb b 132) _ _ _ (fault_found Unknown w) q in
        let low : 128 ≤ b = leb→le 128 b (T_left (leb 128 b) (ltb b 132) p.0) in
        let high : b < 132 = ltb→lt b 132 (T_right (leb 128 b) (ltb b 132) p.0) in
        tested (b - 128) v _ _ _ p.1 (λ l s. seen low high l s) (λ l s. next low high s)

-- a variable that is judged is at most the next one
arg_ordered : (c v w b : ℕ) → ArgJudged c v w b → InOrderFrom v (b ∷ [])
arg_ordered c v w b a [] back x e y l h =
    let is : b ≡ 128 + x = cc in
    absurd (below is a.fits)
  where
    below : b ≡ 128 + x → ArgFits c w b → ⊥
    below is (inl p) = omega arith
    below is (inr p) = omega (arith, a.named y l (omega arith))
arg_ordered c v w b a (d ∷ front) back x e y l h = absurd (omega (arith, simp length-append at (ap length e)))

pub arg_grows : (c v w : ℕ) → v ≤ w → (b : ℕ) → ArgFits c v b → ArgFits c w b
arg_grows c v w h b (inl p) = inl p
arg_grows c v w h b (inr p) = inr (p.0, omega arith)

-- n arguments from byte j to byte i
pub record ArgsJudged (c : ℕ) (f : List ℕ) (n j v i w : ℕ) : Type 0 where
  pub place : i ≡ j + n
  pub room : j ≤ length f → j + n ≤ length f
  pub grows : v ≤ w
  pub few : v ≤ 4 → w ≤ 4
  pub fit : All (ArgFits c w) (take n (drop j f))
  pub named : (x : ℕ) → v ≤ x → x < w → Stands x (take n (drop j f))
  pub ordered : InOrderFrom v (take n (drop j f))

module _ (c : ℕ) (f : List ℕ) (n j v i u w : ℕ) where
  args_more : j < length f → ArgJudged c v u (get_or f j 0) → ArgsJudged c f n (suc j) u i w → ArgsJudged c f (suc n) j v i w
  args_more h a as_judged =
      let front : take (suc n) (drop j f) ≡ get_or f j 0 ∷ take n (drop (suc j) f) = rw (drop-cons f j 0 h) in
      record {
        place = omega arith;
        room = λ l. omega (arith, as_judged.room h);
        grows = omega arith;
        few = λ l. as_judged.few (a.few l);
        fit = rw front (arg_grows c u w as_judged.grows (get_or f j 0) a.fits, as_judged.fit);
        named = λ x l k. rw front (pick x l k);
        ordered =
            rw front
            (order_append v u (get_or f j 0 ∷ []) (take n (drop (suc j) f)) (arg_ordered c v u (get_or f j 0) a) (λ x l k. inl (a.named x l k)) as_judged.ordered);
      }
    where
      pick : (x : ℕ) → v ≤ x → x < w → (get_or f j 0 ≡ 128 + x) ⊎ Stands x (take n (drop (suc j) f))
      pick x l k = go (decided (ltb x u))
        where
          go : T (ltb x u) ⊎ T (not (ltb x u)) → (get_or f j 0 ≡ 128 + x) ⊎ Stands x (take n (drop (suc j) f))
          go (inl t) = inl (a.named x l (ltb→lt x u t))
          go (inr t) = inr (as_judged.named x (nltb→le x u t) k)

pub args_reached : (c : ℕ) (f : List ℕ) (n j v i w : ℕ) → judge_args c f n j v ≡ Ok (i, w) → ArgsJudged c f n j v i w
unfolding judge_args
args_reached c f zero j v i w e =
    let here : j ≡ i = ap reached_at e in
    let same : v ≡ w = ap seen_by e in
    record {
      place = omega arith;
      room = λ l. omega arith;
      grows = omega arith;
      few = λ l. omega arith;
      fit = tt;
      named = λ x l k. omega arith;
      ordered = order_none v;
    }
args_reached c f (suc n) j v i w e =
    let p = passed (ltb j (length f)) _ _ _ (broken_reached BadLength i w) e in
    go (ltb→lt j (length f) p.0) (judge_arg c v (get_or f j 0)) refl (λ u. args_reached c f n (suc j) u i w) p.1
  where
    go : j < length f → (o : Judged) → judge_arg c v (get_or f j 0) ≡ o
        → ((u : ℕ) → judge_args c f n (suc j) u ≡ Ok (i, w) → ArgsJudged c f n (suc j) u i w)
        → ◌≡◌ {A = Span} (elim o [ Err e ↦ Err e | Ok u ↦ judge_args c f n (suc j) u ]) (Ok (i, w)) → ArgsJudged c f (suc n) j v i w
    go h (Err k) q r s = absurd (broken_reached k i w s)
    go h (Ok u) q r s = args_more c f n j v i u w h (arg_found c v (get_or f j 0) u q) (r u s)

-- the variable x stands in an atom
abbrev pub Names : ℕ → Atom → Type 0
Names x a = Stands x a.args

-- an atom from byte j to byte i
pub record AtomJudged (c : ℕ) (arities f : List ℕ) (j v i w : ℕ) : Type 0 where
  pub place : i ≡ after_atom arities f j
  pub text : atom_bytes (atom_at arities f j) ++ drop i f ≡ drop j f
  pub grows : v ≤ w
  pub few : v ≤ 4 → w ≤ 4
  pub fits : AtomFits c arities w (atom_at arities f j)
  pub named : (x : ℕ) → v ≤ x → x < w → Names x (atom_at arities f j)
  pub ordered : InOrderFrom v (atom_at arities f j).args

pub atom_reached : (c : ℕ) (arities f : List ℕ) (j v i w : ℕ) → judge_atom c arities f j v ≡ Ok (i, w) → AtomJudged c arities f j v i w
unfolding judge_atom
atom_reached c arities f j v i w e =
    let p = passed (ltb j (length f)) _ _ _ (broken_reached BadLength i w) e in
    let q = passed (ltb (get_or f j 0) (length arities)) _ _ _ (broken_reached Unknown i w) p.1 in
    let n = get_or arities (get_or f j 0) 0 in
    let r = args_reached c f n (suc j) v i w q.1 in
    let h : j < length f = ltb→lt j (length f) p.0 in
    let room : suc j + n ≤ length f = r.room h in
    let after : drop n (drop (suc j) f) ≡ drop i f = drop-drop n (suc j) f ∙ rw r.place in
    record {
      place = r.place;
      text = rw (drop-cons f j 0 h, ← after, take-append-drop n (drop (suc j) f));
      grows = r.grows;
      few = r.few;
      fits = record {
        known = ltb→lt (get_or f j 0) (length arities) q.0;
        arity = length-take-le n (drop (suc j) f) (simp length-drop (omega arith));
        args_fit = r.fit;
      };
      named = r.named;
      ordered = r.ordered;
    }

pub atom_grows : (c : ℕ) (arities : List ℕ) (v w : ℕ) → v ≤ w → (a : Atom) → AtomFits c arities v a → AtomFits c arities w a
atom_grows c arities v w h a r =
    record {
      known = r.known;
      arity = r.arity;
      args_fit = all_map (ArgFits c v) (ArgFits c w) (arg_grows c v w h) a.args r.args_fit;
    }

pub atoms_length : (arities f : List ℕ) (n j : ℕ) → length (atoms_at arities f n j) ≡ n
atoms_length arities f zero j = refl
atoms_length arities f (suc n) j = ap suc (atoms_length arities f n (after_atom arities f j))

-- the arguments of atoms
abbrev pub arguments_in : List Atom → List ℕ
arguments_in atoms = flat_map (λ a. a.args) atoms

-- n atoms from byte j to byte i
pub record AtomsJudged (c : ℕ) (arities f : List ℕ) (n j v i w : ℕ) : Type 0 where
  pub place : i ≡ after_atoms arities f n j
  pub text : flat_map atom_bytes (atoms_at arities f n j) ++ drop i f ≡ drop j f
  pub grows : v ≤ w
  pub few : v ≤ 4 → w ≤ 4
  pub fit : All (AtomFits c arities w) (atoms_at arities f n j)
  pub named : (x : ℕ) → v ≤ x → x < w → Any (Names x) (atoms_at arities f n j)
  pub ordered : InOrderFrom v (arguments_in (atoms_at arities f n j))

module _ (c : ℕ) (arities f : List ℕ) (n j v k u i w : ℕ) where
  atoms_more : AtomJudged c arities f j v k u → AtomsJudged c arities f n k u i w → AtomsJudged c arities f (suc n) j v i w
  unfolding flat_map
  atoms_more a r =
      let rest : ◌≡◌ {A = List Atom} (atoms_at arities f n k) (atoms_at arities f n (after_atom arities f j)) = ap (λ (m : ℕ). atoms_at arities f n m) a.place in
      record {
        place = r.place ∙ ap (λ (m : ℕ). after_atoms arities f n m) a.place;
        text = rw (append_assoc, ← rest, r.text, a.text);
        grows = omega arith;
        few = λ h. r.few (a.few h);
        fit = (atom_grows c arities u w r.grows (atom_at arities f j) a.fits, rw (← rest) r.fit);
        named = λ x l h. rw (← rest) (pick x l h (decided (ltb x u)));
        ordered = rw (← rest) (order_append v u (atom_at arities f j).args (arguments_in (atoms_at arities f n k)) a.ordered a.named r.ordered);
      }
    where
      pick : (x : ℕ) → v ≤ x → x < w → T (ltb x u) ⊎ T (not (ltb x u)) → Names x (atom_at arities f j) ⊎ Any (Names x) (atoms_at arities f n k)
      pick x l h (inl t) = inl (a.named x l (ltb→lt x u t))
      pick x l h (inr t) = inr (r.named x (nltb→le x u t) h)

pub atoms_reached : (c : ℕ) (arities f : List ℕ) (n j v i w : ℕ) → judge_atoms c arities f n j v ≡ Ok (i, w) → AtomsJudged c arities f n j v i w
unfolding judge_atoms flat_map
atoms_reached c arities f zero j v i w e =
    let here : j ≡ i = ap reached_at e in
    let same : v ≡ w = ap seen_by e in
    record {
      place = sym here;
      text = rw here;
      grows = omega arith;
      few = λ l. omega arith;
      fit = tt;
      named = λ x l k. omega arith;
      ordered = order_none v;
    }
atoms_reached c arities f (suc n) j v i w e =
    go (judge_atom c arities f j v) refl (λ k u. atoms_reached c arities f n k u i w) e
  where
    go : (o : Span) → judge_atom c arities f j v ≡ o
        → ((k u : ℕ) → judge_atoms c arities f n k u ≡ Ok (i, w) → AtomsJudged c arities f n k u i w)
        → ◌≡◌ {A = Span} (elim o [ Err e ↦ Err e | Ok (k, u) ↦ judge_atoms c arities f n k u ]) (Ok (i, w))
        → AtomsJudged c arities f (suc n) j v i w
    go (Err m) q r s = absurd (broken_reached m i w s)
    go (Ok (k, u)) q r s = atoms_more c arities f n j v k u i w (atom_reached c arities f j v k u q) (r k u s)

-- the end of a clause line of so many bytes and conditions
pub record EndJudged (c sum size conds v j w r : ℕ) : Type 0 where
  pub at_end : j ≡ size
  pub no_more : w ≡ v
  pub answer : v ≡ r
  pub light : sum + conds * c ^ v ≤ 16384

pub end_found : (c sum size conds v j w r : ℕ) → judge_end c sum size conds v j w ≡ Ok r → EndJudged c sum size conds v j w r
unfolding judge_end
end_found c sum size conds v j w r e =
    let p = passed (eqb j size) _ _ _ (fault_found BadLength r) e in
    let q = passed (eqb w v) _ _ _ (fault_found FreeVariable r) p.1 in
    let s = passed (leb (sum + conds * c ^ v) 16384) _ _ _ (fault_found TooManyMarks r) q.1 in
    let found : ◌≡◌ {A = Judged} (Ok v) (Ok r) = s.1 in
    record {
      at_end = eqb→eq j size p.0;
      no_more = eqb→eq w v q.0;
      answer = cc;
      light = leb→le (sum + conds * c ^ v) 16384 s.0;
    }

-- a clause line whose clause has v variables
pub record ClauseJudged (c : ℕ) (arities : List ℕ) (sum : ℕ) (f : List ℕ) (v : ℕ) : Type 0 where
  pub bytes : f ≡ clause_frame (clause_at arities f v)
  pub fits : ClauseFits c arities (clause_at arities f v)
  pub light : sum + weight c (clause_at arities f v) ≤ 16384
  pub ended : after_atoms arities f (get_or f 2 0) (after_atoms arities f (get_or f 1 0) 3) ≡ length f

module _ (c : ℕ) (arities : List ℕ) (sum : ℕ) (f : List ℕ) (v : ℕ) where
  -- what the alternatives name is named by the conditions
  clause_ordered : (i j n m : ℕ) → AtomsJudged c arities f n 3 0 i v → AtomsJudged c arities f m i v j v
      → VariablesInOrder (arguments_in (atoms_at arities f n 3 ++ atoms_at arities f m i))
  clause_ordered i j n m conds alts front back x e y =
      let first = atoms_at arities f n 3 in
      let second = atoms_at arities f m i in
      let parts : arguments_in first ++ arguments_in second ≡ front ++ ((128 + x) ∷ back) = sym (flat_append (λ a. a.args) first second) ∙ e in
      order_append 0 v (arguments_in first) (arguments_in second) conds.ordered
      (λ z l h. any_flat (λ a. a.args) (λ b. b ≡ 128 + z) first (conds.named z l h))
      alts.ordered front back x parts y (omega arith)

  clause_parts : get_or f 0 0 ≡ 3 → 2 < length f → get_or f 1 0 < 5 → get_or f 2 0 < 5 → (i j : ℕ)
      → AtomsJudged c arities f (get_or f 1 0) 3 0 i v → AtomsJudged c arities f (get_or f 2 0) i v j v → j ≡ length f → sum + get_or f 1 0 * c ^ v ≤ 16384
      → ClauseJudged c arities sum f v
  clause_parts kind room few_conds few_alts i j conds alts end light =
      let n = get_or f 1 0 in
      let m = get_or f 2 0 in
      let rest : ◌≡◌ {A = List Atom} (atoms_at arities f m i) (atoms_at arities f m (after_atoms arities f n 3)) = ap (λ (k : ℕ). atoms_at arities f m k) conds.place in
      let count : length (atoms_at arities f m (after_atoms arities f n 3)) ≡ m = atoms_length arities f m (after_atoms arities f n 3) in
      let first : length (atoms_at arities f n 3) ≡ n = atoms_length arities f n 3 in
      let over : drop j f ≡ [] = rw end (drop-length f) in
      let last : drop i f ≡ flat_map atom_bytes (atoms_at arities f m (after_atoms arities f n 3)) =
      sym alts.text ∙ rw (over, append-nil, rest)
      in
      record {
        bytes =
            drop-cons f 0 0 (omega arith)
            ∙ rw (drop-cons f 1 0 (omega arith), drop-cons f 2 0 (omega arith), kind, ← conds.text, last, first, count);
        fits = record {
          few_vars = conds.few (omega arith);
          few_conds = rw first (omega arith);
          few_alts = rw count (omega arith);
          conds_fit = conds.fit;
          alts_fit = rw (← rest) alts.fit;
          named = λ x h. conds.named x (omega arith) h;
          in_order = rw (← rest) (clause_ordered i j n m conds alts);
        };
        light = rw first light;
        ended = rw (← conds.place) (sym alts.place ∙ end);
      }

  pub clause_found : judge_clause c arities sum f ≡ Ok v → get_or f 0 0 ≡ 3 → ClauseJudged c arities sum f v
  unfolding judge_clause judge_body
  clause_found e kind =
      let one = passed (ltb 1 (length f)) _ _ _ (fault_found BadLength v) e in
      let few_conds = passed (ltb (get_or f 1 0) 5) _ _ _ (fault_found BadCount v) one.1 in
      let two = passed (ltb 2 (length f)) _ _ _ (fault_found BadLength v) few_conds.1 in
      let few_alts = passed (ltb (get_or f 2 0) 5) _ _ _ (fault_found BadCount v) two.1 in
      let parts = clause_parts kind (ltb→lt 2 (length f) two.0) (ltb→lt (get_or f 1 0) 5 few_conds.0) (ltb→lt (get_or f 2 0) 5 few_alts.0) in
      conds parts (judge_atoms c arities f (get_or f 1 0) 3 0) refl few_alts.1
    where
      Parts : Type 0
      Parts = (i j : ℕ) → AtomsJudged c arities f (get_or f 1 0) 3 0 i v → AtomsJudged c arities f (get_or f 2 0) i v j v → j ≡ length f
          → sum + get_or f 1 0 * c ^ v ≤ 16384 → ClauseJudged c arities sum f v

      alts : Parts → (i u : ℕ) → judge_atoms c arities f (get_or f 1 0) 3 0 ≡ Ok (i, u) → (o : Span) → judge_atoms c arities f (get_or f 2 0) i u ≡ o
          → ◌≡◌ {A = Judged} (elim o [ Err k ↦ Err k | Ok (j, w) ↦ judge_end c sum (length f) (get_or f 1 0) u j w ]) (Ok v) → ClauseJudged c arities sum f v
      alts parts i u p (Err k) q s = absurd (fault_found k v s)
      alts parts i u p (Ok (j, w)) q s =
          let end = end_found c sum (length f) (get_or f 1 0) u j w v s in
          let more : w ≡ v = end.no_more ∙ end.answer in
          parts i j
          (subst (λ (k : ℕ). AtomsJudged c arities f (get_or f 1 0) 3 0 i k) end.answer (atoms_reached c arities f (get_or f 1 0) 3 0 i u p))
          (atoms_reached c arities f (get_or f 2 0) i v j v (rw (← end.answer) (q ∙ rw end.no_more)))
          end.at_end
          (rw (← end.answer) end.light)

      conds : Parts → (o : Span) → judge_atoms c arities f (get_or f 1 0) 3 0 ≡ o
          → ◌≡◌ {A = Judged} (elim o [
            | Err k ↦ Err k
            | Ok (i, u) ↦ elim (judge_atoms c arities f (get_or f 2 0) i u) [ Err k ↦ Err k | Ok (j, w) ↦ judge_end c sum (length f) (get_or f 1 0) u j w ]
          ]) (Ok v) → ClauseJudged c arities sum f v
      conds parts (Err k) q s = absurd (fault_found k v s)
      conds parts (Ok (i, u)) q s = alts parts i u q (judge_atoms c arities f (get_or f 2 0) i u) refl s
