-- The ways out of a call with a session, and what it gives back and leaves on each.
use Prim.Native.Nat.{ℕ, ◌+◌, ◌≤◌, ◌<◌}
use mathlib.Core.Bool.{Bool, true, false, cond, ◌&&◌}
use mathlib.Core.List.{List, ◌++◌}
use mathlib.Core.Logic.{◌⊎◌, inl, inr}
use mathlib.Core.Option.{none, some}
use mathlib.Core.Path.{◌≡◌, refl, sym, ap, ◌∙◌}
use native.Mathlib.Omega.{arith}
use lib.Dec.{leb}
use lib.ListN.{drop, replicate}
use borrow.Author.Tests.{leb-true, lt-ltb, le-ltb, le-leb}
use Rattle.search.specs.Ground.{Found}
use Rattle.search.specs.Machine.{Place, Outcome, Satisfied, Refuted, Exhausted, proceed, deepest_under}
use Rattle.search.specs.Session.{Session, deep_stands, place_of, session_after, Called, declined, told, called}
use Rattle.search.proofs.Session.{cond-some}
use Rattle.search.proofs.Deepest.{first_deepest}
use Rattle.ground.specs.declared.verdict.Verdict.{Verdict}
use Rattle.ground.specs.declared.verdict.Verdict.TheVariants.{Refused}
use Rattle.ground.specs.Verdict.{verdict_of, answer_of}
use Rattle.walk.specs.Numbers.{session_of}
use Rattle.session.specs.declared.record.Session.{Session as Record}
use Rattle.session.specs.Record.{is_kept, session_in, laid}
use Rattle.session.specs.Calls.{no_session, called_in, begun_by, screened, verdict_told, deepest_told, record_left, answer_left, work_left}
use Rattle.session.proofs.RecordLaws.{steps_length, laid-deepest}

-- ---- 11, then 31

module _ (short valid : Bool) (c : Called) where
  pub screened-short : short ≡ true → screened short valid c ≡ declined 11
  screened-short e = rw e

  pub screened_invalid : short ≡ false → valid ≡ false → screened short valid c ≡ declined 31
  screened_invalid e v = rw (e, v)

  pub screened_through : short ≡ false → valid ≡ true → screened short valid c ≡ c
  screened_through e v = rw (e, v)

-- 11, then 31, then the call
pub screened_on : (short valid : Bool) (c : Called)
    → (screened short valid c ≡ declined 11) ⊎ (screened short valid c ≡ declined 31) ⊎ ((valid ≡ true) × (screened short valid c ≡ c))
screened_on true valid c = inl refl
screened_on false false c = inr (inl refl)
screened_on false true c = inr (inr (refl, refl))

-- a call that is not refused has come through
pub screened-told : (short valid : Bool) (c : Called) (o : Outcome) (s : Session) → screened short valid c ≡ told o s → (short ≡ false) × (valid ≡ true) × (c ≡ told o s)
screened-told true valid c o s e = let z : ◌≡◌ {A = ℕ} 0 1 = cc in absurd (omega arith)
screened-told false true c o s e = (refl, refl, e)
screened-told false false c o s e = let z : ◌≡◌ {A = ℕ} 0 1 = cc in absurd (omega arith)

-- what refuses a first run refuses any call with the same buffers
pub screened_first : {I : Type 0} (find : List ℕ → Found I) (limit : ℕ) (short valid : Bool) (c : Called) (e : ℕ)
    → screened short valid (begun_by find limit) ≡ declined e → screened short valid c ≡ declined e
screened_first find limit true valid c e h = h
screened_first find limit false true c e h = let z : ◌≡◌ {A = ℕ} 0 1 = cc in absurd (omega arith)
screened_first find limit false false c e h = h

-- ---- whether a record holds a session

both : (a b : Bool) → (a && b) ≡ true → (a ≡ true) × (b ≡ true)
both true b e = (refl, e)
both false b e = let z : ◌≡◌ {A = ℕ} 0 1 = cc in absurd (omega arith)

module _ (r : Record) where
  -- it counts what the record counts
  pub held_count : (s : Session) → session_in r ≡ some s → s.count ≡ r.count
  unfolding session_in
  held_count s e =
      sym (ap (λ (x : Session). x.count) (cond-some (is_kept r) (session_of r.verdict r.count r.atoms r.nexts r.length r.next r.deepest) s e).1)

-- its figure can be that of a session over so many atoms
abbrev figure_kept : ℕ → Record → Bool
figure_kept atoms r = leb r.length r.deepest && leb r.deepest atoms

-- and its verdict and length too
abbrev pub is_kept_over : ℕ → Record → Bool
is_kept_over atoms r = is_kept r && figure_kept atoms r

module _ (atoms : ℕ) (r : Record) where
  pub is_kept_lem : r.verdict ≤ 2 → r.length ≤ 1024 → r.length ≤ r.deepest → r.deepest ≤ atoms → is_kept_over atoms r ≡ true
  is_kept_lem v l e d = rw (le-leb r.verdict 2 v, le-leb r.length 1024 l, le-leb r.length r.deepest e, le-leb r.deepest atoms d)

  pub kept_bounds : is_kept_over atoms r ≡ true → (r.verdict ≤ 2) × (r.length ≤ 1024) × (r.length ≤ r.deepest) × (r.deepest ≤ atoms)
  kept_bounds e =
      let all = both (is_kept r) (figure_kept atoms r) e in
      let first = both (leb r.verdict 2) (leb r.length 1024) all.0 in
      let figure = both (leb r.length r.deepest) (leb r.deepest atoms) all.1 in
      (leb-true r.verdict 2 first.0, leb-true r.length 1024 first.1, leb-true r.length r.deepest figure.0, leb-true r.deepest atoms figure.1)

-- ---- then 41, 42, and going on

module _ {I : Type 0} (find : List ℕ → Found I) (atoms : ℕ) (r : Record) (further : ℕ) where
  -- the session in the numbers of the record
  abbrev session : Session
  session = session_of r.verdict r.count r.atoms r.nexts r.length r.next r.deepest

  -- its path is as long as the record says
  deep_is : deep_stands atoms session ≡ figure_kept atoms r
  deep_is = rw (steps_length r.atoms r.nexts r.length)

  pub called_held : (s : Session) → session_in r ≡ some s → called_in find atoms r further ≡ called find atoms s further
  unfolding called_in
  called_held s e = rw (called_in, e)

  pub called_none : session_in r ≡ none → called_in find atoms r further ≡ no_session r further
  unfolding called_in
  called_none e = rw (called_in, e)

  called_by : (b : Bool) → is_kept r ≡ b → called_in find atoms r further ≡ cond b (called find atoms session further) (no_session r further)
  unfolding session_in
  called_by true e = called_held session (rw e)
  called_by false e = called_none (rw e)

  pub called_over : 4294967295 < r.count + further → called_in find atoms r further ≡ declined 41
  unfolding called
  called_over l = go (is_kept r) refl
    where
      go : (b : Bool) → is_kept r ≡ b → called_in find atoms r further ≡ declined 41
      go true e = called_by true e ∙ rw (lt-ltb 4294967295 (r.count + further) l)
      go false e = called_by false e ∙ rw (lt-ltb 4294967295 (r.count + further) l)

  module _ (within : r.count + further ≤ 4294967295) where
    pub called_empty : session_in r ≡ none → called_in find atoms r further ≡ declined 42
    called_empty e = called_none e ∙ rw (le-ltb 4294967295 (r.count + further) within)

    -- the test may be of a number that is known to be that of the atoms
    pub called_unkept : (n : ℕ) → n ≡ atoms → is_kept_over n r ≡ false → called_in find atoms r further ≡ declined 42
    unfolding session_in called
    called_unkept n same e = go (is_kept r) refl (rw same at e)
      where
        go : (b : Bool) → is_kept r ≡ b → (b && figure_kept atoms r) ≡ false → called_in find atoms r further ≡ declined 42
        go true k f = called_by true k ∙ rw (le-ltb 4294967295 (r.count + further) within, deep_is ∙ f)
        go false k f = called_empty (rw k)

    pub called_nowhere : is_kept_over atoms r ≡ true → place_of find session ≡ none → called_in find atoms r further ≡ declined 42
    unfolding called
    called_nowhere e nowhere =
        let all = both (is_kept r) (figure_kept atoms r) e in
        called_by true all.0 ∙ rw (le-ltb 4294967295 (r.count + further) within, deep_is ∙ all.1, nowhere)

    pub called_on : is_kept_over atoms r ≡ true → (t : Place I) → place_of find session ≡ some t
        → called_in find atoms r further ≡ told (proceed find further r.count t) (session_after find further r.count r.deepest t)
    unfolding called
    called_on e t stands =
        let all = both (is_kept r) (figure_kept atoms r) e in
        called_by true all.0 ∙ rw (le-ltb 4294967295 (r.count + further) within, deep_is ∙ all.1, stands)

-- ---- what it gives back and leaves

module _ (c : Called) (r : Record) (answer work : List ℕ) where
  abbrev pub CallLeft : Verdict → Record → List ℕ → List ℕ → Type 0
  CallLeft v moved left rest = (v ≡ verdict_told c) × (moved ≡ record_left c r) × (left ≡ answer_left c answer) × (rest ≡ work_left c work)

  -- a refusal leaves all as it was
  pub left_declined : (e : ℕ) → c ≡ declined e → CallLeft (Refused e) r answer work
  left_declined e so = (rw so, rw so, rw so, rw so)

  pub left_told : (o : Outcome) (s : Session) → c ≡ told o s → (v : Verdict) (moved : Record) (left part : List ℕ)
      → v ≡ verdict_of o → moved ≡ laid s → left ≡ answer_of o answer → part ≡ replicate 65536 0 → CallLeft v moved left (part ++ drop 65536 work)
  left_told o s so v moved left part is_v is_r is_a is_w = (is_v ∙ rw so, is_r ∙ rw so, is_a ∙ rw so, ap (λ (l : List ℕ). l ++ drop 65536 work) is_w ∙ rw so)

-- ---- a refusal by its verdict

-- a call whose verdict is a refusal is refused so
pub declined_by : (c : Called) (e : ℕ) → verdict_told c ≡ Refused e → c ≡ declined e
declined_by (declined n) e h = let same : n ≡ e = cc in ap declined same
declined_by (told (Satisfied n bits) s) e h = let z : ◌≡◌ {A = ℕ} 0 1 = cc in absurd (omega arith)
declined_by (told (Refuted n) s) e h = let z : ◌≡◌ {A = ℕ} 0 1 = cc in absurd (omega arith)
declined_by (told (Exhausted n) s) e h = let z : ◌≡◌ {A = ℕ} 0 1 = cc in absurd (omega arith)

-- ---- the deepest figure

-- a first run tells the longest path entered, if it comes through
pub deepest_first : {I : Type 0} (find : List ℕ → Found I) (limit : ℕ) (short valid : Bool)
    → deepest_told (screened short valid (begun_by find limit)) ≡ cond short 0 (cond valid (deepest_under find limit) 0)
deepest_first find limit true valid = refl
deepest_first find limit false true = first_deepest find limit
deepest_first find limit false false = refl
