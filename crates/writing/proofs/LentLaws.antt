-- Laws of lent tables: what is refused, and what is known of a table that is taken.
use Prim.Native.Nat.{ℕ, ◌≤◌, ◌<◌}
use mathlib.Core.Bool.{Bool, true, false, cond, ◌||◌}
use mathlib.Core.List.{List}
use mathlib.Core.Path.{◌≡◌, refl}
use native.Mathlib.Omega.{arith}
use borrow.Author.Tests.{lt-ltb, le-ltb, ltb-false}
use lib.Dec.{ltb}
use lib.ListN.{length, take}
use Rattle.problem.specs.Table.{is_valid}
use Rattle.std.specs.Prelude.{Result, Ok, Err}
use Rattle.problem.specs.declared.fault.Fault.{Fault}
use Rattle.problem.specs.declared.fault.Fault.TheVariants.{ShortBuffer, NoTable}
use Rattle.writing.specs.terms.Lent.{refusal_of, taken_of}

module _ (tb : List ℕ) (short : Bool) where
  module _ (long : 4096 ≤ length tb) where
    module _ (room : short ≡ false) where
      pub refusal_none : is_valid (take 4096 tb) ≡ true → 0 ≡ refusal_of tb short
      unfolding refusal_of
      refusal_none v = rw (le-ltb (length tb) 4096 long, room, v)

-- what an operation says and leaves, by the refusal
module _ {A : Type 0} (tb : List ℕ) (short : Bool) (f : ℕ → A) (x : A) where
  abbrev Said : A
  Said = cond (ltb (length tb) 4096 || short) (f 11) (cond (is_valid (take 4096 tb)) x (f 31))

  pub refused_says : 0 < refusal_of tb short → f (refusal_of tb short) ≡ Said
  unfolding refusal_of
  refused_says = go (ltb (length tb) 4096 || short) (is_valid (take 4096 tb))
    where
      go : (b v : Bool) → 0 < cond b 11 (cond v 0 31) → f (cond b 11 (cond v 0 31)) ≡ cond b (f 11) (cond v x (f 31))
      go true v l = refl
      go false true l = absurd (omega arith)
      go false false l = refl

  pub taken_says : refusal_of tb short ≡ 0 → x ≡ Said
  unfolding refusal_of
  taken_says = go (ltb (length tb) 4096 || short) (is_valid (take 4096 tb))
    where
      go : (b v : Bool) → ◌≡◌ {A = ℕ} (cond b 11 (cond v 0 31)) 0 → x ≡ cond b (f 11) (cond v x (f 31))
      go true v e = absurd (omega arith)
      go false true e = refl
      go false false e = absurd (omega arith)

-- a table that is taken, and its buffers
pub record Taken (tb : List ℕ) (short : Bool) : Type 0 where
  pub long : 4096 ≤ length tb
  pub room : short ≡ false
  pub valid : is_valid (take 4096 tb) ≡ true

pub taken : (tb : List ℕ) (short : Bool) → refusal_of tb short ≡ 0 → Taken tb short
unfolding refusal_of
taken tb short = go (ltb (length tb) 4096) refl short (is_valid (take 4096 tb)) refl
  where
    go : (b : Bool) → ltb (length tb) 4096 ≡ b → (s v : Bool) → is_valid (take 4096 tb) ≡ v → ◌≡◌ {A = ℕ} (cond (b || s) 11 (cond v 0 31)) 0 → Taken tb s
    go true e s v w r = absurd (omega arith)
    go false e true v w r = absurd (omega arith)
    go false e false true w r = record { long = ltb-false (length tb) 4096 e; room = refl; valid = w }
    go false e false false w r = absurd (omega arith)

-- ---- the same by what `taken` says

module _ (tb : List ℕ) (short : Bool) where
  pub says_taken : Taken tb short → taken_of tb short ≡ Ok tt
  unfolding taken_of
  says_taken t = rw (le-ltb (length tb) 4096 t.long, t.room, t.valid)

  pub taken_by : {u : Unit {0}} → taken_of tb short ≡ Ok u → Taken tb short
  unfolding taken_of
  taken_by {u} = go (ltb (length tb) 4096) refl short (is_valid (take 4096 tb)) refl
    where
      go : (b : Bool) → ltb (length tb) 4096 ≡ b → (s v : Bool) → is_valid (take 4096 tb) ≡ v
          → ◌≡◌ {A = Result (Unit {0}) Fault} (cond (b || s) (Err ShortBuffer) (cond v (Ok tt) (Err NoTable))) (Ok u) → Taken tb s
      go true e s v w r = cc
      go false e true v w r = cc
      go false e false true w r = record { long = ltb-false (length tb) 4096 e; room = refl; valid = w }
      go false e false false w r = cc

-- what an operation says and leaves
module _ {A : Type 0} (tb : List ℕ) (short : Bool) (f : Fault → A) (x : A) where
  abbrev SaidBy : A
  SaidBy = cond (ltb (length tb) 4096 || short) (f ShortBuffer) (cond (is_valid (take 4096 tb)) x (f NoTable))

  pub fault_says : {e : Fault} → taken_of tb short ≡ Err e → f e ≡ SaidBy
  unfolding taken_of
  fault_says {e} = go (ltb (length tb) 4096 || short) (is_valid (take 4096 tb))
    where
      go : (b v : Bool) → ◌≡◌ {A = Result (Unit {0}) Fault} (cond b (Err ShortBuffer) (cond v (Ok tt) (Err NoTable))) (Err e) → f e ≡ cond b (f ShortBuffer) (cond v x (f NoTable))
      go true v r = cc
      go false true r = cc
      go false false r = cc

  pub ok_says : {u : Unit {0}} → taken_of tb short ≡ Ok u → x ≡ SaidBy
  unfolding taken_of
  ok_says {u} = go (ltb (length tb) 4096 || short) (is_valid (take 4096 tb))
    where
      go : (b v : Bool) → ◌≡◌ {A = Result (Unit {0}) Fault} (cond b (Err ShortBuffer) (cond v (Ok tt) (Err NoTable))) (Ok u) → x ≡ cond b (f ShortBuffer) (cond v x (f NoTable))
      go true v r = cc
      go false true r = refl
      go false false r = cc

-- ---- buffers that are too short

pub short_answer : (a w : ℕ) → a < 1024 → true ≡ (ltb a 1024 || ltb w 65536)
short_answer a w l = rw (lt-ltb a 1024 l)

pub long_answer : (a w : ℕ) → 1024 ≤ a → ltb w 65536 ≡ (ltb a 1024 || ltb w 65536)
long_answer a w l = rw (le-ltb a 1024 l)

pub short_rules : (r a w : ℕ) → r < 16384 → true ≡ (ltb r 16384 || ltb a 1024 || ltb w 65536)
short_rules r a w l = rw (lt-ltb r 16384 l)

pub long_rules : (r a w : ℕ) → 16384 ≤ r → (ltb a 1024 || ltb w 65536) ≡ (ltb r 16384 || ltb a 1024 || ltb w 65536)
long_rules r a w l = rw (le-ltb r 16384 l)
