-- A call is taken or refused, by 11 or by 31.
use Prim.Native.Nat.{ℕ}
use mathlib.Core.Bool.{Bool, true, false, ◌||◌}
use mathlib.Core.List.{List}
use mathlib.Core.Logic.{◌⊎◌, inl, inr}
use mathlib.Core.Path.{◌≡◌, refl, sym, subst}
use borrow.Author.Tests.{ltb-false}
use lib.Dec.{T, ltb}
use lib.ListN.{length, take}
use Rattle.problem.specs.Table.{Valid, is_valid}
use Rattle.problem.proofs.Theorems.{theorems as tables}
use Rattle.relevancy.specs.Engine.{too_short}
use Rattle.relevancy.specs.Claims.{Taken}
use Rattle.magic.specs.Engine.{magic_too_short}
use Rattle.magic.specs.Claims.{MagicTaken}
use Rattle.parting.specs.declared.parts.Parting.TheVariants as parting
use Rattle.parting.specs.Runs.{parts_result}

-- neither test passes
neither : (a b : Bool) → (a || b) ≡ false → (a ≡ false) × (b ≡ false)
neither true b e = absurd (subst T e tt)
neither false b e = (refl, e)

-- by whether a lent buffer is too short
by_short : (by short : Bool) (tb : List ℕ)
    → ((short ≡ false) × Valid (take 4096 tb)) ⊎ (parts_result by short tb ≡ parting.Refused 11) ⊎ (parts_result by short tb ≡ parting.Refused 31)
unfolding parts_result
by_short by true tb = inr (inl refl)
by_short by false tb = go (is_valid (take 4096 tb)) refl
  where
    go : (v : Bool) → is_valid (take 4096 tb) ≡ v
        → ((false ≡ false) × Valid (take 4096 tb)) ⊎ (parts_result by false tb ≡ parting.Refused 11) ⊎ (parts_result by false tb ≡ parting.Refused 31)
    go true e = inl (refl, (tables.valid (take 4096 tb)).0 (subst T (sym e) tt))
    go false e = inr (inr (rw e))

pub taken_or_refused : (tb answer work : List ℕ)
    → Taken tb answer work ⊎ (parts_result false (too_short tb answer work) tb ≡ parting.Refused 11) ⊎ (parts_result false (too_short tb answer work) tb ≡ parting.Refused 31)
taken_or_refused tb answer work = go (by_short false (too_short tb answer work) tb)
  where
    taken : too_short tb answer work ≡ false → Valid (take 4096 tb) → Taken tb answer work
    taken e v =
        let last = neither (ltb (length tb) 4096 || ltb (length answer) 1024) (ltb (length work) 65536) e in
        let first = neither (ltb (length tb) 4096) (ltb (length answer) 1024) last.0 in
        record {
          table_long = ltb-false (length tb) 4096 first.0;
          answer_long = ltb-false (length answer) 1024 first.1;
          work_long = ltb-false (length work) 65536 last.1;
          valid = v;
        }

    go : ((too_short tb answer work ≡ false) × Valid (take 4096 tb)) ⊎ (parts_result false (too_short tb answer work) tb ≡ parting.Refused 11) ⊎ (parts_result false (too_short tb answer work) tb ≡ parting.Refused 31)
        → Taken tb answer work ⊎ (parts_result false (too_short tb answer work) tb ≡ parting.Refused 11) ⊎ (parts_result false (too_short tb answer work) tb ≡ parting.Refused 31)
    go (inl h) = inl (taken h.0 h.1)
    go (inr h) = inr h

pub magic_taken_or_refused : (tb rules answer work : List ℕ)
    → MagicTaken tb rules answer work ⊎ (parts_result true (magic_too_short tb rules answer work) tb ≡ parting.Refused 11)
    ⊎ (parts_result true (magic_too_short tb rules answer work) tb ≡ parting.Refused 31)
magic_taken_or_refused tb rules answer work = go (by_short true (magic_too_short tb rules answer work) tb)
  where
    taken : magic_too_short tb rules answer work ≡ false → Valid (take 4096 tb) → MagicTaken tb rules answer work
    taken e v =
        let last = neither (ltb (length tb) 4096 || ltb (length rules) 16384 || ltb (length answer) 1024) (ltb (length work) 65536) e in
        let third = neither (ltb (length tb) 4096 || ltb (length rules) 16384) (ltb (length answer) 1024) last.0 in
        let first = neither (ltb (length tb) 4096) (ltb (length rules) 16384) third.0 in
        record {
          table_long = ltb-false (length tb) 4096 first.0;
          rules_long = ltb-false (length rules) 16384 first.1;
          answer_long = ltb-false (length answer) 1024 third.1;
          work_long = ltb-false (length work) 65536 last.1;
          valid = v;
        }

    go : ((magic_too_short tb rules answer work ≡ false) × Valid (take 4096 tb)) ⊎ (parts_result true (magic_too_short tb rules answer work) tb ≡ parting.Refused 11) ⊎ (parts_result true (magic_too_short tb rules answer work) tb ≡ parting.Refused 31)
        → MagicTaken tb rules answer work ⊎ (parts_result true (magic_too_short tb rules answer work) tb ≡ parting.Refused 11) ⊎ (parts_result true (magic_too_short tb rules answer work) tb ≡ parting.Refused 31)
    go (inl h) = inl (taken h.0 h.1)
    go (inr h) = inr h
