-- The answers of the calls with assumptions are taken apart again.
use Prim.Native.Nat.{ℕ}
use mathlib.Core.List.{List}
use mathlib.Core.Logic.{◌⊎◌, inl, inr}
use mathlib.Core.Path.{◌≡◌, refl, sym, subst}
use Rattle.search.specs.Machine.{Outcome, Satisfied, Refuted, Exhausted}
use Rattle.assuming.specs.Assume.{Runs, declined, runs, assumed_of}
use Rattle.assuming.specs.Engines.{relevancy_runs, magic_runs}
use Rattle.assuming.proofs.Theorems.{theorems as assumings}
use Rattle.lutsamik.specs.Pack.{pack_assumed, unpacked, as_assumed}

abbrev Back : Runs → Type 0
Back r = as_assumed (unpacked (pack_assumed (assumed_of r))) ≡ assumed_of r

runs-Back : (o p : Outcome) → Back (runs o p)
runs-Back (Refuted n) p = refl
runs-Back (Exhausted n) p = refl
runs-Back (Satisfied n bits) (Satisfied m more) = refl
runs-Back (Satisfied n bits) (Refuted m) = refl
runs-Back (Satisfied n bits) (Exhausted m) = refl

-- one of the refusals
abbrev Declined : Runs → Type 0
Declined r = (r ≡ declined 11) ⊎ (r ≡ declined 31) ⊎ (r ≡ declined 5) ⊎ (r ≡ declined 45)

Declined-Back : (r : Runs) → Declined r → Back r
Declined-Back r (inl e) = subst Back (sym e) refl
Declined-Back r (inr (inl e)) = subst Back (sym e) refl
Declined-Back r (inr (inr (inl e))) = subst Back (sym e) refl
Declined-Back r (inr (inr (inr e))) = subst Back (sym e) refl

pub relevancy_assumed_back : (tb facts answer work : List ℕ) → Back (relevancy_runs tb facts answer work)
relevancy_assumed_back tb facts answer work =
    let by = assumings.by_relevancy tb facts answer work in
    elim by.one_of [ inl t ↦ let two = by.two_runs t.0 t.1 in subst Back (sym two.made) (runs-Back two.alone two.all) | inr e ↦ Declined-Back _ e ]

pub magic_assumed_back : (tb facts rules answer work : List ℕ) → Back (magic_runs tb facts rules answer work)
magic_assumed_back tb facts rules answer work =
    let by = assumings.by_magic tb facts rules answer work in
    elim by.one_of [ inl t ↦ let two = by.two_runs t.0 t.1 in subst Back (sym two.made) (runs-Back two.alone two.all) | inr e ↦ Declined-Back _ e ]
