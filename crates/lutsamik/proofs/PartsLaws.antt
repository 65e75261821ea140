-- The answers of the calls by parts are taken apart again.
use Prim.Native.Nat.{ℕ}
use mathlib.Core.Bool.{Bool, true, false, not, cond}
use mathlib.Core.List.{List}
use mathlib.Core.Path.{◌≡◌, refl}
use lib.ListN.{take}
use Rattle.lists.specs.Member.{every}
use Rattle.search.specs.Machine.{Outcome}
use Rattle.problem.specs.Layout.{problem_in}
use Rattle.problem.specs.Table.{is_valid}
use Rattle.parting.specs.declared.parts.Parting.{Parting}
use Rattle.parting.specs.declared.parts.Parting.TheVariants as parting
use Rattle.parting.specs.Runs.{is_refuted, is_exhausted, runs_of, said_by, parts_result}
use Rattle.lutsamik.specs.Pack.{pack_parting, unpacked, as_parting}

abbrev Back : Parting → Type 0
Back p = as_parting (unpacked (pack_parting p)) ≡ p

said_back : (os : List Outcome) → Back (said_by os)
said_back os = go (every (λ o. not (is_refuted o)) os) (every (λ o. not (is_exhausted o)) os)
  where
    go : (b d : Bool) → Back (cond b (cond d parting.Satisfied parting.Exhausted) parting.Refuted)
    go true true = refl
    go true false = refl
    go false d = refl

pub parted_back : (magic short : Bool) (tb : List ℕ) → Back (parts_result magic short tb)
unfolding parts_result
parted_back magic short tb = go short (is_valid (take 4096 tb))
  where
    go : (s v : Bool) → Back (cond s (parting.Refused 11) (cond v (said_by (runs_of magic (problem_in (take 4096 tb)))) (parting.Refused 31)))
    go true v = refl
    go false true = said_back (runs_of magic (problem_in (take 4096 tb)))
    go false false = refl
