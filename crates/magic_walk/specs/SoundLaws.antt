-- What the magic engine shows of its walker: a genuine path is short, and its atoms are small.
use Prim.Native.Nat.{ℕ, ◌≤◌, ◌<◌}
use mathlib.Core.List.{List, ◌∷◌}
use mathlib.Core.Path.{◌≡◌, sym, subst}
use native.Mathlib.Omega.{arith}
use lib.ListN.{length, get_or}
use Rattle.lists.specs.Key.{nat_key}
use Rattle.lists.proofs.Bytes.{all_at}
use Rattle.lists.proofs.Firsts.{firsts-All}
use Rattle.search.specs.Ground.{Ground}
use Rattle.search.specs.Sound.{SoundFind}
use Rattle.search.proofs.Sound.{path_small, path_short}
use Rattle.ground.specs.Instance.{Instance, ground_of}
use Rattle.ground.proofs.Instances.{atoms_are, atoms_few}
use Rattle.rewriting.specs.Claims.{ReadBack}
use Rattle.rewriting.specs.Facts.{false_in, find_in}
use Rattle.rewriting.specs.terms.Ruled.{Ruled}
use Rattle.rewriting.proofs.LayoutLaws.{rules_back}
use Rattle.rewriting.proofs.RegroupLaws.{rules_sound}
use Rattle.magic_rule.specs.terms.Choosing.{rule_heads}
use Rattle.magic_rule.proofs.FactLaws.{Ruled-Known, heads_small}
use Rattle.walk.specs.terms.Walker.{Site, Sound}
use Rattle.walk.proofs.PathLaws.{genuine_enters}
use Rattle.magic_walk.specs.terms.Place.{rule_site, site_alts, Splitting, magic_walker}
use Rattle.magic_walk.specs.AltLaws.{alts_few}

module _ (bs : List ℕ) (h : Ruled bs) where
  abbrev ground : Ground Instance
  ground = ground_of h.problem

  back : ReadBack h.problem bs
  back = subst (ReadBack h.problem) h.laid (rules_back h.problem h.fits h.rest)

  false_is : false_in bs ≡ ground.atoms
  false_is = rw (back.constants, back.arities) (sym (atoms_are h.problem))

  false_few : false_in bs ≤ 1024
  false_few = omega (arith, false_is, atoms_few h.problem h.fits)

  -- the alternatives of a rule that a node can be split by are atoms
  pub site_small : (s : Site) → Splitting bs s → (j : ℕ) → j < length (site_alts bs s) → get_or (site_alts bs s) j 0 ≤ 1024
  site_small s at j l =
      let heads = heads_small bs h.problem.clauses (Ruled-Known bs h) (rule_site s) at.listed in
      omega (
        arith,
        false_few,
        all_at (λ a. a ≤ false_in bs) (site_alts bs s) 0 j l (firsts-All nat_key (λ a. a ≤ false_in bs) (rule_heads bs s.number s.values) heads),
      )

  finds : SoundFind ground (find_in bs)
  finds = subst (λ (xs : List ℕ). SoundFind ground (find_in xs)) h.laid (rules_sound h.problem h.fits h.rest)

  pub sound : Sound (magic_walker bs)
  sound =
      record {
        few = false_few;
        short = λ path g. omega (arith, path_short ground (find_in bs) finds.split_fresh path g, false_is);
        small = λ b path g. omega (arith, (path_small ground (find_in bs) finds.split_fresh (b ∷ path) g).1.0, false_is);
        four = alts_few bs h;
        enters = λ path s kept found. genuine_enters (find_in bs) path ((magic_walker bs).instance s) (site_alts bs s) kept found;
        has_entered = λ s l facts at. at.following.seeds.1;
        untrue = λ s l facts at. at.untrue;
      }

  pub small : (s : Site) → (magic_walker bs).Named s → (j : ℕ) → j < length ((magic_walker bs).alts s) → get_or ((magic_walker bs).alts s) j 0 < 65536
  small s named j l = omega (arith, site_small s named j l)
