-- What the relevancy engine shows of its walker.
use Prim.Native.Nat.{ℕ, ◌≤◌, ◌<◌}
use mathlib.Core.List.{List, ◌∷◌}
use native.Mathlib.Omega.{arith}
use lib.ListN.{length, get_or, length-map}
use Rattle.lists.specs.Key.{nat_key}
use Rattle.lists.proofs.Bytes.{all_at}
use Rattle.lists.proofs.Firsts.{firsts-All, firsts-length}
use Rattle.search.specs.Relevancy.{find_r}
use Rattle.search.proofs.Sound.{path_small, path_short}
use Rattle.search.proofs.Model.{relevancy_sound}
use Rattle.problem.specs.Problem.{atom_count}
use Rattle.problem.specs.Layout.{problem_in}
use Rattle.problem.specs.Table.{Lawful}
use Rattle.ground.specs.Instance.{InstanceOf, number, clause_of, ground_atoms, ground_of, ground_in}
use Rattle.ground.proofs.AtomLaws.{clause_fits}
use Rattle.ground.proofs.Instances.{numbers_below, atoms_few, ground_proper}
use Rattle.walk.specs.terms.Walker.{Site, Sound}
use Rattle.walk.proofs.PathLaws.{genuine_enters}
use Rattle.relevancy_walk.specs.terms.Place.{instance_of, instance_alts, relevancy_walker}

-- a clause has at most four alternatives
site_four : (tb : List ℕ) → Lawful tb → (s : Site) → InstanceOf (problem_in tb) (instance_of s) → length (instance_alts tb s) ≤ 4
unfolding ground_of
site_four tb h s listed =
    let q = problem_in tb in
    omega (
      arith,
      firsts-length nat_key ((ground_of q).alts (instance_of s)),
      length-map (clause_of q s.number).alts (number q.constants q.arities s.values),
      (clause_fits tb h s.number listed.known).few_alts,
    )

-- and they are atoms
pub site_small : (tb : List ℕ) → Lawful tb → (s : Site) → InstanceOf (problem_in tb) (instance_of s) → (j : ℕ) → j < length (instance_alts tb s) → get_or (instance_alts tb s) j 0 < 1024
unfolding ground_of problem_in
site_small tb h s listed j l =
    let q = problem_in tb in
    let k = clause_of q s.number in
    let A = atom_count q.constants q.arities in
    let below = numbers_below q.constants q.arities s.values k.vars listed.each_variable listed.constants k.alts (clause_fits tb h s.number listed.known).alts_fit in
    omega (
      arith,
      h.fits.atoms_fit,
      all_at (λ a. a < A) (instance_alts tb s) 0 j l (firsts-All nat_key (λ a. a < A) (ground_atoms q s.values k.alts) below),
    )

pub sound : (tb : List ℕ) → Lawful tb → Sound (relevancy_walker tb)
sound tb h =
    let p = ground_in tb in
    let fresh = (relevancy_sound p (ground_proper (problem_in tb) h.fits)).split_fresh in
    record {
      few = atoms_few (problem_in tb) h.fits;
      short = path_short p (find_r p) fresh;
      small = λ b bs g. (path_small p (find_r p) fresh (b ∷ bs) g).1.0;
      four = λ s listed. site_four tb h s listed;
      enters = λ bs s g e. genuine_enters (relevancy_walker tb).find bs (instance_of s) (instance_alts tb s) g e;
      has_entered = λ s l facts r. r.holds;
      untrue = λ s l facts r. r.untrue;
    }

pub small : (tb : List ℕ) → Lawful tb → (s : Site) → (relevancy_walker tb).Named s → (j : ℕ) → j < length ((relevancy_walker tb).alts s) → get_or ((relevancy_walker tb).alts s) j 0 < 65536
small tb h s named j l = omega (arith, site_small tb h s named j l)
