-- What the staged engine shows of its walker.
use Prim.Native.Nat.{ℕ, ◌<◌}
use mathlib.Core.List.{List, ◌∷◌}
use lib.ListN.{length, get_or}
use Rattle.search.specs.Staged.{find_s}
use Rattle.search.proofs.Sound.{path_small, path_short}
use Rattle.search.proofs.StagedSound.{staged_sound}
use Rattle.problem.specs.Layout.{problem_in}
use Rattle.problem.specs.Table.{Lawful}
use Rattle.ground.specs.Instance.{ground_in}
use Rattle.ground.proofs.Instances.{atoms_few, ground_proper}
use Rattle.walk.specs.terms.Walker.{Site, Sound}
use Rattle.walk.proofs.PathLaws.{genuine_enters}
use Rattle.relevancy_walk.specs.terms.Place.{instance_of, instance_alts}
use Rattle.relevancy_walk.specs.SoundLaws.{sound as relevancy-walker-sound, small as relevancy-walker-small}
use Rattle.staged_walk.specs.terms.Place.{staged_walker}

pub sound : (tb : List ℕ) → Lawful tb → Sound (staged_walker tb)
sound tb h =
    let p = ground_in tb in
    let fresh = (staged_sound p (ground_proper (problem_in tb) h.fits)).split_fresh in
    record {
      few = atoms_few (problem_in tb) h.fits;
      short = path_short p (find_s p) fresh;
      small = λ b bs g. (path_small p (find_s p) fresh (b ∷ bs) g).1.0;
      four = (relevancy-walker-sound tb h).four;
      enters = λ bs s g e. genuine_enters (staged_walker tb).find bs (instance_of s) (instance_alts tb s) g e;
      has_entered = λ s l facts r. r.holds;
      untrue = λ s l facts r. r.untrue;
    }

pub small : (tb : List ℕ) → Lawful tb → (s : Site) → (staged_walker tb).Named s → (j : ℕ) → j < length ((staged_walker tb).alts s) → get_or ((staged_walker tb).alts s) j 0 < 65536
small tb h s named j l = relevancy-walker-small tb h s named j l
