-- The split that a kept path enters an alternative of has all alternatives of its instance.
use Prim.Native.Nat.{ℕ}
use mathlib.Core.List.{List, ◌∷◌, ◌++◌}
use mathlib.Core.Path.{ap, ◌∙◌}
use Rattle.search.specs.Ground.{split}
use Rattle.search.specs.Machine.{entered}
use Rattle.search.proofs.StagedChoice.{staged_chooses}
use Rattle.ground.specs.Instance.{ground_in}
use Rattle.walk.specs.terms.Left.{Tied}
use Rattle.relevancy_walk.specs.terms.Place.{instance_of}
use Rattle.staged_walk.specs.terms.Place.{staged_walker}

pub tied : (tb : List ℕ) → Tied (staged_walker tb)
tied tb s a rest bs named g =
    g.0.1 ∙ ap (split (instance_of s)) ((staged_chooses (ground_in tb) (entered bs)).split_first (instance_of s) (g.0.0 ++ (a ∷ rest)) g.0.1).1
