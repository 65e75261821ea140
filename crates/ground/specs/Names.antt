-- Equality of instances, as a test: the same clause and the same values.
use Rattle.std.specs.Prelude.{Bool, ◌&&◌, ◌≡◌, T, eqb}
use Rattle.std.proofs.Common.{eqb→eq}
use Rattle.std.proofs.Math.Dec.{eqb_refl}
use Rattle.lists.specs.Bytes.{same_list, same_equal, same_refl}
use Rattle.lists.specs.Key.{Key}
use Rattle.lists.specs.Test.{and-T, T_left, T_right}
use Rattle.ground.specs.Instance.{Instance}

abbrev pub same_instance : Instance → Instance → Bool
same_instance i j = eqb i.clause j.clause && same_list i.values j.values

pub same_instance_lem : (i j : Instance) → T (same_instance i j) → i ≡ j
same_instance_lem i j t =
    let k : i.clause ≡ j.clause = eqb→eq i.clause j.clause (T_left (eqb i.clause j.clause) (same_list i.values j.values) t) in
    let w : i.values ≡ j.values = same_equal i.values j.values (T_right (eqb i.clause j.clause) (same_list i.values j.values) t) in
    λ d. record { clause = k d; values = w d }

pub instance_refl : (i : Instance) → T (same_instance i i)
instance_refl i = and-T (eqb i.clause i.clause) (same_list i.values i.values) (eqb_refl i.clause) (same_refl i.values)

abbrev pub instance_key : Key Instance
instance_key = record { same = same_instance; same_eq = same_instance_lem; same_refl = instance_refl }
