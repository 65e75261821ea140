-- What a test of two parts gives: laws that equality tests of `specs/` are right by.
use Rattle.std.specs.Prelude.{Bool, true, false, ◌&&◌, T}

pub and-T : (a b : Bool) → T a → T b → T (a && b)
and-T true b p q = q
and-T false b p q = p

pub T_left : (a b : Bool) → T (a && b) → T a
T_left true b p = tt
T_left false b p = p

pub T_right : (a b : Bool) → T (a && b) → T b
T_right true b p = p
T_right false b p = absurd p
