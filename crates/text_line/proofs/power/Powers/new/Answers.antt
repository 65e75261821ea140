use Rattle.std.proofs.Common.{refl}
use mathlib.Core.List.{flat_map}
use Rattle.text_line.proofs.power.Powers.new.Goals as goal

-- the constant is the table of powers, by computing the whole of it
pub invariant_of-result : goal.invariant_of-result
unfolding flat_map
invariant_of-result c = record { listed = refl }
