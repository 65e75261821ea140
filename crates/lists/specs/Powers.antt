-- "The table of c to the power k for c from 0 to 32 and k from 0 to 4, c slowest" (02, U5).
use Rattle.std.specs.Prelude.{ℕ, ◌^◌}
use mathlib.Core.List.{List, flat_map}
use Rattle.lists.specs.Tabulate.{tabulate}

abbrev pub powers : List ℕ
powers = flat_map (λ c. tabulate (λ k. c ^ k) 5) (tabulate (λ c. c) 33)
