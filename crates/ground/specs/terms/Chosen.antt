-- The model given, by the flags of the facts.
use Rattle.std.specs.Prelude.{ℕ, ◌+◌, Bool, not, ◌||◌, List}
use Rattle.lists.specs.Bytes.{is_set}

-- atom a is in the model given
abbrev pub chosen_bit : List ℕ → ℕ → Bool
chosen_bit work a = is_set work a || not (is_set work (1025 + a))
