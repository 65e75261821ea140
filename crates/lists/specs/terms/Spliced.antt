-- Bytes put over others.
use Rattle.std.specs.Prelude.{ℕ, ◌+◌, List, ◌++◌, length, take, drop}

-- a list with these bytes from a place on
abbrev pub spliced : ℕ → List ℕ → List ℕ → List ℕ
spliced at bytes xs = take at xs ++ bytes ++ drop (at + length bytes) xs
