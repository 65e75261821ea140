-- What the functions on any bytes that begin as a table does ask, in a table.
use Prim.Native.Nat.{ℕ, ◌+◌, ◌≤◌, ◌<◌}
use mathlib.Core.List.{List}
use native.Mathlib.Omega.{arith}
use lib.ListN.{length, get_or}
use Rattle.problem.specs.Problem.{atom_count}
use Rattle.problem.specs.Layout.{arities_in, problem_in}
use Rattle.problem.specs.Table.{Lawful}
use Rattle.ground.specs.terms.Heading.{NumberedIn}
use Rattle.ground.specs.terms.Placed.{Numbered}
use Rattle.ground.proofs.AtomLaws.{table_size}

module _ (tb : List ℕ) (h : Lawful tb) where
  -- a slot has room for an atom
  pub slot_room : (at : ℕ) → at + 6 ≤ 4096 → at + 4 ≤ length tb
  slot_room at l = omega (arith, table_size tb h)

  pub numbered_in : (at : ℕ) (values : List ℕ) → Numbered tb at values → NumberedIn tb at values
  numbered_in at values m = record { room = slot_room at m.room; four = m.four; atom_fits = m.atom_fits; values_below = m.values_below }

  -- A is read from the same bytes
  pub atom_in : (a : ℕ) → a < atom_count (problem_in tb).constants (problem_in tb).arities → a < atom_count (get_or tb 0 0) (arities_in tb)
  unfolding problem_in
  atom_in a l = l
