use Prim.Native.Nat.{ℕ}
use mathlib.Core.Path.{◌≡◌, ap, ◌∙◌}
use borrow.Author.Rules.{rules}
use lib.ListN.{length, replicate}
use Rattle.parting.proofs.turns.run_parts.Goals as goal

pub run_turns-requires-clause-joined_len : goal.run_turns-requires-clause-joined_len
run_turns-requires-clause-joined_len c = (c.requires.joined_len.0, c.zero.ensures ∙ ap (λ (m : ℕ). replicate m 0) c.requires.joined_len.1)
