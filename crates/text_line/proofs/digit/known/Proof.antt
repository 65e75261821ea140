-- `text_line::digit::known` meets its contract: a digit stands where it is sought.
use Prim.Native.Nat.{ℕ, ◌-◌, ◌≤◌, ◌<◌}
use mathlib.Core.Bool.{Bool, true, false, cond, ◌&&◌}
use mathlib.Core.Logic.{◌⊎◌, inl, inr}
use mathlib.Core.Path.{◌≡◌, refl, sym, ◌∙◌}
use native.Mathlib.Omega.{arith}
use borrow.Author.Tests.{lt-ltb, le-ltb}
use lib.Dec.{ltb, eqb}
use lib.ListN.{get_or}
use Rattle.lists.proofs.Test.{lt_or_le}
use Rattle.problem.specs.Digit.{digits, digit_of}
use Rattle.problem.proofs.Digits.{digit_found}
use Rattle.text_line.proofs.digit.known.Statement.{statement}
use Rattle.text_line.proofs.digit.known.Tie as tie

-- the value sought is the digit's
is_sought : (t : Bool) (d k : ℕ) → d ≡ cond t k 16 → d < 16 → k ≡ d
is_sought true d k e l = sym e
is_sought false d k e l = absurd (omega arith)

module _ (b : ℕ) (byte : b < 256) (small : digit_of b < 16) where
  from : 48 ≤ b
  from = go (lt_or_le b 48)
    where
      go : (b < 48) ⊎ (48 ≤ b) → 48 ≤ b
      go (inl l) = let none : digit_of b ≡ 16 = digit_found b byte ∙ rw (lt-ltb b 48 l) refl in absurd (omega arith)
      go (inr l) = l

  first : b < 65 → b - 48 ≡ digit_of b
  first l = is_sought (ltb (b - 48) 16 && eqb (get_or digits (b - 48) 0) b) (digit_of b) (b - 48) (digit_found b byte ∙ rw (le-ltb b 48 from, lt-ltb b 65 l) refl) small

  second : 65 ≤ b → b - 55 ≡ digit_of b
  second l = is_sought (ltb (b - 55) 16 && eqb (get_or digits (b - 55) 0) b) (digit_of b) (b - 55) (digit_found b byte ∙ rw (le-ltb b 48 from, le-ltb b 65 l) refl) small

pub known_spec : {M : Type 1} → statement M
known_spec =
    tie.close
    (tie.spec
    (λ c. omega (arith, c.if-b-ge65.true))  -- overflow_sub-result
    (λ c. second c.args.b (omega arith) c.requires c.if-b-ge65.true)  -- returns-then-b-ge65
    (λ c. omega (arith, from c.args.b (omega arith) c.requires))  -- overflow_sub-result-2
    (λ c. first c.args.b (omega arith) c.requires c.if-b-ge65.false))  -- returns
