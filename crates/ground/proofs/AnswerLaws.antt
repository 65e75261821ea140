-- The answer that a satisfied engine leaves: it is as long as it was, and the model's bits are read back from it.
use Prim.Native.Nat.{ℕ, zero, suc, ◌≤◌, ◌<◌}
use mathlib.Core.Bool.{Bool, true, false}
use mathlib.Core.List.{List, [], ◌∷◌, ◌++◌, map}
use mathlib.Core.Path.{◌≡◌, refl, ap, ◌∙◌}
use native.Mathlib.Omega.{arith}
use lib.Dec.{T, eqb, ltb}
use lib.ListN.{length, take, drop, get_or, length-map, length-append, length-drop, get_or-append}
use lib.Seq.{take_at}
use Rattle.lists.specs.Bytes.{bit, is_set}
use Rattle.lists.specs.Member.{every}
use Rattle.lists.proofs.Member.{All-every, all_mapped, all_of}
use Rattle.lists.proofs.Test.{T-true}

bit_set : (b : Bool) → eqb (bit b) 1 ≡ b
bit_set true = refl
bit_set false = refl

bit_low : (b : Bool) → T (ltb (bit b) 2)
bit_low true = tt
bit_low false = tt

bits_at : (bits : List Bool) (a : ℕ) → a < length bits → get_or (map bit bits) a 0 ≡ bit (get_or bits a false)
bits_at [] a h = absurd (omega arith)
bits_at (b ∷ bits) zero h = refl
bits_at (b ∷ bits) (suc a) h = bits_at bits a (omega arith)

module _ (bits : List Bool) (answer : List ℕ) where
  abbrev left : List ℕ
  left = map bit bits ++ drop (length bits) answer

  pub given_set : (a : ℕ) → a < length bits → is_set left a ≡ get_or bits a false
  given_set a h =
      let long : a < length (map bit bits) = rw (length-map bits bit) h in
      ap (λ (x : ℕ). eqb x 1) (get_or-append (map bit bits) (drop (length bits) answer) 0 a long ∙ bits_at bits a h) ∙ bit_set (get_or bits a false)

  pub given_length : length bits ≤ length answer → length left ≡ length answer
  given_length h = length-append (map bit bits) (drop (length bits) answer) ∙ rw (length-map bits bit, length-drop (length bits) answer) (omega arith)

  pub given_marks : every (λ b. ltb b 2) (take (length bits) left) ≡ true
  given_marks =
      ap (every (λ b. ltb b 2)) (take_at (map bit bits) (drop (length bits) answer) (length bits) (length-map bits bit))
      ∙ T-true (every (λ b. ltb b 2) (map bit bits)) (All-every (λ b. ltb b 2) (map bit bits) (all_mapped bit (λ b. T (ltb b 2)) bits (all_of (λ b. T (ltb (bit b) 2)) bit_low bits)))
