-- A node's record: nine bytes stored one after another, four of them the values of up to four variables.
use Prim.Native.Nat.{ℕ, suc, ◌+◌, ◌-◌, ◌≤◌, ◌<◌}
use mathlib.Core.List.{List, [], ◌∷◌, ◌++◌, append_assoc}
use mathlib.Core.Path.{◌≡◌, refl, sym, ap, ◌∙◌}
use native.Mathlib.Nat.{add-zero}
use native.Mathlib.Omega.{arith}
use lib.ListN.{length, take, drop, get_or, set, get_or-append}
use lib.Seq.{length-take-le, get_or-take, get_or-drop, sets, sets-eq}
use Rattle.lists.proofs.Bytes.{get_d_skip}

module _ (path : List ℕ) (at : ℕ) (a b c d e f g h i : ℕ) (room : at + 9 ≤ length path) where
  abbrev bytes : List ℕ
  bytes = a ∷ b ∷ c ∷ d ∷ e ∷ f ∷ g ∷ h ∷ i ∷ []

  abbrev whole : List ℕ
  whole = take at path ++ (bytes ++ drop (at + 9) path)

  abbrev stored : List ℕ
  stored = set (set (set (set (set (set (set (set (set path at a) (at + 1) b) (at + 2) c) (at + 3) d) (at + 4) e) (at + 5) f) (at + 6) g) (at + 7) h) (at + 8) i

  stored-whole : stored ≡ whole
  stored-whole =
      let e1 : at + 1 ≡ suc at = omega arith in
      let e2 : at + 2 ≡ suc (suc at) = omega arith in
      let e3 : at + 3 ≡ suc (suc (suc at)) = omega arith in
      let e4 : at + 4 ≡ suc (suc (suc (suc at))) = omega arith in
      let e5 : at + 5 ≡ suc (suc (suc (suc (suc at)))) = omega arith in
      let e6 : at + 6 ≡ suc (suc (suc (suc (suc (suc at))))) = omega arith in
      let e7 : at + 7 ≡ suc (suc (suc (suc (suc (suc (suc at)))))) = omega arith in
      let e8 : at + 8 ≡ suc (suc (suc (suc (suc (suc (suc (suc at))))))) = omega arith in
      let same : stored ≡ sets path at bytes = rw (e1, e2, e3, e4, e5, e6, e7, e8) in
      same ∙ sets-eq bytes path at room ∙ append_assoc (take at path) bytes (drop (at + 9) path)

  front : length (take at path) ≡ at
  front = length-take-le at path (omega arith)

  -- the bytes are read back
  pub stored_byte : (j : ℕ) → j < 9 → get_or stored (at + j) 0 ≡ get_or bytes j 0
  stored_byte j l =
      ap (λ (xs : List ℕ). get_or xs (at + j) 0) stored-whole
      ∙ get_d_skip (take at path) (bytes ++ drop (at + 9) path) at j front
      ∙ get_or-append bytes (drop (at + 9) path) 0 j l

  pub stored_first : get_or stored at 0 ≡ a
  stored_first = ap (λ (j : ℕ). get_or stored j 0) (sym (add-zero at)) ∙ stored_byte 0 (omega arith)

  -- and those before and behind them are kept
  pub stored_before : (j : ℕ) → j < at → get_or stored j 0 ≡ get_or path j 0
  stored_before j l =
      ap (λ (xs : List ℕ). get_or xs j 0) stored-whole
      ∙ get_or-append (take at path) (bytes ++ drop (at + 9) path) 0 j (omega (arith, front))
      ∙ get_or-take at path j 0 l

  pub stored_behind : (j : ℕ) → at + 9 ≤ j → get_or stored j 0 ≡ get_or path j 0
  stored_behind j l =
      let k : ℕ = j - (at + 9) in
      let there : at + (9 + k) ≡ j = omega arith in
      let same : get_or stored (at + (9 + k)) 0 ≡ get_or path (at + 9 + k) 0 =
      ap (λ (xs : List ℕ). get_or xs (at + (9 + k)) 0) stored-whole
      ∙ get_d_skip (take at path) (bytes ++ drop (at + 9) path) at (9 + k) front
      ∙ get_d_skip bytes (drop (at + 9) path) 9 k refl
      ∙ get_or-drop (at + 9) path k 0 in
      ap (λ (i : ℕ). get_or stored i 0) (sym there) ∙ same ∙ ap (λ (i : ℕ). get_or path i 0) (omega arith)

-- v values that stand in four bytes, with 0 after them
pub take_four : (values : List ℕ) (a b c d v : ℕ) → length values ≡ v → v ≤ 4 → get_or values 0 0 ≡ a → get_or values 1 0 ≡ b → get_or values 2 0 ≡ c → get_or values 3 0 ≡ d
    → take v (a ∷ b ∷ c ∷ d ∷ []) ≡ values
take_four [] a b c d v n few ea eb ec ed = rw (← n)
take_four (x ∷ []) a b c d v n few ea eb ec ed = rw (← n, ea)
take_four (x ∷ y ∷ []) a b c d v n few ea eb ec ed = rw (← n, ea, eb)
take_four (x ∷ y ∷ z ∷ []) a b c d v n few ea eb ec ed = rw (← n, ea, eb, ec)
take_four (x ∷ y ∷ z ∷ w ∷ []) a b c d v n few ea eb ec ed = rw (← n, ea, eb, ec, ed)
take_four (x ∷ y ∷ z ∷ w ∷ u ∷ us) a b c d v n few ea eb ec ed = absurd (omega arith)
