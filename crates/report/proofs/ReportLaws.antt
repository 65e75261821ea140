-- The steps of the functions that print, over lists.
use Prim.Native.Nat.{ℕ, suc, ◌+◌, ◌*◌, ◌≤◌, ◌<◌}
use mathlib.Core.Bool.{Bool, true, false, cond}
use mathlib.Core.List.{List, [], ◌∷◌, ◌++◌, flat_map, append-nil}
use mathlib.Core.Path.{◌≡◌, refl, sym, ap, subst, ◌∙◌}
use native.Mathlib.Nat.{mul-zero, mul-suc}
use native.Mathlib.Numerals.{add-one}
use native.Mathlib.Omega.{arith}
use lib.ListN.{length, take, get_or}
use lib.Seq.{length-take-le}
use Rattle.lists.specs.Tabulate.{tabulate}
use Rattle.lists.proofs.Member.{flat_append}
use Rattle.lists.proofs.Tabulate.{tabulate-length}
use Rattle.lists.specs.Bytes.{is_set}
use Rattle.problem.specs.Digit.{hex_line}
use Rattle.problem.specs.Problem.{Problem, atom_count}
use Rattle.problem.specs.Layout.{arities_in, problem_in}
use Rattle.problem.specs.Table.{Lawful}
use Rattle.writing.specs.terms.Printed.{Put}
use Rattle.writing.proofs.WriteLaws.{put_as, put_most, put_then, put_none}
use Rattle.kernel.specs.terms.Matching.{Decoded}
use Rattle.ground.specs.Report.{atoms_in_order, chosen}
use Rattle.kernel.proofs.MatchLaws.{PredicateKnown, predicate_known}
use Rattle.ground.proofs.Order.{order_count, order_at}
use Rattle.report.specs.terms.Told.{atom_line, model_lines}

-- ---- an atom's frame

three_taken : (k p w : ℕ) (args : List ℕ) → length args ≡ 3
    → take (suc (suc w)) (k ∷ p ∷ get_or args 0 0 ∷ get_or args 1 0 ∷ get_or args 2 0 ∷ []) ≡ k ∷ p ∷ take w args
three_taken k p w (x ∷ y ∷ z ∷ []) h = refl
three_taken k p w [] h = absurd (omega arith)
three_taken k p w (x ∷ []) h = absurd (omega arith)
three_taken k p w (x ∷ y ∷ []) h = absurd (omega arith)
three_taken k p w (x ∷ y ∷ z ∷ u ∷ rest) h = absurd (omega arith)

module _ (tb : List ℕ) (lawful : Lawful tb) (a p : ℕ) (args : List ℕ) (d : Decoded tb a p args) where
  pub decoded_known : PredicateKnown tb p
  decoded_known = predicate_known tb lawful p d.atom.known

  pub frame_size : length (take (2 + get_or tb (16 + 4 * p) 0) (130 ∷ p ∷ get_or args 0 0 ∷ get_or args 1 0 ∷ get_or args 2 0 ∷ [])) ≡ 2 + get_or tb (16 + 4 * p) 0
  frame_size =
      length-take-le (2 + get_or tb (16 + 4 * p) 0) (130 ∷ p ∷ get_or args 0 0 ∷ get_or args 1 0 ∷ get_or args 2 0 ∷ []) (omega (arith, decoded_known.arity, decoded_known.few))

  pub atom_frame : take (2 + get_or tb (16 + 4 * p) 0) (130 ∷ p ∷ get_or args 0 0 ∷ get_or args 1 0 ∷ get_or args 2 0 ∷ [])
      ≡ 130 ∷ get_or (atoms_in_order (problem_in tb)) a []
  unfolding problem_in
  atom_frame =
      let w : ℕ = get_or (arities_in tb) p 0 in
      let two : 2 + get_or tb (16 + 4 * p) 0 ≡ suc (suc w) = omega (arith, decoded_known.arity) in
      ap (λ (n : ℕ). take n (130 ∷ p ∷ get_or args 0 0 ∷ get_or args 1 0 ∷ get_or args 2 0 ∷ [])) two
      ∙ three_taken 130 p w args d.three
      ∙ ap (λ (xs : List ℕ). 130 ∷ xs) (sym (order_at (problem_in tb) p (take w args) d.atom) ∙ ap (λ (n : ℕ). get_or (atoms_in_order (problem_in tb)) n []) d.numbered)

-- ---- the atoms whose bit is true, one bit more

chosen_more : (bits : List Bool) (b : Bool) (atoms : List (List ℕ)) → length bits < length atoms
    → chosen (bits ++ (b ∷ [])) atoms ≡ chosen bits atoms ++ cond b (get_or atoms (length bits) [] ∷ []) []
chosen_more bits b [] h = absurd (omega arith)
chosen_more [] true (x ∷ atoms) h = refl
chosen_more [] false (x ∷ atoms) h = refl
chosen_more (true ∷ bits) b (x ∷ atoms) h = ap (λ (r : List (List ℕ)). x ∷ r) (chosen_more bits b atoms (omega arith))
chosen_more (false ∷ bits) b (x ∷ atoms) h = chosen_more bits b atoms (omega arith)

-- ---- the lines of a model

one_line : (b : Bool) (x : List ℕ) → flat_map (λ y. hex_line (130 ∷ y)) (cond b (x ∷ []) []) ≡ cond b (hex_line (130 ∷ x)) []
unfolding flat_map
one_line true x = append-nil (hex_line (130 ∷ x))
one_line false x = refl

module _ (q : Problem) (answer : List ℕ) where
  -- those of the atoms before number a
  abbrev pub lines_upto : ℕ → List ℕ
  lines_upto a = flat_map (λ x. hex_line (130 ∷ x)) (chosen (tabulate (is_set answer) a) (atoms_in_order q))

  lines_more : (a : ℕ) → a < atom_count q.constants q.arities → lines_upto a ++ atom_line q answer a ≡ lines_upto (suc a)
  unfolding flat_map
  lines_more a h =
      let whole : length (tabulate (is_set answer) a) ≡ a = tabulate-length (is_set answer) a in
      let inside : length (tabulate (is_set answer) a) < length (atoms_in_order q) = omega (arith, order_count q) in
      sym
      (ap {B = List ℕ} (flat_map (λ x. hex_line (130 ∷ x))) (chosen_more (tabulate (is_set answer) a) (is_set answer a) (atoms_in_order q) inside)
      ∙ flat_append (λ x. hex_line (130 ∷ x)) (chosen (tabulate (is_set answer) a) (atoms_in_order q)) (cond (is_set answer a) (get_or (atoms_in_order q) (length (tabulate (is_set answer) a)) [] ∷ []) [])
      ∙ ap (λ (ls : List ℕ). lines_upto a ++ ls) (one_line (is_set answer a) (get_or (atoms_in_order q) (length (tabulate (is_set answer) a)) []) ∙ ap (λ (n : ℕ). cond (is_set answer a) (hex_line (130 ∷ get_or (atoms_in_order q) n [])) []) whole))

  pub model_none : (e : List ℕ) (at : ℕ) → Put e at (lines_upto 0) (11 * 0) at e
  unfolding flat_map
  model_none e at = rw mul-zero (put_none e at)

  pub model_more : {e x y : List ℕ} {at r s : ℕ} (a : ℕ) → a < atom_count q.constants q.arities → Put e at (lines_upto a) (11 * a) r x → at + 11 * a + 11 ≤ length e
      → Put x r (atom_line q answer a) 11 s y → Put e at (lines_upto (a + 1)) (11 * (a + 1)) s y
  model_more {e} {x} {y} {at} {r} {s} a l p h t = rw (add-one, mul-suc) (put_as (put_then p h t) (lines_more a l))

  pub model_done : {e x : List ℕ} {at r : ℕ} (a : ℕ) → Put e at (lines_upto a) (11 * a) r x → a ≡ atom_count q.constants q.arities → a ≤ 1024
      → Put e at (model_lines q answer) 11264 r x
  model_done {e} {x} {at} {r} a p same h = put_most (subst (λ (i : ℕ). Put e at (lines_upto i) (11 * a) r x) same p) (omega arith)
