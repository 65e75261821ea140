-- The steps of giving a model, and the limit's bytes.
use Prim.Native.Nat.{ℕ, suc, ◌+◌, ◌≤◌, ◌<◌}
use mathlib.Core.Bool.{Bool}
use mathlib.Core.List.{List, [], ◌∷◌, ◌++◌, map, append_assoc, map-append}
use mathlib.Core.Path.{◌≡◌, refl, sym, ap, ◌∙◌}
use native.Mathlib.Numerals.{add-one}
use lib.ListN.{length, take, drop, get_or, set, length-map}
use lib.Seq.{drop-cons, set_at}
use Rattle.lists.specs.Digits.{horner}
use Rattle.lists.specs.Tabulate.{tabulate}
use Rattle.lists.proofs.Bytes.{tabulate_part}
use Rattle.lists.proofs.Tabulate.{tabulate-length}
use Rattle.lists.specs.Bytes.{bit}
use Rattle.problem.specs.Problem.{limit_of}
use Rattle.problem.specs.Layout.{problem_in}

-- the limit's bytes
pub limit_bytes : (tb : List ℕ) → 8 ≤ length tb → limit_of (take 4 (drop 4 tb)) ≡ horner 256 (get_or tb 4 0 ∷ get_or tb 5 0 ∷ get_or tb 6 0 ∷ get_or tb 7 0 ∷ [])
limit_bytes tb h = rw (← tabulate_part tb 4 4 h)

pub limit_of_lem : (tb : List ℕ) → limit_of (take 4 (drop 4 tb)) ≡ limit_of (problem_in tb).limit
unfolding problem_in
limit_of_lem tb = refl

-- the model's bits, one after another
pub give_more : (f : ℕ → Bool) (answer : List ℕ) (a : ℕ) → a < length answer → set (map bit (tabulate f a) ++ drop a answer) a (bit (f a)) ≡ map bit (tabulate f (a + 1)) ++ drop (a + 1) answer
give_more f answer a h =
    let whole : length (map bit (tabulate f a)) ≡ a = length-map (tabulate f a) bit ∙ tabulate-length f a in
    ap (λ (r : List ℕ). set (map bit (tabulate f a) ++ r) a (bit (f a))) (drop-cons answer a 0 h)
    ∙ set_at (map bit (tabulate f a)) (get_or answer a 0) (drop (suc a) answer) (bit (f a)) a whole
    ∙ sym (append_assoc (map bit (tabulate f a)) (bit (f a) ∷ []) (drop (suc a) answer))
    ∙ rw (add-one, map-append bit (tabulate f a) (f a ∷ []))
