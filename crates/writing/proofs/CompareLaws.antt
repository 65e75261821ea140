-- A table is compared up to the end of its clauses, and what comes after is zero.
use Prim.Native.Nat.{ℕ, suc, zero, ◌+◌, ◌*◌, ◌-◌, ◌≤◌}
use mathlib.Core.Bool.{Bool, true, false, ◌&&◌}
use mathlib.Core.List.{List, [], ◌∷◌, ◌++◌, append_assoc}
use mathlib.Core.Path.{◌≡◌, refl, sym, ap, subst, ◌∙◌}
use native.Mathlib.Omega.{arith}
use lib.Dec.{eqb}
use lib.ListN.{length, take, drop, get_or, replicate, length-append, length-drop, replicate-append-replicate}
use lib.Seq.{take-length, drop_at}
use Rattle.lists.specs.Bytes.{pad, same_list}
use Rattle.lists.proofs.Bytes.{pad-length}
use Rattle.problem.specs.Problem.{Problem, Fits, atom_count}
use Rattle.problem.specs.Parse.{Parsed, refused, parsed, parse}
use Rattle.problem.specs.Layout.{predicate_records, clause_records, heading, layout}
use Rattle.problem.proofs.TableLayout.{sixteen, predicate_records-length, clause_records-length, layout-length}
use Rattle.problem.proofs.Access.{clauses_in}
use Rattle.problem.proofs.Parse.{parse-Fits}
use Rattle.std.specs.Prelude.{Ok}
use Rattle.reading.specs.Read.{Reading, reading_of}
use Rattle.reading.specs.terms.Filled.{ReadAs}
use Rattle.writing.specs.terms.Compared.{Ended}

-- ---- in two parts

and_three : (a b c : Bool) → (a && (b && c)) ≡ (a && b && c)
and_three true b c = refl
and_three false b c = refl

pub same_parts : (e : ℕ) (xs ys : List ℕ) → e ≤ length xs → e ≤ length ys
    → same_list xs ys ≡ (same_list (take e xs) (take e ys) && same_list (drop e xs) (drop e ys))
same_parts zero xs ys h l = refl
same_parts (suc e) [] ys h l = absurd (omega arith)
same_parts (suc e) (x ∷ xs) [] h l = absurd (omega arith)
same_parts (suc e) (x ∷ xs) (y ∷ ys) h l =
    ap (λ (b : Bool). eqb x y && b) (same_parts e xs ys (omega arith) (omega arith))
    ∙ and_three (eqb x y) (same_list (take e xs) (take e ys)) (same_list (drop e xs) (drop e ys))

module _ (own tb : List ℕ) (e : ℕ) (ended : Ended own) (size : length tb ≡ 4096) (at : e ≡ 144 + 56 * get_or own 2 0) where
  rest_zero : drop e own ≡ replicate (length (drop e tb)) 0
  rest_zero =
      let many : 3952 - 56 * get_or own 2 0 ≡ length (drop e tb) = omega (arith, length-drop e tb, ended.few) in
      ap (λ (i : ℕ). drop i own) at ∙ ended.rest ∙ ap (λ (i : ℕ). replicate i 0) many

  halves : same_list own tb ≡ (same_list (take e own) (take e tb) && same_list (replicate (length (drop e tb)) 0) (drop e tb))
  halves =
      same_parts e own tb (omega (arith, ended.size, ended.few)) (omega (arith, ended.few))
      ∙ ap (λ (xs : List ℕ). same_list (take e own) (take e tb) && same_list xs (drop e tb)) rest_zero

  pub front_differs : same_list (take e own) (take e tb) ≡ false → false ≡ same_list own tb
  front_differs d = sym (halves ∙ rw d)

  -- the rest as it is lent
  pub rest_decides : same_list (take e own) (take e tb) ≡ true → (n : ℕ) → n ≡ length tb - e → same_list (replicate (length (take n (drop e tb))) 0) (take n (drop e tb)) ≡ same_list own tb
  rest_decides d n p =
      let whole : take n (drop e tb) ≡ drop e tb = ap (λ (i : ℕ). take i (drop e tb)) (p ∙ sym (length-drop e tb)) ∙ take-length (drop e tb) in
      ap (λ (xs : List ℕ). same_list (replicate (length xs) 0) xs) whole ∙ sym (halves ∙ rw d)

-- ---- what a table ends with

-- zeros behind records that are padded
padded_rest : (front rs : List ℕ) (n m e k : ℕ) → e ≡ length front + length rs → k ≡ n - length rs + m → drop e (front ++ pad n rs ++ replicate m 0) ≡ replicate k 0
padded_rest front rs n m e k p q =
    let z : List ℕ = replicate (n - length rs) 0 ++ replicate m 0 in
    let seam : front ++ pad n rs ++ replicate m 0 ≡ (front ++ rs) ++ z = simp append_assoc in
    ap (drop e) seam ∙ drop_at (front ++ rs) z e (length-append front rs ∙ sym p) ∙ replicate-append-replicate (n - length rs) m 0 ∙ ap (λ (i : ℕ). replicate i 0) (sym q)

layout_rest : (q : Problem) → Fits q → (e k : ℕ) → e ≡ 144 + 56 * length q.clauses → k ≡ 3952 - 56 * length q.clauses → drop e (layout q) ≡ replicate k 0
unfolding layout
layout_rest q f e k p r =
    let ps : List ℕ = predicate_records q.constants 0 q.arities in
    let rs : List ℕ = clause_records q.constants q.arities 0 q.clauses in
    let head : length (heading q) ≡ 16 = sixteen q.constants (length q.arities) (length q.clauses) q.limit (atom_count q.constants q.arities) f.limit_four in
    let preds : length (pad 128 ps) ≡ 128 = pad-length 128 ps (omega (arith, predicate_records-length q.constants 0 q.arities, f.predicates_fit)) in
    let many : length rs ≡ 56 * length q.clauses = clause_records-length q.constants q.arities 0 q.clauses f.arities_fit f.each_fits in
    let first : length (heading q ++ pad 128 ps) ≡ 144 = length-append (heading q) (pad 128 ps) ∙ omega (arith, head, preds) in
    padded_rest (heading q ++ pad 128 ps) rs 3584 368 e k (omega (arith, p, first, many)) (omega (arith, r, many, f.clauses_fit))

layout-Ended : (q : Problem) → Fits q → Ended (layout q)
layout-Ended q f =
    let count : get_or (layout q) 2 0 ≡ length q.clauses = clauses_in q f in
    record {
      size = layout-length q f;
      few = omega (arith, count, f.clauses_fit);
      rest = layout_rest q f (144 + 56 * get_or (layout q) 2 0) (3952 - 56 * get_or (layout q) 2 0) (ap (λ (n : ℕ). 144 + 56 * n) count) (ap (λ (n : ℕ). 3952 - 56 * n) count);
    }

-- so what a text that is accepted is read into
pub read_ended : (x own : List ℕ) (r : Reading) → ReadAs (parse x) r own → r ≡ Ok tt → Ended own
read_ended x own r f accepted = go (parse x) refl f.reading f.table
  where
    go : (what : Parsed) → parse x ≡ what → r ≡ reading_of what → ((q : Problem) → what ≡ parsed q → own ≡ layout q) → Ended own
    go (refused i l) e read table = let z : ◌≡◌ {A = ℕ} 0 1 = cc in absurd (omega arith)
    go (parsed q) e read table = subst Ended (sym (table q refl)) (layout-Ended q (parse-Fits x q e))
