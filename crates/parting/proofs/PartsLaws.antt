-- The parts turn by turn are the parts of the problem.
use Prim.Native.Nat.{ℕ, zero, suc, ◌+◌, ◌-◌, ◌≤◌, ◌<◌}
use mathlib.Core.Bool.{Bool, true, false, cond}
use mathlib.Core.List.{List, [], ◌∷◌, ◌++◌, map, flat_map, append-nil}
use mathlib.Core.Logic.{◌⊎◌, inl, inr}
use mathlib.Core.Path.{◌≡◌, refl, sym, ap, subst, ◌∙◌}
use native.Mathlib.Omega.{arith}
use borrow.Author.Tests.{eqb-true, eqb-false, lt-ltb, le-ltb, eq-eqb, ne_eqb}
use lib.Dec.{eqb, ltb}
use lib.ListN.{length, get_or}
use Rattle.lists.specs.Tabulate.{tabulate}
use Rattle.lists.proofs.Member.{flat_append, flat_snoc}
use Rattle.lists.proofs.Tabulate.{tabulate-add}
use Rattle.lists.proofs.Test.{lt_or_le, same_or_other}
use Rattle.problem.specs.Problem.{Clause, Problem}
use Rattle.problem.specs.Layout.{problem_in}
use Rattle.problem.specs.Table.{Lawful}
use Rattle.problem.proofs.Access.{predicates_in}
use Rattle.problem.specs.Extended.{with_clauses}
use Rattle.ground.specs.Instance.{clause_of, no_clause}
use Rattle.ground.proofs.AtomLaws.{conds_count, alts_count}
use Rattle.ground.proofs.Turns.{clauses_byte}
use Rattle.parting.specs.Parts.{predicates_of, family, only, touches, part_of, is_lowest, is_bare, parts_of}
use Rattle.parting.specs.terms.Labels.{clause_at, lead_at, labels_in}
use Rattle.parting.specs.terms.Gathered.{belongs, taken, gathered_upto, gathered}
use Rattle.parting.specs.terms.Tally.{name_at, parts_named, parts_upto}
use Rattle.parting.proofs.LabelLaws.{labels_known, lowest_label, clause_part}

-- ---- lists kept by a test

-- those kept, one by one
pub flat_only : {A B : Type 0} (t : A → Bool) (f : A → B) (xs : List A) → flat_map (λ x. cond (t x) (f x ∷ []) []) xs ≡ map f (only t xs)
unfolding flat_map
flat_only t f [] = refl
flat_only {A = A} {B = B} t f (x ∷ xs) = go (t x) (flat_only t f xs)
  where
    go : (b : Bool) → flat_map (λ y. cond (t y) (f y ∷ []) []) xs ≡ map f (only t xs)
        → cond b (f x ∷ []) [] ++ flat_map (λ y. cond (t y) (f y ∷ []) []) xs ≡ map f (cond b (x ∷ only t xs) (only t xs))
    go true e = ap (λ (l : List B). f x ∷ l) e
    go false e = e

pub map_self : {A : Type 0} (xs : List A) → map (λ x. x) xs ≡ xs
map_self [] = refl
map_self (x ∷ xs) = ap (λ l. x ∷ l) (map_self xs)

-- by places, and by members
pub flat_same : {B : Type 0} (f g : ℕ → List B) (n : ℕ) → ((i : ℕ) → i < n → f i ≡ g i) → flat_map f (tabulate (λ i. i) n) ≡ flat_map g (tabulate (λ i. i) n)
unfolding flat_map
flat_same f g zero h = refl
flat_same {B = B} f g (suc n) h =
    flat_snoc f (tabulate (λ i. i) n) n ∙ ap (λ (l : List B). l ++ f n) (flat_same f g n (λ i l. h i (omega arith))) ∙ ap (λ (l : List B). flat_map g (tabulate (λ i. i) n) ++ l) (h n (omega arith))
    ∙ sym (flat_snoc g (tabulate (λ i. i) n) n)

pub flat_shift : {B : Type 0} (f : ℕ → List B) (m n : ℕ) → flat_map f (tabulate (λ i. m + i) n) ≡ flat_map (λ i. f (m + i)) (tabulate (λ i. i) n)
unfolding flat_map
flat_shift f m zero = refl
flat_shift {B = B} f m (suc n) =
    flat_snoc f (tabulate (λ i. m + i) n) (m + n) ∙ ap (λ (l : List B). l ++ f (m + n)) (flat_shift f m n) ∙ sym (flat_snoc (λ i. f (m + i)) (tabulate (λ i. i) n) n)

pub flat_places : {A B : Type 0} (g : A → List B) (d : A) (xs : List A) → flat_map (λ k. g (get_or xs k d)) (tabulate (λ k. k) (length xs)) ≡ flat_map g xs
unfolding flat_map
flat_places g d [] = refl
flat_places {A = A} {B = B} g d (x ∷ xs) =
    let n = length xs in
    let whole : suc n ≡ 1 + n = omega arith in
    ap (λ (m : ℕ). flat_map (λ k. g (get_or (x ∷ xs) k d)) (tabulate (λ k. k) m)) whole
    ∙ ap (flat_map (λ k. g (get_or (x ∷ xs) k d))) (tabulate-add (λ k. k) 1 n)
    ∙ flat_append (λ k. g (get_or (x ∷ xs) k d)) (tabulate (λ k. k) 1) (tabulate (λ i. 1 + i) n)
    ∙ ap (λ (l : List B). flat_map (λ k. g (get_or (x ∷ xs) k d)) (0 ∷ []) ++ l) (flat_shift (λ k. g (get_or (x ∷ xs) k d)) 1 n ∙ flat_same (λ i. g (get_or (x ∷ xs) (1 + i) d)) (λ i. g (get_or xs i d)) n (next n))
    ∙ ap (λ (l : List B). flat_map (λ k. g (get_or (x ∷ xs) k d)) (0 ∷ []) ++ l) (flat_places g d xs)
    ∙ one (flat_map g xs)
  where
    next : (n i : ℕ) → i < n → g (get_or (x ∷ xs) (1 + i) d) ≡ g (get_or xs i d)
    next n i h = let e : 1 + i ≡ suc i = omega arith in ap (λ (j : ℕ). g (get_or (x ∷ xs) j d)) e

    one : (l : List B) → (g x ++ []) ++ l ≡ g x ++ l
    one l = ap (λ (y : List B). y ++ l) (append-nil (g x))

-- the only place that has a number
pub flat_one : {B : Type 0} (g : ℕ → B) (t : ℕ → Bool) (i : ℕ) → ((k : ℕ) → t k ≡ eqb i k) → (n : ℕ)
    → ((i < n) × (flat_map (λ k. cond (t k) (g k ∷ []) []) (tabulate (λ k. k) n) ≡ g i ∷ [])) ⊎ ((n ≤ i) × (flat_map (λ k. cond (t k) (g k ∷ []) []) (tabulate (λ k. k) n) ≡ []))
unfolding flat_map
flat_one {B = B} g t i same zero = inr (omega arith, refl)
flat_one {B = B} g t i same (suc n) = go (flat_one g t i same n) (same_or_other i n)
  where
    row : ℕ → List B
    row k = cond (t k) (g k ∷ []) []

    before : List B
    before = flat_map (λ k. cond (t k) (g k ∷ []) []) (tabulate (λ k. k) n)

    more : flat_map (λ k. cond (t k) (g k ∷ []) []) (tabulate (λ k. k) (suc n)) ≡ before ++ cond (t n) (g n ∷ []) []
    more = flat_snoc (λ k. cond (t k) (g k ∷ []) []) (tabulate (λ k. k) n) n

    go : ((i < n) × (before ≡ g i ∷ [])) ⊎ ((n ≤ i) × (before ≡ [])) → (i ≡ n) ⊎ (i ≡ n → ⊥)
        → ((i < suc n) × (flat_map (λ k. cond (t k) (g k ∷ []) []) (tabulate (λ k. k) (suc n)) ≡ g i ∷ []))
        ⊎ ((suc n ≤ i) × (flat_map (λ k. cond (t k) (g k ∷ []) []) (tabulate (λ k. k) (suc n)) ≡ []))
    go (inl b) (inl e) = absurd (omega (arith, b.0))
    go (inl b) (inr o) = inl (omega (arith, b.0), more ∙ ap (λ (l : List B). l ++ cond (t n) (g n ∷ []) []) b.1 ∙ ap (λ (z : Bool). (g i ∷ []) ++ cond z (g n ∷ []) []) (same n ∙ ne_eqb i n o))
    go (inr b) (inl e) =
        inl (omega arith, more ∙ ap (λ (l : List B). l ++ cond (t n) (g n ∷ []) []) b.1 ∙ ap (λ (z : Bool). cond z (g n ∷ []) []) (same n ∙ eq-eqb i n e) ∙ ap (λ (k : ℕ). g k ∷ []) (sym e))
    go (inr b) (inr o) =
        let past : suc n ≤ i = later b.0 o in
        inr (past, more ∙ ap (λ (l : List B). l ++ cond (t n) (g n ∷ []) []) b.1 ∙ ap (λ (z : Bool). cond z (g n ∷ []) []) (same n ∙ ne_eqb i n o))
      where
        later : n ≤ i → (i ≡ n → ⊥) → suc n ≤ i
        later l o = past (lt_or_le n i)
          where
            past : (n < i) ⊎ (i ≤ n) → suc n ≤ i
            past (inl h) = omega arith
            past (inr h) = absurd (o (omega arith))

-- ---- the part of a turn

module _ (tb : List ℕ) (h : Lawful tb) where
  abbrev q : Problem
  q = problem_in tb

  abbrev count : ℕ
  count = length q.clauses

  pub predicates_byte : get_or tb 1 0 ≡ length q.arities
  predicates_byte = ap (λ (t : List ℕ). get_or t 1 0) (sym h.laid) ∙ predicates_in q h.fits

  -- a clause without atoms by itself
  pub alone_part : (i : ℕ) → i < count → gathered tb (32 + i) ≡ with_clauses q (clause_of q i ∷ [])
  alone_part i known = ap (with_clauses q) (go (flat_one (clause_of q) (belongs tb (32 + i)) i mine count))
    where
      mine : (k : ℕ) → belongs tb (32 + i) k ≡ eqb i k
      mine k = rw (le-ltb (32 + i) 32 (omega arith)) (by (same_or_other i k))
        where
          by : (i ≡ k) ⊎ (i ≡ k → ⊥) → eqb (32 + i) (32 + k) ≡ eqb i k
          by (inl e) = eq-eqb (32 + i) (32 + k) (omega arith) ∙ sym (eq-eqb i k e)
          by (inr o) = ne_eqb (32 + i) (32 + k) (λ e. o (omega arith)) ∙ sym (ne_eqb i k o)

      go : ((i < count) × (gathered_upto tb (32 + i) count ≡ clause_of q i ∷ [])) ⊎ ((count ≤ i) × (gathered_upto tb (32 + i) count ≡ [])) → gathered_upto tb (32 + i) count ≡ clause_of q i ∷ []
      go (inl b) = b.1
      go (inr b) = absurd (omega (arith, b.0))

  -- the clauses of the family of a lowest predicate
  pub lowest_part : (p : ℕ) → p < 32 → get_or (labels_in tb) p 0 ≡ p → gathered tb p ≡ part_of q p
  unfolding part_of
  lowest_part p hp e =
      let t : Clause → Bool = λ k. touches (family q p) (predicates_of k) in
      ap (with_clauses q)
      (flat_same (λ k. taken (belongs tb p k) (clause_of q k)) (λ k. taken (t (clause_of q k)) (clause_of q k)) count
      (λ k known. ap (λ (b : Bool). taken b (clause_of q k)) (ap (λ (b : Bool). cond b (eqb (get_or (labels_in tb) (lead_at tb k) 0) p) (eqb p (32 + k))) (lt-ltb p 32 hp) ∙ clause_part tb h k p known hp e))
      ∙ flat_places (λ k. taken (t k) k) no_clause q.clauses
      ∙ flat_only t (λ k. k) q.clauses
      ∙ map_self (only t q.clauses))

  -- a turn of a clause, and a turn of a predicate
  bare_byte : (i : ℕ) → i < count → eqb (get_or tb (clause_at i) 0 + get_or tb (clause_at i + 1) 0) 0 ≡ is_bare (clause_of q i)
  bare_byte i known = rw (conds_count tb h i known, alts_count tb h i known)

  clause_turn : (i : ℕ) → i < count → parts_named tb (name_at tb i) ≡ cond (is_bare (clause_of q i)) (with_clauses q (clause_of q i ∷ []) ∷ []) []
  clause_turn i known =
      let here : i < get_or tb 2 0 = omega (arith, clauses_byte tb h) in
      ap (λ (b : Bool). parts_named tb (cond b (cond (eqb (get_or tb (clause_at i) 0 + get_or tb (clause_at i + 1) 0) 0) (32 + i) 255) (cond (eqb (get_or (labels_in tb) (i - get_or tb 2 0) 0) (i - get_or tb 2 0)) (i - get_or tb 2 0) 255))) (lt-ltb i (get_or tb 2 0) here)
      ∙ ap (λ (b : Bool). parts_named tb (cond b (32 + i) 255)) (bare_byte i known)
      ∙ go (is_bare (clause_of q i))
    where
      go : (b : Bool) → parts_named tb (cond b (32 + i) 255) ≡ cond b (with_clauses q (clause_of q i ∷ []) ∷ []) []
      go true = rw (ne_eqb (32 + i) 255 (λ e. omega (arith, known, h.fits.clauses_fit))) (ap (λ (p : Problem). p ∷ []) (alone_part i known))
      go false = refl

  predicate_turn : (p : ℕ) → p < length q.arities → parts_named tb (name_at tb (count + p)) ≡ cond (is_lowest q p) (part_of q p ∷ []) []
  predicate_turn p known =
      let small : p < 32 = omega (arith, known, h.fits.predicates_fit) in
      let past : get_or tb 2 0 ≤ count + p = omega (arith, clauses_byte tb h) in
      let mine : count + p - get_or tb 2 0 ≡ p = omega (arith, clauses_byte tb h) in
      ap (λ (b : Bool). parts_named tb (cond b (cond (eqb (get_or tb (clause_at (count + p)) 0 + get_or tb (clause_at (count + p) + 1) 0) 0) (32 + (count + p)) 255) (cond (eqb (get_or (labels_in tb) (count + p - get_or tb 2 0) 0) (count + p - get_or tb 2 0)) (count + p - get_or tb 2 0) 255))) (le-ltb (count + p) (get_or tb 2 0) past)
      ∙ ap (λ (x : ℕ). parts_named tb (cond (eqb (get_or (labels_in tb) x 0) x) x 255)) mine
      ∙ go (eqb (get_or (labels_in tb) p 0) p) refl small
      ∙ ap (λ (b : Bool). cond b (part_of q p ∷ []) []) (lowest_label tb h p (omega arith))
    where
      go : (b : Bool) → eqb (get_or (labels_in tb) p 0) p ≡ b → p < 32 → parts_named tb (cond b p 255) ≡ cond b (part_of q p ∷ []) []
      go true e small = rw (ne_eqb p 255 (λ f. omega arith)) (ap (λ (x : Problem). x ∷ []) (lowest_part p small (eqb-true (get_or (labels_in tb) p 0) p e)))
      go false e small = refl

  -- all turns
  pub parts_all : (n : ℕ) → n ≡ get_or tb 2 0 + get_or tb 1 0 → parts_upto tb n ≡ parts_of q
  unfolding parts_of
  parts_all n e =
      let whole : n ≡ count + length q.arities = omega (arith, clauses_byte tb h, predicates_byte) in
      let row : ℕ → List Problem = λ i. parts_named tb (name_at tb i) in
      let first : flat_map row (tabulate (λ i. i) count) ≡ map (λ k. with_clauses q (k ∷ [])) (only is_bare q.clauses) =
      flat_same row (λ i. cond (is_bare (clause_of q i)) (with_clauses q (clause_of q i ∷ []) ∷ []) []) count clause_turn
      ∙ flat_places (λ k. cond (is_bare k) (with_clauses q (k ∷ []) ∷ []) []) no_clause q.clauses
      ∙ flat_only is_bare (λ k. with_clauses q (k ∷ [])) q.clauses in
      let then : flat_map row (tabulate (λ i. count + i) (length q.arities)) ≡ map (part_of q) (only (is_lowest q) (tabulate (λ p. p) (length q.arities))) =
      flat_shift row count (length q.arities)
      ∙ flat_same (λ p. row (count + p)) (λ p. cond (is_lowest q p) (part_of q p ∷ []) []) (length q.arities) predicate_turn
      ∙ flat_only (is_lowest q) (part_of q) (tabulate (λ p. p) (length q.arities)) in
      ap (parts_upto tb) whole
      ∙ ap (flat_map row) (tabulate-add (λ i. i) count (length q.arities))
      ∙ flat_append row (tabulate (λ i. i) count) (tabulate (λ i. count + i) (length q.arities))
      ∙ ap (λ (l : List Problem). l ++ flat_map row (tabulate (λ i. count + i) (length q.arities))) first
      ∙ ap (λ (l : List Problem). map (λ k. with_clauses q (k ∷ [])) (only is_bare q.clauses) ++ l) then
