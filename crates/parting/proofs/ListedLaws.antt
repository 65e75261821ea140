-- The list of parts: the numbers of the clauses and of the predicates that make it, each once, in ascending order.
use Prim.Native.Nat.{ℕ, ◌+◌, ◌<◌}
use mathlib.Core.Bool.{Bool, true, false, cond}
use mathlib.Core.List.{List, [], ◌∷◌, ◌++◌, map, map-map}
use mathlib.Core.Logic.{◌↔◌, inl, inr}
use mathlib.Core.Path.{◌≡◌, refl, sym, ap, subst, ◌∙◌}
use native.Mathlib.Omega.{arith}
use borrow.Author.Tests.{eq-eqb, eqb-true}
use lib.Dec.{T}
use lib.ListN.{length}
use Rattle.lists.specs.Key.{nat_key}
use Rattle.lists.specs.Member.{All, Any, In}
use Rattle.lists.specs.Tabulate.{tabulate}
use Rattle.lists.proofs.Bytes.{tabulate_of}
use Rattle.lists.proofs.Member.{has_all, all_in, any_mapped}
use Rattle.lists.proofs.Rising.{Rising, Rising-tabulate, rising_apart}
use Rattle.lists.proofs.Tabulate.{tabulate-map, All-tabulate, Any-tabulate}
use Rattle.lists.proofs.Test.{T-true}
use Rattle.problem.specs.Problem.{Atom, Clause, Problem}
use Rattle.problem.specs.Extended.{with_clauses}
use Rattle.ground.specs.Instance.{clause_of, no_clause}
use Rattle.parting.specs.Parts.{predicates_of, family, only, touches, part_of, is_lowest, is_bare, parts_of}
use Rattle.parting.specs.Listed.{NumbersWhere, PartListed, PartsListed}
use Rattle.parting.proofs.FamilyLaws.{any_in, in_any}
use Rattle.parting.proofs.ClaimOnlyLaws.{only-All, All-only}

-- ---- numbers that pass a test

only_passes : (t : ℕ → Bool) (xs : List ℕ) → All (λ x. T (t x)) (only t xs)
only_passes t [] = tt
only_passes t (x ∷ xs) = go (t x) (λ u. u) (only_passes t xs)
  where
    go : (b : Bool) → (T b → T (t x)) → All (λ y. T (t y)) (only t xs) → All (λ y. T (t y)) (cond b (x ∷ only t xs) (only t xs))
    go true u a = (u tt, a)
    go false u a = a

only_in : (t : ℕ → Bool) (xs : List ℕ) (i : ℕ) → In nat_key (only t xs) i ↔ (In nat_key xs i × T (t i))
only_in t xs i = (
  λ h. (has_all nat_key (In nat_key xs) (only t xs) (only-All t (In nat_key xs) xs (all_in nat_key xs)) i h, has_all nat_key (λ x. T (t x)) (only t xs) (only_passes t xs) i h),
  λ h. has_all nat_key (λ x. T (t x) → In nat_key (only t xs) x) xs (All-only t (In nat_key (only t xs)) xs (all_in nat_key (only t xs))) i h.0 h.1,
)

Rising-only : (R : ℕ → ℕ → Type 0) (t : ℕ → Bool) (xs : List ℕ) → Rising R xs → Rising R (only t xs)
Rising-only R t [] r = tt
Rising-only R t (x ∷ xs) r = go (t x) (only-All t (R x) xs r.0) (Rising-only R t xs r.1)
  where
    go : (b : Bool) → All (R x) (only t xs) → Rising R (only t xs) → Rising R (cond b (x ∷ only t xs) (only t xs))
    go true a s = (a, s)
    go false a s = s

-- those below n, in order
module _ (t : ℕ → Bool) (n : ℕ) where
  abbrev all : List ℕ
  all = tabulate (λ i. i) n

  below : (i : ℕ) → In nat_key (tabulate (λ i. i) n) i → i < n
  below i h = has_all nat_key (λ j. j < n) all (All-tabulate (λ j. j < n) (λ j. j) n (λ j l. l)) i h

  there : (i : ℕ) → i < n → In nat_key (tabulate (λ i. i) n) i
  there i l = let m = any_in (λ j. j ≡ i) all (Any-tabulate (λ j. j ≡ i) (λ j. j) n i l refl) in subst (In nat_key all) m.1.1 m.1.0

  rises : Rising (λ a b. a < b) (only t (tabulate (λ i. i) n))
  rises = Rising-only (λ a b. a < b) t all (Rising-tabulate (λ a b. a < b) (λ i. i) n (λ i j l m. l))

  pub numbers_where : NumbersWhere n (λ i. T (t i)) (only t (tabulate (λ i. i) n))
  numbers_where =
      record {
        members = λ i. (λ h. let m = (only_in t all i).0 h in (below i m.0, m.1), λ p. (only_in t all i).1 (there i p.0, p.1));
        ascending = λ front mid back a b e. rising_apart (λ a b. a < b) front mid back a b (subst (Rising (λ a b. a < b)) e rises);
      }

-- ---- clauses by their numbers

only_mapped : {A B : Type 0} (t : B → Bool) (f : A → B) (xs : List A) → only t (map f xs) ≡ map f (only (λ x. t (f x)) xs)
only_mapped t f [] = refl
only_mapped {B = B} t f (x ∷ xs) = go (t (f x)) (only_mapped t f xs)
  where
    go : (b : Bool) → only t (map f xs) ≡ map f (only (λ y. t (f y)) xs)
        → cond b (f x ∷ only t (map f xs)) (only t (map f xs)) ≡ map f (cond b (x ∷ only (λ y. t (f y)) xs) (only (λ y. t (f y)) xs))
    go true e = ap (λ (l : List B). f x ∷ l) e
    go false e = e

module _ (q : Problem) where
  abbrev count : ℕ
  count = length q.clauses

  clauses_at : map (clause_of q) (tabulate (λ i. i) (length q.clauses)) ≡ q.clauses
  clauses_at = tabulate-map (clause_of q) (λ i. i) count ∙ tabulate_of (clause_of q) no_clause q.clauses count refl (λ i l. refl)

  -- those that pass a test
  clauses_where : (t : Clause → Bool) → only t q.clauses ≡ map (clause_of q) (only (λ i. t (clause_of q i)) (tabulate (λ i. i) (length q.clauses)))
  clauses_where t = ap (only t) (sym clauses_at) ∙ only_mapped t (clause_of q) (tabulate (λ i. i) count)

  -- ---- the parts

  pub part_listed : (p : ℕ) → PartListed q p
  unfolding part_of
  part_listed p =
      let t : Clause → Bool = λ k. touches (family q p) (predicates_of k) in
      record {
        places = only (λ i. t (clause_of q i)) (tabulate (λ i. i) count);
        listed = numbers_where (λ i. t (clause_of q i)) count;
        part = record { constants = refl; limit = refl; arities = refl; clauses = clauses_where t };
      }

  abbrev alone : Clause → Problem
  alone k = with_clauses q (k ∷ [])

  abbrev low_numbers : List ℕ
  low_numbers = only (is_lowest q) (tabulate (λ p. p) (length q.arities))

  abbrev bare_numbers : List ℕ
  bare_numbers = only (λ i. is_bare (clause_of q i)) (tabulate (λ i. i) (length q.clauses))

  parts_in_order : parts_of q ≡ map (λ i. with_clauses q (clause_of q i ∷ [])) bare_numbers ++ map (part_of q) low_numbers
  unfolding parts_of
  parts_in_order = ap (λ (l : List Problem). l ++ map (part_of q) low_numbers) (ap (map alone) (clauses_where is_bare) ∙ map-map alone (clause_of q) bare_numbers)

bare_is : (k : Clause) → T (is_bare k) ↔ ((k.conds ≡ []) × (k.alts ≡ []))
bare_is k = (λ t. both k.conds k.alts (eqb-true (length k.conds + length k.alts) 0 (T-true (is_bare k) t)), λ e. subst T (sym (eq-eqb (length k.conds + length k.alts) 0 (none e))) tt)
  where
    both : (xs ys : List Atom) → length xs + length ys ≡ 0 → (xs ≡ []) × (ys ≡ [])
    both [] [] e = (refl, refl)
    both [] (y ∷ ys) e = absurd (omega arith)
    both (x ∷ xs) ys e = absurd (omega arith)

    none : (k.conds ≡ []) × (k.alts ≡ []) → length k.conds + length k.alts ≡ 0
    none e = omega (arith, ap length e.0, ap length e.1)

-- a predicate of some atom
predicates_are : (k : Clause) (p : ℕ) → In nat_key (predicates_of k) p ↔ Any (λ a. a.pred ≡ p) (k.conds ++ k.alts)
predicates_are k p = (λ h. of (k.conds ++ k.alts) (in_any (λ r. r ≡ p) (predicates_of k) p h refl), back)
  where
    of : (atoms : List Atom) → Any (λ r. r ≡ p) (map (λ a. a.pred) atoms) → Any (λ a. a.pred ≡ p) atoms
    of [] x' = elim x' [ ]
    of (a ∷ atoms) (inl e) = inl e
    of (a ∷ atoms) (inr h) = inr (of atoms h)

    back : Any (λ a. a.pred ≡ p) (k.conds ++ k.alts) → In nat_key (predicates_of k) p
    back h =
        let m = any_in (λ r. r ≡ p) (predicates_of k) (any_mapped (λ (a : Atom). a.pred) (λ r. r ≡ p) (k.conds ++ k.alts) h) in
        subst (In nat_key (predicates_of k)) m.1.1 m.1.0

pub parts_listed : (q : Problem) → PartsListed q
parts_listed q =
    record {
      bare = bare_numbers q;
      lows = low_numbers q;
      parts = parts_in_order q;
      bare_listed = numbers_where (λ i. is_bare (clause_of q i)) (length q.clauses);
      lows_listed = numbers_where (is_lowest q) (length q.arities);
      bare_is = bare_is;
      predicates_are = predicates_are;
      bare_part = λ i. record { constants = refl; limit = refl; arities = refl; clauses = refl };
      low_part = part_listed q;
    }
