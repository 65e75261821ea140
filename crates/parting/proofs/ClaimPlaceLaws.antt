-- Where a clause and a predicate belong: each clause with atoms is of the part that a lowest predicate names, and a predicate in no clause is by itself.
use Prim.Native.Nat.{ℕ, ◌+◌, ◌≤◌, ◌<◌}
use mathlib.Core.Bool.{false}
use mathlib.Core.List.{List, [], ◌∷◌, ◌++◌, map}
use mathlib.Core.Logic.{◌⊎◌, inl, inr}
use mathlib.Core.Path.{◌≡◌, refl, sym, ap, subst, ◌∙◌}
use native.Mathlib.Omega.{arith}
use borrow.Author.Tests.{eq-eqb}
use lib.Dec.{T}
use lib.ListN.{length, length-append}
use Rattle.lists.specs.Key.{nat_key}
use Rattle.lists.specs.Member.{All, Any, In}
use Rattle.lists.specs.Tabulate.{tabulate}
use Rattle.lists.proofs.Bytes.{all_at}
use Rattle.lists.proofs.Member.{all_map, All-append, any_right, any_mapped, has_all, has_here, has_there}
use Rattle.lists.proofs.Tabulate.{Any-tabulate}
use Rattle.lists.proofs.Test.{T-false, fails, lt_or_le}
use Rattle.problem.specs.Problem.{Atom, Clause, Problem, AtomFits, ClauseFits, Fits}
use Rattle.problem.specs.Extended.{with_clauses}
use Rattle.ground.specs.Instance.{clause_of, no_clause}
use Rattle.ground.proofs.ClauseLaws.{all_places}
use Rattle.parting.specs.Parts.{predicates_of, family, only, touches, part_of, is_lowest, is_bare, parts_of}
use Rattle.parting.specs.Claims.{Has, Joined, Within}
use Rattle.parting.proofs.FamilyLaws.{touched, touching, family_self, family_trans, family_sym, families, lowest, part_same}
use Rattle.parting.proofs.ClaimOnlyLaws.{Any-only, only_none}

-- ---- the lowest of a set

record Lowest (s : List ℕ) : Type 0 where
  member : ℕ
  inside : In nat_key s member
  below : All (λ r. member ≤ r) s

lowest_first : (x : ℕ) (xs : List ℕ) → Lowest (x ∷ xs)
lowest_first x [] = record { member = x; inside = has_here nat_key x []; below = (omega arith, tt) }
lowest_first x (y ∷ ys) = go (lowest_first y ys) (lt_or_le x (lowest_first y ys).member)
  where
    go : (m : Lowest (y ∷ ys)) → (x < m.member) ⊎ (m.member ≤ x) → Lowest (x ∷ y ∷ ys)
    go m (inl l) =
        record {
          member = x;
          inside = has_here nat_key x (y ∷ ys);
          below = (omega arith, all_map (λ r. m.member ≤ r) (λ r. x ≤ r) (λ r h. omega (arith, l)) (y ∷ ys) m.below);
        }
    go m (inr l) = record { member = m.member; inside = has_there nat_key x (y ∷ ys) m.member m.inside; below = (l, m.below) }

lowest_of : (s : List ℕ) (r : ℕ) → In nat_key s r → Lowest s
lowest_of [] r h = absurd h
lowest_of (x ∷ xs) r h = lowest_first x xs

module _ (q : Problem) where
  -- ---- the part of a predicate is named

  pub record Named (r : ℕ) : Type 0 where
    pub name : ℕ
    pub no_higher : name ≤ r
    pub is_lowest : T (is_lowest q name)
    pub of_family : In nat_key (family q name) r

  pub named : (r : ℕ) → Named r
  named r =
      let m = lowest_of (family q r) r (family_self q r) in
      let below : (x : ℕ) → In nat_key (family q r) x → m.member ≤ x = has_all nat_key (λ x. m.member ≤ x) (family q r) m.below in
      record {
        name = m.member;
        no_higher = below r (family_self q r);
        is_lowest = (lowest q m.member).1 (λ x h. below x (family_trans q r m.member x m.inside h));
        of_family = family_sym q r m.member m.inside;
      }

  -- so it is one of the parts
  pub run : (r : ℕ) → r < length q.arities → Any (λ p. p ≡ part_of q r) (parts_of q)
  unfolding parts_of
  run r known =
      let n = named r in
      let Same : Problem → Type 0 = λ p. p ≡ part_of q r in
      let all = tabulate (λ p. p) (length q.arities) in
      any_right Same (map (λ k. with_clauses q (k ∷ [])) (only is_bare q.clauses)) (map (part_of q) (only (is_lowest q) all))
      (any_mapped (part_of q) Same (only (is_lowest q) all)
      (Any-only (is_lowest q) (λ p. part_of q p ≡ part_of q r) all
      (Any-tabulate (λ p. T (is_lowest q p) × (part_of q p ≡ part_of q r)) (λ p. p) (length q.arities) n.name (omega (arith, n.no_higher)) (n.is_lowest, part_same q n.name r n.of_family))))

  -- ---- each clause is placed

  pub placed : Fits q → (i : ℕ) → i < length q.clauses → T (is_bare (clause_of q i)) ⊎ ((p : ℕ) × ((p < length q.arities) × T (is_lowest q p) × Within q p i))
  placed f i h = by ((clause_of q i).conds ++ (clause_of q i).alts) refl
    where
      fit : ClauseFits q.constants q.arities (clause_of q i)
      fit = all_at (ClauseFits q.constants q.arities) q.clauses no_clause i h f.each_fits

      each : All (AtomFits q.constants q.arities (clause_of q i).vars) ((clause_of q i).conds ++ (clause_of q i).alts)
      each = All-append (AtomFits q.constants q.arities (clause_of q i).vars) (clause_of q i).conds (clause_of q i).alts fit.conds_fit fit.alts_fit

      by : (atoms : List Atom) → (clause_of q i).conds ++ (clause_of q i).alts ≡ atoms
          → T (is_bare (clause_of q i)) ⊎ ((p : ℕ) × ((p < length q.arities) × T (is_lowest q p) × Within q p i))
      by [] e =
          let none : length (clause_of q i).conds + length (clause_of q i).alts ≡ 0 = sym (length-append (clause_of q i).conds (clause_of q i).alts) ∙ ap length e in
          inl (subst T (sym (eq-eqb (length (clause_of q i).conds + length (clause_of q i).alts) 0 none)) tt)
      by (a ∷ atoms) e =
          let known : a.pred < length q.arities = (subst (All (AtomFits q.constants q.arities (clause_of q i).vars)) e each).0.known in
          let has : Has q i a.pred = subst (λ (l : List Atom). In nat_key (map (λ b. b.pred) l) a.pred) (sym e) (has_here nat_key a.pred (map (λ b. b.pred) atoms)) in
          let n = named a.pred in
          inr (n.name, (omega (arith, n.no_higher, known), n.is_lowest, touching (family q n.name) (predicates_of (clause_of q i)) a.pred has n.of_family))

  -- ---- a predicate in no clause

  module _ (p : ℕ) (none : (i : ℕ) → Has q i p → ⊥) where
    by_itself : (r : ℕ) → In nat_key (family q p) r → p ≡ r
    by_itself r h = go ((families q p r).0 h)
      where
        go : (p ≡ r) ⊎ Joined q p r → p ≡ r
        go (inl e) = e
        go (inr j) = absurd (none j.from j.has_first)

    untouched : (i : ℕ) → touches (family q p) (predicates_of (clause_of q i)) ≡ false
    untouched i =
        T-false (touches (family q p) (predicates_of (clause_of q i)))
        (fails (touches (family q p) (predicates_of (clause_of q i)))
        (λ h. let s = touched (family q p) (predicates_of (clause_of q i)) h in none i (subst (Has q i) (sym (by_itself s.0 s.1.1)) s.1.0)))

    pub unused : T (is_lowest q p) × (part_of q p ≡ with_clauses q [])
    unfolding part_of
    unused = (
      (lowest q p).1 (λ r h. omega (arith, by_itself r h)),
      ap (with_clauses q)
          (only_none (λ k. touches (family q p) (predicates_of k)) q.clauses
          (all_places (λ (k : Clause). touches (family q p) (predicates_of k) ≡ false) no_clause q.clauses (λ i l. untouched i))),
    )
