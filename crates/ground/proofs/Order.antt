-- The ground atoms in number order and the instances in their order: all of them are there, and which stands before which.
use Prim.Native.Nat.{ℕ, zero, suc, ◌+◌, ◌^◌, ◌≤◌, ◌<◌}
use mathlib.Core.List.{List, [], ◌∷◌, ◌++◌, map, flat_map, map-append}
use mathlib.Core.Logic.{◌↔◌, ◌⊎◌, inl, inr}
use mathlib.Core.Path.{◌≡◌, refl, sym, ap, ap₂, subst, ◌∙◌}
use native.Mathlib.Omega.{arith}
use lib.ListN.{length, take, get_or, length-map, get_or-map}
use lib.Seq.{take-length, take-suc}
use Rattle.lists.specs.Digits.{horner, digits_of, tuples}
use Rattle.lists.specs.Member.{All, Any}
use Rattle.lists.specs.Tabulate.{tabulate}
use Rattle.lists.proofs.Bytes.{all_at}
use Rattle.lists.proofs.Digits.{Tuple, horner_below, horner_digits, tuples_at, tuples_each, tuples-Any}
use Rattle.lists.proofs.Member.{flat_snoc, all_of, all_map, all_mapped, all_flat, any_flat, any_mapped, member_has}
use Rattle.lists.proofs.Rising.{Rising, Rising-tabulate, rising_mapped, rising_flat, rising_apart}
use Rattle.lists.proofs.Tabulate.{tabulate-length, tabulate_at, tabulate_same, tabulate-add, tabulate-map, All-tabulate, Any-tabulate}
use Rattle.problem.specs.Problem.{Problem, atom_count, first_atom}
use Rattle.problem.proofs.Access.{atoms_upto}
use Rattle.problem.proofs.TableLayout.{atom_count_snoc}
use Rattle.ground.specs.Instance.{Instance, GroundAtom, InstanceOf, ground_number, clause_of, instances_of, ground_of}
use Rattle.ground.specs.Report.{atoms_in_order}
use Rattle.ground.specs.Claims.{Listed, listed_number}
use Rattle.ground.proofs.Instances.{number_apart}

-- ---- the atoms

module _ (q : Problem) where
  abbrev c : ℕ
  c = q.constants

  abbrev A : ℕ
  A = atom_count c q.arities

  abbrev arity : ℕ → ℕ
  arity p = get_or q.arities p 0

  -- those of predicate p
  abbrev atoms_of : ℕ → List (List ℕ)
  atoms_of p = map (λ args. p ∷ args) (tuples c (arity p))

  -- those of the first n predicates
  abbrev upto : ℕ → List (List ℕ)
  upto n = flat_map atoms_of (tabulate (λ p. p) n)

  pub atoms_listed : All (Listed q) (atoms_in_order q)
  atoms_listed =
      let n = length q.arities in
      all_flat atoms_of (Listed q) (tabulate (λ p. p) n) (All-tabulate (λ p. All (Listed q) (atoms_of p)) (λ p. p) n each)
    where
      each : (p : ℕ) → p < length q.arities → All (Listed q) (atoms_of p)
      each p known =
          all_mapped (λ args. p ∷ args) (Listed q) (tuples c (arity p))
          (all_map (Tuple c (arity p)) (λ args. Listed q (p ∷ args)) (λ args t. record { known = known; arity = t.0; below = t.1 }) (tuples c (arity p)) (tuples_each c (arity p)))

  numbers_of : (p : ℕ) → map (listed_number q) (atoms_of p) ≡ tabulate (λ i. first_atom c q.arities p + i) (c ^ arity p)
  numbers_of p =
      let first = first_atom c q.arities p in
      let w = arity p in
      ap {B = List ℕ} (λ (ts : List (List ℕ)). map (listed_number q) (map (λ args. p ∷ args) ts)) (tuples_at c w)
      ∙ ap {B = List ℕ} (map (listed_number q)) (tabulate-map (λ args. p ∷ args) (digits_of c w) (c ^ w))
      ∙ tabulate-map (listed_number q) (λ i. p ∷ digits_of c w i) (c ^ w)
      ∙ tabulate_same (λ i. first + horner c (digits_of c w i)) (λ i. first + i) (c ^ w) (λ i l. ap (λ (n : ℕ). first + n) (horner_digits c w i l))

  numbers_upto : (n : ℕ) → n ≤ length q.arities → map (listed_number q) (upto n) ≡ tabulate (λ i. i) (first_atom c q.arities n)
  unfolding flat_map
  numbers_upto zero h = refl
  numbers_upto (suc n) h =
      let next : first_atom c q.arities (suc n) ≡ first_atom c q.arities n + c ^ arity n =
      ap (atom_count c) (take-suc q.arities n 0 h) ∙ atom_count_snoc c (take n q.arities) (arity n) in
      ap {B = List ℕ} (map (listed_number q)) (flat_snoc atoms_of (tabulate (λ p. p) n) n)
      ∙ map-append (listed_number q) (upto n) (atoms_of n)
      ∙ rw (numbers_upto n (omega arith), numbers_of n, next) (sym (tabulate-add (λ i. i) (first_atom c q.arities n) (c ^ arity n)))

  pub atoms_stand_in_order : map (listed_number q) (atoms_in_order q) ≡ tabulate (λ n. n) A
  atoms_stand_in_order = numbers_upto (length q.arities) (omega arith) ∙ ap (λ (ws : List ℕ). tabulate (λ n. n) (atom_count c ws)) (take-length q.arities)

  pub atoms_all : (p : ℕ) (args : List ℕ) → GroundAtom c q.arities p args → Any (λ a. a ≡ p ∷ args) (atoms_in_order q)
  atoms_all p args g =
      let Here : List ℕ → Type 0 = λ a. a ≡ p ∷ args in
      let n = length q.arities in
      any_flat atoms_of Here (tabulate (λ k. k) n)
      (Any-tabulate (λ k. Any Here (atoms_of k)) (λ k. k) n p g.known
      (any_mapped (λ ds. p ∷ ds) Here (tuples c (arity p)) (tuples-Any c (arity p) (λ ds. p ∷ ds ≡ p ∷ args) args (g.arity, g.below) refl)))

  pub order_count : length (atoms_in_order q) ≡ A
  order_count = sym (length-map (atoms_in_order q) (listed_number q)) ∙ ap length atoms_stand_in_order ∙ tabulate-length (λ n. n) A

  -- an atom stands at its number
  pub order_at : (p : ℕ) (args : List ℕ) → GroundAtom c q.arities p args → get_or (atoms_in_order q) (ground_number c q.arities p args) [] ≡ p ∷ args
  order_at p args g =
      let n = ground_number c q.arities p args in
      let small : n < A = omega (arith, atoms_upto c q.arities p g.known, below) in
      only (get_or (atoms_in_order q) n []) (all_at (Listed q) (atoms_in_order q) [] n (omega (arith, order_count)) atoms_listed)
      (sym (get_or-map (listed_number q) (atoms_in_order q) n []) ∙ ap (λ (ns : List ℕ). get_or ns n 0) atoms_stand_in_order ∙ tabulate_at (λ i. i) 0 A n small)
    where
      below : horner c args < c ^ arity p
      below = subst (λ (w : ℕ). horner c args < c ^ w) g.arity (horner_below c args g.below)

      only : (a : List ℕ) → Listed q a → listed_number q a ≡ ground_number c q.arities p args → a ≡ p ∷ args
      only [] l e = absurd l
      only (p₁ ∷ args₁) l e = let same = number_apart c q.arities p₁ p args₁ args l g e in ap₂ (λ (k : ℕ) (ds : List ℕ). k ∷ ds) same.0 same.1

-- ---- the instances

module _ (q : Problem) where
  abbrev values_of : ℕ → List (List ℕ)
  values_of k = tuples q.constants (clause_of q k).vars

  abbrev at : ℕ → List ℕ → Instance
  at k values = record { clause = k; values = values }

  pub instances_are : All (InstanceOf q) (ground_of q).instances
  unfolding ground_of
  instances_are =
      let n = length q.clauses in
      all_flat (instances_of q) (InstanceOf q) (tabulate (λ k. k) n) (All-tabulate (λ k. All (InstanceOf q) (instances_of q k)) (λ k. k) n each)
    where
      each : (k : ℕ) → k < length q.clauses → All (InstanceOf q) (instances_of q k)
      each k known =
          let c = q.constants in
          let v = (clause_of q k).vars in
          all_mapped (at k) (InstanceOf q) (values_of k)
          (all_map (Tuple c v) (λ values. InstanceOf q (at k values)) (λ values t. record { known = known; each_variable = t.0; constants = t.1 }) (values_of k) (tuples_each c v))

  instance_there : (i : Instance) → InstanceOf q i → Any (λ j. j ≡ i) (ground_of q).instances
  unfolding ground_of
  instance_there i o =
      let Here : Instance → Type 0 = λ j. j ≡ i in
      let k = i.clause in
      let n = length q.clauses in
      any_flat (instances_of q) Here (tabulate (λ j. j) n)
      (Any-tabulate (λ j. Any Here (instances_of q j)) (λ j. j) n k o.known
      (any_mapped (at k) Here (values_of k)
      (tuples-Any q.constants (clause_of q k).vars (λ values. at k values ≡ i) i.values (o.each_variable, o.constants) refl)))

  pub instances_all : (i : Instance) → Any (λ j. j ≡ i) (ground_of q).instances ↔ InstanceOf q i
  instances_all i = (member_has (InstanceOf q) (ground_of q).instances i instances_are, instance_there i)

  abbrev Before : Instance → Instance → Type 0
  Before i j = (i.clause < j.clause) ⊎ ((i.clause ≡ j.clause) × (horner q.constants i.values < horner q.constants j.values))

  rising : Rising Before (ground_of q).instances
  unfolding ground_of
  rising = rising_flat Before (instances_of q) (length q.clauses) (λ k l. within k) across
    where
      within : (k : ℕ) → Rising Before (instances_of q k)
      within k =
          let c = q.constants in
          let v = (clause_of q k).vars in
          rising_mapped Before (at k) (values_of k)
          (subst (Rising (λ s t. Before (at k s) (at k t))) (sym (tuples_at c v))
          (Rising-tabulate (λ s t. Before (at k s) (at k t)) (digits_of c v) (c ^ v) (λ i j l h. inr (refl, rw (horner_digits c v i (omega arith), horner_digits c v j h) l))))

      across : (i j : ℕ) → i < j → j < length q.clauses → All (λ x. All (Before x) (instances_of q j)) (instances_of q i)
      across i j l h =
          all_mapped (at i) (λ x. All (Before x) (instances_of q j)) (values_of i)
          (all_of (λ s. All (Before (at i s)) (instances_of q j)) (λ s. all_mapped (at j) (Before (at i s)) (values_of j) (all_of (λ t. Before (at i s) (at j t)) (λ t. inl l) (values_of j))) (values_of i))

  pub instances_in_order : (front mid back : List Instance) (i j : Instance) → (ground_of q).instances ≡ front ++ (i ∷ mid ++ (j ∷ back)) → Before i j
  instances_in_order front mid back i j e = rising_apart Before front mid back i j (subst (Rising Before) e rising)
