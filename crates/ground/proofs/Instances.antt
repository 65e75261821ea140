-- Laws of the ground problem: the numbers of its atoms are those below A, each the number of one predicate and one list of arguments.
use Prim.Native.Nat.{ℕ, zero, suc, ◌+◌, ◌-◌, ◌^◌, ◌≤◌, ◌<◌}
use mathlib.Core.Bool.{not}
use mathlib.Core.List.{List, [], ◌∷◌, map}
use mathlib.Core.Logic.{◌⊎◌, inl, inr}
use mathlib.Core.Path.{◌≡◌, refl, sym, ap, subst, ◌∙◌}
use native.Mathlib.Nat.{zero-add}
use native.Mathlib.Omega.{arith}
use lib.Dec.{T, ltb, ltb→lt, nltb→le}
use lib.ListN.{length, get_or, length-map}
use borrow.Author.Tests.{lt-ltb, le-ltb}
use Rattle.lists.specs.Digits.{horner, digits_of, tuples}
use Rattle.lists.specs.Member.{All}
use Rattle.lists.specs.Tabulate.{tabulate}
use Rattle.lists.proofs.Bytes.{all_at}
use Rattle.lists.proofs.Digits.{Tuple, horner_below, horner_digits, horner_apart, digits_length, digits_fit, tuples_each}
use Rattle.lists.proofs.Member.{all_map, all_mapped, all_flat}
use Rattle.lists.proofs.Tabulate.{All-tabulate}
use Rattle.lists.proofs.Test.{decided}
use Rattle.search.specs.Ground.{Proper}
use Rattle.problem.specs.Problem.{Atom, Problem, ArgFits, AtomFits, ClauseFits, Fits, atom_count, first_atom}
use Rattle.problem.proofs.Access.{atoms_upto}
use Rattle.ground.specs.Instance.{Instance, GroundAtom, AtomOf, value_of, number, no_clause, clause_of, instances_of, ground_atoms, ground_of}

-- ---- an instance's atoms are below A

module _ (c : ℕ) (arities values : List ℕ) (v : ℕ) (all : length values ≡ v) (below : All (λ d. d < c) values) where
  pub value_below : (b : ℕ) → ArgFits c v b → value_of values b < c
  value_below b (inl f) = let small : b < 128 = omega arith in rw (lt-ltb b 128 small) f.1
  value_below b (inr f) =
      let place : b - 128 < length values = omega arith in
      rw (le-ltb b 128 f.0) (all_at (λ d. d < c) values 0 (b - 128) place below)

  pub values_below : (args : List ℕ) → All (ArgFits c v) args → All (λ d. d < c) (map (value_of values) args)
  values_below args f = all_mapped (value_of values) (λ d. d < c) args (all_map (ArgFits c v) (λ b. value_of values b < c) value_below args f)

  pub number_below : (a : Atom) → AtomFits c arities v a → number c arities values a < atom_count c arities
  number_below a f =
      let args : List ℕ = map (value_of values) a.args in
      let wide : length args ≡ get_or arities a.pred 0 = length-map a.args (value_of values) ∙ f.arity in
      let small : horner c args < c ^ get_or arities a.pred 0 =
      subst (λ (w : ℕ). horner c args < c ^ w) wide (horner_below c args (values_below a.args f.args_fit)) in
      omega (arith, atoms_upto c arities a.pred f.known)

  pub numbers_below : (atoms : List Atom) → All (AtomFits c arities v) atoms → All (λ n. n < atom_count c arities) (map (number c arities values) atoms)
  numbers_below atoms f =
      let A = atom_count c arities in
      all_mapped (number c arities values) (λ n. n < A) atoms
      (all_map (AtomFits c arities v) (λ a. number c arities values a < A) number_below atoms f)

module _ (q : Problem) where
  pub atoms_are : (ground_of q).atoms ≡ atom_count q.constants q.arities
  unfolding ground_of
  atoms_are = refl

  pub atoms_few : Fits q → (ground_of q).atoms ≤ 1024
  atoms_few f = omega (arith, atoms_are, f.atoms_fit)

  -- what `Proper` asks of an instance
  abbrev Bounded : Instance → Type 0
  Bounded i =
      let A = atom_count q.constants q.arities in
      let k = clause_of q i.clause in
      All (λ a. a < A) (ground_atoms q i.values k.conds) × All (λ a. a < A) (ground_atoms q i.values k.alts)

  instances_bounded : (k : ℕ) → ClauseFits q.constants q.arities (clause_of q k) → All Bounded (instances_of q k)
  instances_bounded k fits =
      let c = q.constants in
      let v = (clause_of q k).vars in
      all_mapped (λ values. record { clause = k; values = values }) Bounded (tuples c v)
      (all_map (Tuple c v) (λ values. Bounded (record { clause = k; values = values })) bounds (tuples c v) (tuples_each c v))
    where
      bounds : (values : List ℕ) → Tuple q.constants (clause_of q k).vars values → Bounded (record { clause = k; values = values })
      bounds values t =
          let below = numbers_below q.constants q.arities values (clause_of q k).vars t.0 t.1 in
          (below (clause_of q k).conds fits.conds_fit, below (clause_of q k).alts fits.alts_fit)

  pub ground_proper : Fits q → Proper (ground_of q)
  unfolding ground_of
  ground_proper f =
      let n = length q.clauses in
      all_flat (instances_of q) Bounded (tabulate (λ k. k) n) (All-tabulate (λ k. All Bounded (instances_of q k)) (λ k. k) n each)
    where
      each : (k : ℕ) → k < length q.clauses → All Bounded (instances_of q k)
      each k h = instances_bounded k (all_at (ClauseFits q.constants q.arities) q.clauses no_clause k h f.each_fits)

-- ---- a number below A is that of one predicate and one list of arguments

pub number_apart : (c : ℕ) (arities : List ℕ) (p₁ p₂ : ℕ) (args₁ args₂ : List ℕ)
    → GroundAtom c arities p₁ args₁ → GroundAtom c arities p₂ args₂
    → first_atom c arities p₁ + horner c args₁ ≡ first_atom c arities p₂ + horner c args₂ → (p₁ ≡ p₂) × (args₁ ≡ args₂)
number_apart c [] p₁ p₂ ds es g h e = absurd (omega (arith, g.known))
number_apart c (a ∷ rest) zero zero ds es g h e = (refl, horner_apart c ds es (g.arity ∙ sym h.arity) g.below h.below (omega arith))
number_apart c (a ∷ rest) zero (suc p) ds es g h e =
    let small : horner c ds < c ^ a = subst (λ (w : ℕ). horner c ds < c ^ w) g.arity (horner_below c ds g.below) in
    absurd (omega arith)
number_apart c (a ∷ rest) (suc p) zero ds es g h e =
    let small : horner c es < c ^ a = subst (λ (w : ℕ). horner c es < c ^ w) h.arity (horner_below c es h.below) in
    absurd (omega arith)
number_apart c (a ∷ rest) (suc p₁) (suc p₂) ds es g h e =
    let r : (p₁ ≡ p₂) × (ds ≡ es) =
    number_apart c rest p₁ p₂ ds es
    (record { known = omega (arith, g.known); arity = g.arity; below = g.below })
    (record { known = omega (arith, h.known); arity = h.arity; below = h.below })
    (omega arith) in
    (ap suc r.0, r.1)

pub number_onto : (c : ℕ) (arities : List ℕ) (n : ℕ) → n < atom_count c arities → AtomOf c arities n
number_onto c [] n h = absurd (omega arith)
number_onto c (a ∷ rest) n h = go (decided (ltb n (c ^ a))) (number_onto c rest (n - c ^ a))
  where
    go : T (ltb n (c ^ a)) ⊎ T (not (ltb n (c ^ a))) → (n - c ^ a < atom_count c rest → AtomOf c rest (n - c ^ a)) → AtomOf c (a ∷ rest) n
    go (inl t) found =
        let l : n < c ^ a = ltb→lt n (c ^ a) t in
        record {
          pred = 0;
          args = digits_of c a n;
          atom = record { known = omega arith; arity = digits_length c a n; below = digits_fit c a n l };
          numbered = rw zero-add (horner_digits c a n l);
        }
    go (inr t) found =
        let l : c ^ a ≤ n = nltb→le n (c ^ a) t in
        let r : AtomOf c rest (n - c ^ a) = found (omega arith) in
        record {
          pred = suc r.pred;
          args = r.args;
          atom = record { known = omega (arith, r.atom.known); arity = r.atom.arity; below = r.atom.below };
          numbered = omega (arith, r.numbered);
        }
