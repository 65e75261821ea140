-- A shuffled problem is well formed: renumbering keeps what a clause must be, and another order what the clauses must be together.
use Prim.Native.Nat.{ℕ, ◌+◌, ◌≤◌, ◌<◌}
use mathlib.Core.List.{List, [], ◌∷◌, ◌++◌, map, flat_map, map-append}
use mathlib.Core.Logic.{inl, inr}
use mathlib.Core.Path.{◌≡◌, refl, sym, ap, subst, ◌∙◌}
use native.Mathlib.Omega.{arith}
use lib.ListN.{length, length-map}
use borrow.Author.Tests.{lt-ltb, le-ltb}
use Rattle.lists.specs.Member.{All, Any}
use Rattle.lists.proofs.Member.{all_map, all_mapped, All-append, append_right, all_flat}
use Rattle.problem.specs.Problem.{Atom, Clause, Problem, ArgFits, AtomFits, ClauseFits, Fits, VariablesInOrder, arguments_of, weights}
use Rattle.problem.proofs.Variables.{Stands}
use Rattle.shuffling.specs.Shuffled.{argument_by, atom_by, clause_by, OneToOne, Shuffled}
use Rattle.shuffling.proofs.PermutedLaws.{Permuted-length, Permuted-weights, Permuted-All}
use Rattle.shuffling.proofs.RenumberLaws.{constant_by, variable_by}

-- ---- variables, by any function of the constants

module _ (σ : ℕ → ℕ) where
  stands_by : (x : ℕ) (bs : List ℕ) → Stands x bs → Stands x (map (argument_by σ) bs)
  stands_by x [] x'' = elim x'' [ ]
  stands_by x (b ∷ bs) (inl e) = inl (variable_by σ b (omega arith) ∙ e)
  stands_by x (b ∷ bs) (inr s) = inr (stands_by x bs s)

  named_by : (x : ℕ) (atoms : List Atom) → Any (λ a. Stands x a.args) atoms → Any (λ a. Stands x a.args) (map (atom_by σ) atoms)
  named_by x [] x'' = elim x'' [ ]
  named_by x (a ∷ atoms) (inl s) = inl (stands_by x a.args s)
  named_by x (a ∷ atoms) (inr s) = inr (named_by x atoms s)

  arguments_of_lem : (atoms : List Atom) → flat_map (λ a. a.args) (map (atom_by σ) atoms) ≡ map (argument_by σ) (flat_map (λ a. a.args) atoms)
  unfolding flat_map
  arguments_of_lem [] = refl
  arguments_of_lem (a ∷ atoms) = rw (arguments_of_lem atoms) (sym (map-append (argument_by σ) a.args (flat_map (λ x. x.args) atoms)))

  arguments_by : (k : Clause) → arguments_of (clause_by σ k) ≡ map (argument_by σ) (arguments_of k)
  arguments_by k = ap (flat_map (λ a. a.args)) (sym (map-append (atom_by σ) k.conds k.alts)) ∙ arguments_of_lem (k.conds ++ k.alts)

  -- what stands at a place of the renumbered arguments stood there before
  record Before (bs front : List ℕ) (z : ℕ) : Type 0 where
    fore : List ℕ
    argument : ℕ
    rest : List ℕ
    place : bs ≡ fore ++ (argument ∷ rest)
    fore_by : map (argument_by σ) fore ≡ front
    argument_by : argument_by σ argument ≡ z

  later : (b : ℕ) (bs : List ℕ) (y : ℕ) (front : List ℕ) (z : ℕ) → argument_by σ b ≡ y → Before bs front z → Before (b ∷ bs) (y ∷ front) z
  later b bs y front z same r =
      record {
        fore = b ∷ r.fore;
        argument = r.argument;
        rest = r.rest;
        place = ap (λ (l : List ℕ). b ∷ l) r.place;
        fore_by = rw (same, r.fore_by);
        argument_by = r.argument_by;
      }

  before : (bs front : List ℕ) (z : ℕ) (back : List ℕ) → map (argument_by σ) bs ≡ front ++ (z ∷ back) → Before bs front z
  before [] [] z back e = let n : ◌≡◌ {A = ℕ} 0 1 = cc in absurd (omega arith)
  before [] (y ∷ front) z back e = let n : ◌≡◌ {A = ℕ} 0 1 = cc in absurd (omega arith)
  before (b ∷ bs) [] z back e =
      let same : argument_by σ b ≡ z = cc in
      record { fore = []; argument = b; rest = bs; place = refl; fore_by = refl; argument_by = same }
  before (b ∷ bs) (y ∷ front) z back e =
      let same : argument_by σ b ≡ y = cc in
      let on : map (argument_by σ) bs ≡ front ++ (z ∷ back) = cc in
      later b bs y front z same (before bs front z back on)

-- ---- a clause

module _ (c : ℕ) (few : c ≤ 32) (σ : ℕ → ℕ) (one : OneToOne c σ) where
  argument_fits : (v b : ℕ) → ArgFits c v b → ArgFits c v (argument_by σ b)
  argument_fits v b (inl f) =
      let small : b < 128 = omega arith in
      let l : σ b < c = one.below b f.1 in
      rw (lt-ltb b 128 small) (inl (omega arith, l))
  argument_fits v b (inr f) = rw (le-ltb b 128 f.0) (inr f)

  -- a variable was that variable
  was_variable : (v b x : ℕ) → ArgFits c v b → argument_by σ b ≡ 128 + x → b ≡ 128 + x
  was_variable v b x (inl f) e =
      let small : b < 128 = omega arith in
      let l : σ b < c = one.below b f.1 in
      absurd (omega (arith, constant_by σ b small))
  was_variable v b x (inr f) e = sym (variable_by σ b f.0) ∙ e

  in_order_by : (v : ℕ) (bs : List ℕ) → All (ArgFits c v) bs → VariablesInOrder bs → VariablesInOrder (map (argument_by σ) bs)
  in_order_by v bs f o front back x e y l =
      let r = before σ bs front (128 + x) back e in
      let fit : ArgFits c v r.argument = (append_right (ArgFits c v) r.fore (r.argument ∷ r.rest) (subst (λ (l : List ℕ). All (ArgFits c v) l) r.place f)).0 in
      let was : r.argument ≡ 128 + x = was_variable v r.argument x fit r.argument_by in
      let stood : Stands y r.fore = o r.fore r.rest x (r.place ∙ ap (λ (b : ℕ). r.fore ++ (b ∷ r.rest)) was) y l in
      subst (λ (l : List ℕ). Stands y l) r.fore_by (stands_by σ y r.fore stood)

  pub atom_fits : (arities : List ℕ) (v : ℕ) (a : Atom) → AtomFits c arities v a → AtomFits c arities v (atom_by σ a)
  atom_fits arities v a f =
      record {
        known = f.known;
        arity = length-map a.args (argument_by σ) ∙ f.arity;
        args_fit = all_mapped (argument_by σ) (ArgFits c v) a.args (all_map (ArgFits c v) (λ b. ArgFits c v (argument_by σ b)) (argument_fits v) a.args f.args_fit);
      }

  module _ (arities : List ℕ) (k : Clause) (f : ClauseFits c arities k) where
    atoms_fit : (atoms : List Atom) → All (AtomFits c arities k.vars) atoms → All (AtomFits c arities k.vars) (map (atom_by σ) atoms)
    atoms_fit atoms a =
        all_mapped (atom_by σ) (AtomFits c arities k.vars) atoms
        (all_map (AtomFits c arities k.vars) (λ a. AtomFits c arities k.vars (atom_by σ a)) (atom_fits arities k.vars) atoms a)

    arguments_fit : All (ArgFits c k.vars) (arguments_of k)
    arguments_fit =
        all_flat (λ a. a.args) (ArgFits c k.vars) (k.conds ++ k.alts)
        (all_map (AtomFits c arities k.vars) (λ a. All (ArgFits c k.vars) a.args) (λ a h. h.args_fit) (k.conds ++ k.alts)
        (All-append (AtomFits c arities k.vars) k.conds k.alts f.conds_fit f.alts_fit))

    pub clause_fits : ClauseFits c arities (clause_by σ k)
    clause_fits =
        record {
          few_vars = f.few_vars;
          few_conds = omega (arith, f.few_conds, length-map k.conds (atom_by σ));
          few_alts = omega (arith, f.few_alts, length-map k.alts (atom_by σ));
          conds_fit = atoms_fit k.conds f.conds_fit;
          alts_fit = atoms_fit k.alts f.alts_fit;
          named = λ x l. named_by σ x k.conds (f.named x l);
          in_order = subst VariablesInOrder (sym (arguments_by σ k)) (in_order_by k.vars (arguments_of k) arguments_fit f.in_order);
        }

  pub clauses_fit : (arities : List ℕ) (ks : List Clause) → All (ClauseFits c arities) ks → All (ClauseFits c arities) (map (clause_by σ) ks)
  clauses_fit arities ks f =
      all_mapped (clause_by σ) (ClauseFits c arities) ks (all_map (ClauseFits c arities) (λ k. ClauseFits c arities (clause_by σ k)) (clause_fits arities) ks f)

-- ---- the problem

weights_by : (c : ℕ) (σ : ℕ → ℕ) (ks : List Clause) → weights c (map (clause_by σ) ks) ≡ weights c ks
weights_by c σ [] = refl
weights_by c σ (k ∷ ks) = rw (length-map k.conds (atom_by σ), weights_by c σ ks)

module _ (q r : Problem) (s : Shuffled q r) where
  abbrev moved : List Clause
  moved = map (clause_by s.renumbering) q.clauses

  -- its clauses are, whatever its limit
  pub each_fits : q.constants ≤ 32 → All (ClauseFits q.constants q.arities) q.clauses → All (ClauseFits r.constants r.arities) r.clauses
  each_fits few f =
      rw (s.constants_same, s.arities_same)
      (Permuted-All (ClauseFits q.constants q.arities) moved r.clauses s.clauses_permuted
      (clauses_fit q.constants few s.renumbering s.one_to_one q.arities q.clauses f))

  pub shuffled_fits : Fits q → length r.limit ≡ 4 → All (λ b. b < 256) r.limit → Fits r
  shuffled_fits f four bytes =
      record {
        constants_fit = rw s.constants_same f.constants_fit;
        limit_four = four;
        limit_bytes = bytes;
        some_predicate = rw s.arities_same f.some_predicate;
        predicates_fit = rw s.arities_same f.predicates_fit;
        arities_fit = rw s.arities_same f.arities_fit;
        atoms_fit = rw (s.constants_same, s.arities_same) f.atoms_fit;
        clauses_fit = omega (arith, f.clauses_fit, Permuted-length moved r.clauses s.clauses_permuted, length-map q.clauses (clause_by s.renumbering));
        each_fits = each_fits f.constants_fit f.each_fits;
        weights_fit = rw (s.constants_same, ← Permuted-weights q.constants moved r.clauses s.clauses_permuted, weights_by) f.weights_fit;
      }
