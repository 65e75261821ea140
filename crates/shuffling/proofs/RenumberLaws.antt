-- Laws of renumbered clauses: constants and variables by themselves, where every constant keeps its number, and by two renumberings, one after the other.
use Prim.Native.Nat.{ℕ, ◌≤◌, ◌<◌}
use mathlib.Core.Bool.{Bool, true, false, cond}
use mathlib.Core.List.{List, map, map-map, map-id}
use mathlib.Core.Logic.{inl, inr}
use mathlib.Core.Path.{◌≡◌, refl, sym, ap, ◌∙◌}
use native.Mathlib.Omega.{arith}
use lib.Dec.{ltb}
use borrow.Author.Tests.{lt-ltb, le-ltb}
use Rattle.lists.specs.Member.{All}
use Rattle.lists.proofs.Member.{all_map, all_of}
use Rattle.problem.specs.Problem.{Atom, Clause, ArgFits, AtomFits, ClauseFits}
use Rattle.ground.proofs.AtomLaws.{map_same}
use Rattle.shuffling.specs.Shuffled.{argument_by, atom_by, clause_by}

-- ---- an argument

module _ (σ : ℕ → ℕ) (b : ℕ) where
  pub constant_by : b < 128 → argument_by σ b ≡ σ b
  constant_by h = rw (lt-ltb b 128 h)

  pub variable_by : 128 ≤ b → argument_by σ b ≡ b
  variable_by h = rw (le-ltb b 128 h)

-- ---- every constant keeps its number

argument_self : (b : ℕ) → argument_by (λ d. d) b ≡ b
argument_self b = go (ltb b 128)
  where
    go : (t : Bool) → cond t b b ≡ b
    go true = refl
    go false = refl

atom_self : (a : Atom) → atom_by (λ d. d) a ≡ a
atom_self a =
    let same : map (argument_by (λ d. d)) a.args ≡ a.args =
    map_same (argument_by (λ d. d)) (λ b. b) a.args (all_of (λ b. argument_by (λ d. d) b ≡ b) argument_self a.args) ∙ map-id a.args in
    λ i. record { pred = a.pred; args = same i }

atoms_self : (atoms : List Atom) → map (atom_by (λ d. d)) atoms ≡ atoms
atoms_self atoms = map_same (atom_by (λ d. d)) (λ a. a) atoms (all_of (λ a. atom_by (λ d. d) a ≡ a) atom_self atoms) ∙ map-id atoms

clause_self : (k : Clause) → clause_by (λ d. d) k ≡ k
clause_self k = λ i. record { vars = k.vars; conds = atoms_self k.conds i; alts = atoms_self k.alts i }

pub clauses_self : (ks : List Clause) → map (clause_by (λ d. d)) ks ≡ ks
clauses_self ks = map_same (clause_by (λ d. d)) (λ k. k) ks (all_of (λ k. clause_by (λ d. d) k ≡ k) clause_self ks) ∙ map-id ks

-- ---- one renumbering after the other

module _ (c : ℕ) (few : c ≤ 32) (σ τ ρ : ℕ → ℕ) (below : (d : ℕ) → d < c → σ d < c) (meets : (d : ℕ) → d < c → τ (σ d) ≡ ρ d) where
  argument_twice : (v b : ℕ) → ArgFits c v b → argument_by τ (argument_by σ b) ≡ argument_by ρ b
  argument_twice v b (inl f) =
      let small : b < 128 = omega arith in
      let still : σ b < 128 = omega (arith, below b f.1) in
      ap (argument_by τ) (constant_by σ b small) ∙ constant_by τ (σ b) still ∙ meets b f.1 ∙ sym (constant_by ρ b small)
  argument_twice v b (inr f) = ap (argument_by τ) (variable_by σ b f.0) ∙ variable_by τ b f.0 ∙ sym (variable_by ρ b f.0)

  atom_twice : (arities : List ℕ) (v : ℕ) (a : Atom) → AtomFits c arities v a → atom_by τ (atom_by σ a) ≡ atom_by ρ a
  atom_twice arities v a f =
      let same : map (argument_by τ) (map (argument_by σ) a.args) ≡ map (argument_by ρ) a.args =
      map-map (argument_by τ) (argument_by σ) a.args
      ∙ map_same (λ b. argument_by τ (argument_by σ b)) (argument_by ρ) a.args
      (all_map (ArgFits c v) (λ b. argument_by τ (argument_by σ b) ≡ argument_by ρ b) (argument_twice v) a.args f.args_fit) in
      λ i. record { pred = a.pred; args = same i }

  atoms_twice : (arities : List ℕ) (v : ℕ) (atoms : List Atom) → All (AtomFits c arities v) atoms → map (atom_by τ) (map (atom_by σ) atoms) ≡ map (atom_by ρ) atoms
  atoms_twice arities v atoms f =
      map-map (atom_by τ) (atom_by σ) atoms
      ∙ map_same (λ a. atom_by τ (atom_by σ a)) (atom_by ρ) atoms
      (all_map (AtomFits c arities v) (λ a. atom_by τ (atom_by σ a) ≡ atom_by ρ a) (atom_twice arities v) atoms f)

  clause_twice : (arities : List ℕ) (k : Clause) → ClauseFits c arities k → clause_by τ (clause_by σ k) ≡ clause_by ρ k
  clause_twice arities k f =
      let conds = atoms_twice arities k.vars k.conds f.conds_fit in
      let alts = atoms_twice arities k.vars k.alts f.alts_fit in
      λ i. record { vars = k.vars; conds = conds i; alts = alts i }

  pub clauses_twice : (arities : List ℕ) (ks : List Clause) → All (ClauseFits c arities) ks → map (clause_by τ) (map (clause_by σ) ks) ≡ map (clause_by ρ) ks
  clauses_twice arities ks f =
      map-map (clause_by τ) (clause_by σ) ks
      ∙ map_same (λ k. clause_by τ (clause_by σ k)) (clause_by ρ) ks
      (all_map (ClauseFits c arities) (λ k. clause_by τ (clause_by σ k) ≡ clause_by ρ k) (clause_twice arities) ks f)
