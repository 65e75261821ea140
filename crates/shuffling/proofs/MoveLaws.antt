-- A model moves with the constants: where they are renumbered, each atom of it is taken with its constants renumbered.
use Prim.Native.Nat.{ℕ, zero, suc, ◌-◌, ◌≤◌, ◌<◌}
use mathlib.Core.List.{List, [], ◌∷◌, map, map-map}
use mathlib.Core.Logic.{inl, inr, ◌↔◌, ∥∥₁_map}
use mathlib.Core.Path.{◌≡◌, refl, sym, ap, ap₂, subst, ◌∙◌}
use native.Mathlib.Omega.{arith}
use lib.ListN.{length, get_or, length-map}
use borrow.Author.Tests.{lt-ltb, le-ltb}
use Rattle.lists.specs.Digits.{tuples}
use Rattle.lists.specs.Member.{All, Any}
use Rattle.lists.proofs.Digits.{Tuple, tuples_each, tuples-Any}
use Rattle.lists.proofs.Member.{all_map, all_mapped, mapped_all, all_zip, any_mapped, any_zip, member_has}
use Rattle.problem.specs.Problem.{Atom, Clause, Problem, ArgFits, AtomFits, ClauseFits, Fits}
use Rattle.ground.specs.Instance.{GroundAtom, AtomOf, value_of, number, ground_number}
use Rattle.ground.proofs.AtomLaws.{map_same}
use Rattle.ground.proofs.ClauseLaws.{Kept, ClauseKept, Model-clauses, clauses-Model}
use Rattle.ground.proofs.Instances.{values_below, number_apart}
use Rattle.shuffling.specs.Shuffled.{argument_by, atom_by, clause_by, OneToOne, Shuffled}
use Rattle.shuffling.specs.Claims.{HasModel}
use Rattle.shuffling.proofs.PermutedLaws.{Permuted-All}
use Rattle.shuffling.proofs.RenumberLaws.{constant_by, variable_by}
use Rattle.shuffling.proofs.OneToOneLaws.{back, back_below, there_back}
use Rattle.shuffling.proofs.FitLaws.{atom_fits, each_fits}
use Rattle.shuffling.proofs.ShuffledLaws.{back_again}

get_d_mapped : (f : ℕ → ℕ) (xs : List ℕ) (i : ℕ) → i < length xs → get_or (map f xs) i 0 ≡ f (get_or xs i 0)
get_d_mapped f [] i h = absurd (omega arith)
get_d_mapped f (x ∷ xs) zero h = refl
get_d_mapped f (x ∷ xs) (suc i) h = get_d_mapped f xs i (omega arith)

mapped_any : {A B : Type 0} (f : A → B) (P : B → Type 0) (xs : List A) → Any P (map f xs) → Any (λ x. P (f x)) xs
mapped_any {A = A} {B = B} f P [] x' = elim x' [ ]
mapped_any f P (x ∷ xs) (inl p) = inl p
mapped_any f P (x ∷ xs) (inr p) = inr (mapped_any f P xs p)

module _ (c : ℕ) (few : c ≤ 32) (arities : List ℕ) (σ : ℕ → ℕ) (one : OneToOne c σ) (M : ℕ → Type 0) where
  abbrev τ : ℕ → ℕ
  τ = back c σ one

  -- the atoms that, with their constants as they were, are in M
  abbrev pub Moved : ℕ → Type 0
  Moved n = (a : AtomOf c arities n) × M (ground_number c arities a.pred (map τ a.args))

  -- ---- an instance of a renumbered clause, and the instance that it was

  module _ (v : ℕ) (values : List ℕ) (t : Tuple c v values) where
    abbrev were : List ℕ
    were = map τ values

    value_was : (b : ℕ) → ArgFits c v b → τ (value_of values (argument_by σ b)) ≡ value_of were b
    value_was b (inl f) =
        let small : b < 128 = omega arith in
        let still : σ b < 128 = omega (arith, one.below b f.1) in
        ap (λ (x : ℕ). τ (value_of values x)) (constant_by σ b small) ∙ rw (lt-ltb (σ b) 128 still, lt-ltb b 128 small) (there_back c σ one b f.1)
    value_was b (inr f) =
        let place : b - 128 < length values = omega (arith, t.0) in
        ap (λ (x : ℕ). τ (value_of values x)) (variable_by σ b f.0) ∙ rw (le-ltb b 128 f.0) (sym (get_d_mapped τ values (b - 128) place))

    module _ (a : Atom) (f : AtomFits c arities v a) where
      abbrev args : List ℕ
      args = map (value_of values) (map (argument_by σ) a.args)

      args-were : map τ args ≡ map (value_of were) a.args
      args-were =
          map-map τ (value_of values) (map (argument_by σ) a.args)
          ∙ map-map (λ x. τ (value_of values x)) (argument_by σ) a.args
          ∙ map_same (λ b. τ (value_of values (argument_by σ b))) (value_of were) a.args
          (all_map (ArgFits c v) (λ b. τ (value_of values (argument_by σ b)) ≡ value_of were b) value_was a.args f.args_fit)

      atom_now : GroundAtom c arities a.pred args
      atom_now =
          let now = atom_fits c few σ one arities v a f in
          record {
            known = f.known;
            arity = length-map (map (argument_by σ) a.args) (value_of values) ∙ now.arity;
            below = values_below c arities values v t.0 t.1 (map (argument_by σ) a.args) now.args_fit;
          }

      moved_to : M (number c arities were a) → Moved (number c arities values (atom_by σ a))
      moved_to m = (
        record { pred = a.pred; args = args; atom = atom_now; numbered = refl },
        subst (λ (ds : List ℕ). M (ground_number c arities a.pred ds)) (sym args-were) m,
      )

      moved_from : Moved (number c arities values (atom_by σ a)) → M (number c arities were a)
      moved_from (x, m) =
          let same = number_apart c arities x.pred a.pred x.args args x.atom atom_now x.numbered in
          subst M (ap₂ (λ (p : ℕ) (ds : List ℕ). ground_number c arities p (map τ ds)) same.0 same.1 ∙ ap (ground_number c arities a.pred) args-were) m

    Kept-Moved : (k : Clause) → All (AtomFits c arities v) k.conds → All (AtomFits c arities v) k.alts
        → Kept c arities M k were → Kept c arities Moved (clause_by σ k) values
    Kept-Moved k f g kept h = ∥∥₁_map (kept conds) alts
      where
        conds : All M (map (number c arities were) k.conds)
        conds =
            let held = mapped_all (atom_by σ) (λ a. Moved (number c arities values a)) k.conds (mapped_all (number c arities values) Moved (map (atom_by σ) k.conds) h) in
            all_mapped (number c arities were) M k.conds
            (all_zip (λ a. Moved (number c arities values (atom_by σ a))) (AtomFits c arities v) (λ a. M (number c arities were a)) (λ a m fit. moved_from a fit m) k.conds held f)

        alts : Any M (map (number c arities were) k.alts) → Any Moved (map (number c arities values) (map (atom_by σ) k.alts))
        alts m =
            any_mapped (number c arities values) Moved (map (atom_by σ) k.alts)
            (any_mapped (atom_by σ) (λ a. Moved (number c arities values a)) k.alts
            (any_zip (λ a. M (number c arities were a)) (AtomFits c arities v) (λ a. Moved (number c arities values (atom_by σ a))) (λ a m fit. moved_to a fit m) k.alts
            (mapped_any (number c arities were) M k.alts m) g))

  -- ---- all instances of a clause

  Clause-Moved : (k : Clause) → ClauseFits c arities k → ClauseKept c arities M k → ClauseKept c arities Moved (clause_by σ k)
  Clause-Moved k f kept = all_map (Tuple c k.vars) (Kept c arities Moved (clause_by σ k)) each (tuples c k.vars) (tuples_each c k.vars)
    where
      each : (values : List ℕ) → Tuple c k.vars values → Kept c arities Moved (clause_by σ k) values
      each values t =
          let tuple : Tuple c k.vars (map τ values) =
          (length-map values τ ∙ t.0, all_mapped τ (λ d. d < c) values (all_map (λ d. d < c) (λ d. τ d < c) (back_below c σ one) values t.1)) in
          let there = tuples-Any c k.vars (λ ds. ds ≡ map τ values) (map τ values) tuple refl in
          Kept-Moved k.vars values t k f.conds_fit f.alts_fit (member_has (Kept c arities M k) (tuples c k.vars) (map τ values) kept there)

-- a model of a problem is one of the problem shuffled, once it is moved
pub model_moves : (q r : Problem) → q.constants ≤ 32 → All (ClauseFits q.constants q.arities) q.clauses → Shuffled q r → HasModel q → HasModel r
model_moves q r few fits s (M, m) = (N, clauses-Model r N moved)
  where
    N : ℕ → Type 0
    N = Moved q.constants few q.arities s.renumbering s.one_to_one M

    moved : All (ClauseKept r.constants r.arities N) r.clauses
    moved =
        let P = ClauseKept q.constants q.arities N in
        let by = clause_by s.renumbering in
        rw (s.constants_same, s.arities_same)
        (Permuted-All P (map by q.clauses) r.clauses s.clauses_permuted
        (all_mapped by P q.clauses
        (all_zip (ClauseFits q.constants q.arities) (ClauseKept q.constants q.arities M) (λ k. P (by k))
        (Clause-Moved q.constants few q.arities s.renumbering s.one_to_one M) q.clauses fits (Model-clauses q M m))))

-- and back
pub models_move : (q r : Problem) → Fits q → Shuffled q r → HasModel q ↔ HasModel r
models_move q r f s = (
  model_moves q r f.constants_fit f.each_fits s,
  model_moves r q (rw s.constants_same f.constants_fit) (each_fits q r s f.constants_fit f.each_fits) (back_again q r f.constants_fit f.each_fits s),
)
