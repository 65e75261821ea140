-- A model of the whole is one of each part, and models of the parts join.
use Prim.Native.Nat.{ℕ, ◌+◌, ◌<◌}
use mathlib.Core.List.{List, [], ◌∷◌, ◌++◌, map}
use mathlib.Core.Logic.{◌⊎◌, inl, inr}
use mathlib.Core.Path.{◌≡◌, refl, sym, ap, subst, ◌∙◌}
use native.Mathlib.Omega.{arith}
use lib.Dec.{T, eqb→eq}
use lib.ListN.{length, length-map}
use Rattle.lists.specs.Key.{nat_key}
use Rattle.lists.specs.Member.{All}
use Rattle.lists.proofs.Bytes.{all_at}
use Rattle.lists.proofs.Digits.{Tuple}
use Rattle.lists.proofs.Member.{all_map, all_zip, all_mapped, mapped_all, append_left, append_right, all_in}
use Rattle.search.specs.Ground.{Model}
use Rattle.problem.specs.Problem.{Atom, Clause, Problem, AtomFits, ClauseFits, Fits}
use Rattle.problem.specs.Extended.{with_clauses}
use Rattle.ground.specs.Instance.{GroundAtom, value_of, number, no_clause, clause_of, ground_of}
use Rattle.ground.proofs.ClauseLaws.{all_places, ClauseKept, Model-clauses, clauses-Model}
use Rattle.ground.proofs.Instances.{values_below}
use Rattle.parting.specs.Parts.{predicates_of, family, touches, part_of, is_lowest, is_bare, parts_of}
use Rattle.parting.specs.Runs.{predicate_at}
use Rattle.parting.specs.Claims.{Has, Within, ModelsJoin}
use Rattle.parting.proofs.FamilyLaws.{touched, family_step, part_same}
use Rattle.parting.proofs.MarkLaws.{predicate_is}
use Rattle.parting.proofs.ClaimOnlyLaws.{only-All, All-only}
use Rattle.parting.proofs.ClaimEachLaws.{parts_each, bare_part, named_part}
use Rattle.parting.proofs.ClaimPlaceLaws.{placed}
use Rattle.parting.proofs.ClaimKeptLaws.{Agree, Agreed, kept_same}

-- ---- a model of the whole

module _ (q : Problem) where
  part_clauses : (M : ℕ → Type 0) → All (ClauseKept q.constants q.arities M) q.clauses → (p : ℕ) → Model (ground_of (part_of q p)) M
  unfolding part_of
  part_clauses M a p =
      clauses-Model (part_of q p) M (only-All (λ k. touches (family q p) (predicates_of k)) (ClauseKept q.constants q.arities M) q.clauses a)

  pub apart : (M : ℕ → Type 0) → Model (ground_of q) M → All (λ p. Model (ground_of p) M) (parts_of q)
  apart M m =
      let a = Model-clauses q M m in
      parts_each q (λ p. Model (ground_of p) M)
      (all_map (ClauseKept q.constants q.arities M) (λ k. Model (ground_of (with_clauses q (k ∷ []))) M) (λ k h. clauses-Model (with_clauses q (k ∷ [])) M (h, tt)) q.clauses a)
      (part_clauses M a)

-- ---- models of the parts

-- a clause that is bare has no conditions and no alternatives
none_of : (atoms : List Atom) → length atoms ≡ 0 → [] ≡ atoms
none_of [] e = refl
none_of (a ∷ atoms) e = absurd (omega arith)

module _ (q : Problem) (f : Fits q) (M : Problem → ℕ → Type 0) where
  -- an atom is in the set of the part that its predicate belongs to
  abbrev Joint : ℕ → Type 0
  Joint a = M (part_of q (predicate_at q a)) a

  module _ (i : ℕ) (h : i < length q.clauses) where
    abbrev k : Clause
    k = clause_of q i

    fit : ClauseFits q.constants q.arities (clause_of q i)
    fit = all_at (ClauseFits q.constants q.arities) q.clauses no_clause i h f.each_fits

    -- where it has no atoms
    bare_kept : T (is_bare (clause_of q i)) → Model (ground_of (with_clauses q (clause_of q i ∷ []))) (M (with_clauses q (clause_of q i ∷ []))) → ClauseKept q.constants q.arities Joint (clause_of q i)
    bare_kept b m =
        let own : ℕ → Type 0 = M (with_clauses q (k ∷ [])) in
        let none : length k.conds + length k.alts ≡ 0 = eqb→eq (length k.conds + length k.alts) 0 b in
        kept_same q.constants q.arities own Joint k
        (λ values t. subst (λ (l : List Atom). All (Agree own Joint) (map (number q.constants q.arities values) l)) (none_of k.conds (omega (arith, none))) tt)
        (λ values t. subst (λ (l : List Atom). All (Agree own Joint) (map (number q.constants q.arities values) l)) (none_of k.alts (omega (arith, none))) tt)
        (Model-clauses (with_clauses q (k ∷ [])) own m).0

    -- where it is of the part that p names
    module _ (p : ℕ) (within : Within q p i) where
      own_part : (a : Atom) → Has q i a.pred → part_of q p ≡ part_of q a.pred
      own_part a has =
          let s = touched (family q p) (predicates_of (clause_of q i)) within in
          part_same q p a.pred (family_step q p i s.0 a.pred s.1.0 has s.1.1)

      atom_agrees : (values : List ℕ) → Tuple q.constants (clause_of q i).vars values → (a : Atom) → AtomFits q.constants q.arities (clause_of q i).vars a → Has q i a.pred
          → Agree (M (part_of q p)) Joint (number q.constants q.arities values a)
      atom_agrees values t a fits has =
          let n : ℕ = number q.constants q.arities values a in
          let ground : GroundAtom q.constants q.arities a.pred (map (value_of values) a.args) =
          record {
            known = fits.known;
            arity = length-map a.args (value_of values) ∙ fits.arity;
            below = values_below q.constants q.arities values k.vars t.0 t.1 a.args fits.args_fit;
          } in
          let same : part_of q p ≡ part_of q (predicate_at q n) = own_part a has ∙ sym (ap (part_of q) (predicate_is q a.pred (map (value_of values) a.args) ground)) in
          (subst (λ (x : Problem). M x n) same, subst (λ (x : Problem). M x n) (sym same))

      all_agree : (atoms : List Atom) → All (AtomFits q.constants q.arities (clause_of q i).vars) atoms → All (λ a. Has q i a.pred) atoms
          → Agreed q.constants q.arities (M (part_of q p)) Joint (clause_of q i) atoms
      all_agree atoms fits has values t =
          all_mapped (number q.constants q.arities values) (Agree (M (part_of q p)) Joint) atoms
          (all_zip (AtomFits q.constants q.arities k.vars) (λ a. Has q i a.pred) (λ a. Agree (M (part_of q p)) Joint (number q.constants q.arities values a))
          (atom_agrees values t) atoms fits has)

      own_kept : Model (ground_of (part_of q p)) (M (part_of q p)) → ClauseKept q.constants q.arities (M (part_of q p)) (clause_of q i)
      unfolding part_of
      own_kept m =
          let own : ℕ → Type 0 = M (part_of q p) in
          all_at (λ (x : Clause). T (touches (family q p) (predicates_of x)) → ClauseKept q.constants q.arities own x) q.clauses no_clause i h
          (All-only (λ x. touches (family q p) (predicates_of x)) (ClauseKept q.constants q.arities own) q.clauses (Model-clauses (part_of q p) own m)) within

      part_kept : Model (ground_of (part_of q p)) (M (part_of q p)) → ClauseKept q.constants q.arities Joint (clause_of q i)
      part_kept m =
          let has : All (λ (a : Atom). Has q i a.pred) (k.conds ++ k.alts) = mapped_all (λ (a : Atom). a.pred) (Has q i) (k.conds ++ k.alts) (all_in nat_key (predicates_of k)) in
          kept_same q.constants q.arities (M (part_of q p)) Joint k
          (all_agree k.conds fit.conds_fit (append_left (λ (a : Atom). Has q i a.pred) k.conds k.alts has))
          (all_agree k.alts fit.alts_fit (append_right (λ (a : Atom). Has q i a.pred) k.conds k.alts has))
          (own_kept m)

  pub joined : All (λ p. Model (ground_of p) (M p)) (parts_of q) → Model (ground_of q) (λ a. M (part_of q (predicate_at q a)) a)
  joined all = clauses-Model q Joint (all_places (ClauseKept q.constants q.arities Joint) no_clause q.clauses (λ i h. go i h (placed q f i h)))
    where
      go : (i : ℕ) → i < length q.clauses → T (is_bare (clause_of q i)) ⊎ ((p : ℕ) × ((p < length q.arities) × T (is_lowest q p) × Within q p i))
          → ClauseKept q.constants q.arities Joint (clause_of q i)
      go i h (inl b) = bare_kept i h b (bare_part q (λ p. Model (ground_of p) (M p)) all i h b)
      go i h (inr s) = part_kept i h s.0 s.1.2 (named_part q (λ p. Model (ground_of p) (M p)) all s.0 s.1.0 s.1.1)

pub models_join : (q : Problem) → Fits q → ModelsJoin q
models_join q f = record { apart = apart q; joined = joined q f }
