-- What a call with assumptions is refused for: the steps of looking through the facts, and the refusals beside a valid table.
use Prim.Native.Nat.{ℕ, suc, ◌+◌, ◌-◌, ◌*◌, ◌≤◌, ◌<◌}
use mathlib.Core.Bool.{Bool, true, false, cond, not, ◌&&◌}
use mathlib.Core.List.{List, ◌∷◌}
use mathlib.Core.Path.{◌≡◌, sym, ap, ◌∙◌}
use native.Mathlib.Numerals.{add-one}
use native.Mathlib.Omega.{arith}
use borrow.Author.Tests.{lt-ltb, le-ltb, eq-eqb, ne_eqb, le-leb, lt-leb}
use lib.Dec.{ltb}
use lib.ListN.{length, take, drop, get_or}
use lib.Seq.{drop-cons, drop-length}
use Rattle.lists.specs.Key.{nat_key}
use Rattle.lists.specs.Member.{has}
use Rattle.problem.specs.Problem.{atom_count}
use Rattle.problem.specs.Layout.{problem_in}
use Rattle.problem.specs.Table.{Lawful}
use Rattle.problem.proofs.Access.{atoms_in}
use Rattle.problem.proofs.Theorems.{valid_table}
use Rattle.writing.specs.terms.Lent.{refusal_of}
use Rattle.writing.proofs.LentLaws.{Taken, taken}
use Rattle.adding.proofs.AppendLaws.{clause_count, few_clauses}
use Rattle.assuming.specs.Assume.{are_atoms, facts_refusal}
use Rattle.assuming.specs.terms.Made.{call_refusal}

-- ---- looking through the facts

module _ (facts : List ℕ) (a j : ℕ) where
  -- a later fact is another one, or this one
  pub later_other : j < length facts → (get_or facts j 0 ≡ a → ⊥) → has nat_key (drop j facts) a ≡ has nat_key (drop (j + 1) facts) a
  later_other l ne = rw (drop-cons facts j 0, ne_eqb (get_or facts j 0) a ne, add-one)

  pub later_same : j < length facts → get_or facts j 0 ≡ a → has nat_key (drop j facts) a ≡ true
  later_same l e = rw (drop-cons facts j 0, eq-eqb (get_or facts j 0) a e)

  pub later_none : j ≡ length facts → has nat_key (drop j facts) a ≡ false
  later_none e = rw (e, drop-length)

-- fact i is the number of an atom, and none of the later ones
abbrev pub is_fresh : ℕ → List ℕ → ℕ → Bool
is_fresh n facts i = ltb (get_or facts i 0) n && not (has nat_key (drop (i + 1) facts) (get_or facts i 0))

module _ (n : ℕ) (facts : List ℕ) (i : ℕ) where
  pub none_fresh : n ≤ get_or facts i 0 → false ≡ is_fresh n facts i
  none_fresh l = rw (le-ltb (get_or facts i 0) n l)

  pub fresh_by : get_or facts i 0 < n → (b : Bool) → has nat_key (drop (i + 1) facts) (get_or facts i 0) ≡ b → not b ≡ is_fresh n facts i
  fresh_by l b e = rw (lt-ltb (get_or facts i 0) n l, e)

  atoms_by : i < length facts → (b : Bool) → is_fresh n facts i ≡ b → are_atoms n (drop i facts) ≡ (b && are_atoms n (drop (i + 1) facts))
  atoms_by l b e = ap (are_atoms n) (drop-cons facts i 0 l) ∙ go (suc i) (sym (add-one i))
    where
      go : (k : ℕ) → k ≡ i + 1 → are_atoms n (get_or facts i 0 ∷ drop k facts) ≡ (b && are_atoms n (drop (i + 1) facts))
      go k same = rw (same, e)

  pub atoms_more : i < length facts → is_fresh n facts i ≡ true → are_atoms n (drop i facts) ≡ are_atoms n (drop (i + 1) facts)
  atoms_more l e = atoms_by l true e

  pub atoms_stop : i < length facts → is_fresh n facts i ≡ false → are_atoms n (drop i facts) ≡ false
  atoms_stop l e = atoms_by l false e

  pub atoms_end : i ≡ length facts → are_atoms n (drop i facts) ≡ true
  atoms_end e = rw (e, drop-length)

-- ---- the refusals beside a valid table

module _ (tb : List ℕ) (h : Lawful tb) where
  abbrev pub atoms_of : ℕ
  atoms_of = atom_count (problem_in tb).constants (problem_in tb).arities

  pub atoms_told : get_or tb 8 0 + 256 * get_or tb 9 0 ≡ atoms_of
  atoms_told = ap (λ (t : List ℕ). get_or t 8 0 + 256 * get_or t 9 0) (sym h.laid) ∙ atoms_in (problem_in tb) h.fits

  module _ (facts : List ℕ) where
    pub refusal_5 : 64 - get_or tb 2 0 < length facts → 5 ≡ facts_refusal (problem_in tb) facts
    unfolding facts_refusal
    refusal_5 l =
        let many : 64 < length (problem_in tb).clauses + length facts = omega (arith, clause_count tb h, few_clauses tb h) in
        rw (lt-ltb 64 (length (problem_in tb).clauses + length facts) many)

    module _ (room : length facts ≤ 64 - get_or tb 2 0) where
      roomy : length (problem_in tb).clauses + length facts ≤ 64
      roomy = omega (arith, clause_count tb h, few_clauses tb h)

      pub refusal_many : 16 < length facts → 45 ≡ facts_refusal (problem_in tb) facts
      unfolding facts_refusal
      refusal_many l = rw (le-ltb 64 (length (problem_in tb).clauses + length facts) roomy, lt-leb (length facts) 16 l)

      pub refusal_by : length facts ≤ 16 → (n : ℕ) → n ≡ atoms_of → (b : Bool) → b ≡ are_atoms n facts → cond b 0 45 ≡ facts_refusal (problem_in tb) facts
      unfolding facts_refusal
      refusal_by l n e b t = rw (le-ltb 64 (length (problem_in tb).clauses + length facts) roomy, le-leb (length facts) 16 l, ← e, ← t)

-- ---- a call

module _ (tb facts : List ℕ) (short : Bool) (n : ℕ) (refusal : n ≡ refusal_of tb short) where
  pub refused_lent : 0 < n → n ≡ call_refusal tb facts short
  unfolding call_refusal
  refused_lent l = refusal ∙ rw (lt-ltb 0 (refusal_of tb short) (rw refusal at l))

  module _ (none : n ≤ 0) where
    lent_none : refusal_of tb short ≡ 0
    lent_none = sym refusal ∙ omega arith

    pub lent_taken : Taken tb short
    lent_taken = taken tb short lent_none

    pub own_lawful : Lawful (take 4096 tb)
    own_lawful = valid_table (take 4096 tb) lent_taken.valid

    pub refused_facts : facts_refusal (problem_in (take 4096 tb)) facts ≡ call_refusal tb facts short
    unfolding call_refusal
    refused_facts = rw lent_none
