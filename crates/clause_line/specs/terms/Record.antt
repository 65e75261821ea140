-- What the functions that read a clause line leave in a clause record or in a part of it. A fault leaves the part's length alone.
use Rattle.std.specs.Prelude.{ℕ, ◌+◌, ◌*◌, ◌≤◌, ◌<◌, List, [], ◌∷◌, ◌++◌, ◌≡◌, length, take, drop, get_or, Ok}
use Rattle.lists.specs.Bytes.{pad}
use Rattle.lists.specs.Digits.{low_bytes}
use Rattle.problem.specs.Problem.{first_atom}
use Rattle.problem.specs.Judge.{Judged, Span, judge_args, judge_atom, judge_atoms, judge_body, judge_clause, atom_at, atoms_at, clause_with, clause_at}
use Rattle.problem.specs.Layout.{slot, slots, clause_record, arities_in}

-- a table has its constants and its predicates, each with the number of its first atom
pub record Indexed (tb : List ℕ) : Type 0 where
  pub size : length tb ≡ 4096
  pub constants_fit : get_or tb 0 0 ≤ 32
  pub predicates_fit : get_or tb 1 0 ≤ 32
  pub firsts : (j : ℕ) → j < get_or tb 1 0 → get_or tb (17 + 4 * j) 0 ∷ get_or tb (18 + 4 * j) 0 ∷ [] ≡ low_bytes 2 (first_atom (get_or tb 0 0) (arities_in tb) j)

pub record ArgsFilled (c : ℕ) (f : List ℕ) (count j v : ℕ) (r : Span) (part : List ℕ) : Type 0 where
  pub span : r ≡ judge_args c f count j v
  pub filled : (i w : ℕ) → r ≡ Ok (i, w) → part ≡ pad 3 (take count (drop j f))
  pub size : length part ≡ 3

module _ (tb f : List ℕ) where
  pub record SlotFilled (j v : ℕ) (r : Span) (part : List ℕ) : Type 0 where
    pub span : r ≡ judge_atom (get_or tb 0 0) (arities_in tb) f j v
    pub filled : (i w : ℕ) → r ≡ Ok (i, w) → part ≡ slot (get_or tb 0 0) (arities_in tb) (atom_at (arities_in tb) f j)
    pub size : length part ≡ 6

  pub record SlotsFilled (count j v : ℕ) (r : Span) (part : List ℕ) : Type 0 where
    pub span : r ≡ judge_atoms (get_or tb 0 0) (arities_in tb) f count j v
    pub filled : (i w : ℕ) → r ≡ Ok (i, w) → part ≡ slots (get_or tb 0 0) (arities_in tb) (atoms_at (arities_in tb) f count j)
    pub size : length part ≡ 24

  pub record BodyFilled (sum conds alts : ℕ) (r : Judged) (rec : List ℕ) : Type 0 where
    pub judged : r ≡ judge_body (get_or tb 0 0) (arities_in tb) sum conds alts f
    pub filled : (v : ℕ) → r ≡ Ok v → rec ≡ clause_record (get_or tb 0 0) (arities_in tb) sum (clause_with (arities_in tb) f conds alts v)
    pub size : length rec ≡ 56

  pub record ClauseFilled (sum : ℕ) (r : Judged) (rec : List ℕ) : Type 0 where
    pub judged : r ≡ judge_clause (get_or tb 0 0) (arities_in tb) sum f
    pub filled : (v : ℕ) → r ≡ Ok v → rec ≡ clause_record (get_or tb 0 0) (arities_in tb) sum (clause_at (arities_in tb) f v)
    pub size : length rec ≡ 56

-- a record with its first eight bytes
abbrev pub record_head : ℕ → ℕ → ℕ → ℕ → ℕ → List ℕ → List ℕ
record_head conds alts v instances before rec = conds ∷ alts ∷ v ∷ 0 ∷ low_bytes 2 instances ++ low_bytes 2 before ++ drop 8 rec
