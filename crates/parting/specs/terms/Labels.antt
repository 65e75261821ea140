-- The labels by which the parts are found: in the end, of each predicate the lowest of its family. Label 32 is that of no predicate.
use Rattle.std.specs.Prelude.{ℕ, zero, suc, ◌+◌, ◌*◌, min, max, cond, List, map, eqb, ltb, get_or}
use Rattle.lists.specs.Tabulate.{tabulate}

-- one label for another
abbrev pub renamed : ℕ → ℕ → ℕ → ℕ
renamed from to x = cond (eqb x from) to x

-- the labels of two predicates made one, the lesser
abbrev pub merged : ℕ → ℕ → List ℕ → List ℕ
merged p r ls = map (renamed (max (get_or ls p 0) (get_or ls r 0)) (min (get_or ls p 0) (get_or ls r 0))) ls

-- those of p and of the predicates in the first n slots from a place of the table on
unfoldable pub merged_slots : List ℕ → ℕ → ℕ → ℕ → List ℕ → List ℕ
merged_slots tb at p zero ls = ls
merged_slots tb at p (suc n) ls = merged p (get_or tb (at + 6 * n) 0) (merged_slots tb at p n ls)

abbrev pub clause_at : ℕ → ℕ
clause_at k = 144 + 56 * k

-- the predicate of a clause's first atom, 32 where it has none
abbrev pub lead_at : List ℕ → ℕ → ℕ
lead_at tb k =
    cond (ltb 0 (get_or tb (clause_at k) 0))
    (get_or tb (clause_at k + 8) 0)
    (cond (ltb 0 (get_or tb (clause_at k + 1) 0)) (get_or tb (clause_at k + 32) 0) 32)

-- those of all predicates of a clause
abbrev pub merged_clause : List ℕ → ℕ → List ℕ → List ℕ
merged_clause tb k ls =
    merged_slots tb (clause_at k + 32) (lead_at tb k) (get_or tb (clause_at k + 1) 0)
    (merged_slots tb (clause_at k + 8) (lead_at tb k) (get_or tb (clause_at k) 0) ls)

-- each predicate by itself, then clause by clause
unfoldable pub labels_upto : List ℕ → ℕ → List ℕ
labels_upto tb zero = tabulate (λ p. p) 33
labels_upto tb (suc k) = merged_clause tb k (labels_upto tb k)

abbrev pub labels_in : List ℕ → List ℕ
labels_in tb = labels_upto tb (get_or tb 2 0)
