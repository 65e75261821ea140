-- Parts that share no predicate (02: U9): which clauses belong together, and the problems that a problem falls into.
use Rattle.std.specs.Prelude.{ℕ, ◌+◌, Bool, false, cond, ◌||◌, eqb, leb, length}
use mathlib.Core.List.{List, [], ◌∷◌, ◌++◌, map, flat_map}
use Rattle.lists.specs.Key.{nat_key}
use Rattle.lists.specs.Member.{Any, every, has, In}
use Rattle.lists.specs.Tabulate.{tabulate}
use Rattle.search.specs.Closure.{Rule, least}
use Rattle.problem.specs.Problem.{Clause, Problem}
use Rattle.problem.specs.Extended.{with_clauses}
use Rattle.ground.specs.Instance.{clause_of}

-- ---- which clauses belong together

-- the predicates of a clause, of its conditions and of its alternatives
abbrev pub predicates_of : Clause → List ℕ
predicates_of k = map (λ a. a.pred) (k.conds ++ k.alts)

-- "Two clauses belong together if they share a predicate, directly": clauses by their numbers; one that is not there has no predicate
abbrev pub Shares : Problem → ℕ → ℕ → Type 0
Shares q i j = Any (λ p. In nat_key (predicates_of (clause_of q j)) p) (predicates_of (clause_of q i))

-- "or through others": from clause i over these, each of which shares a predicate with the next, to clause j
abbrev pub Through : Problem → ℕ → List ℕ → ℕ → Type 0
Through q i [] j = Shares q i j
Through q i (k ∷ ks) j = Shares q i k × Through q k ks j

abbrev pub Together : Problem → ℕ → ℕ → Type 0
Together q i j = (others : List ℕ) × Through q i others j

-- ---- the parts

-- from each predicate of a clause to each
abbrev pub links_of : Clause → List (Rule ℕ)
links_of k = flat_map (λ a. map (λ b. record { body = a ∷ []; head = b }) (predicates_of k)) (predicates_of k)

-- the family of a predicate: the smallest set that has it and, with one predicate of a clause, all of that clause's
unfoldable pub family : Problem → ℕ → List ℕ
family q p = least nat_key (flat_map links_of q.clauses) (p ∷ [])

-- the members that pass a test, in order
abbrev pub only : {A : Type 0} → (A → Bool) → List A → List A
only t [] = []
only t (x ∷ xs) = cond (t x) (x ∷ only t xs) (only t xs)

-- some predicate of these is in the set
abbrev pub touches : List ℕ → List ℕ → Bool
touches s [] = false
touches s (p ∷ ps) = has nat_key s p || touches s ps

-- the part that a predicate belongs to ("Each part keeps all constants and the full limit L"): the clauses that have a predicate of its family, in order; none at all where it is in no clause
unfoldable pub part_of : Problem → ℕ → Problem
part_of q p = with_clauses q (only (λ k. touches (family q p) (predicates_of k)) q.clauses)

-- "the order of their lowest predicate": p is the lowest of its family
unfoldable pub is_lowest : Problem → ℕ → Bool
is_lowest q p = every (λ r. leb p r) (family q p)

abbrev pub is_bare : Clause → Bool
is_bare k = eqb (length k.conds + length k.alts) 0

-- "clauses without atoms come first", each a part of its own; then those of the predicates, by the lowest of each
unfoldable pub parts_of : Problem → List Problem
parts_of q = map (λ k. with_clauses q (k ∷ [])) (only is_bare q.clauses) ++ map (part_of q) (only (is_lowest q) (tabulate (λ p. p) (length q.arities)))
