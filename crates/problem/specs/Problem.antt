-- A problem (01: ticket) as its text gives it, its numbers, and when it is well formed.
use Rattle.std.specs.Prelude.{ℕ, ◌+◌, ◌*◌, ◌^◌, ◌≤◌, ◌<◌, ◌⊎◌, ◌≡◌, length, take, get_or}
use mathlib.Core.List.{List, [], ◌∷◌, ◌++◌, flat_map}
use Rattle.lists.specs.Digits.{horner}
use Rattle.lists.specs.Member.{All, Any}

-- an argument is a constant, or 128 and the number of a variable
pub record Atom : Type 0 where
  pub pred : ℕ
  pub args : List ℕ

-- a clause with its number of variables
pub record Clause : Type 0 where
  pub vars : ℕ
  pub conds : List Atom
  pub alts : List Atom

-- the limit as its four bytes, high byte first
pub record Problem : Type 0 where
  pub constants : ℕ
  pub limit : List ℕ
  pub arities : List ℕ
  pub clauses : List Clause

-- A: "the sum of c to the power of the arity over all predicates"
abbrev pub atom_count : ℕ → List ℕ → ℕ
atom_count c [] = 0
atom_count c (a ∷ arities) = c ^ a + atom_count c arities

-- the number of a predicate's first atom
abbrev pub first_atom : ℕ → List ℕ → ℕ → ℕ
first_atom c arities p = atom_count c (take p arities)

-- "n × (c to the power v)"
abbrev pub weight : ℕ → Clause → ℕ
weight c k = length k.conds * c ^ k.vars

-- "The sum of n × (c to the power v) over all clauses"
abbrev pub weights : ℕ → List Clause → ℕ
weights c [] = 0
weights c (k ∷ ks) = weight c k + weights c ks

-- the limit as a number: "4 bytes, high byte first"
abbrev pub limit_of : List ℕ → ℕ
limit_of bs = horner 256 bs

-- a constant below c, or one of the first v variables
abbrev pub ArgFits : ℕ → ℕ → ℕ → Type 0
ArgFits c v b = ((b < 32) × (b < c)) ⊎ ((128 ≤ b) × (b < 128 + v))

pub record AtomFits (c : ℕ) (arities : List ℕ) (v : ℕ) (a : Atom) : Type 0 where
  pub known : a.pred < length arities
  pub arity : length a.args ≡ get_or arities a.pred 0
  pub args_fit : All (ArgFits c v) a.args

-- the arguments of a clause as they stand in its line: those of the conditions, then those of the alternatives
abbrev pub arguments_of : Clause → List ℕ
arguments_of k = flat_map (λ a. a.args) (k.conds ++ k.alts)

-- "Variables first appear in a clause as 80, 81, 82, 83 in that order": before each variable stand those of all lower numbers
abbrev pub VariablesInOrder : List ℕ → Type 0
VariablesInOrder bs = (front back : List ℕ) (x : ℕ) → bs ≡ front ++ ((128 + x) ∷ back) → (y : ℕ) → y < x → Any (λ b. b ≡ 128 + y) front

-- the variables of a clause are those below its number of variables, each stands in a condition, and they first appear in order
pub record ClauseFits (c : ℕ) (arities : List ℕ) (k : Clause) : Type 0 where
  pub few_vars : k.vars ≤ 4
  pub few_conds : length k.conds ≤ 4
  pub few_alts : length k.alts ≤ 4
  pub conds_fit : All (AtomFits c arities k.vars) k.conds
  pub alts_fit : All (AtomFits c arities k.vars) k.alts
  pub named : (x : ℕ) → x < k.vars → Any (λ a. Any (λ b. b ≡ 128 + x) a.args) k.conds
  pub in_order : VariablesInOrder (arguments_of k)

-- a well-formed problem: what document 01 asks of a ticket, whatever reads it
pub record Fits (q : Problem) : Type 0 where
  pub constants_fit : q.constants ≤ 32
  pub limit_four : length q.limit ≡ 4
  pub limit_bytes : All (λ b. b < 256) q.limit
  pub some_predicate : 1 ≤ length q.arities
  pub predicates_fit : length q.arities ≤ 32
  pub arities_fit : All (λ a. a ≤ 3) q.arities
  pub atoms_fit : atom_count q.constants q.arities ≤ 1024
  pub clauses_fit : length q.clauses ≤ 64
  pub each_fits : All (ClauseFits q.constants q.arities) q.clauses
  pub weights_fit : weights q.constants q.clauses ≤ 16384
