-- Looking for the first instance that passes a test, clause by clause and values by values: the steps of the loops, over plain numbers and lists.
use Prim.Native.Nat.{ℕ, ◌+◌, ◌*◌, ◌^◌, ◌≤◌, ◌<◌}
use mathlib.Core.Bool.{Bool, true, false}
use mathlib.Core.List.{List, [], ◌∷◌, map}
use mathlib.Core.Option.{none, some}
use mathlib.Core.Path.{◌≡◌, refl, subst, subst₂}
use native.Mathlib.Omega.{arith}
use lib.ListN.{length, take, get_or, replicate}
use Rattle.lists.specs.Member.{All, first}
use Rattle.problem.specs.Problem.{Atom, Problem, AtomFits, ClauseFits}
use Rattle.problem.specs.Layout.{problem_in}
use Rattle.problem.specs.Table.{Lawful}
use Rattle.problem.proofs.Access.{clauses_in, instances_in}
use Rattle.ground.specs.Instance.{Instance, number, no_clause, clause_of, instances_of, ground_of}
use Rattle.ground.specs.terms.Placed.{Placed, Stepped}
use Rattle.ground.proofs.AtomLaws.{table_size, constants_small, number_takes, clause_fits, clause_room, conds_count, vars_in}
use Rattle.ground.proofs.Sites.{Turning, turning_starts, turning_below, turning_on, turning_value, turning_stops, turning_ends, groups_from, groups_start, groups_on, groups_stop, groups_end}

-- the instance of clause k with these values
abbrev pub instance : ℕ → List ℕ → Instance
instance k values = record { clause = k; values = values }

-- an atom's number looks at the values of its clause's variables alone
pub numbers_take : (c : ℕ) (arities : List ℕ) (v : ℕ) (values : List ℕ) (atoms : List Atom) → All (AtomFits c arities v) atoms
    → map (number c arities (take v values)) atoms ≡ map (number c arities values) atoms
numbers_take c arities v values [] f = refl
numbers_take c arities v values (a ∷ atoms) f = rw (number_takes c arities v values a f.0, numbers_take c arities v values atoms f.1)

-- ---- the instances of a clause

-- before turn i the values are the digits of i, with 0 for the variables that the clause lacks, and the instances from i on decide
abbrev pub Turn : Problem → (Instance → Bool) → ℕ → List ℕ → ℕ → Type 0
Turn q test k values i = Turning q.constants (clause_of q k).vars (instance k) test values i

module _ (q : Problem) (test : Instance → Bool) (k : ℕ) (fits : ClauseFits q.constants q.arities (clause_of q k)) where
  abbrev c : ℕ
  c = q.constants

  abbrev v : ℕ
  v = (clause_of q k).vars

  pub turn_starts : Turn q test k (replicate 4 0) 0
  turn_starts = turning_starts c v (instance k) test fits.few_vars

  module _ (values : List ℕ) (i : ℕ) (t : Turn q test k values i) where
    pub turn_below : i < c ^ v → All (λ d. d < c) (take v values)
    turn_below h = turning_below c v (instance k) test fits.few_vars values i t h

    pub turn_on : (after : List ℕ) → i < c ^ v → test (instance k (take v values)) ≡ false → Stepped v c values after → length after ≡ length values
        → Turn q test k after (i + 1)
    turn_on after h e s l = turning_on c v (instance k) test fits.few_vars values i t after h e s l

    -- 0 stands for the variables that the clause lacks
    pub turn_value : (j : ℕ) → get_or values j 0 ≡ get_or (take v values) j 0
    turn_value j = turning_value c v (instance k) test fits.few_vars values i t j

    pub turn_stops : i < c ^ v → test (instance k (take v values)) ≡ true → first test (instances_of q k) ≡ some (instance k (take v values))
    turn_stops h e = turning_stops c v (instance k) test fits.few_vars values i t h e

    pub turn_ends : c ^ v ≤ i → first test (instances_of q k) ≡ none
    turn_ends h = turning_ends c v (instance k) test fits.few_vars values i t h

-- ---- the clauses

module _ (q : Problem) (test : Instance → Bool) where
  -- before clause k: the clauses from k on decide
  abbrev pub Undecided : ℕ → Type 0
  Undecided k = first test (ground_of q).instances ≡ first test (groups_from (instances_of q) (length q.clauses) k)

  pub clauses_start : Undecided 0
  unfolding ground_of
  clauses_start = groups_start (instances_of q) (length q.clauses) test

  module _ (k : ℕ) (h : k < length q.clauses) (u : Undecided k) where
    pub clauses_on : first test (instances_of q k) ≡ none → Undecided (k + 1)
    unfolding ground_of
    clauses_on e = groups_on (instances_of q) (length q.clauses) test k h u e

    pub clauses_stop : (i : Instance) → first test (instances_of q k) ≡ some i → first test (ground_of q).instances ≡ some i
    unfolding ground_of
    clauses_stop i e = groups_stop (instances_of q) (length q.clauses) test k h u i e

  pub clauses_end : (k : ℕ) → length q.clauses ≤ k → Undecided k → first test (ground_of q).instances ≡ none
  unfolding ground_of
  clauses_end k h u = groups_end (instances_of q) (length q.clauses) test k h u

-- ---- the bytes of a table

module _ (tb : List ℕ) (h : Lawful tb) where
  pub clauses_byte : get_or tb 2 0 ≡ length (problem_in tb).clauses
  clauses_byte = subst (λ (t : List ℕ). get_or t 2 0 ≡ length (problem_in tb).clauses) h.laid (clauses_in (problem_in tb) h.fits)

  pub clause_listed : (k : ℕ) → k < get_or tb 2 0 → k < length (problem_in tb).clauses
  clause_listed k l = omega (arith, clauses_byte)

-- clause k of a table
pub record ClauseKnown (tb : List ℕ) (k : ℕ) : Type 0 where
  pub size : length tb ≡ 4096
  pub few : k < 64
  pub fits : ClauseFits (problem_in tb).constants (problem_in tb).arities (clause_of (problem_in tb) k)
  pub constants : get_or tb 0 0 ≡ (problem_in tb).constants
  pub few_constants : get_or tb 0 0 ≤ 32
  pub conditions : get_or tb (144 + 56 * k) 0 ≡ length (clause_of (problem_in tb) k).conds
  pub variables : get_or tb (144 + 56 * k + 2) 0 ≡ (clause_of (problem_in tb) k).vars
  pub instances : get_or tb (144 + 56 * k + 4) 0 + 256 * get_or tb (144 + 56 * k + 5) 0 ≡ (problem_in tb).constants ^ (clause_of (problem_in tb) k).vars

module _ (tb : List ℕ) (h : Lawful tb) (k : ℕ) (known : k < length (problem_in tb).clauses) where
  pub clause_known : ClauseKnown tb k
  unfolding problem_in
  clause_known =
      let q = problem_in tb in
      let clause = clause_of q k in
      record {
        size = table_size tb h;
        few = clause_room tb h k known;
        fits = clause_fits tb h k known;
        constants = refl;
        few_constants = constants_small tb h;
        conditions = conds_count tb h k known;
        variables = vars_in tb h k known;
        instances =
            subst (λ (t : List ℕ). get_or t (144 + 56 * k + 4) 0 + 256 * get_or t (144 + 56 * k + 5) 0 ≡ q.constants ^ clause.vars) h.laid (instances_in q h.fits no_clause k known);
      }

  module _ (test : Instance → Bool) (values : List ℕ) (i : ℕ) (below : i < (problem_in tb).constants ^ (clause_of (problem_in tb) k).vars) (t : Turn (problem_in tb) test k values i) where
    -- what looking at the instance of a turn asks
    pub turn_placed : (flags : List ℕ) → 1024 ≤ length flags → Placed tb k values flags
    turn_placed flags room =
        record {
          known = known;
          four = t.four;
          below = rw clause_known.constants (turn_below (problem_in tb) test k clause_known.fits values i t below);
          flagged = omega (arith, h.fits.atoms_fit);
        }

    -- and what going on to the next asks and gives, by the bytes of the table
    pub turn_asks : (length values ≡ 4) × (get_or tb (144 + 56 * k + 2) 0 ≤ 4) × (get_or tb 0 0 ≤ 32)
        × All (λ d. d < get_or tb 0 0) (take (get_or tb (144 + 56 * k + 2) 0) values)
    turn_asks = (
      t.four,
      omega (arith, clause_known.variables, clause_known.fits.few_vars),
      clause_known.few_constants,
      rw (clause_known.constants, clause_known.variables) (turn_below (problem_in tb) test k clause_known.fits values i t below),
    )

    pub turn_next : (after : List ℕ) → test (instance k (take (clause_of (problem_in tb) k).vars values)) ≡ false
        → Stepped (get_or tb (144 + 56 * k + 2) 0) (get_or tb 0 0) values after → length after ≡ length values → Turn (problem_in tb) test k after (i + 1)
    turn_next after e s l =
        turn_on (problem_in tb) test k clause_known.fits values i t after below e
        (subst₂ (λ (v c : ℕ). Stepped v c values after) clause_known.variables clause_known.constants s) l
