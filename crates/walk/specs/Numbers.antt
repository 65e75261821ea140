-- A session in plain numbers, as a record keeps it.
use Rattle.std.specs.Prelude.{ℕ, zero, suc, List, [], ◌∷◌, get_or}
use Rattle.search.specs.Session.{Step, Standing, refuted, satisfied, exhausted, Session}

-- the verdict: 0 is none, 1 fits, and else spent
abbrev pub standing_by : ℕ → Standing
standing_by zero = refuted
standing_by (suc zero) = satisfied
standing_by (suc (suc n)) = exhausted

-- the first n entries of the path, the latest first
unfoldable pub steps_in : List ℕ → List ℕ → ℕ → List Step
steps_in atoms nexts zero = []
steps_in atoms nexts (suc i) = record { atom = get_or atoms i 0; next = get_or nexts i 0 } ∷ steps_in atoms nexts i

abbrev pub session_of : ℕ → ℕ → List ℕ → List ℕ → ℕ → ℕ → ℕ → Session
session_of standing count atoms nexts n next deepest = record { standing = standing_by standing; count = count; path = steps_in atoms nexts n; next = next; deepest = deepest }
