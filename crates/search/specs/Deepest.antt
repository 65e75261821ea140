-- What is claimed of the deepest figure of a run (02: U2, U10). d is the figure that was brought to it, 0 for a first run.
use Rattle.std.specs.Prelude.{ℕ, suc, ◌≤◌, List, ◌⊎◌, ◌≡◌, length}
use Rattle.lists.specs.Member.{All, Any}
use Rattle.search.specs.Machine.{Place}

-- U10: "exactly the longest path that the walk has entered", "brought figures counting as before"
pub record Exact {I : Type 0} (d : ℕ) (made : List (Place I)) (e : ℕ) : Type 0 where
  pub brought : d ≤ e
  pub no_less : All (λ t. length t.path ≤ e) made
  pub attained : (e ≡ d) ⊎ Any (λ t. length t.path ≡ e) made

-- U2: "no less than any path held during the walk, a figure brought by a session of other origin counting as one, at most one more than the longest, and at most A"
pub record Bounds {I : Type 0} (atoms d : ℕ) (held : List (Place I)) (e : ℕ) : Type 0 where
  pub brought : d ≤ e
  pub no_less : All (λ t. length t.path ≤ e) held
  pub one_more : (e ≤ suc d) ⊎ Any (λ t. e ≤ suc (length t.path)) held
  pub within : e ≤ atoms
