-- Demand 3, of the two walks of a ground problem.
use Rattle.std.specs.Prelude.{ℕ, ◌&&◌, ◌≡◌}
use Rattle.lists.specs.Key.{Key}
use Rattle.lists.specs.Member.{All}
use Rattle.search.specs.Ground.{Ground}
use Rattle.search.specs.Relevancy.{is_true, is_relevant, find_r}
use Rattle.search.specs.Magic.{tru, rel, rewriting, holds, find_m}
use Rattle.search.specs.Machine.{Place, entered, trail, outcome}

-- at a place, for every atom and "false": held relevant = relevant, and held true = true and relevant
pub record SameFacts {I : Type 0} (k : Key I) (p : Ground I) (s : Place I) (x : ℕ) : Type 0 where
  pub relevant : holds k p.atoms (rewriting p) (entered s.path) (rel x) ≡ is_relevant p (entered s.path) x
  pub true_relevant : holds k p.atoms (rewriting p) (entered s.path) (tru x) ≡ (is_true p (entered s.path) x && is_relevant p (entered s.path) x)

-- Demand 3: the two whole trails are equal, place by place, with lists and findings; at every place the facts agree; and so do verdict, count and model
pub record OneTrail {I : Type 0} (k : Key I) (p : Ground I) (limit : ℕ) : Type 0 where
  pub trails : trail (find_m k p.atoms (rewriting p)) limit ≡ trail (find_r p) limit
  pub facts : All (λ s. (x : ℕ) → SameFacts k p s x) (trail (find_r p) limit)
  pub outcomes : outcome (find_m k p.atoms (rewriting p)) limit ≡ outcome (find_r p) limit
