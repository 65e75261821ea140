-- The marks of atoms: the label of each one's predicate.
use Prim.Native.Nat.{ℕ, ◌+◌, ◌≤◌, ◌<◌}
use mathlib.Core.List.{List, [], ◌∷◌, ◌++◌}
use mathlib.Core.Path.{◌≡◌, refl, sym, ap, subst, ◌∙◌}
use native.Mathlib.Omega.{arith}
use lib.ListN.{length, take, drop, get_or, get_or-append}
use Rattle.lists.specs.Tabulate.{tabulate}
use Rattle.lists.proofs.Tabulate.{tabulate-length, tabulate_at}
use Rattle.problem.specs.Problem.{Problem, atom_count}
use Rattle.problem.specs.Layout.{problem_in, arities_in}
use Rattle.problem.specs.Table.{Lawful}
use Rattle.ground.specs.Instance.{GroundAtom, ground_number}
use Rattle.ground.specs.Report.{atoms_in_order}
use Rattle.kernel.specs.terms.Matching.{Decoded}
use Rattle.ground.proofs.Order.{order_at}
use Rattle.parting.specs.Runs.{predicate_in, predicate_at}
use Rattle.parting.specs.terms.Labels.{labels_in}
use Rattle.parting.specs.terms.Tally.{Marked}
use Rattle.parting.proofs.LoopLaws.{filled}

abbrev pub mark_of : List ℕ → ℕ → ℕ
mark_of tb a = get_or (labels_in tb) (predicate_at (problem_in tb) a) 0

-- the predicate of a ground atom's number
pub predicate_is : (q : Problem) (p : ℕ) (args : List ℕ) → GroundAtom q.constants q.arities p args → predicate_at q (ground_number q.constants q.arities p args) ≡ p
predicate_is q p args g = ap predicate_in (order_at q p args g)

module _ (tb : List ℕ) (h : Lawful tb) (a p : ℕ) (args : List ℕ) (d : Decoded tb a p args) where
  pub decoded_predicate : p ≡ predicate_at (problem_in tb) a
  unfolding problem_in
  decoded_predicate = sym (ap (predicate_at (problem_in tb)) (sym d.numbered) ∙ predicate_is (problem_in tb) p (take (get_or (arities_in tb) p 0) args) d.atom)

  pub decoded_small : p < 32
  unfolding problem_in
  decoded_small = let few : length (arities_in tb) ≤ 32 = h.fits.predicates_fit in omega (arith, d.atom.known)

pub marked : (tb marks before : List ℕ) (n : ℕ) → atom_count (problem_in tb).constants (problem_in tb).arities ≤ n → length marks ≡ 1024 → marks ≡ filled (mark_of tb) before n → Marked tb marks
marked tb marks before n all size e =
    record {
      size = size;
      marks_are =
          λ a l.
          ap (λ (m : List ℕ). get_or m a 0) e
          ∙ get_or-append (tabulate (mark_of tb) n) (drop n before) 0 a (omega (arith, tabulate-length (mark_of tb) n))
          ∙ tabulate_at (mark_of tb) 0 n a (omega arith);
    }
