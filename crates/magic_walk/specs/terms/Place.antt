-- The magic engine's walk as one of those that crate `walk` speaks of: what a node's record names, what is held at a place, and a node just entered.
use Rattle.std.specs.Prelude.{ℕ, false, List, ◌≡◌, T}
use Rattle.lists.specs.Key.{nat_key}
use Rattle.lists.specs.Member.{All, has}
use Rattle.search.specs.Ground.{disjunctive}
use Rattle.search.specs.Relevancy.{branches}
use Rattle.search.specs.Machine.{entered, Genuine}
use Rattle.ground.specs.Instance.{Instance}
use Rattle.rewriting.specs.Facts.{false_in, find_in}
use Rattle.rewriting.specs.terms.Ruled.{the_rule}
use Rattle.magic_rule.specs.terms.Choosing.{site_of, rule_heads, RuleSite, ListedSite}
use Rattle.magic_rule.specs.terms.Watch.{site_place, Rested}
use Rattle.magic_rule.specs.terms.Implied.{extended}
use Rattle.magic_rule.specs.terms.Node.{HeldStands, Following, HeldSeeded}
use Rattle.walk.specs.terms.Walker.{Site, Walker}
use Rattle.walk.specs.terms.Path.{mark_at, path_in}
use Rattle.walk.specs.terms.Place.{NodesNamed}
use Rattle.walk.specs.declared.answer.Found.{Found as Told}
use Rattle.walk.specs.declared.answer.Found.TheVariants.{Closed, Open, Split}

-- a node's record names a rule
abbrev pub rule_site : Site → RuleSite
rule_site s = record { rule = s.number; values = s.values }

abbrev pub site_alts : List ℕ → Site → List ℕ
site_alts bs s = branches (rule_heads bs s.number s.values)

-- an instance of a rule of the buffer that gives two alternatives or more
pub record Splitting (bs : List ℕ) (s : Site) : Type 0 where
  pub listed : ListedSite bs (rule_site s)
  pub several : T (disjunctive (rule_heads bs s.number s.values))

-- the facts of a split node: what follows from the entered atoms l, worked off, with none of the alternatives; no instance before the split can be split
pub record RestedAtSplit (bs : List ℕ) (s : Site) (l facts : List ℕ) : Type 0 where
  pub rested : Rested bs (site_place bs (rule_site s)) facts
  pub following : Following bs l facts
  pub untrue : All (λ a. has nat_key facts a ≡ false) (site_alts bs s)

-- What is held true and held relevant is in the set at every place, closed ones too, and what is held of continuations is implied by it
abbrev pub magic_walker : List ℕ → Walker Instance
magic_walker bs =
    record {
      capacity = 2050;
      atoms = false_in bs;
      find = find_in bs;
      vars = λ q. (the_rule bs q).vars;
      instance = λ s. site_of bs s.number s.values;
      alts = site_alts bs;
      Named = Splitting bs;
      Kept = Genuine (find_in bs);
      RestsAt = RestedAtSplit bs;
      Holds = λ x l facts. HeldStands bs l (extended bs facts);
    }

-- a node just entered: the n facts follow from the path's atoms
pub record HeldFresh (bs facts path : List ℕ) (depth n : ℕ) : Type 0 where
  pub kept : (magic_walker bs).Kept (path_in (magic_walker bs) path depth)
  pub named : NodesNamed (magic_walker bs) path depth
  pub seeded : HeldSeeded bs (entered (path_in (magic_walker bs) path depth)) facts n

-- all facts at a split place are its node's own
abbrev pub OwnFacts : List ℕ → ℕ → Told → Type 0
OwnFacts path depth (Closed n) = Unit
OwnFacts path depth (Open n) = Unit
OwnFacts path depth (Split n) = mark_at path depth ≡ n
