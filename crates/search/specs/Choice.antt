-- How each walk chooses at a node: when it closes it, which instance or rule it splits, and when it leaves it open.
use Rattle.std.specs.Prelude.{ℕ, ◌≤◌, Bool, List, ◌↔◌, ◌≡◌, T, length}
use Rattle.lists.specs.Key.{Key}
use Rattle.lists.specs.Member.{All, FirstOf}
use Rattle.search.specs.Ground.{Ground, closed, opened, split}
use Rattle.search.specs.Relevancy.{is_true, is_relevant, branches, find_r}
use Rattle.search.specs.Magic.{Magic, tru, MagicRule, heads_of, holds, find_m}

-- an instance can be split, where t and r tell what is true and what is relevant
pub record CanSplit {I : Type 0} (p : Ground I) (t r : ℕ → Bool) (i : I) : Type 0 where
  pub disjunctive : 2 ≤ length (p.alts i)
  pub conditions_true : All (λ a. T (t a)) (p.conds i)
  pub alternatives_relevant : All (λ a. T (r a)) (p.alts i)
  pub none_true : All (λ a. T (t a) → ⊥) (p.alts i)

-- a magic rule can be split, where h tells what is held
pub record RuleCanSplit {I : Type 0} (h : Magic I → Bool) (r : MagicRule I) : Type 0 where
  pub disjunctive : 2 ≤ length (heads_of r.gives)
  pub asks_held : All (λ f. T (h f)) r.asks
  pub none_held_true : All (λ a. T (h (tru a)) → ⊥) (heads_of r.gives)

-- "the first splitting instance with all conditions true, all alternatives wanted and none true"
abbrev pub FirstSplit : {I : Type 0} → Ground I → (ℕ → Bool) → (ℕ → Bool) → I → Type 0
FirstSplit p t r i = FirstOf (CanSplit p t r) p.instances i

-- "the first instance of a splitting rule with all it asks held and no alternative held true"
abbrev pub FirstSplitRule : {I : Type 0} → (Magic I → Bool) → List (MagicRule I) → MagicRule I → Type 0
FirstSplitRule h rs r = FirstOf (RuleCanSplit h) rs r

pub record RelevancyChoice {I : Type 0} (p : Ground I) (l : List ℕ) : Type 0 where
  pub closed_exactly : (find_r p l ≡ closed) ↔ T (is_true p l p.atoms)
  pub split_first : (i : I) (ds : List ℕ) → find_r p l ≡ split i ds → FirstSplit p (is_true p l) (is_relevant p l) i × (ds ≡ branches (p.alts i))
  pub opened_unsplit : (bits : List Bool) → find_r p l ≡ opened bits → All (λ i. CanSplit p (is_true p l) (is_relevant p l) i → ⊥) p.instances

-- whatever the rules
pub record MagicChoice {I : Type 0} (k : Key I) (n : ℕ) (rs : List (MagicRule I)) (l : List ℕ) : Type 0 where
  pub closed_exactly : (find_m k n rs l ≡ closed) ↔ T (holds k n rs l (tru n))
  pub split_first : (i : I) (ds : List ℕ) → find_m k n rs l ≡ split i ds
      → (r : MagicRule I) × FirstSplitRule (holds k n rs l) rs r × (r.site ≡ i) × (ds ≡ branches (heads_of r.gives))
  pub opened_unsplit : (bits : List Bool) → find_m k n rs l ≡ opened bits → All (λ r. RuleCanSplit (holds k n rs l) r → ⊥) rs
