-- What U12 says of marking in stages, without the lists and the fuel of `Staged`: what a stage holds, when marking is over, and how the walk chooses at a node.
use Rattle.std.specs.Prelude.{ℕ, suc, ◌≤◌, ◌<◌, Bool, List, ◌↔◌, ◌⊎◌, ◌≡◌, T, length}
use Rattle.lists.specs.Key.{nat_key}
use Rattle.lists.specs.Member.{All, has, In}
use Rattle.search.specs.Ground.{Ground, closed, opened, split, goals}
use Rattle.search.specs.Relevancy.{asked, relevant_set, is_true, branches, model_bits, find_r}
use Rattle.search.specs.Choice.{CanSplit, FirstSplit}
use Rattle.search.specs.Staged.{stage_of, marking, find_s}

-- t tells what is true
module _ {I : Type 0} (p : Ground I) (t : ℕ → Bool) where
  -- atom a is marked at stage k
  abbrev pub MarkedAt : ℕ → ℕ → Type 0
  MarkedAt k a = In nat_key (stage_of p t k) a

  -- "all marks that follow through chaining clauses" are in P
  abbrev pub Chained : (ℕ → Type 0) → Type 0
  Chained P = All (λ i. length (p.alts i) < 2 → All P (goals p i) → All P (asked t (p.conds i))) p.instances

  -- "each splitting instance whose alternatives were all marked before this step marks its conditions by document 01's rule": they are in P
  abbrev pub Stepped : (ℕ → Type 0) → (ℕ → Type 0) → Type 0
  Stepped Before P = All (λ i. 2 ≤ length (p.alts i) → All Before (p.alts i) → All P (asked t (p.conds i))) p.instances

  -- each stage is the smallest set with what it begins with that takes in the marks through chaining clauses
  pub record Stages : Type 1 where
    pub begins : MarkedAt 0 p.atoms
    pub keeps : (k a : ℕ) → MarkedAt k a → MarkedAt (suc k) a
    pub steps : (k : ℕ) → Stepped (MarkedAt k) (MarkedAt (suc k))
    pub chains : (k : ℕ) → Chained (MarkedAt k)
    pub first_smallest : (P : ℕ → Type 0) → P p.atoms → Chained P → (a : ℕ) → MarkedAt 0 a → P a
    pub next_smallest : (k : ℕ) (P : ℕ → Type 0) → ((a : ℕ) → MarkedAt k a → P a) → Stepped (MarkedAt k) P → Chained P → (a : ℕ) → MarkedAt (suc k) a → P a

  -- marking is over at stage k: whatever any stage marks is marked there
  abbrev pub Over : ℕ → Type 0
  Over k = (j a : ℕ) → MarkedAt j a → MarkedAt k a

  pub record MarkingEnds : Type 0 where
    -- "It is over when nothing new is marked"
    pub nothing_new : (k : ℕ) → ((a : ℕ) → MarkedAt (suc k) a → MarkedAt k a) → Over k
    pub over_at_last : Over (length p.instances)
    -- the marks of a finished marking are the relevant facts
    pub over_relevant : (k : ℕ) → Over k → (a : ℕ) → MarkedAt k a ↔ In nat_key (relevant_set p t) a

module _ {I : Type 0} (p : Ground I) (l : List ℕ) where
  abbrev pub marked_at : ℕ → ℕ → Bool
  marked_at k a = has nat_key (stage_of p (is_true p l) k) a

  -- at stage k no instance can be split
  abbrev pub Unsplit : ℕ → Type 0
  Unsplit k = All (λ i. CanSplit p (is_true p l) (marked_at k) i → ⊥) p.instances

  -- "marking ends and the first such instance is split"
  pub record StageSplit (i : I) : Type 0 where
    pub stage : ℕ
    pub first_there : FirstSplit p (is_true p l) (marked_at stage) i
    pub none_before : (k : ℕ) → k < stage → Unsplit k

  -- which marks a node has: those of the first stage at which an instance can be split, where marking ends; else of one at which it is over
  pub record MarkingIs : Type 0 where
    pub stage : ℕ
    pub marks_are : (marking p (is_true p l)).1 ≡ stage_of p (is_true p l) stage
    pub none_before : (k : ℕ) → k < stage → Unsplit k
    pub ends : ((i : I) × FirstSplit p (is_true p l) (marked_at stage) i) ⊎ (Over p (is_true p l) stage × Unsplit stage)

  pub record OpenMarks (bits : List Bool) : Type 0 where
    pub stage : ℕ
    pub over : Over p (is_true p l) stage
    pub bits_are : bits ≡ model_bits p.atoms (is_true p l) (marked_at stage)

  pub record StagedChoice : Type 0 where
    pub closed_exactly : (find_s p l ≡ closed) ↔ T (is_true p l p.atoms)
    pub split_first : (i : I) (ds : List ℕ) → find_s p l ≡ split i ds → StageSplit i × (ds ≡ branches (p.alts i))
    pub opened_unsplit : (bits : List Bool) → find_s p l ≡ opened bits → ((k : ℕ) → Unsplit k) × OpenMarks bits
    -- it is open, and with these bits, exactly where the relevancy walk finds it so: the two differ in what they split alone
    pub opened_alike : (bits : List Bool) → (find_s p l ≡ opened bits) ↔ (find_r p l ≡ opened bits)
