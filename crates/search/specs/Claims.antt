-- What is claimed of the walks. `proofs/Theorems.antt` proves `Theorems`.
use Rattle.std.specs.Prelude.{ℕ, suc, ◌+◌, ◌≤◌, ◌<◌, Bool, not, cond, ◌&&◌, List, ◌∷◌, ◌++◌, ◌≡◌, eqb, ltb, length, take}
use Rattle.std.proofs.Math.Option.{some}
use Rattle.lists.specs.Key.{Key, nat_key}
use Rattle.lists.specs.Member.{All, every, has, In, Distinct, EachOnce, lead}
use Rattle.search.specs.Closure.{Rule, Closed, broken, least}
use Rattle.search.specs.Ground.{Ground, Proper, Model, Marked, Found, disjunctive}
use Rattle.search.specs.Relevancy.{asked, is_true, is_relevant, splittable, branches, model_bits, find_r}
use Rattle.search.specs.Magic.{MagicRule, rewriting, find_m}
use Rattle.search.specs.Trails.{OneTrail}
use Rattle.search.specs.SessionClaims.{Call, OneWalkKept, OriginKept, AnyOrigin}
use Rattle.search.specs.Session.{Session, stands_in}
use Rattle.search.specs.Deepest.{Exact, Bounds}
use Rattle.search.specs.SessionRight.{ShortPaths, AnySession}
use Rattle.search.specs.Choice.{RelevancyChoice, MagicChoice}
use Rattle.search.specs.Staged.{find_s}
use Rattle.search.specs.StagedClaims.{Stages, MarkingEnds, MarkingIs, StagedChoice}
use Rattle.search.specs.Sound.{SoundFind}
use Rattle.search.specs.Machine.{Place, entered, Satisfied, Refuted, Exhausted, answer, last, root, entries, trail, proceed, outcome, FullWalk}
use Rattle.search.specs.Cases.{CasesHold}

-- `least` is the smallest set that holds the seeds and is closed under the rules: it lies inside every such set, decidable or not
pub record Smallest {F : Type 0} (k : Key F) (rs : List (Rule F)) (seeds : List F) : Type 1 where
  pub seeds_in : All (In k (least k rs seeds)) seeds
  pub closed : Closed rs (In k (least k rs seeds))
  pub inside : (P : F → Type 0) → Closed rs P → All P seeds → (x : F) → In k (least k rs seeds) x → P x

-- Of any way of finding a node
pub record AnyWalk {I : Type 0} (find : List ℕ → Found I) : Type 0 where
  -- running under m + n is running on by n after m: the same entries, and the same answer
  pub entries_on : (m n : ℕ) (s : Place I) → entries find (m + n) s ≡ entries find m s ++ entries find n (last s (entries find m s))
  pub runs_on : (m n count : ℕ) (s : Place I)
      → proceed find (m + n) count s ≡ proceed find n (count + length (entries find m s)) (last s (entries find m s))
  -- there is one walk without a limit at most, and it does not end as spent
  pub whole_one : (es fs : List (Place I)) → FullWalk find es → FullWalk find fs → es ≡ fs
  pub whole_settled : (es : List (Place I)) → FullWalk find es → (n : ℕ) → answer (last (root find) es) (length es) ≡ Exhausted n → ⊥
  -- Exhausted exactly where that walk makes more than L entries, and the count is then L; else verdict, count and model are that walk's
  pub limited : (es : List (Place I)) → FullWalk find es → (limit : ℕ)
      → outcome find limit ≡ cond (ltb limit (length es)) (Exhausted limit) (answer (last (root find) es) (length es))

-- a path holds distinct atoms below A, so never more than A
pub record PathFits {I : Type 0} (p : Ground I) (s : Place I) : Type 0 where
  pub distinct : Distinct nat_key (entered s.path)
  pub below : All (λ a. a < p.atoms) (entered s.path)
  pub short : length s.path ≤ p.atoms

-- Of the walk by any sound way of finding a node
pub record SoundWalk {I : Type 0} (p : Ground I) (find : List ℕ → Found I) : Type 1 where
  pub paths_fit : (limit : ℕ) → All (PathFits p) (trail find limit)
  pub short_paths : ShortPaths find p.atoms
  -- the walk without a limit ends
  pub ends : (es : List (Place I)) × FullWalk find es
  -- none only where no set of atoms at all is a model
  pub refuted : (limit n : ℕ) → outcome find limit ≡ Refuted n → (M : ℕ → Type 0) → Model p M → ⊥
  -- fits comes with the bits of a model, one for each atom
  pub satisfied : (limit n : ℕ) (bits : List Bool) → outcome find limit ≡ Satisfied n bits → (length bits ≡ p.atoms) × Model p (Marked bits)

-- the place at which the walk under a limit stands at its end
abbrev pub last_place : {I : Type 0} → (List ℕ → Found I) → ℕ → Place I
last_place find limit = last (root find) (entries find limit (root find))

-- every atom that is true, and every atom that is not relevant, at a place
abbrev pub model_at : {I : Type 0} → Ground I → Place I → List Bool
model_at p s = model_bits p.atoms (is_true p (entered s.path)) (is_relevant p (entered s.path))

-- the number of conditions that hold from the left, before the first that does not, decides what closing, marking and splitting by an instance do
pub record ByHolding : Type 1 where
  -- a rule is to fire: its body holds, as many from the left as there are, and its head does not
  pub closes_by : (s : List ℕ) (r : Rule ℕ) → broken nat_key s r ≡ (eqb (lead (has nat_key s) r.body) (length r.body) && not (has nat_key s r.head))
  -- what is asked is one condition more than hold, at most all
  pub asks_by : (t : ℕ → Bool) (cs : List ℕ) → asked t cs ≡ take (suc (lead t cs)) cs
  -- an instance can be split: as many of its conditions are true from the left as there are, its alternatives are relevant and none is true
  pub splits_by : {I : Type 0} (p : Ground I) (t r : ℕ → Bool) (i : I)
      → splittable p t r i ≡ (disjunctive (p.alts i) && eqb (lead t (p.conds i)) (length (p.conds i)) && every r (p.alts i) && every (λ a. not (t a)) (p.alts i))

-- All of it, over every ground problem and every limit
pub record Theorems : Type 1 where
  pub smallest : {F : Type 0} (k : Key F) (rs : List (Rule F)) (seeds : List F) → Smallest k rs seeds
  pub any_walk : {I : Type 0} (find : List ℕ → Found I) → AnyWalk find
  -- any session: when a call is refused, and what one that is not says and leaves
  pub any_session : {I : Type 0} (find : List ℕ → Found I) (atoms : ℕ) → AnySession find atoms
  pub sound_walk : {I : Type 0} (p : Ground I) (find : List ℕ → Found I) → SoundFind p find → SoundWalk p find
  -- two sound walks, under whatever limits, never say fits and none
  pub never_contradict : {I : Type 0} (p : Ground I) (f g : List ℕ → Found I) → SoundFind p f → SoundFind p g → (limit n : ℕ) (bits : List Bool) → outcome f limit ≡ Satisfied n bits
      → (other m : ℕ) → outcome g other ≡ Refuted m → ⊥
  -- the walks of a ground problem are sound
  pub relevancy_sound : {I : Type 0} (p : Ground I) → Proper p → SoundFind p (find_r p)
  pub magic_sound : {I : Type 0} (k : Key I) (p : Ground I) → Proper p → SoundFind p (find_m k p.atoms (rewriting p))
  pub staged_sound : {I : Type 0} (p : Ground I) → Proper p → SoundFind p (find_s p)
  -- each closes, splits and leaves open as document 01 or U12 says
  pub relevancy_chooses : {I : Type 0} (p : Ground I) (l : List ℕ) → RelevancyChoice p l
  pub magic_chooses : {I : Type 0} (k : Key I) (n : ℕ) (rs : List (MagicRule I)) (l : List ℕ) → MagicChoice k n rs l
  pub staged_chooses : {I : Type 0} (p : Ground I) (l : List ℕ) → StagedChoice p l
  -- U12's stages, whatever is true
  pub stages : {I : Type 0} (p : Ground I) (t : ℕ → Bool) → Stages p t
  pub marking_ends : {I : Type 0} (p : Ground I) (t : ℕ → Bool) → MarkingEnds p t
  pub marking_is : {I : Type 0} (p : Ground I) (l : List ℕ) → MarkingIs p l
  -- what is entered at a split, whatever its alternatives: each of them once, in order of first appearance
  pub entered_once : (ds : List ℕ) → EachOnce nat_key ds (branches ds)
  -- the model that the relevancy walk gives is that of its open place; by `one_trail` so is the magic walk's
  pub model_given : {I : Type 0} (p : Ground I) (limit n : ℕ) (bits : List Bool) → outcome (find_r p) limit ≡ Satisfied n bits → bits ≡ model_at p (last_place (find_r p) limit)
  -- and so is the staged walk's of its own
  pub staged_model_given : {I : Type 0} (p : Ground I) (limit n : ℕ) (bits : List Bool) → outcome (find_s p) limit ≡ Satisfied n bits → bits ≡ model_at p (last_place (find_s p) limit)
  pub one_trail : {I : Type 0} (k : Key I) (p : Ground I) (limit : ℕ) → OneTrail k p limit
  pub by_holding : ByHolding
  -- a walk in pieces, by both engines in turn, is the whole walk; so is one from where a session of other origin stands; and a session of any origin goes on alike in both
  pub one_walk_kept : {I : Type 0} (k : Key I) (p : Ground I) → Proper p → (magic : Bool) (limit : ℕ) (calls : List Call) → OneWalkKept k p magic limit calls
  pub origin_kept : {I : Type 0} (k : Key I) (p : Ground I) → Proper p → (s : Session) (t : Place I) (further : ℕ) → stands_in (find_r p) p.atoms s ≡ some t
      → s.count + further ≤ 4294967295 → (calls : List Call) → OriginKept k p s t further calls
  pub any_origin : {I : Type 0} (k : Key I) (p : Ground I) → Proper p → (s : Session) (further : ℕ) → AnyOrigin k p s further
  -- U2's bounds follow from U10's figure, where the path that a run begins at is no longer than what was brought, and the figure is at most A
  pub exact_bounds : {I : Type 0} (atoms d : ℕ) (t : Place I) (es : List (Place I)) (e : ℕ) → length t.path ≤ d → e ≤ atoms → Exact d es e → Bounds atoms d (t ∷ es) e
  pub cases_hold : CasesHold
