-- A session is held by its record, and what an engine writes down of its path is that record's.
use Prim.Native.Nat.{ℕ, zero, suc, ◌≤◌, ◌<◌}
use mathlib.Core.Bool.{true}
use mathlib.Core.List.{List, [], ◌∷◌}
use mathlib.Core.Logic.{◌⊎◌, inl, inr}
use mathlib.Core.Option.{some}
use mathlib.Core.Path.{◌≡◌, refl, sym, ap, subst, ◌∙◌}
use native.Mathlib.Omega.{arith}
use lib.Dec.{leb}
use lib.ListN.{length, get_or, set, length-set, length-replicate}
use lib.Seq.{get_or-set_same, get_or-set_other, ext_get_or}
use borrow.Author.Tests.{le-leb}
use Rattle.lists.proofs.Bytes.{zeros_at}
use Rattle.lists.proofs.Test.{lt_or_le}
use Rattle.search.specs.Session.{Step, Standing, refuted, satisfied, exhausted, Session, steps_of}
use Rattle.walk.specs.terms.Walker.{Walker}
use Rattle.walk.specs.terms.Path.{path_in}
use Rattle.walk.specs.Numbers.{standing_by, steps_in}
use Rattle.walk.specs.terms.Left.{StepsLeft}
use Rattle.session.specs.declared.record.Session.{Session as Record}
use Rattle.session.specs.Record.{session_in, verdict_number, slots, laid}

-- ---- the slots of a path

slots-length : (f : Step → ℕ) (steps : List Step) → length (slots f steps) ≡ 1024
unfolding slots
slots-length f [] = length-replicate {A = ℕ} 1024 0
slots-length f (s ∷ steps) = length-set (slots f steps) (length steps) (f s) ∙ slots-length f steps

pub slots_end : (f : Step → ℕ) (steps : List Step) (j : ℕ) → length steps ≤ j → get_or (slots f steps) j 0 ≡ 0
unfolding slots
slots_end f [] j l = zeros_at 1024 j
slots_end f (s ∷ steps) j l = get_or-set_other (slots f steps) (length steps) j (f s) 0 (λ e. omega (arith, e, l)) ∙ slots_end f steps j (omega (arith, l))

-- ---- steps by their numbers

pub steps_length : (atoms nexts : List ℕ) (k : ℕ) → length (steps_in atoms nexts k) ≡ k
unfolding steps_in
steps_length atoms nexts zero = refl
steps_length atoms nexts (suc k) = ap suc (steps_length atoms nexts k)

abbrev pub SameBelow : List ℕ → List ℕ → ℕ → Type 0
SameBelow xs ys k = (j : ℕ) → j < k → get_or xs j 0 ≡ get_or ys j 0

pub steps_same : (atoms nexts others ends : List ℕ) (k : ℕ) → SameBelow atoms others k → SameBelow nexts ends k → steps_in atoms nexts k ≡ steps_in others ends k
unfolding steps_in
steps_same atoms nexts others ends zero ea en = refl
steps_same atoms nexts others ends (suc k) ea en =
    rw (ea k (omega arith), en k (omega arith), steps_same atoms nexts others ends k (λ j l. ea j (omega (arith, l))) (λ j l. en j (omega (arith, l))))

-- and the numbers by the steps
first_step : {s t : Step} {steps more : List Step} → ◌≡◌ {A = List Step} (s ∷ steps) (t ∷ more) → (s ≡ t) × (steps ≡ more)
first_step e = (cc, cc)

same_steps : (atoms nexts others ends : List ℕ) (k : ℕ) → steps_in atoms nexts k ≡ steps_in others ends k → SameBelow atoms others k × SameBelow nexts ends k
unfolding steps_in
same_steps atoms nexts others ends zero e = (λ j l. absurd (omega (arith, l)), λ j l. absurd (omega (arith, l)))
same_steps atoms nexts others ends (suc k) e =
    let here = first_step e in
    let below = same_steps atoms nexts others ends k here.1 in
    (at atoms others (ap (λ (s : Step). s.atom) here.0) below.0, at nexts ends (ap (λ (s : Step). s.next) here.0) below.1)
  where
    at : (xs ys : List ℕ) → get_or xs k 0 ≡ get_or ys k 0 → SameBelow xs ys k → SameBelow xs ys (suc k)
    at xs ys last before j l = go (lt_or_le j k)
      where
        go : (j < k) ⊎ (k ≤ j) → get_or xs j 0 ≡ get_or ys j 0
        go (inl m) = before j m
        go (inr m) = let same : j ≡ k = omega (arith, l, m) in subst (λ (i : ℕ). get_or xs i 0 ≡ get_or ys i 0) (sym same) last

-- ---- a record holds its session

-- the steps of a path's slots are the path
steps_back : (steps : List Step) → length steps ≤ 1024 → steps_in (slots (λ t. t.atom) steps) (slots (λ t. t.next) steps) (length steps) ≡ steps
unfolding steps_in slots
steps_back [] l = refl
steps_back (s ∷ steps) l =
    let n : ℕ = length steps in
    let atoms : List ℕ = slots (λ t. t.atom) steps in
    let nexts : List ℕ = slots (λ t. t.next) steps in
    rw (
      get_or-set_same atoms n s.atom 0 (omega (arith, slots-length (λ t. t.atom) steps, l)),
      get_or-set_same nexts n s.next 0 (omega (arith, slots-length (λ t. t.next) steps, l)),
      steps_same (set atoms n s.atom) (set nexts n s.next) atoms nexts n (λ j m. get_or-set_other atoms n j s.atom 0 (λ e. omega (arith, e, m)))
          (λ j m. get_or-set_other nexts n j s.next 0 (λ e. omega (arith, e, m))),
      steps_back steps (omega (arith, l)),
    )

verdict_back : (x : Standing) → standing_by (verdict_number x) ≡ x
verdict_back refuted = refl
verdict_back satisfied = refl
verdict_back exhausted = refl

verdict_known : (x : Standing) → leb (verdict_number x) 2 ≡ true
verdict_known refuted = refl
verdict_known satisfied = refl
verdict_known exhausted = refl

-- a session whose path has room is held by its record
pub held_laid : (s : Session) → length s.path ≤ 1024 → session_in (laid s) ≡ some s
unfolding session_in laid
held_laid s l = rw (verdict_known s.standing, le-leb (length s.path) 1024 l, verdict_back s.standing, steps_back s.path l)

-- a record is fixed by its fields
pub laid_as : (r : Record) (s : Session) → r.count ≡ s.count → r.length ≡ length s.path → r.verdict ≡ verdict_number s.standing → r.next ≡ s.next
    → r.atoms ≡ slots (λ t. t.atom) s.path → r.nexts ≡ slots (λ t. t.next) s.path → r.deepest ≡ s.deepest → r ≡ laid s
unfolding laid
laid_as r s count long verdict next ea en deepest =
    let same : record { count = r.count; length = r.length; verdict = r.verdict; next = r.next; atoms = r.atoms; nexts = r.nexts; deepest = r.deepest } ≡ laid s =
    rw (count, long, verdict, next, ea, en, deepest) in
    same

pub laid-deepest : (s : Session) → (laid s).deepest ≡ s.deepest
unfolding laid
laid-deepest s = refl

-- ---- what an engine writes down

-- numbers with zeros after the steps that they stand for are the slots of these
slots_of : (f : Step → ℕ) (steps : List Step) (xs : List ℕ) (k : ℕ) → length xs ≡ 1024 → length steps ≡ k → SameBelow xs (slots f steps) k
    → ((j : ℕ) → k ≤ j → get_or xs j 0 ≡ 0) → xs ≡ slots f steps
slots_of f steps xs k long here below end = ext_get_or 0 xs (slots f steps) (long ∙ sym (slots-length f steps)) at
  where
    at : (i : ℕ) → i < length xs → get_or xs i 0 ≡ get_or (slots f steps) i 0
    at i l = go (lt_or_le i k)
      where
        go : (i < k) ⊎ (k ≤ i) → get_or xs i 0 ≡ get_or (slots f steps) i 0
        go (inl m) = below i m
        go (inr m) = end i m ∙ sym (slots_end f steps i (omega (arith, m, here)))

module _ {I : Type 0} (w : Walker I) (path : List ℕ) (depth : ℕ) (atoms nexts : List ℕ) (was : StepsLeft w path depth atoms nexts)
    (long_a : length atoms ≡ 1024) (long_n : length nexts ≡ 1024) (deep : depth ≤ 1024) where
  abbrev steps : List Step
  steps = steps_of w.find (path_in w path depth)

  left_length : length (steps_of w.find (path_in w path depth)) ≡ depth
  left_length = sym (ap (λ (ss : List Step). length ss) was.steps) ∙ steps_length atoms nexts depth

  -- the steps of the first nodes are the slots of the path that these stand for
  pub slots_left : (atoms ≡ slots (λ t. t.atom) (steps_of w.find (path_in w path depth))) × (nexts ≡ slots (λ t. t.next) (steps_of w.find (path_in w path depth)))
  slots_left =
      let as_slots : steps_in (slots (λ t. t.atom) steps) (slots (λ t. t.next) steps) depth ≡ steps =
      subst (λ (k : ℕ). steps_in (slots (λ t. t.atom) steps) (slots (λ t. t.next) steps) k ≡ steps) left_length (steps_back steps (omega (arith, left_length, deep))) in
      let same = same_steps atoms nexts (slots (λ t. t.atom) steps) (slots (λ t. t.next) steps) depth (was.steps ∙ sym as_slots) in
      (slots_of (λ t. t.atom) steps atoms depth long_a left_length same.0 was.atoms_end, slots_of (λ t. t.next) steps nexts depth long_n left_length same.1 was.nexts_end)
