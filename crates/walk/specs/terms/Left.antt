-- What a walk leaves: its path written down in steps, and the session that its end stands for.
use Rattle.std.specs.Prelude.{ℕ, ◌≤◌, List, [], ◌∷◌, ◌≡◌, length, get_or}
use Rattle.search.specs.Ground.{split}
use Rattle.search.specs.Machine.{Branch, entered}
use Rattle.search.specs.Session.{refuted, satisfied, exhausted, Session, alts_found, steps_of}
use Rattle.walk.specs.terms.Walker.{Site, Walker, Run}
use Rattle.walk.specs.terms.Path.{next_at, deepest_at, site_at, alts_at, path_in}
use Rattle.walk.specs.Numbers.{steps_in}
use Rattle.walk.specs.declared.answer.Walked.{Walked}
use Rattle.walk.specs.declared.answer.Walked.TheVariants.{Shut, Opened, Exhausted as LimitMet}

module _ {I : Type 0} (w : Walker I) where
  -- what an engine shows of its walker: a site that a kept path enters an alternative of is split there, with all its alternatives
  abbrev pub Tied : Type 0
  Tied = (s : Site) (a : ℕ) (rest : List ℕ) (bs : List (Branch I)) → w.Named s → w.Kept (record { site = w.instance s; atom = a; rest = rest } ∷ bs)
      → w.find (entered bs) ≡ split (w.instance s) (w.alts s)

  -- node i is split as the walk finds it, at the site of its record
  pub record SplitHere (path : List ℕ) (i : ℕ) : Type 0 where
    pub listed : w.Named (site_at w path i)
    pub found : w.find (entered (path_in w path i)) ≡ split (w.instance (site_at w path i)) (alts_at w path i)

  -- the first nodes are written down in steps, with zeros after them
  pub record StepsLeft (path : List ℕ) (depth : ℕ) (atoms nexts : List ℕ) : Type 0 where
    pub steps : steps_in atoms nexts depth ≡ steps_of w.find (path_in w path depth)
    pub atoms_end : (j : ℕ) → depth ≤ j → get_or atoms j 0 ≡ 0
    pub nexts_end : (j : ℕ) → depth ≤ j → get_or nexts j 0 ≡ 0

  -- the session that a run leaves which ends so
  abbrev pub session_left : Run I → Walked → List ℕ → Session
  session_left r (Shut c) path = record { standing = refuted; count = c; path = []; next = length (alts_found (w.find [])); deepest = deepest_at path }
  session_left r (Opened c e) path = record { standing = satisfied; count = c; path = steps_of w.find (path_in w path e); next = 0; deepest = deepest_at path }
  session_left r (LimitMet e) path = record { standing = exhausted; count = r.limit; path = steps_of w.find (path_in w path e); next = next_at path e; deepest = deepest_at path }
