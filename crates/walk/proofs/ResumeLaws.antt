-- Going on with a session: its path entered again step by step, the last node, and what comes back from below.
use Prim.Native.Nat.{ℕ, zero, suc, ◌+◌, ◌-◌, ◌≤◌, ◌<◌}
use mathlib.Core.Bool.{Bool, true, false, cond, ◌&&◌}
use mathlib.Core.List.{List, [], ◌∷◌}
use mathlib.Core.Option.{Option, none, some}
use mathlib.Core.Path.{◌≡◌, refl, sym, ap, subst, ◌∙◌}
use native.Mathlib.Omega.{arith}
use Rattle.std.specs.Prelude.{Option as Answered, Some, None}
use lib.Dec.{T, eqb, ltb, leb}
use borrow.Author.Tests.{ltb-true, leb-true, eqb-true, leb-false, lt-ltb, le-leb, lt-leb, eq-eqb, ne_eqb}
use lib.ListN.{length, drop, get_or, set}
use Rattle.search.specs.Ground.{Found, closed, opened, split}
use Rattle.search.specs.Machine.{Branch, Place, entered, back, next_path}
use Rattle.search.specs.Session.{Step, Standing, refuted, satisfied, exhausted, Session, step_taken, node_taken, is_root, is_over, path_of, node_of, place_of}
use Rattle.store.specs.terms.Store.{Store, Undone, logged}
use Rattle.walk.specs.terms.Trail.{AtEntry}
use Rattle.walk.specs.terms.Walker.{Walker, Run}
use Rattle.walk.specs.terms.Path.{node_at, next_at, mark_at, deepest_at, PathKept, Turned, site_at, alts_at, entry_at, path_in, next_in}
use Rattle.walk.specs.terms.Place.{bits_in, place_in, Parted, Reached, Trying, Making}
use Rattle.walk.specs.terms.Walk.{AllShut, Leaves, Ended}
use Rattle.walk.specs.Numbers.{standing_by, steps_in, session_of}
use Rattle.walk.specs.terms.Resume.{is_taken, closed_stands, open_stands, split_stands, last_from, last_of, last_in, GoneOn, Resumes, GoesOn}
use Rattle.walk.specs.declared.answer.Found.{Found as Told}
use Rattle.walk.specs.declared.answer.Found.TheVariants.{Closed as ToldClosed, Open as ToldOpen, Split as ToldSplit}
use Rattle.walk.specs.declared.answer.Walked.{Walked}
use Rattle.walk.specs.declared.answer.Walked.TheVariants.{Shut, Opened, Exhausted as LimitMet}
use Rattle.walk.proofs.PathLaws.{site_same, path_same, turned}
use Rattle.walk.proofs.TrailLaws.{at_start, next_of, next_as}
use Rattle.walk.proofs.PlaceLaws.{named_kept, split_same, Split-Parted}
use Rattle.walk.proofs.WalkLaws.{split_unopened, visit_open, visit_closed, closed_ended, passes, passes_ended, leaves_as, ended_as, after_mark, after_before, after_logs, after-Parted, after_tries, root_walks}

-- ---- the verdict by its number

pub standing_exhausted : (n : ℕ) → 1 < n → standing_by n ≡ exhausted
standing_exhausted zero l = absurd (omega arith)
standing_exhausted (suc zero) l = absurd (omega arith)
standing_exhausted (suc (suc n)) l = refl

pub standing_refuted : (n : ℕ) → (n ≡ 1 → ⊥) → n ≤ 1 → standing_by n ≡ refuted
standing_refuted zero ne l = refl
standing_refuted (suc zero) ne l = absurd (ne refl)
standing_refuted (suc (suc n)) ne l = absurd (omega arith)

-- ---- whether a session may stand there, test by test

module _ (standing depth next : ℕ) where
  pub closed_satisfied : standing ≡ 1 → false ≡ closed_stands (standing_by standing) depth next
  closed_satisfied e = rw e

  pub closed_tried : 0 < next → false ≡ closed_stands (standing_by standing) depth next
  closed_tried l = go (standing_by standing)
    where
      go : (s : Standing) → false ≡ closed_stands s depth next
      go refuted = rw (ne_eqb next 0 (λ e. omega (arith, e)))
      go satisfied = refl
      go exhausted = sym (ne_eqb next 0 (λ e. omega (arith, e)))

  pub closed_exhausted : next ≡ 0 → 1 < standing → true ≡ closed_stands (standing_by standing) depth next
  closed_exhausted e l = rw (standing_exhausted standing l) (sym (eq-eqb next 0 e))

  pub closed_refuted : (standing ≡ 1 → ⊥) → standing ≤ 1 → next ≡ 0 → eqb depth 0 ≡ closed_stands (standing_by standing) depth next
  closed_refuted ne l e = rw (standing_refuted standing ne l, eq-eqb next 0 e)

pub open_refuted : (standing next : ℕ) → standing ≡ 0 → false ≡ open_stands (standing_by standing) next
open_refuted standing next e = rw e

pub open_on : (standing next : ℕ) → (standing ≡ 0 → ⊥) → eqb next 0 ≡ open_stands (standing_by standing) next
open_on zero next ne = absurd (ne refl)
open_on (suc zero) next ne = refl
open_on (suc (suc n)) next ne = refl

module _ (ds : List ℕ) (standing depth next : ℕ) where
  pub split_satisfied : standing ≡ 1 → false ≡ split_stands (standing_by standing) depth ds next
  split_satisfied e = rw e

  pub split_exhausted : 1 < standing → leb next (length ds) ≡ split_stands (standing_by standing) depth ds next
  split_exhausted l = rw (standing_exhausted standing l)

  pub split_past : leb next (length ds) ≡ false → false ≡ split_stands (standing_by standing) depth ds next
  split_past e = go (standing_by standing)
    where
      go : (s : Standing) → false ≡ split_stands s depth ds next
      go refuted = rw e
      go satisfied = refl
      go exhausted = sym e

  module _ (unlike : standing ≡ 1 → ⊥) (few : standing ≤ 1) (reached : leb next (length ds) ≡ true) where
    pub split_deep : 0 < depth → false ≡ split_stands (standing_by standing) depth ds next
    split_deep l = rw (standing_refuted standing unlike few, reached, ne_eqb depth 0 (λ e. omega (arith, e)))

    pub split_root : depth ≡ 0 → leb (length ds) next ≡ split_stands (standing_by standing) depth ds next
    split_root e = rw (standing_refuted standing unlike few, reached, eq-eqb depth 0 e)

-- ---- an entry by its number

pub not_first : (ds : List ℕ) (next a : ℕ) → next ≡ 0 → false ≡ is_taken ds next a
not_first ds next a e = rw e

pub not_past : (ds : List ℕ) (next a : ℕ) → 0 < next → length ds ≤ next - 1 → false ≡ is_taken ds next a
not_past ds next a some_next past = rw (lt-ltb 0 next some_next, lt-leb next (length ds) (omega arith))

pub taken_as : (ds : List ℕ) (next a b : ℕ) → 0 < next → next - 1 < length ds → b ≡ get_or ds (next - 1) 0 → eqb b a ≡ is_taken ds next a
taken_as ds next a b some_next inside e = rw (lt-ltb 0 next some_next, le-leb next (length ds) (omega arith), e)

taken_parts : (a b c : Bool) → (a && b && c) ≡ true → (a ≡ true) × (b ≡ true) × (c ≡ true)
taken_parts true true true e = (refl, refl, refl)
taken_parts true true false e = absurd (subst T (sym e) tt)
taken_parts true false c e = absurd (subst T (sym e) tt)
taken_parts false b c e = absurd (subst T (sym e) tt)

pub taken_some : (ds : List ℕ) (next a : ℕ) → is_taken ds next a ≡ true → 0 < next
taken_some ds next a e = ltb-true 0 next (taken_parts (ltb 0 next) (leb next (length ds)) (eqb (get_or ds (next - 1) 0) a) e).0

-- ---- where a session stands: its path, then its last node

module _ {I : Type 0} (find : List ℕ → Found I) where
  place_none : (s : Session) → path_of find s.path ≡ none → place_of find s ≡ none
  unfolding place_of
  place_none s e = rw (place_of, e)

  pub place_last : (s : Session) (bs : List (Branch I)) → path_of find s.path ≡ some bs → place_of find s ≡ last_of bs (find (entered bs)) s.standing s.next
  unfolding place_of
  place_last s bs e = node_is (node_taken (find (entered bs)) s.next) refl
    where
      node_is : (o : Option (Found I)) → node_taken (find (entered bs)) s.next ≡ o → place_of find s ≡ last_from bs s.standing o
      node_is none gone =
          let none_there : node_of find bs s.next ≡ none = rw (node_of, gone) in
          rw (place_of, e, none_there)
      node_is (some f) found =
          let there : node_of find bs s.next ≡ some (record { path = bs; found = f }) = rw (node_of, found) in
          rw (place_of, e, there)

  -- one step after a path
  abbrev on_step : Step → Option (List (Branch I)) → Option (List (Branch I))
  on_step s none = none
  on_step s (some bs) = step_taken (find (entered bs)) s bs

  path_step : (s : Step) (steps : List Step) → path_of find (s ∷ steps) ≡ on_step s (path_of find steps)
  path_step s steps = go (path_of find steps)
    where
      go : (o : Option (List (Branch I))) → ◌≡◌ {A = Option (List (Branch I))} (elim o [ none ↦ none | some bs ↦ step_taken (find (entered bs)) s bs ]) (on_step s o)
      go none = refl
      go (some bs) = refl

  module _ (atoms nexts : List ℕ) where
    steps_on : (depth : ℕ) (o : Option (List (Branch I))) → path_of find (steps_in atoms nexts depth) ≡ o
        → path_of find (steps_in atoms nexts (suc depth)) ≡ on_step (record { atom = get_or atoms depth 0; next = get_or nexts depth 0 }) o
    unfolding steps_in
    steps_on depth o e =
        let s : Step = record { atom = get_or atoms depth 0; next = get_or nexts depth 0 } in
        path_step s (steps_in atoms nexts depth) ∙ ap (on_step s) e

    -- steps of which the first ones are none of the walk
    none_on : (i : ℕ) → path_of find (steps_in atoms nexts i) ≡ none → (k n : ℕ) → n ≡ k + i → path_of find (steps_in atoms nexts n) ≡ none
    none_on i e zero n same =
        let here : i ≡ n = omega (arith, same) in
        subst (λ (j : ℕ). path_of find (steps_in atoms nexts j) ≡ none) here e
    none_on i e (suc k) zero same = absurd (omega (arith, same))
    none_on i e (suc k) (suc n) same = steps_on n none (none_on i e k n (omega (arith, same)))

    module _ (standing count steps next deepest depth : ℕ) (bs : List (Branch I)) (so_far : path_of find (steps_in atoms nexts depth) ≡ some bs) (more : depth < steps) where
      -- the next entry is none of the walk
      nowhere : step_taken (find (entered bs)) (record { atom = get_or atoms depth 0; next = get_or nexts depth 0 }) bs ≡ none → place_of find (session_of standing count atoms nexts steps next deepest) ≡ none
      nowhere e =
          place_none (session_of standing count atoms nexts steps next deepest)
          (none_on (suc depth) (steps_on depth (some bs) so_far ∙ e) (steps - suc depth) steps (omega arith))

      pub nowhere_entry : (i : I) (ds : List ℕ) → find (entered bs) ≡ split i ds → is_taken ds (get_or nexts depth 0) (get_or atoms depth 0) ≡ false
          → place_of find (session_of standing count atoms nexts steps next deepest) ≡ none
      nowhere_entry i ds e out = nowhere (rw (e, out))

    pub entry_again : (depth : ℕ) (bs : List (Branch I)) → path_of find (steps_in atoms nexts depth) ≡ some bs
        → (i : I) (ds : List ℕ) → find (entered bs) ≡ split i ds → is_taken ds (get_or nexts depth 0) (get_or atoms depth 0) ≡ true
        → path_of find (steps_in atoms nexts (depth + 1)) ≡ some (record { site = i; atom = get_or atoms depth 0; rest = drop (get_or nexts depth 0) ds } ∷ bs)
    entry_again depth bs so_far i ds e here =
        let one : depth + 1 ≡ suc depth = omega arith in
        let taken : step_taken (find (entered bs)) (record { atom = get_or atoms depth 0; next = get_or nexts depth 0 }) bs
        ≡ some (record { site = i; atom = get_or atoms depth 0; rest = drop (get_or nexts depth 0) ds } ∷ bs) = rw (e, here) in
        ap (λ (j : ℕ). path_of find (steps_in atoms nexts j)) one ∙ steps_on depth (some bs) so_far ∙ taken

-- ---- the last node

leb_step : (a b : ℕ) → leb a b ≡ leb (suc a) (suc b)
leb_step a b = go (leb a b) refl
  where
    go : (t : Bool) → leb a b ≡ t → leb a b ≡ leb (suc a) (suc b)
    go true e = e ∙ sym (le-leb (suc a) (suc b) (omega (arith, leb-true a b e)))
    go false e = e ∙ sym (lt-leb (suc a) (suc b) (omega (arith, leb-false a b e)))

over_at : {I : Type 0} (i : I) (ds : List ℕ) (next : ℕ) → is_over (split i (drop next ds)) ≡ leb (length ds) next
over_at i [] zero = sym (le-leb 0 0 (omega arith))
over_at i [] (suc n) = sym (le-leb 0 (suc n) (omega arith))
over_at i (d ∷ ds) zero = sym (lt-leb (suc (length ds)) 0 (omega arith))
over_at i (d ∷ ds) (suc n) = over_at i ds n ∙ leb_step (length ds) n

module _ {I : Type 0} (bs : List (Branch I)) (depth : ℕ) (root_is : is_root bs ≡ eqb depth 0) where
  abbrev here : Found I → Option (Place I)
  here f = some (record { path = bs; found = f })

  pub last_closed : (standing : Standing) (next : ℕ) → last_of bs closed standing next ≡ cond {A = Option (Place I)} (closed_stands standing depth next) (here closed) none
  last_closed refuted next = go (eqb next 0) (eqb depth 0) root_is
    where
      go : (t u : Bool) → is_root bs ≡ u → last_from bs refuted (cond {A = Option (Found I)} t (some closed) none) ≡ cond {A = Option (Place I)} (t && u) (here closed) none
      go true true e = rw e
      go true false e = rw e
      go false u e = refl
  last_closed satisfied next = go (eqb next 0)
    where
      go : (t : Bool) → last_from bs satisfied (cond {A = Option (Found I)} t (some closed) none) ≡ none
      go true = refl
      go false = refl
  last_closed exhausted next = go (eqb next 0)
    where
      go : (t : Bool) → last_from bs exhausted (cond {A = Option (Found I)} t (some closed) none) ≡ cond {A = Option (Place I)} t (here closed) none
      go true = refl
      go false = refl

  pub last_open : (bits : List Bool) (standing : Standing) (next : ℕ) → last_of bs (opened bits) standing next ≡ cond {A = Option (Place I)} (open_stands standing next) (here (opened bits)) none
  last_open bits refuted next = go (eqb next 0) (eqb depth 0) root_is
    where
      go : (t u : Bool) → is_root bs ≡ u → last_from bs refuted (cond {A = Option (Found I)} t (some (opened bits)) none) ≡ none
      go true true e = rw e
      go true false e = rw e
      go false u e = refl
  last_open bits satisfied next = go (eqb next 0)
    where
      go : (t : Bool) → last_from bs satisfied (cond {A = Option (Found I)} t (some (opened bits)) none) ≡ cond {A = Option (Place I)} t (here (opened bits)) none
      go true = refl
      go false = refl
  last_open bits exhausted next = go (eqb next 0)
    where
      go : (t : Bool) → last_from bs exhausted (cond {A = Option (Found I)} t (some (opened bits)) none) ≡ cond {A = Option (Place I)} t (here (opened bits)) none
      go true = refl
      go false = refl

  pub last_split : (i : I) (ds : List ℕ) (standing : Standing) (next : ℕ)
      → last_of bs (split i ds) standing next ≡ cond {A = Option (Place I)} (split_stands standing depth ds next) (here (split i (drop next ds))) none
  last_split i ds refuted next = go (leb next (length ds)) (eqb depth 0) (leb (length ds) next) root_is (over_at i ds next)
    where
      go : (t u v : Bool) → is_root bs ≡ u → is_over (split i (drop next ds)) ≡ v
          → last_from bs refuted (cond {A = Option (Found I)} t (some (split i (drop next ds))) none) ≡ cond {A = Option (Place I)} (t && (u && v)) (here (split i (drop next ds))) none
      go true u v e f = rw (e, f)
      go false u v e f = refl
  last_split i ds satisfied next = go (leb next (length ds))
    where
      go : (t : Bool) → last_from bs satisfied (cond {A = Option (Found I)} t (some (split i (drop next ds))) none) ≡ none
      go true = refl
      go false = refl
  last_split i ds exhausted next = go (leb next (length ds))
    where
      go : (t : Bool) → last_from bs exhausted (cond {A = Option (Found I)} t (some (split i (drop next ds))) none) ≡ cond {A = Option (Place I)} t (here (split i (drop next ds))) none
      go true = refl
      go false = refl

pub root_at : {I : Type 0} (w : Walker I) (path : List ℕ) (depth : ℕ) → is_root (path_in w path depth) ≡ eqb depth 0
unfolding path_in
root_at w path zero = sym (eq-eqb 0 0 refl)
root_at w path (suc i) = sym (ne_eqb (suc i) 0 (λ e. omega (arith, e)))

-- ---- a node turned to another alternative

module _ {I : Type 0} (w : Walker I) (path : List ℕ) (depth next : ℕ) (put : List ℕ) (t : Turned path depth next put) where
  turned_site : site_at w put depth ≡ site_at w path depth
  turned_site = site_same w path put depth t.number_is t.four

  turned_path : path_in w put depth ≡ path_in w path depth
  turned_path = path_same w path put depth t.before

  pub turned_parted : (facts : List ℕ) → length put ≡ 9227 → Parted w facts path depth → Parted w facts put depth
  turned_parted facts size node =
      record {
        room = record { size = size; deep = node.room.deep };
        kept = subst w.Kept (sym turned_path) node.kept;
        named = named_kept w path put depth t.before node.named;
        store = subst (Store w.capacity facts) (sym t.mark_is) node.store;
        at_split =
            split_same w path put depth (logged facts w.capacity (mark_at path depth)) (logged facts w.capacity (mark_at put depth)) turned_site turned_path
            (ap (logged facts w.capacity) (sym t.mark_is)) node.at_split;
      }

  -- a run that begins there
  abbrev start : Place I
  start = record { path = path_in w path depth; found = split (w.instance (site_at w path depth)) (drop next (alts_at w path depth)) }

  turned_tries : (count limit : ℕ) → Trying w (record { start = start; base = count; brought = deepest_at path; limit = limit }) put depth count
  turned_tries count limit =
      let same : next_path start ≡ next_in w put depth = rw (alts_at, turned_site, turned_path, t.next_is) in
      let at : AtEntry w.find start (deepest_at path) count count start (deepest_at put) =
      subst (AtEntry w.find start (deepest_at path) count count start) (sym t.deepest_is) (at_start w.find start (deepest_at path) count) in
      next_as w.find start count count (next_path start) (next_in w put depth) same
      (next_of w.find start count count start (split_unopened (w.instance (site_at w path depth)) (drop next (alts_at w path depth))) at)

-- a split place taken back to its node's own facts, and the node turned to an alternative
pub record Back {I : Type 0} (w : Walker I) (facts path : List ℕ) (depth done n turn : ℕ) (own put : List ℕ) : Type 0 where
  pub at : Reached w facts path depth done (ToldSplit n)
  pub undone : Undone w.capacity facts (mark_at path depth) own
  pub turned : Turned path depth turn put
  pub size : length put ≡ 9227

pub back_parted : {I : Type 0} {w : Walker I} {facts path : List ℕ} {depth done n turn : ℕ} {own put : List ℕ} → Back w facts path depth done n turn own put → Parted w own put depth
back_parted {I} {w} {facts} {path} {depth} {done} {n} {turn} {own} {put} b =
    turned_parted w path depth turn put b.turned own b.size (Split-Parted w facts path depth done n b.at own b.undone)

-- rewinding leaves it so
pub rewound : {I : Type 0} (w : Walker I) {facts path : List ℕ} {depth done : ℕ} (x : Told) (n turn size : ℕ) (own put : List ℕ) → Reached w facts path depth done x → x ≡ ToldSplit n → w.capacity ≡ size
    → Undone size facts (mark_at path depth) own → put ≡ set path (node_at depth + 6) turn → length put ≡ length path → Back w facts path depth done n turn own put
rewound w {facts} {path} {depth} {done} x n turn size own put at split_is room undone put_is long =
    record {
      at = subst (Reached w facts path depth done) split_is at;
      undone = subst (λ (j : ℕ). Undone j facts (mark_at path depth) own) (sym room) undone;
      turned = subst (Turned path depth turn) (sym put_is) (turned path depth at.room turn);
      size = long ∙ at.room.size;
    }

-- ---- what was said from one state of the node on, from an earlier one

module _ {I : Type 0} (w : Walker I) (facts path now_facts now : List ℕ) (depth done count c limit : ℕ) where
  rebased_leaves : ((i : ℕ) → i ≤ done → logged now_facts w.capacity i ≡ logged facts w.capacity i) → PathKept path depth now → count ≤ c
      → (y : Walked) (last_facts last : List ℕ) → Leaves w now_facts now depth done c limit y last_facts last → Leaves w facts path depth done count limit y last_facts last
  rebased_leaves logs before grows (Shut d) last_facts last e =
      record {
        grows = omega (arith, e.grows, grows);
        within = e.within;
        undone = record { store = e.undone.store; kept = λ i l. e.undone.kept i l ∙ logs i l };
        before = λ i l. e.before i l ∙ before i l;
      }
  rebased_leaves logs before grows (Opened d f) last_facts last e = e
  rebased_leaves logs before grows (LimitMet f) last_facts last e = e

  rebased_ended : PathKept path depth now → (r : Run I) (y : Walked) (last_facts last : List ℕ) → Ended w r now depth y last_facts last → Ended w r path depth y last_facts last
  rebased_ended before r (Shut d) last_facts last e =
      next_as w.find r.start r.base d (back (path_in w now depth)) (back (path_in w path depth)) (ap back (path_same w path now depth before)) e
  rebased_ended before r (Opened d f) last_facts last e = e
  rebased_ended before r (LimitMet f) last_facts last e = e

-- all alternatives tried, the facts go back
pub off_shut : {I : Type 0} (w : Walker I) (facts path : List ℕ) (depth done count limit c : ℕ) (tried_facts tried : List ℕ) → done ≤ mark_at path depth
    → AllShut w facts path depth (mark_at path depth) count limit c tried_facts tried → (left : List ℕ) → Undone w.capacity tried_facts done left
    → AllShut w facts path depth done count limit c left tried
off_shut w facts path depth done count limit c tried_facts tried part shut left undone =
    record {
      grows = shut.grows;
      within = shut.within;
      undone = record { store = undone.store; kept = λ i l. undone.kept i l ∙ shut.undone.kept i (omega arith) };
      before = shut.before;
    }

-- ---- at the last node

pub split_found : {I : Type 0} (w : Walker I) (facts path : List ℕ) (depth done n : ℕ) → Reached w facts path depth done (ToldSplit n)
    → w.find (entered (path_in w path depth)) ≡ split (w.instance (site_at w path depth)) (alts_at w path depth)
split_found w facts path depth done n at = at.found ∙ ap (λ (j : ℕ). split (w.instance (site_at w path depth)) (drop j (alts_at w path depth))) at.ready.2

module _ {I : Type 0} (w : Walker I) (facts path : List ℕ) (depth done count limit standing next : ℕ) where
  as_told : (f : Found I) → w.find (entered (path_in w path depth)) ≡ f → (p : Option (Place I)) → last_of (path_in w path depth) f (standing_by standing) next ≡ p → last_in w path depth standing next ≡ p
  as_told f found p e = ap (λ (g : Found I). last_of (path_in w path depth) g (standing_by standing) next) found ∙ e

  closed_as : (n : ℕ) → Reached w facts path depth done (ToldClosed n) → (b : Bool) → b ≡ closed_stands (standing_by standing) depth next
      → last_in w path depth standing next ≡ cond {A = Option (Place I)} b (some (place_in w facts path depth (ToldClosed n))) none
  closed_as n at b e =
      as_told closed at.found (cond {A = Option (Place I)} b (some (place_in w facts path depth (ToldClosed n))) none)
      (last_closed (path_in w path depth) depth (root_at w path depth) (standing_by standing) next ∙ ap (λ (t : Bool). cond {A = Option (Place I)} t (some (place_in w facts path depth (ToldClosed n))) none) (sym e))

  pub closed_nowhere : (n : ℕ) → Reached w facts path depth done (ToldClosed n) → false ≡ closed_stands (standing_by standing) depth next → last_in w path depth standing next ≡ none
  closed_nowhere n at e = closed_as n at false e

  pub closed_goes : (n : ℕ) → Reached w facts path depth done (ToldClosed n) → true ≡ closed_stands (standing_by standing) depth next → count ≤ limit
      → (left : List ℕ) → Undone w.capacity facts done left → GoneOn w (last_in w path depth standing next) facts path depth done count limit (Shut count) left path
  closed_goes n at e within left undone =
      let t : Place I = place_in w facts path depth (ToldClosed n) in
      record {
        start = t;
        stands = closed_as n at true e;
        leaves = visit_closed w facts path depth done count limit within left undone;
        ended = closed_ended w (record { start = t; base = count; brought = deepest_at path; limit = limit }) facts path depth count n (at_start w.find t (deepest_at path) count) left;
      }

  open_as : (n : ℕ) → Reached w facts path depth done (ToldOpen n) → (b : Bool) → b ≡ open_stands (standing_by standing) next
      → last_in w path depth standing next ≡ cond {A = Option (Place I)} b (some (place_in w facts path depth (ToldOpen n))) none
  open_as n at b e =
      as_told (opened (bits_in w facts)) at.found (cond {A = Option (Place I)} b (some (place_in w facts path depth (ToldOpen n))) none)
      (last_open (path_in w path depth) depth (root_at w path depth) (bits_in w facts) (standing_by standing) next
      ∙ ap (λ (t : Bool). cond {A = Option (Place I)} t (some (place_in w facts path depth (ToldOpen n))) none) (sym e))

  pub open_nowhere : (n : ℕ) → Reached w facts path depth done (ToldOpen n) → false ≡ open_stands (standing_by standing) next → last_in w path depth standing next ≡ none
  open_nowhere n at e = open_as n at false e

  pub open_goes : (n : ℕ) → Reached w facts path depth done (ToldOpen n) → true ≡ open_stands (standing_by standing) next → count ≤ limit
      → GoneOn w (last_in w path depth standing next) facts path depth done count limit (Opened count depth) facts path
  open_goes n at e within =
      let t : Place I = place_in w facts path depth (ToldOpen n) in
      record { start = t; stands = open_as n at true e; leaves = visit_open w facts path depth done count limit within n at; ended = at_start w.find t (deepest_at path) count }

  module _ (n : ℕ) (at : Reached w facts path depth done (ToldSplit n)) where
    split_as : (b : Bool) → b ≡ split_stands (standing_by standing) depth (alts_at w path depth) next
        → last_in w path depth standing next
        ≡ cond {A = Option (Place I)} b (some (record { path = path_in w path depth; found = split (w.instance (site_at w path depth)) (drop next (alts_at w path depth)) })) none
    split_as b e =
        let there : Option (Place I) = some (record { path = path_in w path depth; found = split (w.instance (site_at w path depth)) (drop next (alts_at w path depth)) }) in
        as_told (split (w.instance (site_at w path depth)) (alts_at w path depth)) (split_found w facts path depth done n at) (cond {A = Option (Place I)} b there none)
        (last_split (path_in w path depth) depth (root_at w path depth) (w.instance (site_at w path depth)) (alts_at w path depth) (standing_by standing) next
        ∙ ap (λ (t : Bool). cond {A = Option (Place I)} t there none) (sym e))

    pub split_nowhere : false ≡ split_stands (standing_by standing) depth (alts_at w path depth) next → last_in w path depth standing next ≡ none
    split_nowhere e = split_as false e

    pub split_goes : true ≡ split_stands (standing_by standing) depth (alts_at w path depth) next
        → (own : List ℕ) → Undone w.capacity facts (mark_at path depth) own → (put : List ℕ) → Turned path depth next put
        → (y : Walked) (last_facts last : List ℕ) → Leaves w own put depth done count limit y last_facts last
        → ((r : Run I) → r.limit ≡ limit → Trying w r put depth count → Ended w r put depth y last_facts last)
        → GoneOn w (last_in w path depth standing next) facts path depth done count limit y last_facts last
    split_goes e own undone put t y last_facts last leaves ended =
        let r : Run I = record { start = start w path depth next put t; base = count; brought = deepest_at path; limit = limit } in
        record {
          start = start w path depth next put t;
          stands = split_as true e;
          leaves = rebased_leaves w facts path own put depth done count count limit (λ i l. undone.kept i (omega (arith, at.ready.0))) t.before (omega arith) y last_facts last leaves;
          ended = rebased_ended w facts path own put depth done count count limit t.before r y last_facts last (ended r refl (turned_tries w path depth next put t count limit));
        }

-- ---- an entry made again, and what comes back from below

module _ {I : Type 0} {w : Walker I} {facts path : List ℕ} {depth done n : ℕ} {own put : List ℕ} (next : ℕ) (turned_back : Back w facts path depth done n (next - 1) own put) where
  abbrev at : Reached w facts path depth done (ToldSplit n)
  at = turned_back.at

  abbrev t : Turned path depth (next - 1) put
  t = turned_back.turned

  abbrev undone : Undone w.capacity facts (mark_at path depth) own
  undone = turned_back.undone

  abbrev again_parted : Parted w own put depth
  again_parted = back_parted turned_back

  pub again_next : (a : ℕ) → is_taken (alts_at w path depth) next a ≡ true → (next_at put depth < length (alts_at w put depth)) × (a ≡ get_or (alts_at w put depth) (next_at put depth) 0)
  again_next a here =
      let parts = taken_parts (ltb 0 next) (leb next (length (alts_at w path depth))) (eqb (get_or (alts_at w path depth) (next - 1) 0) a) here in
      let inside : next - 1 < length (alts_at w path depth) = omega (arith, ltb-true 0 next parts.0, leb-true next (length (alts_at w path depth)) parts.1) in
      let same : a ≡ get_or (alts_at w path depth) (next - 1) 0 = sym (eqb-true (get_or (alts_at w path depth) (next - 1) 0) a parts.2) in
      rw (alts_at, turned_site w path depth (next - 1) put t, t.next_is) (inside, same)

  module _ {x : Told} {made_facts made : List ℕ} (went : Making w own put depth 0 x made_facts made) where
    -- the path of a session is no longer than the figure that it brings: entered again, it changes nothing
    pub again_deepest : depth < deepest_at path → deepest_at made ≡ deepest_at path
    again_deepest deep = omega (arith, went.passed.deepest_is, t.deepest_is)

    -- the steps so far and this one stand for the path made
    pub again_path : (atoms nexts : List ℕ) → next ≡ get_or nexts depth 0 → path_of w.find (steps_in atoms nexts depth) ≡ some (path_in w path depth)
        → is_taken (alts_at w path depth) next (get_or atoms depth 0) ≡ true → path_of w.find (steps_in atoms nexts (depth + 1)) ≡ some (path_in w made (depth + 1))
    again_path atoms nexts next_is so_far here =
        let a : ℕ = get_or atoms depth 0 in
        let ds : List ℕ = alts_at w path depth in
        let parts = taken_parts (ltb 0 next) (leb next (length ds)) (eqb (get_or ds (next - 1) 0) a) here in
        let one : suc (next - 1) ≡ next = omega (arith, ltb-true 0 next parts.0) in
        let same : get_or ds (next - 1) 0 ≡ a = eqb-true (get_or ds (next - 1) 0) a parts.2 in
        let entry : entry_at w put depth ≡ record { site = w.instance (site_at w path depth); atom = a; rest = drop next ds } =
        rw (alts_at, turned_site w path depth (next - 1) put t, t.next_is, same, one) in
        let whole : path_in w made (depth + 1) ≡ record { site = w.instance (site_at w path depth); atom = a; rest = drop next ds } ∷ path_in w path depth =
        went.path_is ∙ rw (entry, turned_path w path depth (next - 1) put t) in
        let taken : is_taken ds (get_or nexts depth 0) a ≡ true = subst (λ (j : ℕ). is_taken ds j a ≡ true) next_is here in
        entry_again w.find atoms nexts depth (path_in w path depth) so_far (w.instance (site_at w path depth)) ds (split_found w facts path depth done n at) taken
        ∙ ap (λ (j : ℕ). some (record { site = w.instance (site_at w path depth); atom = a; rest = drop j ds } ∷ path_in w path depth)) (sym next_is)
        ∙ ap some (sym whole)

    module _ {o : Option (Place I)} {mark count limit : ℕ} (mark_is : mark ≡ mark_at put depth) {y : Walked} {after_facts after : List ℕ}
        (below : GoneOn w o made_facts made (depth + 1) mark count limit y after_facts after) where
      -- the run that has gone on, and how it ended below
      abbrev run : Run I
      run = record { start = below.start; base = count; brought = deepest_at path; limit = limit }

      run-Ended : depth < deepest_at path → Ended w run made (depth + 1) y after_facts after
      run-Ended deep =
          subst (λ (d : ℕ). Ended w (record { start = below.start; base = count; brought = d; limit = limit }) made (depth + 1) y after_facts after) (again_deepest deep) below.ended

      -- what is open or due below is so here
      pub again_passes : depth < deepest_at path → ((c : ℕ) → y ≡ Shut c → ⊥) → GoneOn w o facts path depth done count limit y after_facts after
      again_passes deep unshut =
          record {
            start = below.start;
            stands = below.stands;
            leaves = passes w after_facts after limit made_facts made (depth + 1) mark count facts path depth done count y unshut below.leaves;
            ended = passes_ended w after_facts after run made (depth + 1) path depth y unshut (run-Ended deep);
          }

      -- all is shut below: the alternatives left here are tried
      module _ {c : ℕ} (shut_is : y ≡ Shut c) (long : length after ≡ 9227) where
        shut : AllShut w made_facts made (depth + 1) (mark_at put depth) count limit c after_facts after
        shut = leaves_as w made_facts made (depth + 1) mark (mark_at put depth) count limit y (Shut c) after_facts after mark_is shut_is below.leaves

        same_mark : mark_at after depth ≡ mark_at put depth
        same_mark = after_mark w own put depth again_parted 0 x made_facts made went limit c after_facts after long shut

        pub again_within : c ≤ limit
        again_within = shut.within

        pub again_part : done ≤ mark_at after depth
        again_part = omega (arith, same_mark, t.mark_is, at.ready.0)

        pub again_node : Parted w after_facts after depth
        again_node = after-Parted w own put depth again_parted 0 x made_facts made went limit c after_facts after long shut

        logs : (i : ℕ) → i ≤ done → logged after_facts w.capacity i ≡ logged facts w.capacity i
        logs i l =
            after_logs w own put depth again_parted 0 x made_facts made went limit c after_facts after long shut i (omega (arith, t.mark_is, at.ready.0))
            ∙ undone.kept i (omega (arith, at.ready.0))

        before : PathKept path depth after
        before i l = after_before w own put depth again_parted 0 x made_facts made went limit c after_facts after long shut i l ∙ t.before i l

        pub again_on : depth < deepest_at path → (z : Walked) (last_facts last : List ℕ) → Leaves w after_facts after depth done c limit z last_facts last
            → ((r : Run I) → r.limit ≡ limit → Trying w r after depth c → Ended w r after depth z last_facts last)
            → GoneOn w o facts path depth done count limit z last_facts last
        again_on deep z last_facts last leaves ended =
            record {
              start = below.start;
              stands = below.stands;
              leaves = rebased_leaves w facts path after_facts after depth done count c limit logs before shut.grows z last_facts last leaves;
              ended =
                  rebased_ended w facts path after_facts after depth done count c limit before run z last_facts last
                  (ended run refl
                  (after_tries w own put depth again_parted 0 x made_facts made went limit c after_facts after long shut run
                  (ended_as w run made (depth + 1) y (Shut c) after_facts after shut_is (run-Ended deep))));
            }

-- ---- the answers that a match tells apart

-- a step below a node that is not split
pub leaf_nowhere : {I : Type 0} (w : Walker I) (facts path : List ℕ) (depth done : ℕ) (x : Told) → Reached w facts path depth done x → ((n : ℕ) → x ≡ ToldSplit n → ⊥)
    → (atoms nexts : List ℕ) (standing count steps next deepest : ℕ) → path_of w.find (steps_in atoms nexts depth) ≡ some (path_in w path depth) → depth < steps
    → place_of w.find (session_of standing count atoms nexts steps next deepest) ≡ none
leaf_nowhere w facts path depth done (ToldClosed n) at leaf atoms nexts standing count steps next deepest so_far more =
    nowhere w.find atoms nexts standing count steps next deepest depth (path_in w path depth) so_far more (rw at.found)
leaf_nowhere w facts path depth done (ToldOpen n) at leaf atoms nexts standing count steps next deepest so_far more =
    nowhere w.find atoms nexts standing count steps next deepest depth (path_in w path depth) so_far more (rw at.found)
leaf_nowhere w facts path depth done (ToldSplit n) at leaf atoms nexts standing count steps next deepest so_far more = absurd (leaf n refl)

-- the place where a session stands is that at its last node
pub resumes_last : (I : Type 0) (w : Walker I) (facts path : List ℕ) (depth done count limit : ℕ) (atoms nexts : List ℕ) (standing steps next deepest : ℕ)
    → path_of w.find (steps_in atoms nexts depth) ≡ some (path_in w path depth) → depth ≡ steps
    → (x : Answered Walked) (left_facts left : List ℕ) → Resumes w (last_in w path depth standing next) facts path depth done count limit x left_facts left
    → Resumes w (place_of w.find (session_of standing count atoms nexts steps next deepest)) facts path depth done count limit x left_facts left
resumes_last I w facts path depth done count limit atoms nexts standing steps next deepest so_far over x left_facts left h =
    let whole = subst (λ (j : ℕ). path_of w.find (steps_in atoms nexts j) ≡ some (path_in w path depth)) over so_far in
    subst (λ (o : Option (Place I)). Resumes w o facts path depth done count limit x left_facts left)
    (sym (place_last w.find (session_of standing count atoms nexts steps next deepest) (path_in w path depth) whole)) h

-- ---- a whole run on

-- at the root no step is taken yet
pub root_so_far : {I : Type 0} (w : Walker I) (path atoms nexts : List ℕ) → path_of w.find (steps_in atoms nexts 0) ≡ some (path_in w path 0)
unfolding steps_in path_in
root_so_far w path atoms nexts = refl

module _ {I : Type 0} (w : Walker I) (o : Option (Place I)) (count limit : ℕ) where
  pub goes_on : (facts path : List ℕ) (done : ℕ) (x : Answered Walked) (left_facts left : List ℕ) → Resumes w o facts path 0 done count limit x left_facts left → GoesOn w o count (deepest_at path) limit x left_facts left
  goes_on facts path done None left_facts left h = h
  goes_on facts path done (Some y) left_facts left h =
      record {
        start = h.start;
        stands = h.stands;
        walks = root_walks w (record { start = h.start; base = count; brought = deepest_at path; limit = limit }) facts path done count y left_facts left h.leaves h.ended;
      }
