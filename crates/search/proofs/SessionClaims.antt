-- The claims of `specs/SessionClaims.antt`, proved: `SessionWalk` for the two walks of a ground problem, which agree.
use Prim.Native.Nat.{ℕ, ◌+◌, ◌≤◌}
use mathlib.Core.Bool.{Bool, true, false, cond}
use mathlib.Core.List.{List, [], ◌∷◌}
use mathlib.Core.Option.{Option, none, some}
use mathlib.Core.Path.{◌≡◌, refl, sym, ap, ap₂, subst, ◌∙◌}
use native.Mathlib.Omega.{arith}
use lib.Dec.{ltb}
use lib.ListN.{length}
use Rattle.lists.specs.Key.{Key}
use Rattle.lists.proofs.Member.{all_map}
use Rattle.search.specs.Ground.{Ground, Proper, Model, Marked}
use Rattle.search.specs.Relevancy.{find_r}
use Rattle.search.specs.Magic.{rewriting, find_m}
use Rattle.search.specs.Deepest.{Exact, Bounds}
use Rattle.search.specs.Machine.{Place, Outcome, Satisfied, Exhausted, last, root, entries, proceed}
use Rattle.search.specs.Session.{Session, place_of, stands_in, session_after, Called, declined, told, called}
use Rattle.search.specs.SessionRight.{Right, RunLeft}
use Rattle.search.specs.Trails.{SameFacts}
use Rattle.search.specs.SessionClaims.{find_by, Call, Kept, kept_after, first_kept, run_kept, after_calls, OneWalkKept, OriginKept, AnyOrigin}
use Rattle.search.proofs.Path.{Reached, place-Reached, entries-Reached, run_opened}
use Rattle.search.proofs.Sound.{path_short}
use Rattle.search.proofs.Model.{relevancy_sound}
use Rattle.search.proofs.OneTrail.{magic_same, same_facts, place_same, entries_same, outcome_same}
use Rattle.search.proofs.Deepest.{deep_stands_lem}
use Rattle.search.proofs.Session.{in_stands, stands_reached}
use Rattle.search.proofs.SessionRight.{in_right, stands_length}
use Rattle.search.proofs.SessionLeft.{run_left, call_told}
use Rattle.search.proofs.SessionWalk.{goes_on, proceed_over, session_over, stands_same, first_same, called_same}

module _ {I : Type 0} (k : Key I) (p : Ground I) where
  engine_called : (by : Bool) (s : Session) (further : ℕ) → called (find_by k p by) p.atoms s further ≡ called (find_r p) p.atoms s further
  engine_called true s further = called_same (find_r p) (find_m k p.atoms (rewriting p)) (magic_same k p) p.atoms s further
  engine_called false s further = refl

  engine_root : (by : Bool) → root (find_by k p by) ≡ root (find_r p)
  engine_root true = place_same (find_r p) (find_m k p.atoms (rewriting p)) (magic_same k p) [] tt
  engine_root false = refl

  engine_entries : (by : Bool) (n : ℕ) (t : Place I) → Reached (find_r p) t → entries (find_by k p by) n t ≡ entries (find_r p) n t
  engine_entries true n t r = entries_same (find_r p) (find_m k p.atoms (rewriting p)) (magic_same k p) n t r
  engine_entries false n t r = refl

  -- ---- calls after a run

  not_nowhere : (b : Bool) (o : Outcome) (s : Session) → cond b (declined 41) (told o s) ≡ declined 42 → ⊥
  not_nowhere true o s e = let z : ◌≡◌ {A = ℕ} 41 42 = cc in omega arith
  not_nowhere false o s e = let z : ◌≡◌ {A = ℕ} 0 1 = cc in omega arith

  told_is : (b : Bool) (x o : Outcome) (y s : Session) → cond b (declined 41) (told x y) ≡ told o s → (o ≡ x) × (s ≡ y)
  told_is true x o y s e = let z : ◌≡◌ {A = ℕ} 0 1 = cc in absurd (omega arith)
  told_is false x o y s e = (cc, (cc))

  -- where they have come to is where one run from t on comes to, from that count and figure
  record OneRunKept (t : Place I) (count d : ℕ) (x : Kept) : Type 0 where
    answer_is : x.answered ≡ proceed (find_r p) x.sum count t
    session_is : x.session ≡ session_after (find_r p) x.sum count d t
    always_stands : (by : Bool) (further : ℕ) → called (find_by k p by) p.atoms x.session further ≡ declined 42 → ⊥
    finished_again : ((n : ℕ) → x.answered ≡ Exhausted n → ⊥) → (by : Bool) (further : ℕ) (o : Outcome) (s : Session)
        → called (find_by k p by) p.atoms x.session further ≡ told o s → (o ≡ x.answered) × (s ≡ x.session)
    deepest_bounds : (by : Bool) → Bounds p.atoms d (t ∷ entries (find_by k p by) x.sum t) x.session.deepest
    deepest_exact : (by : Bool) → Exact d (entries (find_by k p by) x.sum t) x.session.deepest

  module _ (proper : Proper p) (t : Place I) (count d : ℕ) (reached : Reached (find_r p) t) (enough : length t.path ≤ d) (most : d ≤ p.atoms) where
    abbrev run : ℕ → Kept
    run n = run_kept k p t count d n

    run_leaves : (n : ℕ) → RunLeft (find_r p) p.atoms t count d n (run n).answered (run n).session
    run_leaves n = run_left (find_r p) p.atoms (path_short p (find_r p) (relevancy_sound p proper).split_fresh) t count d n reached enough most

    run_on : (by : Bool) (n further : ℕ)
        → called (find_by k p by) p.atoms (run n).session further
        ≡ cond (ltb 4294967295 ((run n).session.count + further)) (declined 41) (told (run (n + further)).answered (run (n + further)).session)
    run_on by n further =
        let right = (run_leaves n).right in
        engine_called by (run n).session further
        ∙ goes_on (find_r p) p.atoms n further count d t reached (deep_stands_lem p.atoms (run n).session right.deep_enough right.deep_within)

    again : (n : ℕ) → ((i : ℕ) → (run n).answered ≡ Exhausted i → ⊥) → (by : Bool) (further : ℕ) (o : Outcome) (s : Session)
        → called (find_by k p by) p.atoms (run n).session further ≡ told o s → (o ≡ (run n).answered) × (s ≡ (run n).session)
    again n h by further o s e =
        let all : Kept = run (n + further) in
        let q = told_is (ltb 4294967295 ((run n).session.count + further)) all.answered o all.session s (sym (run_on by n further) ∙ e) in
        (q.0 ∙ proceed_over (find_r p) n further count t h, q.1 ∙ session_over (find_r p) n further count d t h)

    run_kept_lem : (n : ℕ) → OneRunKept t count d (run n)
    run_kept_lem n =
        let deep : ℕ = (run n).session.deepest in
        let same : (by : Bool) → entries (find_r p) n t ≡ entries (find_by k p by) n t = λ by. sym (engine_entries by n t reached) in
        record {
          answer_is = refl;
          session_is = refl;
          always_stands = λ by further e.
              let all : Kept = run (n + further) in
              not_nowhere (ltb 4294967295 ((run n).session.count + further)) all.answered all.session (sym (run_on by n further) ∙ e);
          finished_again = again n;
          deepest_bounds = λ by. subst (λ (es : List (Place I)). Bounds p.atoms d (t ∷ es) deep) (same by) (run_leaves n).deepest_bounds;
          deepest_exact = λ by. subst (λ (es : List (Place I)). Exact d es deep) (same by) (run_leaves n).deepest_exact;
        }

    Call-run : (n : ℕ) (c : Call)
        → (m : ℕ) × (kept_after (run n) c.further (called (find_by k p c.magic) p.atoms (run n).session c.further) ≡ run m)
    Call-run n c = rw (run_on c.magic n c.further) (go (ltb 4294967295 ((run n).session.count + c.further)))
      where
        go : (b : Bool) → (m : ℕ)
            × (kept_after (run n) c.further (cond b (declined 41) (told (run (n + c.further)).answered (run (n + c.further)).session)) ≡ run m)
        go true = (n, refl)
        go false = (n + c.further, refl)

    calls_kept : (cs : List Call) (was : Kept) (n : ℕ) → was ≡ run n → OneRunKept t count d (after_calls k p cs was)
    calls_kept [] was n e = subst (OneRunKept t count d) (sym e) (run_kept_lem n)
    calls_kept (c ∷ cs) was n e =
        let w = Call-run n c in
        calls_kept
        cs
        (kept_after was c.further (called (find_by k p c.magic) p.atoms was.session c.further))
        w.0
        (ap (λ (x : Kept). kept_after x c.further (called (find_by k p c.magic) p.atoms x.session c.further)) e ∙ w.1)

  -- ---- one walk

  first_whole : (by : Bool) (limit : ℕ) → first_kept k p by limit ≡ run_kept k p (root (find_r p)) 0 0 limit
  first_whole true limit =
      ap₂
      (λ (o : Outcome) (s : Session). record { answered = o; session = s; sum = limit })
      (outcome_same (find_r p) (find_m k p.atoms (rewriting p)) (magic_same k p) limit)
      (first_same (find_r p) (find_m k p.atoms (rewriting p)) (magic_same k p) limit)
  first_whole false limit = refl

  pub one_walk_kept : Proper p → (magic : Bool) (limit : ℕ) (calls : List Call) → OneWalkKept k p magic limit calls
  one_walk_kept proper magic limit calls =
      let x : Kept = after_calls k p calls (first_kept k p magic limit) in
      let w : OneRunKept (root (find_r p)) 0 0 x =
      calls_kept proper (root (find_r p)) 0 0 (place-Reached (find_r p) [] tt) (omega arith) (omega arith) calls (first_kept k p magic limit) limit (first_whole magic limit) in
      record {
        answer_is = w.answer_is;
        session_is = w.session_is;
        always_stands = w.always_stands;
        finished_again = w.finished_again;
        deepest_bounds = λ by.
            subst
            (λ (u : Place I). Bounds p.atoms 0 (u ∷ entries (find_by k p by) x.sum u) x.session.deepest)
            (sym (engine_root by))
            (w.deepest_bounds by);
        deepest_exact = λ by. subst (λ (u : Place I). Exact 0 (entries (find_by k p by) x.sum u) x.session.deepest) (sym (engine_root by)) (w.deepest_exact by);
      }

  -- ---- other origin

  pub origin_kept : Proper p → (s : Session) (t : Place I) (further : ℕ) → stands_in (find_r p) p.atoms s ≡ some t → s.count + further ≤ 4294967295
      → (calls : List Call) → OriginKept k p s t further calls
  origin_kept proper s t further e h calls =
      let there : place_of (find_r p) s ≡ some t = (in_stands (find_r p) p.atoms s t e).1 in
      let right : Right (find_r p) p.atoms s = in_right (find_r p) p.atoms s t e in
      let enough : length t.path ≤ s.deepest = omega (arith, stands_length (find_r p) s t there, right.deep_enough) in
      let w = calls_kept proper t s.count s.deepest (stands_reached (find_r p) s t there) enough right.deep_within
      calls (run_kept k p t s.count s.deepest further) further refl in
      record {
        first_is = λ by. engine_called by s further ∙ call_told (find_r p) p.atoms s further t h e;
        answer_is = w.answer_is;
        session_is = w.session_is;
        always_stands = w.always_stands;
        deepest_bounds = w.deepest_bounds;
        deepest_exact = w.deepest_exact;
      }

  -- ---- any origin

  Satisfied-told : Proper p → (s : Session) (further n : ℕ) (bits : List Bool) (left : Session) → called (find_r p) p.atoms s further ≡ told (Satisfied n bits) left
      → (length bits ≡ p.atoms) × Model p (Marked bits)
  unfolding called
  Satisfied-told proper s further n bits left e =
      go (ltb 4294967295 (s.count + further)) (stands_in (find_r p) p.atoms s) (λ t q. stands_reached (find_r p) s t (in_stands (find_r p) p.atoms s t q).1) e
    where
      go : (b : Bool) (o : Option (Place I)) → ((t : Place I) → o ≡ some t → Reached (find_r p) t)
          → ◌≡◌ {A = Called}
          (cond b (declined 41) (elim o [ none ↦ declined 42 | some t ↦ told (proceed (find_r p) further s.count t) (session_after (find_r p) further s.count s.deepest t) ]))
          (told (Satisfied n bits) left) → (length bits ≡ p.atoms) × Model p (Marked bits)
      go true o h q = let z : ◌≡◌ {A = ℕ} 0 1 = cc in absurd (omega arith)
      go false none h q = let z : ◌≡◌ {A = ℕ} 0 1 = cc in absurd (omega arith)
      go false (some t) h q =
          let fits : proceed (find_r p) further s.count t ≡ Satisfied n bits = cc in
          let o = run_opened (find_r p) further s.count n bits t (h t refl) fits in
          (relevancy_sound p proper).opened_model (last t (entries (find_r p) further t)).path o.0 bits o.1

  pub any_origin : Proper p → (s : Session) (further : ℕ) → AnyOrigin k p s further
  any_origin proper s further =
      record {
        calls = engine_called true s further;
        places = stands_same (find_r p) (find_m k p.atoms (rewriting p)) (magic_same k p) s;
        trails = λ t e. engine_entries true further t (stands_reached (find_r p) s t e);
        facts = λ t e.
            let r : Reached (find_r p) t = stands_reached (find_r p) s t e in
            all_map
            (Reached (find_r p))
            (λ u. (x : ℕ) → SameFacts k p u x)
            (λ u h. same_facts k p u h.0)
            (t ∷ entries (find_r p) further t)
            (r, entries-Reached (find_r p) further t r);
        models = Satisfied-told proper s further;
      }
