-- The end of a run: what is written down of its path is the session that it leaves, and its verdict, session and answer are those of the run.
use Prim.Native.Nat.{ℕ, ◌+◌, ◌-◌, ◌≤◌}
use mathlib.Core.Bool.{Bool, true, not, ◌||◌}
use mathlib.Core.List.{List, [], ◌∷◌, ◌++◌, map, append-nil}
use mathlib.Core.Logic.{inl, inr}
use mathlib.Core.Option.{Option, none}
use mathlib.Core.Path.{◌≡◌, refl, sym, ap, subst, ◌∙◌}
use native.Mathlib.Omega.{arith}
use denote.Enum.Declared.{tag_of}
use types.Run.{OneOf}
use lib.ListN.{length, take, drop, replicate, take-append-drop, drop_of_length-le}
use lib.Seq.{length-take-le}
use Rattle.std.specs.Prelude.{Option as Answered, Some, None}
use Rattle.lists.specs.Bytes.{is_set, bit}
use Rattle.lists.proofs.Tabulate.{tabulate-length}
use Rattle.search.specs.Relevancy.{model_bits}
use Rattle.search.specs.Machine.{Place, Outcome, root, proceed, outcome}
use Rattle.search.specs.Session.{Session, alts_found, place_of, steps_of, session_after, first_session, Called, declined, told}
use Rattle.search.proofs.Deepest.{steps_length, first_deepest}
use Rattle.ground.specs.declared.verdict.Verdict.{Verdict}
use Rattle.ground.specs.declared.verdict.Verdict.TheVariants.{Refused, Exhausted as IsExhausted}
use Rattle.ground.specs.Verdict.{verdict_of, answer_of}
use Rattle.walk.specs.terms.Walker.{Walker, Run, from_root}
use Rattle.walk.specs.terms.Path.{Room, next_at, deepest_at, path_in}
use Rattle.walk.specs.terms.Place.{bits_in, NodesNamed}
use Rattle.walk.specs.terms.Walk.{Walks, Tells}
use Rattle.walk.specs.Numbers.{session_of}
use Rattle.walk.specs.terms.Resume.{WalksOn, GoesOn}
use Rattle.walk.specs.terms.Left.{Tied, StepsLeft, session_left}
use Rattle.walk.specs.declared.answer.Walked.{Walked}
use Rattle.walk.specs.declared.answer.Walked.TheVariants.{Shut, Opened, Exhausted as LimitMet}
use Rattle.walk.specs.contracts.answer.Walked.{the_type as walked-type}
use Rattle.walk.proofs.PathLaws.{path-length}
use Rattle.walk.proofs.WalkLaws.{walks_tell}
use Rattle.walk.proofs.LeftLaws.{walks_left}
use Rattle.session.specs.declared.record.Session.{Session as Record}
use Rattle.session.specs.declared.record.Moved.{Moved}
use Rattle.session.specs.declared.record.Reply.{Reply}
use Rattle.session.specs.declared.end.Left.{Left}
use Rattle.session.specs.Record.{slots, laid}
use Rattle.session.specs.Calls.{called_in, work_left}
use Rattle.session.specs.terms.End.{depth_of, answer_by, verdict_by, moved_by, PathLaid, LeftBy, Replied, comes_out, Concluded}
use Rattle.session.proofs.RecordLaws.{laid_as, slots_left}
use Rattle.session.proofs.CallLaws.{is_kept_over, called_nowhere, called_on, CallLeft, left_declined, left_told}

-- ---- the path written down

-- a path in steps has a step for each entry
steps_left : {I : Type 0} (w : Walker I) (path : List ℕ) (e : ℕ) → length (steps_of w.find (path_in w path e)) ≡ e
steps_left w path e = steps_length w.find (path_in w path e) ∙ path-length w path e

module _ {I : Type 0} (w : Walker I) (y : Walked) (path : List ℕ) (x : Left) (deepest : x.deepest ≡ deepest_at path) where
  by_end : (z : Walked) → y ≡ z → LeftBy w z path x → LeftBy w y path x
  by_end z same h = subst (λ (v : Walked). LeftBy w v path x) (sym same) h

  module _ (e : ℕ) (deep : e ≤ 1024) (long_a : length x.atoms ≡ 1024) (long_n : length x.nexts ≡ 1024) (was : StepsLeft w path e x.atoms x.nexts) where
    -- where a place is open, at the end of the path
    pub left_open : (c : ℕ) → y ≡ Opened c e → x.next ≡ 0 → LeftBy w y path x
    left_open c same next =
        let as_slots = slots_left w path e x.atoms x.nexts was long_a long_n deep in
        by_end (Opened c e) same (λ r. record { next_is = next; atoms_are = as_slots.0; nexts_are = as_slots.1; deepest_is = deepest })

    -- where another entry is due there
    pub left_due : y ≡ LimitMet e → x.next ≡ next_at path e → LeftBy w y path x
    left_due same next =
        let as_slots = slots_left w path e x.atoms x.nexts was long_a long_n deep in
        by_end (LimitMet e) same (λ r. record { next_is = next; atoms_are = as_slots.0; nexts_are = as_slots.1; deepest_is = deepest })

  -- where all is closed
  pub left_shut : (c : ℕ) → y ≡ Shut c → x.atoms ≡ replicate 1024 0 → x.nexts ≡ replicate 1024 0 → x.next ≡ length (alts_found (w.find [])) → LeftBy w y path x
  unfolding slots
  left_shut c same ea en next = by_end (Shut c) same (λ r. record { next_is = next; atoms_are = ea; nexts_are = en; deepest_is = deepest })

-- ---- how the run comes out

module _ {I : Type 0} (w : Walker I) (r : Run I) where
  -- a run ends no deeper than there are slots
  pub ends_within : (y : Walked) (facts path : List ℕ) → Walks w r y facts path → depth_of y ≤ 1024
  ends_within (Shut c) facts path h = omega arith
  ends_within (Opened c e) facts path h = h.2.reached.room.deep
  ends_within (LimitMet e) facts path h = h.1.node.room.deep

  -- the path that it ends at
  pub open_path : (y : Walked) (c e : ℕ) → y ≡ Opened c e → (facts path : List ℕ) → Walks w r y facts path → Room path e × w.Kept (path_in w path e) × NodesNamed w path e
  open_path y c e same facts path h =
      let at = (subst (λ (z : Walked). Walks w r z facts path) same h).2.reached in
      (at.room, at.kept, at.named)

  pub due_path : (y : Walked) (e : ℕ) → y ≡ LimitMet e → (facts path : List ℕ) → Walks w r y facts path → Room path e × w.Kept (path_in w path e) × NodesNamed w path e
  due_path y e same facts path h =
      let at = (subst (λ (z : Walked). Walks w r z facts path) same h).1.node in
      (at.room, at.kept, at.named)

  verdict_of_lem : (y : Walked) (facts : List ℕ) → Tells w r y facts → verdict_by y r.limit ≡ verdict_of (comes_out w r)
  verdict_of_lem (Shut c) facts tells = sym (ap verdict_of tells)
  verdict_of_lem (Opened c e) facts tells = sym (ap verdict_of tells)
  verdict_of_lem (LimitMet e) facts tells = sym (ap verdict_of tells)

  deepest_of : (y : Walked) (path : List ℕ) → (session_left w r y path).deepest ≡ deepest_at path
  deepest_of (Shut c) path = refl
  deepest_of (Opened c e) path = refl
  deepest_of (LimitMet e) path = refl

  answer_of_lem : (y : Walked) (facts answer : List ℕ) → Tells w r y facts → answer_by y (bits_in w facts) answer ≡ answer_of (comes_out w r) answer
  answer_of_lem (Shut c) facts answer tells = sym (ap (λ (o : Outcome). answer_of o answer) tells)
  answer_of_lem (Opened c e) facts answer tells = sym (ap (λ (o : Outcome). answer_of o answer) tells)
  answer_of_lem (LimitMet e) facts answer tells = sym (ap (λ (o : Outcome). answer_of o answer) tells)

  module _ (path : List ℕ) (x : Left) where
    session_of_lem : (y : Walked) → PathLaid (session_left w r y path) x → (moved_by y r.limit x).session ≡ laid (session_left w r y path)
    session_of_lem (Shut c) at = laid_as (moved_by (Shut c) r.limit x).session (session_left w r (Shut c) path) refl refl refl at.next_is at.atoms_are at.nexts_are at.deepest_is
    session_of_lem (Opened c e) at =
        laid_as (moved_by (Opened c e) r.limit x).session (session_left w r (Opened c e) path) refl (sym (steps_left w path e)) refl at.next_is at.atoms_are at.nexts_are at.deepest_is
    session_of_lem (LimitMet e) at =
        laid_as (moved_by (LimitMet e) r.limit x).session (session_left w r (LimitMet e) path) refl (sym (steps_left w path e)) refl at.next_is at.atoms_are at.nexts_are at.deepest_is

-- a run's path has been written down, and its verdict and answer given: of every run that ends so
pub concluded : {I : Type 0} (w : Walker I) → Tied w → (y : Walked) (limit : ℕ) (facts path answer : List ℕ) (x : Left) (m : Moved) (left : List ℕ)
    → LeftBy w y path x → m ≡ moved_by y limit x → (n : ℕ) → n ≡ w.atoms → left ≡ answer_by y (model_bits n (is_set facts) (λ a. is_set facts (1025 + a))) answer
    → (r : Run I) → r.limit ≡ limit → Walks w r y facts path → Concluded w r answer m left
concluded w tied y limit facts path answer x m left laid_down moved_is n atoms_are answer_is r same h =
    let tells = walks_tell w r y facts path h in
    let moved : m ≡ moved_by y r.limit x = moved_is ∙ ap (λ (n : ℕ). moved_by y n x) (sym same) in
    record {
      verdict_is = ap (λ (v : Moved). v.verdict) moved ∙ verdict_of_lem w r y facts tells;
      session_is =
          ap (λ (v : Moved). v.session) moved ∙ session_of_lem w r path x y (laid_down r) ∙ ap laid (sym (walks_left w tied r y facts path h));
      answer_is =
          answer_is ∙ ap (λ (k : ℕ). answer_by y (model_bits k (is_set facts) (λ a. is_set facts (1025 + a))) answer) atoms_are
          ∙ answer_of_lem w r y facts answer tells;
    }

-- ---- what a call leaves

-- a refusal leaves all as it was
pub left_refused : (c : Called) (r : Record) (answer work : List ℕ) (e : ℕ) → c ≡ declined e → (m : Moved) → (m.verdict ≡ Refused e) × (m.session ≡ r)
    → CallLeft c r answer work m.verdict m.session answer work
left_refused c r answer work e so m is =
    let as_was = left_declined c r answer work e so in
    (is.0 ∙ as_was.0, is.1 ∙ as_was.1, as_was.2, as_was.3)

-- by another name of the call
pub left-Called : (c d : Called) → c ≡ d → (r : Record) (answer work : List ℕ) (v : Verdict) (moved : Record) (left rest : List ℕ)
    → CallLeft d r answer work v moved left rest → CallLeft c r answer work v moved left rest
left-Called c d e r answer work v moved left rest h =
    subst (λ (x : Called). CallLeft x r answer work v moved left rest) (sym e) h

-- ---- the work buffer's first 65,536 bytes, lent and put back

none_between : (zeros part rest : List ℕ) → part ≡ [] → (zeros ++ part) ++ rest ≡ zeros ++ rest
none_between zeros part rest e = ap (λ (l : List ℕ). (zeros ++ l) ++ rest) e ∙ ap (λ (l : List ℕ). l ++ rest) (append-nil zeros)

work_back : (c : Called) (work : List ℕ) → 65536 ≤ length work → work_left c (take 65536 work) ++ drop 65536 work ≡ work_left c work
work_back (declined e) work long = take-append-drop 65536 work
work_back (told o s) work long =
    let none_left : drop 65536 (take 65536 work) ≡ [] = drop_of_length-le (take 65536 work) {i = 65536} (omega (arith, length-take-le 65536 work long)) in
    none_between (replicate 65536 0) (drop 65536 (take 65536 work)) (drop 65536 work) none_left

pub left_back : (c : Called) (r : Record) (answer work : List ℕ) → 65536 ≤ length work → (v : Verdict) (moved : Record) (left part : List ℕ)
    → CallLeft c r answer (take 65536 work) v moved left part → CallLeft c r answer work v moved left (part ++ drop 65536 work)
left_back c r answer work long v moved left part h = (h.0, h.1, h.2, ap (λ (l : List ℕ). l ++ drop 65536 work) h.3 ∙ work_back c work long)

-- where it is no longer than that, it is all zero
pub left_whole : (c : Called) (r : Record) (answer work : List ℕ) → length work ≡ 65536 → (o : Outcome) (s : Session) → c ≡ told o s → (v : Verdict) (moved : Record) (left part : List ℕ)
    → v ≡ verdict_of o → moved ≡ laid s → left ≡ answer_of o answer → part ≡ replicate 65536 0 → CallLeft c r answer work v moved left part
left_whole c r answer work whole o s so v moved left part is_v is_r is_a is_w =
    let none_left : drop 65536 work ≡ [] = drop_of_length-le work {i = 65536} (omega (arith, whole)) in
    let all : part ++ drop 65536 work ≡ part = rw none_left (append-nil part) in
    subst (CallLeft c r answer work v moved left) all (left_told c r answer work o s so v moved left part is_v is_r is_a is_w)

-- ---- a run that ends a call

-- what a first run says and leaves, which brings no figure
pub first_concluded : {I : Type 0} (w : Walker I) (d limit n : ℕ) → d ≡ 0 → limit ≡ n → (answer : List ℕ) (m : Moved) (left : List ℕ) → Concluded w (from_root w d limit) answer m left
    → (m.verdict ≡ verdict_of (outcome w.find n)) × (m.session ≡ laid (first_session w.find n)) × (left ≡ answer_of (outcome w.find n) answer)
first_concluded w d limit n no_figure e answer m left h =
    let all : limit - 0 ≡ n = omega (arith, e) in (
      h.verdict_is ∙ ap (λ (k : ℕ). verdict_of (outcome w.find k)) all,
      h.session_is ∙ ap (λ (k : ℕ). laid (session_after w.find (limit - 0) 0 k (root w.find))) no_figure ∙ ap (λ (k : ℕ). laid (first_session w.find k)) all,
      h.answer_is ∙ ap (λ (k : ℕ). answer_of (outcome w.find k) answer) all,
    )

-- and where its session is not kept
pub first_replied : {I : Type 0} (w : Walker I) → Tied w → (limit n : ℕ) → limit ≡ n → (y : Walked) (facts path answer : List ℕ) → Walks w (from_root w 0 limit) y facts path
    → (x : Reply) → x.verdict ≡ verdict_by y limit → x.deepest ≡ deepest_at path
    → (left : List ℕ) (k : ℕ) → k ≡ w.atoms → left ≡ answer_by y (model_bits k (is_set facts) (λ a. is_set facts (1025 + a))) answer
    → Replied w n answer x left
first_replied w tied limit n e y facts path answer h x verdict_is deepest_is left k atoms_are answer_is =
    let all : limit - 0 ≡ n = omega (arith, e) in
    let tells = walks_tell w (from_root w 0 limit) y facts path h in
    record {
      verdict_is = verdict_is ∙ verdict_of_lem w (from_root w 0 limit) y facts tells ∙ ap (λ (m : ℕ). verdict_of (outcome w.find m)) all;
      deepest_is =
          deepest_is ∙ sym (deepest_of w (from_root w 0 limit) y path) ∙ ap (λ (s : Session). s.deepest) (sym (walks_left w tied (from_root w 0 limit) y facts path h))
          ∙ ap (λ (m : ℕ). (first_session w.find m).deepest) all
          ∙ first_deepest w.find n;
      answer_is =
          answer_is ∙ ap (λ (m : ℕ). answer_by y (model_bits m (is_set facts) (λ a. is_set facts (1025 + a))) answer) atoms_are
          ∙ answer_of_lem w (from_root w 0 limit) y facts answer tells
          ∙ ap (λ (m : ℕ). answer_of (outcome w.find m) answer) all;
    }

-- what going on says and leaves, with the session in a record over so many atoms, under the limit that its count and the further one make
module _ {I : Type 0} (w : Walker I) (atoms : ℕ) (r : Record) (further : ℕ) (kept : is_kept_over atoms r ≡ true) (within : r.count + further ≤ 4294967295) where
  -- from where it stands, whatever the figure is
  abbrev place : ℕ → Option (Place I)
  place d = place_of w.find (session_of r.verdict r.count r.atoms r.nexts r.length r.next d)

  -- the figure brought is the record's
  module _ (d : ℕ) (brings : d ≡ r.deepest) (limit : ℕ) (x : Answered Walked) (facts path : List ℕ)
      (goes : GoesOn w (place_of w.find (session_of r.verdict r.count r.atoms r.nexts r.length r.next d)) r.count d limit x facts path) where
    -- it is none of the walk
    pub further_nowhere : x ≡ None → called_in w.find atoms r further ≡ declined 42
    further_nowhere e = called_nowhere w.find atoms r further within kept (sym (ap place brings) ∙ subst (λ (z : Answered Walked). GoesOn w (place d) r.count d limit z facts path) e goes)

    module _ (y : Walked) (on : x ≡ Some y) where
      walks_on : WalksOn w (place d) r.count d limit y facts path
      walks_on = subst (λ (z : Answered Walked). GoesOn w (place d) r.count d limit z facts path) on goes

      abbrev run : Run I
      run = record { start = walks_on.start; base = r.count; brought = d; limit = limit }

      pub further_walks : (run : Run I) × ((run.limit ≡ limit) × Walks w run y facts path)
      further_walks = (run, (refl, walks_on.walks))

      -- it is concluded, and the work buffer is zero
      pub further-Concluded : limit ≡ r.count + further → (answer work : List ℕ) → length work ≡ 65536 → (m : Moved) (left rest : List ℕ)
          → ((run : Run I) → run.limit ≡ limit → Walks w run y facts path → Concluded w run answer m left) → rest ≡ replicate (length work) 0
          → CallLeft (called_in w.find atoms r further) r answer work m.verdict m.session left rest
      further-Concluded e answer work whole m left rest ends zeros =
          let left_over : limit - r.count ≡ further = omega (arith, e) in
          let t : Place I = walks_on.start in
          let h = ends run refl walks_on.walks in
          left_whole (called_in w.find atoms r further) r answer work whole (proceed w.find further r.count t) (session_after w.find further r.count r.deepest t)
          (called_on w.find atoms r further within kept t (sym (ap place brings) ∙ walks_on.stands)) m.verdict m.session left rest
          (h.verdict_is ∙ ap (λ (k : ℕ). verdict_of (proceed w.find k r.count t)) left_over)
          (h.session_is ∙ ap (λ (k : ℕ). laid (session_after w.find k r.count d t)) left_over ∙ ap (λ (b : ℕ). laid (session_after w.find further r.count b t)) brings)
          (h.answer_is ∙ ap (λ (k : ℕ). answer_of (proceed w.find k r.count t) answer) left_over)
          (zeros ∙ ap (λ (n : ℕ). replicate n 0) whole)
