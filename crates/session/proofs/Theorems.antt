-- The claims of `specs/Claims.antt`, proved.
use Prim.Native.Nat.{ℕ, ◌≤◌}
use mathlib.Core.List.{List, [], ◌∷◌, ◌++◌}
use mathlib.Core.Logic.{◌↔◌}
use mathlib.Core.Option.{some}
use mathlib.Core.Path.{◌≡◌, refl, sym, ap, subst}
use lib.Dec.{T, leb, leb→le}
use lib.ListN.{length, get_or}
use borrow.Author.Tests.{le-leb}
use Rattle.lists.specs.Test.{T_left, T_right}
use Rattle.search.specs.Session.{Step, Session, Called}
use Rattle.search.proofs.Session.{cond-some}
use Rattle.ground.specs.declared.verdict.Verdict.TheVariants.{Refused}
use Rattle.walk.specs.Numbers.{steps_in, session_of}
use Rattle.session.specs.declared.record.Session.{Session as Record}
use Rattle.session.specs.Record.{is_kept, session_in, laid}
use Rattle.session.specs.Calls.{verdict_told, record_left, answer_left, work_left}
use Rattle.session.specs.Claims.{SameSeen, Theorems}
use Rattle.session.proofs.RecordLaws.{slots_end, steps_same, held_laid}
use Rattle.session.proofs.CallLaws.{declined_by}

-- the session in a record's numbers
abbrev in_numbers : Record → Session
in_numbers r = session_of r.verdict r.count r.atoms r.nexts r.length r.next r.deepest

held_when : (r : Record) → ((s : Session) × (session_in r ≡ some s)) ↔ ((r.verdict ≤ 2) × (r.length ≤ 1024))
unfolding session_in
held_when r = (λ h. known h.0 h.1, λ h. (in_numbers r, rw (le-leb r.verdict 2 h.0, le-leb r.length 1024 h.1)))
  where
    known : (s : Session) → session_in r ≡ some s → (r.verdict ≤ 2) × (r.length ≤ 1024)
    known s e =
        let kept : T (is_kept r) = subst T (sym (cond-some (is_kept r) (in_numbers r) s e).0) tt in (
          leb→le r.verdict 2 (T_left (leb r.verdict 2) (leb r.length 1024) kept),
          leb→le r.length 1024 (T_right (leb r.verdict 2) (leb r.length 1024) kept),
        )

-- ---- what stands past the path

past_unseen : (r q : Record) → SameSeen r q → session_in r ≡ session_in q
unfolding session_in
past_unseen r q same =
    rw (steps_same r.atoms r.nexts q.atoms q.nexts r.length same.atoms same.nexts, same.count, same.length, same.verdict, same.next, same.deepest)

zeros_past : (s : Session) (j : ℕ) → length s.path ≤ j → (get_or (laid s).atoms j 0 ≡ 0) × (get_or (laid s).nexts j 0 ≡ 0)
unfolding laid
zeros_past s j l = (slots_end (λ t. t.atom) s.path j l, slots_end (λ t. t.next) s.path j l)

-- ---- the slots of the path

-- the steps of these numbers, taken apart: a step has the numbers in the slot after those of the steps before it
slot_of : (atoms nexts : List ℕ) (later : List Step) (t : Step) (earlier : List Step)
    → steps_in atoms nexts (length (later ++ (t ∷ earlier))) ≡ later ++ (t ∷ earlier)
    → (get_or atoms (length earlier) 0 ≡ t.atom) × (get_or nexts (length earlier) 0 ≡ t.next)
unfolding steps_in
slot_of atoms nexts [] t earlier e =
    let first : record { atom = get_or atoms (length earlier) 0; next = get_or nexts (length earlier) 0 } ≡ t = cc in
    (ap (λ (s : Step). s.atom) first, ap (λ (s : Step). s.next) first)
slot_of atoms nexts (u ∷ later) t earlier e = slot_of atoms nexts later t earlier (cc)

slots_in_order : (s : Session) → length s.path ≤ 1024 → (later : List Step) (t : Step) (earlier : List Step) → s.path ≡ later ++ (t ∷ earlier)
    → (get_or (laid s).atoms (length earlier) 0 ≡ t.atom) × (get_or (laid s).nexts (length earlier) 0 ≡ t.next)
unfolding session_in laid
slots_in_order s l later t earlier e =
    let r : Record = laid s in
    let back : in_numbers r ≡ s = (cond-some (is_kept r) (in_numbers r) s (held_laid s l)).1 in
    let steps : steps_in r.atoms r.nexts (length s.path) ≡ s.path = ap (λ (x : Session). x.path) back in
    slot_of r.atoms r.nexts later t earlier (subst (λ (ss : List Step). steps_in r.atoms r.nexts (length ss) ≡ ss) e steps)

-- ---- a refusal

refused_kept : (c : Called) (e : ℕ) → verdict_told c ≡ Refused e → (r : Record) (answer work : List ℕ)
    → (record_left c r ≡ r) × (answer_left c answer ≡ answer) × (work_left c work ≡ work)
refused_kept c e refused r answer work = rw (declined_by c e refused) (refl, refl, refl)

pub theorems : Theorems
theorems = record { held_when = held_when; past_unseen = past_unseen; laid_held = held_laid; zeros_past = zeros_past; slots_in_order = slots_in_order; refused_kept = refused_kept }
