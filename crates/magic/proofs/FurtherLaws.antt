-- What going on with the session of a record says and leaves, in a buffer for the rules and in one for work.
use Prim.Native.Nat.{ℕ}
use mathlib.Core.List.{List, [], ◌∷◌, ◌++◌, append-nil}
use mathlib.Core.Path.{◌≡◌, refl, sym, ap, subst, ◌∙◌}
use native.Mathlib.Omega.{arith}
use lib.ListN.{length, take, drop, replicate, drop_of_length-le}
use lib.Seq.{take_all}
use Rattle.search.specs.Ground.{Found}
use Rattle.search.specs.Machine.{Outcome, Satisfied, Refuted, Exhausted}
use Rattle.search.specs.Session.{Session, Called, declined, told}
use Rattle.problem.specs.Layout.{problem_in}
use Rattle.problem.specs.Table.{Lawful}
use Rattle.ground.specs.declared.verdict.Verdict.{Verdict}
use Rattle.ground.specs.declared.verdict.Verdict.TheVariants.{Refused}
use Rattle.ground.specs.Instance.{Instance}
use Rattle.ground.specs.Verdict.{verdict_of}
use Rattle.rewriting.specs.RulesLayout.{rules_layout}
use Rattle.rewriting.specs.Facts.{find_in}
use Rattle.rewriting.specs.Rewrite.{rules_over}
use Rattle.rewriting.proofs.RegroupLaws.{find_by_lem}
use Rattle.session.specs.declared.record.Session.{Session as Record}
use Rattle.session.specs.declared.record.Moved.{Moved}
use Rattle.session.specs.Calls.{called_in, verdict_told, record_left, answer_left, work_left}
use Rattle.magic.specs.Sessions.{rules_left}

-- ---- the rules of a table, over whatever a buffer held, are walked by alike

pub called_alike : (tb xs ys : List ℕ) → Lawful tb → (atoms : ℕ) (r : Record) (further : ℕ)
    → called_in (find_in (rules_over tb xs)) atoms r further ≡ called_in (find_in (rules_over tb ys)) atoms r further
called_alike tb xs ys h atoms r further =
    let n : ℕ = length (rules_layout (problem_in tb)) in
    ap (λ (find : List ℕ → Found Instance). called_in find atoms r further)
    (find_by_lem (problem_in tb) h.fits (drop n xs) ∙ sym (find_by_lem (problem_in tb) h.fits (drop n ys)))

-- ---- a call's verdict, session and answer

module _ (c : Called) (r : Record) (answer : List ℕ) where
  abbrev pub Says : Moved → List ℕ → Type 0
  Says m left = (m.verdict ≡ verdict_told c) × (m.session ≡ record_left c r) × (left ≡ answer_left c answer)

  -- a refusal gives the session back, and leaves the answer
  pub Says-declined : (e : ℕ) → c ≡ declined e → (m : Moved) → (m.verdict ≡ Refused e) × (m.session ≡ r) → Says m answer
  Says-declined e so m was = (was.0 ∙ rw so, was.1 ∙ rw so, rw so)

-- by another name of the call
pub says_alike : (c d : Called) (r : Record) (answer : List ℕ) → c ≡ d → (m : Moved) (left : List ℕ) → Says c r answer m left → Says d r answer m left
says_alike c d r answer e m left h = subst (λ (x : Called). Says x r answer m left) e h

-- ---- its verdict alone tells a refusal

pub refused_declined : (c : Called) (v : Verdict) (n : ℕ) → v ≡ verdict_told c → v ≡ Refused n → (e : ℕ) × (c ≡ declined e)
refused_declined (declined e) v n is refused = (e, refl)
refused_declined (told o s) v n is refused = absurd (go o (sym is ∙ refused))
  where
    go : (o : Outcome) → verdict_of o ≡ Refused n → ⊥
    go (Satisfied m bits) h = let z : ◌≡◌ {A = ℕ} 0 1 = cc in omega arith
    go (Refuted m) h = let z : ◌≡◌ {A = ℕ} 0 1 = cc in omega arith
    go (Exhausted m) h = let z : ◌≡◌ {A = ℕ} 0 1 = cc in omega arith

pub else_told : (c : Called) (v : Verdict) → v ≡ verdict_told c → ((e : ℕ) → v ≡ Refused e → ⊥) → (o : Outcome) × (s : Session) × (c ≡ told o s)
else_told (told o s) v is unrefused = (o, s, refl)
else_told (declined e) v is unrefused = absurd (unrefused e is)

-- ---- with all buffers

module _ (c : Called) (r : Record) (tb rules answer work : List ℕ) where
  abbrev pub CallMade : Moved → List ℕ → List ℕ → List ℕ → Type 0
  CallMade m rs left rest =
      (m.verdict ≡ verdict_told c) × (m.session ≡ record_left c r) × (rs ≡ rules_left c tb rules) × (left ≡ answer_left c answer) × (rest ≡ work_left c work)

  pub made_declined : (e : ℕ) → c ≡ declined e → (m : Moved) (left : List ℕ) → Says c r answer m left → CallMade m rules left work
  made_declined e so m left says = (says.0, says.1, rw so, says.2, rw so)

  -- of buffers that have no more bytes than it writes
  module _ (table_long : length tb ≡ 4096) (rules_long : length rules ≡ 16384) (work_long : length work ≡ 65536) where
    all_rules : rules_over (take 4096 tb) (take 16384 rules) ++ drop 16384 rules ≡ rules_over tb rules
    all_rules =
        let own : take 4096 tb ≡ tb = take_all 4096 tb (omega (arith, table_long)) in
        let part : take 16384 rules ≡ rules = take_all 16384 rules (omega (arith, rules_long)) in
        let rest : drop 16384 rules ≡ [] = drop_of_length-le rules {i = 16384} (omega (arith, rules_long)) in
        rw (own, part, rest) (append-nil (rules_over tb rules))

    all_work : replicate 65536 0 ++ drop 65536 work ≡ replicate 65536 0
    all_work =
        let rest : drop 65536 work ≡ [] = drop_of_length-le work {i = 65536} (omega (arith, work_long)) in
        rw rest (append-nil (replicate 65536 0))

    pub made_told : (o : Outcome) (s : Session) → c ≡ told o s → (m : Moved) (rs left rest : List ℕ) → Says c r answer m left
        → rs ≡ rules_over tb rules → rest ≡ replicate 65536 0 → CallMade m rs left rest
    made_told o s so m rs left rest says is_r is_w =
        (says.0, says.1, is_r ∙ sym all_rules ∙ ap (λ (x : Called). rules_left x tb rules) (sym so), says.2, is_w ∙ sym all_work ∙ ap (λ (x : Called). work_left x work) (sym so))
