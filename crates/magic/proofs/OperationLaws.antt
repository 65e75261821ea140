-- What is claimed of the operations, by each way out.
use Prim.Native.Nat.{ℕ, ◌≤◌, ◌<◌}
use mathlib.Core.Bool.{◌||◌}
use mathlib.Core.List.{List, [], ◌++◌, append-nil}
use mathlib.Core.Path.{◌≡◌, sym, ap, subst, ◌∙◌}
use native.Mathlib.Omega.{arith}
use lib.Dec.{ltb}
use lib.ListN.{length, take, drop, replicate, take-append-drop, drop_of_length-le}
use lib.Seq.{length-take-le, take-take}
use Rattle.search.specs.Session.{first_session, Called, declined, told}
use Rattle.problem.specs.Problem.{limit_of}
use Rattle.problem.specs.Layout.{problem_in}
use Rattle.writing.specs.terms.Lent.{refusal_of}
use Rattle.ground.specs.declared.verdict.Verdict.TheVariants.{Refused}
use Rattle.ground.specs.Instance.{ground_in}
use Rattle.ground.specs.Verdict.{verdict_of, answer_of}
use Rattle.rewriting.specs.Facts.{find_in}
use Rattle.rewriting.specs.Rewrite.{rules_over}
use Rattle.session.specs.declared.record.Session.{Session as Record}
use Rattle.session.specs.declared.record.Moved.{Moved}
use Rattle.session.specs.Record.{laid}
use Rattle.session.specs.Calls.{called_in, record_left}
use Rattle.session.proofs.EndLaws.{left_back}
use Rattle.magic.specs.Engine.{magic_outcome, magic_result, magic_rules, magic_answer, magic_work}
use Rattle.magic.specs.Sessions.{magic_begun, magic_resumed, rules_left}
use Rattle.magic.proofs.EngineLaws.{AllTaken, passed, fit_runs, fit_refused}
use Rattle.magic.proofs.SessionLaws.{begun_refused, begun_runs, resumed_refused, resumed_runs}
use Rattle.magic.proofs.FurtherLaws.{Says-declined, CallMade, made_declined}

-- ---- the first bytes of the lent buffers are put back

rules_back : (c : Called) (tb rules : List ℕ) → 16384 ≤ length rules → rules_left c (take 4096 tb) (take 16384 rules) ++ drop 16384 rules ≡ rules_left c tb rules
rules_back (declined e) tb rules long = take-append-drop 16384 rules
rules_back (told o s) tb rules long =
    let own : take 4096 (take 4096 tb) ≡ take 4096 tb = take-take 4096 4096 tb (omega arith) in
    let part : take 16384 (take 16384 rules) ≡ take 16384 rules = take-take 16384 16384 rules (omega arith) in
    let rest : drop 16384 (take 16384 rules) ≡ [] = drop_of_length-le (take 16384 rules) {i = 16384} (omega (arith, length-take-le 16384 rules long)) in
    rw (own, part, rest) (ap (λ (xs : List ℕ). xs ++ drop 16384 rules) (append-nil (rules_over (take 4096 tb) (take 16384 rules))))

made_back : (c : Called) (r : Record) (tb rules answer work : List ℕ) → 16384 ≤ length rules → 65536 ≤ length work → (m : Moved) (rs left part : List ℕ)
    → CallMade c r (take 4096 tb) (take 16384 rules) answer (take 65536 work) m rs left part
    → CallMade c r tb rules answer work m (rs ++ drop 16384 rules) left (part ++ drop 65536 work)
made_back c r tb rules answer work rules_long work_long m rs left part h =
    let kept = left_back c r answer work work_long m.verdict m.session left part (h.0, h.1, h.3, h.4) in
    (kept.0, kept.1, ap (λ (xs : List ℕ). xs ++ drop 16384 rules) h.2 ∙ rules_back c tb rules rules_long, kept.2, kept.3)

-- ---- a first run

-- of a table, in buffers that have no more bytes than it writes
abbrev pub RunMade : List ℕ → List ℕ → List ℕ → Moved → List ℕ → List ℕ → List ℕ → Type 0
RunMade tb rules answer m rs left rest =
    (m.verdict ≡ verdict_of (magic_outcome tb rules))
    × (m.session ≡ laid (first_session (find_in (rules_over tb rules)) (limit_of (problem_in tb).limit)))
    × (rs ≡ rules_over tb rules)
    × (left ≡ answer_of (magic_outcome tb rules) answer)
    × (rest ≡ replicate 65536 0)

module _ (r : Record) (tb rules answer work : List ℕ) where
  abbrev pub Begins : Moved → List ℕ → List ℕ → List ℕ → Type 0
  Begins m rs left rest =
      (m.verdict ≡ magic_result tb rules answer work)
      × (m.session ≡ record_left (magic_begun tb rules answer work) r)
      × (rs ≡ magic_rules tb rules answer work)
      × (left ≡ magic_answer tb rules answer work)
      × (rest ≡ magic_work tb rules answer work)

  session_is : {c : Called} → magic_begun tb rules answer work ≡ c → record_left c r ≡ record_left (magic_begun tb rules answer work) r
  session_is so = ap (λ (x : Called). record_left x r) (sym so)

  pub begin_refused : (e : ℕ) → e ≡ refusal_of tb (ltb (length rules) 16384 || ltb (length answer) 1024 || ltb (length work) 65536) → 0 < e → (m : Moved) → (m.verdict ≡ Refused e) × (m.session ≡ r)
      → Begins m rules answer work
  begin_refused e is l m was =
      let f = fit_refused tb rules answer work e is l in
      (was.0 ∙ f.0, was.1 ∙ session_is (begun_refused tb rules answer work e is l), f.2, f.3, f.4)

  pub begin_runs : AllTaken tb rules answer work → (m : Moved) (rs left part : List ℕ) → RunMade (take 4096 tb) (take 16384 rules) answer m rs left part
      → Begins m (rs ++ drop 16384 rules) left (part ++ drop 65536 work)
  begin_runs t m rs left part h =
      let long = passed tb rules answer work t in
      let f = fit_runs tb rules answer work long t.valid m.verdict rs left part h.0 h.2 h.3 h.4 in
      (f.0, h.1 ∙ session_is (begun_runs tb rules answer work long t.valid), f.1, f.2, f.3)

  -- ---- going on

  module _ (further : ℕ) where
    abbrev pub Resumes : Moved → List ℕ → List ℕ → List ℕ → Type 0
    Resumes = CallMade (magic_resumed r further tb rules answer work) r tb rules answer work

    resumed_declined : (e : ℕ) → magic_resumed r further tb rules answer work ≡ declined e → (m : Moved) → (m.verdict ≡ Refused e) × (m.session ≡ r) → Resumes m rules answer work
    resumed_declined e so m was =
        let c : Called = magic_resumed r further tb rules answer work in
        made_declined c r tb rules answer work e so m answer (Says-declined c r answer e so m was)

    pub resume_refused : (e : ℕ) → e ≡ refusal_of tb (ltb (length rules) 16384 || ltb (length answer) 1024 || ltb (length work) 65536) → 0 < e → (m : Moved) → (m.verdict ≡ Refused e) × (m.session ≡ r)
        → Resumes m rules answer work
    resume_refused e is l = resumed_declined e (resumed_refused tb rules answer work r further e is l)

    pub resume_runs : AllTaken tb rules answer work → (m : Moved) (rs left part : List ℕ)
        → CallMade (called_in (find_in (rules_over (take 4096 tb) (take 16384 rules))) (ground_in (take 4096 tb)).atoms r further) r (take 4096 tb) (take 16384 rules) answer (take 65536 work) m rs left part
        → Resumes m (rs ++ drop 16384 rules) left (part ++ drop 65536 work)
    resume_runs t m rs left part h =
        let c : Called = called_in (find_in (rules_over (take 4096 tb) (take 16384 rules))) (ground_in (take 4096 tb)).atoms r further in
        subst (λ (x : Called). CallMade x r tb rules answer work m (rs ++ drop 16384 rules) left (part ++ drop 65536 work))
        (sym (resumed_runs tb rules answer work r further (passed tb rules answer work t) t.valid))
        (made_back c r tb rules answer work t.rules_long t.work_long m rs left part h)
