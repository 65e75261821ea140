-- What all runs together say and leave, and the ways out of the calls.
use Prim.Native.Nat.{ℕ, ◌+◌, ◌≤◌, ◌<◌}
use mathlib.Core.Bool.{Bool, true, false, cond, ◌||◌}
use mathlib.Core.List.{List, ◌++◌, map}
use mathlib.Core.Path.{◌≡◌, refl, sym, ap, subst, ◌∙◌}
use native.Mathlib.Omega.{arith}
use borrow.Author.Tests.{eqb-true, eq-eqb, ne_eqb, ltb-false}
use lib.Dec.{eqb, ltb}
use lib.ListN.{length, take, drop, replicate}
use lib.Seq.{length-take-le}
use Rattle.lists.specs.Bytes.{bit}
use Rattle.lists.proofs.Tabulate.{tabulate-length}
use Rattle.search.specs.Machine.{Outcome}
use Rattle.problem.specs.Problem.{Problem, atom_count}
use Rattle.problem.specs.Layout.{problem_in}
use Rattle.problem.specs.Table.{is_valid}
use Rattle.writing.specs.terms.Lent.{refusal_of}
use Rattle.writing.proofs.LentLaws.{refused_says, taken_says, Taken, taken}
use Rattle.rewriting.specs.Rewrite.{rules_over}
use Rattle.relevancy.specs.Engine.{too_short, fit_work}
use Rattle.magic.specs.Engine.{magic_too_short, magic_rules, magic_work}
use Rattle.parting.specs.declared.parts.Parting.{Parting}
use Rattle.parting.specs.declared.parts.Parting.TheVariants as parting
use Rattle.parting.specs.Runs.{runs_of, said_by, sum_of, joined_bits, answer_by, parts_result, parts_count, parts_answer}
use Rattle.parting.specs.terms.Tally.{parting_by, joined_bit, Ran}
use Rattle.parting.proofs.TallyLaws.{said_by_lem}

-- ---- all runs

module _ (magic : Bool) (q : Problem) (joined : List ℕ) (verdict count : ℕ) (ran : Ran magic q joined verdict count) where
  pub said_all : parting_by verdict ≡ said_by (runs_of magic q)
  said_all = ap parting_by ran.tallied.said ∙ said_by_lem (runs_of magic q)

  bits_size : length (joined_bits magic q) ≡ atom_count q.constants q.arities
  unfolding joined_bits
  bits_size = tabulate-length (joined_bit magic q) (atom_count q.constants q.arities)

  -- the joined bits are given where all fit
  pub answer_all : (atoms : ℕ) → atoms ≡ atom_count q.constants q.arities → (answer : List ℕ)
      → cond (eqb verdict 1) (take atoms joined ++ drop atoms answer) answer ≡ answer_by (said_by (runs_of magic q)) (joined_bits magic q) answer
  answer_all atoms e answer = go (eqb verdict 1) refl ∙ ap (λ (p : Parting). answer_by p (joined_bits magic q) answer) said_all
    where
      go : (b : Bool) → eqb verdict 1 ≡ b → cond b (take atoms joined ++ drop atoms answer) answer ≡ answer_by (parting_by verdict) (joined_bits magic q) answer
      go true one =
          let fits : verdict ≡ 1 = eqb-true verdict 1 one in
          ap (λ (n : ℕ). take n joined ++ drop n answer) e
          ∙ ap (λ (l : List ℕ). l ++ drop (atom_count q.constants q.arities) answer) (ran.bits_are fits)
          ∙ ap (λ (n : ℕ). map bit (joined_bits magic q) ++ drop n answer) (sym bits_size)
          ∙ ap (λ (n : ℕ). answer_by (parting_by n) (joined_bits magic q) answer) (sym fits)
      go false other =
          unsaid (eqb verdict 0) ∙ ap (λ (b : Bool). answer_by (cond (eqb verdict 0) parting.Refuted (cond b parting.Satisfied parting.Exhausted)) (joined_bits magic q) answer) (sym other)
        where
          unsaid : (b : Bool) → answer ≡ answer_by (cond b parting.Refuted parting.Exhausted) (joined_bits magic q) answer
          unsaid true = refl
          unsaid false = refl

-- ---- buffers that are too short

or_three : (a b c : Bool) → (a || (b || c)) ≡ (a || b || c)
or_three true b c = refl
or_three false b c = refl

or_four : (a b c d : Bool) → (a || (b || c || d)) ≡ (a || b || c || d)
or_four true b c d = refl
or_four false b c d = refl

or_none : (a b : Bool) → (a || b) ≡ false → (a ≡ false) × (b ≡ false)
or_none true b e = let z : ◌≡◌ {A = ℕ} 0 1 = cc in absurd (omega arith)
or_none false b e = (refl, e)

-- ---- by the number that what is lent is refused by, or 0

module _ (tb : List ℕ) (small short : Bool) (same : (ltb (length tb) 4096 || small) ≡ short) (e : ℕ) (is : e ≡ refusal_of tb small) where
  refused_by : {A : Type 0} (f : ℕ → A) (x : A) → 0 < e → f e ≡ cond short (f 11) (cond (is_valid (take 4096 tb)) x (f 31))
  refused_by {A} f x some =
      ap f is ∙ refused_says {A = A} tb small f x (subst (λ (n : ℕ). 0 < n) is some) ∙ ap (λ (b : Bool). cond b (f 11) (cond (is_valid (take 4096 tb)) x (f 31))) same

  taken_by : {A : Type 0} (f : ℕ → A) (x : A) → e ≤ 0 → x ≡ cond short (f 11) (cond (is_valid (take 4096 tb)) x (f 31))
  taken_by {A} f x none =
      let zero : refusal_of tb small ≡ 0 = sym is ∙ (omega arith) in
      taken_says {A = A} tb small f x zero ∙ ap (λ (b : Bool). cond b (f 11) (cond (is_valid (take 4096 tb)) x (f 31))) same

  all_taken : e ≤ 0 → Taken tb small
  all_taken none = taken tb small (sym is ∙ (omega arith))

  module _ (magic : Bool) (count : ℕ) (answer : List ℕ) where
    -- what is said, the number and the answer
    abbrev Said : Parting → ℕ → List ℕ → Type 0
    Said p n left = (p ≡ parts_result magic short tb) × (n ≡ parts_count magic short tb count) × (left ≡ parts_answer magic short tb answer)

    abbrev q : Problem
    q = problem_in (take 4096 tb)

    refused_said : 0 < e → Said (parting.Refused e) count answer
    unfolding parts_result parts_count parts_answer
    refused_said some = (
      refused_by {A = Parting} (λ x. parting.Refused x) (said_by (runs_of magic q)) some,
      refused_by {A = ℕ} (λ x. count) (sum_of (runs_of magic q)) some,
      refused_by {A = List ℕ} (λ x. answer) (answer_by (said_by (runs_of magic q)) (joined_bits magic q) answer) some,
    )

    taken_said : e ≤ 0 → (p : Parting) (n : ℕ) (left : List ℕ)
        → p ≡ said_by (runs_of magic q) → n ≡ sum_of (runs_of magic q) → left ≡ answer_by (said_by (runs_of magic q)) (joined_bits magic q) answer → Said p n left
    unfolding parts_result parts_count parts_answer
    taken_said none p n left ep en el = (
      ep ∙ taken_by {A = Parting} (λ x. parting.Refused x) (said_by (runs_of magic q)) none,
      en ∙ taken_by {A = ℕ} (λ x. count) (sum_of (runs_of magic q)) none,
      el ∙ taken_by {A = List ℕ} (λ x. answer) (answer_by (said_by (runs_of magic q)) (joined_bits magic q) answer) none,
    )

-- ---- the call by relevancy

-- all that is lent is taken
pub record RelevancyLent (tb answer work : List ℕ) : Type 0 where
  pub table_long : 4096 ≤ length tb
  pub answer_long : 1024 ≤ length answer
  pub work_long : 65536 ≤ length work
  pub valid : is_valid (take 4096 tb) ≡ true

module _ (tb answer work : List ℕ) (count e : ℕ) (is : e ≡ refusal_of tb (ltb (length answer) 1024 || ltb (length work) 65536)) where
  abbrev small : Bool
  small = ltb (length answer) 1024 || ltb (length work) 65536

  joins : (ltb (length tb) 4096 || small) ≡ too_short tb answer work
  joins = or_three (ltb (length tb) 4096) (ltb (length answer) 1024) (ltb (length work) 65536)

  abbrev pub Parted : Parting → ℕ → List ℕ → List ℕ → Type 0
  Parted p n left rest =
      (p ≡ parts_result false (too_short tb answer work) tb)
      × (n ≡ parts_count false (too_short tb answer work) tb count)
      × (left ≡ parts_answer false (too_short tb answer work) tb answer)
      × (rest ≡ fit_work tb answer work)

  pub relevancy_refused : 0 < e → Parted (parting.Refused e) count answer work
  unfolding fit_work
  relevancy_refused some =
      let said = refused_said tb small (too_short tb answer work) joins e is false count answer some in
      (said.0, said.1, said.2, refused_by tb small (too_short tb answer work) joins e is {A = List ℕ} (λ x. work) (replicate 65536 0 ++ drop 65536 work) some)

  module _ (none : e ≤ 0) where
    pub relevancy_lent : RelevancyLent tb answer work
    relevancy_lent =
        let all = all_taken tb small (too_short tb answer work) joins e is none in
        let room = or_none (ltb (length answer) 1024) (ltb (length work) 65536) all.room in
        record { table_long = all.long; answer_long = ltb-false (length answer) 1024 room.0; work_long = ltb-false (length work) 65536 room.1; valid = all.valid }

    pub relevancy_parts : (p : Parting) (n : ℕ) (left part : List ℕ) → (let os = runs_of false (problem_in (take 4096 tb)) in
        (p ≡ said_by os) × (n ≡ sum_of os) × (left ≡ answer_by (said_by os) (joined_bits false (problem_in (take 4096 tb))) answer) × (part ≡ replicate 65536 0))
        → Parted p n left (part ++ drop 65536 work)
    unfolding fit_work
    relevancy_parts p n left part h =
        let said = taken_said tb small (too_short tb answer work) joins e is false count answer none p n left h.0 h.1 h.2 in (
          said.0,
          said.1,
          said.2,
          ap (λ (l : List ℕ). l ++ drop 65536 work) h.3
              ∙ taken_by tb small (too_short tb answer work) joins e is {A = List ℕ} (λ x. work) (replicate 65536 0 ++ drop 65536 work) none,
        )

-- ---- the call by magic

pub record MagicLent (tb rules answer work : List ℕ) : Type 0 where
  pub table_long : 4096 ≤ length tb
  pub rules_long : 16384 ≤ length rules
  pub answer_long : 1024 ≤ length answer
  pub work_long : 65536 ≤ length work
  pub valid : is_valid (take 4096 tb) ≡ true

module _ (tb rules answer work : List ℕ) (count e : ℕ) (is : e ≡ refusal_of tb (ltb (length rules) 16384 || ltb (length answer) 1024 || ltb (length work) 65536)) where
  abbrev any_small : Bool
  any_small = ltb (length rules) 16384 || ltb (length answer) 1024 || ltb (length work) 65536

  joins_all : (ltb (length tb) 4096 || any_small) ≡ magic_too_short tb rules answer work
  joins_all = or_four (ltb (length tb) 4096) (ltb (length rules) 16384) (ltb (length answer) 1024) (ltb (length work) 65536)

  abbrev pub PartedMagic : Parting → ℕ → List ℕ → List ℕ → List ℕ → Type 0
  PartedMagic p n rs left rest =
      (p ≡ parts_result true (magic_too_short tb rules answer work) tb)
      × (n ≡ parts_count true (magic_too_short tb rules answer work) tb count)
      × (rs ≡ magic_rules tb rules answer work)
      × (left ≡ parts_answer true (magic_too_short tb rules answer work) tb answer)
      × (rest ≡ magic_work tb rules answer work)

  pub magic_refused : 0 < e → PartedMagic (parting.Refused e) count rules answer work
  unfolding magic_rules magic_work
  magic_refused some =
      let said = refused_said tb any_small (magic_too_short tb rules answer work) joins_all e is true count answer some in (
        said.0,
        said.1,
        refused_by tb any_small (magic_too_short tb rules answer work) joins_all e is {A = List ℕ} (λ x. rules) (rules_over (take 4096 tb) (take 16384 rules) ++ drop 16384 rules) some,
        said.2,
        refused_by tb any_small (magic_too_short tb rules answer work) joins_all e is {A = List ℕ} (λ x. work) (replicate 65536 0 ++ drop 65536 work) some,
      )

  module _ (none : e ≤ 0) where
    pub magic_lent : MagicLent tb rules answer work
    magic_lent =
        let all = all_taken tb any_small (magic_too_short tb rules answer work) joins_all e is none in
        let two = or_none (ltb (length rules) 16384 || ltb (length answer) 1024) (ltb (length work) 65536) all.room in
        let one = or_none (ltb (length rules) 16384) (ltb (length answer) 1024) two.0 in
        record {
          table_long = all.long;
          rules_long = ltb-false (length rules) 16384 one.0;
          answer_long = ltb-false (length answer) 1024 one.1;
          work_long = ltb-false (length work) 65536 two.1;
          valid = all.valid;
        }

    pub magic_parts : (p : Parting) (n : ℕ) (rs left part : List ℕ) → rs ≡ rules_over (take 4096 tb) (take 16384 rules)
        → (let os = runs_of true (problem_in (take 4096 tb)) in
        (p ≡ said_by os) × (n ≡ sum_of os) × (left ≡ answer_by (said_by os) (joined_bits true (problem_in (take 4096 tb))) answer) × (part ≡ replicate 65536 0))
        → PartedMagic p n (rs ++ drop 16384 rules) left (part ++ drop 65536 work)
    unfolding magic_rules magic_work
    magic_parts p n rs left part r h =
        let said = taken_said tb any_small (magic_too_short tb rules answer work) joins_all e is true count answer none p n left h.0 h.1 h.2 in (
          said.0,
          said.1,
          ap (λ (l : List ℕ). l ++ drop 16384 rules) r
              ∙ taken_by tb any_small (magic_too_short tb rules answer work) joins_all e is {A = List ℕ} (λ x. rules) (rules_over (take 4096 tb) (take 16384 rules) ++ drop 16384 rules) none,
          said.2,
          ap (λ (l : List ℕ). l ++ drop 65536 work) h.3
              ∙ taken_by tb any_small (magic_too_short tb rules answer work) joins_all e is {A = List ℕ} (λ x. work) (replicate 65536 0 ++ drop 65536 work) none,
        )
