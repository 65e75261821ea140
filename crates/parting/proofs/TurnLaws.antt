-- The runs of parts, turn by turn.
use Prim.Native.Nat.{ℕ, zero, suc, ◌+◌, ◌-◌, ◌*◌, ◌≤◌, ◌<◌}
use mathlib.Core.Bool.{Bool, true, false, not, cond}
use mathlib.Core.List.{List, [], ◌∷◌, ◌++◌, map, flat_map, append-nil}
use mathlib.Core.Logic.{◌⊎◌, inl, inr}
use mathlib.Core.Path.{◌≡◌, refl, sym, ap, subst, ◌∙◌}
use native.Mathlib.Omega.{arith}
use borrow.Author.Tests.{eqb-true, eqb-false, lt-ltb, le-ltb, eq-eqb, ne_eqb}
use lib.Dec.{T, eqb, ltb}
use lib.ListN.{length, take, drop, get_or, replicate, length-map, get_or-append}
use lib.Seq.{append_snoc, ext_get_or, length-take-le, get_or-take, get_or-append-add, get_or-drop}
use Rattle.lists.specs.Bytes.{bit}
use Rattle.lists.specs.Key.{nat_key}
use Rattle.lists.specs.Member.{every, In}
use Rattle.lists.specs.Tabulate.{tabulate}
use Rattle.lists.proofs.Bytes.{zeros_at}
use Rattle.lists.proofs.Member.{flat_snoc, flat_append}
use Rattle.lists.proofs.Tabulate.{tabulate-length, tabulate_at, tabulate-add, tabulate-map}
use Rattle.lists.proofs.Test.{lt_or_le, same_or_other}
use Rattle.search.specs.Ground.{Found}
use Rattle.search.specs.Machine.{Outcome, Satisfied, Refuted, Exhausted, outcome}
use Rattle.problem.specs.Problem.{Problem, Fits, atom_count, limit_of}
use Rattle.problem.specs.Layout.{problem_in, layout}
use Rattle.problem.specs.Table.{Lawful}
use Rattle.ground.specs.declared.verdict.Verdict.{Verdict}
use Rattle.ground.specs.Instance.{Instance, AtomOf}
use Rattle.ground.specs.Verdict.{verdict_of, verdict_numbers, answer_of}
use Rattle.ground.proofs.Instances.{number_onto}
use Rattle.ground.proofs.Turns.{clauses_byte}
use Rattle.relevancy.specs.Engine.{outcome_in}
use Rattle.rewriting.specs.Facts.{find_in}
use Rattle.rewriting.specs.RulesLayout.{rules_layout}
use Rattle.rewriting.proofs.RegroupLaws.{find_by_lem}
use Rattle.magic.specs.Engine.{rules_outcome, magic_outcome}
use Rattle.parting.specs.Parts.{family, part_of, parts_of}
use Rattle.parting.specs.Runs.{run_by, is_refuted, runs_of, up_to_refuted, said_by, sum_of, parting_numbers, bits_of, predicate_at, joined_bits}
use Rattle.parting.specs.terms.Labels.{clause_at, labels_in}
use Rattle.parting.specs.terms.Gathered.{gathered}
use Rattle.parting.specs.terms.Tally.{name_at, parts_named, parts_upto, outcomes_upto, Tallied, verdict_after, Counting, joined_bit, Marked, joined_as, Running, Turned, Ran}
use Rattle.parting.proofs.FamilyLaws.{family_sym, part_same}
use Rattle.parting.proofs.LabelLaws.{labels_known, family-label}
use Rattle.parting.proofs.MarkLaws.{predicate_is}
use Rattle.parting.proofs.PartsLaws.{predicates_byte, lowest_part, parts_all}
use Rattle.parting.proofs.TallyLaws.{not_refuted, number_of, sum_snoc, number_after, number_some, still_none, ends_here, all_made, refuted_by, unrefuted_by}

-- ---- one run, by either engine

-- the walk by a problem's rules, whatever follows them in a buffer
pub magic_run : (tb : List ℕ) → Lawful tb → (rules : List ℕ) → magic_outcome tb rules ≡ run_by true (problem_in tb)
unfolding rules_outcome run_by
magic_run tb h rules =
    let q = problem_in tb in
    let L : ℕ = limit_of q.limit in
    ap (λ (f : List ℕ → Found Instance). outcome f L) (find_by_lem q h.fits (drop (length (rules_layout q)) rules) ∙ sym (find_by_lem q h.fits []) ∙ ap find_in (append-nil (rules_layout q)))

pub relevancy_run : (tb : List ℕ) → outcome_in tb ≡ run_by false (problem_in tb)
unfolding outcome_in run_by
relevancy_run tb = refl

-- what a run leaves over zeros are its bits
pub bits_left : (o : Outcome) (n a : ℕ) → get_or (answer_of o (replicate n 0)) a 0 ≡ bit (get_or (bits_of o) a false)
bits_left (Refuted m) n a = zeros_at n a
bits_left (Exhausted m) n a = zeros_at n a
bits_left (Satisfied m bits) n a = go (lt_or_le a (length bits))
  where
    at : (bits : List Bool) (a : ℕ) → a < length bits → get_or (map bit bits) a 0 ≡ bit (get_or bits a false)
    at [] a h = absurd (omega arith)
    at (b ∷ bits) zero h = refl
    at (b ∷ bits) (suc a) h = at bits a (omega arith)

    past : (bits : List Bool) (a : ℕ) → length bits ≤ a → get_or bits a false ≡ false
    past [] a h = refl
    past (b ∷ bits) zero h = absurd (omega arith)
    past (b ∷ bits) (suc a) h = past bits a (omega arith)

    go : (a < length bits) ⊎ (length bits ≤ a) → get_or (map bit bits ++ drop (length bits) (replicate n 0)) a 0 ≡ bit (get_or bits a false)
    go (inl h) = get_or-append (map bit bits) (drop (length bits) (replicate n 0)) 0 a (omega (arith, length-map bits bit)) ∙ at bits a h
    go (inr h) =
        let i : ℕ = a - length bits in
        let whole : a ≡ length (map bit bits) + i = omega (arith, length-map bits bit) in
        ap (λ (j : ℕ). get_or (map bit bits ++ drop (length bits) (replicate n 0)) j 0) whole
        ∙ get_or-append-add (map bit bits) (drop (length bits) (replicate n 0)) i 0
        ∙ get_or-drop (length bits) (replicate n 0) i 0
        ∙ zeros_at n (length bits + i)
        ∙ sym (ap bit (past bits a h))

-- ---- turn by turn

module _ (magic : Bool) (tb : List ℕ) (h : Lawful tb) where
  abbrev q : Problem
  q = problem_in tb

  abbrev atoms : ℕ
  atoms = atom_count q.constants q.arities

  abbrev label : ℕ → ℕ
  label p = get_or (labels_in tb) p 0

  parts_more : (n : ℕ) → parts_upto tb (n + 1) ≡ parts_upto tb n ++ parts_named tb (name_at tb n)
  parts_more n =
      let next : n + 1 ≡ suc n = omega arith in
      ap (parts_upto tb) next ∙ flat_snoc (λ i. parts_named tb (name_at tb i)) (tabulate (λ i. i) n) n

  map-append : (xs ys : List Problem) → map (run_by magic) (xs ++ ys) ≡ map (run_by magic) xs ++ map (run_by magic) ys
  map-append [] ys = refl
  map-append (x ∷ xs) ys = ap (λ (l : List Outcome). run_by magic x ∷ l) (map-append xs ys)

  outcomes_more : (n : ℕ) → outcomes_upto magic tb (n + 1) ≡ outcomes_upto magic tb n ++ map (run_by magic) (parts_named tb (name_at tb n))
  outcomes_more n = ap (map (run_by magic)) (parts_more n) ∙ map-append (parts_upto tb n) (parts_named tb (name_at tb n))

  pub outcomes_skip : (n : ℕ) → name_at tb n ≡ 255 → outcomes_upto magic tb (n + 1) ≡ outcomes_upto magic tb n
  outcomes_skip n e = outcomes_more n ∙ ap (λ (x : ℕ). outcomes_upto magic tb n ++ map (run_by magic) (parts_named tb x)) e ∙ append-nil (outcomes_upto magic tb n)

  pub outcomes_run : (n x : ℕ) → x ≡ name_at tb n → (x ≡ 255 → ⊥) → outcomes_upto magic tb (n + 1) ≡ outcomes_upto magic tb n ++ (run_by magic (gathered tb x) ∷ [])
  outcomes_run n x e o =
      outcomes_more n ∙ ap (λ (y : ℕ). outcomes_upto magic tb n ++ map (run_by magic) (parts_named tb y)) (sym e)
      ∙ ap (λ (b : Bool). outcomes_upto magic tb n ++ map (run_by magic) (cond b [] (gathered tb x ∷ []))) (ne_eqb x 255 o)

  -- the first n turns, and the rest
  pub parts_rest : (n : ℕ) → n ≤ get_or tb 2 0 + get_or tb 1 0 → (rest : List Outcome) × (map (run_by magic) (parts_of q) ≡ outcomes_upto magic tb n ++ rest)
  parts_rest n l =
      let more : ℕ = get_or tb 2 0 + get_or tb 1 0 - n in
      let whole : n + more ≡ get_or tb 2 0 + get_or tb 1 0 = omega arith in
      let row : ℕ → List Problem = λ i. parts_named tb (name_at tb i) in (
        map (run_by magic) (flat_map row (tabulate (λ i. n + i) more)),
        ap (map (run_by magic)) (sym (parts_all tb h (n + more) whole) ∙ ap (flat_map row) (tabulate-add (λ i. i) n more) ∙ flat_append row (tabulate (λ i. i) n) (tabulate (λ i. n + i) more))
            ∙ map-append (parts_upto tb n) (flat_map row (tabulate (λ i. n + i) more)),
      )

  -- ---- an atom's predicate and its label

  pub predicate_known : (a : ℕ) → a < atoms → predicate_at q a < length q.arities
  predicate_known a l =
      let of = number_onto q.constants q.arities a l in
      let same : predicate_at q a ≡ of.pred = ap (predicate_at q) (sym of.numbered) ∙ predicate_is q of.pred of.args of.atom in
      omega (arith, same, of.atom.known)

  label_below : (a : ℕ) → a < atoms → (label (predicate_at q a) < length q.arities) × (label (predicate_at q a) < 32)
  label_below a l =
      let known = predicate_known a l in
      let small : predicate_at q a < 33 = omega (arith, known, h.fits.predicates_fit) in
      let low = (labels_known tb h).below (predicate_at q a) small in
      (omega arith, omega (arith, known, low, h.fits.predicates_fit))

  -- a label is its own label
  label_own : (a : ℕ) → a < atoms → label (label (predicate_at q a)) ≡ label (predicate_at q a)
  label_own a l =
      let small : predicate_at q a < 33 = omega (arith, predicate_known a l, h.fits.predicates_fit) in
      sym (family-label tb h (predicate_at q a) (label (predicate_at q a)) ((labels_known tb h).linked (predicate_at q a) small))

  -- the part of the turn of an atom's label is that of the atom's predicate
  label_part : (a : ℕ) → a < atoms → gathered tb (label (predicate_at q a)) ≡ part_of q (predicate_at q a)
  label_part a l =
      let p : ℕ = predicate_at q a in
      let small : p < 33 = omega (arith, predicate_known a l, h.fits.predicates_fit) in
      lowest_part tb h (label p) (label_below a l).1 (label_own a l) ∙ part_same q (label p) p (family_sym q p (label p) ((labels_known tb h).linked p small))

  name_past : (n : ℕ) → get_or tb 2 0 ≤ n → name_at tb n ≡ cond (eqb (label (n - get_or tb 2 0)) (n - get_or tb 2 0)) (n - get_or tb 2 0) 255
  name_past n l =
      ap (λ (b : Bool). cond b (cond (eqb (get_or tb (clause_at n) 0 + get_or tb (clause_at n + 1) 0) 0) (32 + n) 255) (cond (eqb (label (n - get_or tb 2 0)) (n - get_or tb 2 0)) (n - get_or tb 2 0) 255)) (le-ltb n (get_or tb 2 0) l)

  -- the turn of an atom's label has that name
  label_name : (a n : ℕ) → a < atoms → get_or tb 2 0 + label (predicate_at q a) ≡ n → name_at tb n ≡ label (predicate_at q a)
  label_name a n l e =
      let mine : n - get_or tb 2 0 ≡ label (predicate_at q a) = omega arith in
      name_past n (omega arith)
      ∙ ap (λ (x : ℕ). cond (eqb (label x) x) x 255) mine
      ∙ ap (λ (b : Bool). cond b (label (predicate_at q a)) 255) (eq-eqb (label (label (predicate_at q a))) (label (predicate_at q a)) (label_own a l))

  -- an earlier label is no name of a later turn
  name_later : (a n x : ℕ) → a < atoms → x ≡ name_at tb n → get_or tb 2 0 + label (predicate_at q a) < n → label (predicate_at q a) ≡ x → ⊥
  name_later a n x l e below same = go (eqb (label (n - get_or tb 2 0)) (n - get_or tb 2 0)) (e ∙ name_past n (omega arith))
    where
      go : (b : Bool) → x ≡ cond b (n - get_or tb 2 0) 255 → ⊥
      go true f = omega arith
      go false f = omega (arith, (label_below a l).1)

  -- ---- a turn

  module _ (joined : List ℕ) (n verdict count : ℕ) (r : Running magic tb joined n verdict count) (room : n < get_or tb 2 0 + get_or tb 1 0) where
    some_verdict : verdict ≡ 0 → ⊥
    some_verdict e = number_some (outcomes_upto magic tb n) r.none_refuted (sym r.tallied.said ∙ e)

    -- without a part
    pub turn_skipped : name_at tb n ≡ 255 → Turned magic tb joined (n + 1) verdict count
    turn_skipped e =
        let same : outcomes_upto magic tb n ≡ outcomes_upto magic tb (n + 1) = sym (outcomes_skip n e) in
        let tallied : Tallied (outcomes_upto magic tb (n + 1)) verdict count = subst (λ (os : List Outcome). Tallied os verdict count) same r.tallied in
        record {
          tallied = tallied;
          size = r.size;
          ended = λ z. absurd (some_verdict z);
          goes_on =
              λ z.
              record {
                none_refuted = subst (λ (os : List Outcome). every not_refuted os ≡ true) same r.none_refuted;
                tallied = tallied;
                small = omega (arith, r.small);
                size = r.size;
                bits_are = bits;
              };
        }
      where
        bits : (a : ℕ) → a < atoms → get_or tb 2 0 + label (predicate_at q a) < n + 1 → get_or joined a 0 ≡ bit (joined_bit magic q a)
        bits a l b = go (lt_or_le (get_or tb 2 0 + label (predicate_at q a)) n)
          where
            go : (get_or tb 2 0 + label (predicate_at q a) < n) ⊎ (n ≤ get_or tb 2 0 + label (predicate_at q a)) → get_or joined a 0 ≡ bit (joined_bit magic q a)
            go (inl m) = r.bits_are a l m
            go (inr m) =
                let here : get_or tb 2 0 + label (predicate_at q a) ≡ n = omega arith in
                absurd (omega (arith, label_name a n l here, (label_below a l).1, e))

    -- with the run of its part
    pub turn_run : (marks : List ℕ) → Marked tb marks → (x : ℕ) → x ≡ name_at tb n → (x ≡ 255 → ⊥) → (v : Verdict) → v ≡ verdict_of (run_by magic (gathered tb x))
        → (left : List ℕ) → left ≡ tabulate (joined_as marks x (answer_of (run_by magic (gathered tb x)) (replicate 1024 0)) joined) 1024
        → (said sum : ℕ) → Counting verdict count v said sum → Turned magic tb left (n + 1) said sum
    unfolding runs_of
    turn_run marks m x e o v ev left el said sum c =
        record {
          tallied = tallied;
          size = size;
          ended = ended;
          goes_on =
              λ z.
              record {
                none_refuted = subst (λ (l : List Outcome). every not_refuted l ≡ true) (sym more) (still_none os r.none_refuted out (unrefuted_by verdict out (λ f. z (after ∙ f))));
                tallied = tallied;
                small = omega (arith, r.small, c.small);
                size = size;
                bits_are = bits;
              };
        }
      where
        os : List Outcome
        os = outcomes_upto magic tb n

        out : Outcome
        out = run_by magic (gathered tb x)

        more : outcomes_upto magic tb (n + 1) ≡ os ++ (out ∷ [])
        more = outcomes_run n x e o

        after : said ≡ verdict_after verdict (verdict_of out)
        after = c.said_is ∙ ap (verdict_after verdict) ev

        size : length left ≡ 1024
        size = ap length el ∙ tabulate-length (joined_as marks x (answer_of out (replicate 1024 0)) joined) 1024

        tallied : Tallied (outcomes_upto magic tb (n + 1)) said sum
        tallied =
            subst (λ (l : List Outcome). Tallied l said sum) (sym more)
            (record {
              said = after ∙ ap (λ (w : ℕ). verdict_after w (verdict_of out)) r.tallied.said ∙ sym (number_after os r.none_refuted out);
              sum = c.sum_is ∙ ap (λ (w : Verdict). count + (verdict_numbers w).value) ev ∙ ap (λ (w : ℕ). w + (verdict_numbers (verdict_of out)).value) r.tallied.sum ∙ sym (sum_snoc os out);
            })

        ended : said ≡ 0 → runs_of magic q ≡ outcomes_upto magic tb (n + 1)
        ended z =
            let none : is_refuted out ≡ true = refuted_by verdict some_verdict out (sym after ∙ z) in
            let rest = parts_rest (n + 1) (omega arith) in
            ap up_to_refuted (rest.1 ∙ ap (λ (l : List Outcome). l ++ rest.0) more) ∙ ap up_to_refuted (append_snoc os out rest.0) ∙ ends_here os r.none_refuted out rest.0 none ∙ sym more

        bits : (a : ℕ) → a < atoms → get_or tb 2 0 + label (predicate_at q a) < n + 1 → get_or left a 0 ≡ bit (joined_bit magic q a)
        bits a l b = here ∙ go (lt_or_le (get_or tb 2 0 + label (predicate_at q a)) n)
          where
            here : get_or left a 0 ≡ cond (eqb (label (predicate_at q a)) x) (get_or (answer_of out (replicate 1024 0)) a 0) (get_or joined a 0)
            here =
                ap (λ (ys : List ℕ). get_or ys a 0) el
                ∙ tabulate_at (joined_as marks x (answer_of out (replicate 1024 0)) joined) 0 1024 a (omega (arith, l, h.fits.atoms_fit))
                ∙ ap (λ (w : ℕ). cond (eqb w x) (get_or (answer_of out (replicate 1024 0)) a 0) (get_or joined a 0)) (m.marks_are a l)

            go : (get_or tb 2 0 + label (predicate_at q a) < n) ⊎ (n ≤ get_or tb 2 0 + label (predicate_at q a))
                → cond (eqb (label (predicate_at q a)) x) (get_or (answer_of out (replicate 1024 0)) a 0) (get_or joined a 0) ≡ bit (joined_bit magic q a)
            go (inl s) =
                ap (λ (w : Bool). cond w (get_or (answer_of out (replicate 1024 0)) a 0) (get_or joined a 0)) (ne_eqb (label (predicate_at q a)) x (name_later a n x l e s)) ∙ r.bits_are a l s
            go (inr s) =
                let mine : label (predicate_at q a) ≡ x = sym (e ∙ label_name a n l (omega arith)) in
                ap (λ (w : Bool). cond w (get_or (answer_of out (replicate 1024 0)) a 0) (get_or joined a 0)) (eq-eqb (label (predicate_at q a)) x mine)
                ∙ bits_left out 1024 a
                ∙ ap (λ (p : Problem). bit (get_or (bits_of (run_by magic p)) a false)) (ap (gathered tb) (sym mine) ∙ label_part a l)

  -- ---- all turns

  pub turns_start : (joined : List ℕ) → length joined ≡ 1024 → Running magic tb joined 0 1 0
  unfolding flat_map
  turns_start joined size =
      record { none_refuted = refl; tallied = record { said = refl; sum = refl }; small = omega arith; size = size; bits_are = λ a l b. absurd (omega arith) }

  pub turns_stop : (joined : List ℕ) (n verdict count : ℕ) → Turned magic tb joined n verdict count → verdict ≡ 0 → Ran magic q joined verdict count
  turns_stop joined n verdict count t z =
      record {
        tallied = subst (λ (os : List Outcome). Tallied os verdict count) (sym (t.ended z)) t.tallied;
        size = t.size;
        bits_are = λ e. absurd (omega arith);
      }

  pub turns_end : (joined : List ℕ) (n verdict count : ℕ) → n ≡ get_or tb 2 0 + get_or tb 1 0 → Running magic tb joined n verdict count → Ran magic q joined verdict count
  unfolding runs_of joined_bits
  turns_end joined n verdict count e r =
      let made : runs_of magic q ≡ outcomes_upto magic tb n = ap (λ (ps : List Problem). up_to_refuted (map (run_by magic) ps)) (sym (parts_all tb h n e)) ∙ all_made (outcomes_upto magic tb n) r.none_refuted in
      record {
        tallied = subst (λ (os : List Outcome). Tallied os verdict count) (sym made) r.tallied;
        size = r.size;
        bits_are =
            λ z.
            ext_get_or 0 (take atoms joined) (map bit (joined_bits magic q))
            (length-take-le atoms joined (omega (arith, r.size, h.fits.atoms_fit)) ∙ sym (length-map (joined_bits magic q) bit ∙ tabulate-length (joined_bit magic q) atoms))
            (λ a l. each a (omega (arith, l, length-take-le atoms joined (omega (arith, r.size, h.fits.atoms_fit)))));
      }
    where
      each : (a : ℕ) → a < atoms → get_or (take atoms joined) a 0 ≡ get_or (map bit (joined_bits magic q)) a 0
      each a l =
          get_or-take atoms joined a 0 l
          ∙ r.bits_are a l (omega (arith, e, (label_below a l).0, predicates_byte tb h))
          ∙ sym (ap (λ (xs : List ℕ). get_or xs a 0) (tabulate-map bit (joined_bit magic q) atoms) ∙ tabulate_at (λ i. bit (joined_bit magic q i)) 0 atoms a l)
