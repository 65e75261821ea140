-- The runs that are made: all parts, or those up to the first none; what they say where all fit; and the sum of their entries.
use Prim.Native.Nat.{ℕ, ◌+◌}
use mathlib.Core.Bool.{Bool, true, false, cond}
use mathlib.Core.List.{List, [], ◌∷◌, ◌++◌, map}
use mathlib.Core.Logic.{◌↔◌, ◌⊎◌, inl, inr}
use mathlib.Core.Option.{Option, none, some}
use mathlib.Core.Path.{◌≡◌, refl, sym, ap, subst, ◌∙◌}
use native.Mathlib.Nat.{zero-add}
use lib.Dec.{T}
use lib.ListN.{length}
use Rattle.lists.specs.Member.{All}
use Rattle.lists.proofs.Member.{all_map, all_zip, append_left, all_of}
use Rattle.search.specs.Ground.{Found, closed, opened, split}
use Rattle.search.specs.Machine.{Branch, Outcome, Satisfied, Refuted, Exhausted, answer_at, next_path, last, root, entries, proceed}
use Rattle.problem.specs.Problem.{Clause, Problem, limit_of}
use Rattle.ground.specs.Instance.{Instance}
use Rattle.ground.specs.Verdict.{verdict_of, verdict_numbers}
use Rattle.parting.specs.Parts.{part_of, parts_of}
use Rattle.parting.specs.Runs.{find_by, is_refuted, is_exhausted, run_by, up_to_refuted, runs_of, sum_of}
use Rattle.parting.specs.Listed.{SatisfiedBy, RefutedBy, SaidByAll, entries_made, total, EndsRefuted, Counted}
use Rattle.parting.proofs.ClaimEachLaws.{parts_each}
use Rattle.parting.proofs.ClaimSaidLaws.{said_of}

-- ---- how a walk ends

refuted_is : (o : Outcome) → T (is_refuted o) ↔ ((n : ℕ) × (o ≡ Refuted n))
refuted_is (Satisfied n bits) = (λ t. absurd t, λ e. absurd (subst (λ (o : Outcome). T (is_refuted o)) (sym e.1) tt))
refuted_is (Refuted n) = (λ t. (n, refl), λ e. tt)
refuted_is (Exhausted n) = (λ t. absurd t, λ e. absurd (subst (λ (o : Outcome). T (is_refuted o)) (sym e.1) tt))

exhausted_is : (o : Outcome) → T (is_exhausted o) ↔ ((n : ℕ) × (o ≡ Exhausted n))
exhausted_is (Satisfied n bits) = (λ t. absurd t, λ e. absurd (subst (λ (o : Outcome). T (is_exhausted o)) (sym e.1) tt))
exhausted_is (Refuted n) = (λ t. absurd t, λ e. absurd (subst (λ (o : Outcome). T (is_exhausted o)) (sym e.1) tt))
exhausted_is (Exhausted n) = (λ t. (n, refl), λ e. tt)

satisfied_is : (o : Outcome) → (T (is_refuted o) → ⊥) → (T (is_exhausted o) → ⊥) → (n : ℕ) × ((bits : List Bool) × (o ≡ Satisfied n bits))
satisfied_is (Satisfied n bits) h k = (n, (bits, refl))
satisfied_is (Refuted n) h k = absurd (h tt)
satisfied_is (Exhausted n) h k = absurd (k tt)

-- ---- fits exactly if all fit

module _ (magic : Bool) (q : Problem) where
  abbrev NotRefuted : Problem → Type 0
  NotRefuted p = T (is_refuted (run_by magic p)) → ⊥

  abbrev NotExhausted : Problem → Type 0
  NotExhausted p = T (is_exhausted (run_by magic p)) → ⊥

  not_refuted : (p : Problem) → SatisfiedBy magic p → NotRefuted p
  not_refuted p s t = subst (λ (o : Outcome). T (is_refuted o)) s.1.1 t

  not_exhausted : (p : Problem) → SatisfiedBy magic p → NotExhausted p
  not_exhausted p s t = subst (λ (o : Outcome). T (is_exhausted o)) s.1.1 t

  pub said_by_all : SaidByAll magic q
  said_by_all =
      let said = (said_of magic q).satisfied in
      record {
        satisfied = (
          λ e. all_zip NotRefuted NotExhausted (SatisfiedBy magic) (λ p h k. satisfied_is (run_by magic p) h k) (parts_of q) (said.0 e).0 (said.0 e).1,
          λ a. said.1 (all_map (SatisfiedBy magic) NotRefuted not_refuted (parts_of q) a, all_map (SatisfiedBy magic) NotExhausted not_exhausted (parts_of q) a),
        );
        refuted_is = λ p. refuted_is (run_by magic p);
        exhausted_is = λ p. exhausted_is (run_by magic p);
      }

-- ---- the runs that are made

-- ps up to the first none, whose outcomes are os
record Made (magic : Bool) (ps : List Problem) (os : List Outcome) : Type 0 where
  made : List Problem
  rest : List Problem
  parts : ps ≡ made ++ rest
  ended : ((rest ≡ []) × All (λ p. RefutedBy magic p → ⊥) made) ⊎ EndsRefuted magic made
  runs : os ≡ map (run_by magic) made

module _ (magic : Bool) where
  made_none : Made magic [] []
  made_none = record { made = []; rest = []; parts = refl; ended = inl (refl, tt); runs = refl }

  made_more : (p : Problem) (ps : List Problem) (os : List Outcome) → (RefutedBy magic p → ⊥) → Made magic ps os → Made magic (p ∷ ps) (run_by magic p ∷ os)
  made_more p ps os not_None m =
      record {
        made = p ∷ m.made;
        rest = m.rest;
        parts = ap (λ (l : List Problem). p ∷ l) m.parts;
        ended = go m.ended;
        runs = ap (λ (l : List Outcome). run_by magic p ∷ l) m.runs;
      }
    where
      go : ((m.rest ≡ []) × All (λ p. RefutedBy magic p → ⊥) m.made) ⊎ EndsRefuted magic m.made
          → ((m.rest ≡ []) × All (λ p. RefutedBy magic p → ⊥) (p ∷ m.made)) ⊎ EndsRefuted magic (p ∷ m.made)
      go (inl e) = inl (e.0, (not_None, e.1))
      go (inr e) =
          inr
          (record {
            front = p ∷ e.front;
            final = e.final;
            order = ap (λ (l : List Problem). p ∷ l) e.order;
            none_before = (not_None, e.none_before);
            refuted = e.refuted;
          })

  made_last : (p : Problem) (ps : List Problem) → RefutedBy magic p → Made magic (p ∷ ps) (run_by magic p ∷ [])
  made_last p ps refuted =
      record { made = p ∷ []; rest = ps; parts = refl; ended = inr (record { front = []; final = p; order = refl; none_before = tt; refuted = refuted }); runs = refl }

  made_of : (ps : List Problem) → Made magic ps (up_to_refuted (map (run_by magic) ps))
  made_of [] = made_none
  made_of (p ∷ ps) = go (is_refuted (run_by magic p)) refl (made_of ps)
    where
      go : (b : Bool) → is_refuted (run_by magic p) ≡ b → Made magic ps (up_to_refuted (map (run_by magic) ps))
          → Made magic (p ∷ ps) (run_by magic p ∷ cond b [] (up_to_refuted (map (run_by magic) ps)))
      go true e m = made_last p ps ((refuted_is (run_by magic p)).0 (subst T (sym e) tt))
      go false e m = made_more p ps (up_to_refuted (map (run_by magic) ps)) (λ r. subst T e ((refuted_is (run_by magic p)).1 r)) m

  -- ---- their entries

  abbrev count_of : Outcome → ℕ
  count_of o = (verdict_numbers (verdict_of o)).value

  counted_at : (x : Found Instance) (o : Option (List (Branch Instance))) (n : ℕ) → count_of (answer_at x o n) ≡ n
  counted_at closed none n = refl
  counted_at closed (some bs) n = refl
  counted_at (opened bits) o n = refl
  counted_at (split i ds) none n = refl
  counted_at (split i ds) (some bs) n = refl

  count_run : (p : Problem) → (verdict_numbers (verdict_of (run_by magic p))).value ≡ entries_made magic (limit_of p.limit) p
  unfolding run_by proceed
  count_run p =
      let find = find_by magic p in
      let es = entries find (limit_of p.limit) (root find) in
      let s = last (root find) es in
      counted_at s.found (next_path s) (0 + length es) ∙ zero-add (length es)

  sum_runs : (limit : List ℕ) (ps : List Problem) → All (λ (p : Problem). p.limit ≡ limit) ps → sum_of (map (run_by magic) ps) ≡ total (entries_made magic (limit_of limit)) ps
  sum_runs limit [] a = refl
  sum_runs limit (p ∷ ps) a =
      let here : (verdict_numbers (verdict_of (run_by magic p))).value ≡ entries_made magic (limit_of limit) p = count_run p ∙ ap (λ (l : List ℕ). entries_made magic (limit_of l) p) a.0 in
      rw (here, sum_runs limit ps a.1)

-- every part has the ticket's limit
part_limit : (q : Problem) (p : ℕ) → (part_of q p).limit ≡ q.limit
unfolding part_of
part_limit q p = refl

limits : (q : Problem) → All (λ (p : Problem). p.limit ≡ q.limit) (parts_of q)
limits q = parts_each q (λ (p : Problem). p.limit ≡ q.limit) (all_of (λ (k : Clause). q.limit ≡ q.limit) (λ k. refl) q.clauses) (part_limit q)

pub counted : (magic : Bool) (q : Problem) → Counted magic q (sum_of (runs_of magic q))
unfolding runs_of
counted magic q =
    let m = made_of magic (parts_of q) in
    let same : All (λ (p : Problem). p.limit ≡ q.limit) (m.made ++ m.rest) = subst (All (λ (p : Problem). p.limit ≡ q.limit)) m.parts (limits q) in
    record {
      made = m.made;
      rest = m.rest;
      parts = m.parts;
      ended = m.ended;
      sum = ap sum_of m.runs ∙ sum_runs magic q.limit m.made (append_left (λ (p : Problem). p.limit ≡ q.limit) m.made m.rest same);
    }
