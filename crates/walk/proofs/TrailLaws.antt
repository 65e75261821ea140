-- Entries made one after another, and the outcome of a walk that has ended.
use Prim.Native.Nat.{ℕ, ◌+◌, ◌-◌, max, ◌≤◌}
use mathlib.Core.Bool.{Bool}
use mathlib.Core.List.{List, [], ◌∷◌, ◌++◌, append-nil}
use mathlib.Core.Option.{Option, none, some}
use mathlib.Core.Path.{◌≡◌, refl, sym, ap, subst, ◌∙◌}
use native.Mathlib.Omega.{arith}
use lib.ListN.{length, length-append}
use Rattle.search.specs.Ground.{Found, closed, opened, split}
use Rattle.search.specs.Machine.{Branch, Place, after, next_path, Satisfied, Refuted, Exhausted, stopped, answer_at, last, longest, placed, advance, entries, proceed}
use Rattle.search.proofs.Machine.{entries-zero, entries-none, entries-some, entries_on, last-append, proceed-none, proceed_zero, proceed_on}
use Rattle.search.proofs.Deepest.{longest-append}
use Rattle.walk.specs.terms.Trail.{AtEntry, NextEntry}

-- a place that is not open stops as its next path says
stops : {I : Type 0} (f : Found I) (o : Option (List (Branch I))) (n : ℕ) → ((bits : List Bool) → f ≡ opened bits → ⊥) → answer_at f o n ≡ stopped o n
stops closed o n u = refl
stops (opened bits) o n u = absurd (u bits refl)
stops (split i ds) o n u = refl

module _ {I : Type 0} (find : List ℕ → Found I) where
  -- ---- entries made

  pub at_start : (s : Place I) (d b : ℕ) → AtEntry find s d b b s d
  at_start s d b =
      let none_yet : b - b ≡ 0 = omega arith in
      record {
        begun = omega arith;
        made = rw (none_yet, entries-zero find);
        here = rw (none_yet, entries-zero find);
        deep = rw (none_yet, entries-zero find);
      }

  module _ (s : Place I) (b n : ℕ) where
    -- an entry that is not open has the next one after it
    pub next_of : (t : Place I) → ((bits : List Bool) → t.found ≡ opened bits → ⊥) → {d e : ℕ} → AtEntry find s d b n t e → NextEntry find s d b n (next_path t) e
    next_of t u at = record { latest = t; at_latest = at; unopened = u; next = refl }

    -- one more is made, and its path counted in
    pub entry_made : (o : Option (List (Branch I))) (t : Place I) {d e : ℕ} → NextEntry find s d b n o e → placed find o ≡ some t → AtEntry find s d b (n + 1) t (max e (length t.path))
    entry_made o t {d} due made =
        let at = due.at_latest in
        let one : n + 1 - b ≡ (n - b) + 1 = omega (arith, at.begun) in
        let es = entries find (n - b) s in
        let step : advance find (last s es) ≡ some t = ap (advance find) at.here ∙ ap (placed find) due.next ∙ made in
        let all : entries find (n + 1 - b) s ≡ es ++ (t ∷ []) =
        ap (λ (j : ℕ). entries find j s) one ∙ entries_on find (n - b) 1 s ∙ ap (λ (x : List (Place I)). es ++ x) (entries-some find 0 (last s es) t step ∙ ap (λ (x : List (Place I)). t ∷ x) (entries-zero find t)) in
        record {
          begun = omega (arith, at.begun);
          made = ap length all ∙ length-append es (t ∷ []) ∙ ap (λ (j : ℕ). j + 1) at.made ∙ sym one;
          here = ap (last s) all ∙ last-append find s es (t ∷ []);
          deep = ap (longest d) all ∙ longest-append d es (t ∷ []) ∙ ap (λ (j : ℕ). max j (length t.path)) at.deep;
        }

    -- the next path under another name
    pub next_as : (o p : Option (List (Branch I))) → o ≡ p → {d e : ℕ} → NextEntry find s d b n o e → NextEntry find s d b n p e
    next_as o p same {d} {e} h = subst (λ (q : Option (List (Branch I))). NextEntry find s d b n q e) same h

  -- ---- how a walk that has ended answers, from its start s on

  module _ (s : Place I) (b limit : ℕ) where
    -- running on from entry n under a limit
    runs_from : (n : ℕ) (t : Place I) {d e : ℕ} → AtEntry find s d b n t e → n ≤ limit → proceed find (limit - b) b s ≡ proceed find (limit - n) n t
    runs_from n t at within =
        let all : limit - b ≡ n - b + (limit - n) = omega (arith, at.begun) in
        let count : b + length (entries find (n - b) s) ≡ n = omega (arith, at.made, at.begun) in
        ap (λ (j : ℕ). proceed find j b s) all
        ∙ proceed_on find (n - b) (limit - n) b s
        ∙ ap (λ (j : ℕ). proceed find (limit - n) j (last s (entries find (n - b) s))) count
        ∙ ap (proceed find (limit - n) n) at.here

    -- where nothing follows entry n, these are all the entries
    pub all_made : (n : ℕ) (t : Place I) {d e : ℕ} → AtEntry find s d b n t e → n ≤ limit → advance find t ≡ none → entries find (limit - b) s ≡ entries find (n - b) s
    all_made n t at within over =
        let all : limit - b ≡ n - b + (limit - n) = omega (arith, at.begun) in
        let es = entries find (n - b) s in
        ap (λ (j : ℕ). entries find j s) all ∙ entries_on find (n - b) (limit - n) s
        ∙ ap (λ (u : Place I). es ++ entries find (limit - n) u) at.here
        ∙ ap (λ (x : List (Place I)). es ++ x) (entries-none find (limit - n) t over) ∙ append-nil es

    pub open_over : (t : Place I) (bits : List Bool) → t.found ≡ opened bits → advance find t ≡ none
    open_over t bits e = ap (λ (f : Found I). placed find (after f t.path)) e

    pub answer_open : (n : ℕ) (t : Place I) (bits : List Bool) {d e : ℕ} → AtEntry find s d b n t e → n ≤ limit → t.found ≡ opened bits → proceed find (limit - b) b s ≡ Satisfied n bits
    answer_open n t bits at within open_there =
        runs_from n t at within ∙ proceed-none find (limit - n) n t (open_over t bits open_there) ∙ ap (λ (f : Found I). answer_at f (after f t.path) n) open_there

    pub answer_shut : (n : ℕ) {d e : ℕ} → NextEntry find s d b n none e → n ≤ limit → proceed find (limit - b) b s ≡ Refuted n
    answer_shut n h within =
        let t = h.latest in
        runs_from n t h.at_latest within ∙ proceed-none find (limit - n) n t (ap (placed find) h.next)
        ∙ stops t.found (next_path t) n h.unopened ∙ ap (λ (o : Option (List (Branch I))). stopped o n) h.next

    pub answer_due : (bs : List (Branch I)) {d e : ℕ} → NextEntry find s d b limit (some bs) e → proceed find (limit - b) b s ≡ Exhausted limit
    answer_due bs h =
        let t = h.latest in
        let no_more : limit - limit ≡ 0 = omega arith in
        runs_from limit t h.at_latest (omega arith) ∙ ap (λ (j : ℕ). proceed find j limit t) no_more ∙ proceed_zero find limit t
        ∙ stops t.found (next_path t) limit h.unopened ∙ ap (λ (o : Option (List (Branch I))). stopped o limit) h.next
