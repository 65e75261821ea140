-- Labels, merged clause by clause: in the end two predicates have one label exactly if they are of one family, and it is the lowest of it.
use Prim.Native.Nat.{ℕ, zero, suc, ◌+◌, ◌-◌, ◌*◌, ◌≤◌, ◌<◌, min, max}
use mathlib.Core.Bool.{Bool, true, false, cond}
use mathlib.Core.List.{List, [], ◌∷◌, ◌++◌, map}
use mathlib.Core.Logic.{◌↔◌, ◌⊎◌, inl, inr}
use mathlib.Core.Path.{◌≡◌, refl, sym, ap, subst, ◌∙◌}
use native.Mathlib.Omega.{arith}
use borrow.Author.Tests.{eqb-true, eqb-false, lt-ltb, le-ltb, eq-eqb, ne_eqb}
use lib.Dec.{T, eqb, ltb, eqb→eq, eqb_refl}
use lib.ListN.{length, get_or, length-map, length-append, get_or-append}
use lib.Seq.{get_or-append-add}
use Rattle.lists.specs.Key.{nat_key}
use Rattle.lists.specs.Member.{All, In}
use Rattle.lists.specs.Tabulate.{tabulate}
use Rattle.lists.proofs.Bytes.{all_at}
use Rattle.lists.proofs.Tabulate.{tabulate-length, tabulate_at}
use Rattle.lists.proofs.Member.{all_map, All-append, all_mapped, has_all, has_here, has_there, has_cases}
use Rattle.lists.proofs.Test.{same_test, lt_or_le, same_or_other, T-true}
use Rattle.problem.specs.Problem.{Atom, Clause, Problem, AtomFits, ClauseFits}
use Rattle.problem.specs.Layout.{problem_in, layout}
use Rattle.problem.specs.Table.{Lawful}
use Rattle.problem.proofs.Access.{condition_in, alternative_in}
use Rattle.problem.proofs.TableLayout.{no_atom}
use Rattle.ground.specs.Instance.{clause_of, no_clause}
use Rattle.ground.proofs.AtomLaws.{table_size, conds_count, alts_count}
use Rattle.ground.proofs.Turns.{clauses_byte}
use Rattle.parting.specs.Parts.{predicates_of, family, touches, part_of, is_lowest}
use Rattle.parting.specs.Claims.{Has}
use Rattle.parting.specs.terms.Labels.{renamed, merged, merged_slots, clause_at, lead_at, merged_clause, labels_upto, labels_in}
use Rattle.parting.proofs.FamilyLaws.{family_self, family_step, family_ind, family_trans, family_sym, touched, touching, lowest, has_place}

either : {A B C : Type 0} → (A → C) → (B → C) → A ⊎ B → C
either f g (inl a) = f a
either f g (inr b) = g b

-- ---- renaming

pub map_at : (f : ℕ → ℕ) (ls : List ℕ) (a : ℕ) → a < length ls → get_or (map f ls) a 0 ≡ f (get_or ls a 0)
map_at f [] a h = absurd (omega arith)
map_at f (x ∷ ls) zero h = refl
map_at f (x ∷ ls) (suc a) h = map_at f ls a (omega arith)

by_name : (P : ℕ → Type 0) (from to x : ℕ) → (x ≡ from → P to) → ((x ≡ from → ⊥) → P x) → P (renamed from to x)
by_name P from to x f g = go (eqb x from) refl
  where
    go : (b : Bool) → eqb x from ≡ b → P (cond b to x)
    go true e = f (eqb-true x from e)
    go false e = g (eqb-false x from e)

either_max : (P : ℕ → Type 0) (a b : ℕ) → P a → P b → P (max a b)
either_max P a b p r = go (lt_or_le a b)
  where
    go : (a < b) ⊎ (b ≤ a) → P (max a b)
    go (inl h) = let e : max a b ≡ b = omega arith in subst P (sym e) r
    go (inr h) = let e : max a b ≡ a = omega arith in subst P (sym e) p

either_min : (P : ℕ → Type 0) (a b : ℕ) → P a → P b → P (min a b)
either_min P a b p r = go (lt_or_le a b)
  where
    go : (a < b) ⊎ (b ≤ a) → P (min a b)
    go (inl h) = let e : min a b ≡ a = omega arith in subst P (sym e) p
    go (inr h) = let e : min a b ≡ b = omega arith in subst P (sym e) r

-- the lesser of two stands for both
least_of : (a b x : ℕ) → (x ≡ a) ⊎ (x ≡ b) → renamed (max a b) (min a b) x ≡ min a b
least_of a b x h = by_name (λ y. y ≡ min a b) (max a b) (min a b) x (λ e. refl) (other h)
  where
    other : (x ≡ a) ⊎ (x ≡ b) → (x ≡ max a b → ⊥) → x ≡ min a b
    other (inl e) n = go (lt_or_le a b)
      where
        go : (a < b) ⊎ (b ≤ a) → x ≡ min a b
        go (inl l) = omega arith
        go (inr l) = absurd (n (omega arith))
    other (inr e) n = go (lt_or_le a b)
      where
        go : (a < b) ⊎ (b ≤ a) → x ≡ min a b
        go (inl l) = absurd (n (omega arith))
        go (inr l) = omega arith

-- ---- labels of a problem's predicates, some of them merged

-- what is known of labels at any time: each is no greater than its predicate, and of its family
pub record Labels (q : Problem) (ls : List ℕ) : Type 0 where
  pub size : length ls ≡ 33
  pub below : (a : ℕ) → a < 33 → get_or ls a 0 ≤ a
  pub linked : (a : ℕ) → a < 33 → In nat_key (family q a) (get_or ls a 0)

-- what has one label keeps one
abbrev pub Keeps : List ℕ → List ℕ → Type 0
Keeps ls ms = (a b : ℕ) → a < 33 → b < 33 → get_or ls a 0 ≡ get_or ls b 0 → get_or ms a 0 ≡ get_or ms b 0

module _ (q : Problem) (ls : List ℕ) (l : Labels q ls) (p r : ℕ) (hp : p < 33) (hr : r < 33) where
  abbrev high : ℕ
  high = max (get_or ls p 0) (get_or ls r 0)

  abbrev low : ℕ
  low = min (get_or ls p 0) (get_or ls r 0)

  merged_at : (a : ℕ) → a < 33 → get_or (merged p r ls) a 0 ≡ renamed high low (get_or ls a 0)
  merged_at a h = map_at (renamed high low) ls a (omega (arith, l.size))

  merged-Keeps : Keeps ls (merged p r ls)
  merged-Keeps a b ha hb e = merged_at a ha ∙ ap (renamed high low) e ∙ sym (merged_at b hb)

  merged_one : get_or (merged p r ls) p 0 ≡ get_or (merged p r ls) r 0
  merged_one =
      merged_at p hp ∙ least_of (get_or ls p 0) (get_or ls r 0) (get_or ls p 0) (inl refl) ∙ sym (merged_at r hr ∙ least_of (get_or ls p 0) (get_or ls r 0) (get_or ls r 0) (inr refl))

  merged-Labels : In nat_key (family q p) r → Labels q (merged p r ls)
  merged-Labels f = record { size = length-map ls (renamed high low) ∙ l.size; below = below; linked = linked }
    where
      below : (a : ℕ) → a < 33 → get_or (merged p r ls) a 0 ≤ a
      below a h =
          subst (λ (x : ℕ). x ≤ a) (sym (merged_at a h))
          (by_name (λ x. x ≤ a) high low (get_or ls a 0) (λ e. omega (arith, l.below a h, e)) (λ n. l.below a h))

      high_in : In nat_key (family q p) high
      high_in = either_max (In nat_key (family q p)) (get_or ls p 0) (get_or ls r 0) (l.linked p hp) (family_trans q p r (get_or ls r 0) f (l.linked r hr))

      low_in : In nat_key (family q p) low
      low_in = either_min (In nat_key (family q p)) (get_or ls p 0) (get_or ls r 0) (l.linked p hp) (family_trans q p r (get_or ls r 0) f (l.linked r hr))

      linked : (a : ℕ) → a < 33 → In nat_key (family q a) (get_or (merged p r ls) a 0)
      linked a h =
          subst (In nat_key (family q a)) (sym (merged_at a h))
          (by_name (In nat_key (family q a)) high low (get_or ls a 0)
          (λ e. family_trans q a high low (subst (In nat_key (family q a)) e (l.linked a h)) (family_trans q high p low (family_sym q p high high_in) low_in))
          (λ n. l.linked a h))

-- merged with the predicates that stand in slots
pub record Merges (q : Problem) (p : ℕ) (ls ms : List ℕ) (P : ℕ → Type 0) : Type 0 where
  pub labels : Labels q ms
  pub keeps : Keeps ls ms
  pub same : (s : ℕ) → P s → get_or ms p 0 ≡ get_or ms s 0

-- s stands in one of n slots
abbrev pub InSlots : List ℕ → ℕ → ℕ → ℕ → Type 0
InSlots tb at n s = (i : ℕ) × ((i < n) × (get_or tb (at + 6 * i) 0 ≡ s))

module _ (q : Problem) (tb : List ℕ) (at p : ℕ) (hp : p < 33) where
  pub slots_merge : (n : ℕ) (ls : List ℕ) → Labels q ls → ((i : ℕ) → i < n → (get_or tb (at + 6 * i) 0 < 33) × In nat_key (family q p) (get_or tb (at + 6 * i) 0))
      → Merges q p ls (merged_slots tb at p n ls) (InSlots tb at n)
  unfolding merged_slots
  slots_merge zero ls l f = record { labels = l; keeps = λ a b ha hb e. e; same = λ s i. absurd (omega (arith, i.1.0)) }
  slots_merge (suc n) ls l f =
      let before = slots_merge n ls l (λ i h. f i (omega arith)) in
      let ms = merged_slots tb at p n ls in
      let here = f n (omega arith) in
      let keeps : Keeps ms (merged p (get_or tb (at + 6 * n) 0) ms) = merged-Keeps q ms before.labels p (get_or tb (at + 6 * n) 0) hp here.0 in
      record {
        labels = merged-Labels q ms before.labels p (get_or tb (at + 6 * n) 0) hp here.0 here.1;
        keeps = λ a b ha hb e. keeps a b ha hb (before.keeps a b ha hb e);
        same =
            λ s i.
            slot_same n ms s i.0 i.1.0 i.1.1 (f i.0 i.1.0).0 keeps before.same
            (merged_one q ms before.labels p (get_or tb (at + 6 * n) 0) hp here.0);
      }
    where
      slot_same : (n : ℕ) (ms : List ℕ) (s i : ℕ) → i < suc n → get_or tb (at + 6 * i) 0 ≡ s → get_or tb (at + 6 * i) 0 < 33 → Keeps ms (merged p (get_or tb (at + 6 * n) 0) ms)
          → ((s : ℕ) → InSlots tb at n s → get_or ms p 0 ≡ get_or ms s 0)
          → get_or (merged p (get_or tb (at + 6 * n) 0) ms) p 0 ≡ get_or (merged p (get_or tb (at + 6 * n) 0) ms) (get_or tb (at + 6 * n) 0) 0
          → get_or (merged p (get_or tb (at + 6 * n) 0) ms) p 0 ≡ get_or (merged p (get_or tb (at + 6 * n) 0) ms) s 0
      slot_same n ms s i h e small keeps earlier last = go (lt_or_le i n)
        where
          go : (i < n) ⊎ (n ≤ i) → get_or (merged p (get_or tb (at + 6 * n) 0) ms) p 0 ≡ get_or (merged p (get_or tb (at + 6 * n) 0) ms) s 0
          go (inl l) = keeps p s hp (omega (arith, e, small)) (earlier s (i, (l, e)))
          go (inr l) =
              let same : i ≡ n = omega arith in
              last ∙ ap (λ (x : ℕ). get_or (merged p (get_or tb (at + 6 * n) 0) ms) x 0) (ap (λ (j : ℕ). get_or tb (at + 6 * j) 0) (sym same) ∙ e)

-- ---- the predicates of a clause, by its slots

-- what a list maps to, by place
in_mapped : (f : Atom → ℕ) (d : Atom) (xs : List Atom) (i : ℕ) → i < length xs → In nat_key (map f xs) (f (get_or xs i d))
in_mapped f d [] i h = absurd (omega arith)
in_mapped f d (x ∷ xs) zero h = has_here nat_key (f x) (map f xs)
in_mapped f d (x ∷ xs) (suc i) h = has_there nat_key (f x) (map f xs) (f (get_or xs i d)) (in_mapped f d xs i (omega arith))

place_in : (f : Atom → ℕ) (d : Atom) (xs : List Atom) (s : ℕ) → In nat_key (map f xs) s → (i : ℕ) × ((i < length xs) × (f (get_or xs i d) ≡ s))
place_in f d [] s h = absurd h
place_in f d (x ∷ xs) s h = go (has_cases nat_key (f x) (map f xs) s h) (place_in f d xs s)
  where
    go : (f x ≡ s) ⊎ In nat_key (map f xs) s → (In nat_key (map f xs) s → (i : ℕ) × ((i < length xs) × (f (get_or xs i d) ≡ s)))
        → (i : ℕ) × ((i < length (x ∷ xs)) × (f (get_or (x ∷ xs) i d) ≡ s))
    go (inl e) on = (0, (omega arith, e))
    go (inr m) on = let t = on m in (suc t.0, (omega (arith, t.1.0), t.1.1))

-- a clause's slots are within the table, and what stands in them is a predicate
pub record ClauseRoom (tb : List ℕ) (k : ℕ) : Type 0 where
  pub size : length tb ≡ 4096
  pub few : k < 64
  pub few_conds : get_or tb (clause_at k) 0 ≤ 4
  pub few_alts : get_or tb (clause_at k + 1) 0 ≤ 4
  pub conds_small : (i : ℕ) → i < get_or tb (clause_at k) 0 → get_or tb (clause_at k + 8 + 6 * i) 0 < 33
  pub alts_small : (i : ℕ) → i < get_or tb (clause_at k + 1) 0 → get_or tb (clause_at k + 32 + 6 * i) 0 < 33

module _ (tb : List ℕ) (h : Lawful tb) where
  abbrev q : Problem
  q = problem_in tb

  -- every predicate of a clause is one of the table's
  pub has_small : (k s : ℕ) → Has q k s → s < 32
  has_small k s m =
      let fits = all_at (ClauseFits q.constants q.arities) q.clauses no_clause k (has_place q k s m) h.fits.each_fits in
      let clause = clause_of q k in
      let known : (xs : List Atom) → All (AtomFits q.constants q.arities clause.vars) xs → All (λ (a : Atom). a.pred < 32) xs =
      λ xs. all_map (AtomFits q.constants q.arities clause.vars) (λ a. a.pred < 32) (λ a f. omega (arith, f.known, h.fits.predicates_fit)) xs in
      has_all nat_key (λ p. p < 32) (predicates_of clause)
      (all_mapped (λ a. a.pred) (λ p. p < 32) (clause.conds ++ clause.alts) (All-append (λ (a : Atom). a.pred < 32) clause.conds clause.alts (known clause.conds fits.conds_fit) (known clause.alts fits.alts_fit))) s m

  module _ (k : ℕ) (known : k < length q.clauses) where
    abbrev clause : Clause
    clause = clause_of q k

    cond_byte : (i : ℕ) → i < length clause.conds → get_or tb (clause_at k + 8 + 6 * i) 0 ≡ (get_or clause.conds i no_atom).pred
    cond_byte i l =
        subst (λ (t : List ℕ). get_or t (clause_at k + 8 + 6 * i) 0 ≡ (get_or clause.conds i no_atom).pred) h.laid
        (condition_in q h.fits no_clause k known no_atom i l).predicate

    alt_byte : (i : ℕ) → i < length clause.alts → get_or tb (clause_at k + 32 + 6 * i) 0 ≡ (get_or clause.alts i no_atom).pred
    alt_byte i l =
        subst (λ (t : List ℕ). get_or t (clause_at k + 32 + 6 * i) 0 ≡ (get_or clause.alts i no_atom).pred) h.laid
        (alternative_in q h.fits no_clause k known no_atom i l).predicate

    pub cond_has : (i : ℕ) → i < get_or tb (clause_at k) 0 → Has q k (get_or tb (clause_at k + 8 + 6 * i) 0)
    cond_has i l =
        let n : i < length clause.conds = omega (arith, conds_count tb h k known) in
        subst (Has q k) (ap (λ (a : Atom). a.pred) (get_or-append clause.conds clause.alts no_atom i n) ∙ sym (cond_byte i n))
        (in_mapped (λ a. a.pred) no_atom (clause.conds ++ clause.alts) i (omega (arith, length-append clause.conds clause.alts)))

    pub alt_has : (i : ℕ) → i < get_or tb (clause_at k + 1) 0 → Has q k (get_or tb (clause_at k + 32 + 6 * i) 0)
    alt_has i l =
        let n : i < length clause.alts = omega (arith, alts_count tb h k known) in
        subst (Has q k) (ap (λ (a : Atom). a.pred) (get_or-append-add clause.conds clause.alts i no_atom) ∙ sym (alt_byte i n))
        (in_mapped (λ a. a.pred) no_atom (clause.conds ++ clause.alts) (length clause.conds + i) (omega (arith, length-append clause.conds clause.alts)))

    -- what merging its slots asks
    pub clause_room : ClauseRoom tb k
    clause_room =
        let fits = all_at (ClauseFits q.constants q.arities) q.clauses no_clause k known h.fits.each_fits in
        record {
          size = table_size tb h;
          few = omega (arith, known, h.fits.clauses_fit);
          few_conds = omega (arith, conds_count tb h k known, fits.few_conds);
          few_alts = omega (arith, alts_count tb h k known, fits.few_alts);
          conds_small = λ i l. omega (arith, has_small k (get_or tb (clause_at k + 8 + 6 * i) 0) (cond_has i l));
          alts_small = λ i l. omega (arith, has_small k (get_or tb (clause_at k + 32 + 6 * i) 0) (alt_has i l));
        }

    -- a predicate of the clause stands in a slot
    pub in_slots : (s : ℕ) → Has q k s → InSlots tb (clause_at k + 8) (get_or tb (clause_at k) 0) s ⊎ InSlots tb (clause_at k + 32) (get_or tb (clause_at k + 1) 0) s
    in_slots s m = go (place_in (λ a. a.pred) no_atom (clause.conds ++ clause.alts) s m)
      where
        go : (i : ℕ) × ((i < length (clause.conds ++ clause.alts)) × ((get_or (clause.conds ++ clause.alts) i no_atom).pred ≡ s))
            → InSlots tb (clause_at k + 8) (get_or tb (clause_at k) 0) s ⊎ InSlots tb (clause_at k + 32) (get_or tb (clause_at k + 1) 0) s
        go t = by (lt_or_le t.0 (length clause.conds))
          where
            by : (t.0 < length clause.conds) ⊎ (length clause.conds ≤ t.0)
                → InSlots tb (clause_at k + 8) (get_or tb (clause_at k) 0) s ⊎ InSlots tb (clause_at k + 32) (get_or tb (clause_at k + 1) 0) s
            by (inl l) =
                inl (t.0, (omega (arith, conds_count tb h k known), cond_byte t.0 l ∙ ap (λ (a : Atom). a.pred) (sym (get_or-append clause.conds clause.alts no_atom t.0 l)) ∙ t.1.1))
            by (inr l) =
                let i : ℕ = t.0 - length clause.conds in
                let whole : t.0 ≡ length clause.conds + i = omega arith in
                let n : i < length clause.alts = omega (arith, t.1.0, length-append clause.conds clause.alts) in
                inr
                (i, (omega (arith, alts_count tb h k known), alt_byte i n ∙ ap (λ (a : Atom). a.pred) (sym (get_or-append-add clause.conds clause.alts i no_atom)) ∙ ap (λ (j : ℕ). (get_or (clause.conds ++ clause.alts) j no_atom).pred) (sym whole) ∙ t.1.1))

    -- ---- its first predicate

    pub data Lead : Type 0 where
      atoms : Has q k (lead_at tb k) → Lead
      bare : lead_at tb k ≡ 32 → get_or tb (clause_at k) 0 ≡ 0 → get_or tb (clause_at k + 1) 0 ≡ 0 → Lead

    pub leads : Lead
    leads = go (lt_or_le 0 (get_or tb (clause_at k) 0)) (lt_or_le 0 (get_or tb (clause_at k + 1) 0))
      where
        at : (x y : ℕ) → x ≡ y → get_or tb (x + 6 * 0) 0 ≡ get_or tb y 0
        at x y e = let z : x + 6 * 0 ≡ y = omega arith in ap (λ (j : ℕ). get_or tb j 0) z

        go : (0 < get_or tb (clause_at k) 0) ⊎ (get_or tb (clause_at k) 0 ≤ 0) → (0 < get_or tb (clause_at k + 1) 0) ⊎ (get_or tb (clause_at k + 1) 0 ≤ 0) → Lead
        go (inl n) m =
            let e : lead_at tb k ≡ get_or tb (clause_at k + 8) 0 = rw (lt-ltb 0 (get_or tb (clause_at k) 0) n) in
            atoms (subst (Has q k) (at (clause_at k + 8) (clause_at k + 8) refl ∙ sym e) (cond_has 0 n))
        go (inr n) (inl m) =
            let e : lead_at tb k ≡ get_or tb (clause_at k + 32) 0 = rw (le-ltb 0 (get_or tb (clause_at k) 0) n, lt-ltb 0 (get_or tb (clause_at k + 1) 0) m) in
            atoms (subst (Has q k) (at (clause_at k + 32) (clause_at k + 32) refl ∙ sym e) (alt_has 0 m))
        go (inr n) (inr m) = bare (rw (le-ltb 0 (get_or tb (clause_at k) 0) n, le-ltb 0 (get_or tb (clause_at k + 1) 0) m)) (omega arith) (omega arith)

    pub lead_small : lead_at tb k < 33
    lead_small = go leads
      where
        go : Lead → lead_at tb k < 33
        go (atoms m) = omega (arith, has_small k (lead_at tb k) m)
        go (bare e n m) = omega (arith, e)

    slot_family : (s : ℕ) → Has q k s → In nat_key (family q (lead_at tb k)) s
    slot_family s m = go leads
      where
        go : Lead → In nat_key (family q (lead_at tb k)) s
        go (atoms l) = family_step q (lead_at tb k) k (lead_at tb k) s l m (family_self q (lead_at tb k))
        go (bare e n o) = absurd (none (in_slots s m))
          where
            none : InSlots tb (clause_at k + 8) (get_or tb (clause_at k) 0) s ⊎ InSlots tb (clause_at k + 32) (get_or tb (clause_at k + 1) 0) s → ⊥
            none (inl i) = omega (arith, i.1.0, n)
            none (inr i) = omega (arith, i.1.0, o)

    pub lead_has : (s : ℕ) → Has q k s → Has q k (lead_at tb k)
    lead_has s m = go leads
      where
        go : Lead → Has q k (lead_at tb k)
        go (atoms l) = l
        go (bare e n o) = absurd (none (in_slots s m))
          where
            none : InSlots tb (clause_at k + 8) (get_or tb (clause_at k) 0) s ⊎ InSlots tb (clause_at k + 32) (get_or tb (clause_at k + 1) 0) s → ⊥
            none (inl i) = omega (arith, i.1.0, n)
            none (inr i) = omega (arith, i.1.0, o)

    pub clause_merges : (ls : List ℕ) → Labels q ls → Merges q (lead_at tb k) ls (merged_clause tb k ls) (Has q k)
    clause_merges ls l =
        let slot : (s : ℕ) → Has q k s → (s < 33) × In nat_key (family q (lead_at tb k)) s = λ s m. (omega (arith, has_small k s m), slot_family s m) in
        let first = slots_merge q tb (clause_at k + 8) (lead_at tb k) lead_small (get_or tb (clause_at k) 0) ls l (λ i n. slot (get_or tb (clause_at k + 8 + 6 * i) 0) (cond_has i n)) in
        let ms = merged_slots tb (clause_at k + 8) (lead_at tb k) (get_or tb (clause_at k) 0) ls in
        let then = slots_merge q tb (clause_at k + 32) (lead_at tb k) lead_small (get_or tb (clause_at k + 1) 0) ms first.labels (λ i n. slot (get_or tb (clause_at k + 32 + 6 * i) 0) (alt_has i n)) in
        let by : (s : ℕ) → Has q k s → InSlots tb (clause_at k + 8) (get_or tb (clause_at k) 0) s ⊎ InSlots tb (clause_at k + 32) (get_or tb (clause_at k + 1) 0) s → get_or (merged_clause tb k ls) (lead_at tb k) 0 ≡ get_or (merged_clause tb k ls) s 0 =
        λ s m. either (λ i. then.keeps (lead_at tb k) s lead_small (slot s m).0 (first.same s i)) (then.same s) in
        record {
          labels = then.labels;
          keeps = λ a b ha hb e. then.keeps a b ha hb (first.keeps a b ha hb e);
          same = λ s m. by s m (in_slots s m);
        }

  -- ---- clause by clause

  pub record Upto (k : ℕ) : Type 0 where
    pub labels : Labels q (labels_upto tb k)
    pub same : (j s : ℕ) → j < k → Has q j s → get_or (labels_upto tb k) (lead_at tb j) 0 ≡ get_or (labels_upto tb k) s 0

  each : (k : ℕ) → k ≤ length q.clauses → Upto k
  unfolding labels_upto
  each zero l =
      record {
        labels =
            record {
              size = tabulate-length (λ p. p) 33;
              below = λ a n. let e = tabulate_at (λ p. p) 0 33 a n in omega (arith, e);
              linked = λ a n. subst (In nat_key (family q a)) (sym (tabulate_at (λ p. p) 0 33 a n)) (family_self q a);
            };
        same = λ j s n. absurd (omega arith);
      }
  each (suc k) l =
      let before = each k (omega arith) in
      let m = clause_merges k (omega arith) (labels_upto tb k) before.labels in
      record { labels = m.labels; same = λ j s n o. later k (omega arith) before m j s n o }
    where
      later : (k : ℕ) → k < length q.clauses → Upto k → Merges q (lead_at tb k) (labels_upto tb k) (merged_clause tb k (labels_upto tb k)) (Has q k) → (j s : ℕ) → j < suc k → Has q j s
          → get_or (merged_clause tb k (labels_upto tb k)) (lead_at tb j) 0 ≡ get_or (merged_clause tb k (labels_upto tb k)) s 0
      later k known before m j s n o = go (lt_or_le j k)
        where
          go : (j < k) ⊎ (k ≤ j) → get_or (merged_clause tb k (labels_upto tb k)) (lead_at tb j) 0 ≡ get_or (merged_clause tb k (labels_upto tb k)) s 0
          go (inl l) = m.keeps (lead_at tb j) s (lead_small j (omega arith)) (omega (arith, has_small j s o)) (before.same j s l o)
          go (inr l) =
              let here : k ≡ j = omega arith in
              subst (λ (i : ℕ). get_or (merged_clause tb k (labels_upto tb k)) (lead_at tb i) 0 ≡ get_or (merged_clause tb k (labels_upto tb k)) s 0) here (m.same s (subst (λ (i : ℕ). Has q i s) (sym here) o))

  all : Upto (get_or tb 2 0)
  all = each (get_or tb 2 0) (omega (arith, clauses_byte tb h))

  pub labels_known : Labels q (labels_in tb)
  labels_known = all.labels

  -- ---- labels and families

  abbrev label : ℕ → ℕ
  label a = get_or (labels_in tb) a 0

  pub family-label : (a b : ℕ) → In nat_key (family q a) b → label a ≡ label b
  family-label a b f = family_ind q (λ x. label a ≡ label x) step a refl b f
    where
      step : (i x y : ℕ) → Has q i x → Has q i y → label a ≡ label x → label a ≡ label y
      step i x y m n e =
          let here : i < get_or tb 2 0 = omega (arith, clauses_byte tb h, has_place q i x m) in
          e ∙ sym (all.same i x here m) ∙ all.same i y here n

  pub label-family : (a b : ℕ) → a < 33 → b < 33 → label a ≡ label b → In nat_key (family q a) b
  label-family a b ha hb e =
      family_trans q a (label b) b (subst (In nat_key (family q a)) e (labels_known.linked a ha)) (family_sym q b (label b) (labels_known.linked b hb))

  pub lowest_label : (p : ℕ) → p < 33 → eqb (label p) p ≡ is_lowest q p
  lowest_label p hp =
      same_test (eqb (label p) p) (is_lowest q p)
      (λ t. (lowest q p).1 (λ r m. low r m (eqb→eq (label p) p t) (lt_or_le r 33)))
      (λ t. let e : label p ≡ p = omega (arith, (lowest q p).0 t (label p) (labels_known.linked p hp), labels_known.below p hp) in subst (λ (x : ℕ). T (eqb x p)) (sym e) (eqb_refl p))
    where
      low : (r : ℕ) → In nat_key (family q p) r → label p ≡ p → (r < 33) ⊎ (33 ≤ r) → p ≤ r
      low r m e (inl l) = omega (arith, labels_known.below r l, family-label p r m)
      low r m e (inr l) = omega arith

  -- a predicate in no clause: 32 is none of the table's
  none_label : label 32 ≡ 32
  none_label = family_ind q (λ x. x ≡ 32) (λ i x y m n e. absurd (omega (arith, has_small i x m))) 32 refl (label 32) (labels_known.linked 32 (omega arith))

  -- a clause is of the part that its first predicate's label names
  pub clause_part : (k p : ℕ) → k < length q.clauses → p < 32 → label p ≡ p → eqb (label (lead_at tb k)) p ≡ touches (family q p) (predicates_of (clause_of q k))
  clause_part k p known hp e = same_test (eqb (label (lead_at tb k)) p) (touches (family q p) (predicates_of (clause_of q k))) (λ t. to (leads k known) (eqb→eq (label (lead_at tb k)) p t)) from
    where
      to : Lead k known → label (lead_at tb k) ≡ p → T (touches (family q p) (predicates_of (clause_of q k)))
      to (atoms m) same =
          touching (family q p) (predicates_of (clause_of q k)) (lead_at tb k) m (label-family p (lead_at tb k) (omega arith) (lead_small k known) (e ∙ sym same))
      to (bare f n o) same = absurd (omega (arith, same, ap label f, none_label))

      from : T (touches (family q p) (predicates_of (clause_of q k))) → T (eqb (label (lead_at tb k)) p)
      from t =
          let m = touched (family q p) (predicates_of (clause_of q k)) t in
          let here : k < get_or tb 2 0 = omega (arith, clauses_byte tb h) in
          let same : label (lead_at tb k) ≡ p = all.same k m.0 here m.1.0 ∙ sym (family-label p m.0 m.1.1) ∙ e in
          subst (λ (x : ℕ). T (eqb x p)) (sym same) (eqb_refl p)
