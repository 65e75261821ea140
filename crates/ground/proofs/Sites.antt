-- Looking for the first that passes a test, of what the values of v variables below c make, the last variable fastest, and of one such group after another:
-- the steps of the loops, over plain numbers and lists.
use Prim.Native.Nat.{ℕ, zero, suc, ◌+◌, ◌-◌, ◌^◌, ◌≤◌, ◌<◌}
use mathlib.Core.Bool.{Bool, true, false, cond}
use mathlib.Core.List.{List, ◌∷◌, ◌++◌, map, flat_map}
use mathlib.Core.Option.{none, some}
use mathlib.Core.Path.{◌≡◌, refl, sym, ap, ◌∙◌}
use native.Mathlib.Nat.{zero-div, zero-mod}
use native.Mathlib.Numerals.{add-one}
use native.Mathlib.Omega.{arith}
use lib.ListN.{length, take, drop, get_or, replicate, length-map, take-append-drop, drop_of_length-le}
use lib.Seq.{length-take-le, drop-cons}
use Rattle.lists.specs.Digits.{horner, digits_of, tuples}
use Rattle.lists.specs.Member.{All, first}
use Rattle.lists.specs.Tabulate.{tabulate}
use Rattle.lists.proofs.Bytes.{at_zeros}
use Rattle.lists.proofs.Digits.{horner_digits, digits_first, digits_horner, digits_fit, tuples_at, tuples_count}
use Rattle.lists.proofs.Tabulate.{tabulate-length, tabulate_at, tabulate-map}
use Rattle.ground.specs.terms.Placed.{Stepped}
use Rattle.lists.proofs.Member.{first_past, first_front}

-- ---- digits at the start

digits_zero : (c w : ℕ) → digits_of c w 0 ≡ replicate w 0
digits_zero c zero = refl
digits_zero c (suc w) = digits_first c w 0 ∙ rw (zero-div (c ^ w), zero-mod c, digits_zero c w)

take_zeros : (v n : ℕ) → v ≤ n → take v (replicate {A = ℕ} n 0) ≡ replicate v 0
take_zeros zero n h = refl
take_zeros (suc v) zero h = absurd (omega arith)
take_zeros (suc v) (suc n) h = ap (λ (l : List ℕ). 0 ∷ l) (take_zeros v n (omega arith))

drop_zeros : (v n : ℕ) → v ≤ n → drop v (replicate {A = ℕ} n 0) ≡ replicate (n - v) 0
drop_zeros zero n h = let same : n - 0 ≡ n = omega arith in rw same
drop_zeros (suc v) zero h = absurd (omega arith)
drop_zeros (suc v) (suc n) h = let same : suc n - suc v ≡ n - v = omega arith in rw same (drop_zeros v n (omega arith))

-- ---- the values of v variables

module _ {S : Type 0} (c v : ℕ) (site : List ℕ → S) (test : S → Bool) where
  abbrev pub sites : List S
  sites = map site (tuples c v)

  -- before turn i the values are the digits of i, with 0 for the variables past v, and the sites from i on decide
  pub record Turning (values : List ℕ) (i : ℕ) : Type 0 where
    pub upto : i ≤ c ^ v
    pub four : length values ≡ 4
    pub digits : i < c ^ v → take v values ≡ digits_of c v i
    pub zeros : drop v values ≡ replicate (4 - v) 0
    pub rest : first test sites ≡ first test (drop i sites)

  abbrev at : ℕ → S
  at i = site (digits_of c v i)

  pub sites_listed : sites ≡ tabulate at (c ^ v)
  sites_listed = ap (map site) (tuples_at c v) ∙ tabulate-map site (digits_of c v) (c ^ v)

  sites_count : length sites ≡ c ^ v
  sites_count = length-map (tuples c v) site ∙ tuples_count c v

  site_at : (i : ℕ) → i < c ^ v → drop i sites ≡ at i ∷ drop (i + 1) sites
  site_at i h =
      let inside : i < length sites = omega (arith, sites_count) in
      let here : get_or sites i (at 0) ≡ at i = ap (λ (l : List S). get_or l i (at 0)) sites_listed ∙ tabulate_at at (at 0) (c ^ v) i h in
      drop-cons sites i (at 0) inside ∙ rw (here, add-one)

  pub turning_starts : v ≤ 4 → Turning (replicate 4 0) 0
  turning_starts few =
      record {
        upto = omega arith;
        four = refl;
        digits = λ h. take_zeros v 4 few ∙ sym (digits_zero c v);
        zeros = drop_zeros v 4 few;
        rest = refl;
      }

  module _ (few : v ≤ 4) (values : List ℕ) (i : ℕ) (t : Turning values i) where
    pub turning_below : i < c ^ v → All (λ d. d < c) (take v values)
    turning_below h = rw (t.digits h) (digits_fit c v i h)

    -- the site of this turn decides, or those after it do
    turning_at : i < c ^ v → first test sites ≡ cond (test (site (take v values))) (some (site (take v values))) (first test (drop (i + 1) sites))
    turning_at h = t.rest ∙ rw (site_at i h, t.digits h)

    pub turning_on : (after : List ℕ) → i < c ^ v → test (site (take v values)) ≡ false → Stepped v c values after → length after ≡ length values
        → Turning after (i + 1)
    turning_on after h e s l =
        let room : v ≤ length after = omega (arith, few, t.four) in
        let now : horner c (take v values) ≡ i = rw (t.digits h) (horner_digits c v i h) in
        record {
          upto = omega arith;
          four = l ∙ t.four;
          digits = λ m.
              let next : horner c (take v after) ≡ i + 1 = rw now at (s.next (rw now m)) in
              sym (digits_horner c (take v after) s.below) ∙ rw (length-take-le v after room, next);
          zeros = s.rest ∙ t.zeros;
          rest = turning_at h ∙ rw e;
        }

    -- 0 stands for the variables past v
    pub turning_value : (j : ℕ) → get_or values j 0 ≡ get_or (take v values) j 0
    turning_value j =
        ap (λ (l : List ℕ). get_or l j 0) (sym (take-append-drop v values) ∙ ap (λ (l : List ℕ). take v values ++ l) t.zeros)
        ∙ at_zeros (take v values) (4 - v) j

    pub turning_stops : i < c ^ v → test (site (take v values)) ≡ true → first test sites ≡ some (site (take v values))
    turning_stops h e = turning_at h ∙ rw e

    pub turning_ends : c ^ v ≤ i → first test sites ≡ none
    turning_ends h =
        let past : length sites ≤ i = omega (arith, sites_count) in
        t.rest ∙ rw (drop_of_length-le sites {i = i} past)

-- ---- one group after another

module _ {S : Type 0} (group : ℕ → List S) (n : ℕ) where
  abbrev pub groups : List S
  groups = flat_map group (tabulate (λ j. j) n)

  -- those of the groups from k on
  abbrev pub groups_from : ℕ → List S
  groups_from k = flat_map group (drop k (tabulate (λ j. j) n))

  groups_from_lem : (k : ℕ) → k < n → groups_from k ≡ group k ++ groups_from (k + 1)
  unfolding flat_map
  groups_from_lem k h =
      let ks = tabulate (λ j. j) n in
      let inside : k < length ks = omega (arith, tabulate-length (λ j. j) n) in
      rw (drop-cons ks k 0 inside, tabulate_at (λ j. j) 0 n k h, add-one)

  module _ (test : S → Bool) where
    -- before group k: the groups from k on decide
    abbrev pub GroupsDecide : ℕ → Type 0
    GroupsDecide k = first test groups ≡ first test (groups_from k)

    pub groups_start : GroupsDecide 0
    groups_start = refl

    module _ (k : ℕ) (h : k < n) (u : GroupsDecide k) where
      groups_at : first test groups ≡ first test (group k ++ groups_from (k + 1))
      groups_at = u ∙ ap (first test) (groups_from_lem k h)

      pub groups_on : first test (group k) ≡ none → GroupsDecide (k + 1)
      groups_on e = groups_at ∙ first_past test (group k) (groups_from (k + 1)) e

      pub groups_stop : (i : S) → first test (group k) ≡ some i → first test groups ≡ some i
      groups_stop i e = groups_at ∙ first_front test (group k) (groups_from (k + 1)) i e

    pub groups_end : (k : ℕ) → n ≤ k → GroupsDecide k → first test groups ≡ none
    unfolding flat_map
    groups_end k h u =
        let ks = tabulate (λ j. j) n in
        let past : length ks ≤ k = omega (arith, tabulate-length (λ j. j) n) in
        u ∙ rw (drop_of_length-le ks {i = k} past)
