-- Families of predicates: they are classes, of predicates that stand in clauses that belong together.
use Prim.Native.Nat.{ℕ, zero, suc, ◌≤◌, ◌<◌}
use mathlib.Core.Bool.{Bool, ◌||◌}
use mathlib.Core.List.{List, [], ◌∷◌, ◌++◌, map, flat_map}
use mathlib.Core.Logic.{◌↔◌, ◌⊎◌, inl, inr}
use mathlib.Core.Path.{◌≡◌, refl, sym, ap, subst}
use native.Mathlib.Omega.{arith}
use lib.Dec.{T, leb, le→leb, leb→le}
use lib.ListN.{length, get_or}
use Rattle.lists.specs.Key.{nat_key}
use Rattle.lists.specs.Member.{All, Any, In, has}
use Rattle.lists.proofs.Bytes.{all_at}
use Rattle.lists.proofs.Member.{all_map, all_flat, flat_all, all_mapped, mapped_all, all_has, has_all, has_here, has_there, has_cases, every-All, All-every}
use Rattle.lists.proofs.Test.{or_left, or_right, T-or, same_test}
use Rattle.search.specs.Closure.{Rule, Closed}
use Rattle.search.proofs.Closure.{least-seeds, least-Closed, least_ind}
use Rattle.problem.specs.Problem.{Clause, Problem}
use Rattle.problem.specs.Extended.{with_clauses}
use Rattle.ground.specs.Instance.{clause_of, no_clause}
use Rattle.ground.proofs.ClauseLaws.{all_places}
use Rattle.parting.specs.Parts.{predicates_of, Shares, Through, Together, links_of, family, only, touches, part_of, is_lowest}
use Rattle.parting.specs.Claims.{Has, Joined, Within}

-- ---- members

-- some member of which P holds
pub any_in : (P : ℕ → Type 0) (xs : List ℕ) → Any P xs → (x : ℕ) × (In nat_key xs x × P x)
any_in P [] x' = elim x' [ ]
any_in P (x ∷ xs) (inl h) = (x, (has_here nat_key x xs, h))
any_in P (x ∷ xs) (inr h) = let m = any_in P xs h in (m.0, (has_there nat_key x xs m.0 m.1.0, m.1.1))

pub in_any : (P : ℕ → Type 0) (xs : List ℕ) (x : ℕ) → In nat_key xs x → P x → Any P xs
in_any P [] x h p = absurd h
in_any P (y ∷ xs) x h p = go (has_cases nat_key y xs x h) (λ m. in_any P xs x m p)
  where
    go : (y ≡ x) ⊎ In nat_key xs x → (In nat_key xs x → Any P xs) → P y ⊎ Any P xs
    go (inl e) on = inl (subst P (sym e) p)
    go (inr m) on = inr (on m)

-- some of these is in the set
abbrev pub Touched : List ℕ → List ℕ → Type 0
Touched s ps = (x : ℕ) × (In nat_key ps x × In nat_key s x)

pub touched : (s ps : List ℕ) → T (touches s ps) → Touched s ps
touched s [] h = absurd h
touched s (p ∷ ps) h = go (T-or (has nat_key s p) (touches s ps) h) (touched s ps)
  where
    go : T (has nat_key s p) ⊎ T (touches s ps) → (T (touches s ps) → Touched s ps) → Touched s (p ∷ ps)
    go (inl m) on = (p, (has_here nat_key p ps, m))
    go (inr m) on = let t = on m in (t.0, (has_there nat_key p ps t.0 t.1.0, t.1.1))

pub touching : (s ps : List ℕ) (x : ℕ) → In nat_key ps x → In nat_key s x → T (touches s ps)
touching s [] x h m = absurd h
touching s (p ∷ ps) x h m = go (has_cases nat_key p ps x h) (λ k. touching s ps x k m)
  where
    go : (p ≡ x) ⊎ In nat_key ps x → (In nat_key ps x → T (touches s ps)) → T (has nat_key s p || touches s ps)
    go (inl e) on = or_left (has nat_key s p) (touches s ps) (subst (λ (y : ℕ). In nat_key s y) (sym e) m)
    go (inr k) on = or_right (has nat_key s p) (touches s ps) (on k)

-- tests that are alike keep the same members
pub only_same : {A : Type 0} (t u : A → Bool) (xs : List A) → ((x : A) → t x ≡ u x) → only t xs ≡ only u xs
only_same t u [] f = refl
only_same t u (x ∷ xs) f = rw (f x, only_same t u xs f)

-- ---- families

module _ (q : Problem) where
  abbrev links : List (Rule ℕ)
  links = flat_map links_of q.clauses

  -- a clause that has a predicate is there
  pub has_place : (i p : ℕ) → Has q i p → i < length q.clauses
  has_place i p h = go q.clauses i h
    where
      go : (ks : List Clause) (i : ℕ) → In nat_key (predicates_of (get_or ks i no_clause)) p → i < length ks
      go [] i m = absurd m
      go (k ∷ ks) zero m = omega arith
      go (k ∷ ks) (suc i) m = omega (arith, go ks i m)

  -- closed under the links of one clause: with one of its predicates, all
  one_closed : (P : ℕ → Type 0) (ps : List ℕ) → ((a b : ℕ) → In nat_key ps a → In nat_key ps b → P a → P b)
      → Closed (flat_map (λ a. map (λ b. record { body = a ∷ []; head = b }) ps) ps) P
  one_closed P ps f =
      all_flat (λ a. map (λ b. record { body = a ∷ []; head = b }) ps) (λ (r : Rule ℕ). All P r.body → P r.head) ps
      (all_has nat_key (λ a. All (λ (r : Rule ℕ). All P r.body → P r.head) (map (λ b. record { body = a ∷ []; head = b }) ps)) ps
      (λ a m. all_mapped (λ b. record { body = a ∷ []; head = b }) (λ (r : Rule ℕ). All P r.body → P r.head) ps
      (all_has nat_key (λ b. P a × Unit → P b) ps (λ b n h. f a b m n h.0))))

  closed_one : (P : ℕ → Type 0) (ps : List ℕ) → Closed (flat_map (λ a. map (λ b. record { body = a ∷ []; head = b }) ps) ps) P
      → (a b : ℕ) → In nat_key ps a → In nat_key ps b → P a → P b
  closed_one P ps c a b m n p =
      let rows = flat_all (λ a. map (λ b. record { body = a ∷ []; head = b }) ps) (λ (r : Rule ℕ). All P r.body → P r.head) ps c in
      let row = has_all nat_key (λ a. All (λ (r : Rule ℕ). All P r.body → P r.head) (map (λ b. record { body = a ∷ []; head = b }) ps)) ps rows a m in
      has_all nat_key (λ b. P a × Unit → P b) ps (mapped_all (λ b. record { body = a ∷ []; head = b }) (λ (r : Rule ℕ). All P r.body → P r.head) ps row) b n (p, tt)

  closed_from : (P : ℕ → Type 0) → ((i a b : ℕ) → Has q i a → Has q i b → P a → P b) → Closed links P
  closed_from P f =
      all_flat links_of (λ (r : Rule ℕ). All P r.body → P r.head) q.clauses
      (all_places (λ (k : Clause). Closed (links_of k) P) no_clause q.clauses (λ i h. one_closed P (predicates_of (clause_of q i)) (f i)))

  pub family_self : (p : ℕ) → In nat_key (family q p) p
  unfolding family
  family_self p = (least-seeds nat_key links (p ∷ [])).0

  pub family_step : (p i a b : ℕ) → Has q i a → Has q i b → In nat_key (family q p) a → In nat_key (family q p) b
  unfolding family
  family_step p i a b m n h =
      let each = flat_all links_of (λ (r : Rule ℕ). All (In nat_key (family q p)) r.body → In nat_key (family q p) r.head) q.clauses (least-Closed nat_key links (p ∷ [])) in
      closed_one (In nat_key (family q p)) (predicates_of (clause_of q i))
      (all_at (λ (k : Clause). Closed (links_of k) (In nat_key (family q p))) q.clauses no_clause i (has_place i a m) each) a b m n h

  pub family_ind : (P : ℕ → Type 0) → ((i a b : ℕ) → Has q i a → Has q i b → P a → P b) → (p : ℕ) → P p → (r : ℕ) → In nat_key (family q p) r → P r
  unfolding family
  family_ind P f p s r h = least_ind nat_key links (p ∷ []) P (closed_from P f) (s, tt) r h

  pub family_trans : (p r s : ℕ) → In nat_key (family q p) r → In nat_key (family q r) s → In nat_key (family q p) s
  family_trans p r s h k = family_ind (In nat_key (family q p)) (λ i a b m n. family_step p i a b m n) r h s k

  pub family_sym : (p r : ℕ) → In nat_key (family q p) r → In nat_key (family q r) p
  family_sym p r h =
      family_ind (λ x. In nat_key (family q x) p) (λ i a b m n k. family_trans b a p (family_step b i b a n m (family_self b)) k) p (family_self p) r h

  -- ---- clauses that belong together

  pub shares_at : (i j s : ℕ) → Has q i s → Has q j s → Shares q i j
  shares_at i j s m n = in_any (λ p. Has q j p) (predicates_of (clause_of q i)) s m n

  through_snoc : (others : List ℕ) (i j k : ℕ) → Through q i others j → Shares q j k → Through q i (others ++ (j ∷ [])) k
  through_snoc [] i j k h s = (h, s)
  through_snoc (x ∷ others) i j k h s = (h.0, through_snoc others x j k h.1 s)

  -- along clauses that belong together the family goes on
  along : (p : ℕ) (others : List ℕ) (i j x y : ℕ) → Through q i others j → Has q i x → Has q j y → In nat_key (family q p) x → In nat_key (family q p) y
  along p [] i j x y h m n f =
      let s = any_in (λ s. Has q j s) (predicates_of (clause_of q i)) h in
      family_step p j s.0 y s.1.1 n (family_step p i x s.0 m s.1.0 f)
  along p (k ∷ others) i j x y h m n f =
      let s = any_in (λ s. Has q k s) (predicates_of (clause_of q i)) h.0 in
      along p others k j s.0 y h.1 s.1.1 n (family_step p i x s.0 m s.1.0 f)

  pub families : (p r : ℕ) → In nat_key (family q p) r ↔ ((p ≡ r) ⊎ Joined q p r)
  families p r = (family_ind (λ x. (p ≡ x) ⊎ Joined q p x) step p (inl refl) r, back)
    where
      step : (i a b : ℕ) → Has q i a → Has q i b → (p ≡ a) ⊎ Joined q p a → (p ≡ b) ⊎ Joined q p b
      step i a b m n (inl e) =
          let first : Has q i p = subst (Has q i) (sym e) m in
          inr (record { from = i; to = i; together = ([], shares_at i i a m m); has_first = first; has_second = n })
      step i a b m n (inr j) =
          inr
          (record {
            from = j.from;
            to = i;
            together = (j.together.0 ++ (j.to ∷ []), through_snoc j.together.0 j.from j.to i j.together.1 (shares_at j.to i a j.has_second m));
            has_first = j.has_first;
            has_second = n;
          })

      back : (p ≡ r) ⊎ Joined q p r → In nat_key (family q p) r
      back (inl e) = subst (λ (x : ℕ). In nat_key (family q p) x) e (family_self p)
      back (inr j) = along p j.together.0 j.from j.to p r j.together.1 j.has_first j.has_second (family_self p)

  pub together : (p i j : ℕ) → Within q p i → Within q p j ↔ Together q i j
  together p i j h = (to, from)
    where
      s : (x : ℕ) × (Has q i x × In nat_key (family q p) x)
      s = touched (family q p) (predicates_of (clause_of q i)) h

      by : (y : ℕ) → Has q j y → (s.0 ≡ y) ⊎ Joined q s.0 y → Together q i j
      by y n (inl e) = ([], shares_at i j y (subst (Has q i) e s.1.0) n)
      by y n (inr l) =
          let others = l.together.0 in (
            l.from ∷ (others ++ (l.to ∷ [])),
            (shares_at i l.from s.0 s.1.0 l.has_first, through_snoc others l.from l.to j l.together.1 (shares_at l.to j y l.has_second n)),
          )

      to : Within q p j → Together q i j
      to k =
          let t = touched (family q p) (predicates_of (clause_of q j)) k in
          by t.0 t.1.0 ((families s.0 t.0).0 (family_trans s.0 p t.0 (family_sym p s.0 s.1.1) t.1.1))

      end_has : (others : List ℕ) (i : ℕ) → Through q i others j → (y : ℕ) × Has q j y
      end_has [] i t = let x = any_in (λ y. Has q j y) (predicates_of (clause_of q i)) t in (x.0, x.1.1)
      end_has (k ∷ others) i t = end_has others k t.1

      from : Together q i j → Within q p j
      from t =
          let y = end_has t.0 i t.1 in
          touching (family q p) (predicates_of (clause_of q j)) y.0 y.1 (along p t.0 i j s.0 y.0 t.1 s.1.0 y.1 s.1.1)

  -- ---- the lowest of a family

  pub lowest : (p : ℕ) → T (is_lowest q p) ↔ ((r : ℕ) → In nat_key (family q p) r → p ≤ r)
  unfolding is_lowest
  lowest p = (
    λ t. has_all nat_key (λ r. p ≤ r) (family q p) (all_map (λ r. T (leb p r)) (λ r. p ≤ r) (λ r h. leb→le p r h) (family q p) (every-All (λ r. leb p r) (family q p) t)),
    λ f. All-every (λ r. leb p r) (family q p) (all_has nat_key (λ r. T (leb p r)) (family q p) (λ r h. le→leb p r (f r h))),
  )

  pub placed_once : (p r i : ℕ) → T (is_lowest q p) → T (is_lowest q r) → Within q p i → Within q r i → p ≡ r
  placed_once p r i u v h k =
      let s = touched (family q p) (predicates_of (clause_of q i)) h in
      let t = touched (family q r) (predicates_of (clause_of q i)) k in
      let there : In nat_key (family q p) t.0 = family_step p i s.0 t.0 s.1.0 t.1.0 s.1.1 in
      let both : In nat_key (family q p) r = family_trans p t.0 r there (family_sym r t.0 t.1.1) in
      omega (arith, (lowest p).0 u r both, (lowest r).0 v p (family_sym p r both))

  -- ---- one family, one part

  touches_same : (s t ps : List ℕ) → ((x : ℕ) → In nat_key s x → In nat_key t x) → ((x : ℕ) → In nat_key t x → In nat_key s x) → touches s ps ≡ touches t ps
  touches_same s t ps f g =
      same_test (touches s ps) (touches t ps)
      (λ h. let m = touched s ps h in touching t ps m.0 m.1.0 (f m.0 m.1.1))
      (λ h. let m = touched t ps h in touching s ps m.0 m.1.0 (g m.0 m.1.1))

  pub part_same : (p r : ℕ) → In nat_key (family q p) r → part_of q p ≡ part_of q r
  unfolding part_of
  part_same p r h =
      ap (with_clauses q)
      (only_same (λ k. touches (family q p) (predicates_of k)) (λ k. touches (family q r) (predicates_of k)) q.clauses
      (λ k. touches_same (family q p) (family q r) (predicates_of k) (λ x m. family_trans r p x (family_sym p r h) m) (λ x m. family_trans p r x h m)))
