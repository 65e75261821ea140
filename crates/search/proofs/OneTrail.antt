-- The two walks find every node alike, so they are one.
use Prim.Native.Nat.{ℕ, zero, suc, ◌+◌}
use mathlib.Core.Bool.{Bool, true, false, not, cond, ◌&&◌, ◌||◌, and-true}
use mathlib.Core.List.{List, [], ◌∷◌, ◌++◌, map, flat_map}
use mathlib.Core.Option.{Option, none, some}
use mathlib.Core.Path.{◌≡◌, refl, sym, ap, subst, fun_ext, ◌∙◌}
use lib.Dec.{T, T_not}
use lib.ListN.{length}
use Rattle.lists.specs.Key.{Key}
use Rattle.lists.specs.Member.{All, every, first}
use Rattle.lists.specs.Tabulate.{tabulate}
use Rattle.lists.proofs.Test.{same_test, fails, T-true}
use Rattle.lists.specs.Test.{and-T, T_left, T_right}
use Rattle.lists.proofs.Member.{all_map, all_zip, every-All, All-every}
use Rattle.search.specs.Ground.{Ground, Found, goals, or_false, disjunctive}
use Rattle.search.specs.Relevancy.{is_true, is_relevant, splittable, model_bits, found_as, with_alts, find_r}
use Rattle.search.specs.Magic.{Magic, tru, rel, cont, heads, MagicRule, stages, rewrite_instance, rewriting, holds, ready, with_heads, find_m}
use Rattle.search.specs.Machine.{Branch, Place, entered, next_path, answer, last, place, placed, root, entries, trail, outcome, proceed, Genuine}
use Rattle.search.specs.Trails.{SameFacts}
use Rattle.search.proofs.Machine.{entries-zero, entries-none, entries-some}
use Rattle.search.proofs.Path.{Reached, place-Reached, next_genuine}
use Rattle.search.proofs.Relevancy.{relevant_false}
use Rattle.search.proofs.Walk.{AllRelevant, path_relevant}
use Rattle.search.proofs.Magic.{last_asks, same_relevant, same_true, last_from, last_to}

-- of an instance's rules only the last can split
module _ {I : Type 0} (k : Key I) (h : Magic I → Bool) (i : I) (gs : List ℕ) where
  last_ready : ℕ → List (Magic I) → List ℕ → Bool
  last_ready n asks cs = disjunctive gs && every h (last_asks i n asks cs) && every (λ a. not (h (tru a))) gs

  stages-first : (n : ℕ) (asks : List (Magic I)) (cs : List ℕ) (rest : List (MagicRule I))
      → with_heads k (first (ready k h) (stages i n asks cs gs ++ rest)) ≡ cond (last_ready n asks cs) (some (i, gs)) (with_heads k (first (ready k h) rest))
  unfolding last_ready
  stages-first n asks [] rest = go (disjunctive gs && every h asks && every (λ a. not (h (tru a))) gs)
    where
      go : (b : Bool) → with_heads k (cond b (some (record { site = i; asks = asks; gives = heads gs })) (first (ready k h) rest)) ≡ cond b (some (i, gs)) (with_heads k (first (ready k h) rest))
      go true = refl
      go false = refl
  stages-first n asks (c ∷ cs) rest = stages-first (suc n) (cont i (suc n) ∷ tru c ∷ []) cs rest

-- a disjunctive instance's goals are its alternatives
many_goals : (A : ℕ) (ds : List ℕ) → T (disjunctive ds) → or_false A ds ≡ ds
many_goals A [] t = absurd t
many_goals A (d ∷ ds) t = refl

goals_many : (A : ℕ) (ds : List ℕ) → disjunctive (or_false A ds) ≡ disjunctive ds
goals_many A [] = refl
goals_many A (d ∷ ds) = refl

module _ {I : Type 0} (k : Key I) (p : Ground I) (l : List ℕ) (relevant : AllRelevant p l) where
  t : ℕ → Bool
  t = is_true p l

  r : ℕ → Bool
  r = is_relevant p l

  h : Magic I → Bool
  h = holds k p.atoms (rewriting p) l

  LastHeld : I → Type 0
  LastHeld i = All (λ a. T (r a)) (goals p i) → All (λ a. T (t a)) (p.conds i) → All (λ f. T (h f)) (last_asks i 0 (map rel (goals p i)) (p.conds i))

  -- an instance's last rule can be split exactly where the instance can
  ready_splittable : (i : I) → LastHeld i → last_ready k h i (goals p i) 0 (map rel (goals p i)) (p.conds i) ≡ splittable p t r i
  unfolding last_ready LastHeld t r h
  ready_splittable i to =
      same_test (D && X && Y) (E && U && W && Z)
      (λ u.
      let dx : T (D && X) = T_left (D && X) Y u in
      let d : T (disjunctive (p.alts i)) = subst T (goals_many p.atoms (p.alts i)) (T_left D X dx) in
      let same : goals p i ≡ p.alts i = many_goals p.atoms (p.alts i) d in
      let m = last_from k p l relevant i (every-All h (last_asks i 0 (map rel (goals p i)) (p.conds i)) (T_right D X dx)) in
      let rs : All (λ a. T (r a)) (p.alts i) = subst (All (λ a. T (r a))) same m.0 in
      let us : All (λ a. T (not (h (tru a)))) (p.alts i) = subst (All (λ a. T (not (h (tru a))))) same (every-All (λ a. not (h (tru a))) (goals p i) (T_right (D && X) Y u)) in
      let zs : All (λ a. T (not (t a))) (p.alts i) = all_zip (λ a. T (r a)) (λ a. T (not (h (tru a)))) (λ a. T (not (t a))) untrue (p.alts i) rs us in
      and-T
      (E && U && W)
      Z
      (and-T (E && U) W (and-T E U d (All-every t (p.conds i) m.1)) (All-every r (p.alts i) rs))
      (All-every (λ a. not (t a)) (p.alts i) zs))
      (λ u.
      let euw : T (E && U && W) = T_left (E && U && W) Z u in
      let eu : T (E && U) = T_left (E && U) W euw in
      let d : T (disjunctive (p.alts i)) = T_left E U eu in
      let same : p.alts i ≡ goals p i = sym (many_goals p.atoms (p.alts i) d) in
      let rs : All (λ a. T (r a)) (goals p i) = subst (All (λ a. T (r a))) same (every-All r (p.alts i) (T_right (E && U) W euw)) in
      let zs : All (λ a. T (not (h (tru a)))) (goals p i) = subst (All (λ a. T (not (h (tru a))))) same (all_map (λ a. T (not (t a))) (λ a. T (not (h (tru a)))) unheld (p.alts i) (every-All (λ a. not (t a)) (p.alts i) (T_right (E && U && W) Z u))) in
      and-T
      (D && X)
      Y
      (and-T D X (subst T (sym (goals_many p.atoms (p.alts i))) d) (All-every h (last_asks i 0 (map rel (goals p i)) (p.conds i)) (to rs (every-All t (p.conds i) (T_right E U eu)))))
      (All-every (λ a. not (h (tru a))) (goals p i) zs))
    where
      D : Bool
      D = disjunctive (goals p i)

      X : Bool
      X = every h (last_asks i 0 (map rel (goals p i)) (p.conds i))

      Y : Bool
      Y = every (λ a. not (h (tru a))) (goals p i)

      E : Bool
      E = disjunctive (p.alts i)

      U : Bool
      U = every t (p.conds i)

      W : Bool
      W = every r (p.alts i)

      Z : Bool
      Z = every (λ a. not (t a)) (p.alts i)

      untrue : (a : ℕ) → T (r a) → T (not (h (tru a))) → T (not (t a))
      untrue a v n = fails (t a) (λ q. T_not (h (tru a)) n (subst T (sym (same_true k p l relevant a)) (and-T (t a) (r a) q v)))

      unheld : (a : ℕ) → T (not (t a)) → T (not (h (tru a)))
      unheld a n = fails (h (tru a)) (λ q. T_not (t a) n (T_left (t a) (r a) (subst T (same_true k p l relevant a) q)))

  picks : (i : I) (o : Option I) (b : Bool) → (T b → goals p i ≡ p.alts i) → cond b (some (i, goals p i)) (with_alts p o) ≡ with_alts p (cond b (some i) o)
  picks i o true f = ap (λ (ds : List ℕ). some (i, ds)) (f tt)
  picks i o false f = refl

  splittable_many : (i : I) → T (splittable p t r i) → goals p i ≡ p.alts i
  splittable_many i u =
      let a = disjunctive (p.alts i) in
      let b = every t (p.conds i) in
      let c = every r (p.alts i) in
      many_goals p.atoms (p.alts i) (T_left a b (T_left (a && b) c (T_left (a && b && c) (every (λ x. not (t x)) (p.alts i)) u)))

  splits_same : (js : List I) → All LastHeld js → with_heads k (first (ready k h) (flat_map (rewrite_instance p) js)) ≡ with_alts p (first (splittable p t r) js)
  unfolding flat_map
  splits_same [] a = refl
  splits_same (i ∷ js) a =
      stages-first k h i (goals p i) 0 (map rel (goals p i)) (p.conds i) (flat_map (rewrite_instance p) js)
      ∙ ap {B = Option (I × List ℕ)} (λ b. cond b (some (i, goals p i)) (with_heads k (first (ready k h) (flat_map (rewrite_instance p) js)))) (ready_splittable i a.0)
      ∙ ap {B = Option (I × List ℕ)} (λ o. cond (splittable p t r i) (some (i, goals p i)) o) (splits_same js a.1)
      ∙ picks i (first (splittable p t r) js) (splittable p t r i) (splittable_many i)

  -- "false" is relevant, so it is held true exactly where it is true
  closed_same : h (tru p.atoms) ≡ t p.atoms
  unfolding h t
  closed_same =
      same_true k p l relevant p.atoms
      ∙ ap (λ (b : Bool). is_true p l p.atoms && b) (T-true (is_relevant p l p.atoms) (relevant_false p (is_true p l)))
      ∙ and-true (is_true p l p.atoms)

  bit_same : (a : ℕ) → (h (tru a) || not (h (rel a))) ≡ (t a || not (r a))
  unfolding h t r
  bit_same a = rw (same_true k p l relevant a, same_relevant k p l relevant a) (go (is_true p l a) (is_relevant p l a))
    where
      go : (b d : Bool) → (b && d || not d) ≡ (b || not d)
      go true true = refl
      go true false = refl
      go false true = refl
      go false false = refl

  find_same : find_m k p.atoms (rewriting p) l ≡ find_r p l
  unfolding find_m find_r rewriting h t r LastHeld
  find_same =
      ap {B = Found I} (λ b. found_as b (with_heads k (first (ready k h) (rewriting p))) (model_bits p.atoms (λ a. h (tru a)) (λ a. h (rel a)))) closed_same
      ∙ ap {B = Found I} (λ o. found_as (t p.atoms) o (model_bits p.atoms (λ a. h (tru a)) (λ a. h (rel a)))) (splits_same p.instances (last_to k p l relevant))
      ∙ ap {B = Found I} (λ f. found_as (t p.atoms) (with_alts p (first (splittable p t r) p.instances)) (tabulate f p.atoms)) (fun_ext bit_same)

-- every atom entered on the relevancy walk is relevant, so the magic walk finds its places alike
pub magic_same : {I : Type 0} (k : Key I) (p : Ground I) (bs : List (Branch I)) → Genuine (find_r p) bs → find_m k p.atoms (rewriting p) (entered bs) ≡ find_r p (entered bs)
magic_same k p bs g = find_same k p (entered bs) (path_relevant p bs g)

pub same_facts : {I : Type 0} (k : Key I) (p : Ground I) (s : Place I) → Genuine (find_r p) s.path → (x : ℕ) → SameFacts k p s x
same_facts k p s g x =
    let relevant = path_relevant p s.path g in
    record { relevant = same_relevant k p (entered s.path) relevant x; true_relevant = same_true k p (entered s.path) relevant x }

-- two ways of finding that agree on the genuine paths of one make the same entries
module _ {I : Type 0} (f g : List ℕ → Found I) (same : (bs : List (Branch I)) → Genuine f bs → g (entered bs) ≡ f (entered bs)) where
  pub place_same : (bs : List (Branch I)) → Genuine f bs → place g bs ≡ place f bs
  place_same bs w = ap (λ (x : Found I). record { path = bs; found = x }) (same bs w)

  pub entries_same : (n : ℕ) (s : Place I) → Reached f s → entries g n s ≡ entries f n s
  entries_same zero s w = entries-zero g s ∙ sym (entries-zero f s)
  entries_same (suc n) s w = go (next_path s) refl (entries_same n)
    where
      go : (o : Option (List (Branch I))) → next_path s ≡ o → ((t : Place I) → Reached f t → entries g n t ≡ entries f n t) → entries g (suc n) s ≡ entries f (suc n) s
      go none e k = entries-none g (suc n) s (ap (placed g) e) ∙ sym (entries-none f (suc n) s (ap (placed f) e))
      go (some cs) e k =
          let gen : Genuine f cs = next_genuine f s cs w e in
          entries-some g n s (place f cs) (ap (placed g) e ∙ ap some (place_same cs gen))
          ∙ ap {B = List (Place I)} (λ es. place f cs ∷ es) (k (place f cs) (place-Reached f cs gen))
          ∙ sym (entries-some f n s (place f cs) (ap (placed f) e))

  pub trail_same : (n : ℕ) → trail g n ≡ trail f n
  trail_same n =
      ap (λ (s : Place I). s ∷ entries g n s) (place_same [] tt) ∙ ap {B = List (Place I)} (λ es. root f ∷ es) (entries_same n (root f) (place-Reached f [] tt))

  pub proceed_same : (n c : ℕ) (s : Place I) → Reached f s → proceed g n c s ≡ proceed f n c s
  unfolding proceed
  proceed_same n c s w = ap (λ (es : List (Place I)). answer (last s es) (c + length es)) (entries_same n s w)

  pub outcome_same : (n : ℕ) → outcome g n ≡ outcome f n
  outcome_same n = ap (λ (s : Place I). proceed g n 0 s) (place_same [] tt) ∙ proceed_same n 0 (root f) (place-Reached f [] tt)
