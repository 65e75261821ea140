-- Laws of `tabulate`: its length, its elements, what holds of all of them, where it is split or mapped, and rows of one width, one after the other.
use Prim.Native.Nat.{ℕ, zero, suc, ◌+◌, ◌*◌, ◌/◌, ◌%◌, ◌<◌}
use mathlib.Core.List.{List, [], ◌∷◌, ◌++◌, map, flat_map, append_assoc, append-nil, map-append}
use mathlib.Core.Logic.{◌⊎◌, inl, inr}
use mathlib.Core.Path.{◌≡◌, refl, sym, ap, subst, ◌∙◌}
use native.Mathlib.Nat.{add-zero, add-suc, mul_comm, suc-mul, zero-mul, eq-or-lt_of_le}
use native.Mathlib.Numerals.{add-one}
use native.Mathlib.Omega.{arith}
use lib.Arith.{digits_lt, digits_div, digits_mod}
use lib.ListN.{length, get_or, length-append, get_or-append}
use lib.Seq.{get_or_at}
use Rattle.lists.specs.Member.{All, Any}
use Rattle.lists.specs.Tabulate.{tabulate}
use Rattle.lists.proofs.Member.{All-append, any_left, any_right, flat_snoc}

pub tabulate-length : {A : Type 0} (f : ℕ → A) (n : ℕ) → length (tabulate f n) ≡ n
tabulate-length f zero = refl
tabulate-length f (suc n) = length-append (tabulate f n) (f n ∷ []) ∙ rw (tabulate-length f n, add-one)

pub tabulate_at : {A : Type 0} (f : ℕ → A) (d : A) (n a : ℕ) → a < n → get_or (tabulate f n) a d ≡ f a
tabulate_at f d zero a h = absurd (omega arith)
tabulate_at f d (suc n) a h = go (eq-or-lt_of_le h) (tabulate_at f d n a)
  where
    go : (suc a ≡ suc n) ⊎ (suc a < suc n) → (a < n → get_or (tabulate f n) a d ≡ f a) → get_or (tabulate f n ++ (f n ∷ [])) a d ≡ f a
    go (inl e) k =
        let same : n ≡ a = omega arith in
        get_or_at (tabulate f n) (f n) [] d a (tabulate-length f n ∙ same) ∙ ap f same
    go (inr e) k =
        let l : a < n = omega arith in
        get_or-append (tabulate f n) (f n ∷ []) d a (subst (λ (m : ℕ). a < m) (sym (tabulate-length f n)) l) ∙ k l

pub All-tabulate {ℓ} : {A : Type 0} (P : A → Type ℓ) (f : ℕ → A) (n : ℕ) → ((i : ℕ) → i < n → P (f i)) → All P (tabulate f n)
All-tabulate P f zero h = tt
All-tabulate P f (suc n) h = All-append P (tabulate f n) (f n ∷ []) (All-tabulate P f n (λ i l. h i (omega arith))) (h n (omega arith), tt)

pub Any-tabulate : {A : Type 0} (P : A → Type 0) (f : ℕ → A) (n i : ℕ) → i < n → P (f i) → Any P (tabulate f n)
Any-tabulate P f zero i h p = absurd (omega arith)
Any-tabulate P f (suc n) i h p = go (eq-or-lt_of_le h) (Any-tabulate P f n i)
  where
    go : (suc i ≡ suc n) ⊎ (suc i < suc n) → (i < n → P (f i) → Any P (tabulate f n)) → Any P (tabulate f n ++ (f n ∷ []))
    go (inl e) before =
        let same : i ≡ n = omega arith in
        any_right P (tabulate f n) (f n ∷ []) (inl (subst (λ (k : ℕ). P (f k)) same p))
    go (inr l) before = any_left P (tabulate f n) (f n ∷ []) (before (omega arith) p)

module _ {A : Type 0} where
  pub tabulate_same : (f g : ℕ → A) (n : ℕ) → ((i : ℕ) → i < n → f i ≡ g i) → tabulate f n ≡ tabulate g n
  tabulate_same f g zero e = refl
  tabulate_same f g (suc n) e = rw (tabulate_same f g n (λ i l. e i (omega arith)), e n (omega arith))

  pub tabulate-add : (f : ℕ → A) (n m : ℕ) → tabulate f (n + m) ≡ tabulate f n ++ tabulate (λ i. f (n + i)) m
  tabulate-add f n zero = rw (add-zero, append-nil)
  tabulate-add f n (suc m) = rw (add-suc, tabulate-add f n m, append_assoc)

pub tabulate-map : {A B : Type 0} (g : A → B) (f : ℕ → A) (n : ℕ) → map g (tabulate f n) ≡ tabulate (λ i. g (f i)) n
tabulate-map g f zero = refl
tabulate-map g f (suc n) = map-append g (tabulate f n) (f n ∷ []) ∙ rw (tabulate-map g f n)

-- n rows of width w, of which each is its part of one list, are that list
pub flat_rows : {A : Type 0} (row : ℕ → List A) (g : ℕ → A) (w n : ℕ) → ((c : ℕ) → c < n → row c ≡ tabulate (λ i. g (c * w + i)) w)
    → flat_map row (tabulate (λ c. c) n) ≡ tabulate g (n * w)
unfolding flat_map
flat_rows row g w zero e = rw zero-mul
flat_rows row g w (suc n) e =
    flat_snoc row (tabulate (λ c. c) n) n
    ∙ rw (flat_rows row g w n (λ c l. e c (omega arith)), e n (omega arith), suc-mul) (sym (tabulate-add g (n * w) w))

-- so the rows of f have as many entries, and f c k at place k of row c
module _ {A : Type 0} (f : ℕ → ℕ → A) (w n : ℕ) where
  rows_of : flat_map (λ c. tabulate (f c) w) (tabulate (λ c. c) n) ≡ tabulate (λ i. f (i / w) (i % w)) (n * w)
  rows_of =
      flat_rows (λ c. tabulate (f c) w) (λ i. f (i / w) (i % w)) w n
      (λ c l. tabulate_same (f c) (λ i. f ((c * w + i) / w) ((c * w + i) % w)) w (λ i m. rw (digits_div c m, digits_mod c m)))

  pub rows_length : length (flat_map (λ c. tabulate (f c) w) (tabulate (λ c. c) n)) ≡ n * w
  rows_length = ap length rows_of ∙ tabulate-length (λ i. f (i / w) (i % w)) (n * w)

  pub rows_at : (d : A) (c k : ℕ) → c < n → k < w → get_or (flat_map (λ c. tabulate (f c) w) (tabulate (λ c. c) n)) (w * c + k) d ≡ f c k
  rows_at d c k hc hk =
      let at : w * c + k ≡ c * w + k = rw (mul_comm w c) in
      rw (rows_of, at, tabulate_at (λ i. f (i / w) (i % w)) d (n * w) (c * w + k) (digits_lt hc hk), digits_div c hk, digits_mod c hk)
