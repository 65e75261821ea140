-- The path in its buffer: it looks at its own bytes alone; a node written down, read back, and passed on to its next alternative; the longest path entered.
use Prim.Native.Nat.{ℕ, zero, suc, ◌+◌, ◌-◌, ◌%◌, ◌/◌, max, ◌≤◌, ◌<◌}
use mathlib.Core.List.{List, [], ◌∷◌}
use mathlib.Core.Option.{some}
use mathlib.Core.Path.{◌≡◌, refl, ap, ◌∙◌}
use native.Mathlib.Numerals.{add-one}
use native.Mathlib.Omega.{arith}
use lib.ListN.{length, take, drop, get_or, set, length-set}
use lib.Seq.{get_or-set_same, get_or-set_other, split_at, drop-cons}
use Rattle.lists.proofs.Digits.{two_back}
use Rattle.search.specs.Ground.{Found, split}
use Rattle.search.specs.Machine.{Branch, entered, enter, back, Genuine}
use Rattle.walk.specs.terms.Walker.{Site, Walker, Sound}
use Rattle.walk.specs.terms.Path.{Room, node_at, number_at, four_at, next_at, mark_at, deepest_at, PathKept, Noted, Passed, Turned, site_at, alts_at, entry_at, entry_before, path_in, next_in}
use Rattle.walk.proofs.NodeRecord.{stored_byte, stored_first, stored_before, stored_behind, take_four}

-- ---- a node's own bytes

-- they are the same in another buffer
module _ (path left : List ℕ) (i : ℕ) (same : (j : ℕ) → node_at i ≤ j → j < node_at i + 9 → get_or left j 0 ≡ get_or path j 0) where
  pub number_same : number_at left i ≡ number_at path i
  number_same = rw (same (node_at i) (omega arith) (omega arith), same (node_at i + 1) (omega arith) (omega arith))

  pub four_same : four_at left i ≡ four_at path i
  four_same =
      rw (
        same (node_at i + 2) (omega arith) (omega arith),
        same (node_at i + 3) (omega arith) (omega arith),
        same (node_at i + 4) (omega arith) (omega arith),
        same (node_at i + 5) (omega arith) (omega arith),
      )

  pub next_same : next_at left i ≡ next_at path i
  next_same = same (node_at i + 6) (omega arith) (omega arith)

  pub mark_same : mark_at left i ≡ mark_at path i
  mark_same = rw (same (node_at i + 7) (omega arith) (omega arith), same (node_at i + 8) (omega arith) (omega arith))

-- a node before a depth whose nodes are kept
pub own_bytes : (path left : List ℕ) (depth i : ℕ) → PathKept path depth left → i < depth → (j : ℕ) → node_at i ≤ j → j < node_at i + 9 → get_or left j 0 ≡ get_or path j 0
own_bytes path left depth i kept h j l k = kept j (omega arith)

pub fewer_kept : (path left : List ℕ) (depth more : ℕ) → depth ≤ more → PathKept path more left → PathKept path depth left
fewer_kept path left depth more h kept i l = kept i (omega arith)

-- ---- a node written down

module _ (path : List ℕ) (depth number a b c d mark : ℕ) (room : Room path depth) (few : number < 65536) (small : mark < 65536) where
  abbrev at : ℕ
  at = node_at depth

  abbrev stored : List ℕ
  stored = set (set (set (set (set (set (set (set (set path at (number % 256)) (at + 1) (number / 256 % 256)) (at + 2) a) (at + 3) b) (at + 4) c) (at + 5) d) (at + 6) 0) (at + 7) (mark % 256)) (at + 8) (mark / 256 % 256)

  fits : node_at depth + 9 ≤ length path
  fits = omega (arith, room.size, room.deep)

  byte : (i : ℕ) → i < 9 → get_or stored (node_at depth + i) 0 ≡ get_or (number % 256 ∷ number / 256 % 256 ∷ a ∷ b ∷ c ∷ d ∷ 0 ∷ mark % 256 ∷ mark / 256 % 256 ∷ []) i 0
  byte = stored_byte path (node_at depth) (number % 256) (number / 256 % 256) a b c d 0 (mark % 256) (mark / 256 % 256) fits

  behind : (i : ℕ) → node_at depth + 9 ≤ i → get_or stored i 0 ≡ get_or path i 0
  behind = stored_behind path (node_at depth) (number % 256) (number / 256 % 256) a b c d 0 (mark % 256) (mark / 256 % 256) fits

  pub noted : Noted path depth number a b c d mark stored
  noted =
      record {
        number_is =
            rw (stored_first path (node_at depth) (number % 256) (number / 256 % 256) a b c d 0 (mark % 256) (mark / 256 % 256) fits, byte 1 (omega arith))
            (two_back number few);
        four = rw (byte 2 (omega arith), byte 3 (omega arith), byte 4 (omega arith), byte 5 (omega arith));
        next = byte 6 (omega arith);
        mark_is = rw (byte 7 (omega arith), byte 8 (omega arith)) (two_back mark small);
        before = λ i l. stored_before path (node_at depth) (number % 256) (number / 256 % 256) a b c d 0 (mark % 256) (mark / 256 % 256) fits i l;
        deepest_is = rw (behind 9225 (omega (arith, room.deep)), behind 9226 (omega (arith, room.deep)));
      }

-- ---- a node turned to another alternative, and passed on

module _ (path : List ℕ) (depth : ℕ) (room : Room path depth) where
  other : (next i : ℕ) → (i ≡ node_at depth + 6 → ⊥) → get_or (set path (node_at depth + 6) next) i 0 ≡ get_or path i 0
  other next i ne = get_or-set_other path (node_at depth + 6) i next 0 ne

  pub turned : (next : ℕ) → Turned path depth next (set path (node_at depth + 6) next)
  turned next =
      record {
        number_is = rw (other next (node_at depth) (λ e. omega arith), other next (node_at depth + 1) (λ e. omega arith));
        four =
            rw (
              other next (node_at depth + 2) (λ e. omega arith),
              other next (node_at depth + 3) (λ e. omega arith),
              other next (node_at depth + 4) (λ e. omega arith),
              other next (node_at depth + 5) (λ e. omega arith),
            );
        next_is = get_or-set_same path (node_at depth + 6) next 0 (omega (arith, room.size, room.deep));
        mark_is = rw (other next (node_at depth + 7) (λ e. omega arith), other next (node_at depth + 8) (λ e. omega arith));
        before = λ i l. other next i (λ e. omega arith);
        deepest_is = rw (other next 9225 (λ e. omega (arith, room.deep)), other next 9226 (λ e. omega (arith, room.deep)));
      }

  -- turned to the one after its next one, and the path that ends with that counted in
  pub passed : (left : List ℕ) → PathKept (set path (node_at depth + 6) (next_at path depth + 1)) 1025 left → deepest_at left ≡ max (deepest_at path) (depth + 1) → Passed path depth left
  passed left kept counted =
      let t = turned (next_at path depth + 1) in
      let put : List ℕ = set path (node_at depth + 6) (next_at path depth + 1) in
      let own = own_bytes put left 1025 depth kept (omega (arith, room.deep)) in
      record {
        number_is = number_same put left depth own ∙ t.number_is;
        four = four_same put left depth own ∙ t.four;
        next = next_same put left depth own ∙ t.next_is;
        mark_is = mark_same put left depth own ∙ t.mark_is;
        before = λ i l. kept i (omega (arith, room.deep)) ∙ t.before i l;
        deepest_is = counted;
      }

-- the longest path entered written down
pub brought : (path : List ℕ) (deepest : ℕ) → length path ≡ 9227 → deepest < 65536
    → (deepest_at (set (set path 9225 (deepest % 256)) 9226 (deepest / 256 % 256)) ≡ deepest) × PathKept path 1025 (set (set path 9225 (deepest % 256)) 9226 (deepest / 256 % 256))
brought path deepest size small =
    let low : List ℕ = set path 9225 (deepest % 256) in (
      rw (
        get_or-set_other low 9226 9225 (deepest / 256 % 256) 0 (λ e. omega arith),
        get_or-set_same path 9225 (deepest % 256) 0 (omega arith),
        get_or-set_same low 9226 (deepest / 256 % 256) 0 (omega (arith, length-set path 9225 (deepest % 256))),
      ) (two_back deepest small),
      λ i l. get_or-set_other low 9226 i (deepest / 256 % 256) 0 (λ e. omega arith) ∙ get_or-set_other path 9225 i (deepest % 256) 0 (λ e. omega arith),
    )

-- where the nodes from the next one on have changed since
pub passed_still : (path went left : List ℕ) (depth : ℕ) → Passed path depth went → PathKept went (depth + 1) left → deepest_at left ≡ deepest_at went → Passed path depth left
passed_still path went left depth p kept figure =
    let own = own_bytes went left (depth + 1) depth kept (omega arith) in
    record {
      number_is = number_same went left depth own ∙ p.number_is;
      four = four_same went left depth own ∙ p.four;
      next = next_same went left depth own ∙ p.next;
      mark_is = mark_same went left depth own ∙ p.mark_is;
      before = λ i l. kept i (omega arith) ∙ p.before i l;
      deepest_is = figure ∙ p.deepest_is;
    }

-- ---- what the nodes stand for

module _ {I : Type 0} (w : Walker I) where
  pub site_same : (path left : List ℕ) (i : ℕ) → number_at left i ≡ number_at path i → four_at left i ≡ four_at path i → site_at w left i ≡ site_at w path i
  unfolding site_at
  site_same path left i n f = rw (n, f)

  pub path_same : (path left : List ℕ) (depth : ℕ) → PathKept path depth left → path_in w left depth ≡ path_in w path depth
  unfolding path_in
  path_same path left zero kept = refl
  path_same path left (suc i) kept =
      let own = own_bytes path left (suc i) i kept (omega arith) in
      rw (
        site_same path left i (number_same path left i own) (four_same path left i own),
        next_same path left i own,
        path_same path left i (fewer_kept path left i (suc i) (omega arith) kept),
      )

  pub path-length : (path : List ℕ) (depth : ℕ) → length (path_in w path depth) ≡ depth
  unfolding path_in
  path-length path zero = refl
  path-length path (suc i) = ap suc (path-length path i)

  -- a path that is kept to has a record for each of its nodes
  pub path_deep : Sound w → (path : List ℕ) (depth : ℕ) → w.Kept (path_in w path depth) → depth ≤ 1024
  path_deep sound path depth kept = omega (arith, sound.few, sound.short (path_in w path depth) kept, path-length path depth)

  -- one alternative further, the path has one entry more
  pub path_entered : (path left : List ℕ) (depth : ℕ) → Passed path depth left → path_in w left (depth + 1) ≡ entry_at w path depth ∷ path_in w path depth
  unfolding path_in
  path_entered path left depth p =
      let one : next_at path depth + 1 ≡ suc (next_at path depth) = omega arith in
      let less : next_at path depth + 1 - 1 ≡ next_at path depth = omega arith in
      let entry : entry_before w (site_at w path depth) (next_at path depth + 1) ≡ entry_at w path depth = rw (less, one) in
      rw (add-one, site_same path left depth p.number_is p.four, p.next, path_same path left depth p.before, entry)

  -- the site that a node was written down for
  pub site_back : (path left : List ℕ) (depth number a b c d mark : ℕ) (s : Site) → length s.values ≡ w.vars s.number → w.vars s.number ≤ 4
      → s.number ≡ number → get_or s.values 0 0 ≡ a → get_or s.values 1 0 ≡ b → get_or s.values 2 0 ≡ c → get_or s.values 3 0 ≡ d
      → Noted path depth number a b c d mark left → site_at w left depth ≡ s
  unfolding site_at
  site_back path left depth number a b c d mark s count few en ea eb ec ed n =
      rw (n.number_is, n.four, ← en, take_four s.values a b c d (w.vars s.number) count few ea eb ec ed)

  -- an alternative is left: the path of the next entry is this one with it
  pub next_some : (path : List ℕ) (depth : ℕ) → next_at path depth < length (alts_at w path depth) → next_in w path depth ≡ some (entry_at w path depth ∷ path_in w path depth)
  next_some path depth some_left =
      ap (λ (ds : List ℕ). enter (w.instance (site_at w path depth)) ds (path_in w path depth) (back (path_in w path depth)))
      (drop-cons (alts_at w path depth) (next_at path depth) 0 some_left)

-- where paths are kept to that are genuine, each alternative of a split that is found can be entered
pub genuine_enters : {I : Type 0} (find : List ℕ → Found I) (bs : List (Branch I)) (i : I) (ds : List ℕ) → Genuine find bs → find (entered bs) ≡ split i ds
    → (j : ℕ) → j < length ds → Genuine find (record { site = i; atom = get_or ds j 0; rest = drop (suc j) ds } ∷ bs)
genuine_enters find bs i ds g e j l = ((take j ds, e ∙ ap (split i) (split_at ds j 0 l)), g)
