-- From a sound way of finding a node alone: its paths hold distinct atoms below A, so they are short and the walk ends, and what the walk answers is right.
use Prim.Native.Nat.{ℕ, ◌≤◌, ◌<◌}
use mathlib.Core.List.{List, [], ◌∷◌, ◌++◌}
use mathlib.Core.Path.{◌≡◌, sym, ◌∙◌}
use lib.ListN.{length, length-map}
use Rattle.lists.specs.Key.{nat_key}
use Rattle.lists.specs.Member.{All, In, Distinct}
use Rattle.lists.proofs.Member.{all_map, append_right}
use Rattle.lists.proofs.Pigeonhole.{pigeonhole}
use Rattle.search.specs.Ground.{Ground, Found, split}
use Rattle.search.specs.Machine.{Branch, entered, trail, Genuine}
use Rattle.search.specs.Sound.{SoundFind}
use Rattle.search.specs.Claims.{PathFits, SoundWalk, last_place}
use Rattle.search.proofs.Path.{Reached, trail-Reached, walk_ends, last_opened}
use Rattle.search.proofs.Refuted.{never_refuted}

module _ {I : Type 0} (p : Ground I) where
  -- distinct atoms below A
  abbrev pub Small : List ℕ → Type 0
  Small l = Distinct nat_key l × All (λ a. a < p.atoms) l

  -- an atom below A that is not in the list
  abbrev pub Fresh : List ℕ → ℕ → Type 0
  Fresh l a = (a < p.atoms) × (In nat_key l a → ⊥)

  module _
      (find : List ℕ → Found I)
      (fresh : (bs : List (Branch I)) → Genuine find bs → (i : I) (ds : List ℕ) → find (entered bs) ≡ split i ds → All (Fresh (entered bs)) ds) where
    pub path_small : (bs : List (Branch I)) → Genuine find bs → Small (entered bs)
    path_small [] g = (tt, tt)
    path_small (b ∷ bs) g =
        let here : All (Fresh (entered bs)) (b.atom ∷ b.rest) =
        append_right (Fresh (entered bs)) g.0.0 (b.atom ∷ b.rest) (fresh bs g.1 b.site (g.0.0 ++ (b.atom ∷ b.rest)) g.0.1) in
        let s = path_small bs g.1 in
        ((here.0.1, s.0), (here.0.0, s.1))

    pub path_short : (bs : List (Branch I)) → Genuine find bs → length bs ≤ p.atoms
    path_short bs g =
        let s = path_small bs g in
        rw (← (length-map bs (λ b. b.atom))) (pigeonhole p.atoms (entered bs) s.0 s.1)

  pub sound_walk : (find : List ℕ → Found I) → SoundFind p find → SoundWalk p find
  sound_walk find sound =
      record {
        paths_fit = λ limit.
            all_map
            (Reached find)
            (PathFits p)
            (λ s r.
            let small = path_small find sound.split_fresh s.path r.0 in
            record { distinct = small.0; below = small.1; short = path_short find sound.split_fresh s.path r.0 })
            (trail find limit)
            (trail-Reached find limit);
        short_paths = path_short find sound.split_fresh;
        ends = walk_ends find p.atoms (path_short find sound.split_fresh);
        refuted = λ limit n e M m.
            never_refuted
            find
            M
            (λ bs g c h. sound.closed_refutes bs g c M (record { model = m; holds = h }))
            (λ bs g i ds c h. sound.split_covers bs g i ds c M (record { model = m; holds = h }))
            limit
            n
            e;
        satisfied = λ limit n bits e.
            let o = last_opened find limit n bits e in
            sound.opened_model (last_place find limit).path o.0 bits o.1;
      }

-- where g finds a node as f on f's genuine paths, g's genuine paths are f's
genuine_same : {I : Type 0} (f g : List ℕ → Found I) → ((bs : List (Branch I)) → Genuine f bs → g (entered bs) ≡ f (entered bs))
    → (bs : List (Branch I)) → Genuine g bs → Genuine f bs
genuine_same f g same [] w = tt
genuine_same f g same (b ∷ bs) w =
    let rest : Genuine f bs = genuine_same f g same bs w.1 in
    ((w.0.0, sym (same bs rest) ∙ w.0.1), rest)

-- so g is sound where f is
pub sound_same : {I : Type 0} (p : Ground I) (f g : List ℕ → Found I) → ((bs : List (Branch I)) → Genuine f bs → g (entered bs) ≡ f (entered bs)) → SoundFind p f → SoundFind p g
sound_same {I} p f g same sound =
    record {
      closed_refutes = λ bs w e. let v = by bs w in sound.closed_refutes bs v (sym (same bs v) ∙ e);
      split_covers = λ bs w i ds e. let v = by bs w in sound.split_covers bs v i ds (sym (same bs v) ∙ e);
      split_fresh = λ bs w i ds e. let v = by bs w in sound.split_fresh bs v i ds (sym (same bs v) ∙ e);
      opened_model = λ bs w bits e. let v = by bs w in sound.opened_model bs v bits (sym (same bs v) ∙ e);
    }
  where
    by : (bs : List (Branch I)) → Genuine g bs → Genuine f bs
    by = genuine_same f g same
