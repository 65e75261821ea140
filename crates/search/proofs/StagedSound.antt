-- The walk that marks in stages is sound, since it closes and leaves open where the relevancy walk does; and sound walks never contradict one another.
use Prim.Native.Nat.{ℕ}
use mathlib.Core.Bool.{Bool}
use mathlib.Core.List.{List}
use mathlib.Core.Path.{◌≡◌}
use Rattle.search.specs.Ground.{Ground, Proper, Marked, Found}
use Rattle.search.specs.Machine.{Satisfied, Refuted, outcome}
use Rattle.search.specs.Sound.{SoundFind}
use Rattle.search.specs.Staged.{find_s}
use Rattle.search.specs.StagedClaims.{marked_at}
use Rattle.search.proofs.Model.{alike_sound}
use Rattle.search.proofs.Sound.{sound_walk}
use Rattle.search.proofs.StagedChoice.{find_s-closed, find_s-split, opened_to}

pub staged_sound : {I : Type 0} (p : Ground I) → Proper p → SoundFind p (find_s p)
staged_sound p proper =
    alike_sound p (find_s p) proper
    (record {
      closed_true = find_s-closed p;
      split_under = λ l i ds e. let f = find_s-split p l i ds e in (marked_at p l f.0.stage, f.0.there, f.1);
      opened_alike = opened_to p;
    })

pub never_contradict : {I : Type 0} (p : Ground I) (f g : List ℕ → Found I) → SoundFind p f → SoundFind p g → (limit n : ℕ) (bits : List Bool) → outcome f limit ≡ Satisfied n bits
    → (other m : ℕ) → outcome g other ≡ Refuted m → ⊥
never_contradict p f g sf sg limit n bits e other m r = (sound_walk p g sg).refuted other m r (Marked bits) ((sound_walk p f sf).satisfied limit n bits e).1
