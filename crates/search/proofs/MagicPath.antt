-- The magic walk finds a node as the relevancy walk on that walk's paths, so it is sound.
use Rattle.lists.specs.Key.{Key}
use Rattle.search.specs.Ground.{Ground, Proper}
use Rattle.search.specs.Relevancy.{find_r}
use Rattle.search.specs.Magic.{rewriting, find_m}
use Rattle.search.specs.Sound.{SoundFind}
use Rattle.search.proofs.Sound.{sound_same}
use Rattle.search.proofs.Model.{relevancy_sound}
use Rattle.search.proofs.OneTrail.{magic_same}

pub magic_sound : {I : Type 0} (k : Key I) (p : Ground I) → Proper p → SoundFind p (find_m k p.atoms (rewriting p))
magic_sound k p proper = sound_same p (find_r p) (find_m k p.atoms (rewriting p)) (magic_same k p) (relevancy_sound p proper)
