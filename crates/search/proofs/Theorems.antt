-- The claims of `specs/Claims.antt`, proved.
use Prim.Native.Nat.{ℕ}
use mathlib.Core.Bool.{Bool}
use mathlib.Core.List.{List}
use mathlib.Core.Path.{◌≡◌, sym}
use native.Mathlib.Nat.{zero-add}
use lib.ListN.{length}
use Rattle.lists.specs.Key.{Key, nat_key}
use Rattle.lists.specs.Member.{has}
use Rattle.lists.proofs.Firsts.{each_once}
use Rattle.lists.proofs.Member.{all_map, all_hold}
use Rattle.search.specs.Closure.{Rule}
use Rattle.search.specs.Ground.{Ground, Found}
use Rattle.search.specs.Relevancy.{find_r}
use Rattle.search.specs.Magic.{rewriting, find_m}
use Rattle.search.specs.Staged.{find_s}
use Rattle.search.specs.Machine.{entered, Satisfied, last, root, trail, outcome}
use Rattle.search.specs.Trails.{SameFacts, OneTrail}
use Rattle.search.specs.Claims.{Smallest, AnyWalk, last_place, model_at, ByHolding, Theorems}
use Rattle.search.proofs.Cases.{cases_hold}
use Rattle.search.proofs.Closure.{least-seeds, least-Closed, least_ind}
use Rattle.search.proofs.Machine.{entries_on, proceed_on, whole_unique, whole_over, answer-none, proceed_limit}
use Rattle.search.proofs.Path.{Reached, trail-Reached, last_opened}
use Rattle.search.proofs.Sound.{sound_walk}
use Rattle.search.proofs.Found.{find_r-opened}
use Rattle.search.proofs.Choice.{relevancy_chooses, magic_chooses}
use Rattle.search.proofs.Relevancy.{asks_by}
use Rattle.search.proofs.Model.{relevancy_sound}
use Rattle.search.proofs.Staged.{stages, marking_ends}
use Rattle.search.proofs.StagedChoice.{opened_to, marking_is, staged_chooses}
use Rattle.search.proofs.StagedSound.{staged_sound, never_contradict}
use Rattle.search.proofs.OneTrail.{magic_same, same_facts, trail_same, outcome_same}
use Rattle.search.proofs.MagicPath.{magic_sound}
use Rattle.search.proofs.Deepest.{exact_bounds}
use Rattle.search.proofs.SessionLeft.{any_session}
use Rattle.search.proofs.SessionClaims.{one_walk_kept, origin_kept, any_origin}

smallest : {F : Type 0} (k : Key F) (rs : List (Rule F)) (seeds : List F) → Smallest k rs seeds
smallest k rs seeds = record { seeds_in = least-seeds k rs seeds; closed = least-Closed k rs seeds; inside = least_ind k rs seeds }

any_walk : {I : Type 0} (find : List ℕ → Found I) → AnyWalk find
any_walk find =
    record {
      entries_on = entries_on find;
      runs_on = proceed_on find;
      whole_one = whole_unique find (root find);
      whole_settled = λ es w n. answer-none find (last (root find) es) (length es) n (whole_over find (root find) es w);
      limited = λ es w limit. rw (zero-add limit, zero-add (length es)) at (proceed_limit find (root find) es w limit 0);
    }

model_given : {I : Type 0} (p : Ground I) (limit n : ℕ) (bits : List Bool) → outcome (find_r p) limit ≡ Satisfied n bits → bits ≡ model_at p (last_place (find_r p) limit)
model_given p limit n bits e = sym (find_r-opened p (entered (last_place (find_r p) limit).path) bits (last_opened (find_r p) limit n bits e).1).2

staged_model_given : {I : Type 0} (p : Ground I) (limit n : ℕ) (bits : List Bool) → outcome (find_s p) limit ≡ Satisfied n bits → bits ≡ model_at p (last_place (find_s p) limit)
staged_model_given p limit n bits e =
    let l = entered (last_place (find_s p) limit).path in
    sym (find_r-opened p l bits (opened_to p l bits (last_opened (find_s p) limit n bits e).1)).2

one_trail : {I : Type 0} (k : Key I) (p : Ground I) (limit : ℕ) → OneTrail k p limit
one_trail k p limit =
    record {
      trails = trail_same (find_r p) (find_m k p.atoms (rewriting p)) (magic_same k p) limit;
      facts =
          all_map
          (Reached (find_r p))
          (λ s. (x : ℕ) → SameFacts k p s x)
          (λ s r. same_facts k p s r.0)
          (trail (find_r p) limit)
          (trail-Reached (find_r p) limit);
      outcomes = outcome_same (find_r p) (find_m k p.atoms (rewriting p)) (magic_same k p) limit;
    }

by_holding : ByHolding
by_holding =
    record {
      closes_by = λ s r. rw (all_hold (has nat_key s) r.body);
      asks_by = asks_by;
      splits_by = λ p t r i. rw (all_hold t (p.conds i));
    }

pub theorems : Theorems
theorems =
    record {
      smallest = smallest;
      any_walk = any_walk;
      any_session = any_session;
      sound_walk = sound_walk;
      never_contradict = never_contradict;
      relevancy_sound = relevancy_sound;
      magic_sound = magic_sound;
      staged_sound = staged_sound;
      relevancy_chooses = relevancy_chooses;
      magic_chooses = magic_chooses;
      staged_chooses = staged_chooses;
      stages = stages;
      marking_ends = marking_ends;
      marking_is = marking_is;
      entered_once = each_once nat_key;
      model_given = model_given;
      staged_model_given = staged_model_given;
      one_trail = one_trail;
      by_holding = by_holding;
      one_walk_kept = one_walk_kept;
      origin_kept = origin_kept;
      any_origin = any_origin;
      exact_bounds = exact_bounds;
      cases_hold = cases_hold;
    }
