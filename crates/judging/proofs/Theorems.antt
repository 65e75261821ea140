-- The claims of `specs/Claims.antt`, proved.
use Rattle.judging.specs.Claims.{Theorems}
use Rattle.judging.proofs.CheckLaws.{violated_from, violated_to, checked_model, model_checked, violated_first}
use Rattle.judging.proofs.HoldingLaws.{held_so_far, gives_out, violated_held, instance_is_named, refused_as_judged, told, lacked, past_unseen}
use Rattle.judging.proofs.Demand2.{demand_2}

pub theorems : Theorems
theorems =
    record {
      violated = λ q answer i. (violated_from q answer i, violated_to q answer i);
      model = λ q answer. (checked_model q answer, model_checked q answer);
      first_named = violated_first;
      held_so_far = held_so_far;
      gives_out = gives_out;
      violated_held = violated_held;
      instance_is_named = instance_is_named;
      refused_as_judged = refused_as_judged;
      told = told;
      lacked = lacked;
      past_unseen = past_unseen;
      demand_2 = demand_2;
    }
