-- The claims of `specs/Claims.antt`, proved.
use Rattle.ground.specs.Claims.{Theorems}
use Rattle.ground.proofs.Instances.{ground_proper, number_apart, number_onto}
use Rattle.ground.proofs.Order.{atoms_listed, atoms_stand_in_order, atoms_all, instances_all, instances_in_order}
use Rattle.ground.proofs.Cases.{cases_hold, refusals_printed}

pub theorems : Theorems
theorems =
    record {
      apart = number_apart;
      onto = number_onto;
      atoms_listed = atoms_listed;
      atoms_stand_in_order = atoms_stand_in_order;
      atoms_all = atoms_all;
      instances_all = instances_all;
      instances_in_order = instances_in_order;
      proper = ground_proper;
      cases_hold = cases_hold;
      refusals_printed = refusals_printed;
    }
