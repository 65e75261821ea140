-- The claims of `specs/Claims.antt`, proved.
use Prim.Native.Nat.{◌^◌}
use mathlib.Core.Path.{refl}
use native.Mathlib.Nat.{pow-zero, pow-succ'}
use native.Mathlib.Omega.{arith}
use Rattle.lists.specs.Claims.{Theorems}
use Rattle.lists.proofs.Digits.{horner-cons, digits_length, digits_fit, horner_digits, horner_below, digits_horner, horner-mod, tuples_at, digits_first, low_back}
use Rattle.lists.proofs.Firsts.{each_once}
use Rattle.lists.proofs.Member.{lead_holds, lead_stops, lead-All, All-lead, all_hold}
use Rattle.lists.proofs.Tabulate.{rows_length, rows_at}

pub theorems : Theorems
theorems =
    record {
      no_power = pow-zero;
      next_power = pow-succ';
      no_digit = λ c. refl;
      first_slowest = horner-cons;
      digits_many = digits_length;
      digits_below = digits_fit;
      number_back = horner_digits;
      number_below = horner_below;
      digits_back = digits_horner;
      kept = horner-mod;
      listed = tuples_at;
      first_digit = digits_first;
      low_back = low_back;
      lead_holds = lead_holds;
      lead_stops = lead_stops;
      leads = λ t atoms. (lead-All t atoms, All-lead t atoms);
      all_hold = all_hold;
      each_once = each_once;
      powers_many = rows_length (λ c k. c ^ k) 5 33;
      powers_rule = λ c k h l. rows_at (λ c k. c ^ k) 5 33 0 c k (omega arith) (omega arith);
    }
