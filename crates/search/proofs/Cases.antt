-- The problems at which mistakes show, by computing the walks.
use mathlib.Core.List.{flat_map}
use mathlib.Core.Path.{refl}
use Rattle.search.specs.Cases.{CasesHold}
use Rattle.search.specs.Closure.{grow, least}
use Rattle.search.specs.Machine.{entries, proceed, deepest_under}
use Rattle.search.specs.Magic.{rewriting, held_set, find_m}
use Rattle.search.specs.Relevancy.{horn_rules, true_set, relevant_rules, relevant_set, find_r}
use Rattle.search.specs.Staged.{chain_rules, step_marks, stage_of, mark_from, find_s}

pub cases_hold : CasesHold
unfolding flat_map grow least horn_rules true_set relevant_rules relevant_set find_r rewriting held_set find_m chain_rules step_marks stage_of mark_from find_s entries proceed deepest_under
cases_hold = record { relevancy = refl; magic = refl; staged = refl; staged_apart = refl; relevancy_deepest = refl; magic_deepest = refl }
