-- The alternatives of a split node, by the record of its rule.
use Prim.Native.Nat.{ℕ, ◌+◌, ◌≤◌, ◌<◌}
use mathlib.Core.List.{List, [], ◌∷◌, map}
use mathlib.Core.Path.{◌≡◌, refl, sym, ap, ◌∙◌}
use native.Mathlib.Omega.{arith}
use lib.Dec.{T}
use lib.ListN.{length, take, get_or}
use Rattle.std.specs.Prelude.{Option}
use Rattle.lists.specs.Key.{nat_key}
use Rattle.lists.specs.Tabulate.{tabulate}
use Rattle.lists.proofs.Firsts.{firsts-length}
use Rattle.lists.proofs.Member.{all_map}
use Rattle.lists.proofs.Tabulate.{tabulate-length, tabulate_same, tabulate-map}
use Rattle.search.specs.Ground.{disjunctive}
use Rattle.search.specs.Relevancy.{branches}
use Rattle.problem.specs.Problem.{ArgFits}
use Rattle.problem.specs.Layout.{arities_in}
use Rattle.problem.proofs.Judges.{atom_grows}
use Rattle.ground.specs.Instance.{value_of, number}
use Rattle.ground.specs.terms.Branching.{number_in, SlotsNumbered, slot_numbers, NextOf}
use Rattle.ground.proofs.AtomLaws.{number_takes, value_fits}
use Rattle.rewriting.specs.Rules.{RuleGives, onward, alternatives}
use Rattle.rewriting.specs.RulesLayout.{given_atoms}
use Rattle.rewriting.specs.terms.Ruled.{Ruled, rule_at, the_rule}
use Rattle.magic_rule.specs.terms.Choosing.{heads_by, rule_heads}
use Rattle.magic_rule.specs.terms.Applied.{site_with, Applied}
use Rattle.magic_rule.specs.terms.Watch.{site_place}
use Rattle.magic_rule.proofs.RuledLaws.{given_atom, RuleRead, rule_read, ruled_few}
use Rattle.walk.specs.terms.Walker.{Site}
use Rattle.walk.specs.terms.Path.{number_at, four_at, site_at, alts_at}
use Rattle.magic_walk.specs.terms.Place.{rule_site, site_alts, Splitting, magic_walker}

-- two alternatives or more are those that the rule gives
heads_given : (bs values : List ℕ) (g : RuleGives) → T (disjunctive (heads_by bs values g)) → heads_by bs values g ≡ map (number (get_or bs 0 0) (arities_in bs) values) (given_atoms g)
heads_given bs values (onward n a) t = absurd t
heads_given bs values (alternatives []) t = absurd t
heads_given bs values (alternatives (a ∷ atoms)) t = refl

module _ (bs : List ℕ) (h : Ruled bs) (s : Site) (at : Splitting bs s) where
  abbrev q : ℕ
  q = s.number

  abbrev numbered : ℕ → ℕ
  numbered j = number (get_or bs 0 0) (arities_in bs) s.values (given_atom bs s.number j)

  pub alts_read : RuleRead bs s.number
  alts_read = rule_read bs h q at.listed.known

  heads_are : rule_heads bs s.number s.values ≡ tabulate numbered (get_or bs (rule_at q + 5) 0)
  heads_are =
      heads_given bs s.values (the_rule bs q).gives at.several
      ∙ ap (map (number (get_or bs 0 0) (arities_in bs) s.values)) alts_read.given_row
      ∙ tabulate-map (number (get_or bs 0 0) (arities_in bs) s.values) (given_atom bs q) (get_or bs (rule_at q + 5) 0)

  pub alts_few : length (site_alts bs s) ≤ 4
  alts_few =
      omega (
        arith,
        firsts-length nat_key (rule_heads bs s.number s.values),
        ap length heads_are ∙ tabulate-length numbered (get_or bs (rule_at q + 5) 0),
        alts_read.given_few,
      )

  pub rule_few : s.number < 320
  rule_few = omega (arith, at.listed.known, ruled_few bs h)

-- by the rule and the values that have been read from the path
module _ (bs : List ℕ) (h : Ruled bs) (path : List ℕ) (depth : ℕ) (named : Splitting bs (site_at (magic_walker bs) path depth))
    (q : ℕ) (number_is : q ≡ number_at path depth) (values : List ℕ) (four_is : values ≡ four_at path depth) where
  abbrev site : Site
  site = record { number = number_at path depth; values = take (the_rule bs (number_at path depth)).vars (four_at path depth) }

  at : Splitting bs site
  unfolding site_at
  at = named

  pub read_few : q < 320
  read_few = omega (arith, number_is, rule_few bs h site at)

  pub read_applied : Applied bs q values
  read_applied = rw (number_is, four_is) (record { known = at.listed.known; four = refl; below = at.listed.valued.below })

  pub read_place : site_place bs (site_with bs q values) ≡ site_place bs (rule_site (site_at (magic_walker bs) path depth))
  unfolding site_at
  read_place = rw (number_is, four_is)

  abbrev v : ℕ
  v = (the_rule bs (number_at path depth)).vars

  abbrev count : ℕ
  count = get_or bs (rule_at (number_at path depth) + 5) 0

  abbrev read : RuleRead bs (number_at path depth)
  read = alts_read bs h site at

  -- the alternatives stand in the slots of the rule's record
  slots : SlotsNumbered bs (rule_at (number_at path depth) + 26) 4 count (four_at path depth)
  slots =
      record {
        few = read.given_few;
        each = λ j l.
            let atom = given_atom bs (number_at path depth) j in
            let fits = read.given_fits j l in
            record {
              room = omega (arith, read.size, read.place, read.given_few);
              four = refl;
              atom_fits = atom_grows (get_or bs 0 0) (arities_in bs) v 4 read.vars_few atom fits;
              values_below =
                  all_map (ArgFits (get_or bs 0 0) v) (λ b. value_of (four_at path depth) b < get_or bs 0 0)
                  (value_fits (get_or bs 0 0) (arities_in bs) v (four_at path depth) read.vars_few at.listed.valued.below)
                  atom.args fits.args_fit;
            };
      }

  alts_are : branches (slot_numbers bs (rule_at (number_at path depth) + 26) 4 (four_at path depth) count) ≡ alts_at (magic_walker bs) path depth
  unfolding site_at
  alts_are =
      ap branches
      (sym
      (heads_are bs h site at
      ∙ tabulate_same
      (λ j. number (get_or bs 0 0) (arities_in bs) site.values (given_atom bs (number_at path depth) j))
      (number_in bs (rule_at (number_at path depth) + 26) 4 (four_at path depth)) count
      (λ j l. number_takes (get_or bs 0 0) (arities_in bs) v (four_at path depth) (given_atom bs (number_at path depth) j) (read.given_fits j l))))

  pub read_slots : SlotsNumbered bs (rule_at q + 26) 4 (get_or bs (rule_at q + 5) 0) values
  read_slots = rw (number_is, four_is) slots

  pub read_next : (n : ℕ) (r : Option ℕ) → NextOf (branches (slot_numbers bs (rule_at q + 26) 4 values (get_or bs (rule_at q + 5) 0))) n r → NextOf (alts_at (magic_walker bs) path depth) n r
  read_next n r next = rw (← alts_are, ← number_is, ← four_is) next
