-- What the magic engine's calls with a session say for a lent table. `session/Calls` has what they leave in all that is lent but the rules.
use Rattle.std.specs.Prelude.{ℕ, List, ◌++◌, take, drop}
use Rattle.search.specs.Session.{Called, declined, told}
use Rattle.problem.specs.Problem.{limit_of}
use Rattle.problem.specs.Layout.{problem_in}
use Rattle.problem.specs.Table.{is_valid}
use Rattle.ground.specs.Instance.{ground_in}
use Rattle.rewriting.specs.Facts.{find_in}
use Rattle.rewriting.specs.Rewrite.{rules_over}
use Rattle.session.specs.declared.record.Session.{Session as Record}
use Rattle.session.specs.Calls.{called_in, begun_by, screened}
use Rattle.magic.specs.Engine.{magic_too_short}

-- a first run under the table's own limit, by the rules that are left in the rules buffer
unfoldable pub magic_begun : List ℕ → List ℕ → List ℕ → List ℕ → Called
magic_begun tb rules answer work =
    screened (magic_too_short tb rules answer work) (is_valid (take 4096 tb))
    (begun_by (find_in (rules_over (take 4096 tb) (take 16384 rules))) (limit_of (problem_in (take 4096 tb)).limit))

-- going on with a session under a further limit, by the same rules
unfoldable pub magic_resumed : Record → ℕ → List ℕ → List ℕ → List ℕ → List ℕ → Called
magic_resumed r further tb rules answer work =
    screened (magic_too_short tb rules answer work) (is_valid (take 4096 tb)) (called_in (find_in (rules_over (take 4096 tb) (take 16384 rules))) (ground_in (take 4096 tb)).atoms r further)

-- the rules stay, whatever the verdict; a refusal leaves what was there
abbrev pub rules_left : Called → List ℕ → List ℕ → List ℕ
rules_left (declined e) tb rules = rules
rules_left (told o s) tb rules = rules_over (take 4096 tb) (take 16384 rules) ++ drop 16384 rules
