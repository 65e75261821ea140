-- Packing loses nothing: the number that an operation gives back, taken apart, is its answer. `proofs/Theorems.antt` proves `Theorems`.
use Rattle.std.specs.Prelude.{ℕ, ◌<◌, Bool, List, ◌≡◌}
use Rattle.problem.specs.Numbers.{Numbers}
use Rattle.reading.specs.Read.{read_result}
use Rattle.writing.specs.Write.{write_result, writing_numbers}
use Rattle.offering.specs.Offer.{offer_result, set_result}
use Rattle.judging.specs.ModelCheck.{judge_result}
use Rattle.judging.specs.Holding.{holding_result, holding_numbers}
use Rattle.rewriting.specs.Rewrite.{rewrite_result, rewriting_numbers}
use Rattle.ground.specs.declared.verdict.Verdict.{Verdict}
use Rattle.session.specs.declared.record.Session.{Session as Record}
use Rattle.session.specs.Calls.{verdict_told, deepest_told}
use Rattle.relevancy.specs.Engine.{fit_result, fit_deepest}
use Rattle.relevancy.specs.Sessions.{resumed}
use Rattle.staged.specs.Engine.{staged_result}
use Rattle.magic.specs.Engine.{magic_result, magic_deepest}
use Rattle.magic.specs.Sessions.{magic_resumed}
use Rattle.assuming.specs.Assume.{assumed_of}
use Rattle.assuming.specs.Engines.{relevancy_runs, magic_runs}
use Rattle.parting.specs.Runs.{parts_result}
use Rattle.lutsamik.specs.Pack.{packed, pack_reading, pack_offering, pack_judging, pack_verdict, pack_staged, pack_assumed, pack_parting, unpacked, deepest_of, as_reading, as_value, as_offering, as_judging, as_verdict, as_assumed, as_parting}

-- numbers that have room in their bits
pub record Narrow (a : Numbers) : Type 0 where
  pub refusal : a.refusal < 256
  pub number : a.number < 256
  pub clause : a.clause < 256
  pub value : a.value < 4294967296

-- a verdict with its figure
pub record VerdictBack (v : Verdict) (d : ℕ) : Type 0 where
  pub verdict_back : as_verdict (unpacked (pack_verdict v d)) ≡ v
  pub deepest_back : deepest_of (pack_verdict v d) ≡ d

pub record Theorems : Type 0 where
  pub parts_back : (a : Numbers) → Narrow a → unpacked (packed a) ≡ a
  pub reading_back : (x tb : List ℕ) → as_reading (unpacked (pack_reading (read_result x tb))) ≡ read_result x tb
  pub writing_back : (tb out : List ℕ) → as_value (unpacked (packed (writing_numbers (write_result tb out)))) ≡ write_result tb out
  pub offer_back : (tb f slip : List ℕ) → as_offering (unpacked (pack_offering (offer_result tb f slip))) ≡ offer_result tb f slip
  pub set_back : (tb slip : List ℕ) → as_offering (unpacked (pack_offering (set_result tb slip))) ≡ set_result tb slip
  pub judging_back : (tb answer : List ℕ) → as_judging (unpacked (pack_judging (judge_result tb answer))) ≡ judge_result tb answer
  pub holding_back : (tb answer : List ℕ) (k a b c d : ℕ) → as_value (unpacked (packed (holding_numbers (holding_result tb answer k a b c d)))) ≡ holding_result tb answer k a b c d
  pub rewriting_back : (tb rules : List ℕ) → as_value (unpacked (packed (rewriting_numbers (rewrite_result tb rules)))) ≡ rewrite_result tb rules
  -- an engine's verdict, and its deepest figure, which is 0 where it is refused
  pub relevancy_back : (tb answer work : List ℕ) → VerdictBack (fit_result tb answer work) (fit_deepest tb answer work)
  pub magic_back : (tb rules answer work : List ℕ) → VerdictBack (magic_result tb rules answer work) (magic_deepest tb rules answer work)
  -- the staged engine's verdict; the figure's bits are 0
  pub staged_back : (tb answer work : List ℕ) → as_verdict (unpacked (pack_staged (staged_result tb answer work))) ≡ staged_result tb answer work
  pub staged_figureless : (tb answer work : List ℕ) → deepest_of (pack_staged (staged_result tb answer work)) ≡ 0
  -- the calls that go on with a session
  pub relevancy_resumed_back : (r : Record) (further : ℕ) (tb answer work : List ℕ)
      → VerdictBack (verdict_told (resumed r further tb answer work)) (deepest_told (resumed r further tb answer work))
  pub magic_resumed_back : (r : Record) (further : ℕ) (tb rules answer work : List ℕ)
      → VerdictBack (verdict_told (magic_resumed r further tb rules answer work)) (deepest_told (magic_resumed r further tb rules answer work))
  -- the calls with assumptions
  pub relevancy_assumed_back : (tb facts answer work : List ℕ) → as_assumed (unpacked (pack_assumed (assumed_of (relevancy_runs tb facts answer work)))) ≡ assumed_of (relevancy_runs tb facts answer work)
  pub magic_assumed_back : (tb facts rules answer work : List ℕ)
      → as_assumed (unpacked (pack_assumed (assumed_of (magic_runs tb facts rules answer work)))) ≡ assumed_of (magic_runs tb facts rules answer work)
  -- the calls by parts, of either engine, whether or not a lent buffer is too short
  pub parted_back : (magic short : Bool) (tb : List ℕ) → as_parting (unpacked (pack_parting (parts_result magic short tb))) ≡ parts_result magic short tb
