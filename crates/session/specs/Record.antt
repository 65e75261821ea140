-- What a session's record stands for, and the record that a session is kept in.
use Rattle.std.specs.Prelude.{ℕ, Bool, cond, ◌&&◌, List, [], ◌∷◌, leb, length, replicate, set}
use Rattle.std.proofs.Math.Option.{Option, none, some}
use Rattle.search.specs.Session.{Step, Standing, refuted, satisfied, exhausted, Session}
use Rattle.walk.specs.Numbers.{session_of}
use Rattle.session.specs.declared.record.Session.{Session as Record}

-- a verdict or a length that no session has is refused by 42
abbrev pub is_kept : Record → Bool
is_kept r = leb r.verdict 2 && leb r.length 1024

-- the session in a record; what stands past the path is not looked at
unfoldable pub session_in : Record → Option Session
session_in r = cond (is_kept r) (some (session_of r.verdict r.count r.atoms r.nexts r.length r.next r.deepest)) none

abbrev pub verdict_number : Standing → ℕ
verdict_number refuted = 0
verdict_number satisfied = 1
verdict_number exhausted = 2

-- a number of each entry of a path, the first one first, and zeros to the end of 1,024
unfoldable pub slots : (Step → ℕ) → List Step → List ℕ
slots f [] = replicate 1024 0
slots f (s ∷ steps) = set (slots f steps) (length steps) (f s)

-- the record of a session: every field is fixed
unfoldable pub laid : Session → Record
laid s =
    record {
      count = s.count;
      length = length s.path;
      verdict = verdict_number s.standing;
      next = s.next;
      atoms = slots (λ t. t.atom) s.path;
      nexts = slots (λ t. t.next) s.path;
      deepest = s.deepest;
    }
