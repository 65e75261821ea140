-- The predicate, and as many arguments as it takes.
use Rattle.std.proofs.Common.{ℕ, ◌+◌, List, [], ◌∷◌, get_or, ap, arith}
use Rattle.lists.specs.Tabulate.{tabulate}
use Rattle.problem.specs.Digit.{hex_byte}
use Rattle.problem.specs.Layout.{arities_in}
use Rattle.writing.proofs.WriteLaws.{put_as, put_most, put_first, put_frame, atom_bytes_lem}
use mathlib.Core.List.{flat_map}
use Rattle.writing.proofs.write.put_atom.Goals as goal

pub returns : goal.returns
returns c =
    let tb : List ℕ = c.args.table.now in
    let from : ℕ = c.args.from in
    let n : ℕ = c.arity_in.result in
    let b : ℕ = get_or tb from 0 in
    put_as
    (put_most (put_frame (b ∷ []) (tabulate (λ j. get_or tb (from + 1 + j) 0) n) (put_first b c.put_byte-next.ensures) (omega arith) c.put_bytes.ensures) (omega arith))
    (ap (flat_map hex_byte) (atom_bytes_lem (arities_in tb) tb from n c.arity_in.ensures.0))
