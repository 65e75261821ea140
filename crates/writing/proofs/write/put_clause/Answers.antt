-- The line's counts, its atoms and its end.
use Rattle.std.proofs.Common.{ℕ, ◌+◌, ◌*◌, List, [], ◌∷◌, ◌++◌, ap, arith}
use mathlib.Core.List.{flat_map}
use Rattle.lists.specs.Tabulate.{tabulate}
use Rattle.problem.specs.Digit.{hex_line}
use Rattle.problem.specs.Layout.{atom_in, arities_in}
use Rattle.problem.specs.Print.{atom_bytes}
use Rattle.writing.proofs.WriteLaws.{put_as, put_first, put_frame, put_hex, put_line, clause_frame_lem}
use Rattle.writing.proofs.write.put_clause.Goals as goal

-- the bytes of so many atoms, in slots from a place of the table on
abbrev atoms_at : List ℕ → ℕ → ℕ → List ℕ
atoms_at tb from count = flat_map atom_bytes (tabulate (λ i. atom_in (arities_in tb) tb (from + 6 * i)) count)

pub returns : goal.returns
returns c =
    let tb : List ℕ = c.args.table.now in
    let from : ℕ = c.args.from in
    let n : ℕ = c.min-conds.result in
    let m : ℕ = c.min-alts.result in
    let one = put_first 3 c.put_byte-kind.ensures in
    let two = put_hex (3 ∷ []) n one (omega arith) c.put_byte-count.ensures in
    let three = put_hex (3 ∷ n ∷ []) m two (omega arith) c.put_byte-counts.ensures in
    let body = put_frame (3 ∷ n ∷ m ∷ []) (atoms_at tb (from + 8) n) three (omega arith) c.put_atoms-first.ensures in
    let whole = put_frame ((3 ∷ n ∷ m ∷ []) ++ atoms_at tb (from + 8) n) (atoms_at tb (from + 32) m) body (omega arith) c.put_atoms-second.ensures in
    put_as
    (put_line ((3 ∷ n ∷ m ∷ []) ++ atoms_at tb (from + 8) n ++ atoms_at tb (from + 32) m) whole (omega arith) c.put_end.ensures)
    (ap hex_line (clause_frame_lem (arities_in tb) tb from n m c.min-conds.ensures c.min-alts.ensures))
