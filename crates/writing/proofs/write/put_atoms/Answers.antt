-- An atom more, and all of them.
use Rattle.std.proofs.Common.{ℕ, ◌+◌, ◌*◌, List, sym, arith}
use mathlib.Core.List.{flat_map}
use Rattle.lists.specs.Tabulate.{tabulate}
use Rattle.problem.specs.Digit.{hex_byte}
use Rattle.problem.specs.Layout.{atom_in, arities_in}
use Rattle.problem.specs.Print.{atom_bytes}
use Rattle.problem.specs.Problem.{Atom}
use Rattle.writing.proofs.WriteLaws.{put_as, puts_none, puts_more, puts_done}
use Rattle.lists.proofs.Member.{flat_flat}
use Rattle.writing.proofs.write.put_atoms.Goals as goal

abbrev digits_of : Atom → List ℕ
digits_of a = flat_map hex_byte (atom_bytes a)

abbrev atom_at : List ℕ → ℕ → ℕ → Atom
atom_at tb from i = atom_in (arities_in tb) tb (from + 6 * i)

pub loop-i-init : goal.loop-i-init
loop-i-init c = puts_none digits_of (atom_at c.args.table.now c.args.from) 8 c.args.out.now c.args.at

pub put_atom-next-requires : goal.put_atom-next-requires
put_atom-next-requires c = omega arith

pub loop-i-preserved : goal.loop-i-preserved
loop-i-preserved c =
    puts_more digits_of (atom_at c.args.table.now c.args.from) 8 c.loop-i.i c.loop-i.invariant (omega arith) c.put_atom-next.ensures

pub returns : goal.returns
returns c =
    let a = c.args in
    put_as
    (puts_done digits_of (atom_at a.table.now a.from) 8 c.loop-i.i a.count 32 c.loop-i.invariant (omega arith) (omega arith))
    (sym (flat_flat hex_byte atom_bytes (tabulate (atom_at a.table.now a.from) a.count)))
