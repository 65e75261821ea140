use Rattle.std.proofs.Common.{◌≡◌, ◌^◌, suc, ◌*◌, ◌≤◌, sym, ap, ◌∙◌, arith}
use Rattle.std.proofs.Math.Nat.{pow-suc}
use Rattle.lists.proofs.Digits.{power_le}
use Rattle.powers.proofs.power.Goals as goal

-- at most 32 to the power 4
pub overflow_mul-product : goal.overflow_mul-product
overflow_mul-product c =
    let l = c.loop in
    let more : l.product * c.args.c ≡ c.args.c ^ suc l.counter = ap (λ m. m * c.args.c) l.invariant ∙ sym (pow-suc c.args.c l.counter) in
    let most : c.args.c ^ suc l.counter ≤ 1048576 = power_le {d = 32} {n = 4} (omega arith) (omega arith) (omega arith) in
    omega (arith, more, most)
