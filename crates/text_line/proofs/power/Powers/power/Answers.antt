-- The entry looked up is c to the power k, by the rule of the table.
use Rattle.std.proofs.Common.{◌≡◌, ℕ, ◌+◌, ◌*◌, ◌^◌, ◌≤◌, List, get_or, ap, subst, sym, ◌∙◌, arith}
use Rattle.lists.specs.Powers.{powers}
use Rattle.lists.proofs.Digits.{power_le}
use Rattle.lists.proofs.Theorems.{theorems}
use Rattle.text_line.proofs.power.Powers.power.Goals as goal

looked_up : (xs : List ℕ) (c k : ℕ) → xs ≡ powers → (c ≤ 32) × (k ≤ 4) → (get_or xs (5 * c + k) 0 ≡ c ^ k) × (get_or xs (5 * c + k) 0 ≤ 1048576)
looked_up xs c k e h =
    let r : get_or xs (5 * c + k) 0 ≡ c ^ k = ap (λ (ys : List ℕ). get_or ys (5 * c + k) 0) e ∙ theorems.powers_rule c k h.0 h.1 in
    (r, subst (λ (n : ℕ). n ≤ 1048576) (sym r) (power_le {d = 32} {n = 4} (omega arith) h.0 h.1))

pub returns : goal.returns
returns c = looked_up c.args.self.now.table c.args.c c.args.k c.args.self.now.listed c.requires
