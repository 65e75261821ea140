-- The claims of `specs/Claims.antt`, proved.
use Prim.Native.Nat.{ℕ}
use mathlib.Core.Bool.{true}
use mathlib.Core.List.{List}
use mathlib.Core.Path.{◌≡◌, refl, sym, ap, subst, ◌∙◌}
use lib.Dec.{T}
use Rattle.lists.specs.Bytes.{same_list, same_equal, same_refl}
use Rattle.problem.specs.Problem.{Problem, Fits}
use Rattle.problem.specs.Parse.{Parsed, refused, parsed, parse}
use Rattle.problem.specs.Layout.{layout, problem_in}
use Rattle.problem.specs.Print.{text_of, print}
use Rattle.problem.specs.Table.{Valid, Lawful, reads_to, is_valid}
use Rattle.problem.specs.Claims.{Theorems}
use Rattle.problem.proofs.Parse.{parse_text, parse-Fits}
use Rattle.problem.proofs.Accepted.{parse_accepts}
use Rattle.problem.proofs.Refusals.{parse_refuses}
use Rattle.problem.proofs.Next.{next_kind, next_full, next_longer, text_longer, next_line, next_clause, left_over}
use Rattle.problem.proofs.Cases.{refusals_hold}
use Rattle.problem.proofs.TableLayout.{layout-length, problem_back}

pub print_back : (x : List ℕ) (q : Problem) → parse x ≡ parsed q → print (layout q) ≡ x
unfolding print
print_back x q e = ap text_of (problem_back q (parse-Fits x q e)) ∙ parse_text x q e

pub read_apart : (x y : List ℕ) (q r : Problem) → parse x ≡ parsed q → parse y ≡ parsed r → layout q ≡ layout r → x ≡ y
read_apart x y q r e f s = sym (print_back x q e) ∙ ap print s ∙ print_back y r f

pub valid_from : (tb : List ℕ) → T (is_valid tb) → Valid tb
unfolding is_valid
valid_from tb t = go (parse (print tb)) refl t
  where
    go : (o : Parsed) → parse (print tb) ≡ o → T (reads_to o tb) → Valid tb
    go (refused e line) q u = absurd u
    go (parsed p) q u = record { text = print tb; problem = p; accepted = q; bytes = same_equal (layout p) tb u }

pub Valid-Lawful : (tb : List ℕ) → Valid tb → Lawful tb
Valid-Lawful tb v =
    let fits = parse-Fits v.text v.problem v.accepted in
    let back : problem_in tb ≡ v.problem = ap problem_in (sym v.bytes) ∙ problem_back v.problem fits in
    record { fits = subst Fits (sym back) fits; laid = ap layout back ∙ v.bytes }

pub valid_to : (tb : List ℕ) → Valid tb → T (is_valid tb)
unfolding is_valid
valid_to tb v =
    let back : print tb ≡ v.text = ap print (sym v.bytes) ∙ print_back v.text v.problem v.accepted in
    subst (λ (o : Parsed). T (reads_to o tb)) (sym (ap parse back ∙ v.accepted)) (subst (λ (b : List ℕ). T (same_list (layout v.problem) b)) v.bytes (same_refl (layout v.problem)))

pub valid_table : (tb : List ℕ) → is_valid tb ≡ true → Lawful tb
valid_table tb e = Valid-Lawful tb (valid_from tb (subst T (sym e) tt))

pub theorems : Theorems
theorems =
    record {
      accepted = λ x q. (λ e. (parse-Fits x q e, parse_text x q e), λ r. ap parse (sym r.1) ∙ parse_accepts q r.0);
      refusals = parse_refuses;
      refusals_hold = refusals_hold;
      table_length = layout-length;
      problem_back = problem_back;
      valid = λ tb. (valid_from tb, valid_to tb);
      lawful = Valid-Lawful;
      next_line = next_line;
      next_clause = λ q f v fits found. next_clause q f v found fits;
      next_kind = next_kind;
      next_full = next_full;
      next_longer = next_longer;
      left_over = λ q f bs b v found. left_over q f v found bs b;
      text_longer = text_longer;
    }
