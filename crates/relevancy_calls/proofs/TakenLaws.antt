-- What is known where a lent table is taken, or refused.
use Rattle.std.proofs.Common.{◌≡◌, ℕ, Bool, List, sym, ap, ◌∙◌, ◌||◌, length, arith}
use lib.Dec.{ltb}
use Rattle.writing.specs.terms.Lent.{refusal_of}
use Rattle.relevancy.proofs.EngineLaws.{AllTaken, unrefused}

module _ (tb answer work : List ℕ) (short : Bool) (is : short ≡ (ltb (length answer) 1024 || ltb (length work) 65536)) where
  pub all_taken : refusal_of tb short ≡ 0 → AllTaken tb answer work
  all_taken none = unrefused tb answer work 0 (sym none ∙ ap (refusal_of tb) is) (omega arith)

  pub refused_so : (e : ℕ) → e ≡ refusal_of tb short → e ≡ refusal_of tb (ltb (length answer) 1024 || ltb (length work) 65536)
  refused_so e said = said ∙ ap (refusal_of tb) is
