-- "Where an answer is an enum, a definition sets out this paper's number and values for each of its cases": each enum's crate does so in these terms.
use Rattle.std.specs.Prelude.{ℕ}

-- a refusal's number, 0 where nothing is refused; the number of what is answered; a clause that it names; and the value that goes with it
pub record Numbers : Type 0 where
  pub refusal : ℕ
  pub number : ℕ
  pub clause : ℕ
  pub value : ℕ

-- refused, at a line of the text
abbrev pub refused_at : ℕ → ℕ → Numbers
refused_at e line = record { refusal = e; number = 0; clause = 0; value = line }

-- refused, with no line
abbrev pub refused_as : ℕ → Numbers
refused_as e = refused_at e 0

abbrev pub answered : ℕ → ℕ → Numbers
answered number value = record { refusal = 0; number = number; clause = 0; value = value }
