-- What a store holds beside its cells, and where, as one value: that a call leaves it alone is then one equation.
-- Each store says of itself what it is, and it may be nothing.
use Rattle.std.specs.Prelude.{ℕ, List, ℤ}

pub data Beside : Type 0 where
  nothing : Beside
  a_number : ℕ → Beside → Beside
  some_bytes : List ℕ → Beside → Beside
  some_words : List ℤ → Beside → Beside
