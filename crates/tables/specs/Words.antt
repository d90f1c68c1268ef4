-- The words of a model: six sizes, then the array of codes and the array of args. A row is a code and the arg with the same number.
use Rattle.std.specs.Prelude.{◌≡◌, ℕ, ◌+◌, ◌*◌, ◌≤◌, List, [], ◌∷◌, length, ℤ, pos, negsuc, ◌≤ℤ◌, slice_index_or}
use Rattle.tables.specs.declared.ends.Ends.{Ends}
use Rattle.tables.specs.Rows.{Rows, whole}

abbrev pub word : List ℤ → ℕ → ℤ
word ws i = slice_index_or ws i (pos 0)

abbrev pub size : List ℤ → ℕ → ℕ
size ws i = whole (word ws i)

-- the number of rows that the sizes add up to
abbrev pub row_count : List ℤ → ℕ
row_count ws = size ws 0 + size ws 1 + size ws 2 + size ws 3 + size ws 4 + size ws 5

-- the rows that words hold
unfoldable pub rows_of : List ℤ → Rows
rows_of ws = record {
  types = size ws 0;
  variables = size ws 0 + size ws 1;
  ports = size ws 0 + size ws 1 + size ws 2;
  expressions = size ws 0 + size ws 1 + size ws 2 + size ws 3;
  statements = size ws 0 + size ws 1 + size ws 2 + size ws 3 + size ws 4;
  total = row_count ws;
  code = λ r. word ws (6 + r);
  arg = λ r. word ws (6 + row_count ws + r);
}

-- a size is not negative, and within its limit
abbrev pub Limited : List ℤ → ℕ → ℕ → Type 0
Limited ws i most = (pos 0 ≤ℤ word ws i) × (size ws i ≤ most)

-- the sizes are right, and the words are as many as they say
pub record Sized (ws : List ℤ) : Type 0 where
  pub six : 6 ≤ length ws
  pub types : Limited ws 0 64
  pub variables : Limited ws 1 256
  pub ports : Limited ws 2 32
  pub expressions : Limited ws 3 2048
  pub statements : Limited ws 4 1024
  pub states : Limited ws 5 128
  pub inhabited : 1 ≤ size ws 5
  pub exact : length ws ≡ 6 + 2 * row_count ws

-- the ends of the sections, as the sizes give them
pub record Laid (ws : List ℤ) (e : Ends) : Type 0 where
  pub types : e.types ≡ (rows_of ws).types
  pub variables : e.variables ≡ (rows_of ws).variables
  pub ports : e.ports ≡ (rows_of ws).ports
  pub expressions : e.expressions ≡ (rows_of ws).expressions
  pub statements : e.statements ≡ (rows_of ws).statements
  pub total : e.total ≡ (rows_of ws).total

-- the words of the idle model: one state, without a transition
abbrev pub idle_words : List ℤ
idle_words = pos 0 ∷ pos 0 ∷ pos 0 ∷ pos 0 ∷ pos 0 ∷ pos 1 ∷ pos 48 ∷ negsuc 0 ∷ []
