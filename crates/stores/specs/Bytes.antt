-- Cells laid into bytes in little-endian order: each four bytes make one.
use Rattle.std.specs.Prelude.{ℕ, ◌+◌, ◌*◌, ◌/◌, ◌%◌, List, map, length, drop, set, ℤ, slice_index, slice_set}
use Rattle.std.specs.List.{range_with_len}
use Rattle.std.specs.Int.{w32}
use Rattle.std.proofs.Common.{of_z, to_z}

-- the cell that four bytes make: to_z reads 32 bits as a signed number
abbrev pub cell_of : ℕ → ℕ → ℕ → ℕ → ℤ
cell_of a b c d = to_z w32 (a + b * 256 + c * 65536 + d * 16777216)

-- the cell at i
abbrev pub cell_at : List ℕ → ℕ → ℤ
cell_at bs i = cell_of (slice_index bs (4 * i)) (slice_index bs (4 * i + 1)) (slice_index bs (4 * i + 2)) (slice_index bs (4 * i + 3))

-- the cells in bytes: spare bytes at the end are in none
abbrev pub cells_of : List ℕ → List ℤ
cells_of bs = map (cell_at bs) (range_with_len 0 (length bs / 4))

-- the bytes past the last cell
abbrev pub spare : List ℕ → List ℕ
spare bs = drop (4 * (length bs / 4)) bs

-- the bytes with v at cell i: of_z gives the 32 bits of a signed number
abbrev pub put : List ℕ → ℕ → ℤ → List ℕ
put bs i v =
    set (slice_set (slice_set (slice_set bs (4 * i) (of_z w32 v % 256)) (4 * i + 1) (of_z w32 v / 256 % 256)) (4 * i + 2) (of_z w32 v / 65536 % 256))
    (4 * i + 3) (of_z w32 v / 16777216 % 256)
