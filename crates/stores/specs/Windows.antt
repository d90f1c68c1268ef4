-- The cells that a window shows, and those that it does not.
use Rattle.std.specs.Prelude.{◌≡◌, ℕ, ◌+◌, ◌<◌, ◌≤◌, List, length, take, drop, ℤ, Result, MatchResult}
use Rattle.stores.specs.declared.fault.StoreFault.{StoreFault}
use Rattle.stores.specs.declared.fault.StoreFault.TheVariants.{NoCell}

-- count cells from first on
abbrev pub shown : ℕ → ℕ → List ℤ → List ℤ
shown first count cs = take count (drop first cs)

-- the cells before those
abbrev pub ahead : ℕ → List ℤ → List ℤ
ahead first cs = take first cs

-- the cells after those
abbrev pub behind : ℕ → ℕ → List ℤ → List ℤ
behind first count cs = drop (first + count) cs

-- there are count cells from first on
abbrev pub HasWindow : ℕ → ℕ → List ℤ → Type 0
HasWindow first count cs = first + count ≤ length cs

-- the ends of a window pass the cells
abbrev pub PassesEnd : ℕ → ℕ → List ℤ → Type 0
PassesEnd first count cs = length cs < first + count

-- r answers where the cell stands that a window shows as i
abbrev pub Places : ℕ → ℕ → List ℤ → ℕ → Result ℕ StoreFault → Type 0
Places first count cs i r =
    MatchResult r
    (λ p. (p ≡ first + i) × (i < length (shown first count cs)))
    (λ e. (e ≡ NoCell) × (length (shown first count cs) ≤ i))
