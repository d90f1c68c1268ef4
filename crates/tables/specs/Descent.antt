-- Definitions that go down the rows: what stands at a row is made from what stands at smaller rows.
use Rattle.std.specs.Prelude.{ℕ, zero, suc, cond, nat_lt}

-- what f gives at rows below r, and `none` at others
abbrev pub below : {A : Type 0} → A → ℕ → (ℕ → A) → ℕ → A
below none r f q = cond (nat_lt q r) (f q) none

-- the same as `descend`, going at most so many rows down
unfoldable pub descend_in : {A : Type 0} → (ℕ → (ℕ → A) → A) → A → ℕ → ℕ → A
descend_in step none zero r = step r (λ q. none)
descend_in step none (suc k) r = step r (below none r (descend_in step none k))

-- what `step` makes at row r of what it has made below r. Each smaller row is one of r, so that r rows down are enough
unfoldable pub descend : {A : Type 0} → (ℕ → (ℕ → A) → A) → A → ℕ → A
descend step none r = descend_in step none r r
