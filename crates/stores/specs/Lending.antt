-- What a store is laid on.
use Rattle.std.specs.Prelude.{◌≡◌}
use Rattle.std.specs.Borrow.{MutBor}

-- r holds what was lent by m, and gives it back to the same lender
abbrev pub IsLent : {T : Type 0} → MutBor T → MutBor T → Type 0
IsLent m r = (r.now ≡ m.now) × (r.ghost_name ≡ m.ghost_name)
