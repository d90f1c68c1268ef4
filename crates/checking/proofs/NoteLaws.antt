-- Notes, row by row.
use Rattle.std.proofs.Common.{◌≡◌, ℕ, ◌+◌, ◌<◌, ◌≢◌, Bool, true, false, cond, List, length, set, refl, ap, ◌∙◌, arith, length-set, get_or-set_other, get_or-set_same, below_more}
use Rattle.tables.specs.Rows.{Rows}
use Rattle.std.specs.Int.{from_bool}
use Rattle.tables.specs.Cells.{communicates}
use Rattle.checking.specs.Verdict.{Noted}

is_note : (b : Bool) → from_bool b ≡ cond b 1 0
is_note true = refl
is_note false = refl

-- one more note
pub noted_more : (m : Rows) (r : ℕ) (b : Bool) (before after : List ℕ) → Noted m r before after → r < length after → b ≡ communicates m r → Noted m (r + 1) before (set after r (from_bool b))
noted_more m r b before after n h e = record {
  as_long = simp length-set n.as_long;
  written = below_more _ _ (λ k l. let ne : k ≢ r = omega arith in rw get_or-set_other (n.written k l)) (rw get_or-set_same (is_note b ∙ ap (λ c. cond c 1 0) e));
  stays = λ k l. let ne : k ≢ r = omega arith in rw get_or-set_other (n.stays k (omega arith));
}
