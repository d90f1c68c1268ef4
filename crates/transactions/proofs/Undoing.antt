-- What one entry more or less does to an undo log.
use Rattle.std.proofs.Common.{◌≡◌, ℕ, ◌+◌, ◌<◌, List, [], ◌∷◌, ◌++◌, get_or, length, set, take, ℤ, pos, refl, ap}
use Rattle.std.proofs.lemmas.List.{length-set, set-get_or, set-set, take_more_set}
use Rattle.transactions.specs.Undo.{undone}
use Rattle.transactions.specs.declared.change.Change.{Change}

-- the last entry is put back first
pub undone-append : (log : List Change) (x : Change) (cs : List ℤ) → undone (log ++ x ∷ []) cs ≡ undone log (set cs x.cell x.value)
undone-append [] x cs = refl
undone-append (y ∷ log) x cs = ap (λ ds. set ds y.cell y.value) (undone-append log x cs)

-- a write with the old value noted is undone
pub undone-noted : (n : ℕ) (log : List Change) (i : ℕ) (v old : ℤ) (cs ds : List ℤ) → n < length log → old ≡ get_or cs i (pos 0)
    → ds ≡ set cs i v → undone (take (n + 1) (set log n (record { cell = i; value = old }))) ds ≡ undone (take n log) cs
undone-noted n log i v old cs ds h p q = rw (p, q, take_more_set, undone-append, set-set, set-get_or) refl

-- what a write of a journal needs
pub ruleset noting = (undone-noted, length-set)

-- what a rollback of a journal needs
pub ruleset undoing = (undone-append, length-set)
