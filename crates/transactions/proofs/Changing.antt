-- What one more change does.
use Rattle.std.proofs.Common.{◌≡◌, ℕ, zero, suc, ◌<◌, ◌≤◌, List, length, ℤ, refl, ◌∙◌, inl, inr, ⊎_elim, arith, below_more}
use Rattle.stores.specs.Meaning.{Unwritable}
use Rattle.stores.specs.declared.fault.StoreFault.{StoreFault}
use Rattle.std.proofs.lemmas.List.{length-set}
use Rattle.transactions.specs.Changes.{Unchangeable, Within, change_at, changed}
use Rattle.transactions.specs.declared.change.Change.{Change}

pub length-changed : (cs : List ℤ) (changes : List Change) (k : ℕ) → length (changed cs changes k) ≡ length cs
length-changed cs changes zero = refl
length-changed cs changes (suc k) = length-set _ _ _ ∙ length-changed cs changes k

-- the change at k is refused in a transaction with k writes
pub refused_at : (n : ℕ) (cs : List ℤ) (changes : List Change) (k : ℕ) (e : StoreFault) → length cs ≡ n → k ≤ 256 → k < length changes
    → Within n changes k → Unwritable cs k (change_at changes k).cell e → Unchangeable n changes e
refused_at n cs changes k e l h m w u =
    ⊎_elim
    (λ a. inl (a.1, (k, m, omega arith, omega (arith, a.0))))
    (λ b.
    let here : (change_at changes k).cell < n = omega (arith, b.0) in
    let v = below_more (λ j. (change_at changes j).cell < n) k w here in
    inr (b.2, omega (arith, b.1), λ j h. v j (omega (arith, b.1))))
    u

-- what a run of changes needs
pub ruleset changing = (length-changed, refused_at)
