-- What a descent gives at a row, from what it gives below.
use Rattle.std.proofs.Common.{◌≡◌, ℕ, zero, suc, ◌<◌, ◌≤◌, Bool, true, false, cond, ltb, sym, refl, ap, arith}
use Rattle.std.proofs.lemmas.Bool.Decides.{nat_tests}
use Rattle.tables.specs.Descent.{below, descend_in, descend}

module _ {A : Type 0} (step : ℕ → (ℕ → A) → A) (none : A) where
  -- functions that are equal below r are the same to a step at r
  alike : (r : ℕ) (f g : ℕ → A) → ((q : ℕ) → q < r → f q ≡ g q) → (q : ℕ) → below none r f q ≡ below none r g q
  alike r f g e q = choose (ltb q r) refl
    where
      choose : (b : Bool) → ltb q r ≡ b → cond b (f q) none ≡ cond b (g q) none
      choose true h = e q (grind (arith, nat_tests))
      choose false h = refl

  nothing : (r : ℕ) (f : ℕ → A) → r ≤ 0 → (q : ℕ) → below none r f q ≡ none
  nothing r f h q = let n : ltb q r ≡ false = grind (arith, nat_tests) in rw n

  -- going further down changes nothing
  same : (k k' r : ℕ) → r ≤ k → r ≤ k' → descend_in step none k r ≡ descend_in step none k' r
  unfolding descend_in
  same zero zero r h h' = refl
  same zero (suc k') r h h' = ap (step r) (λ i q. sym (nothing r (descend_in step none k') h q) i)
  same (suc k) zero r h h' = ap (step r) (λ i q. nothing r (descend_in step none k) h' q i)
  same (suc k) (suc k') r h h' =
      ap (step r) (λ i q. alike r (descend_in step none k) (descend_in step none k') (λ p l. same k k' p (omega arith) (omega arith)) q i)

  pub descend_is : (r : ℕ) → descend step none r ≡ step r (below none r (descend step none))
  unfolding descend descend_in
  descend_is zero = ap (step 0) (λ i q. sym (nothing 0 (descend step none) (omega arith) q) i)
  descend_is (suc k) =
      ap (step (suc k)) (λ i q. alike (suc k) (descend_in step none k) (descend step none) (λ p l. same k p p (omega arith) (omega arith)) q i)

-- a smaller row is below
pub below_at : {A : Type 0} (none : A) (r q : ℕ) (f : ℕ → A) → q < r → below none r f q ≡ f q
below_at none r q f l = let t : ltb q r ≡ true = grind (arith, nat_tests) in rw t
