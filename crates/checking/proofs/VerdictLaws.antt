-- Words have at most one first fault, so that a fault that is shown is the one that the check tells.
use Rattle.std.proofs.Common.{◌≡◌, ℕ, ◌<◌, ◌≤◌, List, ℤ, Ok, Err, Result, sym, refl, ap, subst, inl, inr, arith}
use Rattle.std.proofs.lemmas.Bool.{cases_lt}
use Rattle.tables.specs.declared.rule.Rule.{Rule}
use Rattle.tables.specs.declared.rule.Rule.TheVariants.{Shape, Naming, Extent, Typing, Statement, Communication, Chain}
use Rattle.tables.specs.Words.{rows_of}
use Rattle.tables.specs.Rules.{All, First, Obeys}
use Rattle.checking.specs.declared.fault.CheckFault.{CheckFault}
use Rattle.checking.specs.declared.fault.CheckFault.TheVariants.{Sizes, Notes, Row}
use Rattle.checking.specs.Verdict.{WellFormed, Faulty, Verdict, Exactly}

module _ (P : Rule → Type 0) where
  not_all : (n : Rule) → All P → First P n → ⊥
  not_all Shape a f = f a.0
  not_all Naming a f = f.1 a.1
  not_all Extent a f = f.2 a.2
  not_all Typing a f = f.3 a.3
  not_all Statement a f = f.4 a.4
  not_all Communication a f = f.5 a.5
  not_all Chain a f = f.6 a.6

  same_first : (n k : Rule) → First P n → First P k → n ≡ k
  same_first Shape Shape f g = refl
  same_first Shape Naming f g = absurd (f g.0)
  same_first Shape Extent f g = absurd (f g.0)
  same_first Shape Typing f g = absurd (f g.0)
  same_first Shape Statement f g = absurd (f g.0)
  same_first Shape Communication f g = absurd (f g.0)
  same_first Shape Chain f g = absurd (f g.0)
  same_first Naming Shape f g = absurd (g f.0)
  same_first Naming Naming f g = refl
  same_first Naming Extent f g = absurd (f.1 g.1)
  same_first Naming Typing f g = absurd (f.1 g.1)
  same_first Naming Statement f g = absurd (f.1 g.1)
  same_first Naming Communication f g = absurd (f.1 g.1)
  same_first Naming Chain f g = absurd (f.1 g.1)
  same_first Extent Shape f g = absurd (g f.0)
  same_first Extent Naming f g = absurd (g.1 f.1)
  same_first Extent Extent f g = refl
  same_first Extent Typing f g = absurd (f.2 g.2)
  same_first Extent Statement f g = absurd (f.2 g.2)
  same_first Extent Communication f g = absurd (f.2 g.2)
  same_first Extent Chain f g = absurd (f.2 g.2)
  same_first Typing Shape f g = absurd (g f.0)
  same_first Typing Naming f g = absurd (g.1 f.1)
  same_first Typing Extent f g = absurd (g.2 f.2)
  same_first Typing Typing f g = refl
  same_first Typing Statement f g = absurd (f.3 g.3)
  same_first Typing Communication f g = absurd (f.3 g.3)
  same_first Typing Chain f g = absurd (f.3 g.3)
  same_first Statement Shape f g = absurd (g f.0)
  same_first Statement Naming f g = absurd (g.1 f.1)
  same_first Statement Extent f g = absurd (g.2 f.2)
  same_first Statement Typing f g = absurd (g.3 f.3)
  same_first Statement Statement f g = refl
  same_first Statement Communication f g = absurd (f.4 g.4)
  same_first Statement Chain f g = absurd (f.4 g.4)
  same_first Communication Shape f g = absurd (g f.0)
  same_first Communication Naming f g = absurd (g.1 f.1)
  same_first Communication Extent f g = absurd (g.2 f.2)
  same_first Communication Typing f g = absurd (g.3 f.3)
  same_first Communication Statement f g = absurd (g.4 f.4)
  same_first Communication Communication f g = refl
  same_first Communication Chain f g = absurd (f.5 g.5)
  same_first Chain Shape f g = absurd (g f.0)
  same_first Chain Naming f g = absurd (g.1 f.1)
  same_first Chain Extent f g = absurd (g.2 f.2)
  same_first Chain Typing f g = absurd (g.3 f.3)
  same_first Chain Statement f g = absurd (g.4 f.4)
  same_first Chain Communication f g = absurd (g.5 f.5)
  same_first Chain Chain f g = refl

module _ (ws : List ℤ) (notes : ℕ) where
  -- a row below the first broken one is good
  not_lower : (r q : ℕ) (n k : Rule) → Faulty ws notes (Row r n) → Faulty ws notes (Row q k) → q < r → ⊥
  not_lower r q n k f g l = not_all (λ i. Obeys i (rows_of ws) q) k (f.2.good q l) g.2.breaks

  same_row : (r q : ℕ) (n k : Rule) → Faulty ws notes (Row r n) → Faulty ws notes (Row q k) → r ≡ q
  same_row r q n k f g =
      elim (cases_lt r q) [
        | inl l ↦ absurd (not_lower q r k n g f l)
        | inr m ↦ elim (cases_lt q r) [ inl l ↦ absurd (not_lower r q n k f g l) | inr l ↦ omega arith ]
      ]

  pub same_fault : (a b : CheckFault) → Faulty ws notes a → Faulty ws notes b → a ≡ b
  same_fault Sizes Sizes f g = refl
  same_fault Sizes Notes f g = absurd (f g.0)
  same_fault Sizes (Row q k) f g = absurd (f g.0)
  same_fault Notes Sizes f g = absurd (g f.0)
  same_fault Notes Notes f g = refl
  same_fault Notes (Row q k) f g = absurd (omega arith)
  same_fault (Row r n) Sizes f g = absurd (g f.0)
  same_fault (Row r n) Notes f g = absurd (omega arith)
  same_fault (Row r n) (Row q k) f g =
      let e = same_row r q n k f g in
      let s = same_first (λ i. Obeys i (rows_of ws) r) n k f.2.breaks (subst (λ (x : ℕ). First (λ i. Obeys i (rows_of ws) x) k) (sym e) g.2.breaks) in cc

  -- well-formed words with notes enough have no fault
  no_fault : (f : CheckFault) → WellFormed ws → (rows_of ws).total ≤ notes → Faulty ws notes f → ⊥
  no_fault Sizes w l g = g w.sized
  no_fault Notes w l g = omega arith
  no_fault (Row r n) w l g = not_all (λ i. Obeys i (rows_of ws) r) n (w.rows r g.2.inside) g.2.breaks

  -- a verdict that is right is the only one that is
  pub exactly : (o : Result (Unit {0}) CheckFault) → Verdict ws notes o → Exactly ws notes o
  exactly (Ok x) v = record { accepts = λ w l. refl; refuses = λ f g. absurd (no_fault f v.0 v.1 g) }
  exactly (Err h) v = record { accepts = λ w l. absurd (no_fault h w l v); refuses = λ f g. ap (λ x. Err x) (same_fault h f v g) }
