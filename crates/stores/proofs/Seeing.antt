-- A window's calls, from those of the store below it.
use Rattle.std.proofs.Common.{◌≡◌, ℕ, ◌+◌, ◌-◌, ◌<◌, ◌≤◌, min, List, ◌++◌, length, take, drop, set, ℤ, sym, ap, ◌∙◌, arith}
use Rattle.std.proofs.lemmas.List.{length-take, length-drop, drop-set-add, drop-set-lt, take-set-le, take-append-drop, drop-drop}
use Rattle.stores.specs.Windows.{ahead, behind, shown}
use lib.Seq.{take-set-lt}

pub length-shown : (f n : ℕ) (cs : List ℤ) → length (shown f n cs) ≡ min n (length cs - f)
length-shown f n cs = simp (length-take, length-drop)

-- what a window shows and what it does not show are all cells
pub parted : (f n : ℕ) (cs : List ℤ) → cs ≡ ahead f cs ++ (shown f n cs ++ behind f n cs)
parted f n cs =
    sym (take-append-drop f cs)
    ∙ ap (λ t. take f cs ++ t) (sym (take-append-drop n (drop f cs)) ∙ ap (λ t. take n (drop f cs) ++ t) (drop-drop n f cs))

pub window_same : (f n : ℕ) (cs ds : List ℤ) → ahead f ds ≡ ahead f cs → behind f n ds ≡ behind f n cs → shown f n ds ≡ shown f n cs → ds ≡ cs
window_same f n cs ds a b s = parted f n ds ∙ rw (a, b, s) (sym (parted f n cs))

-- a write to what a window shows is a write to the cells
pub shown_set : (f n i : ℕ) (cs : List ℤ) (v : ℤ) → i < n → shown f n (set cs (f + i) v) ≡ set (shown f n cs) i v
shown_set f n i cs v h = grind (arith, drop-set-add, take-set-lt)

pub ahead_set : (f i : ℕ) (cs : List ℤ) (v : ℤ) → ahead f (set cs (f + i) v) ≡ ahead f cs
ahead_set f i cs v = let a : f ≤ f + i = omega arith in rw take-set-le

pub behind_set : (f n i : ℕ) (cs : List ℤ) (v : ℤ) → i < n → behind f n (set cs (f + i) v) ≡ behind f n cs
behind_set f n i cs v h = let b : f + i < f + n = omega arith in rw drop-set-lt

pub window_both : (f n i j : ℕ) (cs ds : List ℤ) (v w : ℤ) → i < n → j < n → ahead f ds ≡ ahead f cs → behind f n ds ≡ behind f n cs
    → shown f n ds ≡ set (set (shown f n cs) i v) j w → ds ≡ set (set cs (f + i) v) (f + j) w
window_both f n i j cs ds v w hi hj a b s =
    window_same f n (set (set cs (f + i) v) (f + j) w) ds (grind (arith, ahead_set)) (grind (arith, behind_set)) (grind (arith, shown_set))

-- what the calls of a window need
pub ruleset seeing = (length-shown, shown_set)
