-- The two halves of words, and what a write or a copy of one over the other does.
use Rattle.std.proofs.Common.{◌≡◌, ℕ, ◌+◌, ◌-◌, ◌/◌, ◌<◌, List, ◌++◌, length, get_or, take, drop, set, ℤ, pos, sym, ap, ◌∙◌, zero-add, arith, length-drop, length-take}
use Rattle.std.proofs.lemmas.List.{append_assoc, drop_at, drop-drop, drop-set-lt, get_or-take, length-set, length-take-le, take_at, take-append-drop}
use Rattle.transactions.specs.Halves.{HasHalves, half, front, back, odd}
use Rattle.std.specs.List.{copy_within}
use lib.Seq.{paste, take-set-lt}

pub length-front : (ws : List ℤ) → length (front ws) ≡ half ws
length-front ws = length-take-le (half ws) ws (omega arith)

pub length-back : (ws : List ℤ) → length (back ws) ≡ half ws
length-back ws = simp (length-take, length-drop) (omega arith)

pub get_or-front : (ws : List ℤ) (i : ℕ) → i < half ws → get_or (front ws) i (pos 0) ≡ get_or ws i (pos 0)
get_or-front ws i h = get_or-take (half ws) ws i (pos 0) h

pub front-set : (ws : List ℤ) (i : ℕ) (v : ℤ) → i < half ws → front (set ws i v) ≡ set (front ws) i v
front-set ws i v h = rw length-set (take-set-lt (half ws) ws i v h)

pub back-set : (ws : List ℤ) (i : ℕ) (v : ℤ) → i < half ws → back (set ws i v) ≡ back ws
back-set ws i v h = simp length-set (ap (take (half ws)) (drop-set-lt (half ws) ws i v h))

pub odd-set : (ws : List ℤ) (i : ℕ) (v : ℤ) → i < half ws → odd (set ws i v) ≡ odd ws
odd-set ws i v h = let l : i < half ws + half ws = omega arith in rw length-set (drop-set-lt (half ws + half ws) ws i v l)

-- two lists of half the length, and what is left
halves_of : (ws a b c : List ℤ) → ws ≡ a ++ (b ++ c) → length a ≡ half ws → length b ≡ half ws → HasHalves ws a b c
halves_of ws a b c e p q =
    let d = ap (drop (half ws)) e ∙ drop_at a (b ++ c) (half ws) p in
    record {
      cells = ap (take (half ws)) e ∙ take_at a (b ++ c) (half ws) p;
      copy = ap (take (half ws)) d ∙ take_at b c (half ws) q;
      last = sym (drop-drop (half ws) (half ws) ws) ∙ ap (drop (half ws)) d ∙ drop_at b c (half ws) q;
    }

-- the cells are copied to the copy
pub copied : (ws ds : List ℤ) → length ds ≡ length ws → ds ≡ copy_within ws 0 (half ws) (half ws)
    → HasHalves ds (front ws) (front ws) (odd ws)
copied ws ds l p =
    let f = length-front ws ∙ ap (λ m. m / 2) (sym l) in
    let n : half ws - 0 ≡ half ws = omega arith in
    halves_of ds (front ws) (front ws) (odd ws)
    (p ∙ ap (paste ws (half ws) (drop 0 ws)) n ∙ append_assoc (front ws) (front ws) (odd ws)) f f

-- the copy is copied to the cells
pub restored : (ws ds : List ℤ) → length ds ≡ length ws → ds ≡ copy_within ws (half ws) (half ws + half ws) 0
    → HasHalves ds (back ws) (back ws) (odd ws)
restored ws ds l p =
    let f = length-back ws ∙ ap (λ m. m / 2) (sym l) in
    let n : half ws + half ws - half ws ≡ half ws = omega arith in
    let parted = sym (take-append-drop (half ws) (drop (half ws) ws)) ∙ ap (λ t. back ws ++ t) (drop-drop (half ws) (half ws) ws) in
    halves_of ds (back ws) (back ws) (odd ws)
    (p ∙ ap (paste ws 0 (drop (half ws) ws)) n ∙ ap (λ m. back ws ++ drop m ws) (zero-add (half ws)) ∙ ap (λ t. back ws ++ t) parted) f f

-- what the calls of a shadow store need
pub ruleset halves = (length-front, length-back, get_or-front, front-set, back-set, odd-set, copied, restored)
