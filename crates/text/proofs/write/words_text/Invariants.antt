use Rattle.std.proofs.Common.{◌≡◌, ℕ, ◌<◌, get_or, take, pos, string_bytes}
use lib.Signed.{mag}
use Rattle.text.specs.Messages.{words_line}
use Rattle.text.proofs.write.words_text.Given as goal

abbrev pub invariant-loop-word : goal.invariant-loop-word
invariant-loop-word l = (string_bytes l.text ≡ words_line (take l.word-index l.words)) × ((k : ℕ) → k < l.word-index → mag (get_or l.words k (pos 0)) < 2147483648)
