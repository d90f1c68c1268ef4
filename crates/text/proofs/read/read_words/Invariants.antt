use Rattle.std.proofs.Common.{◌≡◌, ◌+◌, ◌≤◌, drop, vec_items}
use Rattle.text.specs.Meaning.{before, means, meaning}
use Rattle.text.proofs.read.read_words.Given as goal

-- the bytes so far gave words, and led to this line and this mode
abbrev pub invariant-loop-b : goal.invariant-loop-b
invariant-loop-b l = record {
  counted : l.line ≤ l.b-index + 1;
  rest : meaning l.text ≡ before (vec_items l.words) (means l.line l.mode (drop l.b-index l.text));
}
