use Rattle.std.proofs.Common.{◌≡◌, take, string_bytes}
use Rattle.text.specs.Messages.{notes_line}
use Rattle.text.proofs.verdict.notes.Given as goal

abbrev pub invariant-loop-note : goal.invariant-loop-note
invariant-loop-note l = string_bytes l.line ≡ notes_line (take l.note-index l.notes)
