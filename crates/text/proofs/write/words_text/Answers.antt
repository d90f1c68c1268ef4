use Rattle.std.proofs.Common.{◌≡◌, string_bytes, ap, ◌∙◌, arith}
use Rattle.std.proofs.lemmas.Grind.{common_steps}
use Rattle.text.specs.Meaning.{meaning}
use Rattle.text.specs.Messages.{words_line}
use Rattle.text.proofs.ReadBack.{reads_back}
use Rattle.text.proofs.write.words_text.Goals as goal

pub returns-clause-reads_back : goal.returns-clause-reads_back
returns-clause-reads_back c =
    let line : string_bytes c.loop-word.text ≡ words_line c.args.words.now = grind (arith, common_steps) in
    ap meaning line ∙ reads_back c.args.words.now (λ i lt. c.loop-word.invariant.1 i (omega (arith, c.loop-word-test.false)))
