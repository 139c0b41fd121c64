use Rattle.std.proofs.Common.{sym}
use Rattle.fields.proofs.laws.text.CuttingLaws.{length-words_to}
use Rattle.fields.proofs.text.word_slice.WordSlice.len.Goals as goal

pub returns : goal.returns
returns c = sym (length-words_to c.args.self.bytes.now c.args.self.from c.args.self.ends.now)
