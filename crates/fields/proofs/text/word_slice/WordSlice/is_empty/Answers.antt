use Rattle.std.proofs.Common.{rules}
use Rattle.fields.proofs.laws.text.CuttingLaws.{no_words}
use Rattle.fields.proofs.text.word_slice.WordSlice.is_empty.Goals as goal

pub returns : goal.returns
returns c = no_words c.args.self.bytes.now c.args.self.from c.args.self.ends.now c.is_empty.result (search rules)
