use Rattle.std.proofs.Common.{arith, length}
use Rattle.fields.proofs.laws.text.CuttingLaws.{rise-at}
use Rattle.fields.proofs.text.word_slice.WordSlice.split_first.Goals as goal

pub slice_bounds-word-end : goal.slice_bounds-word-end
slice_bounds-word-end c = (rise-at c.args.self.from c.args.self.ends.now (length c.args.self.bytes.now) 0 (omega arith) c.args.self.rise).1
