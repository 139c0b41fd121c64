use Rattle.std.proofs.Common.{◌<◌, length, arith, rules}
use Rattle.fields.proofs.laws.text.CuttingLaws.{length-words_to, rise-at, words_to-at}
use Rattle.fields.proofs.text.word_slice.WordSlice.get.Goals as goal

pub start_of-requires : goal.start_of-requires
start_of-requires c = omega (arith, c.requires, length-words_to c.args.self.bytes.now c.args.self.from c.args.self.ends.now)

pub offset_bounds-self-place : goal.offset_bounds-self-place
offset_bounds-self-place c =
    let within : c.args.place < length c.args.self.ends.now = omega (arith, c.requires, length-words_to c.args.self.bytes.now c.args.self.from c.args.self.ends.now) in
    search rules

pub bounds-self-place : goal.bounds-self-place
bounds-self-place c = omega (arith, c.requires, length-words_to c.args.self.bytes.now c.args.self.from c.args.self.ends.now)

pub slice_bounds-result-count : goal.slice_bounds-result-count
slice_bounds-result-count c =
    let within : c.args.place < length c.args.self.ends.now = omega (arith, c.requires, length-words_to c.args.self.bytes.now c.args.self.from c.args.self.ends.now) in
    let at = rise-at c.args.self.from c.args.self.ends.now (length c.args.self.bytes.now) c.args.place within c.args.self.rise in
    omega (arith, at.0, at.1, c.start_of.ensures)

pub slice_bounds-result-start : goal.slice_bounds-result-start
slice_bounds-result-start c =
    let within : c.args.place < length c.args.self.ends.now = omega (arith, c.requires, length-words_to c.args.self.bytes.now c.args.self.from c.args.self.ends.now) in
    let at = rise-at c.args.self.from c.args.self.ends.now (length c.args.self.bytes.now) c.args.place within c.args.self.rise in
    omega (arith, at.0, at.1, c.start_of.ensures)

pub slice_bounds-result-end : goal.slice_bounds-result-end
slice_bounds-result-end c =
    let within : c.args.place < length c.args.self.ends.now = omega (arith, c.requires, length-words_to c.args.self.bytes.now c.args.self.from c.args.self.ends.now) in
    let at = rise-at c.args.self.from c.args.self.ends.now (length c.args.self.bytes.now) c.args.place within c.args.self.rise in
    omega (arith, at.0, at.1, c.start_of.ensures)

pub returns : goal.returns
returns c =
    let within : c.args.place < length c.args.self.ends.now = omega (arith, c.requires, length-words_to c.args.self.bytes.now c.args.self.from c.args.self.ends.now) in
    rw c.start_of.ensures (words_to-at c.args.self.bytes.now c.args.self.from c.args.self.ends.now c.args.place within)
