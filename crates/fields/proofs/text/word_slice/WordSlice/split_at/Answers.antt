use Rattle.std.proofs.Common.{◌≤◌, length, arith, rules, sym}
use Rattle.std.proofs.lemmas.List.{take_rest, length-take-le}
use Rattle.fields.proofs.laws.text.CuttingLaws.{length-words_to, rise-take, rise-drop, words_to-take, words_to-drop}
use Rattle.fields.proofs.text.word_slice.WordSlice.split_at.Goals as goal

pub slice_bounds-first-end : goal.slice_bounds-first-end
slice_bounds-first-end c = sym (length-take-le c.args.count c.args.self.ends.now (omega (arith, c.requires, length-words_to c.args.self.bytes.now c.args.self.from c.args.self.ends.now)))

pub start_of-requires : goal.start_of-requires
start_of-requires c = omega (arith, c.requires, length-words_to c.args.self.bytes.now c.args.self.from c.args.self.ends.now)

pub offset_bounds-self-count : goal.offset_bounds-self-count
offset_bounds-self-count c =
    let within : c.args.count ≤ length c.args.self.ends.now = omega (arith, c.requires, length-words_to c.args.self.bytes.now c.args.self.from c.args.self.ends.now) in
    search rules

pub slice_bounds-after-count : goal.slice_bounds-after-count
slice_bounds-after-count c = omega (arith, c.requires, length-words_to c.args.self.bytes.now c.args.self.from c.args.self.ends.now)

pub slice_bounds-after-start : goal.slice_bounds-after-start
slice_bounds-after-start c = omega (arith, c.requires, length-words_to c.args.self.bytes.now c.args.self.from c.args.self.ends.now)

pub invariant_of-first : goal.invariant_of-first
invariant_of-first c = record { rise = rise-take c.args.self.from c.args.self.ends.now (length c.args.self.bytes.now) c.args.count c.args.self.rise }

pub invariant_of-after : goal.invariant_of-after
invariant_of-after c =
    let bytes = c.args.self.bytes.now in
    let ends = c.args.self.ends.now in
    let within : c.args.count ≤ length ends = omega (arith, c.requires, length-words_to c.args.self.bytes.now c.args.self.from c.args.self.ends.now) in
    record { rise = rw (c.start_of.ensures, take_rest ends c.args.count) (rise-drop c.args.self.from ends (length bytes) c.args.count within c.args.self.rise) }

pub returns-clause-first : goal.returns-clause-first
returns-clause-first c = words_to-take c.args.self.bytes.now c.args.self.from c.args.self.ends.now c.args.count

pub returns-clause-after : goal.returns-clause-after
returns-clause-after c =
    let bytes = c.args.self.bytes.now in
    let ends = c.args.self.ends.now in
    let within : c.args.count ≤ length ends = omega (arith, c.requires, length-words_to c.args.self.bytes.now c.args.self.from c.args.self.ends.now) in
    rw (c.start_of.ensures, take_rest ends c.args.count) (words_to-drop bytes c.args.self.from ends c.args.count within)
