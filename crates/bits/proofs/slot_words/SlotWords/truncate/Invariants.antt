use Rattle.std.proofs.Common.{◌≡◌, ◌*◌, ◌≤◌, length, take}
use Rattle.bits.proofs.slot_words.SlotWords.truncate.Given as goal

abbrev pub invariant-loop-self : goal.invariant-loop-self
invariant-loop-self l = record {
  enough : l.count ≤ l.self.count;
  fewer : l.self.count ≤ l.fn.self.count;
  width : l.self.width ≡ l.fn.self.width;
  long : length l.fn.self.words ≡ l.fn.self.count * l.fn.self.width;
  first : l.self.words ≡ take (l.self.count * l.fn.self.width) l.fn.self.words;
}

abbrev pub decreases-loop-self : goal.decreases-loop-self
decreases-loop-self l = l.self.count
