use Rattle.std.specs.Prelude.{Any}
use Rattle.fields.specs.Packet.{PacketView as Packet}
use Rattle.questions.specs.Foreign.{Assignment}
use Rattle.questions.specs.steps.Seeking.{KeepsWanted, MayCome, AddsWays, IsLonger}
use Rattle.questions.specs.Scopes.{whole_of}
use Rattle.questions.proofs.laws.SeekLaws.{AreTakenFrom}
use Rattle.questions.proofs.seeking.way.add_longer.Given as goal

abbrev pub invariant-loop-before : goal.invariant-loop-before
invariant-loop-before l = record {
  kept : (a : Assignment) (p : Packet) → Any (MayCome l.subject a p) l.initial.ways.items → Any (MayCome l.subject a p) l.ways.items;
  wanted : KeepsWanted l.way l.initial.ways.items l.ways.items;
  longer : AddsWays (IsLonger (whole_of l.subject) l.way) l.initial.ways.items l.ways.items;
  taken : AreTakenFrom l.subject l.way l.chain l.calls l.before l.ways.items;
}
