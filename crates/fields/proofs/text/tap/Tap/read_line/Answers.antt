use Rattle.std.proofs.Common.{rules, arith, sym, ap, ◌∙◌}
use Rattle.std.proofs.lemmas.Bool.{true≢false}
use Rattle.fields.specs.text.Tap.{has_failed, known, turns_left}
use Rattle.fields.proofs.text.tap.Tap.read_line.Goals as goal

pub loop-read-preserved : goal.loop-read-preserved
loop-read-preserved g c = record {
  reads = rw c.in-Ok-None.field-0-is at c.in-Ok-None.ensures.reads (known g.R.Read.remaining c.args.self.now) (turns_left c.args.self.now) c.loop-read.invariant.reads;
  within = search rules;
  room = omega arith;
  capacity = omega arith;
  stays = λ had. absurd (true≢false (sym had ∙ sym (ap has_failed (c.loop-read.invariant.stays had)) ∙ c.in-Ok-None.ensures.ready));
  turns = omega (arith, c.in-Ok-None.ensures.turns);
}

pub returns-in-Ok-Some-clause-reads : goal.returns-in-Ok-Some-clause-reads
returns-in-Ok-Some-clause-reads g c =
    rw c.in-Ok-Some.field-0-is at c.in-Ok-Some.ensures.reads (known g.R.Read.remaining c.args.self.now) (turns_left c.args.self.now) c.loop-read.invariant.reads

pub returns-in-Err-clause-reads : goal.returns-in-Err-clause-reads
returns-in-Err-clause-reads g c = c.in-Err.ensures.reads (known g.R.Read.remaining c.args.self.now) (turns_left c.args.self.now) c.loop-read.invariant.reads
