use Rattle.std.proofs.Common.{◌∙◌, refl, sym, rules, arith}
use Rattle.fields.specs.text.Tap.{known}
use Rattle.sessions.proofs.laws.run.ReachedLaws.{handed_on, last_failed, line_failed, reached_more, reached_nothing, executed_last, executed_nothing, executed_to_fault, write_failed}
use Rattle.sessions.specs.run.Console.{reader, writer}
use Rattle.sessions.proofs.run.session.Session.execute_lines.Goals as goal

pub lines-init : goal.lines-init
lines-init g c = record {
  reached = reached_nothing _ _ c.args.progress.now refl;
  same = search rules;
  prompt = refl;
  fresh = search rules;
  open_out = c.requires.output;
  going = search rules;
  counted = omega (arith, c.requires.number);
}

pub returns-in-Err-clause-executes : goal.returns-in-Err-clause-executes
returns-in-Err-clause-executes g c finish =
    let (text, one, taken) = c.in-Err.ensures.reads in
    line_failed (handed_on c.lines.invariant.reached (known g.W.Write.contents (writer c.next_line.new.console)) c.next_line.ensures.given) c.lines.invariant.going (known g.R.Read.remaining (reader c.next_line.new.console)) text one c.in-Err.fault finish taken

pub returns-in-Nothing-clause-executes : goal.returns-in-Nothing-clause-executes
returns-in-Nothing-clause-executes g c =
    let (text, one, (held, taken, counted)) = rw c.in-Nothing.is at c.in-Ok.ensures.reads in
    executed_nothing (handed_on c.lines.invariant.reached (known g.W.Write.contents (writer c.next_line.new.console)) c.next_line.ensures.given) c.lines.invariant.going (known g.R.Read.remaining (reader c.next_line.new.console)) text one taken.1 taken.2

pub returns-then-has_ended-clause-executes : goal.returns-then-has_ended-clause-executes
returns-then-has_ended-clause-executes g c =
    let (text, one, (held, taken, counted)) = rw c.in-Newline.is at c.in-Ok.ensures.reads in
    let (refused, reply, steps, wrote, put) = c.in-Ok-execute.ensures.executes text held in
    executed_to_fault (handed_on c.lines.invariant.reached (known g.W.Write.contents (writer c.next_line.new.console)) c.next_line.ensures.given) c.lines.invariant.going (known g.R.Read.remaining (reader c.next_line.new.console)) text one refused reply (known g.W.Write.contents c.execute.new.output)
    _ _ _ steps (c.in-Ok-execute.ensures.work text held) put taken wrote.appends (sym c.has_ended.ensures ∙ c.if-has_ended.true)

pub returns-then-has_ended-clause-ready : goal.returns-then-has_ended-clause-ready
returns-then-has_ended-clause-ready g c =
    let (text, one, (held, taken, counted)) = rw c.in-Newline.is at c.in-Ok.ensures.reads in
    let (refused, reply, steps, wrote, put) = c.in-Ok-execute.ensures.executes text held in
    wrote.fresh

pub lines-preserved : goal.lines-preserved
lines-preserved g c =
    let (text, one, (held, taken, counted)) = rw c.in-Newline.is at c.in-Ok.ensures.reads in
    let (refused, reply, steps, wrote, put) = c.in-Ok-execute.ensures.executes text held in
    record {
      reached = reached_more (handed_on c.lines.invariant.reached (known g.W.Write.contents (writer c.next_line.new.console)) c.next_line.ensures.given) c.lines.invariant.going (known g.R.Read.remaining (reader c.next_line.new.console)) text one refused reply (known g.W.Write.contents c.execute.new.output)
          _ _ _ steps (c.in-Ok-execute.ensures.work text held) put taken wrote.appends;
      same = search rules;
      prompt = search rules;
      fresh = search rules;
      open_out = wrote.fresh;
      going = sym c.has_ended.ensures ∙ c.if-has_ended.false;
      counted = omega (arith, c.in-Ok.ensures.turns);
    }

pub returns-in-Err-execute-clause-executes : goal.returns-in-Err-execute-clause-executes
returns-in-Err-execute-clause-executes g c finish =
    let (text, one, (held, taken, counted)) = rw c.in-Newline.is at c.in-Ok.ensures.reads in
    let (refused, reply, steps, stopped, put) = c.in-Err-execute.ensures.executes text held in
    write_failed (handed_on c.lines.invariant.reached (known g.W.Write.contents (writer c.next_line.new.console)) c.next_line.ensures.given) c.lines.invariant.going (known g.R.Read.remaining (reader c.next_line.new.console)) text one refused reply (known g.W.Write.contents c.execute.new.output)
    _ _ _ steps (c.in-Err-execute.ensures.work text held) put finish taken stopped.part stopped.begins stopped.appends

pub returns-in-Ok-execute-2-clause-executes : goal.returns-in-Ok-execute-2-clause-executes
returns-in-Ok-execute-2-clause-executes g c =
    let (text, one, (held, taken, counted)) = rw c.in-Input.is at c.in-Ok.ensures.reads in
    let (refused, reply, steps, wrote, put) = c.in-Ok-execute-2.ensures.executes text held in
    executed_last (handed_on c.lines.invariant.reached (known g.W.Write.contents (writer c.next_line.new.console)) c.next_line.ensures.given) c.lines.invariant.going (known g.R.Read.remaining (reader c.next_line.new.console)) text one refused reply (known g.W.Write.contents c.execute-in-Input.new.output)
    _ _ _ steps (c.in-Ok-execute-2.ensures.work text held) put taken.0 taken.1 taken.2 wrote.appends

pub returns-in-Ok-execute-2-clause-ready : goal.returns-in-Ok-execute-2-clause-ready
returns-in-Ok-execute-2-clause-ready g c =
    let (text, one, (held, taken, counted)) = rw c.in-Input.is at c.in-Ok.ensures.reads in
    let (refused, reply, steps, wrote, put) = c.in-Ok-execute-2.ensures.executes text held in
    wrote.fresh

pub returns-in-Err-execute-2-clause-executes : goal.returns-in-Err-execute-2-clause-executes
returns-in-Err-execute-2-clause-executes g c finish =
    let (text, one, (held, taken, counted)) = rw c.in-Input.is at c.in-Ok.ensures.reads in
    let (refused, reply, steps, stopped, put) = c.in-Err-execute-2.ensures.executes text held in
    last_failed (handed_on c.lines.invariant.reached (known g.W.Write.contents (writer c.next_line.new.console)) c.next_line.ensures.given) c.lines.invariant.going (known g.R.Read.remaining (reader c.next_line.new.console)) text one refused reply (known g.W.Write.contents c.execute-in-Input.new.output)
    _ _ _ steps (c.in-Err-execute-2.ensures.work text held) put finish taken.0 taken.1 taken.2 stopped.part stopped.begins stopped.appends
