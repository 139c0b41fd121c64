use Rattle.std.proofs.Common.{arith}
use Rattle.questions.proofs.laws.CandidateLaws.{all_candidates, chain_more, chain_none}
use Rattle.questions.proofs.boxes.candidates.nexts_of_all.Goals as goal

pub loop-place-init : goal.loop-place-init
loop-place-init c = chain_none c.args.subject.now.table.table c.args.area.now c.new-chains.result.items c.new-chains.ensures.items

pub loop-place-preserved : goal.loop-place-preserved
loop-place-preserved c =
    chain_more c.args.subject.now.table.table c.args.area.now c.loop-place.chains.items c.push.new.self.items c.in_ok-nexts_of.field-0 c.loop-place.place (omega (arith, c.loop-place-test.true, c.chain_count-place-end.ensures, c.loop-place.auto.place-end)) c.in_ok-push.ensures.items c.loop-place.invariant (c.in_ok-nexts_of.ensures c.args.area.now (rw c.sets.ensures.value at c.outline_of-outline.ensures))

pub returns : goal.returns
returns c = all_candidates c.args.subject.now.table.table 0 c.args.area.now c.loop-place.chains c.loop-place.place c.loop-place.invariant
