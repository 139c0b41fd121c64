use Rattle.std.proofs.Common.{◌<◌, false, length, sym, ◌∙◌, arith}
use Rattle.std.proofs.lemmas.List.{get_or_default}
use Rattle.std.specs.Option.{option_map}
use Rattle.questions.specs.Ends.{rule_at}
use Rattle.questions.specs.steps.Leading.{IsMarked}
use Rattle.questions.proofs.laws.LeadLaws.{call_leads, call_within, spread_by, unmarked_less}
use Rattle.questions.proofs.asked.leading.mark_by.Goals as goal

pub returns-clause-more : goal.returns-clause-more
returns-clause-more c =
    let t = c.args.subject.now.table.table in
    let own = option_map (rule_at t) c.args.own in
    let marks = c.args.marks.now.items in
    let call = c.args.call in
    let is = c.requires.call in
    let within : call.to < length marks = omega (arith, call_within t call is, c.requires.long) in
    let marked : IsMarked marks call.to = get_or_default marks call.to false c.index.result.now within ∙ sym c.index.ensures ∙ c.if-not-index.false in
    spread_by t own marks call.by.chain c.stands.ensures.sound c.requires.long is.there.chain (call_leads t own marks call is marked (c.counts.ensures.0 c.if-not-counts.false))

pub returns-clause-fewer : goal.returns-clause-fewer
returns-clause-fewer c =
    let marks = c.args.marks.now.items in
    let chain = c.args.call.by.chain in
    let within : chain < length marks = omega (arith, c.requires.call.there.chain, c.requires.long) in
    λ _. unmarked_less marks chain within (get_or_default marks chain false c.index-else-not-index.result.now within ∙ sym c.index-else-not-index.ensures ∙ c.if-index.false)
