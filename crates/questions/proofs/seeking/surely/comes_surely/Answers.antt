use Rattle.std.proofs.Common.{◌≡◌, ◌∙◌, ap, arith}
use Rattle.fields.specs.declared.packet.hook.Hook.{Hook}
use Rattle.table.specs.steps.Kept.{hook_index}
use Rattle.std.proofs.lemmas.List.{get_or_default}
use Rattle.questions.proofs.laws.BeforeLaws.{surely_sought}
use Rattle.questions.proofs.seeking.surely.comes_surely.Goals as goal

pub returns : goal.returns
returns c = λ all.
    let approach = c.args.approach.now in
    let place : c.hook_index-first.result ≡ hook_index approach.packet.now.hook = c.hook_index-first.ensures ∙ ap (λ (h : Hook). hook_index h) c.hook.ensures.value in
    let far = c.spread.new.self.far.items in
    let back = c.spread.new.self.back.items in
    let first = c.hook_index-first.result in
    surely_sought approach.subject approach.packet.now approach.answers.now approach.wanted far back first c.stands.ensures.sound c.requires.wanted
    (c.are_all_met.ensures all) place
    (omega (arith, c.if-index-eq0.false, c.index.ensures, get_or_default far first 0 c.index.result.now (omega (arith, c.if-first-count.false, c.if-len-count.false, c.len.ensures))))
    (omega (arith, c.if-index-gt0.false, c.index-else-index-eq0.ensures, get_or_default back first 0 c.index-else-index-eq0.result.now (omega (arith, c.if-first-count.false, c.if-len-count-2.false, c.len-else-len-count.ensures))))
