use Rattle.std.proofs.Common.{◌∙◌, Bool, Some, None, sym, ap, arith}
use Rattle.std.specs.Prelude.{if◌then◌else◌}
use Rattle.table.specs.edits.Edits.{Loop}
use Rattle.table.specs.steps.Kept.{name_at}
use Rattle.table.proofs.laws.edits.AnswerLaws.{target_missing, target_built_in, target_led, target_links}
use Rattle.table.proofs.parts.Parts.resolve_target.Goals as goal

pub returns-in_default-clause-err : goal.returns-in_default-clause-err
returns-in_default-clause-err c =
    target_missing c.args.self.now.policies c.args.self.now.chains.slots c.args.self.now.order.items (name_at c.args.self.now.chains.slots c.args.self.now.order.items c.args.place) c.args.name.now (sym c.in_default.ensures.place)

pub returns-then-to-lt-BUILT_IN-clause-err : goal.returns-then-to-lt-BUILT_IN-clause-err
returns-then-to-lt-BUILT_IN-clause-err c =
    target_built_in c.args.self.now.policies c.args.self.now.chains.slots c.args.self.now.order.items (name_at c.args.self.now.chains.slots c.args.self.now.order.items c.args.place) c.args.name.now c.in-Some.to c.requires.kept c.in-Some.ensures.within (sym c.in-Some.ensures.place)
    c.if-to-lt-BUILT_IN.true

pub returns-then-reaches-clause-err : goal.returns-then-reaches-clause-err
returns-then-reaches-clause-err c =
    target_led c.args.self.now.policies c.args.self.now.chains.slots c.args.self.now.order.items c.args.name.now c.in-Some.to c.args.place c.index-key.result.now c.index.result.now c.reaches.result c.requires.kept c.in-Some.ensures.within (sym c.in-Some.ensures.place)
    (omega (arith, c.if-to-lt-BUILT_IN.false)) c.index-key.ensures c.requires.place c.index.ensures c.reaches.ensures.found
    ∙ ap (λ (b : Bool). if b then Some Loop else None) c.if-reaches.true

pub returns-clause-links : goal.returns-clause-links
returns-clause-links c =
    target_links c.args.self.now.policies c.args.self.now.chains.slots c.args.self.now.order.items c.args.name.now c.in-Some.to c.index-key.result.now c.in-Some.ensures.within (sym c.in-Some.ensures.place) (omega (arith, c.if-to-lt-BUILT_IN.false)) c.index-key.ensures

pub returns-clause-ok : goal.returns-clause-ok
returns-clause-ok c =
    target_led c.args.self.now.policies c.args.self.now.chains.slots c.args.self.now.order.items c.args.name.now c.in-Some.to c.args.place c.index-key.result.now c.index.result.now c.reaches.result c.requires.kept c.in-Some.ensures.within (sym c.in-Some.ensures.place)
    (omega (arith, c.if-to-lt-BUILT_IN.false)) c.index-key.ensures c.requires.place c.index.ensures c.reaches.ensures.found
    ∙ ap (λ (b : Bool). if b then Some Loop else None) c.if-reaches.false
