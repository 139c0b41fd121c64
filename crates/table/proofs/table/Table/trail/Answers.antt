use Rattle.std.proofs.Common.{◌∙◌, ap, subst}
use Rattle.std.specs.Prelude.{IfOk}
use Rattle.table.specs.chains.Table.{Accept, TableView}
use Rattle.table.specs.steps.Kept.{table_of, hook_index}
use Rattle.table.specs.walk.Walk.{Walked, walk, Shows}
use Rattle.table.proofs.laws.walk.CaseLaws.{walk_is}
use Rattle.table.proofs.laws.walk.TableWalkLaws.{walk_with}
use Rattle.table.proofs.table.Table.trail.Goals as goal

pub returns : goal.returns
returns c =
    let p = c.self.inside.parts in
    let is = walk_with 65536 p c.args.packet.now c.hook_index-hook.result c.verdict-policy.result Accept c.self.invariant.kept.stored (c.hook_index-hook.ensures ∙ ap hook_index c.hook.ensures.value) c.verdict-policy.ensures in
    let P : Walked → Type 0 = λ (w : Walked). IfOk c.trace.result (Shows (table_of p).chains w) in
    let Q : TableView → Type 0 = λ (v : TableView). IfOk c.trace.result (Shows v.table.chains (walk v.table c.args.packet.now)) in
    let walked = subst Q c.self.view_is (subst P is c.trace.ensures) in
    record {
      walk = walked;
      cases = λ w goes. rw (← walk_is _ c.args.packet.now w goes) walked;
    }
