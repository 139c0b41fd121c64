use Rattle.std.proofs.Common.{◌≡◌, ◌∙◌, ap, subst}
use Rattle.table.specs.chains.Table.{Accept, TableView}
use Rattle.table.specs.steps.Kept.{hook_index}
use Rattle.table.specs.walk.Walk.{Walked, walk}
use Rattle.table.proofs.laws.walk.CaseLaws.{walk_is}
use Rattle.table.proofs.laws.walk.TableWalkLaws.{walk_with}
use Rattle.table.proofs.table.Table.verdict.Goals as goal

pub returns : goal.returns
returns c =
    let P : TableView → Type 0 = λ (v : TableView). c.decide.result ≡ (walk v.table c.args.packet.now).verdict in
    let is = walk_with 65536 c.self.inside.parts c.args.packet.now c.hook_index-hook.result c.verdict-policy.result Accept c.self.invariant.kept.stored (c.hook_index-hook.ensures ∙ ap hook_index c.hook.ensures.value) c.verdict-policy.ensures in
    let walked = subst P c.self.view_is (c.decide.ensures ∙ ap (λ (w : Walked). w.verdict) is) in
    record {
      walk = walked;
      cases = λ w goes. walked ∙ ap (λ (x : Walked). x.verdict) (walk_is _ c.args.packet.now w goes);
    }
