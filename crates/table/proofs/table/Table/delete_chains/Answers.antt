use Rattle.std.proofs.Common.{sym}
use Rattle.table.specs.edits.Edits.{DeleteChains}
use Rattle.table.specs.steps.Kept.{view_of}
use Rattle.table.proofs.laws.edits.MakeLaws.{fewer_unmarked}
use Rattle.table.proofs.laws.edits.AnswerLaws.{done, refused}
use Rattle.table.proofs.table.Table.delete_chains.Goals as goal

pub returns-in-Some : goal.returns-in-Some
returns-in-Some c = refused DeleteChains c.self.view_is c.in-Some.fault (sym c.in-Some.ensures)

pub returns : goal.returns
returns c = done DeleteChains c.self.view_is (view_of c.remove_user_chains.new.self) (sym c.in_default.ensures) c.remove_user_chains.ensures.table

pub invariant_of-self : goal.invariant_of-self
invariant_of-self c =
    record { kept = c.remove_user_chains.ensures.kept; unmarked = fewer_unmarked c.self.inside.parts.order.items c.remove_user_chains.new.self.order.items c.self.inside.seen.items c.self.invariant.unmarked c.remove_user_chains.ensures.fewer }
