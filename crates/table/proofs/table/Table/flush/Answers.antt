use Rattle.std.proofs.Common.{sym, []}
use Rattle.table.proofs.laws.edits.AnswerLaws.{done, refused, nowhere, somewhere, changed_found}
use Rattle.table.specs.edits.Edits.{Flush, NoSuchChain}
use Rattle.table.specs.steps.Kept.{table_of, view_of}
use Rattle.table.proofs.table.Table.flush.Goals as goal

pub returns-in_default : goal.returns-in_default
returns-in_default c =
    refused (Flush c.args.chain.now) c.self.view_is NoSuchChain (nowhere (table_of c.self.inside.parts) c.args.chain.now [] (sym c.in_default.ensures.place))

pub returns : goal.returns
returns c =
    let p = c.self.inside.parts in
    let at = sym c.in-Some.ensures.place in
    done (Flush c.args.chain.now) c.self.view_is (view_of c.empty.new.self) (somewhere (table_of p) c.args.chain.now c.in-Some.place [] at)
    (changed_found p c.empty.new.self c.args.chain.now c.in-Some.place (λ rules. []) c.in-Some.ensures.within at c.empty.ensures.table)
