use Rattle.std.proofs.Common.{◌≡◌, ◌∙◌, ◌-◌, ◌<◌, sym, arith, length, ℕ, None}
use Rattle.table.specs.edits.Edits.{DeleteChain, fault_of}
use Rattle.table.specs.steps.Kept.{name_at, table_of}
use Rattle.table.proofs.laws.edits.DeleteLaws.{one_goes, others_go, same_left, none_left}
use Rattle.table.proofs.parts.Parts.remove_user_chains.Goals as goal

pub remove_chain-requires-clause-accepted : goal.remove_chain-requires-clause-accepted
remove_chain-requires-clause-accepted c =
    let slots = c.loop-self.self.chains.slots in
    let order = c.loop-self.self.order.items in
    one_goes c.loop-self.self.policies slots order (c.len-last.result - 1) c.loop-self.invariant.kept.stored (omega (arith, c.len-last.ensures, c.len.ensures, c.loop-self-test.true)) (omega (arith, c.len-last.ensures, c.len.ensures, c.loop-self-test.true)) c.loop-self.invariant.accepted

pub loop-self-preserved : goal.loop-self-preserved
loop-self-preserved c =
    let slots = c.loop-self.self.chains.slots in
    let order = c.loop-self.self.order.items in
    let last : ℕ = c.len-last.result - 1 in
    let name = name_at slots order last in
    let t = table_of c.loop-self.self in
    let u = table_of c.remove_chain.new.self in
    let lt : last < length order = omega (arith, c.len-last.ensures, c.len.ensures, c.loop-self-test.true) in
    let goes : fault_of (DeleteChain name) t ≡ None = one_goes c.loop-self.self.policies slots order last c.loop-self.invariant.kept.stored (omega (arith, c.len-last.ensures, c.len.ensures, c.loop-self-test.true)) lt c.loop-self.invariant.accepted in
    record {
      kept = c.remove_chain.ensures.kept;
      accepted = others_go t u name c.remove_chain.ensures.table c.loop-self.invariant.accepted;
      same = same_left t u name c.remove_chain.ensures.table goes ∙ c.loop-self.invariant.same;
      fewer = λ key at. c.loop-self.invariant.fewer key (c.remove_chain.ensures.fewer key at);
    }

pub returns-clause-table : goal.returns-clause-table
returns-clause-table c =
    let slots = c.loop-self.self.chains.slots in
    let order = c.loop-self.self.order.items in
    sym (none_left c.loop-self.self.policies slots order c.loop-self.invariant.kept.stored (omega (arith, c.len.ensures, c.loop-self-test.false))) ∙ c.loop-self.invariant.same
