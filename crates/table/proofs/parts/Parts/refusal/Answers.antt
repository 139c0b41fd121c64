use Rattle.std.proofs.Common.{sym, ap, arith, length}
use Rattle.table.specs.steps.StoredChains.{StoredChain}
use Rattle.table.proofs.laws.edits.DeleteLaws.{stored_here, built_in_stays, filled_stays, named_stays, free_goes}
use Rattle.table.proofs.parts.Parts.refusal.Goals as goal

pub returns-then-place-lt-BUILT_IN : goal.returns-then-place-lt-BUILT_IN
returns-then-place-lt-BUILT_IN c = sym (built_in_stays c.args.self.now.policies c.args.self.now.chains.slots c.args.self.now.order.items c.args.place c.requires.kept.stored c.requires.place c.if-place-lt-BUILT_IN.true)

pub returns-then-len-gt0 : goal.returns-then-len-gt0
returns-then-len-gt0 c =
    let slots = c.args.self.now.chains.slots in
    let order = c.args.self.now.order.items in
    let here = stored_here slots order c.args.place c.index.result.now c.index-chain.result.now c.requires.place c.index.ensures c.index-chain.ensures in
    sym (filled_stays c.args.self.now.policies slots order c.args.place c.requires.kept.stored c.requires.place c.if-place-lt-BUILT_IN.false (omega (arith, c.if-len-gt0.true, c.len.ensures, ap (λ (r : StoredChain). length r.entries) here)))

pub returns-then-references-gt0 : goal.returns-then-references-gt0
returns-then-references-gt0 c =
    let slots = c.args.self.now.chains.slots in
    let order = c.args.self.now.order.items in
    let here = stored_here slots order c.args.place c.index.result.now c.index-chain.result.now c.requires.place c.index.ensures c.index-chain.ensures in
    sym (named_stays c.args.self.now.policies slots order c.args.place c.requires.kept c.requires.place c.if-place-lt-BUILT_IN.false (omega (arith, c.if-len-gt0.false, c.len.ensures, ap (λ (r : StoredChain). length r.entries) here))
    (omega (arith, c.if-references-gt0.true, c.references.ensures, ap (λ (r : StoredChain). r.references) here)))

pub returns : goal.returns
returns c =
    let slots = c.args.self.now.chains.slots in
    let order = c.args.self.now.order.items in
    let here = stored_here slots order c.args.place c.index.result.now c.index-chain.result.now c.requires.place c.index.ensures c.index-chain.ensures in
    sym (free_goes c.args.self.now.policies slots order c.args.place c.requires.kept c.requires.place c.if-place-lt-BUILT_IN.false (omega (arith, c.if-len-gt0.false, c.len.ensures, ap (λ (r : StoredChain). length r.entries) here))
    (omega (arith, c.if-references-gt0.false, c.references.ensures, ap (λ (r : StoredChain). r.references) here)))
