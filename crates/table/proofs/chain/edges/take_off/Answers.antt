use Rattle.std.proofs.Common.{◌≢◌, ◌<◌, ◌-◌, ℕ, length, get_or, refl, sym, ap, arith, subst, List, Option}
use Rattle.std.proofs.Math.ListN.{set}
use Rattle.std.specs.Prelude.{remove}
use Rattle.std.specs.Option.{IfSome}
use Rattle.table.specs.steps.StoredChains.{AreDistinct, CountsFewer, counted, ends}
use Rattle.table.specs.declared.chain.edges.Edge.{Edge}
use Rattle.table.proofs.laws.chains.CountLaws.{edge_at, edge_again, edge_some, counted_none, raised_distinct, lowered_counts, removed_distinct, removed_counts}
use Rattle.table.proofs.chain.edges.take_off.Goals as goal

pub unreachable-requires : goal.unreachable-requires
unreachable-requires c =
    let P : List Edge → Type 0 = λ es. (k : ℕ) → k < length es → get_or (ends es) k 0 ≢ c.in-Some.key in
    let Q : Option ℕ → Type 0 = λ key. IfSome key (λ k. 0 < counted c.args.edges.now.items k) in
    let some : 0 < counted c.args.edges.now.items c.in-Some.key = subst Q c.in-Some.is c.requires.counted in
    omega (arith, some, counted_none c.args.edges.now.items c.in-Some.key (subst P c.deref.ensures.value c.in_default-place_of.ensures))

pub returns-then-index-gt1-clause-distinct : goal.returns-then-index-gt1-clause-distinct
returns-then-index-gt1-clause-distinct c =
    let e = edge_at c.args.edges.now.items c.deref.result.now c.in-Some-place_of.place c.in-Some.key c.index_mut.result.now c.deref.ensures.value c.in-Some-place_of.ensures c.index_mut.ensures.value in
    let same = edge_again c.args.edges.now.items c.in-Some-place_of.place c.in-Some.key c.index_mut.result.now c.index.result.now e c.index.ensures in
    raised_distinct c.args.edges.now.items c.in-Some-place_of.place c.in-Some.key c.index_mut.result.now _ e refl
    (omega (arith, c.if-index-gt1.true, ap (λ (x : Edge). x.rules) same)) c.requires.distinct

pub returns-then-index-gt1-clause-counted : goal.returns-then-index-gt1-clause-counted
returns-then-index-gt1-clause-counted c =
    let e = edge_at c.args.edges.now.items c.deref.result.now c.in-Some-place_of.place c.in-Some.key c.index_mut.result.now c.deref.ensures.value c.in-Some-place_of.ensures c.index_mut.ensures.value in
    let same = edge_again c.args.edges.now.items c.in-Some-place_of.place c.in-Some.key c.index_mut.result.now c.index.result.now e c.index.ensures in
    let new : Edge = record { to = c.index_mut.result.now.to; rules = c.index_mut.result.now.rules - 1 } in
    let Q : Option ℕ → Type 0 = λ key. CountsFewer key c.args.edges.now.items (set c.args.edges.now.items c.in-Some-place_of.place new) in
    subst Q (sym c.in-Some.is) (lowered_counts c.args.edges.now.items c.in-Some-place_of.place c.in-Some.key c.index_mut.result.now new e refl
    (omega (arith, c.if-index-gt1.true, ap (λ (x : Edge). x.rules) same)))

pub returns-else-index-gt1-clause-distinct : goal.returns-else-index-gt1-clause-distinct
returns-else-index-gt1-clause-distinct c =
    subst AreDistinct (sym c.remove.ensures.items) (removed_distinct c.args.edges.now.items c.in-Some-place_of.place (omega (arith, c.in-Some-place_of.ensures.0, ap (λ (xs : List Edge). length xs) c.deref.ensures.value)) c.requires.distinct)

pub returns-else-index-gt1-clause-counted : goal.returns-else-index-gt1-clause-counted
returns-else-index-gt1-clause-counted c =
    let e = edge_at c.args.edges.now.items c.deref.result.now c.in-Some-place_of.place c.in-Some.key c.index.result.now c.deref.ensures.value c.in-Some-place_of.ensures c.index.ensures in
    let P : List Edge → Type 0 = λ es. CountsFewer c.args.key c.args.edges.now.items es in
    let Q : Option ℕ → Type 0 = λ key. CountsFewer key c.args.edges.now.items (remove c.args.edges.now.items c.in-Some-place_of.place) in
    let some = edge_some c.args.edges.now.items c.in-Some-place_of.place c.in-Some.key c.index.result.now e c.requires.distinct in
    subst P (sym c.remove.ensures.items) (subst Q (sym c.in-Some.is) (removed_counts c.args.edges.now.items c.in-Some-place_of.place c.in-Some.key c.index.result.now e (omega (arith, some, c.if-index-gt1.false))))
