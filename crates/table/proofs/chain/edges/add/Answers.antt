use Rattle.std.proofs.Common.{◌≢◌, ◌<◌, ◌+◌, ◌++◌, ◌∷◌, [], ℕ, length, get_or, refl, sym, arith, subst, List, Option}
use Rattle.std.proofs.Math.ListN.{set}
use Rattle.table.specs.steps.StoredChains.{AreDistinct, CountsMore, ends}
use Rattle.table.specs.declared.chain.edges.Edge.{Edge}
use Rattle.table.proofs.laws.chains.CountLaws.{edge_at, raised_distinct, raised_counts, pushed_distinct, pushed_counts}
use Rattle.table.proofs.chain.edges.add.Goals as goal

pub returns-in-Ok-clause-distinct : goal.returns-in-Ok-clause-distinct
returns-in-Ok-clause-distinct c =
    let P : List Edge → Type 0 = λ es. (k : ℕ) → k < length es → get_or (ends es) k 0 ≢ c.in-Some.key in
    subst AreDistinct (sym c.in-Ok.ensures.items)
    (pushed_distinct c.args.edges.now.items c.in-Some.key _ (subst P c.deref.ensures.value c.in-None.ensures) refl (omega arith) c.requires.distinct)

pub returns-in-Ok-clause-counted : goal.returns-in-Ok-clause-counted
returns-in-Ok-clause-counted c =
    let P : List Edge → Type 0 = λ es. CountsMore c.args.key c.args.edges.now.items es in
    let Q : Option ℕ → Type 0 = λ key. CountsMore key c.args.edges.now.items (c.args.edges.now.items ++ record { to = c.in-Some.key; rules = 1 } ∷ []) in
    subst P (sym c.in-Ok.ensures.items) (subst Q (sym c.in-Some.is) (pushed_counts c.args.edges.now.items c.in-Some.key))

pub returns-clause-distinct : goal.returns-clause-distinct
returns-clause-distinct c =
    let e = edge_at c.args.edges.now.items c.deref.result.now c.in-Some-place_of.place c.in-Some.key c.index_mut.result.now c.deref.ensures.value c.in-Some-place_of.ensures c.index_mut.ensures.value in
    raised_distinct c.args.edges.now.items c.in-Some-place_of.place c.in-Some.key c.index_mut.result.now _ e refl (omega arith) c.requires.distinct

pub returns-clause-counted : goal.returns-clause-counted
returns-clause-counted c =
    let e = edge_at c.args.edges.now.items c.deref.result.now c.in-Some-place_of.place c.in-Some.key c.index_mut.result.now c.deref.ensures.value c.in-Some-place_of.ensures c.index_mut.ensures.value in
    let new : Edge = record { to = c.index_mut.result.now.to; rules = c.index_mut.result.now.rules + 1 } in
    let Q : Option ℕ → Type 0 = λ key. CountsMore key c.args.edges.now.items (set c.args.edges.now.items c.in-Some-place_of.place new) in
    subst Q (sym c.in-Some.is) (raised_counts c.args.edges.now.items c.in-Some-place_of.place c.in-Some.key c.index_mut.result.now new e refl refl)
