use Rattle.std.proofs.Common.{◌∙◌, sym, refl, ap, arith, subst, not, List, [], ◌∷◌, ℕ}
use Rattle.table.specs.edits.Edits.{NewChain, BadChainName, ChainExists, TooManyChains, bad_name, exists_already, edited, fault_of}
use Rattle.std.proofs.Common.{◌≡◌, None}
use Rattle.table.specs.steps.Kept.{IsIndexFor, IsUnmarked, table_of, view_of}
use Rattle.table.proofs.laws.chains.PlaceLaws.{placed_nowhere}
use Rattle.table.proofs.laws.edits.AnswerLaws.{done_if_room, refused_if_room, no_room, holds, passes, name_read, name_refused, exists_named}
use Rattle.table.proofs.laws.edits.MakeLaws.{too_many, chains_full, may_be_made, still_unmarked, more_unmarked}
use Rattle.table.proofs.table.Table.new_chain.Goals as goal

pub returns-in_default : goal.returns-in_default
returns-in_default c =
    let name = c.args.name.now in
    let t = c.args.self.now.table in
    refused_if_room (NewChain name) refl BadChainName (holds (bad_name name) (exists_already t name ∷ too_many t ∷ []) (ap not (name_refused name (sym c.in_default.ensures))))

pub returns-in_default-index_for : goal.returns-in_default-index_for
returns-in_default-index_for c =
    let t = table_of c.self.inside.parts in
    let name = c.args.name.now in
    refused_if_room (NewChain name) c.self.view_is ChainExists
    (passes (bad_name name) (exists_already t name ∷ too_many t ∷ []) (ap not (name_read name c.in-Some.owned (sym c.in-Some.ensures)).0)
    ∙ holds (exists_already t name) (too_many t ∷ []) (exists_named t name c.in_default-index_for.ensures))

pub returns-then-len-ge-CHAINS_MAX : goal.returns-then-len-ge-CHAINS_MAX
returns-then-len-ge-CHAINS_MAX c =
    let p = c.self.inside.parts in
    let t = table_of p in
    let name = c.args.name.now in
    refused_if_room (NewChain name) c.self.view_is TooManyChains
    (passes (bad_name name) (exists_already t name ∷ too_many t ∷ []) (ap not (name_read name c.in-Some.owned (sym c.in-Some.ensures)).0)
    ∙ passes (exists_already t name) (too_many t ∷ []) (placed_nowhere t name c.in-Some-index_for.ensures.free)
    ∙ holds (too_many t) [] (chains_full p c.len.result c.self.invariant.kept.stored (omega (arith, c.len.ensures)) c.if-len-ge-CHAINS_MAX.true))

pub make-requires-clause-place : goal.make-requires-clause-place
make-requires-clause-place c =
    let P : List ℕ → Type 0 = λ n. IsIndexFor n c.self.inside.parts.chains.slots c.self.inside.parts.order.items c.in-Some-index_for.place in
    subst P (sym (name_read c.args.name.now c.in-Some.owned (sym c.in-Some.ensures)).1) c.in-Some-index_for.ensures

pub make-requires-clause-accepted : goal.make-requires-clause-accepted
make-requires-clause-accepted c =
    let p = c.self.inside.parts in
    let P : List ℕ → Type 0 = λ n. fault_of (NewChain n) (table_of p) ≡ None in
    subst P (sym (name_read c.args.name.now c.in-Some.owned (sym c.in-Some.ensures)).1)
    (may_be_made p c.args.name.now c.in-Some.owned c.len.result c.self.invariant.kept.stored (sym c.in-Some.ensures) c.in-Some-index_for.ensures.free (omega (arith, c.len.ensures)) c.if-len-ge-CHAINS_MAX.false)

pub returns-in_default-reserve_mark : goal.returns-in_default-reserve_mark
returns-in_default-reserve_mark c =
    let p = c.self.inside.parts in
    no_room (NewChain c.args.name.now) c.self.view_is (view_of p) refl
    (may_be_made p c.args.name.now c.in-Some.owned c.len.result c.self.invariant.kept.stored (sym c.in-Some.ensures) c.in-Some-index_for.ensures.free (omega (arith, c.len.ensures)) c.if-len-ge-CHAINS_MAX.false)

pub returns-in-Err : goal.returns-in-Err
returns-in-Err c =
    no_room (NewChain c.args.name.now) c.self.view_is (view_of c.make.new.self) c.in-Err.ensures.err
    (may_be_made c.self.inside.parts c.args.name.now c.in-Some.owned c.len.result c.self.invariant.kept.stored (sym c.in-Some.ensures) c.in-Some-index_for.ensures.free (omega (arith, c.len.ensures)) c.if-len-ge-CHAINS_MAX.false)

pub returns : goal.returns
returns c =
    let p = c.self.inside.parts in
    done_if_room (NewChain c.args.name.now) c.self.view_is (view_of c.make.new.self)
    (may_be_made p c.args.name.now c.in-Some.owned c.len.result c.self.invariant.kept.stored (sym c.in-Some.ensures) c.in-Some-index_for.ensures.free (omega (arith, c.len.ensures)) c.if-len-ge-CHAINS_MAX.false)
    (c.in-Ok-make.ensures.ok ∙ ap (λ (n : List ℕ). edited (NewChain n) (table_of p)) (name_read c.args.name.now c.in-Some.owned (sym c.in-Some.ensures)).1)

pub invariant_of-self : goal.invariant_of-self
invariant_of-self c =
    let grown = still_unmarked c.self.inside.parts.order.items c.self.inside.seen.items c.reserve_mark.new.seen.items c.self.invariant.unmarked c.reserve_mark.ensures.marks c.reserve_mark.ensures.longer in
    record { kept = c.self.invariant.kept; unmarked = grown }

pub invariant_of-self-in-Err : goal.invariant_of-self-in-Err
invariant_of-self-in-Err c =
    let grown = still_unmarked c.self.inside.parts.order.items c.self.inside.seen.items c.reserve_mark.new.seen.items c.self.invariant.unmarked c.reserve_mark.ensures.marks c.reserve_mark.ensures.longer in
    let P : List ℕ → Type 0 = λ ks. IsUnmarked ks c.reserve_mark.new.seen.items in
    record { kept = c.in-Err.ensures.kept; unmarked = subst P (sym c.in-Err.ensures.err_order) grown }

pub invariant_of-self-2 : goal.invariant_of-self-2
invariant_of-self-2 c =
    let order = c.self.inside.parts.order.items in
    let grown = still_unmarked order c.self.inside.seen.items c.reserve_mark.new.seen.items c.self.invariant.unmarked c.reserve_mark.ensures.marks c.reserve_mark.ensures.longer in
    record {
      kept = c.in-Ok-make.ensures.kept;
      unmarked = more_unmarked order c.make.new.self.order.items c.reserve_mark.new.seen.items c.in-Some-index_for.place c.self.inside.parts.chains.vacant_key grown c.in-Some-index_for.ensures.within
          (omega (arith, c.in-Ok.ensures.covered, c.vacant_key-key.ensures.value)) c.in-Ok-make.ensures.key;
    }
