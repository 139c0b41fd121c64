use Rattle.std.proofs.Common.{◌≡◌, ◌∙◌, ◌<◌, ◌≤◌, sym, ap, subst, not, length, Some, List, [], ◌∷◌, ℕ}
use Rattle.std.specs.List.{position}
use Rattle.table.specs.chains.Table.{is_named}
use Rattle.table.specs.edits.Edits.{Cause, Rename, edited, NoSuchChain, BuiltInChain, BadChainName, ChainExists, built_in, bad_name, exists_already, fault_of, first_fault}
use Rattle.table.specs.steps.Kept.{IsIndexFor, AreStored, table_of, view_of}
use Rattle.table.specs.declared.parts.Parts.{Parts}
use Rattle.table.proofs.laws.edits.RetargetLaws.{moved_unmarked}
use Rattle.table.proofs.laws.chains.PlaceLaws.{placed_nowhere}
use Rattle.table.proofs.laws.chains.StoreLaws.{built_in_first, user_after}
use Rattle.table.proofs.laws.edits.AnswerLaws.{done, refused, nowhere, somewhere, holds, passes, name_found}
use Rattle.table.proofs.laws.edits.RenameLaws.{name_read, name_refused, name_taken}
use Rattle.table.proofs.table.Table.rename.Goals as goal

-- a user chain has the old name: the new name is asked
new_asked : (p : Parts) (old new : List ℕ) (place : ℕ) → AreStored p → 3 ≤ place → place < length p.order.items → position (is_named old) (table_of p).chains ≡ Some place
    → fault_of (Rename old new) (table_of p) ≡ first_fault (bad_name new ∷ exists_already (table_of p) new ∷ [])
new_asked p old new place s user lt at =
    let causes : List Cause = bad_name new ∷ exists_already (table_of p) new ∷ [] in
    somewhere (table_of p) old place (built_in old ∷ causes) at ∙ passes (built_in old) causes (user_after p.policies p.chains.slots p.order.items old place s user lt (name_found p old place lt at))

pub returns-in_default : goal.returns-in_default
returns-in_default c =
    let t = table_of c.self.inside.parts in
    refused (Rename c.args.old.now c.args.new.now) c.self.view_is NoSuchChain (nowhere t c.args.old.now (built_in c.args.old.now ∷ bad_name c.args.new.now ∷ exists_already t c.args.new.now ∷ []) (sym c.in_default.ensures.place))

pub returns-then-place-lt-BUILT_IN : goal.returns-then-place-lt-BUILT_IN
returns-then-place-lt-BUILT_IN c =
    let p = c.self.inside.parts in
    let old = c.args.old.now in
    let place = c.in-Some.place in
    let at = sym c.in-Some.ensures.place in
    let causes : List Cause = bad_name c.args.new.now ∷ exists_already (table_of p) c.args.new.now ∷ [] in
    refused (Rename old c.args.new.now) c.self.view_is BuiltInChain
    (somewhere (table_of p) old place (built_in old ∷ causes) at
    ∙ holds (built_in old) causes (built_in_first p.policies p.chains.slots p.order.items old place c.self.invariant.kept.stored c.if-place-lt-BUILT_IN.true (name_found p old place c.in-Some.ensures.within at)))

pub returns-in_default-read : goal.returns-in_default-read
returns-in_default-read c =
    let p = c.self.inside.parts in
    let new = c.args.new.now in
    refused (Rename c.args.old.now new) c.self.view_is BadChainName
    (new_asked p c.args.old.now new c.in-Some.place c.self.invariant.kept.stored c.if-place-lt-BUILT_IN.false c.in-Some.ensures.within (sym c.in-Some.ensures.place)
    ∙ holds (bad_name new) (exists_already (table_of p) new ∷ []) (ap not (name_refused new c.in_default-read.ensures)))

pub returns-in_default-index_for : goal.returns-in_default-index_for
returns-in_default-index_for c =
    let p = c.self.inside.parts in
    let new = c.args.new.now in
    refused (Rename c.args.old.now new) c.self.view_is ChainExists
    (new_asked p c.args.old.now new c.in-Some.place c.self.invariant.kept.stored c.if-place-lt-BUILT_IN.false c.in-Some.ensures.within (sym c.in-Some.ensures.place)
    ∙ passes (bad_name new) (exists_already (table_of p) new ∷ []) (ap not (name_read new c.in-Some-read.name c.in-Some-read.ensures).0)
    ∙ holds (exists_already (table_of p) new) [] (name_taken (table_of p).chains new c.in_default-index_for.ensures))

pub rename-requires-clause-to : goal.rename-requires-clause-to
rename-requires-clause-to c =
    let P : List ℕ → Type 0 = λ n. IsIndexFor n c.self.inside.parts.chains.slots c.self.inside.parts.order.items c.in-Some-index_for.to in
    subst P (sym (name_read c.args.new.now c.in-Some-read.name c.in-Some-read.ensures).1) c.in-Some-index_for.ensures

pub returns : goal.returns
returns c =
    let p = c.self.inside.parts in
    let t = table_of p in
    let old = c.args.old.now in
    let new = c.args.new.now in
    let at = sym c.in-Some.ensures.place in
    let named = name_found p old c.in-Some.place c.in-Some.ensures.within at in
    let read = name_read new c.in-Some-read.name c.in-Some-read.ensures in
    done (Rename old new) c.self.view_is (view_of c.rename.new.self)
    (new_asked p old new c.in-Some.place c.self.invariant.kept.stored c.if-place-lt-BUILT_IN.false c.in-Some.ensures.within at
    ∙ passes (bad_name new) (exists_already t new ∷ []) (ap not read.0) ∙ passes (exists_already t new) [] (placed_nowhere t new c.in-Some-index_for.ensures.free))
    (c.rename.ensures.table ∙ (λ i. edited (Rename (named i) (read.1 i)) t))

pub invariant_of-self : goal.invariant_of-self
invariant_of-self c =
    record {
      kept = c.rename.ensures.kept;
      unmarked = moved_unmarked c.self.inside.parts.order.items c.rename.new.self.order.items c.self.inside.seen.items c.in-Some.place c.in-Some-index_for.to c.self.invariant.unmarked c.in-Some.ensures.within
          c.in-Some-index_for.ensures.within c.rename.ensures.moved;
    }
