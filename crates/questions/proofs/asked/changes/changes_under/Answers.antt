use Rattle.questions.specs.Scopes.{table_of, whole_of}
use Rattle.questions.specs.declared.asked.changes.Changes.{Changes}
use Rattle.questions.specs.declared.asked.pairs.Side.TheVariants as side
use Rattle.questions.specs.steps.Shared.{unshared}
use Rattle.questions.proofs.laws.SharedLaws.{unpaired_of, all_placed, share_left}
use Rattle.questions.proofs.laws.CompareLaws.{changes_left}
use Rattle.questions.proofs.asked.changes.changes_under.Goals as goal

pub unshared_of-requires : goal.unshared_of-requires
unshared_of-requires c = rw c.as_slice.ensures.value (all_placed c.args.old.now c.args.new.now c.in_ok-pairs.pairs.items c.in_ok-pairs.ensures.paired)

pub unshared_of-requires-2 : goal.unshared_of-requires-2
unshared_of-requires-2 c = rw c.as_slice-2.ensures.value (all_placed c.args.old.now c.args.new.now c.in_ok-pairs.pairs.items c.in_ok-pairs.ensures.paired)

pub returns-clause-unpaired : goal.returns-clause-unpaired
returns-clause-unpaired c =
    let old = c.args.old.now in
    let new = c.args.new.now in
    let pairs = c.in_ok-pairs.pairs.items in
    record {
      went = unshared side.Went (table_of old).chains pairs;
      came = unshared side.Came (table_of old).chains pairs;
      changed = record {
        shared = λ a. share_left old new a pairs (λ k d lt. c.in_ok-pairs.ensures.paired k d lt a);
        unpaired = unpaired_of (whole_of old) (whole_of new) c.stands.ensures.sound c.stands-2.ensures.sound pairs c.in_ok-pairs.ensures.aligned c.in_ok-pairs.ensures.all;
      };
      first = rw c.as_slice.ensures.value at c.in_ok-went.ensures;
      second = rw c.as_slice-2.ensures.value at c.in_ok-came.ensures;
    }

pub returns-clause-changes : goal.returns-clause-changes
returns-clause-changes c = λ a.
    let changes : Changes = record { went = c.in_ok-went.went; came = c.in_ok-came.came } in
    changes_left c.args.old.now c.args.new.now changes (returns-clause-unpaired c) a
