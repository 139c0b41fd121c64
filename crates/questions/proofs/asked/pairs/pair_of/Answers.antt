use Rattle.std.proofs.Common.{◌≡◌, ◌<◌, inl, inr, ℕ, zero, suc, Bool, List, length, get_or, refl, sym, ◌∙◌, ap, arith}
use Rattle.rules.specs.rule.Rules.{Rule}
use Rattle.table.specs.chains.Table.{chain_at}
use Rattle.questions.specs.Scopes.{answered, table_of, whole_of}
use Rattle.questions.specs.asked.Changes.{passed_by}
use Rattle.questions.specs.declared.asked.pairs.Pair.{Pair}
use Rattle.questions.specs.declared.asked.pairs.Places.{Places}
use Rattle.questions.specs.steps.Shared.{HaveNext, unmarked}
use Rattle.questions.proofs.laws.SharedLaws.{fewer_left, marks_next, none_marked, adds_place, next_shared, same_left, shared_next}
use Rattle.questions.proofs.laws.ResolvedLaws.{count_left}
use Rattle.questions.proofs.asked.pairs.pair_of.Goals as goal
use Rattle.questions.proofs.asked.pairs.pair_of.Goals.{else-loop-pair-test, then-loop-pair-test+else-len-count}

pub loop-pair-init : goal.loop-pair-init
loop-pair-init c = record {
  beside = λ a.
      (let xs : List Rule = (chain_at (answered c.args.old.now a) c.args.chains.old).rules in
      let ys : List Rule = (chain_at (answered c.args.new.now a) c.args.chains.new).rules in
      record {
        place = refl;
        shared = ap (λ (ms : List Bool). unmarked ms xs) c.new.ensures.items ∙ none_marked xs ∙ sym (ap (λ (ms : List Bool). unmarked ms ys) c.new-2.ensures.items ∙ none_marked ys);
      });
  marks = (zero, (c.new.ensures.items, c.new-2.ensures.items));
}

pub loop-pair-preserved : goal.loop-pair-preserved
loop-pair-preserved c =
    let s = c.args.old.now in
    let other = c.args.new.now in
    let old : Pair = c.loop-pair.pair in
    let new : Pair = c.add.new.self in
    let went : c.len-in-loop-pair-2.result ≡ length old.went.items = omega (arith, c.len-in-loop-pair-2.ensures, c.loop-pair.pair.went.ok.0) in
    let came : c.len-in-loop-pair-3.result ≡ length old.came.items = omega (arith, c.len-in-loop-pair-3.ensures, c.loop-pair.pair.came.ok.0) in
    let make : ℕ → ℕ → Places = λ x y. record { old = x; new = y } in
    let passed : Places = make c.len-in-loop-pair-2.result c.len-in-loop-pair-3.result in
    let at : passed ≡ passed_by old = ap (λ x. make x c.len-in-loop-pair-3.result) went ∙ ap (λ y. make (length old.went.items) y) came in
    let lt : length old.went.items < c.rule_count.result = omega (arith, c.len.ensures, c.loop-pair.pair.went.ok.0, c.loop-pair-test.true) in
    let too : length old.came.items < c.rule_count-2.result = omega (arith, c.len-in-loop-pair.ensures, c.loop-pair.pair.came.ok.0, c.if-len-count.true) in
    let have : HaveNext (table_of s) (table_of other) c.args.chains passed = record {
      there = c.requires;
      first = omega (arith, lt, went, c.rule_count.ensures);
      second = omega (arith, too, came, c.rule_count-2.ensures);
    } in
    record {
      beside = λ a.
          (let xs : List Rule = (chain_at (answered s a) c.args.chains.old).rules in
          let ys : List Rule = (chain_at (answered other a) c.args.chains.new).rules in
          let first : length old.went.items < length xs = omega (arith, lt, c.rule_count.ensures, count_left s.needs.now a (table_of s) c.args.chains.old c.requires.first) in
          let second : length old.came.items < length ys = omega (arith, too, c.rule_count-2.ensures, count_left other.needs.now a (table_of other) c.args.chains.new c.requires.second) in
          record {
            place = adds_place c.next_of.result old new c.in_ok-add.ensures ∙ (c.loop-pair.invariant.beside a).place;
            shared = shared_next xs ys c.next_of.result old new c.in_ok-add.ensures first second
                (λ e d. ap (λ k. get_or xs k d) (sym went) ∙ same_left s other c.args.chains passed have (next_shared (whole_of s) (whole_of other) c.args.chains passed c.next_of.result e c.next_of.ensures) a d ∙ ap (λ k. get_or ys k d) came) (c.loop-pair.invariant.beside a).shared;
          });
      marks = (
        suc c.loop-pair.invariant.marks.0,
        marks_next (whole_of s) (whole_of other) c.args.chains passed c.loop-pair.invariant.marks.0 old new c.next_of.result at c.loop-pair.invariant.marks.1 have c.next_of.ensures c.in_ok-add.ensures,
      );
    }

pub loop-pair-smaller : goal.loop-pair-smaller
loop-pair-smaller c =
    let old : Pair = c.loop-pair.pair in
    fewer_left c.next_of.result old c.add.new.self c.rule_count.result c.rule_count-2.result c.in_ok-add.ensures (omega (arith, c.len.ensures, c.loop-pair.pair.went.ok.0, c.loop-pair-test.true)) (omega (arith, c.len-in-loop-pair.ensures, c.loop-pair.pair.came.ok.0, c.if-len-count.true))

pub returns-clause-aligned : goal.returns-clause-aligned
returns-clause-aligned c = record {
  steps = c.loop-pair.invariant.marks.0;
  marks = c.loop-pair.invariant.marks.1;
  ended = elim c.loop-pair-test.branch [
    | then-loop-pair-test+else-len-count w ↦ inr (omega (arith, w.if-len-count.false, w.len-in-loop-pair.ensures, c.loop-pair.pair.came.ok.0, c.rule_count-2.ensures))
    | else-loop-pair-test w ↦ inl (omega (arith, w.loop-pair-test.false, c.len.ensures, c.loop-pair.pair.went.ok.0, c.rule_count.ensures))
  ];
}

pub returns-clause-beside : goal.returns-clause-beside
returns-clause-beside c = c.loop-pair.invariant.beside
