use Rattle.std.proofs.Common.{◌≡◌, ◌∙◌, arith, false, length, true, get_or-set_same, length-set}
use Rattle.std.specs.Option.{option_map}
use Rattle.questions.specs.Ends.{rule_at}
use Rattle.questions.specs.Leaves.{name_at}
use Rattle.questions.proofs.laws.LeadLaws.{first_spread, none_marked, first_leads}
use Rattle.questions.proofs.asked.leading.spread_from.Goals as goal

pub returns-then-is_first : goal.returns-then-is_first
returns-then-is_first c =
    let t = c.args.subject.now.table.table in
    let marks = c.in_ok-marks.marks.items in
    first_spread t (option_map (rule_at t) c.args.own) marks c.args.place c.stands.ensures.sound (c.is_first.ensures c.if-is_first.true) c.requires.place
    (omega (arith, c.in_ok-marks.ensures.len, c.chain_count-count.ensures)) (none_marked marks c.chain_count-count.result (c.in_ok-marks.ensures.items_if_clones_equal (λ y e. e)))

pub loop-own-init : goal.loop-own-init
loop-own-init c =
    let t = c.args.subject.now.table.table in
    let marks = c.in_ok-marks.marks.items in
    let long : length marks ≡ length t.chains = omega (arith, c.in_ok-marks.ensures.len, c.chain_count-count.ensures) in
    record {
      long = length-set marks c.args.place true ∙ long;
      each = first_leads t (option_map (rule_at t) c.args.own) marks c.args.place (none_marked marks c.chain_count-count.result (c.in_ok-marks.ensures.items_if_clones_equal (λ y e. e)));
      own = get_or-set_same marks c.args.place true false (omega (arith, long, c.requires.place));
    }

pub returns : goal.returns
returns c =
    let t = c.args.subject.now.table.table in
    let more = c.spread.ensures.more in
    record {
      long = more.long ∙ c.loop-own.invariant.long;
      there = more.kept c.args.place c.loop-own.invariant.own;
      each = more.each (name_at t.chains c.args.place) c.loop-own.invariant.each;
      closed = c.spread.ensures.closed c.loop-own-test.false;
    }
