use Rattle.std.proofs.Common.{◌≡◌, inl, inr, List, [], ◌∷◌, length, arith, sym, subst, true, All, IsTrue, Some}
use Rattle.std.proofs.lemmas.Bool.{cases_Bool, true≢false}
use Rattle.std.proofs.lemmas.List.Elements.{All-nil, All-pop, All-push}
use Rattle.rules.specs.rule.Allows.{matches}
use Rattle.rules.specs.rule.Rules.{Rule}
use Rattle.questions.specs.Ends.{rule_at}
use Rattle.questions.specs.Foreign.{all_hold}
use Rattle.questions.specs.Scopes.{table_of, whole_of}
use Rattle.questions.specs.declared.foreign.need.Need.{Need}
use Rattle.questions.specs.declared.seeking.way.Way.{Way}
use Rattle.questions.specs.declared.walking.scope.Scope.{Scope}
use Rattle.questions.specs.steps.Seeking.{AllWant, IsHere, IsLetOn, LiesIn, TakesPlace}
use Rattle.questions.specs.steps.Takers.{needs_of}
use Rattle.questions.proofs.laws.PacketLaws.{written_at_hooks}
use Rattle.questions.proofs.laws.SeekLaws.{OfEachMatched, first_way, have_all, lie_next, next_ways, none_comes, none_matched, point_of}
use Rattle.questions.proofs.laws.WayLaws.{adds_none, tries_next}
use Rattle.questions.proofs.seeking.seek.seek.Goals as goal
use Rattle.questions.proofs.seeking.seek.seek.Goals.{else-clear-2-via-else-clear-2, else-clear-2-via-then-clear-2+else-is_empty, in-Parted, in-Unknown}

pub loop-tried-init : goal.loop-tried-init
loop-tried-init c =
    let s = c.args.subject.now in
    let start = c.args.start.now in
    let step = c.args.step in
    let hook = c.args.course.hook in
    let way : Way = c.first.result in
    let ways = c.push.new.self.items in
    let Wants : Way → Type 0 = λ w. w.wanted ≡ step in
    let Lies : Way → Type 0 = λ w. LiesIn start w.scope in
    let seen = rw c.in-Some.is at c.at.ensures in
    let one : ways ≡ way ∷ [] = rw c.new-ways.ensures.items at c.in_ok-push.ensures.items in
    let met = rw c.in-Some-2.is at c.in_ok-scope.ensures in
    let At : Scope → Type 0 = λ x. IsLetOn (rule_at (table_of s) step) (needs_of s.needs.now step) start x in
    let own : At way.scope = subst At (sym c.first.ensures.scope) (rw (← seen.rule, ← seen.needs) met.only) in
    let let_on : OfEachMatched s start step (λ a p. IsHere a p way.scope) =
    λ a p at here m held.
    let Here : Scope → Type 0 = λ x. IsHere a p x in
    let Matches : Rule → Type 0 = λ r. matches p.values r ≡ true in
    let Hold : List Need → Type 0 = λ needs. IsTrue (all_hold a needs) in
    subst Here (sym c.first.ensures.scope) (met.all a p at here (subst Matches (sym seen.rule) m) (subst Hold (sym seen.needs) held)) in
    record {
      wanted = subst (λ (l : List Way). AllWant step l) (sym one) (All-push Wants [] way (All-nil Wants) c.first.ensures.wanted);
      inside = subst (λ (l : List Way). All Lies l) (sym one) (All-push Lies [] way (All-nil Lies) own.area.first);
      all = λ clear. first_way s start step hook way ways c.stands.ensures.sound c.requires c.first.ensures.wanted let_on c.first.ensures.places one;
      tries = (way, record { wanted = c.first.ensures.wanted; own = own; places = c.first.ensures.places }, sym one);
      vain = λ off. absurd (true≢false off);
    }

pub loop-tried-preserved : goal.loop-tried-preserved
loop-tried-preserved c =
    let s = c.args.subject.now in
    let t = whole_of s in
    let start = c.args.start.now in
    let step = c.args.step in
    let hook = c.args.course.hook in
    let way = c.in-Some-pop.way in
    let old = c.loop-tried.ways.items in
    let left = c.pop.new.self.items in
    let new = c.try_way.new.ways.items in
    let Lies : Way → Type 0 = λ w. LiesIn start w.scope in
    let last = All-pop (λ (w : Way). w.wanted ≡ step) old left (Some way) c.in-Some-pop.ensures.items c.loop-tried.invariant.wanted in
    let inside = All-pop Lies old left (Some way) c.in-Some-pop.ensures.items c.loop-tried.invariant.inside in
    let (first, begins, tries) = c.loop-tried.invariant.tries in
    elim c.match-branch-5.branch [
      | in-Parted w ↦ (
          let (takes, goes) = rw w.in-Parted.is at c.in_ok-words.ensures in
          rw w.clear-is (record {
            wanted = takes.wanted step last.1 last.0;
            inside = lie_next t start way left new inside.1 inside.0 goes;
            all = λ clear. next_ways s start step hook way old left new c.in-Some-pop.ensures.items last.1 takes (c.loop-tried.invariant.all clear);
            tries = (first, begins, tries_next c.loop-tried.tried t (first ∷ []) old new tries (left, way, c.in-Some-pop.ensures.items, goes));
            vain = c.loop-tried.invariant.vain;
          }))
      | in-Unknown w ↦ (
          let (same, untold) = rw w.in-Unknown.is at c.in_ok-words.ensures in
          rw w.clear-is (record {
            wanted = rw (← same) at last.0;
            inside = rw (← same) at inside.0;
            all = λ clear. absurd (true≢false (sym clear));
            tries = (first, begins, rw (← same) at (tries_next c.loop-tried.tried t (first ∷ []) old left tries (left, way, c.in-Some-pop.ensures.items, adds_none (TakesPlace t way) left)));
            vain = λ off. elim (cases_Bool c.loop-tried.clear) [
              | inr before ↦ c.loop-tried.invariant.vain before
              | inl clear ↦ record {
                first = first;
                ways = old;
                begins = begins;
                n = c.loop-tried.tried;
                tries = tries;
                all = have_all s start step hook old (c.loop-tried.invariant.all clear);
                vain = inr (omega (arith, c.loop-tried-test.true), (left, way, c.in-Some-pop.ensures.items, untold));
              }
            ];
          }))
    ]

pub returns-in_default-2-clause-says : goal.returns-in_default-2-clause-says
returns-in_default-2-clause-says c =
    let seen = rw c.in-Some.is at c.at.ensures in
    none_matched c.args.subject.now c.args.start.now c.args.step c.args.course.hook c.stands.ensures.sound c.requires (λ a p at here m held.
    let Matches : Rule → Type 0 = λ r. matches p.values r ≡ true in
    let Hold : List Need → Type 0 = λ needs. IsTrue (all_hold a needs) in
    (rw c.in_default-2.is at c.in_ok-scope.ensures.all) a p at here (subst Matches (sym seen.rule) m) (subst Hold (sym seen.needs) held))

pub returns-in_default-clause-says : goal.returns-in_default-clause-says
returns-in_default-clause-says c = absurd ((rw c.in_default.is at c.at.ensures) c.requires)

pub try_way-requires : goal.try_way-requires
try_way-requires c =
    let step = c.args.step in
    let last = All-pop (λ (w : Way). w.wanted ≡ step) c.loop-tried.ways.items c.pop.new.self.items (Some c.in-Some-pop.way) c.in-Some-pop.ensures.items c.loop-tried.invariant.wanted in
    rw (← last.1) at c.requires

pub returns-in-Comes-clause-says : goal.returns-in-Comes-clause-says
returns-in-Comes-clause-says c =
    let step = c.args.step in
    let start = c.args.start.now in
    let Lies : Way → Type 0 = λ w. LiesIn start w.scope in
    let last = All-pop (λ (w : Way). w.wanted ≡ step) c.loop-tried.ways.items c.pop.new.self.items (Some c.in-Some-pop.way) c.in-Some-pop.ensures.items c.loop-tried.invariant.wanted in
    let inside = All-pop Lies c.loop-tried.ways.items c.pop.new.self.items (Some c.in-Some-pop.way) c.in-Some-pop.ensures.items c.loop-tried.invariant.inside in
    let says = rw c.in-Comes.is at c.in_ok-words.ensures in
    let (p, sample) = says.1 in
    (rw last.1 at says.0, (p, record { writes = sample.writes; there = sample.there; inside = inside.1 p.values (point_of p (written_at_hooks c.in-Comes.words p sample.writes)) sample.inside }))

-- no way is left
pub returns-then-clear-clause-says : goal.returns-then-clear-clause-says
returns-then-clear-clause-says c =
    let none : length c.loop-tried.ways.items ≡ 0 = omega (arith, c.in_default-pop.ensures.cases.0, c.loop-tried.ways.ok.0) in
    none_comes c.args.subject.now c.args.start.now c.args.step c.args.course.hook c.loop-tried.ways.items none (c.loop-tried.invariant.all c.if-clear.true)

pub returns-then-is_empty-clause-says : goal.returns-then-is_empty-clause-says
returns-then-is_empty-clause-says c =
    let none : length c.loop-tried.ways.items ≡ 0 = grind (arith, c.is_empty.ensures, c.if-is_empty.true, c.loop-tried.ways.ok.0) in
    none_comes c.args.subject.now c.args.start.now c.args.step c.args.course.hook c.loop-tried.ways.items none (c.loop-tried.invariant.all c.if-clear-2.true)

-- some way is left, or one can't be told

pub returns-clause-vain : goal.returns-clause-vain
returns-clause-vain c =
    let (first, begins, tries) = c.loop-tried.invariant.tries in
    elim c.else-clear-2.branch [
      | else-clear-2-via-then-clear-2+else-is_empty w ↦ record {
        first = first;
        ways = c.loop-tried.ways.items;
        begins = begins;
        n = c.loop-tried.tried;
        tries = tries;
        all = have_all c.args.subject.now c.args.start.now c.args.step c.args.course.hook c.loop-tried.ways.items (c.loop-tried.invariant.all w.if-clear-2.true);
        vain = inl (omega (arith, c.loop-tried-test.false, c.loop-tried.auto.tried-end), grind (arith, w.is_empty.ensures, w.if-is_empty.false, c.loop-tried.ways.ok.0));
      }
      | else-clear-2-via-else-clear-2 w ↦ c.loop-tried.invariant.vain w.if-clear-2.false
    ]
