use Rattle.std.proofs.Common.{List, [], ◌∷◌, ◌<◌, ◌≡◌, length, inl, inr, refl, sym, ◌∙◌, ap, subst, arith, length-append}
use Rattle.std.proofs.lemmas.List.Elements.{All-pop}
use Rattle.table.specs.chains.Table.{chain_at}
use Rattle.questions.specs.Scopes.{answered, known_by, table_of}
use Rattle.questions.specs.boxes.Cut.{IsAllowedIn}
use Rattle.questions.specs.declared.walking.task.Pending.{Pending}
use Rattle.questions.specs.steps.Waiting.{IsThere, rule_ahead}
use Rattle.questions.proofs.laws.PartedLaws.{last_same}
use Rattle.questions.proofs.laws.BranchLaws.{advances, high_left, still_apart}
use Rattle.questions.proofs.laws.ForeignLaws.{left_sound}
use Rattle.questions.proofs.laws.ResolvedLaws.{count_left, there_left}
use Rattle.questions.proofs.walking.ahead.advanced.Goals as goal

pub returns-clause-further : goal.returns-clause-further
returns-clause-further c = λ start are a.
    let s = c.args.subject.now in
    let own = table_of s in
    let t = answered s a in
    let at = c.in-Some.at in
    let passed = c.next_place-passed.result in
    let all = All-pop (IsThere own.chains) c.args.task.rests.items c.pop.new.self.items c.pop.result c.pop.ensures.items c.requires in
    let there = rw c.in-Some.is at all.1 in
    let none = c.next_place-passed.ensures.none start.area (c.in_ok-find.ensures start.area are) in
    record {
      same = refl;
      trail = refl;
      later = inr (c.pop.new.self.items, at, passed, c.in-Some.ensures.items, c.next_place-passed.ensures.low, c.in_ok-push.ensures.items);
      waits = λ p can of waits.
          advances t (known_by s a) start.area p (left_sound s.needs.now a own c.stands.ensures.sound) c.args.task (record { scope = c.args.task.scope; rests = c.push.new.self; trail = c.args.task.trail }) c.pop.new.self.items at passed
          (there_left s.needs.now a own at.chain there) can of.inside c.in-Some.ensures.items c.in_ok-push.ensures.items refl refl c.next_place-passed.ensures.low
          (high_left at.passed passed (length (chain_at own at.chain).rules) (length (chain_at t at.chain).rules) (count_left s.needs.now a own at.chain there) c.next_place-passed.ensures.high)
          (λ k lo hi. still_apart s.needs.now a own at c.stands.ensures.sound there start.area c.args.task.scope.area k
          (elim c.next_place-passed.ensures.high [
            | inl stays ↦ absurd (omega (arith, stays, lo, hi))
            | inr within ↦ omega (arith, within, hi)
          ]) (none k lo hi)) waits;
    }

pub returns-clause-kept : goal.returns-clause-kept
returns-clause-kept c = λ box are. c.count.ensures (table_of c.args.subject.now) box (c.in_ok-find.ensures box are)

pub returns-in_default-clause-stops : goal.returns-in_default-clause-stops
returns-in_default-clause-stops c = λ some below at newest lt.
    absurd (omega (arith, ap (λ (ps : List Pending). length ps) newest, length-append below (at ∷ []), c.in_default.ensures.cases.0, c.args.task.rests.ok.0))

pub returns-clause-stops : goal.returns-clause-stops
returns-clause-stops c = λ some below at newest lt.
    let here : Pending = record { chain = c.in-Some.at.chain; passed = c.next_place-passed.result } in
    let same : here ≡ at = last_same c.pop.new.self.items below here at (sym c.in_ok-push.ensures.items ∙ newest) in
    let own = table_of c.args.subject.now in
    let P : Pending → Type 0 = λ p. p.passed < length (chain_at own p.chain).rules → IsAllowedIn (rule_ahead own p) c.args.task.scope.area in
    subst P same (c.next_place-passed.ensures.stops some) lt
