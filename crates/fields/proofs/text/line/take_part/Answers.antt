use Rattle.std.proofs.Common.{◌≢◌, ◌+◌, ◌<◌, [], length, take, rules, arith, subst}
use Rattle.std.proofs.lemmas.Grind.{common_steps}
use Rattle.std.proofs.lemmas.List.Elements.{All-nil}
use Rattle.std.specs.Io.BufRead.{FillKeeps}
use Rattle.std.specs.Io.KnownBytes.{Consumes}
use Rattle.std.proofs.BufReadLemmas.{Consumes_shown}
use Rattle.fields.proofs.laws.text.LineLaws.{shows_nothing, holds_nothing, through}
use Rattle.fields.proofs.text.line.take_part.Goals as goal

pub returns-then-is_empty-clause-takes : goal.returns-then-is_empty-clause-takes
returns-then-is_empty-clause-takes g c =
    let rested = c.fill.follows.lender-at-none in
    let filled = subst (FillKeeps _ (g.R.Read.remaining rested.device) (g.R.BufRead.consumable_len rested.device)) c.in-Ok.is c.fill.follows.holds-at-none.0 in
    let nothing = shows_nothing _ _ c.in-Ok.shown.now c.in-Ok.ensures.end filled.0 (search rules) in
    ([], All-nil (λ b. b ≢ 10), holds_nothing _ _ _, (search rules, nothing.0, nothing.1))

pub returns-then-n-shown-clause-takes : goal.returns-then-n-shown-clause-takes
returns-then-n-shown-clause-takes g c =
    let shown = c.in-Ok.shown.now in
    let n = c.newline_at-n.result in
    let rested = c.fill.follows.lender-at-none in
    let filled = subst (FillKeeps _ (g.R.Read.remaining rested.device) (g.R.BufRead.consumable_len rested.device)) c.in-Ok.is c.fill.follows.holds-at-none.0 in
    let moved = Consumes_shown _ _ _ _ shown (n + 1) (omega arith) c.in-Ok.ensures.front c.in-Ok.ensures.end filled.0 filled.1 (c.eat.ensures.bytes (search rules)) in
    (take n shown, c.newline_at-n.ensures.before, c.hold.ensures.holds, subst (Consumes _ _) (through shown n (omega arith) (c.newline_at-n.ensures.found (omega arith))) moved.0)

pub returns-clause-takes : goal.returns-clause-takes
returns-clause-takes g c =
    let shown = c.in-Ok.shown.now in
    let n = c.newline_at-n.result in
    let rested = c.fill.follows.lender-at-none in
    let filled = subst (FillKeeps _ (g.R.Read.remaining rested.device) (g.R.BufRead.consumable_len rested.device)) c.in-Ok.is c.fill.follows.holds-at-none.0 in
    let moved = Consumes_shown _ _ _ _ shown n (omega arith) c.in-Ok.ensures.front c.in-Ok.ensures.end filled.0 filled.1 (c.eat-2.ensures.bytes (search rules)) in
    let some : 0 < length (take n shown) = grind (arith, common_steps) in
    (take n shown, c.newline_at-n.ensures.before, c.hold.ensures.holds, (some, moved.0))
