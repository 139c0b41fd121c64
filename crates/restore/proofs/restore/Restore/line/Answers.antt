use Rattle.std.proofs.Common.{rules, ◌∙◌, ℕ, Bool, ap, subst, sym}
use Rattle.std.proofs.lemmas.Bool.{false≢true}
use Rattle.table.specs.edits.Edits.{MakesBoxes, MakesOneBox}
use Rattle.table.proofs.laws.edits.EditLaws.{none_made}
use Rattle.restore.specs.sections.Lines.{line_puts}
use Rattle.restore.specs.sections.Restore.{Between, Skipping, Building, Restore, SectionState}
use Rattle.restore.proofs.laws.sections.BoxLaws.{commit_puts, section_line_puts}
use Rattle.restore.proofs.laws.sections.LineLaws.{between_err, between_ok, reached, section_commits, section_err, section_ok, skipped_line, stopped, too_long}
use Rattle.restore.proofs.restore.Restore.line.Goals as goal
use Rattle.restore.proofs.restore.Restore.line.Goals.{in-Between+in_ok-next-in-Between, in-Skipping, in-Building+then-is_commit, in-Building+else-is_commit+in_ok-line-in-Building}

pub returns-then-is_too_long-clause-step : goal.returns-then-is_too_long-clause-step
returns-then-is_too_long-clause-step c = too_long c.args.self c.args.line.now c.args.table.now (sym c.is_too_long.ensures ∙ c.if-is_too_long.true)

pub returns-in_err-next-in-Between-clause-step : goal.returns-in_err-next-in-Between-clause-step
returns-in_err-next-in-Between-clause-step c =
    stopped c.self.inside.noflush c.self.inside.test c.args.line.now c.args.table.now c.self.inside.state Between c.args.self c.in_err-next-in-Between.field-0.0
    c.from_residual.result c.self.view_is c.in-Between.is (search rules)
    (between_err c.self.inside.noflush c.self.inside.test c.args.line.now (sym c.is_too_long.ensures ∙ c.if-is_too_long.false) c.args.table.now
    c.in_err-next-in-Between.field-0.0 c.in_err-next-in-Between.ensures.step c.in_err-next-in-Between.ensures.quiet c.in_err-next-in-Between.ensures.commit)

pub returns-in_err-line-in-Building-clause-step : goal.returns-in_err-line-in-Building-clause-step
returns-in_err-line-in-Building-clause-step c =
    stopped c.self.inside.noflush c.self.inside.test c.args.line.now c.args.table.now c.self.inside.state (Building c.in-Building.section) c.args.self
    c.in_err-line-in-Building.field-0.0 c.from_residual-in_err-line-in-Building.result c.self.view_is c.in-Building.is (search rules)
    (section_err c.self.inside.noflush c.self.inside.test c.args.line.now (sym c.is_too_long.ensures ∙ c.if-is_too_long.false) c.args.table.now
    c.in-Building.section c.in_err-line-in-Building.field-0.0 (sym c.is_commit.ensures ∙ c.if-is_commit.false) c.in_err-line-in-Building.ensures.step c.in_err-line-in-Building.ensures.quiet)

pub returns-clause-step : goal.returns-clause-step
returns-clause-step c =
    let short = sym c.is_too_long.ensures ∙ c.if-is_too_long.false in
    elim c.match-state.branch [
      | in-Between+in_ok-next-in-Between w ↦
          reached c.self.inside.noflush c.self.inside.test c.args.line.now c.args.table.now c.match-state.table c.args.table.now c.self.inside.state Between
          c.match-state.next w.in_ok-next-in-Between.next c.args.self c.self.view_is w.in-Between.is w.table-is w.next-is
          (between_ok c.self.inside.noflush c.self.inside.test c.args.line.now short c.args.table.now w.in_ok-next-in-Between.next w.in_ok-next-in-Between.ensures.step)
      | in-Skipping w ↦
          reached c.self.inside.noflush c.self.inside.test c.args.line.now c.args.table.now c.match-state.table c.args.table.now c.self.inside.state Skipping
          c.match-state.next _ c.args.self c.self.view_is w.in-Skipping.is w.table-is (w.next-is ∙ w.skipped-next.ensures)
          (skipped_line c.self.inside.noflush c.self.inside.test c.args.line.now short c.args.table.now)
      | in-Building+then-is_commit w ↦
          reached c.self.inside.noflush c.self.inside.test c.args.line.now c.args.table.now c.match-state.table w.commit.new.table c.self.inside.state
          (Building w.in-Building.section) c.match-state.next Between c.args.self c.self.view_is w.in-Building.is w.table-is w.next-is
          (section_commits c.self.inside.noflush c.self.inside.test c.args.line.now short c.args.table.now w.commit.new.table w.in-Building.section
          (sym w.is_commit.ensures ∙ w.if-is_commit.true) w.commit.ensures.table w.commit.ensures.tested)
      | in-Building+else-is_commit+in_ok-line-in-Building w ↦
          reached c.self.inside.noflush c.self.inside.test c.args.line.now c.args.table.now c.match-state.table c.args.table.now c.self.inside.state
          (Building w.in-Building.section) c.match-state.next (Building w.in_ok-line-in-Building.field-0) c.args.self c.self.view_is w.in-Building.is w.table-is w.next-is
          (section_ok c.self.inside.noflush c.self.inside.test c.args.line.now short c.args.table.now w.in-Building.section w.in_ok-line-in-Building.field-0
          (sym w.is_commit.ensures ∙ w.if-is_commit.false) w.in_ok-line-in-Building.ensures.step)
    ]

pub returns-then-is_too_long-clause-work : goal.returns-then-is_too_long-clause-work
returns-then-is_too_long-clause-work c = none_made (line_puts c.args.self.state c.args.line.now) c.args.work.now

pub returns-in_err-next-in-Between-clause-work : goal.returns-in_err-next-in-Between-clause-work
returns-in_err-next-in-Between-clause-work c = none_made (line_puts c.args.self.state c.args.line.now) c.args.work.now

pub returns-in_err-line-in-Building-clause-work : goal.returns-in_err-line-in-Building-clause-work
returns-in_err-line-in-Building-clause-work c =
    let stands = sym (ap (λ (r : Restore). r.state) c.self.view_is) ∙ c.in-Building.is in
    subst (λ (b : Bool). MakesBoxes b c.args.work.now c.line.new.work)
    (section_line_puts c.args.self.state c.in-Building.section c.args.line.now stands (sym c.is_commit.ensures ∙ c.if-is_commit.false))
    c.in_err-line-in-Building.ensures.work

pub returns-clause-work : goal.returns-clause-work
returns-clause-work c =
    let here = sym (ap (λ (r : Restore). r.state) c.self.view_is) in
    let asks = line_puts c.args.self.state c.args.line.now in
    let Made : ℕ → Type 0 = λ n. MakesBoxes asks c.args.work.now n in
    elim c.match-state.branch [
      | in-Between+in_ok-next-in-Between w ↦ subst Made (sym w.work-is) (none_made asks c.args.work.now)
      | in-Skipping w ↦ subst Made (sym w.work-is) (none_made asks c.args.work.now)
      | in-Building+then-is_commit w ↦ subst Made (sym w.work-is) (none_made asks c.args.work.now)
      | in-Building+else-is_commit+in_ok-line-in-Building w ↦
          subst Made (sym w.work-is)
          (subst (λ (b : Bool). MakesBoxes b c.args.work.now w.line.new.work)
          (section_line_puts c.args.self.state w.in-Building.section c.args.line.now (here ∙ w.in-Building.is) (sym w.is_commit.ensures ∙ w.if-is_commit.false))
          w.in_ok-line-in-Building.ensures.work)
    ]

pub returns-clause-boxed : goal.returns-clause-boxed
returns-clause-boxed c asks =
    let here = sym (ap (λ (r : Restore). r.state) c.self.view_is) in
    let puts : SectionState → Bool = λ p. line_puts p c.args.line.now in
    let One : ℕ → Type 0 = λ n. MakesOneBox c.args.work.now n in
    elim c.match-state.branch [
      | in-Between+in_ok-next-in-Between w ↦ absurd (false≢true (sym (ap puts (here ∙ w.in-Between.is)) ∙ asks))
      | in-Skipping w ↦ absurd (false≢true (sym (ap puts (here ∙ w.in-Skipping.is)) ∙ asks))
      | in-Building+then-is_commit w ↦
          absurd (false≢true (sym (commit_puts c.args.self.state w.in-Building.section c.args.line.now (here ∙ w.in-Building.is) (sym w.is_commit.ensures ∙ w.if-is_commit.true)) ∙ asks))
      | in-Building+else-is_commit+in_ok-line-in-Building w ↦
          subst One (sym w.work-is)
          (w.in_ok-line-in-Building.ensures.boxed
          (section_line_puts c.args.self.state w.in-Building.section c.args.line.now (here ∙ w.in-Building.is) (sym w.is_commit.ensures ∙ w.if-is_commit.false) ∙ asks))
    ]
