use Rattle.std.proofs.Common.{sym}
use Rattle.restore.proofs.laws.sections.ByteLaws.{too_short, not_opened, not_closed, opened_and_closed}
use Rattle.restore.proofs.section.chain_line.in_brackets.Goals as goal
use Rattle.restore.proofs.section.chain_line.in_brackets.Goals.{then-text-lt2-via-then-text-lt2, then-text-lt2-via-else-text-lt2+then-text-ne91, then-text-lt2-via-else-text-lt2+else-text-ne91+then-text-ne93}

pub returns : goal.returns
returns c = sym (opened_and_closed c.args.text.now c.if-text-lt2.false c.if-text-ne91.false c.if-text-ne93.false)

pub returns-then-text-lt2 : goal.returns-then-text-lt2
returns-then-text-lt2 c =
    elim c.then-text-lt2.branch [
      | then-text-lt2-via-then-text-lt2 w ↦ sym (too_short c.args.text.now w.if-text-lt2.true)
      | then-text-lt2-via-else-text-lt2+then-text-ne91 w ↦ sym (not_opened c.args.text.now w.if-text-ne91.true)
      | then-text-lt2-via-else-text-lt2+else-text-ne91+then-text-ne93 w ↦ sym (not_closed c.args.text.now w.if-text-ne93.true)
    ]
