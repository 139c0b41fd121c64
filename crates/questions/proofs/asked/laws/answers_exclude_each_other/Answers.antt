use Rattle.questions.proofs.laws.PacketLaws.{written_at_hooks}
use Rattle.questions.proofs.asked.laws.answers_exclude_each_other.Goals as goal

pub returns-clause-lines : goal.returns-clause-lines
returns-clause-lines c = written_at_hooks

pub returns-clause-dead : goal.returns-clause-dead
returns-clause-dead c = λ t entry words dead live. dead live.0 (written_at_hooks words live.0 live.1) live.2

pub returns-clause-same : goal.returns-clause-same
returns-clause-same c = λ old new words same other. other.2 (same other.0 (written_at_hooks words other.0 other.1))
