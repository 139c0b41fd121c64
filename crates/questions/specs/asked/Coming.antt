-- Whether one packet comes to a rule, for each assignment of conditions that this program doesn't know.
use Rattle.std.specs.Prelude.{◌≡◌, ◌≢◌, ℕ, ◌≤◌, List, [], length, Contains}
use Rattle.fields.specs.Packet.{PacketView as Packet}
use Rattle.table.specs.declared.verdict.Verdict.TheVariants.{TooLong}
use Rattle.table.specs.declared.walk.trail.Step.{Step}
use Rattle.table.specs.walk.Walk.{walk}
use Rattle.questions.specs.Foreign.{AreConsistent, Assignment}
use Rattle.questions.specs.Leaves.{entry_of}
use Rattle.questions.specs.Scopes.{answered, table_of, whole_of}
use Rattle.questions.specs.asked.Necessary.{AreEnough, AreNecessary}
use Rattle.questions.specs.asked.Unclear.{MayComeFrom}
use Rattle.questions.specs.boxes.Boxes.{IsOnly}
use Rattle.questions.specs.declared.asked.coming.Coming.{Coming}
use Rattle.questions.specs.declared.asked.coming.Coming.TheVariants.{Never, Under, Unclear}
use Rattle.questions.specs.declared.foreign.answers.Answer.{Answer}
use Rattle.questions.specs.declared.foreign.subject.Subject.{Subject}
use Rattle.questions.specs.declared.walking.scope.Scope.{Scope}

-- whatever holds, the rule isn't on the packet's walk, and that isn't too long
pub record NeverComes (subject : Subject) (step : Step) (p : Packet) : Type 0 where
  pub off : (a : Assignment) → Contains (walk (answered subject a) p).trail (entry_of (table_of subject).chains step) → ⊥
  pub short : (a : Assignment) → (walk (answered subject a) p).verdict ≢ TooLong

-- the rule is on the packet's walk where the answers are right, whatever else holds; some assignment gives them, and of up to eight each is necessary
pub record ComesUnder (subject : Subject) (step : Step) (budget : ℕ) (p : Packet) (answers : List Answer) : Type 0 where
  pub consistent : AreConsistent answers
  pub enough : AreEnough subject step p answers
  pub few : length answers ≤ 8 → AreNecessary subject step p budget answers

-- among packets with just these numbers one that comes to the rule is sought in vain, or walks may be too long
pub record MayCome (subject : Subject) (step : Step) (budget : ℕ) (p : Packet) : Type 0 where
  pub start : Scope
  pub only : IsOnly start.area p
  pub unasked : start.answers ≡ []
  pub vain : MayComeFrom (whole_of subject) start step p.hook budget

-- what an answer says of a packet and a rule
abbrev pub SaysComing : Subject → Step → ℕ → Packet → Coming → Type 0
SaysComing subject step budget p Never = NeverComes subject step p
SaysComing subject step budget p (Under answers) = ComesUnder subject step budget p answers
SaysComing subject step budget p Unclear = MayCome subject step budget p
