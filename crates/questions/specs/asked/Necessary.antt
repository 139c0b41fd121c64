-- Which of the answers that bring a packet to a rule are necessary.
use Rattle.std.specs.Prelude.{◌≡◌, ◌≢◌, ◌⊎◌, ℕ, ◌≤◌, List, length, All, Contains, Ok}
use Rattle.fields.specs.Packet.{PacketView as Packet, packet_of}
use Rattle.table.specs.declared.walk.trail.Step.{Step}
use Rattle.table.specs.walk.Walk.{walk}
use Rattle.questions.specs.Foreign.{Agrees, AreConsistent, Assignment, IsUnanswered}
use Rattle.questions.specs.Leaves.{entry_of}
use Rattle.questions.specs.Scopes.{answered, table_of, whole_of}
use Rattle.questions.specs.asked.Unclear.{IsUnended}
use Rattle.questions.specs.declared.asked.rule.Life.{Life}
use Rattle.questions.specs.declared.asked.rule.Life.TheVariants.{Dead, Live, Unclear}
use Rattle.questions.specs.declared.foreign.answers.Answer.{Answer}
use Rattle.questions.specs.declared.foreign.subject.Subject.{Subject}

-- answers suffice for the rule to be on the packet's walk: it is, under each assignment that gives them
abbrev pub AreEnough : Subject → Step → Packet → List Answer → Type 0
AreEnough subject step p answers = (a : Assignment) → Agrees a answers → Contains (walk (answered subject a) p).trail (entry_of (table_of subject).chains step)

-- answers may not suffice for the rule to be on the packet's walk: some assignment gives them, and it isn't; or the packet's walks where they are right
-- aren't known to end within so many steps
abbrev pub MayNotSuffice : Subject → Step → Packet → ℕ → List Answer → Type 0
MayNotSuffice subject step p budget answers =
    ((a : Assignment) × Agrees a answers × (Contains (walk (answered subject a) p).trail (entry_of (table_of subject).chains step) → ⊥))
    ⊎ IsUnended (whole_of subject) p.hook budget answers p

-- an answer is necessary: without it, the others, and perhaps more, may not suffice
pub record IsNecessary (subject : Subject) (step : Step) (p : Packet) (budget : ℕ) (answers : List Answer) (answer : Answer) : Type 0 where
  pub others : List Answer
  pub consistent : AreConsistent others
  pub without : IsUnanswered others answer.condition
  pub all : All (λ (other : Answer). other.condition ≢ answer.condition → Contains others other) answers
  pub insufficient : MayNotSuffice subject step p budget others

-- each answer is necessary
abbrev pub AreNecessary : Subject → Step → Packet → ℕ → List Answer → Type 0
AreNecessary subject step p budget answers = All (IsNecessary subject step p budget answers) answers

-- of up to eight answers each is necessary, for the packet that the words write
abbrev pub AreFew : Subject → Step → List (List ℕ) → ℕ → List Answer → Type 0
AreFew subject step words budget answers = length answers ≤ 8 → (p : Packet) → packet_of words ≡ Ok p → AreNecessary subject step p budget answers

-- a rule that is live is so by few answers
abbrev pub IsByFew : Subject → Step → ℕ → Life → Type 0
IsByFew subject step budget Dead = Unit {0}
IsByFew subject step budget (Live words answers) = AreFew subject step words budget answers
IsByFew subject step budget Unclear = Unit {0}
