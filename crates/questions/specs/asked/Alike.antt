-- What the answer to a comparison of two tables says, for every assignment of conditions that this program doesn't know.
use Rattle.std.specs.Prelude.{◌≡◌, ◌≢◌, List, Any}
use Rattle.fields.specs.declared.packet.hook.Hook.{Hook}
use Rattle.fields.specs.Packet.{PacketView as Packet}
use Rattle.table.specs.declared.verdict.Verdict.{Verdict}
use Rattle.table.specs.declared.walk.trail.Step.{Step}
use Rattle.table.specs.walk.Walk.{walk}
use Rattle.questions.specs.Foreign.{Agrees, AreConsistent, Assignment}
use Rattle.questions.specs.Scopes.{IsOf, answered, known_by, scope_of, table_of}
use Rattle.questions.specs.Written.{IsSampleOf}
use Rattle.questions.specs.asked.Verdicts.{IsAlike, IsOtherAt, IsSameAt}
use Rattle.questions.specs.boxes.Boxes.{IsAtHook}
use Rattle.questions.specs.declared.asked.likeness.Likeness.{Likeness}
use Rattle.questions.specs.declared.asked.likeness.Likeness.TheVariants.{Same, Differ, Unclear}
use Rattle.questions.specs.declared.asked.other.Shown.{Shown}
use Rattle.questions.specs.declared.foreign.answers.Answer.{Answer}
use Rattle.questions.specs.declared.foreign.subject.Subject.{Subject}
use Rattle.questions.specs.declared.walking.scope.Scope.{Scope}
use Rattle.questions.specs.declared.walking.task.Leaf.{Leaf}
use Rattle.questions.specs.steps.Compared.{IsSettled}

-- the tables are equal, and their rules need the same
pub record AreEqual (old new : Subject) : Type 0 where
  pub tables : table_of old ≡ table_of new
  pub needs : old.needs.now ≡ new.needs.now

-- whatever holds, both tables give each packet that can be at the hook the same verdict
abbrev pub IsAlwaysSameAt : Subject → Subject → Hook → Type 0
IsAlwaysSameAt old new hook = (a : Assignment) → IsSameAt (answered old a) (answered new a) hook

-- some assignment gives the answers, and the fact holds for each one that does
pub record HoldsWith (answers : List Answer) (holds : Assignment → Type 0) : Type 0 where
  pub consistent : AreConsistent answers
  pub each : (a : Assignment) → Agrees a answers → holds a

-- what an answer says of two tables for the packets at a hook, with this for "the same"; different: where the answers are right the tables give
-- the packet that the words write different verdicts, whatever else holds; an unclear one says nothing
abbrev pub SaysIf : Type 0 → Subject → Subject → Hook → Likeness → Type 0
SaysIf same old new hook Same = same
SaysIf same old new hook (Differ words answers) = HoldsWith answers (λ a. IsOtherAt (answered old a) (answered new a) hook words)
SaysIf same old new hook Unclear = Unit {0}

-- an answer is "the same" only where this fact holds
abbrev pub IsSameIf : Type 0 → Likeness → Type 0
IsSameIf same Same = same
IsSameIf same (Differ words answers) = Unit {0}
IsSameIf same Unclear = Unit {0}

-- an answer is "different" only where the tables give the packet that the words write different verdicts, if the answers are right
abbrev pub IsOtherIf : Subject → Subject → Hook → Likeness → Type 0
IsOtherIf old new hook Same = Unit {0}
IsOtherIf old new hook (Differ words answers) = HoldsWith answers (λ a. IsOtherAt (answered old a) (answered new a) hook words)
IsOtherIf old new hook Unclear = Unit {0}

-- whatever holds, each packet of the leaf's box that can be at the hook gets the leaf's verdict, if the leaf's answers are right
abbrev pub IsGivenBy : Subject → Hook → Leaf → Type 0
IsGivenBy subject hook leaf =
    (a : Assignment) (p : Packet) → IsAtHook p → p.hook ≡ hook → IsOf (known_by subject a) p (scope_of leaf) → (walk (answered subject a) p).verdict ≡ leaf.verdict

-- whatever holds, both tables give each packet of a scope that can be at the hook the same verdict, if the scope's answers are right
abbrev pub IsSameOn : Subject → Subject → Hook → Scope → Type 0
IsSameOn old new hook scope =
    (a : Assignment) (p : Packet) → IsAtHook p → p.hook ≡ hook → IsOf (known_by old a) p scope → IsAlike (answered old a) (answered new a) p

-- whatever holds, they give each packet at the hook that a rule of one of them matches the same verdict; or the rule is dead there, and the walks
-- of the packets that it matches aren't too long
abbrev pub IsAlwaysSettled : Subject → Subject → Subject → Hook → Step → Type 0
IsAlwaysSettled own old new hook step = (a : Assignment) → IsSettled (answered own a) (answered old a) (answered new a) hook step

-- a packet that a line writes, of a leaf that has another verdict, and the leaf's answers
abbrev pub IsOfOther : Hook → Verdict → List Leaf → Shown → Type 0
IsOfOther hook verdict leaves shown =
    Any (λ (leaf : Leaf). (leaf.verdict ≢ verdict) × (shown.answers ≡ leaf.answers) × ((p : Packet) × IsSampleOf hook leaf.area shown.words p)) leaves
