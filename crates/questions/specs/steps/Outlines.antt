-- The least and the greatest number of a box on some fields.
use Rattle.std.specs.Prelude.{ℕ, ◌≤◌, List}
use Rattle.fields.specs.declared.numbers.field.Field.TheVariants as field
use Rattle.fields.specs.numbers.Field.{number_on}
use Rattle.fields.specs.numbers.Spans.{SpanSet}
use Rattle.classify.specs.Classifier.{IsPoint}
use Rattle.questions.specs.boxes.Boxes.{Has}
use Rattle.questions.specs.declared.boxes.ends.Ends.{Ends}
use Rattle.questions.specs.declared.boxes.ends.Outline.{Outline}

-- the number is from the first to the last
pub record IsBetween (ends : Ends) (x : ℕ) : Type 0 where
  pub least : ends.first ≤ x
  pub greatest : x ≤ ends.last

-- so are the numbers on each field of the outline
pub record IsWithin (outline : Outline) (numbers : List ℕ) : Type 0 where
  pub source : IsBetween outline.source (number_on numbers field.Source)
  pub destination : IsBetween outline.destination (number_on numbers field.Destination)
  pub protocol : IsBetween outline.protocol (number_on numbers field.Protocol)
  pub source_port : IsBetween outline.source_port (number_on numbers field.SourcePort)
  pub destination_port : IsBetween outline.destination_port (number_on numbers field.DestinationPort)

-- all packets of the box are within the outline
abbrev pub IsOutlined : List SpanSet → Outline → Type 0
IsOutlined box outline = (numbers : List ℕ) → IsPoint numbers → Has box numbers → IsWithin outline numbers
