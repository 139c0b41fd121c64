use Rattle.std.proofs.lemmas.Result.{IfOk-weaker}
use Rattle.fields.specs.declared.numbers.field.Field.TheVariants as field
use Rattle.questions.specs.boxes.Boxes.{IsNarrowed}
use Rattle.questions.specs.steps.Transports.{IsFirstWith}
use Rattle.questions.proofs.laws.TransportLaws.{first_of_narrowed}
use Rattle.questions.proofs.boxes.transport.first_of.Goals as goal

pub returns : goal.returns
returns c = λ test same.
    IfOk-weaker c.narrow-2.result (IsNarrowed field.Fragment c.in_ok-first.first c.in_ok-alike.alike) (IsFirstWith test c.args.area)
    (λ after h. first_of_narrowed c.args.protocols.now c.in_ok-first.first test c.args.area c.in_ok-alike.alike after same c.in_ok-first.ensures.members c.in_ok-alike.ensures h) c.narrow-2.ensures
