use Rattle.std.proofs.Common.{◌∙◌, ap, drop}
use Rattle.fields.specs.Packet.{checked}
use Rattle.fields.proofs.laws.PacketLaws.{given_fit, checked_same}
use Rattle.fields.proofs.packet.Packet.after_hook.Goals as goal

pub of_given-requires : goal.of_given-requires
of_given-requires c = given_fit c.in_ok-given.given (drop c.args.first c.args.words.now) c.in_ok-given.ensures.given

pub returns-clause-value : goal.returns-clause-value
returns-clause-value c =
    let words = drop c.args.first c.args.words.now in
    c.of_given.ensures.value ∙ checked_same c.args.hook c.in_ok-given.given words c.in_ok-given.ensures.given ∙ ap (checked c.args.hook words) c.in_ok-given.ensures.fault
