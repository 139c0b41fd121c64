use Rattle.std.proofs.Common.{◌+◌, ap, arith, length, take, List, Bool}
use Rattle.std.proofs.lemmas.List.{length-drop}
use Rattle.classify.specs.steps.CommonPlaces.{bits_of}
use Rattle.classify.proofs.laws.search.SearchLaws.{packed_long}
use Rattle.classify.proofs.line.view.Row.len.Goals as goal

pub returns : goal.returns
returns c =
    let bits : List Bool = take (c.self.inside.margin + c.self.inside.len) (bits_of c.self.inside.words) in
    omega (arith, ap length c.self.view_is, length-drop c.self.inside.margin bits, packed_long c.self.inside.words (c.self.inside.margin + c.self.inside.len) c.self.invariant.0)
