use Rattle.std.proofs.Common.{◌<◌, ◌+◌, ◌*◌, ◌∙◌, sym, ap, arith, length, get_or, false, take, List, Bool}
use Rattle.bits.specs.steps.StoredRows.{words_of}
use Rattle.std.proofs.lemmas.List.{get_or-drop, get_or-take, length-drop}
use Rattle.classify.specs.steps.CommonPlaces.{bits_of}
use Rattle.classify.proofs.laws.search.SearchLaws.{own_wide, packed_long, turned_differ}
use Rattle.classify.proofs.line.view.Row.get.Goals as goal

pub returns : goal.returns
returns c =
    let bits : List Bool = take (c.self.inside.margin + c.self.inside.len) (bits_of c.self.inside.words) in
    let lt : c.self.inside.margin + c.args.at < c.self.inside.margin + c.self.inside.len =
    omega (arith, c.requires, ap length c.self.view_is, length-drop c.self.inside.margin bits, packed_long c.self.inside.words (c.self.inside.margin + c.self.inside.len) c.self.invariant.0) in
    let wide = own_wide c.self.inside.words (c.self.inside.margin + c.self.inside.len) c.self.invariant.0 in
    let there : c.self.inside.margin + c.args.at < 64 * length (words_of c.self.inside.words.own) = omega (arith, lt, c.self.invariant.0.own.covers) in
    turned_differ c.self.inside.words (length (words_of c.self.inside.words.own)) (c.self.inside.margin + c.args.at) c.bit.result c.bit-2.result wide there c.bit.ensures c.bit-2.ensures
    ∙ sym (get_or-take (c.self.inside.margin + c.self.inside.len) (bits_of c.self.inside.words) (c.self.inside.margin + c.args.at) false lt)
    ∙ sym (get_or-drop c.self.inside.margin bits c.args.at false)
    ∙ ap (λ (row : List Bool). get_or row c.args.at false) c.self.view_is
