use Rattle.std.proofs.Common.{◌≡◌, ◌∙◌, ap, sym, ◌∷◌, Some, None, length, length-append, arith, rules}
use Rattle.std.specs.Prelude.{option_map}
use Rattle.fields.specs.text.Cut.{cut_at}
use Rattle.fields.specs.values.NameList.{number_named}
use Rattle.fields.proofs.laws.text.CutLaws.{cut_at_only}
use Rattle.fields.proofs.laws.values.NameListLaws.{joined, joined-more, joined-no_more, joined-last, joined-no_last}
use Rattle.fields.proofs.values.name_list.read_names.Goals as goal

pub returns-in_err-set_named : goal.returns-in_err-set_named
returns-in_err-set_named g c =
    let table = g.F.Flags.table in
    let cut : cut_at 44 c.loop-name.rest.now ≡ Some (c.in-Some.name.now, c.in-Some.further.now) = search (rules, c.in-Some.ensures) in
    let none : number_named table c.in-Some.name.now ≡ None = search (rules, c.in_err-set_named.ensures) in
    let all = c.loop-name.invariant ∙ joined-no_more table (g.F.Flags.set_of c.loop-name.set) c.loop-name.rest.now c.in-Some.name.now c.in-Some.further.now cut none in
    ap (option_map g.F.Flags.set_of) c.from_residual.ensures ∙ sym all

pub loop-name-smaller : goal.loop-name-smaller
loop-name-smaller g c =
    let cut : cut_at 44 c.loop-name.rest.now ≡ Some (c.in-Some.name.now, c.in-Some.further.now) = search (rules, c.in-Some.ensures) in
    let whole = cut_at_only 44 c.loop-name.rest.now (c.in-Some.name.now, c.in-Some.further.now) cut in
    omega (arith, ap length whole, length-append c.in-Some.name.now (44 ∷ c.in-Some.further.now))

pub loop-name-preserved : goal.loop-name-preserved
loop-name-preserved g c =
    let table = g.F.Flags.table in
    let cut : cut_at 44 c.loop-name.rest.now ≡ Some (c.in-Some.name.now, c.in-Some.further.now) = search (rules, c.in-Some.ensures) in
    let bits = g.F.Flags.set_of c.in_ok-set_named.field-0 in
    let one : number_named table c.in-Some.name.now ≡ Some bits = search (rules, c.in_ok-set_named.ensures) in
    c.loop-name.invariant ∙ joined-more table (g.F.Flags.set_of c.loop-name.set) c.loop-name.rest.now c.in-Some.name.now c.in-Some.further.now bits cut one
    ∙ ap (λ set. joined table set c.in-Some.further.now) (sym (c.insert.ensures c.requires.exact))

pub returns-in_err-set_named-2 : goal.returns-in_err-set_named-2
returns-in_err-set_named-2 g c =
    let table = g.F.Flags.table in
    let cut : cut_at 44 c.loop-name.rest.now ≡ None = search (rules, c.in_default.ensures) in
    let none : number_named table c.loop-name.rest.now ≡ None = search (rules, c.in_err-set_named-2.ensures) in
    let all = c.loop-name.invariant ∙ joined-no_last table (g.F.Flags.set_of c.loop-name.set) c.loop-name.rest.now cut none in
    ap (option_map g.F.Flags.set_of) c.from_residual-in_err-set_named-2.ensures ∙ sym all

pub returns : goal.returns
returns g c =
    let table = g.F.Flags.table in
    let cut : cut_at 44 c.loop-name.rest.now ≡ None = search (rules, c.in_default.ensures) in
    let bits = g.F.Flags.set_of c.in_ok-set_named-2.field-0 in
    let one : number_named table c.loop-name.rest.now ≡ Some bits = search (rules, c.in_ok-set_named-2.ensures) in
    let all = c.loop-name.invariant ∙ joined-last table (g.F.Flags.set_of c.loop-name.set) c.loop-name.rest.now bits cut one in
    ap (λ n. Some n) (c.insert-2.ensures c.requires.exact) ∙ sym all
