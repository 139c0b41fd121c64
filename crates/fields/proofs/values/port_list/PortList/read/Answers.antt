use Rattle.std.proofs.Common.{◌≡◌, ◌<◌, ◌∷◌, [], Some, None, length, length-append, arith, rules, ap, sym}
use Rattle.fields.specs.text.Cut.{cut_at}
use Rattle.fields.specs.steps.ValueParts.{item_within}
use Rattle.fields.proofs.laws.text.CutLaws.{cut_at_only}
use Rattle.fields.proofs.laws.values.PortListLaws.{port_list_of-is, port_count-some, item_within-room, more-none, more-item, last-none, last-item}
use Rattle.fields.proofs.values.port_list.PortList.read.Goals as goal

pub returns-in_err-item : goal.returns-in_err-item
returns-in_err-item c =
    let cut : cut_at 44 c.loop-part.rest.now ≡ Some (c.in-Some.part.now, c.in-Some.further.now) = search (rules, c.in-Some.ensures) in
    let none : item_within c.loop-part.room c.in-Some.part.now ≡ None = search (rules, c.in_err-item.ensures) in
    let all = more-none c.args.text.now c.loop-part.items.items c.loop-part.room c.loop-part.rest.now c.loop-part.invariant.0 c.in-Some.part.now c.in-Some.further.now cut none in
    search (rules, all)

pub overflow_sub-room : goal.overflow_sub-room
overflow_sub-room c =
    let one : item_within c.loop-part.room c.in-Some.part.now ≡ Some c.in_ok-item.item = search (rules, c.in_ok-item.ensures) in
    omega (arith, item_within-room c.loop-part.room c.in-Some.part.now c.in_ok-item.item one)

pub push-requires : goal.push-requires
push-requires c =
    let one : item_within c.loop-part.room c.in-Some.part.now ≡ Some c.in_ok-item.item = search (rules, c.in_ok-item.ensures) in
    let fits = item_within-room c.loop-part.room c.in-Some.part.now c.in_ok-item.item one in
    let some = port_count-some c.in_ok-item.item in
    let room : length c.loop-part.items.items < 15 = omega arith in
    (omega arith, room)

pub loop-part-smaller : goal.loop-part-smaller
loop-part-smaller c =
    let cut : cut_at 44 c.loop-part.rest.now ≡ Some (c.in-Some.part.now, c.in-Some.further.now) = search (rules, c.in-Some.ensures) in
    let whole = cut_at_only 44 c.loop-part.rest.now (c.in-Some.part.now, c.in-Some.further.now) cut in
    omega (arith, ap length whole, length-append c.in-Some.part.now (44 ∷ c.in-Some.further.now))

pub loop-part-preserved : goal.loop-part-preserved
loop-part-preserved c =
    let cut : cut_at 44 c.loop-part.rest.now ≡ Some (c.in-Some.part.now, c.in-Some.further.now) = search (rules, c.in-Some.ensures) in
    let one : item_within c.loop-part.room c.in-Some.part.now ≡ Some c.in_ok-item.item = search (rules, c.in_ok-item.ensures) in
    let next = more-item c.args.text.now c.loop-part.items.items c.loop-part.room c.loop-part.rest.now c.loop-part.invariant.0 c.in-Some.part.now c.in-Some.further.now c.in_ok-item.item cut one in
    let some = port_count-some c.in_ok-item.item in
    let fits = item_within-room c.loop-part.room c.in-Some.part.now c.in_ok-item.item one in
    rw (c.push.ensures.items, c.port_count-room.ensures) (next, omega (arith, length-append c.loop-part.items.items (c.in_ok-item.item ∷ [])))

pub returns-in_err-item-2 : goal.returns-in_err-item-2
returns-in_err-item-2 c =
    let cut : cut_at 44 c.loop-part.rest.now ≡ None = search (rules, c.in_default.ensures) in
    let none : item_within c.loop-part.room c.loop-part.rest.now ≡ None = search (rules, c.in_err-item-2.ensures) in
    let all = last-none c.args.text.now c.loop-part.items.items c.loop-part.room c.loop-part.rest.now c.loop-part.invariant.0 cut none in
    search (rules, all)

pub push-requires-2 : goal.push-requires-2
push-requires-2 c =
    let one : item_within c.loop-part.room c.loop-part.rest.now ≡ Some c.in_ok-item-2.item = search (rules, c.in_ok-item-2.ensures) in
    let fits = item_within-room c.loop-part.room c.loop-part.rest.now c.in_ok-item-2.item one in
    let some = port_count-some c.in_ok-item-2.item in
    let room : length c.loop-part.items.items < 15 = omega arith in
    (omega arith, room)

pub invariant_of-result : goal.invariant_of-result
invariant_of-result c =
    let cut : cut_at 44 c.loop-part.rest.now ≡ None = search (rules, c.in_default.ensures) in
    let one : item_within c.loop-part.room c.loop-part.rest.now ≡ Some c.in_ok-item-2.item = search (rules, c.in_ok-item-2.ensures) in
    let all = last-item c.args.text.now c.loop-part.items.items c.loop-part.room c.loop-part.rest.now c.loop-part.invariant.0 c.in_ok-item-2.item cut one in
    rw c.push-2.ensures.items (port_list_of-is c.args.text.now _ all)

pub returns : goal.returns
returns c =
    let cut : cut_at 44 c.loop-part.rest.now ≡ None = search (rules, c.in_default.ensures) in
    let one : item_within c.loop-part.room c.loop-part.rest.now ≡ Some c.in_ok-item-2.item = search (rules, c.in_ok-item-2.ensures) in
    let all = last-item c.args.text.now c.loop-part.items.items c.loop-part.room c.loop-part.rest.now c.loop-part.invariant.0 c.in_ok-item-2.item cut one in
    rw c.push-2.ensures.items (sym all)
