use Rattle.std.proofs.Common.{◌≡◌, ◌==◌, ◌<◌, ◌++◌, [], ap, sym, subst, ◌∙◌, append-nil, true, ℕ, List, length, arith, take}
use Rattle.std.specs.Int.RustNames.{bit_and}
use Rattle.bitflags.specs.declared.traits.Flag.{Flag}
use Rattle.std.proofs.lemmas.List.{take_all}
use Rattle.fields.specs.values.NameList.{names_listed}
use Rattle.fields.specs.text.Tap.{Wrote, Stopped}
use Rattle.fields.proofs.laws.text.PutLaws.{puts-stopped, names-kept, comma_after-more, wrote-name, stopped-name}
use Rattle.fields.proofs.values.name_list.put_names.Goals as goal
use Rattle.fields.proofs.values.name_list.put_names.Goals.{then-contains+in_ok-put_all, else-contains}

abbrev row_of : {F : Type 0} → (F → ℕ) → Flag F → List ℕ × ℕ
row_of set_of flag = (flag.name.now, set_of flag.value)

-- the two parts that are written
parts : (separator name mark row : List ℕ) → separator ≡ mark → name ≡ row → separator ++ (name ++ []) ≡ mark ++ row
parts separator name mark row e f = ap (λ l. separator ++ l) (append-nil name) ∙ ap (λ l. l ++ name) e ∙ ap (λ l. mark ++ l) f

pub returns-in_err-put_all : goal.returns-in_err-put_all
unfolding names_listed
returns-in_err-put_all g c =
    let row = λ (flag : Flag g.row.F.Denot). row_of g.F.Flags.set_of flag in
    let set = g.F.Flags.set_of c.args.set in
    let flags = c.args.flags.now in
    let i = c.loop-flag.flag-index in
    let flag = c.flag-item.result in
    let within : i < length flags = omega arith in
    let has_it : (bit_and set (row flag).1 == (row flag).1) ≡ true =
    ap (λ v. bit_and set (g.F.Flags.set_of v) == g.F.Flags.set_of v) (sym c.value.ensures) ∙ sym (c.contains.ensures c.requires.exact) ∙ c.if-contains.true in
    let same = parts c.loop-flag.separator.now c.as_bytes.result.now _ flag.name.now c.loop-flag.invariant.mark (c.as_bytes.ensures.value ∙ c.name.ensures) in
    let stopped : Stopped g.W.Write.contents c.loop-flag.output c.put_all.new.self (c.loop-flag.separator.now ++ (c.as_bytes.result.now ++ [])) = c.in_err-put_all.ensures.puts in
    puts-stopped _ _ _ _ _ c.from_residual.ensures.0
    (stopped-name row set flags i flag within c.flag-item.is c.loop-flag.invariant.wrote has_it (subst (λ (l : List ℕ). Stopped g.W.Write.contents c.loop-flag.output c.put_all.new.self l) same stopped))

pub loop-flag-preserved : goal.loop-flag-preserved
loop-flag-preserved g c =
    let row = λ (flag : Flag g.row.F.Denot). row_of g.F.Flags.set_of flag in
    let set = g.F.Flags.set_of c.args.set in
    let flags = c.args.flags.now in
    let i = c.loop-flag.flag-index in
    let flag = c.flag-item.result in
    let within : i < length flags = omega arith in
    let tested : (bit_and set (row flag).1 == (row flag).1) ≡ c.contains.result =
    ap (λ v. bit_and set (g.F.Flags.set_of v) == g.F.Flags.set_of v) (sym c.value.ensures) ∙ sym (c.contains.ensures c.requires.exact) in
    elim c.if-contains.branch [
      | then-contains+in_ok-put_all w ↦
          let same = parts c.loop-flag.separator.now w.as_bytes.result.now _ flag.name.now c.loop-flag.invariant.mark (w.as_bytes.ensures.value ∙ w.name.ensures) in
          let wrote : Wrote g.W.Write.contents c.loop-flag.output w.put_all.new.self (c.loop-flag.separator.now ++ (w.as_bytes.result.now ++ [])) = w.in_ok-put_all.ensures.puts in
          let more = subst (λ (l : List ℕ). Wrote g.W.Write.contents c.loop-flag.output w.put_all.new.self l) same wrote in
          record {
            wrote = rw w.output-is (wrote-name row set flags i flag within c.flag-item.is c.loop-flag.invariant.wrote (tested ∙ w.if-contains.true) more);
            mark = rw w.separator-is (sym (comma_after-more row set flags i flag within c.flag-item.is (tested ∙ w.if-contains.true)));
          }
      | else-contains w ↦
          let kept = names-kept row set flags i flag within c.flag-item.is (tested ∙ w.if-contains.false) in
          record {
            wrote = rw (w.output-is, kept) c.loop-flag.invariant.wrote;
            mark = rw (w.separator-is, kept) c.loop-flag.invariant.mark;
          }
    ]

pub returns : goal.returns
unfolding names_listed
returns g c =
    let whole : take c.loop-flag.flag-index c.args.flags.now ≡ c.args.flags.now = take_all c.loop-flag.flag-index c.args.flags.now (omega arith) in
    rw whole at c.loop-flag.invariant.wrote
