use Rattle.std.proofs.Common.{◌≡◌, ◌<◌, ◌++◌, Bor, List, ℕ, [], length, take, get_or, ap, sym, ◌∙◌, append_assoc, eq-eqb, ne_eqb, arith}
use Rattle.std.specs.List.{join_with_byte}
use Rattle.std.proofs.lemmas.List.{take_all}
use Rattle.fields.specs.values.NameList.{names_in, names_listed}
use Rattle.fields.proofs.laws.text.PutLaws.{comma_after}
use Rattle.notation.specs.Rows.{rows_of}
use Rattle.notation.proofs.ValueTextLaws.{names-no, names-yes, comma-yes}
use Rattle.notation.proofs.values.put_names.Goals as goal
use Rattle.notation.proofs.values.put_names.Goals.{then-set-bit+in_ok-extend_from_slice+in_ok-extend_from_slice-2, else-set-bit}

-- a name after what is written, behind a comma or first
with_name : (line written mark name : List ℕ) (xs ys zs : List ℕ) → zs ≡ ys ++ name → ys ≡ xs ++ mark → xs ≡ line ++ written → zs ≡ line ++ (written ++ (mark ++ name))
with_name line written mark name xs ys zs third second first =
    third ∙ ap (λ l. l ++ name) (second ∙ ap (λ l. l ++ mark) first) ∙ append_assoc (line ++ written) mark name ∙ append_assoc line written (mark ++ name)

pub loop-name-preserved : goal.loop-name-preserved
loop-name-preserved c =
    let rows = c.args.rows.now in
    let i = c.loop-name.name-index in
    let none : Bor (List ℕ) × ℕ = (record { ref_ptr = (0, 0); now = [] }, 0) in
    let row = get_or rows i none in
    let names = names_in (rows_of (take i rows)) c.args.set in
    let within : i < length rows = omega arith in
    elim c.if-set-bit.branch [
      | then-set-bit+in_ok-extend_from_slice+in_ok-extend_from_slice-2 w ↦
          let has = eq-eqb _ _ w.if-set-bit.true in
          record {
            names = ap (λ v. v.items) w.line-is
                ∙ with_name c.args.line.now.items (join_with_byte 44 names) (comma_after names) row.0.now c.loop-name.line.items w.extend_from_slice.new.self.items _
                w.in_ok-extend_from_slice-2.ensures.items
                (w.in_ok-extend_from_slice.ensures.items ∙ ap (λ l. c.loop-name.line.items ++ l) c.loop-name.invariant.mark)
                c.loop-name.invariant.names
                ∙ ap (λ l. c.args.line.now.items ++ l) (sym (names-yes c.args.set rows i none within has));
            mark = ap (λ r. r.now) w.separator-is ∙ sym (comma-yes c.args.set rows i none within has);
          }
      | else-set-bit w ↦
          let same = names-no c.args.set rows i none within (ne_eqb _ _ w.if-set-bit.false) in
          record {
            names = ap (λ v. v.items) w.line-is ∙ c.loop-name.invariant.names ∙ ap (λ l. c.args.line.now.items ++ join_with_byte 44 l) (sym same);
            mark = ap (λ r. r.now) w.separator-is ∙ c.loop-name.invariant.mark ∙ ap comma_after (sym same);
          }
    ]

pub returns : goal.returns
unfolding names_listed
returns c =
    let whole : take c.loop-name.name-index c.args.rows.now ≡ c.args.rows.now = take_all c.loop-name.name-index c.args.rows.now (omega arith) in
    rw whole at c.loop-name.invariant.names
