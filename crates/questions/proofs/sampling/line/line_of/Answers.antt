use Rattle.std.proofs.Common.{List, ℕ, ◌<◌, ◌++◌, ◌∷◌, ◌≡◌, length, get_or, ap, sym, subst, ◌∙◌, take, append_assoc, arith, take_all}
use Rattle.fields.specs.declared.numbers.field.Field.TheVariants.{Source}
use Rattle.fields.specs.numbers.Field.{all_fields}
use Rattle.fields.specs.Hook.{name}
use Rattle.questions.specs.steps.Sampled.{packet_line, spaced_word, spaced_words, word_of, Writes, packet_with}
use Rattle.questions.proofs.laws.LineLaws.{line_writes, spaced-no, spaced-yes}
use Rattle.questions.proofs.sampling.line.line_of.Goals as goal
use Rattle.questions.proofs.sampling.line.line_of.Goals.{then-is_written+in_ok-put_word, else-is_written}

pub loop-field-preserved : goal.loop-field-preserved
loop-field-preserved c =
    let p = packet_with c.args.hook c.args.numbers.now in
    let i = c.loop-field.field-index in
    let f = get_or all_fields i Source in
    let within : i < length all_fields = omega arith in
    elim c.if-is_written.branch [
      | then-is_written+in_ok-put_word w ↦
          let more = spaced-yes p all_fields i Source within (sym (c.is_written.ensures c.args.hook) ∙ w.if-is_written.true) in
          let word : w.put_word.new.line.items ≡ c.loop-field.line.items ++ spaced_word p f =
          w.in_ok-put_word.ensures ∙ ap (λ k. c.loop-field.line.items ++ 32 ∷ word_of f (get_or c.args.numbers.now k 0)) w.index.ensures.place in
          ap (λ v. v.items) w.line-is ∙ word ∙ ap (λ l. l ++ spaced_word p f) c.loop-field.invariant
          ∙ append_assoc (name c.args.hook) (spaced_words p (take i all_fields)) (spaced_word p f) ∙ ap (λ l. name c.args.hook ++ l) (sym more)
      | else-is_written w ↦
          let same = spaced-no p all_fields i Source within (sym (c.is_written.ensures c.args.hook) ∙ w.if-is_written.false) in
          ap (λ v. v.items) w.line-is ∙ c.loop-field.invariant ∙ ap (λ l. name c.args.hook ++ l) (sym same)
    ]

pub returns : goal.returns
returns c =
    let p = packet_with c.args.hook c.args.numbers.now in
    let whole : take c.loop-field.field-index all_fields ≡ all_fields = take_all c.loop-field.field-index all_fields (omega arith) in
    let is : c.loop-field.line.items ≡ packet_line p = c.loop-field.invariant ∙ ap (λ fields. name c.args.hook ++ spaced_words p fields) whole in
    subst (λ (items : List ℕ). Writes items p) (sym is) (line_writes p c.requires)
