use Rattle.std.proofs.Common.{◌≡◌, ◌+◌, ℕ, List, ◌++◌, drop, ap, sym, ◌∙◌, arith, append_assoc, get_or}
use Rattle.std.proofs.lemmas.List.{take_rest}
use Rattle.dumps.specs.Own.{own_words, own_part_words, line_of}
use Rattle.dumps.specs.Views.{table_in, part_in, parts_of}
use Rattle.dumps.specs.declared.apart.part.Part.{Part}
use Rattle.dumps.proofs.laws.OwnLaws.{own-more}
use Rattle.dumps.proofs.apart.own_line.append_own.Goals as goal

pub loop-i-preserved : goal.loop-i-preserved
loop-i-preserved c =
    let table = table_in c.args.table.now in
    let parts = c.args.parts.now in
    let i = c.loop-i.i in
    let part = c.index-parts-i.result in
    let rest = line_of (own_words table (parts_of (drop (i + 1) parts))) in
    let here : List ℕ = line_of (own_part_words table (part_in part) (parts_of (drop (i + 1) parts))) in
    let items : c.append_if_own.new.line.items ≡ c.loop-i.line.items ++ here =
    c.in_ok-append_if_own.ensures ∙ ap (λ (l : List Part). c.loop-i.line.items ++ line_of (own_part_words table (part_in part) (parts_of l))) (take_rest parts (i + 1)) in
    let more = own-more table parts i part (omega arith) in
    let same : line_of (own_part_words table (part_in (get_or parts i part)) (parts_of (drop (i + 1) parts))) ≡ here =
    ap (λ (p : Part). line_of (own_part_words table (part_in p) (parts_of (drop (i + 1) parts)))) (sym c.index-parts-i.is) in
    ap (λ l. l ++ rest) items ∙ append_assoc c.loop-i.line.items here rest
    ∙ ap (λ l. c.loop-i.line.items ++ l) (sym (more ∙ ap (λ l. l ++ rest) same)) ∙ c.loop-i.invariant
