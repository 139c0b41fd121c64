use Rattle.std.proofs.Common.{◌≡◌, List, [], ◌∷◌, ◌++◌, ap, sym, subst, ◌∙◌}
use Rattle.std.specs.Prelude.{Ok}
use Rattle.std.proofs.lemmas.List.{map_push}
use Rattle.fields.specs.text.WordSlice.{words_in}
use Rattle.dumps.specs.Parts.{Part, next_part}
use Rattle.dumps.specs.Views.{table_in, part_in, parts_of}
use Rattle.dumps.specs.declared.apart.part.Part.{Part as Lent}
use Rattle.dumps.proofs.laws.ApartLaws.{Stands, one-more}
use Rattle.dumps.proofs.apart.taking.take_apart.Goals as goal

pub loop-word-preserved : goal.loop-word-preserved
loop-word-preserved c =
    let table = table_in c.args.table.now in
    let word = c.in-Some.word.now in
    let after = words_in c.in-Some.after in
    let part = part_in c.in_ok-part.part in
    let left = words_in c.in_ok-part.left in
    let found : next_part table (parts_of c.loop-word.parts.items) word after ≡ Ok (part, left) =
    subst (λ (l : List Lent). next_part table (parts_of l) word after ≡ Ok (part, left)) c.as_slice.ensures.value c.in_ok-part.ensures.gives in
    let more = one-more table (words_in c.args.words) (parts_of c.loop-word.parts.items) (words_in c.loop-word.rest) word after part left
    c.loop-word.invariant.whole c.loop-word.invariant.each c.in-Some.ensures found in
    let items : parts_of c.push.new.self.items ≡ parts_of c.loop-word.parts.items ++ part ∷ [] =
    ap parts_of c.in-Ok.ensures.items ∙ map_push part_in c.loop-word.parts.items c.in_ok-part.part in
    let stands : Stands table (words_in c.args.words) (parts_of c.push.new.self.items) left =
    subst (λ (l : List Part). Stands table (words_in c.args.words) l left) (sym items) more in
    record { whole = stands.whole; each = stands.each }
