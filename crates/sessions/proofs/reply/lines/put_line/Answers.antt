use Rattle.std.proofs.Common.{◌≡◌, ◌++◌, codes, flat_map, refl}
use Rattle.fields.specs.numbers.Field.{name}
use Rattle.fields.proofs.laws.text.PutLaws.{puts-after, stops-in}
use Rattle.classify.specs.Classifier.{lines_of}
use Rattle.table.specs.chains.Table.{chain_at}
use Rattle.sessions.specs.Replies.{piece_text}
use Rattle.sessions.proofs.reply.lines.put_line.Goals as goal

pub returns-in_err-put : goal.returns-in_err-put
returns-in_err-put g c =
    let rules = (chain_at c.args.table.now.table c.args.place).rules in
    let pieces = flat_map (piece_text c.args.field) (lines_of rules c.args.field) in
    stops-in _ _ _ _ _ (name c.args.field) (pieces ++ codes "\n") refl c.from_residual.ensures.0 (rw c.name.ensures at c.in_err-put.ensures.puts)

pub returns-in_err-put_pieces : goal.returns-in_err-put_pieces
returns-in_err-put_pieces g c =
    let rules = (chain_at c.args.table.now.table c.args.place).rules in
    let pieces = flat_map (piece_text c.args.field) (lines_of rules c.args.field) in
    let line : c.line-line.result ≡ lines_of rules c.args.field = c.line-line.ensures.rules rules c.classifier.ensures.rules in
    puts-after _ _ _ _ _ _ (name c.args.field) (pieces ++ codes "\n") refl (rw c.name.ensures at c.in_ok-put.ensures.puts)
    (stops-in _ _ _ _ _ pieces (codes "\n") refl c.from_residual-in_err-put_pieces.ensures.0 (rw line at c.in_err-put_pieces.ensures))

pub returns : goal.returns
returns g c =
    let rules = (chain_at c.args.table.now.table c.args.place).rules in
    let pieces = flat_map (piece_text c.args.field) (lines_of rules c.args.field) in
    let line : c.line-line.result ≡ lines_of rules c.args.field = c.line-line.ensures.rules rules c.classifier.ensures.rules in
    puts-after _ _ _ _ _ _ (name c.args.field) (pieces ++ codes "\n") refl (rw c.name.ensures at c.in_ok-put.ensures.puts)
    (puts-after _ _ _ _ _ _ pieces (codes "\n") refl (rw line at c.in_ok-put_pieces.ensures) c.put-2.ensures.puts)
