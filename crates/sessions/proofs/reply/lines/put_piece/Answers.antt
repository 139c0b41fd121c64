use Rattle.std.proofs.Common.{◌++◌, codes, refl}
use Rattle.fields.proofs.laws.text.PutLaws.{puts-after, stops-in}
use Rattle.sessions.specs.Replies.{start_text, numbers_text}
use Rattle.sessions.proofs.reply.lines.put_piece.Goals as goal

pub returns-in_err-put : goal.returns-in_err-put
returns-in_err-put g c =
    let start = start_text c.args.field c.args.piece.now.0 in let numbers = numbers_text c.args.piece.now.1 in
    stops-in _ _ _ _ _ (codes " ") (start ++ (codes ":{" ++ (numbers ++ codes "}"))) refl c.from_residual.ensures.0 c.in_err-put.ensures.puts

pub returns-in_err-put_start : goal.returns-in_err-put_start
returns-in_err-put_start g c =
    let start = start_text c.args.field c.args.piece.now.0 in let numbers = numbers_text c.args.piece.now.1 in
    puts-after _ _ _ _ _ _ (codes " ") (start ++ (codes ":{" ++ (numbers ++ codes "}"))) refl c.in_ok-put.ensures.puts
    (stops-in _ _ _ _ _ start (codes ":{" ++ (numbers ++ codes "}")) refl c.from_residual-in_err-put_start.ensures.0
    (rw c.start.ensures at c.in_err-put_start.ensures))

pub returns-in_err-put-2 : goal.returns-in_err-put-2
returns-in_err-put-2 g c =
    let start = start_text c.args.field c.args.piece.now.0 in let numbers = numbers_text c.args.piece.now.1 in
    puts-after _ _ _ _ _ _ (codes " ") (start ++ (codes ":{" ++ (numbers ++ codes "}"))) refl c.in_ok-put.ensures.puts
    (puts-after _ _ _ _ _ _ start (codes ":{" ++ (numbers ++ codes "}")) refl (rw c.start.ensures at c.in_ok-put_start.ensures)
    (stops-in _ _ _ _ _ (codes ":{") (numbers ++ codes "}") refl c.from_residual-in_err-put-2.ensures.0 c.in_err-put-2.ensures.puts))

pub returns-in_err-put_numbers : goal.returns-in_err-put_numbers
returns-in_err-put_numbers g c =
    let start = start_text c.args.field c.args.piece.now.0 in let numbers = numbers_text c.args.piece.now.1 in
    puts-after _ _ _ _ _ _ (codes " ") (start ++ (codes ":{" ++ (numbers ++ codes "}"))) refl c.in_ok-put.ensures.puts
    (puts-after _ _ _ _ _ _ start (codes ":{" ++ (numbers ++ codes "}")) refl (rw c.start.ensures at c.in_ok-put_start.ensures)
    (puts-after _ _ _ _ _ _ (codes ":{") (numbers ++ codes "}") refl c.in_ok-put-2.ensures.puts
    (stops-in _ _ _ _ _ numbers (codes "}") refl c.from_residual-in_err-put_numbers.ensures.0
    (rw c.row.ensures at c.in_err-put_numbers.ensures))))

pub returns : goal.returns
returns g c =
    let start = start_text c.args.field c.args.piece.now.0 in let numbers = numbers_text c.args.piece.now.1 in
    puts-after _ _ _ _ _ _ (codes " ") (start ++ (codes ":{" ++ (numbers ++ codes "}"))) refl c.in_ok-put.ensures.puts
    (puts-after _ _ _ _ _ _ start (codes ":{" ++ (numbers ++ codes "}")) refl (rw c.start.ensures at c.in_ok-put_start.ensures)
    (puts-after _ _ _ _ _ _ (codes ":{") (numbers ++ codes "}") refl c.in_ok-put-2.ensures.puts
    (puts-after _ _ _ _ _ _ numbers (codes "}") refl (rw c.row.ensures at c.in_ok-put_numbers.ensures) c.put-3.ensures.puts)))
