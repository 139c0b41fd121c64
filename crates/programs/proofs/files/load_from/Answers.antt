use Rattle.std.proofs.Common.{refl}
use Rattle.programs.proofs.Loads.{left-is, loaded}
use Rattle.programs.proofs.files.load_from.Goals as goal

pub returns-in-Ok : goal.returns-in-Ok
returns-in-Ok g c =
    let remaining = g.I.Read.remaining in
    loaded c.args.session.now c.restore-restored.new.self c.in-Ok.ensures.runs refl refl (remaining c.args.reader) (left-is remaining c.args.reader c.in_ok-input.input c.in_ok-input.ensures)
