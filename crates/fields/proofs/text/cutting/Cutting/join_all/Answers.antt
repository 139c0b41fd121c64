use Rattle.std.proofs.Common.{◌≡◌, true, is_ok, rules}
use Rattle.fields.specs.steps.Cutting.{view_state}
use Rattle.fields.proofs.laws.text.CuttingLaws.{rise-pushed, cut-joined}
use Rattle.fields.proofs.text.cutting.Cutting.join_all.Goals as goal

pub invariant_of-self : goal.invariant_of-self
invariant_of-self c = record { rise = rise-pushed c.args.self.now.ends.items c.args.self.now.bytes.items c.args.run.now c.extend_from_slice.new.self.items _ c.extend_from_slice.ensures.items c.args.self.now.rise }

pub returns-clause-joined : goal.returns-clause-joined
returns-clause-joined c =
    let done : is_ok c.extend_from_slice.result ≡ true = search rules in
    cut-joined c.args.self.now.ends.items c.args.self.now.bytes.items c.args.run.now c.extend_from_slice.new.self.items (view_state c.args.self.now.state) _ c.extend_from_slice.ensures.items done c.args.self.now.rise
