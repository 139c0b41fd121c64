use Rattle.std.proofs.Common.{◌≡◌, true, is_ok, [], ◌∷◌, ◌++◌, cond, length, rules, ap, ◌∙◌}
use Rattle.fields.specs.steps.Cutting.{view_state}
use Rattle.fields.proofs.laws.text.CuttingLaws.{rise-ended, cut-ended}
use Rattle.fields.proofs.text.cutting.Cutting.end_word.Goals as goal

pub invariant_of-self : goal.invariant_of-self
invariant_of-self c =
    let ends = c.args.self.now.ends.items in
    let all : c.len.result ≡ length c.args.self.now.bytes.items = search rules in
    let pushed = c.push.ensures.items ∙ ap (λ end. cond (is_ok c.push.result) (ends ++ end ∷ []) ends) all in
    record { rise = rise-ended ends c.args.self.now.bytes.items c.push.new.self.items _ pushed c.args.self.now.rise }

pub returns-clause-ended : goal.returns-clause-ended
returns-clause-ended c =
    let ends = c.args.self.now.ends.items in
    let all : c.len.result ≡ length c.args.self.now.bytes.items = search rules in
    let pushed = c.push.ensures.items ∙ ap (λ end. cond (is_ok c.push.result) (ends ++ end ∷ []) ends) all in
    let done : is_ok c.push.result ≡ true = search rules in
    cut-ended ends c.args.self.now.bytes.items c.push.new.self.items (view_state c.args.self.now.state) _ pushed done c.args.self.now.rise
