use Rattle.std.proofs.Common.{sym, ap, ◌∙◌, rules}
use Rattle.std.proofs.lemmas.Fn.{filter_same}
use Rattle.dumps.specs.Foreign.{needed_in, needs_in, is_unknown}
use Rattle.dumps.specs.Views.{all_known_in}
use Rattle.dumps.specs.declared.reading.foreign.NeededText.{NeededText}
use Rattle.dumps.proofs.laws.ConditionLaws.{unknown_kept}
use Rattle.dumps.proofs.reading.foreign.keep_unknown.Goals as goal

pub returns : goal.returns
returns c =
    ap needs_in (filter_same _ (λ (need : NeededText). is_unknown (all_known_in c.args.known.now) (needed_in need)) _ (λ x b f' k. search rules) _ _ c.retain.ensures.filtered)
    ∙ sym (unknown_kept (all_known_in c.args.known.now) c.args.needs.now.items)
