use Rattle.std.proofs.Common.{◌≡◌, length, ◌∙◌, lit<, rules}
use Rattle.std.proofs.lemmas.Iterator.Consumers.{YieldsList-end}
use Rattle.std.proofs.lemmas.Iterator.Splits.{YieldsList-from_str_split}
use Rattle.dumps.proofs.options.kept.KnownOptions.keep.Goals as goal

pub returns : goal.returns
returns c =
    let begins : c.len-from.result ≡ length c.args.self.now.words.items = search rules in
    let ends : c.len.result ≡ length c.loop-word.self.words.items = search rules in
    let (more, words, are) = c.loop-word.invariant.words in
    let cut = YieldsList-from_str_split 32 c.args.line.now (lit< tt) (search rules) (search rules) (search rules) in
    let ended = YieldsList-end cut c.loop-word.yielded _ c.loop-word.yielded_by _ _ c.in-None.is c.next.ensures.steps in
    record {
      more = more;
      are = are ∙ ended.0;
      words = words;
      from = begins;
      to = ends;
      options = c.loop-word.invariant.options;
      extensions = c.loop-word.invariant.extensions;
    }
