use Rattle.std.proofs.Common.{ap, map, ◌∙◌, ◌++◌, Bor, List, [], Option, unwrap_or}
use Rattle.clap.specs.Words.{Text, found_of}
use Rattle.clap.proofs.WalkLemmas.{raw_values-rows}
use Rattle.programs.proofs.line.audit.words_of.Goals as goal

pub returns-in_ok-extend_from_slice-in-Some : goal.returns-in_ok-extend_from_slice-in-Some
returns-in_ok-extend_from_slice-in-Some c =
    let or_none : Option (List Text) → List Text = λ o. unwrap_or o [] in
    let texts : List (Bor Text) → List Text = map (λ s. s.now) in
    let behind : List (Bor Text) → List (Bor Text) = λ vs. vs ++ c.in-Some.given.now in
    ap texts (c.in_ok-extend_from_slice-in-Some.ensures.items ∙ ap behind c.new-words.ensures.items)
    ∙ ap or_none (c.in-Some.ensures ∙ raw_values-rows (found_of c.args.matches.now) c.args.name.now)

pub returns-in-None : goal.returns-in-None
returns-in-None c =
    let or_none : Option (List Text) → List Text = λ o. unwrap_or o [] in
    let texts : List (Bor Text) → List Text = map (λ s. s.now) in
    ap texts c.new-words.ensures.items ∙ ap or_none (c.in-None.ensures ∙ raw_values-rows (found_of c.args.matches.now) c.args.name.now)
