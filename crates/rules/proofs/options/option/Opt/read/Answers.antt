-- Where the length and each byte were tested, the word is the spelling.
use Rattle.std.proofs.Common.{arith, ap, sym, ◌∙◌, rules}
use Rattle.std.proofs.lemmas.Slice.Eq.{text_from_reads}
use Rattle.rules.specs.options.Options.{option_of, name_of}
use Rattle.rules.specs.declared.options.option.Opt.TheVariants as opt
use Rattle.rules.proofs.laws.options.TableLaws.{option_of-name_of}
use Rattle.rules.proofs.options.option.Opt.read.Goals as goal

pub returns-in-45-7 : goal.returns-in-45-7
returns-in-45-7 c =
    let same = text_from_reads c.args.word.now (name_of opt.DestinationPort) (omega arith) (search rules) in
    sym (ap option_of same ∙ option_of-name_of opt.DestinationPort)

pub returns-in-45-8 : goal.returns-in-45-8
returns-in-45-8 c =
    let same = text_from_reads c.args.word.now (name_of opt.SourcePort) (omega arith) (search rules) in
    sym (ap option_of same ∙ option_of-name_of opt.SourcePort)

pub returns-in-45-9 : goal.returns-in-45-9
returns-in-45-9 c =
    let same = text_from_reads c.args.word.now (name_of opt.State) (omega arith) (search rules) in
    sym (ap option_of same ∙ option_of-name_of opt.State)

pub returns-in-45-10 : goal.returns-in-45-10
returns-in-45-10 c =
    let same = text_from_reads c.args.word.now (name_of opt.DestinationPorts) (omega arith) (search rules) in
    sym (ap option_of same ∙ option_of-name_of opt.DestinationPorts)

pub returns-in-45-11 : goal.returns-in-45-11
returns-in-45-11 c =
    let same = text_from_reads c.args.word.now (name_of opt.Ctstate) (omega arith) (search rules) in
    sym (ap option_of same ∙ option_of-name_of opt.Ctstate)

pub returns-in-45-12 : goal.returns-in-45-12
returns-in-45-12 c =
    let same = text_from_reads c.args.word.now (name_of opt.Comment) (omega arith) (search rules) in
    sym (ap option_of same ∙ option_of-name_of opt.Comment)
