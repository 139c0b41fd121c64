-- The command line of `iptaudit` (iptaudit(1), SYNOPSIS), and the audit that it asks for.
use Rattle.std.specs.Prelude.{◌≡◌, ◌⊎◌, [], codes, map, true, List, Some, None, option_map, unwrap_or}
use Rattle.clap.specs.Words.{App, Row, Rule, Text, all_of, first_of, new_app, new_rule, with_rule, with_subcommand}
use Rattle.clap.specs.Lexer.{usize_max}
use Rattle.clap.specs.declared.builder.action.ArgAction.TheVariants.{Append}
use Rattle.programs.specs.Line.{as_program, flag_rule, is_true}
use Rattle.programs.specs.declared.line.audit.Audit.{Audit}
use Rattle.programs.specs.declared.line.audit.Question.{Question}
use Rattle.programs.specs.declared.line.audit.Question.TheVariants as questions

-- `--steps N`
abbrev pub steps_rule : Rule
steps_rule = record (new_rule (codes "steps")) { long = Some (codes "steps"); value_names = 1 }

-- `--json`
abbrev pub json_rule : Rule
json_rule = flag_rule (codes "json")

-- `--when CONDITION`, which may stand several times
abbrev pub when_rule : Rule
when_rule = record (new_rule (codes "when")) { long = Some (codes "when"); action = Some Append; value_names = 1 }

-- `--unknown MATCH`, which may stand several times
abbrev pub unknown_rule : Rule
unknown_rule = record (new_rule (codes "unknown")) { long = Some (codes "unknown"); action = Some Append; value_names = 1 }

-- `--local ADDRESSES`
abbrev pub local_rule : Rule
local_rule = record (new_rule (codes "local")) { long = Some (codes "local"); value_names = 1 }

-- a file, which has to be there
abbrev pub file_rule : Text → Rule
file_rule name = record (new_rule name) { required = true; value_names = 1 }

-- `[--steps N] [--json]`
abbrev pub with_options : App → App
with_options app = with_rule (with_rule app steps_rule) json_rule

-- `[--steps N] [--json] [--when CONDITION].. [--unknown MATCH].. [--local ADDRESSES]`
abbrev pub with_whole_options : App → App
with_whole_options app = with_rule (with_rule (with_rule (with_options app) when_rule) unknown_rule) local_rule

-- `NAME FILE`, with options
abbrev pub one_file_app : Text → App
one_file_app name = with_whole_options (with_rule (new_app name) (file_rule (codes "file")))

-- `compare OLD NEW`, with options
abbrev pub compare_app : App
compare_app = with_whole_options (with_rule (with_rule (new_app (codes "compare")) (file_rule (codes "old"))) (file_rule (codes "new")))

-- one word or more
abbrev pub words_rule : Rule
words_rule = record (new_rule (codes "word")) {
  required = true;
  action = Some Append;
  range = Some (record { start_inclusive = 1; end_inclusive = usize_max });
  value_names = 1;
}

-- `reach FILE WORD..`, with the options that need no conditions
abbrev pub reach_app : App
reach_app = with_options (with_rule (with_rule (new_app (codes "reach")) (file_rule (codes "file"))) words_rule)

-- `assert FILE CLAIMS`, with options
abbrev pub assert_app : App
assert_app = with_whole_options (with_rule (with_rule (new_app (codes "assert")) (file_rule (codes "file"))) (file_rule (codes "claims")))

-- the program, with its seven subcommands
abbrev pub program_app : App
program_app = with_subcommand (with_subcommand (with_subcommand (with_subcommand (with_subcommand (with_subcommand (with_subcommand
    (as_program (new_app (codes "iptaudit"))) (one_file_app (codes "dead")).top) compare_app.top) (one_file_app (codes "tests")).top)
    (one_file_app (codes "cover")).top) reach_app.top) (one_file_app (codes "walk")).top) assert_app.top

-- the name of a subcommand that asks about one file
abbrev pub AsksOneFile : Text → Type 0
AsksOneFile name = (name ≡ codes "dead") ⊎ (name ≡ codes "tests") ⊎ (name ≡ codes "cover") ⊎ (name ≡ codes "reach") ⊎ (name ≡ codes "walk")

-- the name of a subcommand
abbrev pub IsSubcommand : Text → Type 0
IsSubcommand name = (name ≡ codes "dead") ⊎ (name ≡ codes "compare") ⊎ (name ≡ codes "tests") ⊎ (name ≡ codes "cover") ⊎ (name ≡ codes "reach")
    ⊎ (name ≡ codes "walk") ⊎ (name ≡ codes "assert")

-- the one file of a subcommand of this name
abbrev pub AsksOf : Text → Text → List Row → Text → Type 0
AsksOf subcommand name rows file = (name ≡ subcommand) × (Some file ≡ first_of (codes "file") rows)

-- the question of a subcommand, by its name and what was found of its files
abbrev pub IsQuestion : Text → List Row → Question → Type 0
IsQuestion name rows (questions.Dead file) = AsksOf (codes "dead") name rows file.now
IsQuestion name rows (questions.Compare old new) = (name ≡ codes "compare")
    × (Some old.now ≡ first_of (codes "old") rows) × (Some new.now ≡ first_of (codes "new") rows)
IsQuestion name rows (questions.Tests file) = AsksOf (codes "tests") name rows file.now
IsQuestion name rows (questions.Cover file) = AsksOf (codes "cover") name rows file.now
IsQuestion name rows (questions.Reach file) = AsksOf (codes "reach") name rows file.now
IsQuestion name rows (questions.Walk file) = AsksOf (codes "walk") name rows file.now
IsQuestion name rows (questions.Assert file claims) = (name ≡ codes "assert")
    × (Some file.now ≡ first_of (codes "file") rows) × (Some claims.now ≡ first_of (codes "claims") rows)

-- a file of a subcommand was not found
abbrev pub LacksFile : Text → List Row → Type 0
LacksFile name rows = (AsksOneFile name × (first_of (codes "file") rows ≡ None))
    ⊎ ((name ≡ codes "compare") × ((first_of (codes "old") rows ≡ None) ⊎ (first_of (codes "new") rows ≡ None)))
    ⊎ ((name ≡ codes "assert") × ((first_of (codes "file") rows ≡ None) ⊎ (first_of (codes "claims") rows ≡ None)))

-- all that was found under a name
abbrev pub values_of : Text → List Row → List Text
values_of name rows = unwrap_or (all_of name rows) []

-- the audit of a subcommand, by its name and what was found of its files, its options, its flag and its words
abbrev pub IsAuditOf : Text → List Row → Audit → Type 0
IsAuditOf name rows audit = IsQuestion name rows audit.question
    × (option_map (λ s. s.now) audit.steps ≡ first_of (codes "steps") rows)
    × (audit.json ≡ is_true (first_of (codes "json") rows))
    × (map (λ s. s.now) audit.when.items ≡ values_of (codes "when") rows)
    × (map (λ s. s.now) audit.unknown.items ≡ values_of (codes "unknown") rows)
    × (option_map (λ s. s.now) audit.local ≡ first_of (codes "local") rows)
    × (map (λ s. s.now) audit.words.items ≡ values_of (codes "word") rows)
