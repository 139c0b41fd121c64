-- The command line of `iptsim` (iptsim(1), SYNOPSIS), and the job that it asks for.
use Rattle.std.specs.Prelude.{◌≡◌, ◌⊎◌, codes, List, Some, option_map}
use Rattle.clap.specs.Words.{App, Row, Rule, Text, first_of, new_app, new_rule, with_rule, with_subcommand}
use Rattle.programs.specs.Line.{as_program, flag_rule, is_true}
use Rattle.programs.specs.declared.line.job.Job.{Job}
use Rattle.programs.specs.declared.line.job.Task.{Task}
use Rattle.programs.specs.declared.line.job.Task.TheVariants as tasks

-- `--load FILE`
abbrev pub load_rule : Rule
load_rule = record (new_rule (codes "load")) { long = Some (codes "load"); value_names = 1 }

-- `session [--load FILE]`
abbrev pub session_app : App
session_app = with_rule (new_app (codes "session")) load_rule

-- `restore [--noflush] [--test] [--load FILE]`
abbrev pub restore_app : App
restore_app = with_rule (with_rule (with_rule (new_app (codes "restore")) (flag_rule (codes "noflush"))) (flag_rule (codes "test"))) load_rule

-- the program, with its two subcommands
abbrev pub program_app : App
program_app = with_subcommand (with_subcommand (as_program (new_app (codes "iptsim"))) session_app.top) restore_app.top

-- the name of a subcommand
abbrev pub IsSubcommand : Text → Type 0
IsSubcommand name = (name ≡ codes "session") ⊎ (name ≡ codes "restore")

-- the task of a subcommand, by its name and what was found of its flags
abbrev pub IsTask : Text → List Row → Task → Type 0
IsTask name rows tasks.Session = name ≡ codes "session"
IsTask name rows (tasks.Restore noflush test) = (name ≡ codes "restore")
    × (noflush ≡ is_true (first_of (codes "noflush") rows))
    × (test ≡ is_true (first_of (codes "test") rows))

-- the job of a subcommand, by its name and what was found of its options
abbrev pub IsJobOf : Text → List Row → Job → Type 0
IsJobOf name rows job = IsTask name rows job.task
    × (option_map (λ s. s.now) job.load ≡ first_of (codes "load") rows)

-- no subcommand needs a file
abbrev pub LacksFile : Text → List Row → Type 0
LacksFile name rows = ⊥
