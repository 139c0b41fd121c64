-- What holds of the rows of the table as they are kept.
use Rattle.std.specs.Prelude.{All, ℕ, ◌≤◌, List}
use Rattle.dumps.specs.declared.options.kept.KeptOption.{KeptOption}
use Rattle.dumps.specs.declared.options.kept.KeptExtension.{KeptExtension}

-- the spans of options, matches and targets end among so many words
pub record AreWithin (count : ℕ) (options : List KeptOption) (extensions : List KeptExtension) : Type 0 where
  pub names : All (λ (kept : KeptOption). kept.names.to ≤ count) options
  pub protocols : All (λ (kept : KeptExtension). kept.protocols.to ≤ count) extensions
  pub sets : All (λ (kept : KeptExtension). kept.sets.to ≤ count) extensions
