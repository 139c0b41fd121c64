use Rattle.std.specs.Borrow.{Bor}
use Rattle.std.proofs.Common.{◌≡◌, ◌++◌, ℕ, List}
use Rattle.dumps.specs.Views.{texts_in}
use Rattle.dumps.proofs.options.kept.KnownOptions.keep.Given as goal

-- the words so far stand behind those that were there
abbrev pub invariant-loop-word : goal.invariant-loop-word
invariant-loop-word l = record {
  words : (more : List (Bor (List ℕ))) × (l.self.words.items ≡ l.initial.self.words.items ++ more) × (texts_in more ≡ texts_in l.yielded);
  options : l.self.options.items ≡ l.initial.self.options.items;
  extensions : l.self.extensions.items ≡ l.initial.self.extensions.items;
}
