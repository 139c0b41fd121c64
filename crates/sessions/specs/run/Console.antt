-- What contracts say of a console: the tap that a run reads from, and the tap that it writes to.
use Rattle.std.specs.Prelude.{◌≡◌}
use Rattle.fields.specs.declared.text.tap.Tap.{Tap}
use Rattle.sessions.specs.declared.run.console.Console.{Console}

-- the tap that it reads from, as it stands
abbrev pub reader : {R W : Type 0} → Console R W → Tap R
reader c = c.input.now

-- the tap that it writes to, as it stands
abbrev pub writer : {R W : Type 0} → Console R W → Tap W
writer c = c.output.now

-- the taps are the ones that were lent
pub record HasSameTaps {R W : Type 0} (old new : Console R W) : Type 0 where
  pub input : new.input.ghost_name ≡ old.input.ghost_name
  pub output : new.output.ghost_name ≡ old.output.ghost_name
