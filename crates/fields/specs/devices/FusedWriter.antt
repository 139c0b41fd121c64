-- What contracts say of a `FusedWriter`, a test device that is written to.
use Rattle.std.specs.Prelude.{ℕ, ◌+◌, ◌-◌, ◌^◌, min, List, length, vec_capacity}
use Rattle.fields.specs.declared.devices.fuse.Fuse.{Fuse}
use Rattle.fields.specs.declared.devices.fused_writer.FusedWriter.{FusedWriter}
use Rattle.fields.specs.devices.Fuse.{most_of, counted}

-- when its calls fail
abbrev pub fuse_of : FusedWriter → Fuse
fuse_of w = w.fuse

-- the bytes that were written to it
abbrev pub held : FusedWriter → List ℕ
held w = w.held.items

-- how many more bytes it has room for
abbrev pub room_left : FusedWriter → ℕ
room_left w = vec_capacity w.held - length (held w)

-- how many flushes were made
abbrev pub flushes_of : FusedWriter → ℕ
flushes_of w = w.flushes

-- how many of these bytes a write takes: all of them, up to the most of a call and the room that is left
abbrev pub taken : FusedWriter → List ℕ → ℕ
taken w bs = min (min (length bs) (most_of (fuse_of w))) (room_left w)

-- one flush more, and no other change; the counts stay at their greatest value
abbrev pub flushed : FusedWriter → FusedWriter
flushed w = record w { fuse = counted w.fuse; flushes = min (w.flushes + 1) (2 ^ 64 - 1) }
