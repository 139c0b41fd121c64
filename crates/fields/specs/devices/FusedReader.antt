-- What contracts say of a `FusedReader`, a test device that is read from.
use Rattle.std.specs.Prelude.{ℕ, max, List}
use Rattle.fields.specs.declared.devices.fuse.Fuse.{Fuse}
use Rattle.fields.specs.declared.devices.fused_reader.FusedReader.{FusedReader}
use Rattle.fields.specs.devices.Fuse.{most_of}

-- when its calls fail
abbrev pub fuse_of : FusedReader → Fuse
fuse_of r = r.fuse

-- the bytes that were not read yet
abbrev pub left : FusedReader → List ℕ
left r = r.rest.now

-- the most bytes that a call reads, at least one
abbrev pub step : FusedReader → ℕ
step r = max (most_of (fuse_of r)) 1
