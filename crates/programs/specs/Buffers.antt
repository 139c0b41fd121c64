-- Taps over buffered devices, before they are used.
use Rattle.std.specs.Prelude.{◌≡◌, ◌-◌, ◌^◌, false, []}
use Rattle.std.specs.Io.Buffered.{reader_buffer, reader_capacity, reader_inner, writer_buffer, writer_capacity, writer_inner}
use Rattle.std.specs.declared.io.buffered.BufReader.{BufReader}
use Rattle.std.specs.declared.io.buffered.BufWriter.{BufWriter}
use Rattle.fields.specs.declared.text.tap.Tap.{Tap}
use Rattle.fields.specs.text.Tap.{device, has_failed, is_late, is_unflushed, shown_left, turns_left}

-- the tap hasn't failed, shows nothing, holds nothing back, wasn't asked late and has all its steps of reading
pub record IsFresh {T : Type 0} (tap : Tap T) : Type 0 where
  pub ready : has_failed tap ≡ false
  pub flushed : is_unflushed tap ≡ false
  pub shown : shown_left tap ≡ 0
  pub prompt : is_late tap ≡ false
  pub turns : turns_left tap ≡ 2 ^ 64 - 1

-- nothing was read: the reader is as it was, behind an empty buffer of 65,536 bytes
pub record Reads {R A : Type 0} (reader : R) (input : Tap (BufReader R A)) : Type 0 where
  pub fresh : IsFresh input
  pub inner : reader_inner (device input) ≡ reader
  pub empty : reader_buffer (device input) ≡ []
  pub capacity : reader_capacity (device input) ≡ 65536

-- nothing was written: the writer is as it was, behind an empty buffer of 65,536 bytes
pub record Writes {W A : Type 0} (writer : W) (output : Tap (BufWriter W A)) : Type 0 where
  pub fresh : IsFresh output
  pub inner : writer_inner (device output) ≡ writer
  pub empty : writer_buffer (device output) ≡ []
  pub capacity : writer_capacity (device output) ≡ 65536
