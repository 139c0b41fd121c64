use Rattle.std.proofs.Common.{◌≡◌, ◌<◌, ◌^◌, drop}
use Rattle.fields.specs.text.Number.{number_from}
use Rattle.fields.proofs.text.number.value_of.Given as goal

abbrev pub invariant-loop-byte : goal.invariant-loop-byte
invariant-loop-byte l = record {
  value : number_from l.value (drop l.byte-index l.text) ≡ number_from 0 l.text;
  small : l.value < 10 ^ l.byte-index;
}
