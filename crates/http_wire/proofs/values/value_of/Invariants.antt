use Rattle.std.proofs.Common.{◌≡◌, ◌<◌, ◌^◌, true, drop}
use Rattle.office_text.specs.Number.{are_digits, value_after, value_of}
use Rattle.http_wire.proofs.values.value_of.Given as goal

abbrev pub invariant-loop-digit : goal.invariant-loop-digit
invariant-loop-digit l = record {
  fits : l.value < 10 ^ l.digit-index;
  digits : are_digits (drop l.digit-index l.digits) ≡ true;
  value : value_after l.value (drop l.digit-index l.digits) ≡ value_of l.digits;
}
