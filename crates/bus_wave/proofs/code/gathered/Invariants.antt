use Rattle.std.proofs.Common.{◌≡◌, ◌*◌, ◌<◌, ◌^◌, drop}
use Rattle.bus_wave.specs.inside.Digits as spec
use Rattle.bus_wave.proofs.code.gathered.Given as goal

-- the digits so far are gathered, and each gave two bits
abbrev pub invariant-loop-digit : goal.invariant-loop-digit
invariant-loop-digit l = record {
  left : spec.gathered l.bits (drop l.digit-index l.digits) ≡ spec.gathered l.fn.front l.digits;
  low : l.bits < 2 * 4 ^ l.digit-index;
}
