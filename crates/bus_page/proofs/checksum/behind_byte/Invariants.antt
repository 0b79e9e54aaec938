use Rattle.std.proofs.Common.{◌≡◌, ◌-◌}
use lib.Bits.{bit_xor}
use Rattle.bus_page.specs.Checksums.{shifted_by}
use Rattle.bus_page.proofs.checksum.behind_byte.Given as goal

abbrev pub invariant-loop-bit : goal.invariant-loop-bit
invariant-loop-bit l = shifted_by (8 - l._bit) l.register ≡ shifted_by 8 (bit_xor l.fn.register l.byte)
