-- The checksum of bytes: CRC-32 as Ethernet, gzip and zip have it. The bits of the bytes, each byte from its lowest bit on, go through a
-- register of 32 bits, and whatever falls out of it as a one takes the polynomial off.
use Rattle.std.specs.Prelude.{ℕ, zero, suc, ◌/◌, ◌%◌, ◌==◌, List, [], ◌∷◌, if◌then◌else◌}
use lib.Bits.{bit_xor}

-- The polynomial, without its highest power and with the others from the lowest bit on: 0xEDB88320.
abbrev pub polynomial : ℕ
polynomial = 3988292384

-- The register at the beginning, and what is turned over in it at the end: 32 ones.
abbrev pub ones : ℕ
ones = 4294967295

-- The register when a bit has fallen out.
abbrev pub shifted : ℕ → ℕ
shifted register = if register % 2 == 1 then bit_xor (register / 2) polynomial else register / 2

-- The same when so many have.
abbrev pub shifted_by : ℕ → ℕ → ℕ
shifted_by zero register = register
shifted_by (suc count) register = shifted_by count (shifted register)

-- The register behind a byte.
abbrev pub behind_byte : ℕ → ℕ → ℕ
behind_byte register byte = shifted_by 8 (bit_xor register byte)

-- The register behind bytes.
abbrev pub behind : ℕ → List ℕ → ℕ
behind register [] = register
behind register (byte ∷ bytes) = behind (behind_byte register byte) bytes

-- The checksum.
abbrev pub checksum : List ℕ → ℕ
checksum bytes = bit_xor (behind ones bytes) ones
