use Rattle.std.proofs.Common.{◌≡◌, drop}
use Rattle.bus_page.specs.Checksums.{behind, ones}
use Rattle.bus_page.proofs.checksum.checksum.Given as goal

abbrev pub invariant-loop-byte : goal.invariant-loop-byte
invariant-loop-byte l = behind l.register (drop l.byte-index l.bytes) ≡ behind ones l.bytes
