use Rattle.std.proofs.Common.{◌≡◌, suc, ◌+◌, ◌-◌, arith, ap, ◌∙◌}
use Rattle.bus_page.specs.Checksums.{shifted_by}
use Rattle.bus_page.proofs.checksum.behind_byte.Goals as goal

pub loop-bit-preserved : goal.loop-bit-preserved
loop-bit-preserved c =
    let more : suc (8 - (c.loop-bit._bit + 1)) ≡ 8 - c.loop-bit._bit = omega (arith, c.loop-bit-test.true) in
    ap (shifted_by (8 - (c.loop-bit._bit + 1))) c.shifted-register.ensures ∙ ap (λ n. shifted_by n c.loop-bit.register) more ∙ c.loop-bit.invariant
