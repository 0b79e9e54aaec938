use Rattle.std.proofs.Common.{◌≡◌, ◌/◌, arith}
use Rattle.bus_wave.proofs.code.code_digits.Goals as goal

pub returns : goal.returns
returns c =
    let n = c.args.bits in
    let a : n / 16384 ≡ n / 4 / 4 / 4 / 4 / 4 / 4 / 4 = omega arith in
    let b : n / 4096 ≡ n / 4 / 4 / 4 / 4 / 4 / 4 = omega arith in
    let d : n / 1024 ≡ n / 4 / 4 / 4 / 4 / 4 = omega arith in
    let e : n / 256 ≡ n / 4 / 4 / 4 / 4 = omega arith in
    let f : n / 64 ≡ n / 4 / 4 / 4 = omega arith in
    let g : n / 16 ≡ n / 4 / 4 = omega arith in
    cc
