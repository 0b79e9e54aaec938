use Rattle.std.proofs.Common.{◌≡◌, ◌≤◌, ◌<◌, ◌-◌, length, get_or, take, drop, arith}
use Rattle.bus_wave.proofs.QuickLemmas.{two_front}
use Rattle.bus_wave.proofs.QuietLemmas.{quiet_first}
use Rattle.bus_wave.proofs.quick.quiet_line.Goals as goal

pub returns-clause-line : goal.returns-clause-line
returns-clause-line c =
    let text = c.args.text.now in
    let rest = take (length text - 2) (drop 2 text) in
    let long : 2 ≤ length text = omega arith in
    let q : get_or text 0 0 ≡ 81 = omega arith in
    let s : get_or text 1 0 ≡ 32 = omega arith in
    let some : 0 < c.leading_digits-count.result.0 = omega arith in
    let less : c.leading_digits-count.result.0 < length rest = omega (arith, c.leading_digits-count.ensures.within) in
    quiet_first text rest c.leading_digits-count.result.0 c.leading_digits-count.result.1 (two_front text long q s) c.leading_digits-count.ensures.digits
    c.leading_digits-count.ensures.value c.leading_digits-count.ensures.room some less (omega arith) (omega arith)
