use Rattle.std.proofs.Common.{◌≡◌, ◌≤◌, length, get_or, take, drop, sym, arith}
use Rattle.bus_wave.proofs.QuickLemmas.{line_front, gathered_digits}
use Rattle.bus_wave.proofs.quick.word_line.Goals as goal

pub returns-clause-line : goal.returns-clause-line
returns-clause-line c =
    let text = c.args.text.now in
    let long : 13 ≤ length text = omega arith in
    let w : get_or text 0 0 ≡ 87 = omega arith in
    let s : get_or text 1 0 ≡ 32 = omega arith in
    let n : get_or text 12 0 ≡ 10 = omega arith in
    let digits = gathered_digits c.in_ok-kind.front (take 8 (drop 4 text)) c.in_ok-bits.bits (sym c.in_ok-bits.ensures.value) in
    line_front text c.in_ok-kind.kind c.in_ok-kind.front c.in_ok-bits.bits c.in_ok-word.word long w s n c.in_ok-kind.ensures.digits.0 c.in_ok-kind.ensures.digits.1
    digits.0 digits.1 c.in_ok-word.ensures.digits
