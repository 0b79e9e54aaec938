use Rattle.std.proofs.Common.{arith, ◌≡◌, ◌<◌, get_or, sym, ◌∙◌}
use Rattle.bus_trace.proofs.QuickLines.{number_front, no_idle}
use Rattle.bus_trace.proofs.quick.first_number.Goals as goal
use Rattle.bus_trace.proofs.quick.first_number.Goals.{then-count-gt1, else-count-gt1}

pub returns : goal.returns
returns c =
    let e = c.leading_digits-count.ensures in
    let idle : 1 < c.leading_digits-count.result.0 → get_or c.args.text.now 0 0 ≡ 48 → ⊥ = elim c.if-count-gt1.branch [
      | then-count-gt1 w ↦ λ l z. no_idle (get_or c.args.text.now 0 0) (sym w.value-is ∙ c.if-text-eq48.false) z
      | else-count-gt1 w ↦ λ l z. omega (arith, w.if-count-gt1.false, l)
    ] in (
      number_front c.args.text.now c.leading_digits-count.result.0 c.leading_digits-count.result.1 e.within e.digits e.value e.room
          (omega (arith, c.if-count-eq0.false)) idle,
      e.room,
    )
