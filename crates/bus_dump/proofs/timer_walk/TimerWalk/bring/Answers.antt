use Rattle.std.proofs.Common.{inl, inr, arith}
use Rattle.bus_dump.proofs.timer_walk.TimerWalk.bring.Goals as goal

pub pass-requires-clause-lasts : goal.pass-requires-clause-lasts
pass-requires-clause-lasts c = elim c.requires.ready [
  | inl a ↦ a.1
  | inr b ↦ absurd (omega (arith, b.0, c.if-self-t.true))
]
