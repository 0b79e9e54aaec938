use Rattle.std.proofs.Common.{rules, arith, inl, inr, refl}
use Rattle.std.proofs.lemmas.Grind.{common_steps}
use Rattle.bus_outer.proofs.memory_sink.MemorySinkSink.push.Goals as goal
use Rattle.bus_outer.proofs.memory_sink.MemorySinkSink.push.Goals.{then-fails-via-then-fails, then-fails-via-else-fails+then-len-self}

pub returns-then-fails-clause-listed : goal.returns-then-fails-clause-listed
returns-then-fails-clause-listed c = elim c.then-fails.branch [
  | then-fails-via-then-fails w ↦ (λ _. inl (search rules), λ _. refl)
  | then-fails-via-else-fails+then-len-self w ↦ (λ _. inr (grind (arith, common_steps)), λ _. refl)
]
