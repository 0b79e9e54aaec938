use Rattle.bus_dump.specs.inside.TimerWalks.{timers_passed}
use Rattle.bus_dump.proofs.PassLemmas.{MappedTo}
use Rattle.bus_dump.proofs.all_timers.pass_all.Given as goal

abbrev pub invariant-loop-sender_timers : goal.invariant-loop-sender_timers
invariant-loop-sender_timers l = MappedTo (timers_passed l.t l.live l.from l.to l.carrier) l.initial.all_timers l.all_timers l.sender_timers-index
