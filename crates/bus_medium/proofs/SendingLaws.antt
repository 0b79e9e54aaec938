-- What a message says of the timers of the terminal that sends it.
-- The contract of `laws::sending_is_not_ready` says that this holds; the proof is for the crates above to cite.
use Rattle.std.proofs.Common.{◌≡◌, ℕ, ◌+◌, ◌-◌, ◌<◌, ◌≤◌, true, false, length, get_or, Some, arith, sym, ◌∙◌}
use Rattle.std.proofs.lemmas.Bool.{true≢false}
use Rattle.std.proofs.lemmas.List.{get_or_default}
use Rattle.bus_timers.specs.MayStart.{IsSync}
use Rattle.bus_strings.specs.PulseLaws.{Pulse}
use Rattle.bus_strings.proofs.PulsesAlongLaws.{pulse_soon}
use Rattle.bus_medium.specs.SendingLaws.{SendingIsNotReady}

-- the quiet within a message is shorter than every synchronization gap
pub sending_is_not_ready : SendingIsNotReady
sending_is_not_ready timing past start d message sound ends inside heard may =
    let e : ℕ = may.synchronized.0 in
    let sync : IsSync timing.sg past (Some start) may.synchronized.0 = may.synchronized.2 in
    let room : may.synchronized.0 + timing.tg ≤ length past = may.synchronized.1 in
    let long : timing.sg ≤ may.synchronized.0 = sync.long in
    let after : start ≤ may.synchronized.0 - timing.sg = sync.own in
    let tg : 8 ≤ timing.tg = sound.tg_least in
    let sg : timing.tg < timing.sg = sound.tg_short in
    let p : Pulse message (may.synchronized.0 - timing.sg - start) = pulse_soon message (may.synchronized.0 - timing.sg - start)
    (omega arith) in
    let low : may.synchronized.0 - timing.sg - start ≤ p.at = p.low in
    let high : p.at ≤ may.synchronized.0 - timing.sg - start + 4 = p.high in
    let still : get_or past (start + p.at) true ≡ false = sync.quiet (start + p.at) (omega arith) (omega arith) in
    true≢false (sym (heard p.at (omega arith) p.is_on) ∙ get_or_default past (start + p.at) false true (omega arith) ∙ still)
