-- A stretch of the bus that is busy: carrier at its first and its last bit time, and in between at one of five. A message is such a
-- stretch, and so are messages that begin together. For the timers it is as good as carrier throughout.
-- The contract of `laws::busy_stretches` says that each law with a name of its own holds; the proofs are for the crates above to cite.
use Rattle.std.proofs.Common.{◌≡◌, ℕ, ◌+◌, ◌-◌, ◌<◌, ◌≤◌, List, Option}
use Rattle.std.proofs.Common.{arith, ap, ◌∙◌, subst}
use Rattle.bus_timers.specs.GapPlace.{GapFrom}
use Rattle.bus_strings.specs.Messages.{Entry, bits}
use Rattle.bus_strings.specs.Pulses.{is_on}
use Rattle.bus_strings.specs.PulseLaws.{Pulse}
use Rattle.bus_strings.proofs.PulsesAlongLaws.{first_is_on, last_is_on, pulse_soon}
use Rattle.bus_strings.proofs.MessageLaws.{bits_some}
use Rattle.bus_strings.specs.Transmissions.{end_of}
use Rattle.bus_medium.specs.Past.{past}
use Rattle.bus_medium.proofs.PastLaws.{some_carrier}
use Rattle.bus_medium.specs.Clocks.{GapAt}
use Rattle.bus_medium.proofs.Waking.{busy_elapsed_at, busy_waiting_whole, woken_nobody}
use Rattle.bus_medium.specs.BusyLaws.{EntryIsBusy, BusyElapsed, BusyWaiting, BusyNobody}

pub entry_is_busy : EntryIsBusy
entry_is_busy l x i some =
    let bit : 0 < bits x.message = bits_some x.message some in
    record {
      some = omega arith;
      first = some_carrier l x x.moment i (omega arith) (ap (is_on x.message) (let e : x.moment - x.moment ≡ 0 = omega arith in e)
          ∙ first_is_on x.message some);
      final = some_carrier l x (end_of x - 1) i (omega arith)
          (ap (is_on x.message) (let e : end_of x - 1 - x.moment ≡ bits x.message - 1 = omega arith in e) ∙ last_is_on x.message some);
      soon = λ k low high.
          let p : Pulse x.message (k - x.moment) = pulse_soon x.message (k - x.moment) (omega arith) in
          let from : k - x.moment ≤ p.at = p.low in let to : p.at ≤ k - x.moment + 4 = p.high in
          record {
            at = x.moment + p.at;
            low = omega arith;
            high = omega arith;
            on = some_carrier l x (x.moment + p.at) i (omega arith)
                (ap (is_on x.message) (let e : x.moment + p.at - x.moment ≡ p.at = omega arith in e) ∙ p.is_on);
          };
    }

-- the past of one that was powered up with the bus
since_start : (sg q : ℕ) (l : List Entry) (v : ℕ) (last : Option ℕ) (g : ℕ) → GapFrom sg (past q l v) last g → GapAt sg q 0 l v last g
since_start sg q l v last g from = record { g = g; is = omega arith; from = from }

pub busy_elapsed : BusyElapsed
busy_elapsed q l sg last a b g some busy from reached =
    let at : GapAt sg q 0 l b last (q + b) = busy_elapsed_at sg q 0 some l last a b g (omega arith) busy reached (since_start sg q l a last g from) in
    subst (λ p. GapFrom sg (past q l b) last p) (let e : at.g + 0 ≡ q + b = at.is in omega arith) at.from

pub busy_waiting : BusyWaiting
busy_waiting q l sg last a b g some busy from ahead =
    let at : GapAt sg q 0 l b last (q + b + sg) = busy_waiting_whole sg q 0 some l last a b g (omega arith) busy ahead (since_start sg q l a last g from) in
    subst (λ p. GapFrom sg (past q l b) last p) (let e : at.g + 0 ≡ q + b + sg = at.is in omega arith) at.from

pub busy_nobody : BusyNobody
busy_nobody q = woken_nobody q 0
