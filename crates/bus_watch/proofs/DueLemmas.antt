-- Who is told to be due was due before.
use Rattle.std.specs.Prelude.{IfSome}
use Rattle.std.specs.Option.{option_map_or}
use Rattle.std.proofs.Common.{◌≡◌, ℕ, ◌+◌, ◌-◌, ◌<◌, ◌≤◌, List, Option, Some, None, arith, refl, sym, subst}
use Rattle.bus_strings.specs.Messages.{Entry}
use Rattle.bus_table.specs.Tables.{Sender, Table}
use Rattle.bus_bounds.specs.Bounds.{Bounds}
use Rattle.bus_recording.specs.Seen.{Seen, Monitor, Bounds as TimerBounds}
use Rattle.bus_findings.specs.declared.judgement.Due.{Due}
use Rattle.bus_findings.specs.Dues.{due_of}
use Rattle.bus_findings.specs.Growing.{due_until}
use Rattle.bus_findings.specs.Judging.{last_start}
use Rattle.bus_findings.specs.Laws.{DueIsFirst}
use Rattle.bus_findings.specs.Recorded.{monitor_of, recorded, timers_of}

from_due : (law : DueIsFirst) (timers : TimerBounds) (monitor : Monitor) (list : List Seen) (o : Seen) (until : ℕ) (due : Option Due)
    → due_of timers monitor list o until ≡ due → IfSome due (λ d. d.moment < until)
from_due law timers monitor list o until None h = tt
from_due law timers monitor list o until (Some d) h = (law timers monitor list o until d h).before

from_start : (law : DueIsFirst) (timers : TimerBounds) (monitor : Monitor) (list : List Seen) (until : ℕ) (start : Option Seen)
    → IfSome (option_map_or (λ o. due_of timers monitor list o until) start None) (λ d. d.moment < until)
from_start law timers monitor list until None = tt
from_start law timers monitor list until (Some o) = from_due law timers monitor list o until (due_of timers monitor list o until) refl

due_before : (law : DueIsFirst) (bounds : Bounds) (table : Table) (list : List Entry) (sender : Sender) (until : ℕ)
    → IfSome (due_until bounds table list sender until) (λ d. d.moment < until)
unfolding due_until
due_before law bounds table list sender until =
    from_start law (timers_of bounds table sender) (monitor_of bounds table) (recorded bounds list) until
    (last_start (recorded bounds list) sender.number (until + 1))

pub due_low : (law : DueIsFirst) (bounds : Bounds) (table : Table) (list : List Entry) (sender : Sender) (until : ℕ) (due : Option Due)
    → due ≡ due_until bounds table list sender until → IfSome due (λ d. d.moment < until)
due_low law bounds table list sender until due is =
    subst (λ r. IfSome r (λ (d : Due). d.moment < until)) (sym is) (due_before law bounds table list sender until)

pub within_from : (base bit : ℕ) (due : Option Due) → base ≤ bit → IfSome due (λ d. d.moment < bit - base)
    → IfSome due (λ d. base + d.moment ≤ bit)
within_from base bit None later low = tt
within_from base bit (Some d) later low = omega (arith, later, low)
