-- When a terminal was due for certain: its timers were over, however long they took and whatever it may have heard.
--   o        its last start
--   until    the moment of its next one, or the horizon
--   timers   how short and how long its timers may be
use Rattle.std.specs.Prelude.{ℕ, ◌+◌, ◌-◌, Bool, ◌&&◌, ◌||◌, ◌==◌, nat_le, List, Option, option_map, option_and_then, if◌then◌else◌}
use Rattle.std.specs.List.{list_all}
use Rattle.bus_recording.specs.Seen.{Seen, Monitor, Bounds}
use Rattle.bus_findings.specs.declared.judgement.Due.{Due}
use Rattle.bus_findings.specs.declared.judgement.Timer.{Timer}
use Rattle.bus_findings.specs.declared.judgement.Timer.TheVariants.{Interval, SyncGap, TerminalGap}
use Rattle.bus_findings.specs.Amounts.{first_below}

-- Whether two recorded transmissions are the same.
abbrev pub is_same : Seen → Seen → Bool
is_same r o = r.moment == o.moment && (r.sender == o.sender && (r.soonest == o.soonest && r.latest == o.latest))

-- Whether the terminal has heard nothing for certain from moment a to moment b: the bus is settled, its own last message is over, and each
-- other transmission begins no earlier than b or can't be heard any more at a.
abbrev pub is_quiet : Monitor → List Seen → Seen → ℕ → ℕ → Bool
is_quiet monitor recording o a b =
    nat_le monitor.settled a
    && (nat_le o.latest a && list_all (λ r. is_same r o || (nat_le b r.moment || nat_le (r.latest + monitor.rest) a)) recording)

-- The first moment at which its synchronization gap has elapsed for certain.
abbrev pub first_elapsed : Bounds → Monitor → List Seen → Seen → ℕ → Option ℕ
first_elapsed timers monitor recording o until =
    first_below (λ e. nat_le timers.long.sg e && is_quiet monitor recording o (e - timers.long.sg) e) until

-- The first moment at which all three timers are over for certain, where the synchronization gap elapsed at moment e: the interval has
-- passed, and the terminal gap behind e.
abbrev pub first_due : Bounds → Monitor → List Seen → Seen → ℕ → ℕ → Option ℕ
first_due timers monitor recording o until e =
    first_below (λ t. nat_le (o.moment + timers.long.ti) t && (nat_le (e + timers.long.tg) t
    && is_quiet monitor recording o (t - timers.long.tg) t)) until

-- The timer that was over last then; of several the interval before the synchronization gap, with the terminal gap at once behind it, and
-- this before a terminal gap that began anew.
abbrev pub last_over : Bounds → Seen → ℕ → ℕ → Timer
last_over timers o e t =
    if t == o.moment + timers.long.ti then Interval else (if t == e + timers.long.tg then SyncGap else TerminalGap)

-- When the terminal was due for certain first, and by which timer.
abbrev pub due_of : Bounds → Monitor → List Seen → Seen → ℕ → Option Due
due_of timers monitor recording o until =
    option_and_then
    (λ e. option_map (λ t. record { moment = t; timer = last_over timers o e t }) (first_due timers monitor recording o until e))
    (first_elapsed timers monitor recording o until)
