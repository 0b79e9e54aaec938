-- What the walk between two starts gives.
use Rattle.std.specs.Prelude.{ℕ, ◌+◌, ◌-◌, ◌==◌, max, nat_le, List, Option, option_map, Some, None, if◌then◌else◌}
use Rattle.bus_strings.specs.Limits.{inner_gap}
use Rattle.bus_recording.specs.Seen.{Seen}
use Rattle.bus_recording.specs.Walk as walk
use Rattle.bus_findings.specs.declared.judgement.Due.{Due}
use Rattle.bus_findings.specs.declared.judgement.Timer.{Timer}
use Rattle.bus_findings.specs.declared.judgement.Timer.TheVariants.{Interval, SyncGap, TerminalGap}

-- The timer that was over last at moment t.
abbrev pub last_over : ℕ → ℕ → Option ℕ → ℕ → Timer
last_over over tg None t = if t == over then Interval else TerminalGap
last_over over tg (Some e) t = if t == over then Interval else (if t == e + tg then SyncGap else TerminalGap)

abbrev pub due_at : ℕ → ℕ → Option ℕ → ℕ → Due
due_at over tg elapsed t = record { moment = t; timer = last_over over tg elapsed t }

-- When the terminal was due.
abbrev pub due : ℕ → ℕ → ℕ → ℕ → ℕ → ℕ → List Seen → Option Due
due rest sg tg over start from between =
    option_map (due_at over tg (walk.first_elapsed rest sg start from None between))
    (walk.first_due rest sg tg over start from None between)

-- What lacks of the shortest synchronization gap.
abbrev pub sync_lack : ℕ → ℕ → ℕ → ℕ → ℕ → List Seen → ℕ
sync_lack reach sg tg start from between = sg - max (walk.longest_room reach tg start from between) inner_gap

-- What lacks of the shortest terminal gap behind an end, where there is one.
abbrev pub gap_lack : ℕ → ℕ → ℕ → ℕ
gap_lack tg end start = if end == 0 then 0 else (if nat_le tg inner_gap then 0 else end + tg - start)
