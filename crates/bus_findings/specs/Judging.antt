-- What is found at a transmission of a trace.
use Rattle.std.specs.Prelude.{ℕ, ◌-◌, Bool, true, false, not, ◌&&◌, ◌||◌, ◌==◌, nat_lt, nat_le, List, [], ◌∷◌, filter, count_by, map}
use Rattle.std.specs.Prelude.{Option, Some, None, option_map, if◌then◌else◌}
use Rattle.std.specs.Option.{option_map_or, option_or}
use Rattle.bus_strings.specs.Marking.{greatest_end}
use Rattle.bus_strings.specs.Messages.{Entry}
use Rattle.bus_table.specs.Fits.{fits, sender_of}
use Rattle.bus_table.specs.Tables.{Sender, Table}
use Rattle.bus_bounds.specs.Bounds.{Bounds}
use Rattle.bus_recording.specs.Seen.{Seen}
use Rattle.bus_findings.specs.declared.judgement.Due.{Due}
use Rattle.bus_findings.specs.declared.judgement.Judgement.{Judgement}
use Rattle.bus_findings.specs.declared.judgement.Late.{Late}
use Rattle.bus_findings.specs.Recorded.{seen, recorded, monitor_of, timers_of}
use Rattle.bus_findings.specs.Lacks.{interval_lack, sync_lack, gap_lack}
use Rattle.bus_findings.specs.Dues.{due_of}

-- The last of these that passes a test.
abbrev pub last_such : {X : Type 0} → (X → Bool) → List X → Option X
last_such test [] = None
last_such test (x ∷ xs) = option_or (last_such test xs) (if test x then Some x else None)

-- The last start of a terminal before a moment.
abbrev pub last_start : List Seen → ℕ → ℕ → Option Seen
last_start recording number moment = last_such (λ r. r.sender == number && nat_lt r.moment moment) recording

-- How many transmissions begin from one moment on and before another.
abbrev pub begun_within : List Seen → ℕ → ℕ → ℕ
begun_within recording from to = count_by (λ r. nat_le from r.moment && nat_lt r.moment to) recording

-- By how much a start is late that was due, and how many others began in between.
abbrev pub late_by : List Seen → Seen → Due → Late
late_by recording y due = record {
  timer = due.timer;
  amount = y.moment - due.moment;
  passed = begun_within recording due.moment y.moment;
}

-- Whether one transmission stands before another.
abbrev pub stands_before : Entry → Entry → Bool
stands_before x z = nat_lt z.moment x.moment || (z.moment == x.moment && nat_lt z.terminal x.terminal)

-- For how long those that stand before a transmission last beyond its beginning.
abbrev pub overlap : List Entry → Entry → ℕ
overlap list x = greatest_end (filter (stands_before x) list) - x.moment

-- What is found at a transmission of a terminal that is no sender of the table.
abbrev pub of_stranger : List Entry → Entry → Judgement
of_stranger list x = record {
  stranger = true;
  interval = 0;
  sync_gap = 0;
  terminal_gap = 0;
  late = None;
  misfit = false;
  overlap = overlap list x;
}

-- What is found at a transmission of a sender: at its first one in the recording neither its interval nor its synchronization gap is known.
abbrev pub of_sender : Bounds → Table → List Entry → Sender → Entry → Option Seen → Judgement
of_sender bounds table list sender x last = record {
  stranger = false;
  interval = option_map_or (λ o. interval_lack (timers_of bounds table sender) o (seen bounds x)) last 0;
  sync_gap = option_map_or
      (λ o. sync_lack (timers_of bounds table sender) (monitor_of bounds table) (recorded bounds list) o (seen bounds x)) last 0;
  terminal_gap = gap_lack (timers_of bounds table sender) (monitor_of bounds table) (recorded bounds list) (seen bounds x);
  late = option_map_or (λ o. option_map (late_by (recorded bounds list) (seen bounds x))
      (due_of (timers_of bounds table sender) (monitor_of bounds table) (recorded bounds list) o x.moment)) last None;
  misfit = not (fits sender x.message);
  overlap = overlap list x;
}

-- The same, for a sender or for none.
abbrev pub judgement_by : Bounds → Table → List Entry → Entry → Option Sender → Judgement
judgement_by bounds table list x None = of_stranger list x
judgement_by bounds table list x (Some sender) =
    of_sender bounds table list sender x (last_start (recorded bounds list) x.terminal x.moment)

-- What is found at transmission x of a list, within bounds.
unfoldable pub judgement_of : Bounds → Table → List Entry → Entry → Judgement
judgement_of bounds table list x = judgement_by bounds table list x (sender_of table.senders x.terminal)

-- What is found at each transmission of a list.
abbrev pub judgements : Bounds → Table → List Entry → List Judgement
judgements bounds table list = map (judgement_of bounds table list) list
