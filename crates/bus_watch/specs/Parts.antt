-- A part of a stream, and what one transmission more makes of it.
--   window   a recording that was begun at a bit time, its base, and is counted from there
--   older    the window by which is judged
--   newer    the one that was begun with this block
use Rattle.std.specs.Prelude.{ℕ, ◌+◌, ◌-◌, Bool, false, true, ◌&&◌, nat_le, nat_lt, is_some, List, [], ◌∷◌, ◌++◌, replicate, set, fold}
use Rattle.std.specs.Prelude.{slice_index_or, Option, None, if◌then◌else◌}
use Rattle.std.specs.List.{flat_map}
use Rattle.bus_strings.specs.Messages.{Entry, Message}
use Rattle.bus_table.specs.Tables.{Sender, Table}
use Rattle.bus_bounds.specs.Bounds.{Bounds}
use Rattle.bus_findings.specs.declared.judgement.Due.{Due}
use Rattle.bus_findings.specs.declared.judgement.Judgement.{Judgement}
use Rattle.bus_findings.specs.Growing.{due_until}
use Rattle.bus_findings.specs.Judging.{judgement_of}
use Rattle.bus_stream.specs.Places.{bit_of}
use Rattle.bus_findings.specs.Terminals.{is_faulty}
use Rattle.bus_watch.specs.declared.at.At.{At}
use Rattle.bus_watch.specs.declared.part.Part.{Part}
use Rattle.bus_watch.specs.declared.window.Window.{Window}
use Rattle.bus_watch.specs.Texts.{found_lines, part_line, silence_lines}

-- How many transmissions a block has, or a few more, and how many bit times a window has at most.
abbrev pub block : ℕ
block = 1024

abbrev pub most_span : ℕ
most_span = 500000000000

-- ---- windows

-- A window in which nothing is recorded yet.
abbrev pub opened : Bounds → Table → ℕ → Window
opened bounds table base = record { base = base; live = record { bounds = bounds; table = table; list = [] } }

-- A transmission as a window counts it.
abbrev pub counted : ℕ → ℕ → ℕ → Message → Entry
counted base bit terminal message = record { moment = bit - base; terminal = terminal; message = message }

-- With one transmission more.
abbrev pub recorded : Window → ℕ → ℕ → Message → Window
recorded window bit terminal message =
    record window { live = record window.live { list = window.live.list ++ counted window.base bit terminal message ∷ [] } }

-- What is found at it.
abbrev pub found_in : Window → ℕ → ℕ → Message → Judgement
found_in window bit terminal message =
    judgement_of window.live.bounds window.live.table (window.live.list ++ counted window.base bit terminal message ∷ [])
    (counted window.base bit terminal message)

-- When a sender was due behind its last start, before a bit time up to which all is told.
abbrev pub due_in : Window → Sender → ℕ → Option Due
due_in window sender bit = due_until window.live.bounds window.live.table window.live.list sender (bit - window.base)

-- ---- parts

-- A part that begins at a moment.
abbrev pub begun : Bounds → Table → ℕ → Part
begun bounds table time = record {
  start = time;
  told = time;
  older = opened bounds table (bit_of time);
  newer = opened bounds table (bit_of time);
  count = 0;
  last = bit_of time;
  silent = replicate 129 false;
  sent = 0;
  faults = 0;
}

-- Whether a terminal was told to be silent since its last start.
abbrev pub is_told : List Bool → ℕ → Bool
is_told silent number = slice_index_or silent number false

-- When a sender was due that wasn't told to be silent.
abbrev pub silence_of : Part → ℕ → Sender → Option Due
silence_of part bit sender = if is_told part.silent sender.number then None else due_in part.older sender bit

-- Who is told to be silent at a look, in the order of the table.
abbrev pub silent_lines : Part → ℕ → ℕ → Sender → List ℕ
silent_lines part line bit sender =
    silence_lines (record { base = part.older.base; bit = bit; line = line }) sender.number (silence_of part bit sender)

abbrev pub silences : Table → Part → ℕ → ℕ → List ℕ
silences table part line bit = flat_map (silent_lines part line bit) table.senders

-- With a sender that is told, where it was due.
abbrev pub with_silent : Part → ℕ → List Bool → Sender → List Bool
with_silent part bit silent sender = if is_some (due_in part.older sender bit) then set silent sender.number true else silent

abbrev pub silent_at : Table → Part → ℕ → List Bool
silent_at table part bit = fold (with_silent part bit) part.silent table.senders

-- Behind a look at who is silent.
abbrev pub looked : Table → Part → ℕ → Part
looked table part bit = record part { silent = silent_at table part bit }

-- Whether a bit time is too far behind the beginning of its window.
abbrev pub is_long : ℕ → Part → Bool
is_long bit part = nat_lt most_span (bit - part.older.base)

-- All is told up to a moment: it is looked who is silent.
abbrev pub told_to : Table → ℕ → Part → Part
told_to table time part = record (looked table part (bit_of time)) { told = time }

-- Whether its block is over before a transmission: nothing of one bit time is cut apart.
abbrev pub is_over : Part → ℕ → Bool
is_over part bit = nat_le block part.count && nat_lt part.last bit

-- A block is over: from here on the newer window counts, and a fresh one is begun.
abbrev pub turned : Bounds → Table → Part → ℕ → Part
turned bounds table part bit = record part { older = part.newer; newer = opened bounds table bit; count = 0 }

-- Before a transmission: where the block is over, it is looked who is silent, and the part turns to the next one.
abbrev pub made_room : Bounds → Table → Part → ℕ → Part
made_room bounds table part bit = if is_over part bit then turned bounds table (looked table part bit) bit else part

abbrev pub room_text : Table → Part → ℕ → ℕ → List ℕ
room_text table part line bit = if is_over part bit then silences table part line bit else []

-- With one transmission more.
abbrev pub taken : Part → ℕ → ℕ → Message → Part
taken part time terminal message = record part {
  told = time;
  older = recorded part.older (bit_of time) terminal message;
  newer = recorded part.newer (bit_of time) terminal message;
  count = part.count + 1;
  last = bit_of time;
  silent = set part.silent terminal false;
  sent = part.sent + 1;
}

-- What is found at it, in the window that its block has.
unfoldable pub found_of : Bounds → Table → Part → ℕ → ℕ → Message → Judgement
found_of bounds table part time terminal message =
    found_in (made_room bounds table part (bit_of time)).older (bit_of time) terminal message

-- With one more fault, where there is one.
abbrev pub with_fault : Bool → Part → Part
with_fault faulty part = if faulty then record part { faults = part.faults + 1 } else part

-- With a transmission more, and its faults.
unfoldable pub judged : Bounds → Table → Part → ℕ → ℕ → Message → Part
judged bounds table part time terminal message =
    with_fault (is_faulty (found_of bounds table part time terminal message))
    (taken (made_room bounds table part (bit_of time)) time terminal message)

unfoldable pub judged_text : Bounds → Table → Part → At → Message → List ℕ
judged_text bounds table part at message =
    room_text table part at.line (bit_of at.time)
    ++ found_lines at (found_of bounds table part at.time at.terminal message)

-- A part ends at a moment up to which all is told.
abbrev pub end_text : Table → Part → ℕ → ℕ → List ℕ
end_text table part line time = silences table part line (bit_of time) ++ part_line part.start time part.sent part.faults
