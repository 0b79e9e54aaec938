-- The text of a save file of GTKWave: what the viewer shows of the dumps of a trace, in which order, and how.
use Rattle.std.specs.Prelude.{ℕ, ◌-◌, ◌*◌, Bool, false, not, ◌==◌, nat_le, List, [], ◌++◌, length, codes, decimal, drop, take}
use Rattle.std.specs.Prelude.{Option, Some, None, if◌then◌else◌}
use Rattle.std.specs.Int.{leading_zeros, w64}
use Rattle.std.specs.List.{filter, flat_map, list_all, list_any}
use Rattle.std.specs.Option.{option_and_then, option_map_or}
use Rattle.bus_table.specs.Fits.{sender_of}
use Rattle.bus_table.specs.Tables.{Sender, Table}
use Rattle.bus_table.specs.declared.mode.Mode.{Mode}
use Rattle.bus_table.specs.declared.mode.Mode.TheVariants.{Aperiodic, Periodic}
use Rattle.bus_trace.specs.Traces.{Recording}
use Rattle.bus_trace.specs.Windows.{Window, holds}
use Rattle.bus_dump.specs.declared.lane.Lane.{Lane}
use Rattle.bus_dump.specs.DumpTexts.{bits_text, end_of_dump, name_text}
use Rattle.bus_dump.specs.Lanes.{lanes}
use Rattle.bus_dump.specs.Signals.{Signal, Carrier, Overlap, Sync, Breach, Word, Pulse, Garbled, Label, Message, Interval, Synchronization}
use Rattle.bus_dump.specs.Signals.{Gap, May}
pub use Rattle.bus_dump.specs.declared.breach.FirstBreach.{FirstBreach}

-- ---- the breach
-- The first breach of a trace, where a window holds its moment.
abbrev pub shown_breach : Window → Option FirstBreach → Option FirstBreach
shown_breach window breach = option_and_then (λ (b : FirstBreach). if holds window b.moment then Some b else None) breach

-- Whether a breach names the terminal of a lane.
abbrev pub is_named : Option FirstBreach → Lane → Bool
is_named breach lane = option_map_or (λ (b : FirstBreach). lane.terminal == b.terminal) breach false

-- ---- which groups are open at first, and in which order lanes stand
-- So few lanes are shown alike, whatever breach there is.
abbrev pub few : ℕ
few = 2

-- So many lanes are open where no breach tells which one is.
abbrev pub most_open : ℕ
most_open = 8

-- The breach that tells which lane is open: one that is shown, of more than a few lanes.
abbrev pub telling_breach : List Lane → Option FirstBreach → Option FirstBreach
telling_breach lanes breach = if nat_le (length lanes) few then None else breach

-- Whether one of these lanes is of the terminal of a lane.
abbrev pub is_among : List Lane → Lane → Bool
is_among lanes lane = list_any (λ (other : Lane). lane.terminal == other.terminal) lanes

-- Whether a lane is open: where a breach tells it, that of the terminal that it names is; else one of the first lanes.
abbrev pub is_open : Option FirstBreach → List Lane → Lane → Bool
is_open None lanes lane = is_among (take most_open lanes) lane
is_open (Some breach) lanes lane = is_named (Some breach) lane

-- Whether the group of the labels is: where every lane is.
abbrev pub are_open : Option FirstBreach → List Lane → Bool
are_open breach lanes = list_all (is_open breach lanes) lanes

-- The lanes as they are shown: where a breach tells which is open, that one first.
abbrev pub in_order : Option FirstBreach → List Lane → List Lane
in_order breach lanes = filter (is_named breach) lanes ++ filter (λ lane. not (is_named breach lane)) lanes

-- ---- how it opens
-- The viewer's unit is the nanosecond.
abbrev pub nanoseconds : ℕ → ℕ
nanoseconds t = 500 * t

-- How far it zooms out for so many bit times, as a power of two: a frame of the viewer, 200 pixels wide, has so many nanoseconds. It is the
-- number of binary digits of two fifths of all their nanoseconds: 500 pixels show all of them.
abbrev pub zoom : ℕ → ℕ
zoom shown = 64 - leading_zeros w64 (200 * shown)

-- The marker: at the moment of the breach that is shown, and nowhere where none is.
abbrev pub marker_text : Option FirstBreach → List ℕ
marker_text breach = option_map_or (λ (b : FirstBreach). decimal (nanoseconds b.moment)) breach (codes "-1")

-- Where the viewer begins, told where that isn't at 0: a dump from there on begins there anyhow, one of all of the trace does by this.
abbrev pub beginning_text : ℕ → List ℕ
beginning_text from = if from == 0 then [] else codes "[timestart] " ++ decimal (nanoseconds from) ++ codes "\n"

-- The first lines, of a dump of the bit times from one to below another.
abbrev pub opening : (from end : ℕ) → Option FirstBreach → List ℕ
opening from end breach =
    codes "*-" ++ decimal (zoom (end - from)) ++ codes " " ++ marker_text breach ++ codes "\n" ++ beginning_text from

-- ---- lines
-- A heading between signals.
abbrev pub heading : List ℕ → List ℕ
heading name = codes "@200\n-" ++ name ++ codes "\n"

-- A group of signals begins, which the viewer folds and unfolds: at first it is folded, or it is open.
abbrev pub group_mark : Bool → List ℕ
group_mark folded = if folded then codes "@c00200\n-" else codes "@800200\n-"

-- It has this name.
abbrev pub group_begin : Bool → List ℕ → List ℕ
group_begin folded name = group_mark folded ++ name ++ codes "\n"

-- The group ends.
abbrev pub group_end : Bool → List ℕ
group_end folded = if folded then codes "@1401200\n-group_end\n" else codes "@1000200\n-group_end\n"

-- The signals behind it are shown as wires.
abbrev pub as_wires : List ℕ
as_wires = codes "@28\n"

-- The signals behind it are shown in hexadecimal digits.
abbrev pub as_hexadecimal : List ℕ
as_hexadecimal = codes "@22\n"

-- The signals behind it are shown in decimal digits.
abbrev pub as_decimal : List ℕ
as_decimal = codes "@24\n"

-- The signal behind it stands out, in the second colour.
abbrev pub marked : List ℕ
marked = codes "[color] 2\n"

-- A signal is shown.
abbrev pub shown : Signal → List ℕ
shown signal = codes "bus." ++ name_text signal ++ drop 1 (bits_text signal) ++ codes "\n"

-- ---- lanes
-- The timers of a sender, of its own in this mode.
abbrev pub timing_text : Mode → Sender → List ℕ
timing_text Aperiodic sender = codes " TG " ++ decimal sender.tg
timing_text Periodic sender = codes " TG " ++ decimal sender.tg ++ codes " AT " ++ decimal sender.at

-- The name of a lane: its terminal, and of a sender its timers.
abbrev pub lane_title : Table → ℕ → List ℕ
lane_title table terminal =
    codes "T" ++ decimal terminal
    ++ option_map_or (timing_text table.mode) (sender_of table.senders terminal) []

-- The signals of the timers of a sender.
abbrev pub timers_shown : ℕ → List ℕ
timers_shown terminal =
    as_wires ++ shown (Interval terminal) ++ shown (Synchronization terminal) ++ shown (Gap terminal) ++ marked ++ shown (May terminal)

-- The signals of a terminal's transmissions, but for its labels.
abbrev pub messages_shown : ℕ → List ℕ
messages_shown terminal =
    as_wires ++ shown (Pulse terminal) ++ marked ++ shown (Garbled terminal) ++ as_decimal ++ shown (Message terminal)

-- The signals of a lane, as a group: those of its transmissions, and of a sender its timers.
abbrev pub lane_shown : Bool → Table → Lane → List ℕ
lane_shown folded table lane =
    group_begin folded (lane_title table lane.terminal) ++ messages_shown lane.terminal
    ++ (if lane.sender then timers_shown lane.terminal else []) ++ group_end folded

-- The labels of a lane.
abbrev pub label_shown : Lane → List ℕ
label_shown lane = shown (Label lane.terminal)

-- The labels of all lanes, as a group.
abbrev pub labels_shown : Bool → List Lane → List ℕ
labels_shown folded lanes =
    group_begin folded (codes "labels") ++ as_hexadecimal ++ flat_map label_shown lanes ++ group_end folded

-- ---- the whole
-- The signals of the bus.
abbrev pub bus_shown : List ℕ
bus_shown =
    heading (codes "bus") ++ as_wires ++ shown Carrier ++ marked ++ shown Overlap ++ shown Sync ++ marked ++ shown Breach
    ++ as_hexadecimal ++ shown Word

-- A lane, with its group open or folded.
abbrev pub lane_among : Option FirstBreach → Table → List Lane → Lane → List ℕ
lane_among breach table lanes lane = lane_shown (not (is_open breach lanes lane)) table lane

-- The bus, the labels of all lanes, then each lane.
abbrev pub all_shown : Option FirstBreach → Table → List Lane → List ℕ
all_shown breach table lanes =
    bus_shown ++ labels_shown (not (are_open breach lanes)) lanes ++ flat_map (lane_among breach table lanes) (in_order breach lanes)

-- The save file that opens with this breach, or with none, of a dump of the bit times from one to below another.
abbrev pub save_text_of : (from end : ℕ) → Option FirstBreach → Table → List Lane → List ℕ
save_text_of from end breach table lanes = opening from end breach ++ all_shown (telling_breach lanes breach) table lanes

-- The save file of the dumps of a window of a trace on a table, with the first breach of the trace, where it has one.
abbrev pub save_text : Window → Option FirstBreach → Table → Recording → List ℕ
save_text window breach table trace =
    save_text_of window.from (end_of_dump window trace.horizon) (shown_breach window breach) table (lanes table trace.list)
