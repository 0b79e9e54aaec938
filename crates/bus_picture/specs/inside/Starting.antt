-- What a walk over a list keeps that draws the timers of a sender.
use Rattle.std.specs.Prelude.{◌≡◌, ℕ, ◌+◌, ◌^◌, ◌==◌, ◌≤◌, Bool, false, ◌&&◌, nat_lt, List, [], ◌++◌, codes}
use Rattle.std.specs.Prelude.{fold, take, ⊤, Option, Some, None, if◌then◌else◌}
use Rattle.std.specs.List.{AllByRecursion, flat_map, list_any}
use Rattle.bus_strings.specs.Messages.{Entry}
use Rattle.bus_pen.specs.declared.area.Area.{Area}
use Rattle.bus_pen.specs.declared.scale.Scale.{Scale}
use Rattle.bus_shapes.specs.declared.sent.Sent.{Sent}
use Rattle.bus_shapes.specs.Sending.{sents, sents_from}
use Rattle.bus_picture.specs.Gaps.{Gap, Heard, gap_from, gap_place, heard_more, heard_of, last_moment, settled}
use Rattle.bus_picture.specs.Kinds.{is_gap, is_interval}
use Rattle.bus_picture.specs.declared.measures.TheConstants.{GAP_LINE as gap_line}
use Rattle.bus_picture.specs.Timers.{LaneTimings, gap_size, gap_words, interval_behind, size_room, terminal_gap, timers_at, words_above}
pub use Rattle.bus_picture.specs.declared.heard.Hearing.{Hearing}

-- ---- what the terminal has heard
-- Before anything is sent.
abbrev pub deaf : ℕ → Hearing
deaf sg = record { before = settled sg; all = settled sg; moment = 0; first = false }

-- With one transmission more: what began before it is all so far, or, where another began at its moment, what began before that.
abbrev pub hear : ℕ → ℕ → ℕ → Hearing → Entry → Hearing
hear quiet sg terminal hearing x = record {
  before = if nat_lt hearing.moment x.moment then hearing.all else hearing.before;
  all = heard_more quiet sg terminal hearing.all x;
  moment = x.moment;
  first = nat_lt hearing.moment x.moment;
}

-- Of these transmissions all is heard, and what began before the moment of the last.
pub record Hears (quiet sg terminal : ℕ) (list : List Entry) (hearing : Hearing) : Type 0 where
  pub all : hearing.all ≡ fold (heard_more quiet sg terminal) (settled sg) list
  pub before : hearing.before ≡ heard_of quiet sg terminal hearing.moment list
  pub low : AllByRecursion (λ (y : Entry). y.moment ≤ hearing.moment) list
  pub last : (t : ℕ) → AllByRecursion (λ (y : Entry). y.moment ≤ t) list → hearing.moment ≤ t
  pub moment : hearing.moment ≡ last_moment list

-- ---- what is written
-- The words of a terminal gap above its line, in a lane with this upper edge.
abbrev pub words_over : Area → ℕ → ℕ → Gap → List ℕ
words_over area top tg gap = words_above (size_room tg gap) area (top + gap_line) (codes "TG " ++ gap_size tg gap)

-- The terminal gap of a sender that has heard this, up to a moment.
abbrev pub heard_gap : LaneTimings → Heard → ℕ → Gap
heard_gap timings heard moment = gap_from timings.quiet timings.tg (gap_place timings.sg heard) moment

-- Its line, where it ends with the first that begins at a moment.
abbrev pub line_text : Scale → LaneTimings → Bool → Gap → List ℕ
line_text scale timings first gap = if first then terminal_gap scale timings.top gap else []

-- What ends at a start: the transmit interval behind the last one, and the words of the terminal gap.
abbrev pub start_text : Scale → LaneTimings → Option ℕ → Gap → ℕ → List ℕ
start_text scale timings last gap moment =
    interval_behind scale timings last (Some moment) ++ gap_words scale timings.top timings.tg gap

-- The same at a transmission, where that is a start of the sender.
abbrev pub own_text : Scale → LaneTimings → Option ℕ → Gap → Entry → List ℕ
own_text scale timings last gap x = if x.terminal == timings.terminal then start_text scale timings last gap x.moment else []

-- All that is drawn at a transmission.
abbrev pub next_text : Scale → LaneTimings → Option ℕ → Bool → Heard → Entry → List ℕ
next_text scale timings last first heard x =
    line_text scale timings first (heard_gap timings heard x.moment) ++ own_text scale timings last (heard_gap timings heard x.moment) x

-- And behind all.
abbrev pub last_text : Scale → LaneTimings → Option ℕ → Heard → List ℕ
last_text scale timings last heard =
    terminal_gap scale timings.top (heard_gap timings heard timings.horizon) ++ interval_behind scale timings last None

-- What is drawn at the first k transmissions of a list.
abbrev pub drawn_first : Scale → List Entry → LaneTimings → ℕ → List ℕ
drawn_first scale list timings k = flat_map (timers_at scale list timings) (sents_from list 0 (take k list))

-- ---- what is drawn
-- Whether the line of the terminal gap is drawn before the transmission that was heard last.
abbrev pub is_gap_before : Scale → LaneTimings → Hearing → Bool
is_gap_before scale timings hearing = hearing.first && is_gap scale (heard_gap timings hearing.before hearing.moment)

-- Whether that of the transmit interval up to a transmission is.
abbrev pub is_interval_before : Scale → LaneTimings → Option ℕ → Entry → Bool
is_interval_before scale timings last x = x.terminal == timings.terminal && is_interval scale timings last (Some x.moment)

-- Whether something is of the first k transmissions of a list, given whether it is of each.
abbrev pub any_first : (Sent → Bool) → List Entry → ℕ → Bool
any_first test list k = list_any test (sents_from list 0 (take k list))

-- A last start is a moment of a trace.
abbrev pub IsEarly : Option ℕ → Type 0
IsEarly None = ⊤
IsEarly (Some moment) = moment ≤ 2 ^ 41

-- A walk has these transmissions of a list yet to come, of each of which it writes something.
pub record Covers (text : List ℕ → Type 0) (of : Sent → List ℕ) (list : List Entry) (left : List Sent) : Type 0 where
  pub done : List ℕ
  pub adds : text done
  pub rest : done ++ flat_map of left ≡ flat_map of (sents list)
