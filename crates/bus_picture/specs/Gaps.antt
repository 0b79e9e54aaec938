-- From where a terminal's gap counts: what it has heard of the transmissions before, each a stretch of carrier from its begin to its end.
-- Places are moments counted from the beginning of the quiet before the settled start, as in the past of the bus.
use Rattle.std.specs.Prelude.{ℕ, ◌+◌, ◌-◌, max, min, Bool, false, ◌||◌, ◌==◌, nat_le, nat_lt, true, List, fold, take, if◌then◌else◌}
use Rattle.bus_strings.specs.Messages.{Entry}
use Rattle.bus_strings.specs.Transmissions.{end_of}
use Rattle.bus_shapes.specs.declared.sent.Sent.{Sent}
pub use Rattle.bus_picture.specs.declared.heard.Gap.{Gap}
pub use Rattle.bus_picture.specs.declared.heard.Heard.{Heard}

-- Before anything is sent: it counts from one synchronization gap behind the beginning of the quiet.
abbrev pub settled : ℕ → Heard
settled sg = record { quiet_from = sg; synchronized = true }

-- What this terminal has heard where one more transmission begins: quiet begins behind all of them, and the synchronization gap has
-- elapsed where it had, or where the quiet before was that long. An own transmission has it elapse anew.
abbrev pub heard_more : ℕ → ℕ → ℕ → Heard → Entry → Heard
heard_more quiet sg terminal heard x = record {
  quiet_from = max heard.quiet_from (quiet + end_of x);
  synchronized = if x.terminal == terminal then false else heard.synchronized || nat_le (heard.quiet_from + sg) (quiet + x.moment);
}

-- The same, where that transmission begins before a moment.
abbrev pub heard_next : ℕ → ℕ → ℕ → ℕ → Heard → Entry → Heard
heard_next quiet sg terminal moment heard x = if nat_lt x.moment moment then heard_more quiet sg terminal heard x else heard

-- What it has heard of those of a list that begin before a moment.
abbrev pub heard_of : ℕ → ℕ → ℕ → ℕ → List Entry → Heard
heard_of quiet sg terminal moment list = fold (heard_next quiet sg terminal moment) (settled sg) list

-- What it has heard of those that begin before a transmission, its own or another's.
abbrev pub heard_before : ℕ → ℕ → ℕ → List Entry → Sent → Heard
heard_before quiet sg terminal list x = heard_of quiet sg terminal x.moment (take x.at list)

-- What it has heard of a whole list.
abbrev pub heard_all : ℕ → ℕ → ℕ → List Entry → Heard
heard_all quiet sg terminal list = fold (heard_more quiet sg terminal) (settled sg) list

-- The place from which its terminal gap counts: where the quiet begins, or one synchronization gap behind that.
abbrev pub gap_place : ℕ → Heard → ℕ
gap_place sg heard = heard.quiet_from + (if heard.synchronized then 0 else sg)

-- The terminal gap that counts from a place: from there to where it is over, or to a moment where that comes first. Where these aren't two
-- moments in order, as in a message that still runs, it hasn't begun to count.
abbrev pub gap_from : ℕ → ℕ → ℕ → ℕ → Gap
gap_from quiet tg place moment = record { from = place - quiet; to = min (place + tg - quiet) moment }

-- The terminal gap of a terminal before a transmission: to where it is over, or to where this begins, which sets it back.
abbrev pub gap_before : ℕ → ℕ → ℕ → ℕ → List Entry → Sent → Gap
gap_before quiet sg tg terminal list x = gap_from quiet tg (gap_place sg (heard_before quiet sg terminal list x)) x.moment

-- That behind a whole list, as far as the horizon.
abbrev pub gap_behind : ℕ → ℕ → ℕ → ℕ → List Entry → ℕ → Gap
gap_behind quiet sg tg terminal list horizon = gap_from quiet tg (gap_place sg (heard_all quiet sg terminal list)) horizon

-- The moment of the last of these transmissions, and 0 where there is none.
abbrev pub last_moment : List Entry → ℕ
last_moment list = fold (λ moment (x : Entry). x.moment) 0 list

-- Whether a transmission is the first that begins at its moment. At moment 0, before which no gap is drawn, none is.
abbrev pub is_first : List Entry → Sent → Bool
is_first list x = nat_lt (last_moment (take x.at list)) x.moment
