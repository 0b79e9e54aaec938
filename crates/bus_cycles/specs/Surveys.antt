-- What is told of the rows of a picture before they are drawn.
use Rattle.std.specs.Prelude.{ℕ, ◌+◌, ◌-◌, Bool, false, not, ◌&&◌, ◌||◌, ◌==◌, nat_lt}
use Rattle.std.specs.Prelude.{max, min, fold, List, length, map, Option, Some, None, if◌then◌else◌}
use Rattle.std.specs.List.{count_by}
use Rattle.bus_audit.specs.declared.answer.AuditAnswer.{AuditAnswer}
use Rattle.bus_audit.specs.declared.answer.AuditAnswer.TheVariants.{Lawful, Breach}
use Rattle.bus_trace.specs.Traces.{Recording}
use Rattle.bus_shapes.specs.declared.counts.Counts.{Counts}
use Rattle.bus_shapes.specs.declared.told.Told.{Told}
use Rattle.bus_shapes.specs.declared.told.Told.TheVariants.{Audit, OnCable, Findings}
use Rattle.bus_trace.specs.Windows.{Window, holds}
use Rattle.bus_shapes.specs.declared.sent.Sent.{Sent}
use Rattle.bus_cycles.specs.Rows.{Cycle, Extent, extent_of, rows_of, takes}
use Rattle.bus_cycles.specs.Cuts.{Seen, is_whole}
use Rattle.bus_cycles.specs.Sents.{shown}
pub use Rattle.bus_cycles.specs.declared.survey.Survey.{Survey}

-- The most rows that are drawn.
abbrev pub most_rows : ℕ
most_rows = 500

-- Whether a row is drawn.
abbrev pub is_drawn : ℕ → Bool
is_drawn place = nat_lt place most_rows

-- The moment of the first breach that an audit found, where there is one that the window holds.
abbrev pub audited_breach : Window → AuditAnswer → Option ℕ
audited_breach window (Lawful collided) = None
audited_breach window (Breach moment terminal kind) = if holds window moment then Some moment else None

-- The same of what is told of a trace: findings tell of no breach.
abbrev pub breach_in : Window → Told → Option ℕ
breach_in window (Audit answer) = audited_breach window answer
breach_in window (OnCable garbled) = None
breach_in window (Findings bounds judgements garbled) = None

-- Whether a row takes the breach at this moment.
abbrev pub takes_breach : Cycle → Option ℕ → Extent → Bool
takes_breach cycle None row = false
takes_breach cycle (Some moment) row = takes cycle row moment

-- What is told where no row is looked at: a picture is at least as long as a transmit interval.
abbrev pub nothing : Cycle → Survey
nothing cycle = record {
  count = 0;
  whole = 0;
  longest = cycle.ti;
  next = None;
  marked = None;
  least = 0;
  most = 0;
  plain = false;
  garbled = false;
  cut = false;
}

-- The last end of a row: how many bit times behind its begin the last of its transmissions has ended, given from how long before the
-- settled start its begin is counted.
abbrev pub last_end_of : ℕ → Extent → ℕ
last_end_of origin_offset row = row.end + origin_offset - row.begin

-- With one row more: the greatest last end of those that are drawn.
abbrev pub longest_with : ℕ → ℕ → Extent → ℕ
longest_with origin_offset longest row = if is_drawn row.place then max longest (last_end_of origin_offset row) else longest

-- With one row more: where the first begins that isn't drawn, as a moment.
abbrev pub next_with : ℕ → Option ℕ → Extent → Option ℕ
next_with origin_offset next row = if row.place == most_rows then Some (row.begin - origin_offset) else next

-- With one row more: which is the last that takes the breach.
abbrev pub marked_with : Cycle → Option ℕ → Option Extent → Extent → Option Extent
marked_with cycle breach marked row = if takes_breach cycle breach row then Some row else marked

-- With one row more: how many are whole.
abbrev pub whole_with : Cycle → Seen → ℕ → Extent → ℕ
whole_with cycle seen whole row = if is_whole cycle seen row then whole + 1 else whole

-- With one whole row more, where so many are before it: the least last end.
abbrev pub least_with : ℕ → ℕ → ℕ → Extent → ℕ
least_with origin_offset whole least row = if whole == 0 then last_end_of origin_offset row else min least (last_end_of origin_offset row)

-- With one row more: the least last end of those that are whole.
abbrev pub least_where : Cycle → Seen → ℕ → ℕ → Extent → ℕ
least_where cycle seen whole least row = if is_whole cycle seen row then least_with cycle.origin_offset whole least row else least

-- With one row more: the greatest last end of those that are whole.
abbrev pub most_where : Cycle → Seen → ℕ → Extent → ℕ
most_where cycle seen most row = if is_whole cycle seen row then max most (last_end_of cycle.origin_offset row) else most

-- With one row more: whether one that is drawn has a plain transmission.
abbrev pub plain_with : Bool → Extent → Bool
plain_with plain row = plain || (is_drawn row.place && row.plain)

-- The same of a garbled one.
abbrev pub garbled_with : Bool → Extent → Bool
garbled_with garbled row = garbled || (is_drawn row.place && row.garbled)

-- Whether one that is drawn is cut.
abbrev pub cut_with : Cycle → Seen → Bool → Extent → Bool
cut_with cycle seen cut row = cut || (is_drawn row.place && not (is_whole cycle seen row))

-- With one row more: all that is told.
abbrev pub with_row : Cycle → Seen → Option ℕ → Survey → Extent → Survey
with_row cycle seen breach survey row = record {
  count = survey.count + 1;
  whole = whole_with cycle seen survey.whole row;
  longest = longest_with cycle.origin_offset survey.longest row;
  next = next_with cycle.origin_offset survey.next row;
  marked = marked_with cycle breach survey.marked row;
  least = least_where cycle seen survey.whole survey.least row;
  most = most_where cycle seen survey.most row;
  plain = plain_with survey.plain row;
  garbled = garbled_with survey.garbled row;
  cut = cut_with cycle seen survey.cut row;
}

-- How far the breach is behind the beginning of its row, where that is drawn.
abbrev pub reach_in : ℕ → ℕ → Extent → ℕ
reach_in origin_offset moment row = if is_drawn row.place then moment + origin_offset - row.begin else 0

-- How far the breach at this moment, if there is one, is behind the beginning of the row that is marked, if one is.
abbrev pub reach_of : ℕ → Option ℕ → Option Extent → ℕ
reach_of origin_offset None marked = 0
reach_of origin_offset (Some moment) None = 0
reach_of origin_offset (Some moment) (Some row) = reach_in origin_offset moment row

-- A picture is also as long as the breach needs, of which the row is known when all rows are told of.
abbrev pub with_breach : ℕ → Option ℕ → Survey → Survey
with_breach origin_offset breach survey = record {
  count = survey.count;
  whole = survey.whole;
  longest = max survey.longest (reach_of origin_offset breach survey.marked);
  next = survey.next;
  marked = survey.marked;
  least = survey.least;
  most = survey.most;
  plain = survey.plain;
  garbled = survey.garbled;
  cut = survey.cut;
}

-- What is told of the rows of transmissions.
abbrev pub told_of : Cycle → Seen → Option ℕ → List Sent → Survey
told_of cycle seen breach sents = fold (with_row cycle seen breach) (nothing cycle) (map extent_of (rows_of cycle sents))

-- What is told of them, with the breach.
abbrev pub survey_of : Cycle → Seen → Option ℕ → List Sent → Survey
survey_of cycle seen breach sents = with_breach cycle.origin_offset breach (told_of cycle seen breach sents)

-- What is shown: the transmissions that begin in the window.
abbrev pub counts : Window → Recording → Counts
counts window trace = record {
  from = window.from;
  to = window.to;
  horizon = trace.horizon;
  shown = length (shown window trace.list);
  garbled = count_by (λ sent. sent.garbled) (shown window trace.list);
}
