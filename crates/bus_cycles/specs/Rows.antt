-- The rows of a picture: where each begins and ends, and its transmissions.
use Rattle.std.specs.Prelude.{ℕ, ◌+◌, ◌-◌, ◌*◌, ◌/◌, Bool, not, ◌&&◌, ◌==◌, nat_le, nat_lt, max, min, fold, List, [], ◌∷◌, ◌++◌}
use Rattle.std.specs.Prelude.{if◌then◌else◌}
use Rattle.std.specs.List.{list_any}
use Rattle.bus_strings.specs.Messages.{Entry}
use Rattle.bus_table.specs.declared.mode.Mode.{Mode}
use Rattle.bus_table.specs.declared.mode.Mode.TheVariants.{Aperiodic, Periodic}
use Rattle.bus_table.specs.Tables.{Table}
use Rattle.bus_table.specs.Timers.{greatest_gap}
use Rattle.bus_shapes.specs.declared.sent.Sent.{Sent}
use Rattle.bus_trace.specs.Windows.{Window}
use Rattle.bus_cycles.specs.Sents.{shown}
pub use Rattle.bus_cycles.specs.declared.cycle.Cycle.{Cycle}
pub use Rattle.bus_cycles.specs.declared.cycle.Extent.{Extent}

-- ---- where rows begin
-- How long before the settled start the first row may begin: in aperiodic mode the bus is quiet then for a synchronization gap, which
-- belongs to the first cycle. The moments at which rows begin are counted from there.
abbrev pub origin_offset_of : Mode → ℕ → ℕ
origin_offset_of Aperiodic sg = sg
origin_offset_of Periodic sg = 0

-- What of a table tells where rows begin: `lead` is how long before its first transmission a cycle begins, at most.
abbrev pub cycle_of : Table → Cycle
cycle_of table = record {
  mode = table.mode;
  ti = table.ti;
  sg = table.sg;
  lead = table.sg + greatest_gap table.senders;
  origin_offset = origin_offset_of table.mode table.sg;
}

-- The moment at which the interval began that holds a moment.
abbrev pub interval_of : ℕ → ℕ → ℕ
interval_of ti t = t / ti * ti

-- From where on the earlier transmissions have ended, counted as rows are: where there is none, from before the settled start.
abbrev pub ended_from : Cycle → Sent → ℕ
ended_from cycle sent = if sent.before == 0 then 0 else sent.before + cycle.origin_offset

-- The moment at which a row begins of which this is the first transmission: with its interval in periodic mode, and else as soon as the
-- earlier transmissions have ended, but no more than the lead before it.
abbrev pub begin_in : Mode → Cycle → Sent → ℕ
begin_in Periodic cycle sent = interval_of cycle.ti sent.moment + cycle.origin_offset
begin_in Aperiodic cycle sent =
    min (sent.moment + cycle.origin_offset) (max (ended_from cycle sent) (sent.moment + cycle.origin_offset - cycle.lead))

-- The same, by the mode of the cycle.
abbrev pub begin_of : Cycle → Sent → ℕ
begin_of cycle sent = begin_in cycle.mode cycle sent

-- Whether a transmission begins a new row behind one that began at this moment: where it is in another interval in periodic mode, and else
-- where it comes a synchronization gap or more behind the end of all earlier ones.
abbrev pub is_new_in : Mode → Cycle → ℕ → Sent → Bool
is_new_in Periodic cycle begin sent = not (interval_of cycle.ti sent.moment + cycle.origin_offset == begin)
is_new_in Aperiodic cycle begin sent = nat_le cycle.sg (sent.moment - sent.before)

-- The same, by the mode of the cycle.
abbrev pub is_new : Cycle → ℕ → Sent → Bool
is_new cycle begin sent = is_new_in cycle.mode cycle begin sent

-- ---- rows
-- Whether a transmission is seen to begin a cycle: it comes a synchronization gap or more behind the end of an earlier one, and of all. So
-- the first of a list doesn't, of which the quiet before it isn't seen.
abbrev pub is_fresh : Cycle → Sent → Bool
is_fresh cycle sent = nat_lt 0 sent.before && nat_le cycle.sg (sent.moment - sent.before)

-- A row: which one it is, from 0, the moment at which it begins, counted from before the settled start, whether its first transmission is
-- seen to begin a cycle, the terminals of the first and of the last of them, and its transmissions in order.
pub record Row : Type 0 where
  pub place : ℕ
  pub begin : ℕ
  pub fresh : Bool
  pub first : ℕ
  pub last : ℕ
  pub sents : List Sent

-- The row that begins with a transmission.
abbrev pub row_at : Cycle → ℕ → Sent → Row
row_at cycle place sent =
    record {
      place = place;
      begin = begin_of cycle sent;
      fresh = is_fresh cycle sent;
      first = sent.terminal;
      last = sent.terminal;
      sents = sent ∷ [];
    }

-- A row with one transmission more behind the others.
abbrev pub with_sent : Row → Sent → Row
with_sent row sent =
    record {
      place = row.place;
      begin = row.begin;
      fresh = row.fresh;
      first = row.first;
      last = sent.terminal;
      sents = row.sents ++ sent ∷ [];
    }

-- A row and those behind it, where these transmissions follow on it: each goes on with its row or begins the next one.
abbrev pub rows_from : Cycle → Row → List Sent → List Row
rows_from cycle row [] = row ∷ []
rows_from cycle row (sent ∷ sents) =
    if is_new cycle row.begin sent
    then row ∷ rows_from cycle (row_at cycle (row.place + 1) sent) sents
    else rows_from cycle (with_sent row sent) sents

-- The rows of transmissions.
abbrev pub rows_of : Cycle → List Sent → List Row
rows_of cycle [] = []
rows_of cycle (sent ∷ sents) = rows_from cycle (row_at cycle 0 sent) sents

-- The rows of a list in a window: its cycles there.
abbrev pub rows : Table → Window → List Entry → List Row
rows table window list = rows_of (cycle_of table) (shown window list)

-- The moment at which all transmissions of a row have ended.
abbrev pub end_of_all : List Sent → ℕ
end_of_all sents = fold (λ end sent. max end sent.end) 0 sents

-- Whether a row has a plain transmission.
abbrev pub has_plain : Row → Bool
has_plain row = list_any (λ (sent : Sent). not sent.garbled) row.sents

-- Whether it has a garbled one.
abbrev pub has_garbled : Row → Bool
has_garbled row = list_any (λ (sent : Sent). sent.garbled) row.sents

-- Where a row is, and of which kinds its transmissions are.
abbrev pub extent_of : Row → Extent
extent_of row = record {
  place = row.place;
  begin = row.begin;
  fresh = row.fresh;
  first = row.first;
  last = row.last;
  end = end_of_all row.sents;
  plain = has_plain row;
  garbled = has_garbled row;
}

-- Whether a row takes a moment: in periodic mode one of the interval that begins with it, and else one that isn't before its beginning.
abbrev pub takes_in : Mode → Cycle → Extent → ℕ → Bool
takes_in Periodic cycle row t = interval_of cycle.ti t + cycle.origin_offset == row.begin
takes_in Aperiodic cycle row t = nat_le row.begin (t + cycle.origin_offset)

-- The same, by the mode of the cycle.
abbrev pub takes : Cycle → Extent → ℕ → Bool
takes cycle row t = takes_in cycle.mode cycle row t
