-- The loads of a window, as shares of its bit times: of a terminal, for how many of them its pulses last, and of the bus, how many of them
-- have carrier. The quiet between two wordstrings of a message is no load, and what two send at once counts once for the bus. What a
-- terminal sends twice at once, which no bus does, counts twice for the terminal.
use Rattle.std.specs.Prelude.{ℕ, ◌+◌, ◌-◌, max, min, Bool, ◌&&◌, nat_lt, List, [], ◌++◌, codes, filter, length, if◌then◌else◌}
use Rattle.std.specs.List.{range_with_len, sum_by}
use Rattle.bus_load.specs.Loads.{carrier_bits}
use Rattle.bus_strings.specs.Marking.{greatest_end}
use Rattle.bus_strings.specs.Messages.{Entry}
use Rattle.bus_strings.specs.Pulses.{pulse_length, pulse_start}
use Rattle.bus_dump.specs.declared.lane.Lane.{Lane}
use Rattle.bus_pen.specs.declared.class.Class.TheVariants.{Counts, Detail, Small}
use Rattle.bus_pen.specs.declared.scale.Scale.{Scale}
use Rattle.bus_pen.specs.declared.measures.TheConstants.{ANSWER_LINE as answer_line, RIGHT_MARGIN as right_margin}
use Rattle.bus_pen.specs.Numbers as numbers
use Rattle.bus_shapes.specs.Sending.{is_of}
use Rattle.bus_pen.specs.Shapes.{words_text}
use Rattle.bus_picture.specs.Lanes.{each_lane, lane_top}
use Rattle.bus_picture.specs.declared.measures.TheConstants.{BUS_LINE as bus_line, LOAD_LEFT as load_left, PLOT_TOP as plot_top}
use Rattle.bus_picture.specs.declared.measures.TheConstants.{TAIL_LINE as tail_line, TERMINAL_LINE as terminal_line}

-- ---- how many bit times
-- How many bit times a stretch has in common with the scale.
abbrev pub common : Scale → ℕ → ℕ → ℕ
common scale begin end = min scale.to end - max scale.from begin

-- For how many bit times of the scale pulse k of a transmission lasts.
abbrev pub pulse_bits : Scale → Entry → ℕ → ℕ
pulse_bits scale x k =
    common scale (x.moment + pulse_start x.message k) (x.moment + pulse_start x.message k + pulse_length x.message k)

-- For how many its pulses last.
abbrev pub sent_bits : Scale → Entry → ℕ
sent_bits scale x = sum_by (pulse_bits scale x) (range_with_len 0 (length x.message))

-- For how many bit times of the scale this terminal sends.
abbrev pub terminal_bits : Scale → ℕ → List Entry → ℕ
terminal_bits scale terminal list = sum_by (sent_bits scale) (filter (is_of terminal) list)

-- How many bit times of the scale have carrier.
abbrev pub bus_bits : Scale → List Entry → ℕ
bus_bits scale list = carrier_bits list scale.from scale.to

-- ---- in words
-- So many bit times of the scale, as a share of all of them.
abbrev pub load_words : Scale → ℕ → List ℕ
load_words scale bits = numbers.load_words bits (scale.to - scale.from)

-- ---- a silent tail
-- Whether a scale goes on behind a moment that it has.
abbrev pub goes_on : Scale → ℕ → Bool
goes_on scale end = nat_lt scale.from end && nat_lt end scale.to

-- The same scale up to a moment.
abbrev pub up_to : Scale → ℕ → Scale
up_to scale end = record { from = scale.from; to = end; left = scale.left; width = scale.width }

-- ---- where they stand
-- The load of the bus in the heading, at the right end of the line of the audit.
abbrev pub load_heading : Scale → List Entry → List ℕ
load_heading scale list = words_text Counts right_margin answer_line (codes "load " ++ load_words scale (bus_bits scale list))

-- Below it that of a scale which ends with the last transmission.
abbrev pub front_load : Scale → List Entry → List ℕ
front_load front list =
    words_text Detail right_margin tail_line (load_words front (bus_bits front list) ++ codes " up to the last end")

-- It stands there where the scale goes on behind the last end of the list, with nothing on the bus.
abbrev pub tail_heading : Scale → List Entry → List ℕ
tail_heading scale list =
    if goes_on scale (greatest_end list) then front_load (up_to scale (greatest_end list)) list else []

-- This load right of a row, on this line.
abbrev pub load_text : Scale → ℕ → ℕ → List ℕ
load_text scale line bits = words_text Small load_left line (load_words scale bits)

-- The load of lane k.
abbrev pub lane_load : Scale → List Entry → ℕ → Lane → List ℕ
lane_load scale list k lane = load_text scale (lane_top k + terminal_line) (terminal_bits scale lane.terminal list)

-- The load of the bus, in the heading and right of its row.
abbrev pub bus_load : Scale → List Entry → List ℕ
bus_load scale list = load_heading scale list ++ tail_heading scale list ++ load_text scale (plot_top + bus_line) (bus_bits scale list)

-- The load of the bus and that of each lane.
abbrev pub loads_text : Scale → List Lane → List Entry → List ℕ
loads_text scale lanes list = bus_load scale list ++ each_lane (lane_load scale list) 0 lanes
