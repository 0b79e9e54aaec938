-- The marks of the faults that are found in a recording: of each a line at the start of its transmission, above the plot, over the bus and
-- in the lane of its terminal, with its words.
use Rattle.std.specs.Prelude.{ℕ, ◌+◌, min, Bool, ◌&&◌, ◌==◌, List, [], ◌++◌, filter, map, slice_get, if◌then◌else◌}
use Rattle.std.specs.List.{flat_map, zip}
use Rattle.std.specs.Option.{option_map_or}
use Rattle.bus_strings.specs.Messages.{Entry}
use Rattle.bus_dump.specs.declared.lane.Lane.{Lane}
use Rattle.bus_findings.specs.declared.judgement.Judgement.{Judgement}
use Rattle.bus_findings.specs.Terminals.{is_faulty}
use Rattle.bus_findings.specs.Texts.{fault_title, fault_words}
use Rattle.bus_pen.specs.declared.class.Class.TheVariants.{Breach, Note}
use Rattle.bus_pen.specs.declared.class.Class.TheVariants as classes
use Rattle.bus_pen.specs.declared.scale.Scale.{Scale}
use Rattle.bus_shapes.specs.declared.told.Told.{Told}
use Rattle.bus_shapes.specs.declared.told.Told.TheVariants.{Audit, OnCable, Findings}
use Rattle.bus_pen.specs.Scales.{place}
use Rattle.bus_pen.specs.Shapes.{box_text, titled_text, words_text}
use Rattle.bus_picture.specs.Lanes.{each_lane, lane_top}
use Rattle.bus_picture.specs.Marks.{above_text, breach_text, dashes_text, head_dash, lower_dash, upper_dash, words_middle}
use Rattle.bus_picture.specs.declared.measures.TheConstants.{BREACH_WIDTH as breach_width, FAULT_BESIDE as fault_beside}
use Rattle.bus_picture.specs.declared.measures.TheConstants.{FAULT_LINE as fault_line, FAULT_MOST as fault_most, LINE_WIDTH as line_width}
use Rattle.bus_picture.specs.declared.measures.TheConstants.{PLOT_TOP as plot_top}
use Rattle.bus_picture.specs.Strings.{has_moment}
use Rattle.bus_picture.specs.Timers.{is_near}
pub use Rattle.bus_picture.specs.declared.fault.Fault.{Fault}

-- ---- which there are
-- A transmission, and what is found at it.
abbrev pub fault_of : Entry × Judgement → Fault
fault_of p = record { moment = p.0.moment; terminal = p.0.terminal; found = p.1 }

-- Whether it is marked: a fault is found at it, and the scale has its start.
abbrev pub is_marked : Scale → Fault → Bool
is_marked scale fault = is_faulty fault.found && has_moment scale fault.moment

-- Those that are marked, of transmissions and of what is found at each, in order.
abbrev pub faults : Scale → List Entry → List Judgement → List Fault
faults scale list judgements = filter (is_marked scale) (map fault_of (zip list judgements))

-- ---- the words
-- Where a fault is, and what is found there.
abbrev pub title : Fault → List ℕ
title fault = fault_title fault.moment fault.terminal fault.found

-- Where its words begin in a lane: beside its dash, and so far from the right edge that most have room.
abbrev pub words_left : ℕ → ℕ
words_left left = min (left + fault_beside) fault_most

-- What is found there, in a lane with this upper edge, where the scale is near.
abbrev pub near_words : Bool → ℕ → ℕ → Judgement → List ℕ
near_words near left top found =
    if near then words_text Note (words_left left) (top + fault_line) (fault_words found) else []

-- ---- the marks
-- The wide dashes of a row, with words that are shown under the pointer.
abbrev pub titled_dashes : ℕ → ℕ → List ℕ → List ℕ
titled_dashes left top words =
    titled_text classes.Fault (upper_dash left breach_width top) words
    ++ titled_text classes.Fault (lower_dash left breach_width top) words

-- What lane k has of a fault, where it is that of its terminal: the wide dashes, and what is found.
abbrev pub fault_lane : Bool → ℕ → Fault → ℕ → Lane → List ℕ
fault_lane near left fault k lane =
    if lane.terminal == fault.terminal
    then titled_dashes left (lane_top k) (title fault) ++ near_words near left (lane_top k) fault.found
    else []

-- The mark of a fault at a place.
abbrev pub mark_at : Bool → List Lane → ℕ → Fault → List ℕ
mark_at near lanes left fault =
    box_text Breach (head_dash left) ++ dashes_text left line_width plot_top ++ each_lane (fault_lane near left fault) 0 lanes

-- The mark of a fault.
abbrev pub fault_text : Scale → Bool → List Lane → Fault → List ℕ
fault_text scale near lanes fault = mark_at near lanes (place scale fault.moment) fault

-- The words of a fault above the plot.
abbrev pub title_text : Scale → Fault → List ℕ
title_text scale fault = above_text (words_middle (place scale fault.moment)) (title fault)

-- The marks of faults, with the words of the first.
abbrev pub faults_text : Scale → Bool → List Lane → List Fault → List ℕ
faults_text scale near lanes faults =
    flat_map (fault_text scale near lanes) faults ++ option_map_or (title_text scale) (slice_get faults 0) []

-- ---- what is told of a trace
-- The marks of that, in a scale and of a table with this transmit interval: of the first breach, or of the faults of a list; none of a
-- trace that was recorded on a cable.
abbrev pub told_text : Scale → ℕ → List Lane → Told → List Entry → List ℕ
told_text scale ti lanes (Audit answer) list = breach_text scale lanes answer
told_text scale ti lanes (OnCable garbled) list = []
told_text scale ti lanes (Findings bounds judgements garbled) list =
    faults_text scale (is_near scale ti) lanes (faults scale list judgements.items)
