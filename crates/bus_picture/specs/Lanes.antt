-- Which lanes a time line has, and where they are.
use Rattle.std.specs.Prelude.{ℕ, ◌+◌, ◌-◌, ◌*◌, Bool, false, ◌&&◌, ◌||◌, ◌==◌, nat_lt, List, [], ◌∷◌, ◌++◌, filter, length, if◌then◌else◌}
use Rattle.std.specs.List.{list_any}
use Rattle.bus_strings.specs.Messages.{Entry}
use Rattle.bus_strings.specs.Transmissions.{end_of}
use Rattle.bus_audit.specs.declared.answer.AuditAnswer.TheVariants.{Lawful, Breach}
use Rattle.bus_dump.specs.declared.lane.Lane.{Lane}
use Rattle.bus_pen.specs.declared.scale.Scale.{Scale}
use Rattle.bus_shapes.specs.declared.told.Told.{Told}
use Rattle.bus_shapes.specs.declared.told.Told.TheVariants.{Audit, OnCable, Findings}
use Rattle.bus_picture.specs.declared.measures.TheConstants.{PLOT_TOP as plot_top, ROW_HEIGHT as row_height}
use Rattle.bus_picture.specs.Strings.{meets}

-- ---- where they are
-- The upper edge of lane k, which is the lower edge of k lanes.
abbrev pub lane_top : ℕ → ℕ
lane_top k = plot_top + row_height * (k + 1)

-- Something of each lane, in order, of which the first is lane k.
abbrev pub each_lane : {X : Type 0} → (ℕ → Lane → List X) → ℕ → List Lane → List X
each_lane of k [] = []
each_lane of k (lane ∷ lanes) = of k lane ++ each_lane of (k + 1) lanes

-- ---- which there are
-- Whether a transmission is of the terminal of a lane and meets the moments of the scale.
abbrev pub is_in : Scale → Lane → Entry → Bool
is_in scale lane x = x.terminal == lane.terminal && meets scale x.moment (end_of x)

-- Whether the first breach of an audit names this terminal. Of a trace that was recorded on a cable there is no audit, and findings name
-- none: a fault is found at a transmission, whose lane has that to show.
abbrev pub is_named : Told → ℕ → Bool
is_named (Audit (Lawful collided)) n = false
is_named (Audit (Breach moment terminal kind)) n = terminal == n
is_named (OnCable garbled) n = false
is_named (Findings bounds judgements garbled) n = false

-- Whether a lane has something to show: a transmission, or the first breach.
abbrev pub has_some : Scale → Told → List Entry → Lane → Bool
has_some scale told list lane = list_any (is_in scale lane) list || is_named told lane.terminal

-- The lanes that have something to show.
abbrev pub lanes_with_some : Scale → Told → List Entry → List Lane → List Lane
lanes_with_some scale told list lanes = filter (has_some scale told list) lanes

-- The most lanes that are drawn although they have nothing to show.
abbrev pub most_empty : ℕ
most_empty = 8

-- The lanes that are drawn: where more than eight have nothing to show, all these are left out.
abbrev pub drawn_lanes : Scale → Told → List Entry → List Lane → List Lane
drawn_lanes scale told list lanes =
    if nat_lt most_empty (length lanes - length (lanes_with_some scale told list lanes))
    then lanes_with_some scale told list lanes else lanes
