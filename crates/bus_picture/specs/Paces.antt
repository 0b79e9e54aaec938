-- How far the starts of a terminal lie apart: the least and the greatest time between two of them, one after the other, in the scale.
use Rattle.std.specs.Prelude.{ℕ, ◌+◌, ◌-◌, max, min, Bool, ◌&&◌, ◌==◌, List, [], ◌∷◌, ◌++◌, codes, decimal}
use Rattle.std.specs.Prelude.{filter, fold, map, Option, Some, None}
use Rattle.std.specs.Option.{option_map_or}
use Rattle.bus_strings.specs.Messages.{Entry}
use Rattle.bus_pen.specs.declared.class.Class.TheVariants.{Small}
use Rattle.bus_pen.specs.declared.scale.Scale.{Scale}
use Rattle.bus_pen.specs.Shapes.{words_text}
use Rattle.bus_dump.specs.declared.lane.Lane.{Lane}
use Rattle.bus_picture.specs.Lanes.{each_lane, lane_top}
use Rattle.bus_picture.specs.declared.measures.TheConstants.{BUS_LINE as bus_line, PACE_LEFT as pace_left, PLOT_TOP as plot_top}
use Rattle.bus_picture.specs.declared.measures.TheConstants.{TERMINAL_LINE as terminal_line}
use Rattle.bus_picture.specs.Strings.{has_moment}
pub use Rattle.bus_picture.specs.declared.pace.Pace.{Pace}

-- Whether a transmission is of this terminal and begins in the scale.
abbrev pub starts : Scale → ℕ → Entry → Bool
starts scale terminal x = x.terminal == terminal && has_moment scale x.moment

-- The moments at which this terminal starts in the scale.
abbrev pub start_moments : Scale → ℕ → List Entry → List ℕ
start_moments scale terminal list = map (λ (x : Entry). x.moment) (filter (starts scale terminal) list)

-- The times from a moment to the first of these, and from each of these to the next.
abbrev pub times_from : ℕ → List ℕ → List ℕ
times_from t [] = []
times_from t (u ∷ us) = (u - t) ∷ times_from u us

-- The times from each of these moments to the next.
abbrev pub times : List ℕ → List ℕ
times [] = []
times (t ∷ ts) = times_from t ts

-- The least and the greatest of these times.
abbrev pub pace_of : List ℕ → Option Pace
pace_of [] = None
pace_of (t ∷ ts) = Some (record { least = fold min t ts; greatest = fold max t ts })

-- Those between the starts of a terminal.
abbrev pub pace : Scale → ℕ → List Entry → Option Pace
pace scale terminal list = pace_of (times (start_moments scale terminal list))

-- Both in words.
abbrev pub pace_words : Pace → List ℕ
pace_words pace = decimal pace.least ++ codes " to " ++ decimal pace.greatest

-- These words, beside lane k.
abbrev pub lane_pace : Scale → List Entry → ℕ → Lane → List ℕ
lane_pace scale list k lane =
    option_map_or (λ (pace : Pace). words_text Small pace_left (lane_top k + terminal_line) (pace_words pace))
    (pace scale lane.terminal list) []

-- What these words are, beside the bus, and the words of each lane.
abbrev pub paces_text : Scale → List Lane → List Entry → List ℕ
paces_text scale lanes list =
    words_text Small pace_left (plot_top + bus_line) (codes "start to start") ++ each_lane (lane_pace scale list) 0 lanes
