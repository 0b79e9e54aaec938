-- The legend of a time line. Its notes are constants of the crate, in units of a tenth of a pixel.
use Rattle.std.specs.Prelude.{ℕ, ◌+◌, Bool, List, ◌++◌}
use Rattle.bus_pen.specs.Legends.{note_text}
use Rattle.bus_pen.specs.declared.legend.Sample.{Sample}
use Rattle.bus_picture.specs.declared.kinds.Kinds.{Kinds}
use Rattle.bus_picture.specs.declared.legend.TheConstants as the
use Rattle.bus_picture.specs.declared.legend.TheConstants.{LEGEND_ROW as legend_row, LEGEND_WORDS as legend_words}

-- A note in a row with this upper edge, where there are boxes of which it tells.
abbrev pub noted : Bool → ℕ → List Sample → ℕ → List ℕ → List ℕ
noted there top samples left words = note_text there top (top + legend_words) samples left words

-- What the legend says of messages and their wordstrings, where one is shown.
abbrev pub legend_message : Bool → ℕ → List ℕ
legend_message there top = noted there top the.MESSAGE.0.now the.MESSAGE.1 the.MESSAGE.2.now

-- What the legend says of garbled messages, where one is shown.
abbrev pub legend_garbled : Bool → ℕ → List ℕ
legend_garbled there top = noted there top the.GARBLED.0.now the.GARBLED.1 the.GARBLED.2.now

-- What the legend says of overlap bands, where there is one.
abbrev pub legend_overlap_band : Bool → ℕ → List ℕ
legend_overlap_band there top = noted there top the.OVERLAP_BAND.0.now the.OVERLAP_BAND.1 the.OVERLAP_BAND.2.now

-- What the legend says of what lies behind the horizon, where the window goes on there.
abbrev pub legend_horizon : Bool → ℕ → List ℕ
legend_horizon there top = noted there top the.HORIZON.0.now the.HORIZON.1 the.HORIZON.2.now

-- What the legend says of gaps, where the line of one is drawn.
abbrev pub legend_gaps : Bool → ℕ → List ℕ
legend_gaps there top = noted there top the.GAP.0.now the.GAP.1 the.GAP.2.now

-- What the legend says of transmit intervals, where the line of one is drawn.
abbrev pub legend_intervals : Bool → ℕ → List ℕ
legend_intervals there top = noted there top the.INTERVAL.0.now the.INTERVAL.1 the.INTERVAL.2.now

-- What the legend says of offsets, where a tick is drawn.
abbrev pub legend_offsets : Bool → ℕ → List ℕ
legend_offsets there top = noted there top the.OFFSET.0.now the.OFFSET.1 the.OFFSET.2.now

-- What the legend says of heights, where there is a box of what takes less than a pixel.
abbrev pub legend_shares : Bool → ℕ → List ℕ
legend_shares there top = noted there top the.SHARES.0.now the.SHARES.1 the.SHARES.2.now

-- Its first row: what boxes and overlap bands mean, of each kind that the picture has.
abbrev pub legend_boxes : Kinds → ℕ → List ℕ
legend_boxes kinds top =
    legend_message kinds.messages top ++ legend_garbled kinds.garbled top ++ legend_overlap_band kinds.overlap_bands top

-- Its second row: what is drawn behind and between boxes, and how high these are, of each kind that the picture has.
abbrev pub legend_between : Kinds → ℕ → List ℕ
legend_between kinds top =
    legend_horizon kinds.unobserved top ++ legend_gaps kinds.gaps top ++ legend_intervals kinds.intervals top
    ++ legend_offsets kinds.offsets top ++ legend_shares kinds.thin top

-- The legend of a picture that has these kinds of marks, whose first row has this upper edge.
abbrev pub legend_text : Kinds → ℕ → List ℕ
legend_text kinds top = legend_boxes kinds top ++ legend_between kinds (top + legend_row)
