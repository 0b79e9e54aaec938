-- Where two transmissions or more are sent at once: the overlap band of a collision, over the bus and all lanes.
use Rattle.std.specs.Prelude.{ℕ, ◌+◌, ◌-◌, max, min, Bool, ◌&&◌, nat_lt, List, [], ◌∷◌, filter, map, if◌then◌else◌}
use Rattle.std.specs.List.{flat_map, list_any}
use Rattle.bus_strings.specs.Messages.{Entry}
use Rattle.bus_pen.specs.declared.class.Class.TheVariants.{Overlap}
use Rattle.bus_pen.specs.declared.scale.Scale.{Scale}
use Rattle.bus_shapes.specs.declared.sent.Sent.{Sent}
use Rattle.bus_pen.specs.declared.measures.TheConstants.{PIXEL as pixel}
use Rattle.bus_pen.specs.Scales.{extent, place}
use Rattle.bus_shapes.specs.Sending.{sents}
use Rattle.bus_pen.specs.Shapes.{box_text}
use Rattle.bus_picture.specs.declared.measures.TheConstants.{PLOT_TOP as plot_top}
use Rattle.bus_picture.specs.Strings.{meets}
pub use Rattle.bus_picture.specs.declared.overlap_bands.OverlapBand.{OverlapBand}

-- ---- which bit times
-- The bit times of a transmission at which one before it is sent too: from its moment to its end, or to the greatest end before it.
abbrev pub overlap_of : Sent → OverlapBand
overlap_of x = record { from = x.moment; to = min x.end x.before }

-- Whether there are such bit times, and they meet the moments of the scale.
abbrev pub is_overlapped : Scale → Sent → Bool
is_overlapped scale x = nat_lt x.moment (min x.end x.before) && meets scale x.moment (min x.end x.before)

-- All of them, in order.
abbrev pub overlaps : Scale → List Entry → List OverlapBand
overlaps scale list = map overlap_of (filter (is_overlapped scale) (sents list))

-- ---- which of them share an overlap band
-- Whether the next begins less than a pixel behind an overlap band, or before its end.
abbrev pub touches : Scale → OverlapBand → OverlapBand → Bool
touches scale band next = nat_lt (place scale next.from) (place scale band.to + pixel)

-- An overlap band that goes on to the end of the next.
abbrev pub widened : OverlapBand → OverlapBand → OverlapBand
widened band next = record { from = band.from; to = max band.to next.to }

-- The overlap bands where this one is the last so far, and these are yet to come: it takes those that touch it.
abbrev pub bands_from : Scale → OverlapBand → List OverlapBand → List OverlapBand
bands_from scale band [] = band ∷ []
bands_from scale band (next ∷ others) =
    if touches scale band next then bands_from scale (widened band next) others else band ∷ bands_from scale next others

-- The overlap bands of such bit times.
abbrev pub joined : Scale → List OverlapBand → List OverlapBand
joined scale [] = []
joined scale (band ∷ others) = bands_from scale band others

-- The overlap bands of a list.
abbrev pub overlap_bands : Scale → List Entry → List OverlapBand
overlap_bands scale list = joined scale (overlaps scale list)

-- Whether there is one.
abbrev pub has_overlap_bands : Scale → List Entry → Bool
has_overlap_bands scale list = list_any (is_overlapped scale) (sents list)

-- ---- what is drawn
-- An overlap band, from the upper edge of the bus down to the end of the plot.
abbrev pub overlap_band_text : Scale → ℕ → OverlapBand → List ℕ
overlap_band_text scale bottom band = box_text Overlap (record {
  left = place scale band.from;
  top = plot_top;
  width = extent scale band.from band.to;
  height = bottom - plot_top;
})

-- All overlap bands.
abbrev pub overlap_bands_text : Scale → ℕ → List Entry → List ℕ
overlap_bands_text scale bottom list = flat_map (overlap_band_text scale bottom) (overlap_bands scale list)
