-- Legends: what boxes and lines of a picture mean. A unit is a tenth of a pixel.
use Rattle.std.specs.Prelude.{ℕ, ◌+◌, Bool, List, [], ◌++◌, if◌then◌else◌}
use Rattle.std.specs.List.{flat_map}
use Rattle.bus_pen.specs.Classes.{Small}
use Rattle.bus_pen.specs.Shapes.{box_text, words_text}
pub use Rattle.bus_pen.specs.declared.legend.Sample.{Sample}

-- A box of a row of a legend with this upper edge.
abbrev pub sample_text : ℕ → Sample → List ℕ
sample_text top sample =
    box_text sample.class (record { left = sample.left; top = top + sample.below; width = sample.width; height = sample.height })

-- What a row with this upper edge and this line of words says of boxes that are alike, where there are such ones: samples of these, and the
-- words, which begin at a place.
abbrev pub note_text : Bool → ℕ → ℕ → List Sample → ℕ → List ℕ → List ℕ
note_text there top line samples left words =
    if there then flat_map (sample_text top) samples ++ words_text Small left line words else []
