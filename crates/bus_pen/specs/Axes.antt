-- The axes of a picture: marks at round numbers of microseconds, numbered in units of time or in bit times.
use Rattle.std.specs.Prelude.{ℕ, ◌+◌, ◌-◌, ◌*◌, ◌/◌, Bool, nat_le, List, [], ◌∷◌, ◌++◌, codes}
use Rattle.std.specs.Prelude.{decimal, if◌then◌else◌}
use Rattle.std.specs.List.{find, flat_map, range_with_len}
use Rattle.std.specs.Option.{unwrap_or}
use Rattle.bus_pen.specs.Classes.{Number, Small}
use Rattle.bus_pen.specs.Numbers.{parted}
use Rattle.bus_pen.specs.Scales.{Scale, place}
use Rattle.bus_pen.specs.Shapes.{box_text, words_text}
pub use Rattle.bus_pen.specs.declared.axis.Axis.{Axis}
pub use Rattle.bus_pen.specs.declared.axis.Unit.{Unit}
pub use Rattle.bus_pen.specs.declared.axis.Unit.TheVariants.{Microseconds, BitTimes}
use Rattle.bus_pen.specs.declared.measures.TheConstants.{LEFT_MARGIN as left_margin, MARK_ROOM as mark_room, MARK_WIDTH as mark_width}

-- ---- units
-- The microseconds of a millisecond.
abbrev pub millisecond : ℕ
millisecond = 1000

-- The microseconds of a second.
abbrev pub second : ℕ
second = 1000000

-- The bit times of a millisecond, from which on an axis of time is named after it.
abbrev pub millisecond_bits : ℕ
millisecond_bits = 2000

-- The bit times of a second, from which on an axis of time is named after it.
abbrev pub second_bits : ℕ
second_bits = 2000000

-- By how many microseconds an axis of time counts whose marks are so many microseconds apart: by seconds, milliseconds or microseconds.
abbrev pub time_unit : ℕ → ℕ
time_unit apart = if nat_le second apart then second else (if nat_le millisecond apart then millisecond else 1)

-- How many bit times a unit has, where the marks are so many bit times apart: a bit time is half a microsecond.
abbrev pub unit_bits : Unit → ℕ → ℕ
unit_bits Microseconds step = 2 * time_unit (step / 2)
unit_bits BitTimes step = 1

-- What it is called.
abbrev pub unit_name : Unit → ℕ → List ℕ
unit_name Microseconds step =
    if nat_le second_bits step then codes "seconds"
    else (if nat_le millisecond_bits step then codes "milliseconds" else codes "microseconds")
unit_name BitTimes step = codes "bit times"

-- ---- marks
-- The round numbers.
abbrev pub rounds : List ℕ
rounds =
    1 ∷ (2 ∷ (5 ∷ (10 ∷ (20 ∷ (50 ∷ (100 ∷ (200 ∷ (500 ∷ (1000 ∷ (2000 ∷ (5000 ∷ (10000 ∷ (20000 ∷ (50000 ∷ (100000 ∷ (
    200000 ∷ (500000 ∷ (1000000 ∷ (2000000 ∷ (5000000 ∷ (10000000 ∷ (20000000 ∷ (50000000 ∷ (100000000 ∷ (200000000 ∷ (
    500000000 ∷ (1000000000 ∷ (2000000000 ∷ (5000000000 ∷ (10000000000 ∷ (20000000000 ∷ (50000000000 ∷ (100000000000 ∷ (
    200000000000 ∷ (500000000000 ∷ (1000000000000 ∷ (2000000000000 ∷ (5000000000000 ∷ []))))))))))))))))))))))))))))))))))))))

-- Whether marks so many microseconds apart are 120 pixels apart, so that the numbers of the longest trace have room.
abbrev pub is_wide : Scale → ℕ → Bool
is_wide scale number = nat_le (mark_room * (scale.to - scale.from)) (number * 2 * scale.width)

-- The microseconds from mark to mark, where no round number is enough.
abbrev pub most_apart : ℕ
most_apart = 10000000000000

-- The bit times from mark to mark: the least round number of microseconds that is so wide. The marks of both axes are at the same moments.
abbrev pub step : Scale → ℕ
step scale = unwrap_or (find (is_wide scale) rounds) most_apart * 2

-- The marks are the multiples of the step in the scale. The first of them, as such a multiple.
abbrev pub first_mark : Scale → ℕ → ℕ
first_mark scale step = (scale.from + step - 1) / step

-- How many marks there are.
abbrev pub mark_count : Scale → ℕ → ℕ
mark_count scale step = scale.to / step + 1 - first_mark scale step

-- A mark at a place: its line, and its number.
abbrev pub mark_at : Axis → ℕ → ℕ → List ℕ
mark_at axis left number =
    box_text axis.class (record { left = left; top = axis.top; width = mark_width; height = axis.height })
    ++ words_text Number left axis.words (parted (decimal number))

-- The mark of a moment, with how many units that is.
abbrev pub mark_text : Scale → Axis → ℕ → ℕ → List ℕ
mark_text scale axis step t = mark_at axis (place scale t) (t / unit_bits axis.unit step)

-- The marks of an axis, a step apart.
abbrev pub marks_text : Scale → Axis → ℕ → List ℕ
marks_text scale axis step =
    flat_map (λ k. mark_text scale axis step ((first_mark scale step + k) * step)) (range_with_len 0 (mark_count scale step))

-- The name of an axis.
abbrev pub name_text : Axis → ℕ → List ℕ
name_text axis step = words_text Small left_margin axis.words (unit_name axis.unit step)

-- An axis: its name, and its marks.
abbrev pub axis_text : Scale → Axis → List ℕ
axis_text scale axis = name_text axis (step scale) ++ marks_text scale axis (step scale)
