-- The interval of an accepted periodic table, with longest messages: from a start of its first sender to its next one, the gaps between,
-- and whom each of these synchronizes.
use Rattle.std.specs.Prelude.{ℕ, ◌+◌, ◌-◌, List, ◌++◌, codes}
use Rattle.std.specs.List.{flat_map}
use Rattle.bus_say.specs.Times.{time_text}
use Rattle.bus_pen.specs.declared.class.Class.TheVariants.{Small}
use Rattle.bus_pen.specs.declared.scale.Scale.{Scale}
use Rattle.bus_pen.specs.declared.area.Area.{Area}
use Rattle.bus_pen.specs.Shapes.{words_text}
use Rattle.bus_page.specs.Messages.{area_of, axes_text, lane_text, message_text, terminal_name}
use Rattle.bus_page.specs.declared.measures.TheConstants.{PLOT_LEFT as plot_left, PLOT_WIDTH as plot_width, SHORT_TOP as short_top}
use Rattle.bus_page.specs.Paints.{Gap, Paint, Synchronizes, painted, picture_end, picture_front}
use Rattle.bus_page.specs.Slots.{All, Nobody, Others, Slot, Synced}

-- ---- a gap
-- That it synchronizes all but this terminal.
abbrev pub others_words : ℕ → List ℕ
others_words number = codes "; it synchronizes all but " ++ terminal_name number

-- Whom it synchronizes, in words.
abbrev pub synced_words : Synced → ℕ → List ℕ
synced_words All number = codes "; it synchronizes all"
synced_words Others number = others_words number
synced_words Nobody number = codes "; it synchronizes nobody"

-- How long it is, and whom it synchronizes.
abbrev pub gap_words : Slot → List ℕ
gap_words slot =
    codes "gap before " ++ terminal_name slot.number ++ codes ": " ++ time_text (slot.to - slot.from)
    ++ synced_words slot.synced slot.number

-- A gap that synchronizes all or others looks otherwise than one that synchronizes nobody.
abbrev pub gap_paint : Synced → Paint
gap_paint All = Synchronizes
gap_paint Others = Synchronizes
gap_paint Nobody = Gap

-- How high it is drawn, and where: one that synchronizes all is as high as a message, one that synchronizes others half of that, and one
-- that synchronizes nobody a line.
abbrev pub gap_top : Synced → ℕ
gap_top All = short_top
gap_top Others = short_top + 70
gap_top Nobody = short_top + 130

abbrev pub gap_high : Synced → ℕ
gap_high All = 280
gap_high Others = 140
gap_high Nobody = 20

-- The box of a gap.
abbrev pub gap_area : Scale → Slot → Area
gap_area scale slot = area_of scale slot.from slot.to (gap_top slot.synced) (gap_high slot.synced)

abbrev pub gap_text : Scale → Slot → List ℕ
gap_text scale slot = painted (gap_paint slot.synced) (gap_area scale slot) (gap_words slot)

-- A slot: the gap, and the message.
abbrev pub slot_text : Scale → Slot → List ℕ
slot_text scale slot = gap_text scale slot ++ message_text scale short_top slot.number slot.message

-- ---- the picture
-- From a start of the first sender to its next one.
abbrev pub interval_scale : (begin ti : ℕ) → Scale
interval_scale begin ti = record { from = begin; to = begin + ti; left = plot_left; width = plot_width }

-- What the heights of gaps mean.
abbrev pub legend_text : List ℕ
legend_text =
    words_text Small plot_left 1010
    (codes "gaps from the end of longest messages: high ones synchronize all, half as high ones all but the next terminal, lines nobody")

-- The picture of these slots of a table.
abbrev pub interval_text : (begin ti : ℕ) → List Slot → List ℕ
interval_text begin ti slots =
    picture_front 1060 (codes "One interval, with longest messages") ++ axes_text (interval_scale begin ti) 480
    ++ lane_text short_top (codes "longest") ti ++ flat_map (slot_text (interval_scale begin ti)) slots ++ legend_text ++ picture_end
