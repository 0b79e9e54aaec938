-- The rows of a time line. The bus has all transmissions, and a lane those of its terminal: each has a row of those that are garbled, and a
-- row of the others.
use Rattle.std.specs.Prelude.{ℕ, ◌+◌, ◌-◌, ◌*◌, Bool, true, not, ◌&&◌, ◌==◌, nat_eq, List, [], ◌++◌, filter, slice_get, Option, Some, None}
use Rattle.std.specs.Prelude.{if◌then◌else◌}
use Rattle.std.specs.Bool.{beq}
use Rattle.std.specs.List.{flat_map}
use Rattle.std.specs.Option.{option_map_or}
use Rattle.bus_strings.specs.Messages.{Entry}
use Rattle.bus_table.specs.Tables.{Table}
use Rattle.bus_pen.specs.declared.class.Class.{Class}
use Rattle.bus_pen.specs.declared.class.Class.TheVariants.{Garbled, GarbledNarrow, Message, Span, Wordstring}
use Rattle.bus_shapes.specs.declared.sent.Sent.{Sent}
use Rattle.bus_pen.specs.declared.scale.Scale.{Scale}
use Rattle.bus_pen.specs.Scales.{extent, place}
use Rattle.bus_shapes.specs.Sending.{sents}
use Rattle.bus_pen.specs.declared.area.Area.{Area}
use Rattle.bus_pen.specs.Shapes.{titled_text}
use Rattle.bus_picture.specs.Boxes.{Cluster, boxes, is_narrow, cluster_height, cluster_of, cluster_words}
use Rattle.bus_picture.specs.Strings.{meets, strings_text}
pub use Rattle.bus_picture.specs.declared.row.Row.{Row}
use Rattle.bus_picture.specs.declared.measures.TheConstants.{BOX_BELOW as box_below, BOX_HEIGHT as box_height}
use Rattle.bus_picture.specs.declared.measures.TheConstants.{GARBLED_OVERHANG as garbled_overhang, MESSAGE_OVERHANG as message_overhang}

-- Whether a transmission is of the terminal of the row, or any where it is that of the bus.
abbrev pub is_of : Row → Sent → Bool
is_of row x = option_map_or (λ n. x.terminal == n) row.terminal true

-- Whether it is, is garbled exactly where the row is, and meets the moments of the scale.
abbrev pub shows : Scale → Row → Sent → Bool
shows scale row x = is_of row x && beq x.garbled row.garbled && meets scale x.moment x.end

-- The transmissions of a row.
abbrev pub shown : Scale → Row → List Entry → List Sent
shown scale row list = filter (shows scale row) (sents list)

-- How a box of a lane looks that isn't garbled: filled as its wordstrings are, where it takes less than six pixels.
abbrev pub message_class : Bool → Class
message_class narrow = if narrow then Wordstring else Message

-- How a box of a row looks that isn't garbled.
abbrev pub plain_class : Option ℕ → Bool → Class
plain_class None narrow = Span
plain_class (Some terminal) narrow = message_class narrow

-- How a garbled one looks: hatched, without a stroke where it takes less than six pixels.
abbrev pub garbled_class : Bool → Class
garbled_class narrow = if narrow then GarbledNarrow else Garbled

-- How a box of a row looks: hatched where the row is garbled.
abbrev pub box_class : Scale → Row → Cluster → Class
box_class scale row cluster =
    if row.garbled then garbled_class (is_narrow scale cluster.first) else plain_class row.terminal (is_narrow scale cluster.first)

-- How far the stroke of a box that isn't garbled reaches beyond its edges: of the bus it has none.
abbrev pub plain_overhang : Option ℕ → ℕ
plain_overhang None = 0
plain_overhang (Some terminal) = message_overhang

-- How far that of a box of a row does, which has none where it takes less than six pixels.
abbrev pub overhang : Row → Bool → ℕ
overhang row narrow = if narrow then 0 else (if row.garbled then garbled_overhang else plain_overhang row.terminal)

-- What a box has of the scale: its left edge and its width, from its upper edge on.
abbrev pub stretch : Scale → Cluster → ℕ → ℕ → Area
stretch scale cluster top height =
    record { left = place scale cluster.first.moment; top = top; width = extent scale cluster.first.moment cluster.end; height = height }

-- The wordstrings of a transmission.
abbrev pub entry_text : Scale → Table → Row → List Entry → Sent → List ℕ
entry_text scale table row list sent = option_map_or (strings_text scale table row.top sent) (slice_get list sent.at) []

-- What is drawn in a box of a lane: the wordstrings of its one transmission, where that is not narrow.
abbrev pub inner_text : Scale → Table → Row → List Entry → Cluster → List ℕ
inner_text scale table row list cluster =
    if nat_eq cluster.count 1 && not (is_narrow scale cluster.first) then entry_text scale table row list cluster.first else []

-- What is drawn in a box: of the bus nothing, of a lane wordstrings.
abbrev pub more_text : Option ℕ → Scale → Table → Row → List Entry → Cluster → List ℕ
more_text None scale table row list cluster = []
more_text (Some terminal) scale table row list cluster = inner_text scale table row list cluster

-- An area, so much less at each edge.
abbrev pub inset : ℕ → Area → Area
inset n area = record { left = area.left + n; top = area.top + n; width = area.width - 2 * n; height = area.height - 2 * n }

-- The area of a box with its stroke, whose lower edge is that of all boxes of its row.
abbrev pub box_area : Scale → Row → Cluster → Area
box_area scale row cluster =
    stretch scale cluster (row.top + box_below + (box_height - cluster_height scale cluster)) (cluster_height scale cluster)

-- The area of a box without its stroke, so that this lies within the former.
abbrev pub drawn_area : Scale → Row → Cluster → Area
drawn_area scale row cluster = inset (overhang row (is_narrow scale cluster.first)) (box_area scale row cluster)

-- A box, with what is drawn in it.
abbrev pub cluster_text : Scale → Table → Row → List Entry → Cluster → List ℕ
cluster_text scale table row list cluster =
    titled_text (box_class scale row cluster) (drawn_area scale row cluster) (cluster_words scale cluster)
    ++ more_text row.terminal scale table row list cluster

-- A row: its boxes.
abbrev pub row_text : Scale → Table → Row → List Entry → List ℕ
row_text scale table row list = flat_map (λ box. cluster_text scale table row list (cluster_of box)) (boxes scale (shown scale row list))

-- Rows, one drawn after the other.
abbrev pub rows_text : Scale → Table → List Entry → List Row → List ℕ
rows_text scale table list rows = flat_map (λ row. row_text scale table row list) rows
