-- What is drawn of the wordstrings of a message: inner quiet is what they leave free.
use Rattle.std.specs.Prelude.{ℕ, ◌+◌, ◌-◌, ◌*◌, ◌/◌, Bool, ◌&&◌, nat_le, nat_lt, List, [], ◌∷◌}
use Rattle.std.specs.Prelude.{◌++◌, length, codes, decimal, slice_get, if◌then◌else◌}
use Rattle.std.specs.List.{flat_map, range_with_len}
use Rattle.std.specs.Option.{option_map_or}
use Rattle.bus_text.specs.Digits.{hexadecimal}
use Rattle.bus_strings.specs.Limits.{word_bits}
use Rattle.bus_strings.specs.Messages.{Entry, Wordstring}
use Rattle.bus_strings.specs.Pulses.{pulse_length, pulse_start}
use Rattle.bus_pen.specs.Classes.{digits_class}
use Rattle.bus_pen.specs.declared.class.Class.{Class}
use Rattle.bus_pen.specs.declared.class.Class.TheVariants.{Edge, Label, Noise, Overlap}
use Rattle.bus_pen.specs.declared.class.Class.TheVariants as classes
use Rattle.bus_pen.specs.declared.scale.Scale.{Scale}
use Rattle.bus_shapes.specs.declared.sent.Sent.{Sent}
use Rattle.bus_table.specs.Tables.{Table}
use Rattle.bus_pen.specs.Numbers.{counted}
use Rattle.bus_pen.specs.Scales.{extent, place}
use Rattle.bus_pen.specs.declared.area.Area.{Area}
use Rattle.bus_pen.specs.Shapes.{box_text, titled_text, words_text}
use Rattle.bus_picture.specs.declared.measures.TheConstants.{DIGITS_ROOM as digits_room, EDGE_WIDTH as edge_width}
use Rattle.bus_picture.specs.declared.measures.TheConstants.{LABEL_ROOM as label_room, LONG_ROOM as long_room}
use Rattle.bus_picture.specs.declared.measures.TheConstants.{NAME_ROOM as name_room, STRING_BELOW as string_below}
use Rattle.bus_picture.specs.declared.measures.TheConstants.{STRING_HEIGHT as string_height, STRING_LINE as string_line}
use Rattle.bus_picture.specs.declared.measures.TheConstants.{WORD_ROOM as word_room}
use Rattle.bus_picture.specs.Takings.{taken_words}

-- Whether what goes from one moment to another meets those of a scale.
abbrev pub meets : Scale → ℕ → ℕ → Bool
meets scale from to = nat_lt from scale.to && nat_lt scale.from to

-- Whether a scale has a moment.
abbrev pub has_moment : Scale → ℕ → Bool
has_moment scale moment = nat_le scale.from moment && nat_lt moment scale.to

-- A label and an extension.
abbrev pub both_words : ℕ → ℕ → List ℕ
both_words label ext = hexadecimal 3 label ++ codes " " ++ hexadecimal 1 ext

-- A wordstring is called by its label and its extension, in hexadecimal digits.
abbrev pub name_words : Wordstring → List ℕ
name_words string = both_words string.label string.ext

-- Its name, and how many data words it has.
abbrev pub long_words : Wordstring → List ℕ
long_words string = name_words string ++ codes " +" ++ decimal (length string.words)

-- Its name, its moments, and how many data words it has.
abbrev pub string_words : ℕ → ℕ → Wordstring → List ℕ
string_words from to string =
    name_words string ++ codes ": moments " ++ decimal from ++ codes " to " ++ decimal to ++ codes ", "
    ++ counted (length string.words) (codes "data word")

-- These words, and which terminals of the table take words of it.
abbrev pub titled_words : Table → Sent → ℕ → ℕ → Wordstring → List ℕ
titled_words table sent from to string = string_words from to string ++ taken_words table sent string

-- How a wordstring looks, of a garbled transmission or of another.
abbrev pub string_class : Bool → Class
string_class garbled = if garbled then Noise else classes.Wordstring

-- The box of a wordstring, in a row with this upper edge.
abbrev pub string_area : Scale → ℕ → ℕ → ℕ → Area
string_area scale top from to =
    record { left = place scale from; top = top + string_below; width = extent scale from to; height = string_height }

-- ---- a wordstring whose words have no room
-- The words for a box of this width.
abbrev pub fitting_words : ℕ → Wordstring → List ℕ
fitting_words width string = if nat_lt width long_room then name_words string else long_words string

-- The words in a box, where it has room for them.
abbrev pub label_text : Bool → Area → Wordstring → List ℕ
label_text garbled area string =
    if nat_lt area.width name_room then []
    else words_text (digits_class garbled) (area.left + area.width / 2) (area.top + string_line) (fitting_words area.width string)

-- ---- a wordstring whose words have room
-- Whether they have: 34 pixels for each.
abbrev pub has_room : Scale → Bool
has_room scale = nat_le (word_room * (scale.to - scale.from)) (word_bits * scale.width)

-- The digits of a word, in the middle of its area, where that has this width.
abbrev pub digits_text : Bool → Area → ℕ → List ℕ → List ℕ
digits_text garbled area width digits =
    if nat_lt area.width width then []
    else words_text (digits_class garbled) (area.left + area.width / 2) (area.top + string_line) digits

-- How the area of a label word looks. In a garbled transmission the area is tinted only: the words under the pointer are those of its
-- wordstring.
abbrev pub label_class : Bool → Class
label_class garbled = if garbled then Overlap else Label

-- A label word: its area, and the label and the extension.
abbrev pub label_word : Bool → Area → Wordstring → List ℕ
label_word garbled area string = box_text (label_class garbled) area ++ digits_text garbled area label_room (name_words string)

-- The edge at which a data word begins.
abbrev pub edge_of : Area → Area
edge_of area = record { left = area.left; top = area.top; width = edge_width; height = area.height }

-- A data word: its edge, and its digits.
abbrev pub data_word : Bool → Area → ℕ → List ℕ
data_word garbled area word = box_text Edge (edge_of area) ++ digits_text garbled area digits_room (hexadecimal 4 word)

-- The area of the word that begins at a moment.
abbrev pub word_area : Scale → ℕ → ℕ → Area
word_area scale top t = string_area scale top t (t + word_bits)

-- The label word that begins at a moment, where it meets the moments of the scale.
abbrev pub label_at : Scale → ℕ → Bool → ℕ → Wordstring → List ℕ
label_at scale top garbled t string =
    if meets scale t (t + word_bits) then label_word garbled (word_area scale top t) string else []

-- A data word that begins at a moment, where it meets the moments of the scale.
abbrev pub data_at : Scale → ℕ → Bool → ℕ → ℕ → List ℕ
data_at scale top garbled t word =
    if meets scale t (t + word_bits) then data_word garbled (word_area scale top t) word else []

-- Data words, one behind the other, of which the first begins at a moment.
abbrev pub data_from : Scale → ℕ → Bool → ℕ → List ℕ → List ℕ
data_from scale top garbled t [] = []
data_from scale top garbled t (word ∷ words) =
    data_at scale top garbled t word ++ data_from scale top garbled (t + word_bits) words

-- The words of a wordstring that begins at a moment.
abbrev pub each_word : Scale → ℕ → Bool → ℕ → Wordstring → List ℕ
each_word scale top garbled t string =
    label_at scale top garbled t string ++ data_from scale top garbled (t + word_bits) string.words

-- ---- the wordstrings of a message
-- What stands in the box of a wordstring: its words, or what it is called.
abbrev pub inside_text : Scale → ℕ → Bool → ℕ → Area → Wordstring → List ℕ
inside_text scale top garbled t area string =
    if has_room scale then each_word scale top garbled t string else label_text garbled area string

-- A wordstring from one moment to another.
abbrev pub drawn_text : Scale → Table → ℕ → Sent → ℕ → ℕ → Wordstring → List ℕ
drawn_text scale table top sent from to string =
    titled_text (string_class sent.garbled) (string_area scale top from to) (titled_words table sent from to string)
    ++ inside_text scale top sent.garbled from (string_area scale top from to) string

-- The same, where it meets the moments of the scale.
abbrev pub string_text : Scale → Table → ℕ → Sent → ℕ → ℕ → Wordstring → List ℕ
string_text scale table top sent from to string =
    if meets scale from to then drawn_text scale table top sent from to string else []

-- Wordstring k of a transmission, given the wordstring: its pulse.
abbrev pub pulse_text : Scale → Table → ℕ → Sent → Entry → ℕ → Wordstring → List ℕ
pulse_text scale table top sent x k string =
    string_text scale table top sent (x.moment + pulse_start x.message k)
    (x.moment + pulse_start x.message k + pulse_length x.message k) string

-- The wordstrings of a transmission, with what is told of it.
abbrev pub strings_text : Scale → Table → ℕ → Sent → Entry → List ℕ
strings_text scale table top sent x =
    flat_map (λ k. option_map_or (pulse_text scale table top sent x k) (slice_get x.message k) []) (range_with_len 0 (length x.message))
