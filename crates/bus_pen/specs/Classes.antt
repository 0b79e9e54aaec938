-- The classes of boxes and words: what each is called in a picture, and how it looks. Blue and vermillion, by Okabe and Ito, are told
-- apart by a colour-blind person. What shall be told apart in grey is so by its pattern: what is garbled is hatched one way, what lies
-- behind the horizon the other way, and the line of a gap is dashed.
use Rattle.std.specs.Prelude.{ℕ, Bool, true, false, List, [], ◌∷◌, ◌++◌, codes, if◌then◌else◌}
use Rattle.std.specs.List.{flat_map}
pub use Rattle.bus_pen.specs.declared.class.Class.{Class}
pub use Rattle.bus_pen.specs.declared.class.Class.TheVariants.{Background, Band, Unobserved, Grid}
pub use Rattle.bus_pen.specs.declared.class.Class.TheVariants.{Tick, Span, Message, Garbled, GarbledNarrow, Wordstring}
pub use Rattle.bus_pen.specs.declared.class.Class.TheVariants.{Other, Label, Noise, Edge, Overlap, Gap, Interval, Mark, Breach, Fault}
pub use Rattle.bus_pen.specs.declared.class.Class.TheVariants.{Verdict, Refusal, Answer, Note, Counts}
pub use Rattle.bus_pen.specs.declared.class.Class.TheVariants.{Small, Detail, Number, Digits, NoiseDigits}
pub use Rattle.bus_pen.specs.declared.class.Class.TheVariants.{GapWords, IntervalWords, BreachWords}

-- What a class is called.
abbrev pub class_name : Class → List ℕ
class_name Background = codes "background"
class_name Band = codes "band"
class_name Unobserved = codes "unobserved"
class_name Grid = codes "grid"
class_name Tick = codes "tick"
class_name Span = codes "span"
class_name Message = codes "message"
class_name Garbled = codes "garbled"
class_name GarbledNarrow = codes "narrow-garbled"
class_name Wordstring = codes "wordstring"
class_name Other = codes "other"
class_name Label = codes "label"
class_name Noise = codes "noise"
class_name Edge = codes "edge"
class_name Overlap = codes "overlap"
class_name Gap = codes "gap"
class_name Interval = codes "interval"
class_name Mark = codes "mark"
class_name Breach = codes "breach"
class_name Fault = codes "fault"
class_name Verdict = codes "verdict"
class_name Refusal = codes "refusal"
class_name Answer = codes "answer"
class_name Note = codes "note"
class_name Counts = codes "counts"
class_name Small = codes "small"
class_name Detail = codes "detail"
class_name Number = codes "number"
class_name Digits = codes "digits"
class_name NoiseDigits = codes "noise-digits"
class_name GapWords = codes "gap-words"
class_name IntervalWords = codes "interval-words"
class_name BreachWords = codes "breach-words"

-- How it looks. What has no words under the pointer and is drawn over boxes that have such words, lets the pointer through to these.
abbrev pub look : Class → List ℕ
look Background = codes "fill:#fff"
look Band = codes "fill:#f6f7f9"
look Unobserved = codes "fill:url(#unseen)"
look Grid = codes "fill:#d5d8dd"
look Tick = codes "fill:#666"
look Span = codes "fill:#555"
look Message = codes "fill:#cfe3f3;stroke:#0072b2;stroke-width:10"
look Garbled = codes "fill:url(#hatch);stroke:#a63a00;stroke-width:14"
look GarbledNarrow = codes "fill:url(#clash)"
look Wordstring = codes "fill:#00588f"
look Other = codes "fill:#37799f"
look Label = codes "fill:#00385c;pointer-events:none"
look Noise = codes "fill:#d55e00;fill-opacity:.4"
look Edge = codes "fill:#fff;pointer-events:none"
look Overlap = codes "fill:#d55e00;fill-opacity:.2;pointer-events:none"
look Gap = codes "fill:url(#dashes);pointer-events:none"
look Interval = codes "fill:#00845f;pointer-events:none"
look Mark = codes "fill:#000;fill-opacity:.6;pointer-events:none"
look Breach = codes "fill:#000;pointer-events:none"
look Fault = codes "fill:#000"
look Verdict = codes "font-size:150px;font-weight:bold"
look Refusal = codes "font-size:150px;font-weight:bold;fill:#a63a00"
look Answer = codes "font-size:150px;font-weight:bold"
look Note = codes "fill:#222"
look Counts = codes "text-anchor:end"
look Small = codes "font-size:100px;fill:#555"
look Detail = codes "font-size:100px;fill:#555;text-anchor:end"
look Number = codes "text-anchor:middle"
look Digits = codes "fill:#fff;text-anchor:middle"
look NoiseDigits = codes "fill:#000;stroke:#fff;stroke-width:50;stroke-linejoin:round;paint-order:stroke;text-anchor:middle"
look GapWords = codes "font-size:100px;fill:#7a5200;text-anchor:end"
look IntervalWords = codes "font-size:100px;fill:#00694d;text-anchor:end"
look BreachWords =
    codes "font-weight:bold;fill:#000;stroke:#fff;stroke-width:50;stroke-linejoin:round;paint-order:stroke;text-anchor:middle"

-- The classes of every picture: of boxes, then of words.
abbrev pub classes : List Class
classes =
    Background ∷ (Band ∷ (Unobserved ∷ (Grid ∷ (Tick ∷ (Span ∷ (Message ∷ (Garbled ∷ (GarbledNarrow ∷ (Wordstring ∷ (Other ∷ (
    Label ∷ (Noise ∷ (Edge ∷ (Overlap ∷ (Gap ∷ (Interval ∷ (Mark ∷ (Breach ∷ (Verdict ∷ (Refusal ∷ (Answer ∷ (Note ∷ (Counts ∷ (
    Small ∷ (Detail ∷ (Number ∷ (Digits ∷ (NoiseDigits ∷ (GapWords ∷ (IntervalWords ∷ (BreachWords ∷ [])))))))))))))))))))))))))))))))

-- Whether a box of this class is of what is garbled: both are hatched, a narrow one across.
abbrev pub is_hatched : Class → Bool
is_hatched Garbled = true
is_hatched GarbledNarrow = true
is_hatched class = false

-- The class of numbers and digits on a box: of a garbled transmission, which is hatched, or of another.
abbrev pub digits_class : Bool → Class
digits_class garbled = if garbled then NoiseDigits else Digits

-- The rule of a class in the style of a picture.
abbrev pub rule_text : Class → List ℕ
rule_text class = codes "." ++ class_name class ++ codes "{" ++ look class ++ codes "}\n"

-- The rules of the classes of every picture.
abbrev pub rules_text : List ℕ
rules_text = flat_map rule_text classes
