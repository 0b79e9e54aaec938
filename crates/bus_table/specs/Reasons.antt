-- The words of the reasons for which a table is refused as a whole, and for which an item doesn't fit.
use Rattle.std.specs.Prelude.{ℕ, List, [], ◌∷◌, ◌++◌, codes, decimal}
use Rattle.bus_text.specs.Digits.{hex_digit, hexadecimal}
use Rattle.bus_table.specs.declared.error.WholeReason.{WholeReason}
use Rattle.bus_table.specs.declared.error.WholeReason.TheVariants.{NoSender, NumberTwice, GapTwice, GapNotShort, PairTwice, OffsetRange}
use Rattle.bus_table.specs.declared.fit.FitError.{FitError}
use Rattle.bus_table.specs.declared.fit.FitError.TheVariants.{Stranger, Shape}

-- The label and the extension that stand on two SEND lines.
abbrev pub pair_words : ℕ → ℕ → List ℕ
pair_words label ext = codes "PairTwice " ++ hexadecimal 3 label ++ 32 ∷ [] ++ hex_digit ext ∷ []

-- The words of a whole reason: its name, and the number or the label and extension that it carries.
abbrev pub whole_words : WholeReason → List ℕ
whole_words NoSender = codes "NoSender"
whole_words (NumberTwice number) = codes "NumberTwice " ++ decimal number
whole_words (GapTwice number) = codes "GapTwice " ++ decimal number
whole_words (GapNotShort number) = codes "GapNotShort " ++ decimal number
whole_words (PairTwice label ext) = pair_words label ext
whole_words (OffsetRange number) = codes "OffsetRange " ++ decimal number

-- The item that doesn't fit, and why.
abbrev pub fit_words : FitError → List ℕ
fit_words (Stranger item) = decimal item ++ codes " Stranger"
fit_words (Shape item) = decimal item ++ codes " Shape"
