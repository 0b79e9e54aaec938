-- The words of the ERROR lines of bus629's own refusals.
use Rattle.std.specs.Prelude.{List, ℕ, [], ◌∷◌, ◌++◌, codes}
use Rattle.std.specs.Fmt.{decimal}
use Rattle.bus_table.specs.Reasons.{fit_words}
use Rattle.bus_table.specs.Text.{mode_word}
use Rattle.bus_text.specs.Reasons.{reason_word}
use Rattle.bus_wave.specs.Reasons.{entry_words, wave_reason_word}
use Rattle.bus_tool.specs.Refusals.{ToolRefusal, TableMode, Unspaced, WaveText, Uneven, NotAccepted, ShortLast, TooLong}
use Rattle.bus_tool.specs.Refusals.{CableText, CableUnfit, uneven_words}

-- What the ERROR line of a refusal says behind the status; nothing where the refusal has a line of its own.
abbrev pub refusal_words : ToolRefusal → List ℕ
refusal_words (TableMode needed) = codes "table mode " ++ mode_word needed
refusal_words (Unspaced fault) = codes "wave entry " ++ entry_words fault
refusal_words (WaveText line reason) = codes "wave line " ++ decimal line ++ 32 ∷ [] ++ wave_reason_word reason
refusal_words (Uneven one one_count other other_count) = uneven_words one one_count other other_count
refusal_words (NotAccepted verdict) = []
refusal_words (ShortLast least ti) = []
refusal_words (TooLong end) = codes "long " ++ decimal end
refusal_words (CableText line reason) = codes "cable line " ++ decimal line ++ 32 ∷ [] ++ reason_word reason
refusal_words (CableUnfit error) = codes "cable item " ++ fit_words error
