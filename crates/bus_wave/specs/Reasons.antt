-- The words of what is wrong with a trace of which no wave is made, and of the reasons for which a line of a wave text is refused.
use Rattle.std.specs.Prelude.{ℕ, List, ◌++◌, codes, decimal}
use Rattle.bus_wave.specs.declared.fault.WaveFault.{WaveFault}
use Rattle.bus_wave.specs.declared.fault.WaveFault.TheVariants.{Stranger, Misfit, Close, Cut}
use Rattle.bus_wave.specs.declared.fault.WaveReason.{WaveReason}
use Rattle.bus_wave.specs.declared.fault.WaveReason.TheVariants.{Ended, Keyword, Fields, Spelling, Code, Parity, Range, Order}

-- The entry of a trace that isn't spaced, and what is wrong with it.
abbrev pub entry_words : WaveFault → List ℕ
entry_words (Stranger k) = decimal k ++ codes " Stranger"
entry_words (Misfit k) = decimal k ++ codes " Misfit"
entry_words (Close k) = decimal k ++ codes " Close"
entry_words (Cut k) = decimal k ++ codes " Cut"

-- The word of a reason.
abbrev pub wave_reason_word : WaveReason → List ℕ
wave_reason_word Ended = codes "Ended"
wave_reason_word Keyword = codes "Keyword"
wave_reason_word Fields = codes "Fields"
wave_reason_word Spelling = codes "Spelling"
wave_reason_word Code = codes "Code"
wave_reason_word Parity = codes "Parity"
wave_reason_word Range = codes "Range"
wave_reason_word Order = codes "Order"
