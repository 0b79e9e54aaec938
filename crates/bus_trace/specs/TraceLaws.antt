-- What follows of the grammar of traces and of what a stream reads as. `laws::traces_read_back` says that each of these holds.
use Rattle.std.specs.Prelude.{◌≡◌, ◌≤◌, ℕ, List, [], ◌++◌, length, Ok}
use Rattle.bus_trace.specs.declared.format.Format.{Format}
use Rattle.bus_trace.specs.Traces.{Recording, IsTrace, HoldsTrace, text_in}
use Rattle.bus_trace.specs.Runs.{reading}

-- The text of a trace in either format, where it is within the limit, reads as that trace, whatever follows it.
abbrev pub ReadsBack : Type 0
ReadsBack = (limit : ℕ) (format : Format) (t : Recording) (rest : List ℕ) → IsTrace t → length (text_in format t) ≤ limit
    → reading limit (text_in format t ++ rest) ≡ Ok t

-- What reads as a trace begins with the text of that trace.
abbrev pub ReadsOnlyTraces : Type 0
ReadsOnlyTraces = (limit : ℕ) (stream : List ℕ) (t : Recording) → reading limit stream ≡ Ok t → HoldsTrace limit stream t

-- No trace text is a proper front of another one, in one format or in two; two traces have two texts, and so have two formats.
abbrev pub StandsAlone : Type 0
StandsAlone =
    (one other : Format) (t u : Recording) (rest : List ℕ) → IsTrace t → IsTrace u → text_in other u ≡ text_in one t ++ rest
    → (one ≡ other) × (t ≡ u) × (rest ≡ [])
