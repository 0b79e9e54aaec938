-- Which text stands beside a table: its first line that isn't skipped tells.
use Rattle.std.specs.Prelude.{ℕ, List, [], ◌∷◌, codes, Option, Some, None, slice_index_or, if◌then◌else◌}
use Rattle.std.specs.Str.{bytes_eq}
use Rattle.bus_text.specs.Lines.{Entry, entries_of, line_after_of}
pub use Rattle.bus_diagnosis.specs.declared.kind.Kind.{Kind}
pub use Rattle.bus_diagnosis.specs.declared.kind.Kind.TheVariants.{Messages, Cable, Trace}
pub use Rattle.bus_diagnosis.specs.declared.kind.First.{First}

-- Which text begins with this word.
abbrev pub kind_of : List ℕ → Option Kind
kind_of word =
    if bytes_eq word (codes "MESSAGES") then Some Messages
    else if bytes_eq word (codes "CABLE") then Some Cable
    else if bytes_eq word (codes "TRACE") then Some Trace
    else None

-- The first of these lines; one past the last, `after`, where there is none.
abbrev pub first_in : ℕ → List Entry → First
first_in after [] = record { line = after; kind = None }
first_in after (entry ∷ entries) = record { line = entry.number; kind = kind_of (slice_index_or entry.fields 0 []) }

-- The first line of a text.
abbrev pub first_of : List ℕ → First
first_of text = first_in (line_after_of text) (entries_of text)
