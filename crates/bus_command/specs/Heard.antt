-- What stands behind the END line of a trace: what terminals hear on a cable, or something else. It is looked at line by line, up to where
-- that is decided.
--   next_line     the next line, as far as it is looked at
--   line_of       what a line is
--   garbled_in    how many receptions are garbled, where a heard text stands at the front of some bytes
--   looked_at     how many bytes at the front of these are looked at
--   behind        what stands behind the text of a trace
use Rattle.std.specs.Prelude.{◌≡◌, ℕ, zero, suc, ◌+◌, ◌*◌, Bool, ◌&&◌, ◌||◌, ◌==◌, List, length, take, drop, min, slice_index, codes}
use Rattle.std.specs.Prelude.{nat_eq}
use Rattle.std.specs.Prelude.{Option, Some, None, IfSome, if◌then◌else◌}
use Rattle.std.specs.List.{starts_with, ends_with}
use Rattle.std.specs.Option.{option_map}
use Rattle.std.specs.Str.{bytes_eq}
use Rattle.bus_outer.specs.Sources.{Taken, line_length}
use Rattle.bus_trace.specs.declared.format.Format.{Format}
use Rattle.bus_trace.specs.declared.format.Format.TheVariants.{One, Two}
use Rattle.bus_trace.specs.Traces.{Recording, text_in}
pub use Rattle.bus_command.specs.declared.heard.Line.{Line}
pub use Rattle.bus_command.specs.declared.heard.Line.TheVariants.{Last, Garbled, Plain, Other}

-- ---- lines
-- The most bytes of a line that are looked at: more than any line of a heard text has.
abbrev pub most_line : ℕ
most_line = 32

-- The most lines of a heard text behind its first one.
abbrev pub most_lines : ℕ
most_lines = 1099511627776

-- The most bytes that are looked at.
abbrev pub heard_limit : ℕ
heard_limit = most_line * (most_lines + 1)

-- The next line, its line feed included, as far as it is looked at.
abbrev pub next_line : List ℕ → List ℕ
next_line bytes = take (min most_line (line_length bytes)) bytes

-- What is behind it.
abbrev pub behind_line : List ℕ → List ℕ
behind_line bytes = drop (min most_line (line_length bytes)) bytes

-- Whether a line begins and ends so.
abbrev pub is_between : (line front back : List ℕ) → Bool
is_between line front back = starts_with nat_eq line front && ends_with nat_eq line back

-- Whether it is that of a reception which isn't garbled, or of a terminal.
abbrev pub is_plain : List ℕ → Bool
is_plain line = is_between line (codes "HT ") (codes " -\n") || is_between line (codes "TERMINAL ") (codes "\n")

-- What a line behind the first one is.
abbrev pub line_of : List ℕ → Line
line_of line =
    if bytes_eq line (codes "END\n") then Last
    else if is_between line (codes "HT ") (codes " C\n") then Garbled
    else if is_plain line then Plain
    else Other

-- ---- how many receptions are garbled
-- With this line before others.
abbrev pub counted : Line → Option ℕ → Option ℕ
counted Last others = Some 0
counted Garbled others = option_map suc others
counted Plain others = others
counted Other others = None

-- In the lines up to the last one, of which there are at most so many; None where another line stands before that.
unfoldable pub garbled_by : ℕ → List ℕ → Option ℕ
garbled_by zero bytes = None
garbled_by (suc n) bytes = counted (line_of (next_line bytes)) (garbled_by n (behind_line bytes))

-- Whether a heard text begins with this line.
abbrev pub is_first : List ℕ → Bool
is_first line = bytes_eq line (codes "HEARD 1\n")

-- In the heard text at the front of some bytes; None where none is.
abbrev pub garbled_in : List ℕ → Option ℕ
garbled_in bytes = if is_first (next_line bytes) then garbled_by most_lines (behind_line bytes) else None

-- ---- how many bytes are looked at
-- So many more behind this line.
abbrev pub further : Line → ℕ → ℕ
further Last more = 0
further Garbled more = more
further Plain more = more
further Other more = 0

-- Of at most so many lines.
unfoldable pub looked_by : ℕ → List ℕ → ℕ
looked_by zero bytes = 0
looked_by (suc n) bytes = length (next_line bytes) + further (line_of (next_line bytes)) (looked_by n (behind_line bytes))

-- Of some bytes.
abbrev pub looked_at : List ℕ → ℕ
looked_at bytes = length (next_line bytes) + (if is_first (next_line bytes) then looked_by most_lines (behind_line bytes) else 0)

-- ---- what is taken of a source
-- These bytes were taken, and are known beside what is left; of a source that tells nothing, beside something.
pub record Looks (old new : Option (List ℕ)) (P : List ℕ → List ℕ → Type 0) : Type 0 where
  pub bytes : List ℕ
  pub rest : List ℕ
  pub came : Taken old new bytes
  pub left : IfSome new (λ text. text ≡ rest)
  pub known : P bytes rest

-- ---- behind a trace
-- The format of the trace text at the front of a text, which its seventh byte tells.
abbrev pub format_of : List ℕ → Format
format_of text = if slice_index text 6 == 50 then Two else One

-- What stands behind the text of this trace at the front of a text.
abbrev pub behind : Recording → List ℕ → List ℕ
behind trace text = drop (length (text_in (format_of text) trace)) text

-- How many receptions are garbled in the heard text behind this trace; None where none stands there.
abbrev pub garbled_behind : Recording → List ℕ → Option ℕ
garbled_behind trace text = garbled_in (behind trace text)
