-- The options of a command line: what its words write, read from the first option to the last word. A word is its bytes.
--   line_of    how many words stand before the first option, and the options; or the first word that is refused, and why
use Rattle.std.specs.Prelude.{◌≡◌, ℕ, ◌+◌, ◌-◌, Bool, true, false, nat_eq, codes, List, [], ◌∷◌, length, drop, if◌then◌else◌}
use Rattle.std.specs.Prelude.{Option, Some, None, is_some, Result, Ok, Err}
use Rattle.std.specs.List.{AllByRecursion, position_or_len, starts_with}
use Rattle.bus_options.specs.Keys.{Key, key_of, is_flag}
use Rattle.bus_options.specs.Settings.{Setting, Delay, Jitter, Clocks, From, To, FreeOrder, OfAge, Unit, Json}
use Rattle.bus_options.specs.Settings.{OptionReason, Unknown, Twice, NoValue, HasValue}
use Rattle.bus_options.specs.Settings.{has_equals, name_in, value_in, setting_of}
pub use Rattle.bus_options.specs.declared.options.Options.{Options}
pub use Rattle.bus_options.specs.declared.reading.Reading.{Reading}
pub use Rattle.bus_options.specs.declared.line.OptionError.{OptionError}
pub use Rattle.bus_options.specs.declared.line.Line.{Line}

-- ---- options one by one
-- Before the first.
abbrev pub no_options : Options
no_options = record {
  delay = None;
  jitter = None;
  clocks = None;
  from = None;
  to = None;
  free_order = false;
  aged = false;
  unit = None;
  json = false;
}

-- A value, unless one was given already.
abbrev pub once : Bool → Options → Option Options
once given options = if given then None else Some options

-- Options with another one: each is given once, ages alone as often as one likes.
abbrev pub with : Options → Setting → Option Options
with options (Delay delay) = once (is_some options.delay) (record options { delay = Some delay })
with options (Jitter jitter) = once (is_some options.jitter) (record options { jitter = Some jitter })
with options (Clocks clocks) = once (is_some options.clocks) (record options { clocks = Some clocks })
with options (From from) = once (is_some options.from) (record options { from = Some from })
with options (To to) = once (is_some options.to) (record options { to = Some to })
with options FreeOrder = once options.free_order (record options { free_order = true })
with options (OfAge age) = Some (record options { aged = true })
with options (Unit unit) = once (is_some options.unit) (record options { unit = Some unit })
with options Json = once options.json (record options { json = true })

-- ---- word for word
-- Before the first word.
abbrev pub start : Reading
start = record { options = no_options; waiting = None }

abbrev pub added_as : Option Options → Result Reading OptionReason
added_as (Some options) = Ok (record { options = options; waiting = None })
added_as None = Err Twice

abbrev pub added : Options → Setting → Result Reading OptionReason
added options setting = added_as (with options setting)

abbrev pub set_as : Options → Result Setting OptionReason → Result Reading OptionReason
set_as options (Ok setting) = added options setting
set_as options (Err why) = Err why

-- Behind an option and its value.
abbrev pub set : Options → Key → List ℕ → Result Reading OptionReason
set options key value = set_as options (setting_of key value)

-- Behind `--NAME=VALUE`.
abbrev pub joined : Options → Option Key → List ℕ → Result Reading OptionReason
joined options None value = Err Unknown
joined options (Some key) value = if is_flag key then Err HasValue else set options key value

-- Behind `--NAME`: its value is the next word, unless it has none.
abbrev pub alone : Options → Option Key → Result Reading OptionReason
alone options None = Err Unknown
alone options (Some key) = if is_flag key then set options key [] else Ok (record { options = options; waiting = Some key })

-- Behind a word with which an option begins.
abbrev pub begun : Options → List ℕ → Result Reading OptionReason
begun options word =
    if has_equals word then joined options (key_of (name_in word)) (value_in word) else alone options (key_of word)

abbrev pub step_by : Option Key → Options → List ℕ → Result Reading OptionReason
step_by None options word = begun options word
step_by (Some key) options word = set options key word

-- Behind another word.
abbrev pub step : Reading → List ℕ → Result Reading OptionReason
step reading word = step_by reading.waiting reading.options word

-- What comes of a word at a place, and of those behind it.
abbrev pub and_then : ℕ → Result Reading OptionReason → (Reading → Result Reading OptionError) → Result Reading OptionError
and_then place (Ok reading) behind = behind reading
and_then place (Err why) behind = Err (record { place = place; why = why })

-- Behind these words, of which the first stands at this place.
abbrev pub read : Reading → ℕ → List (List ℕ) → Result Reading OptionError
read reading place [] = Ok reading
read reading place (word ∷ words) = and_then place (step reading word) (λ next. read next (place + 1) words)

abbrev pub ended_by : ℕ → Option Key → Options → Result Options OptionError
ended_by last None options = Ok options
ended_by last (Some key) options = Err (record { place = last; why = NoValue })

-- Behind the last word, at this place.
abbrev pub ended : ℕ → Reading → Result Options OptionError
ended last reading = ended_by last reading.waiting reading.options

-- ---- the command line
-- Whether a word is no plain one: it begins with `--`.
abbrev pub is_option : List ℕ → Bool
is_option word = starts_with nat_eq word (codes "--")

-- How many plain words there are: those before the first option.
abbrev pub plain_count : List (List ℕ) → ℕ
plain_count words = position_or_len is_option words

-- Each word is a plain one.
abbrev pub ArePlain : List (List ℕ) → Type 0
ArePlain words = AllByRecursion (λ word. is_option word ≡ false) words

abbrev pub line_with : ℕ → Result Options OptionError → Result Line OptionError
line_with plain (Ok options) = Ok (record { plain = plain; options = options })
line_with plain (Err error) = Err error

abbrev pub options_by : ℕ → Result Reading OptionError → Result Options OptionError
options_by last (Ok reading) = ended last reading
options_by last (Err error) = Err error

abbrev pub line_of : List (List ℕ) → Result Line OptionError
line_of words =
    line_with (plain_count words)
    (options_by (length words - 1) (read start (plain_count words) (drop (plain_count words) words)))
