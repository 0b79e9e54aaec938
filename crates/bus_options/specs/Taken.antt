-- Which options a command takes.
use Rattle.std.specs.Prelude.{◌≡◌, ℕ, List, Ok, Bool, true, false, not, ◌||◌, ◌&&◌, is_some}
use Rattle.bus_options.specs.Options.{Options, line_of}
pub use Rattle.bus_options.specs.declared.taken.OptionSet.{OptionSet}

-- An option isn't given, or is taken.
abbrev pub allows : Bool → Bool → Bool
allows given taken = not given || taken

-- Each that was given is taken.
abbrev pub takes : OptionSet → Options → Bool
takes set options =
    allows (is_some options.delay) set.delay
    && (allows (is_some options.jitter || is_some options.clocks) set.exactness
    && (allows (is_some options.from || is_some options.to) set.window
    && (allows (options.free_order || options.aged) set.design
    && (allows (is_some options.unit) set.unit
    && allows options.json set.json))))

-- The words are so many plain ones, and behind them these options, which are taken.
pub record HasOptions (plain : ℕ) (set : OptionSet) (options : Options) (words : List (List ℕ)) : Type 0 where
  pub line : line_of words ≡ Ok (record { plain = plain; options = options })
  pub taken : takes set options ≡ true

-- ---- sets
-- No option, `--delay` alone, bounds, and these with more.
abbrev pub none : OptionSet
none = record { delay = false; exactness = false; window = false; design = false; unit = false; json = false }

abbrev pub delay : OptionSet
delay = record none { delay = true }

abbrev pub bounds : OptionSet
bounds = record delay { exactness = true }

abbrev pub window : OptionSet
window = record none { window = true }

abbrev pub bounds_and_window : OptionSet
bounds_and_window = record bounds { window = true }

abbrev pub design : OptionSet
design = record bounds { design = true }

abbrev pub edges : OptionSet
edges = record bounds { unit = true }

abbrev pub json : OptionSet
json = record none { json = true }

abbrev pub bounds_and_json : OptionSet
bounds_and_json = record bounds { json = true }
