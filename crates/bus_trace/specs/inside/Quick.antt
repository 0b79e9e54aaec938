-- Lines that are taken without their fields being gathered: what is known where such a line is right.
use Rattle.std.specs.Prelude.{◌≡◌, ◌≤◌, ◌<◌, ℕ, Bool, true, false, nat_lt, List, [], ◌∷◌, ◌++◌, length, Ok}
use Rattle.bus_strings.specs.Limits.{most_terminal}
use Rattle.bus_strings.specs.Messages.{Wordstring}
use Rattle.bus_trace.specs.declared.keyword.Keyword.TheVariants as keyword
use Rattle.bus_trace.specs.declared.position.Position.TheVariants.{Stringing}
use Rattle.bus_trace.specs.States.{State, step, may_follow, last_count, last_end, is_after, is_hit, is_final, is_refuted, starts_wrong}
use Rattle.bus_trace.specs.States.{more_list, is_ended}
use Rattle.bus_trace.specs.Limits.{line_limit}
use Rattle.bus_trace.specs.Runs.{HasNoFeed}
use Rattle.bus_trace.specs.inside.Writing.{data_put}

-- The state once the wordstring of a WS line has come.
abbrev pub string_taken : State → Wordstring → State
string_taken s string = record s { position = Stringing; list = more_list s.position string s.list }

-- A TX line of these numbers is right.
pub record BeginsRight (s : State) (moment terminal : ℕ) : Type 0 where
  pub stands : may_follow s.position s.format (last_count s.list) keyword.Tx ≡ true
  pub below : moment < s.horizon
  pub positive : 1 ≤ terminal
  pub low : terminal ≤ most_terminal
  pub after : is_after s.list moment terminal ≡ true
  pub fine : is_refuted s (nat_lt moment (last_end s.list)) ≡ false

-- A TE line of this moment and this mark is right, or not yet wrong.
pub record ClosesRight (s : State) (end : ℕ) (mark : Bool) : Type 0 where
  pub stands : may_follow s.position s.format (last_count s.list) keyword.Te ≡ true
  pub ends : end ≡ last_end s.list
  pub fine : starts_wrong mark (is_hit s.list) (is_final s.horizon s.list) ≡ false

-- What stands behind the last field of a line: its line feed and the rest, or nothing, where the line is given without one.
abbrev pub line_end : Bool → List ℕ → List ℕ
line_end true rest = 10 ∷ rest
line_end false rest = []

-- A line in front of a text was taken, and the step says so, which doesn't end the text of the trace; the rest is behind its line feed.
pub record TakesFront (feed : Bool) (old new : State) (text rest : List ℕ) : Type 0 where
  pub line : List ℕ
  pub parts : text ≡ line ++ line_end feed rest
  pub feedless : HasNoFeed line
  pub short : length line ≤ line_limit
  pub steps : step old line ≡ Ok new
  pub goes : is_ended new.position ≡ false

-- The wordstring has this label and extension, and the text is that of its data words, each behind a space.
pub record HasData (label ext : ℕ) (text : List ℕ) (string : Wordstring) : Type 0 where
  pub same_label : string.label ≡ label
  pub same_ext : string.ext ≡ ext
  pub words : text ≡ data_put string.words
