-- Where the reading of a table text stops: before the first line that is refused, or at the end of the text.
-- Stop: what stood last, how many SEND lines and TAKE lines the terminal has that stands last, and the mode, which decide what may stand
-- there; and the keyword of the line, where it begins with one.
use Rattle.std.specs.Prelude.{ℕ, Bool, not, ◌&&◌, List, [], ◌∷◌, Option, Some, None, Result, Ok, Err, if◌then◌else◌}
use Rattle.bus_text.specs.Lines.{Entry, entries_of}
use Rattle.bus_text.specs.Refusals.{Refusal}
use Rattle.bus_table.specs.declared.mode.Mode.{Mode}
use Rattle.bus_table.specs.declared.stage.Stage.{Stage}
pub use Rattle.bus_table.specs.declared.keyword.Keyword.{Keyword}
use Rattle.bus_table.specs.Drafts.{Draft, start, last_sends, last_takes, may_follow}
use Rattle.bus_table.specs.Forms.{keyword_of}
use Rattle.bus_table.specs.Reading.{step}

-- Where it stops.
pub record Stop : Type 0 where
  pub stage : Stage
  pub sends : ℕ
  pub takes : ℕ
  pub mode : Mode
  pub word : Option Keyword

-- Behind a draft, at a line of this keyword.
abbrev pub stop_in : Draft → Option Keyword → Stop
stop_in draft word = record {
  stage = draft.stage;
  sends = last_sends draft.senders;
  takes = last_takes draft.stage draft.senders draft.listeners;
  mode = draft.mode;
  word = word;
}

-- The same at a line of another keyword.
abbrev pub with_word : Stop → Option Keyword → Stop
with_word stop word = record { stage = stop.stage; sends = stop.sends; takes = stop.takes; mode = stop.mode; word = word }

-- At this line.
abbrev pub stop_at : Draft → Entry → Stop
stop_at draft entry = stop_in draft (keyword_of entry.fields)

-- What comes behind a line that is read, or the stop at the line that isn't.
abbrev pub read_or : (Draft → Stop) → Stop → Result Draft Refusal → Stop
read_or behind here (Ok next) = behind next
read_or behind here (Err refusal) = here

-- Where the reading of these lines stops behind a draft.
unfoldable pub stops : Draft → List Entry → Stop
stops draft [] = stop_in draft None
stops draft (entry ∷ entries) = read_or (λ next. stops next entries) (stop_at draft entry) (step draft entry)

-- Where the reading of a text stops.
abbrev pub stop_of : List ℕ → Stop
stop_of text = stops start (entries_of text)

-- Whether a line of a keyword may stand there.
abbrev pub may_stand : Stop → Keyword → Bool
may_stand stop keyword = may_follow stop.stage stop.sends stop.takes keyword

-- Whether only the number of such lines bars one there: the terminal that stands last has as many as it may have.
abbrev pub is_spent : Stop → Keyword → Bool
is_spent stop keyword = may_follow stop.stage 0 0 keyword && not (may_stand stop keyword)

-- A keyword, where a test takes it.
abbrev pub where_it : (Keyword → Bool) → Option Keyword → Option Keyword
where_it test None = None
where_it test (Some keyword) = if test keyword then Some keyword else None

-- The keyword of the line, where a line of it may stand there.
abbrev pub fitting : Stop → Option Keyword
fitting stop = where_it (may_stand stop) stop.word

-- The keyword of the line, where only the number of such lines bars it there.
abbrev pub spent : Stop → Option Keyword
spent stop = where_it (is_spent stop) stop.word
