-- What is seen of the sources and of the sinks from outside, before and after a call.
--   bytes    what a source still gives, or what a sink has taken, where it tells this
--   faults   how often the outside has failed it
use Rattle.std.specs.Prelude.{◌≡◌, ℕ, List, Option, String}
use Rattle.std.specs.declared.alloc.Global.{Global}
use Rattle.bus_outer.specs.declared.source.Source.{Ghosts as SourceGhosts}
use Rattle.bus_outer.specs.declared.sink.Sink.{Ghosts as SinkGhosts}
use Rattle.bus_outer.specs.Faults.{Fails}
use Rattle.bus_command.specs.Words.{words_of}

-- One source or sink.
pub record Seen : Type 0 where
  pub bytes : Option (List ℕ)
  pub faults : ℕ

-- A source, as its calls show it.
abbrev pub source_seen : {S : Type 0} → SourceGhosts S → S → Seen
source_seen ghosts s = record { bytes = ghosts.left s; faults = ghosts.faults s }

-- A sink, as its calls show it.
abbrev pub sink_seen : {K : Type 0} → SinkGhosts K → K → Seen
sink_seen ghosts k = record { bytes = ghosts.held k; faults = ghosts.faults k }

-- Both sources.
pub record Sources : Type 0 where
  pub first : Seen
  pub second : Seen

-- Both sources, of these two.
abbrev pub both : Seen → Seen → Sources
both first second = record { first = first; second = second }

-- Both sources, as their calls show them.
abbrev pub sources_seen : {S : Type 0} → SourceGhosts S → S → S → Sources
sources_seen ghosts first second = both (source_seen ghosts first) (source_seen ghosts second)

-- All that a command reads and writes: both sources, and the sink of the answer.
pub record Outside : Type 0 where
  pub sources : Sources
  pub out : Seen

-- The outside of these.
abbrev pub around : Sources → Seen → Outside
around sources out = record { sources = sources; out = out }

-- The outside, as its calls show it.
abbrev pub outside : {S K : Type 0} → SourceGhosts S → SinkGhosts K → S → S → K → Outside
outside source sink first second out = around (sources_seen source first second) (sink_seen sink out)

-- A call of a command: its words, and the outside before and after.
pub record Call : Type 0 where
  pub words : List (List ℕ)
  pub before : Outside
  pub after : Outside

-- The call of these words between these two.
abbrev pub called : List (List ℕ) → Outside → Outside → Call
called words before after = record { words = words; before = before; after = after }

-- The same, as the calls of two sources and a sink show it before and after.
abbrev pub call : {S K : Type 0} → SourceGhosts S → SinkGhosts K → List (String Global) → S → S → K → S → S → K → Call
call source sink words first second out later_first later_second later_out =
    called (words_of words) (outside source sink first second out) (outside source sink later_first later_second later_out)

-- ---- the counts of faults
-- Its count rose in a call, and no count falls.
abbrev pub Rises : Seen → Seen → Type 0
Rises old new = Fails old.faults new.faults

-- Its count is as it was.
abbrev pub Stays : Seen → Seen → Type 0
Stays old new = new.faults ≡ old.faults

-- The counts of both sources are as they were.
pub record BothStay (before after : Sources) : Type 0 where
  pub first : Stays before.first after.first
  pub second : Stays before.second after.second
