-- What the calls of a walk and of a reader give.
use Rattle.std.specs.Prelude.{◌≡◌, ◌≤◌, ◌<◌, ℕ, Bool, true, false, List, [], ◌∷◌, ◌++◌, length, take, Result, Ok, Err}
use Rattle.std.specs.declared.alloc.AllocError.{AllocError}
use Rattle.bus_trace.specs.Limits.{line_limit}
use Rattle.bus_trace.specs.States.{State, text_of}
use Rattle.bus_trace.specs.inside.Sound.{IsSound}
use Rattle.bus_trace.specs.Runs.{Standing, Progress, Going, Found, Refused, run, stream_of}
use Rattle.bus_trace.specs.declared.walk.Judged.{Judged}
use Rattle.bus_trace.specs.declared.walk.Judged.TheVariants.{Passes, Ends, Fails}
use Rattle.bus_trace.specs.declared.walk.Walked.{Walked}
use Rattle.bus_trace.specs.declared.walk.Walked.TheVariants.{Passed, Ended, Failed}
use Rattle.bus_trace.specs.declared.reason.TraceReason.TheVariants.{Long}

-- What a call gave on bytes of one line: they are kept, or they pass the room of a line.
abbrev pub KeepGives : Standing → Standing → List ℕ → Result Bool AllocError → Type 0
KeepGives old new bytes (Ok true) = (run old bytes ≡ Going new) × (stream_of new ≡ stream_of old ++ bytes)
KeepGives old new bytes (Ok false) = (new ≡ old) × (run old bytes ≡ Refused (length (text_of old.state)) Long)
KeepGives old new bytes (Err e) = 0 < length bytes

-- What a call gave on these bytes; the stream so far grows by them, unless a line was refused.
abbrev pub JudgedGives : Standing → Standing → List ℕ → Result Judged AllocError → Progress → Type 0
JudgedGives old new bytes (Ok Passes) p = (p ≡ Going new) × (stream_of new ≡ stream_of old ++ bytes)
JudgedGives old new bytes (Ok Ends) p = (p ≡ Found new.state) × (stream_of new ≡ stream_of old ++ bytes) × (new.line ≡ [])
JudgedGives old new bytes (Ok (Fails byte reason)) p = p ≡ Refused byte reason
JudgedGives old new bytes (Err e) p = Unit {0}

-- A line in front of a text was taken, where none was begun; the rest is behind its line feed.
pub record TookFront (old new : Standing) (text rest : List ℕ) : Type 0 where
  pub line : List ℕ
  pub parts : text ≡ line ++ 10 ∷ rest
  pub going : run old (line ++ 10 ∷ []) ≡ Going new
  pub adds : stream_of new ≡ stream_of old ++ (line ++ 10 ∷ [])
  pub none_begun : new.line ≡ []

-- So many bytes of a piece were taken, and decide nothing.
abbrev pub GoesOn : Standing → Standing → List ℕ → Result ℕ AllocError → Type 0
GoesOn old new piece (Ok used) =
    (used ≤ length piece) × (run old (take used piece) ≡ Going new) × (stream_of new ≡ stream_of old ++ take used piece)
GoesOn old new piece (Err e) = Unit {0}

-- What a call gave on a piece; behind an END line the rest of the piece isn't looked at.
abbrev pub WalkGives : Standing → Standing → List ℕ → Result Walked AllocError → Progress → Type 0
WalkGives old new piece (Ok Passed) p = (p ≡ Going new) × (stream_of new ≡ stream_of old ++ piece)
WalkGives old new piece (Ok (Ended used)) p =
    (p ≡ Found new.state) × (stream_of new ≡ stream_of old ++ take used piece) × (used ≤ length piece) × (0 < used)
    × (new.line ≡ []) × (run old (take used piece) ≡ Found new.state)
WalkGives old new piece (Ok (Failed byte reason)) p = p ≡ Refused byte reason
WalkGives old new piece (Err e) p = 0 < length piece

-- The fields of a walk stand for this standing.
pub record WalkIs (state : State) (line : List ℕ) (used : ℕ) : Type 0 where
  pub sound : IsSound state
  pub used_is : used ≡ length (text_of state)
  pub short : length line ≤ line_limit
