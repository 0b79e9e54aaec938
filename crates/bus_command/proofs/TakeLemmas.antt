-- Steps that read one source.
use Rattle.std.specs.Prelude.{◌≡◌, ℕ, ◌≤◌, List, Result, Ok, Err, IfErr}
use Rattle.bus_text.specs.AllOf.{◌>>=◌}
use Rattle.bus_command.specs.declared.outcome.Outcome.{Outcome}
use Rattle.bus_command.specs.Kinds.{Kind, NoForm, NotRead, TooMuch, Wrong, Late, NotWritten, NoRoom, Answer, kind_of}
use Rattle.bus_command.specs.Stages.{stage_in, Gives}
use Rattle.bus_command.specs.Outside.{Seen, Stays}
use Rattle.bus_command.specs.Readers.{Reader, Judged, ReadsBy}
use Rattle.bus_command.specs.Steps.{stopped_at, StopsAt, StepCounts, Takes}
use Rattle.bus_command.proofs.StageLaws.{some_map, gives_then, gives_own}
use Rattle.bus_command.proofs.ReachLaws.{judged_within}

-- a kind of refusal of what is made of the text of the source of this number
abbrev pub RefusesAt : ℕ → Kind → Type 0
RefusesAt number NoForm = ⊥
RefusesAt number (NotRead source) = ⊥
RefusesAt number (TooMuch source) = ⊥
RefusesAt number (Wrong source) = source ≡ number
RefusesAt number Late = ⊥
RefusesAt number NotWritten = ⊥
RefusesAt number NoRoom = Unit {0}
RefusesAt number Answer = ⊥

refuses_stops : (number : ℕ) (k : Kind) → RefusesAt number k → StopsAt number k
refuses_stops number NoForm h = absurd h
refuses_stops number (NotRead source) h = absurd h
refuses_stops number (TooMuch source) h = absurd h
refuses_stops number (Wrong source) h = h
refuses_stops number Late h = absurd h
refuses_stops number NotWritten h = absurd h
refuses_stops number NoRoom h = tt
refuses_stops number Answer h = absurd h

refuses_reads : (reader : Reader) (number : ℕ) (k : Kind) (old new : Seen) → RefusesAt number k → ReadsBy reader Judged old new → ReadsBy reader (stopped_at k) old new
refuses_reads reader number NoForm old new h r = absurd h
refuses_reads reader number (NotRead source) old new h r = absurd h
refuses_reads reader number (TooMuch source) old new h r = absurd h
refuses_reads reader number (Wrong source) old new h r = r
refuses_reads reader number Late old new h r = absurd h
refuses_reads reader number NotWritten old new h r = absurd h
refuses_reads reader number NoRoom old new h r = judged_within reader old new r
refuses_reads reader number Answer old new h r = absurd h

refuses_counts : (number : ℕ) (k : Kind) (old new : Seen) → RefusesAt number k → Stays old new → StepCounts old new k
refuses_counts number NoForm old new h s = absurd h
refuses_counts number (NotRead source) old new h s = absurd h
refuses_counts number (TooMuch source) old new h s = absurd h
refuses_counts number (Wrong source) old new h s = s
refuses_counts number Late old new h s = absurd h
refuses_counts number NotWritten old new h s = absurd h
refuses_counts number NoRoom old new h s = s
refuses_counts number Answer old new h s = absurd h

-- what is made of a text that was read
pub takes_then : {R X Y V W : Type 0} (IsOf : X → Y → Type 0) (IsNext : V → W → Type 0) (n : ℕ) (reader : Reader) (made : List ℕ → Result Y (Outcome R)) (f : Y → Result W (Outcome R)) (old new : Seen) (x : X) (r : Result V (Outcome R))
    → Takes IsOf n reader made old new (Ok x) → ((y : Y) → IsOf x y → Gives IsNext r (f y)) → IfErr r (λ o. RefusesAt n (kind_of o)) → Takes IsNext n reader (λ text. made text >>= f) old new r
takes_then IsOf IsNext n reader made f old new x (Ok v) t next at = record {
  gives = some_map old.bytes _ _ (λ text g. gives_then IsOf IsNext x (made text) f (Ok v) g next) t.gives;
  reads = t.reads;
  stops = tt;
  counts = t.counts;
}
takes_then IsOf IsNext n reader made f old new x (Err o) t next at = record {
  gives = some_map old.bytes _ _ (λ text g. gives_then IsOf IsNext x (made text) f (Err o) g next) t.gives;
  reads = refuses_reads reader n (kind_of o) old new at t.reads;
  stops = refuses_stops n (kind_of o) at;
  counts = refuses_counts n (kind_of o) old new at t.counts;
}

-- nothing was read of which something would be made
pub takes_none : {R X Y V W : Type 0} (IsOf : X → Y → Type 0) (IsNext : V → W → Type 0) (number : ℕ) (reader : Reader)
    (made : List ℕ → Result Y (Outcome R)) (f : Y → Result W (Outcome R)) (old new : Seen) (o : Outcome R) → 1 ≤ number
    → ((y : Y) → number ≤ stage_in (f y)) → Takes IsOf number reader made old new (Err o)
    → Takes IsNext number reader (λ text. made text >>= f) old new (Err o)
takes_none IsOf IsNext number reader made f old new o low late t = record {
  gives = some_map old.bytes _ _ (λ text g. gives_own number (kind_of o) o (made text) f low t.stops late g) t.gives;
  reads = t.reads;
  stops = t.stops;
  counts = t.counts;
}
