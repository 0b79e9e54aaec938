-- What the steps of a command do before its first written byte.
--   step   it makes a value, or stops at an outcome
use Rattle.std.specs.Prelude.{◌≡◌, ℕ, List, Vec, Option, IfSome, Result, Ok, Err, IfErr}
use Rattle.std.specs.declared.alloc.Global.{Global}
use Rattle.bus_command.specs.declared.outcome.Outcome.{Outcome}
use Rattle.bus_command.specs.Kinds.{Kind, Answer, Point, AtWords, AtSource, BehindBoth, Anywhere, Reach, IsSo, kind_of, row_of}
use Rattle.bus_command.specs.Stages.{MayReplace, Gives}
use Rattle.bus_outer.specs.declared.source.Source.{Ghosts as SourceGhosts}
use Rattle.bus_command.specs.Outside.{Seen, Sources, source_seen, sources_seen}
use Rattle.bus_command.specs.Readers.{Reader, Named, known, ForKnown, ForTexts, ReadsBy, Reads, reach, Moves, rises_at_source, SourceCounts}

-- The kind of what a step came to so far, where nothing stops it behind.
abbrev pub came_to : {R X : Type 0} → Result X (Outcome R) → Kind
came_to (Ok x) = Answer
came_to (Err outcome) = kind_of outcome

-- ---- a step that reads one source
-- How far the step read its source.
abbrev pub stopped_at : Kind → Reach
stopped_at kind = (row_of kind).reach

-- A point at which a step may stop that reads the source of this number; want of memory may come anywhere.
abbrev pub StopsAtPoint : ℕ → Point → Type 0
StopsAtPoint number AtWords = ⊥
StopsAtPoint number (AtSource source) = source ≡ number
StopsAtPoint number BehindBoth = ⊥
StopsAtPoint number Anywhere = Unit {0}

-- A kind at which it may stop.
abbrev pub StopsAt : ℕ → Kind → Type 0
StopsAt number kind = StopsAtPoint number (row_of kind).point

-- The count of its source rose exactly where this couldn't be read.
abbrev pub StepCounts : Seen → Seen → Kind → Type 0
StepCounts old new kind = Moves (rises_at_source (row_of kind).count) old new

-- It reads the source of this number by this reader, and gives what is made of its text; of some text where the source tells nothing.
pub record Takes {R X Y : Type 0} (IsOf : X → Y → Type 0) (number : ℕ) (reader : Reader) (made : List ℕ → Result Y (Outcome R))
    (old new : Seen) (result : Result X (Outcome R)) : Type 0 where
  pub gives : ForKnown old.bytes (λ text. Gives IsOf result (made text))
  pub reads : ReadsBy reader (stopped_at (came_to result)) old new
  pub stops : IfErr result (λ outcome. StopsAt number (kind_of outcome))
  pub counts : StepCounts old new (came_to result)

-- The same, of a source as its calls show it.
abbrev pub TakesFrom : {S R X Y : Type 0} → SourceGhosts S → (X → Y → Type 0) → ℕ → Reader → (List ℕ → Result Y (Outcome R)) → S → S
    → Result X (Outcome R) → Type 0
TakesFrom ghosts IsOf number reader made old new result =
    Takes IsOf number reader made (source_seen ghosts old) (source_seen ghosts new) result

-- The text that was read.
abbrev pub IsText : Vec ℕ Global → List ℕ → Type 0
IsText text bytes = text.items ≡ bytes

-- The value itself.
abbrev pub Same : {X : Type 0} → X → X → Type 0
Same x y = x ≡ y

-- ---- the steps before the first written byte
-- A kind at which a command may stop that has written nothing.
abbrev pub IsEarly : Kind → Type 0
IsEarly kind = IsSo (row_of kind).early

-- Where the first text is refused, so is the command, whatever the second source is, which isn't pulled.
pub record IsRefused {R : Type 0} (refusal outcome : Outcome R) (before after : Sources) : Type 0 where
  pub stands : MayReplace refusal outcome
  pub unpulled : after.second ≡ before.second

-- The steps stop at the refusal of the first text.
abbrev pub StopsFirst : {R X : Type 0} → Sources → Sources → Result X (Outcome R) → Outcome R → Type 0
StopsFirst before after (Ok x) refusal = ⊥
StopsFirst before after (Err outcome) refusal = IsRefused refusal outcome before after

-- They read the named sources, and give what is made of both texts.
--   order   where the first text is refused they stop there
pub record Prepares {R X Y : Type 0} (IsOf : X → Y → Type 0) (named : Named) (refusing : List ℕ → Option (Outcome R))
    (made : List ℕ → List ℕ → Result Y (Outcome R)) (before after : Sources) (result : Result X (Outcome R)) : Type 0 where
  pub gives : ForTexts named before (λ first second. Gives IsOf result (made first second))
  pub first : Reads named.first (reach 1 (came_to result)) before.first after.first
  pub second : Reads named.second (reach 2 (came_to result)) before.second after.second
  pub order : IfSome (known named.first before.first) (λ text. IfSome (refusing text) (StopsFirst before after result))
  pub early : IfErr result (λ outcome. IsEarly (kind_of outcome))
  pub counts : SourceCounts named before after (came_to result)

-- The same, of two sources as their calls show them.
abbrev pub PreparesFrom : {S R X Y : Type 0} → SourceGhosts S → (X → Y → Type 0) → Named → (List ℕ → Option (Outcome R))
    → (List ℕ → List ℕ → Result Y (Outcome R)) → S → S → S → S → Result X (Outcome R) → Type 0
PreparesFrom ghosts IsOf named refusing made first second later_first later_second result =
    Prepares IsOf named refusing made (sources_seen ghosts first second) (sources_seen ghosts later_first later_second) result
