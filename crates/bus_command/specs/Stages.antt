-- What may stand in place of the outcome that is due.
use Rattle.std.specs.Prelude.{◌≡◌, ℕ, ◌≤◌, Option, Some, None, Result, Ok, Err}
use Rattle.bus_command.specs.declared.outcome.Outcome.{Outcome}
use Rattle.bus_command.specs.Kinds.{Kind, Answer, Replaced, Itself, From, AnAnswer, kind_of, row_of, stage_of}

-- The outcome is the one that is due, or may replace it.
abbrev pub MayReplaceBy : {R : Type 0} → Replaced → Outcome R → Outcome R → Type 0
MayReplaceBy Itself due outcome = due ≡ outcome
MayReplaceBy (From stage) due outcome = stage ≤ stage_of (kind_of due)
MayReplaceBy AnAnswer due outcome = kind_of due ≡ Answer

-- The same of an outcome of this kind. In place of what is due may stand want of memory, unless the words are no form; a failed read, where
-- nothing is refused before its source; a failed write, where an answer is due. Any other outcome is due itself.
abbrev pub MayReplaceAs : {R : Type 0} → Kind → Outcome R → Outcome R → Type 0
MayReplaceAs kind due outcome = MayReplaceBy (row_of kind).replaces due outcome

-- The same, by the kind of the outcome.
abbrev pub MayReplace : {R : Type 0} → Outcome R → Outcome R → Type 0
MayReplace due outcome = MayReplaceAs (kind_of outcome) due outcome

-- The stage of what is due of a step: that of its refusal, or 3, behind both sources, where the step gives a value.
abbrev pub stage_in : {R Y : Type 0} → Result Y (Outcome R) → ℕ
stage_in (Ok y) = 3
stage_in (Err refusal) = stage_of (kind_of refusal)

-- A step stopped at what is due of it, or at something that may replace it.
abbrev pub StopsBy : {R Y : Type 0} → Replaced → Outcome R → Result Y (Outcome R) → Type 0
StopsBy Itself outcome due = due ≡ Err outcome
StopsBy (From stage) outcome due = stage ≤ stage_in due
StopsBy AnAnswer outcome due = due ≡ Err outcome

-- The same at an outcome of this kind.
abbrev pub GivesStop : {R Y : Type 0} → Kind → Outcome R → Result Y (Outcome R) → Type 0
GivesStop kind outcome due = StopsBy (row_of kind).replaces outcome due

-- A step gave what is due of it, which is a value of this kind or a refusal; or something stands in its place.
abbrev pub Gives : {R X Y : Type 0} → (X → Y → Type 0) → Result X (Outcome R) → Result Y (Outcome R) → Type 0
Gives {R} {X} {Y} IsOf (Ok x) due = (y : Y) × (due ≡ Ok y) × IsOf x y
Gives IsOf (Err outcome) due = GivesStop (kind_of outcome) outcome due

-- The refusal that a step gives.
abbrev pub refusal_in : {R Y : Type 0} → Result Y (Outcome R) → Option (Outcome R)
refusal_in (Ok y) = None
refusal_in (Err refusal) = Some refusal
