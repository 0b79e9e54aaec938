-- What kind of answer an outcome is. What is said of outcomes, beside their words and causes, is said by their kinds: each outcome has one,
-- and one table has a row for each.
use Rattle.std.specs.Prelude.{ℕ, Bool, true, false}
use Rattle.bus_command.specs.declared.outcome.Outcome.{Outcome}
use Rattle.bus_command.specs.declared.outcome.Outcome.TheVariants as outcome
use Rattle.bus_command.specs.declared.refusal.Place.{Place}
use Rattle.bus_command.specs.declared.refusal.Place.TheVariants.{First, Second, Both}

-- NoForm: the words are no form. NotRead, TooMuch, Wrong: the source of this number couldn't be read, has more bytes than its limit, or its
-- text is refused. Late: what comes behind the texts is refused. NotWritten: the answer couldn't be written. NoRoom: memory was refused.
-- Answer: the answer is written.
pub data Kind : Type 0 where
  NoForm : Kind
  NotRead : (source : ℕ) → Kind
  TooMuch : (source : ℕ) → Kind
  Wrong : (source : ℕ) → Kind
  Late : Kind
  NotWritten : Kind
  NoRoom : Kind
  Answer : Kind

-- The kind of a refusal of a program's own, by its place.
abbrev pub kind_at : Place → Kind
kind_at First = Wrong 1
kind_at Second = Wrong 2
kind_at Both = Late

-- The kind of each outcome.
abbrev pub kind_of : {R : Type 0} → Outcome R → Kind
kind_of outcome.Done = Answer
kind_of outcome.Answered = Answer
kind_of outcome.Usage = NoForm
kind_of (outcome.TableText line reason) = Wrong 1
kind_of (outcome.TableWhole reason) = Wrong 1
kind_of (outcome.MessagesText line reason) = Wrong 2
kind_of (outcome.Unfit error) = Wrong 2
kind_of (outcome.TraceText byte reason) = Wrong 2
kind_of (outcome.Own place why) = kind_at place
kind_of (outcome.ReadFault source) = NotRead source
kind_of outcome.WriteFault = NotWritten
kind_of outcome.NoMemory = NoRoom
kind_of (outcome.TooLarge source) = TooMuch source

-- ---- what is said of each kind
-- Where in the order of refusals a kind stands: at the words, at the source of this number, behind both texts, or anywhere behind the
-- words.
pub data Point : Type 0 where
  AtWords : Point
  AtSource : (source : ℕ) → Point
  BehindBoth : Point
  Anywhere : Point

-- How far a source was read. Untouched: it wasn't pulled. Broken: a pull failed, before anything was decided. Within: no byte past the
-- limit was taken. Past: one was, before anything was decided. Judged: it was read as far as its reader goes.
pub data Reach : Type 0 where
  Untouched : Reach
  Broken : Reach
  Within : Reach
  Past : Reach
  Judged : Reach

-- Which count of faults rose: none, that of the source at which the command stopped, or that of `out`.
pub data Count : Type 0 where
  NoCount : Count
  OfSource : Count
  OfOut : Count

-- What an outcome may replace that is due: itself alone, whatever is due at this stage or later, or an answer.
pub data Replaced : Type 0 where
  Itself : Replaced
  From : (stage : ℕ) → Replaced
  AnAnswer : Replaced

-- What `out` holds. Kept: what it held. Begun: behind that a beginning of the text. Whole: all of it.
pub data Held : Type 0 where
  Kept : Held
  Begun : Held
  Whole : Held

-- What is said of a kind:
--   point      where it stands in the order of refusals
--   reach      how far the source was read at which the command stopped, or both sources where it stopped at neither
--   early      whether it may come before the first byte is written
--   behind     whether it may come behind the texts; at a source, of the second one
--   count      which count of faults rose
--   replaces   what it may replace that is due
--   out        what `out` holds
pub record Row : Type 0 where
  pub point : Point
  pub reach : Reach
  pub early : Bool
  pub behind : Bool
  pub count : Count
  pub replaces : Replaced
  pub out : Held

-- What is said of each kind.
abbrev pub row_of : Kind → Row
row_of NoForm =
    record { point = AtWords; reach = Untouched; early = false; behind = false; count = NoCount; replaces = Itself; out = Kept }
row_of (NotRead source) =
    record { point = AtSource source; reach = Broken; early = true; behind = false; count = OfSource; replaces = From source; out = Kept }
row_of (TooMuch source) =
    record { point = AtSource source; reach = Past; early = true; behind = false; count = NoCount; replaces = Itself; out = Kept }
row_of (Wrong source) =
    record { point = AtSource source; reach = Judged; early = true; behind = true; count = NoCount; replaces = Itself; out = Kept }
row_of Late =
    record { point = BehindBoth; reach = Judged; early = true; behind = true; count = NoCount; replaces = Itself; out = Kept }
row_of NotWritten =
    record { point = BehindBoth; reach = Judged; early = false; behind = true; count = OfOut; replaces = AnAnswer; out = Begun }
row_of NoRoom =
    record { point = Anywhere; reach = Within; early = true; behind = true; count = NoCount; replaces = From 1; out = Kept }
row_of Answer =
    record { point = BehindBoth; reach = Judged; early = false; behind = true; count = NoCount; replaces = Itself; out = Whole }

-- ---- the order of refusals
-- The stage of a point: 0 the words, then each source by its number, 3 what comes behind both.
abbrev pub stage_at : Point → ℕ
stage_at AtWords = 0
stage_at (AtSource source) = source
stage_at BehindBoth = 3
stage_at Anywhere = 3

-- Where a kind stands in the order of refusals.
abbrev pub stage_of : Kind → ℕ
stage_of kind = stage_at (row_of kind).point

-- Whether all of the text is written.
abbrev pub is_whole : Held → Bool
is_whole Kept = false
is_whole Begun = false
is_whole Whole = true

-- Whether the answer is written.
abbrev pub is_answer : Kind → Bool
is_answer kind = is_whole (row_of kind).out

-- That it is so.
abbrev pub IsSo : Bool → Type 0
IsSo true = Unit {0}
IsSo false = ⊥
