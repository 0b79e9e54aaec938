-- What a read of a line takes of a source.
use Rattle.std.specs.Prelude.{◌≡◌, ℕ, ◌<◌, false, List, [], ◌∷◌, ◌++◌, length, IfSome, Ok, Err}
use Rattle.std.specs.List.{AllByRecursion}
use Rattle.std.specs.declared.alloc.AllocError.{AllocError}
use Rattle.std.specs.declared.option.Option.{Option}
use Rattle.std.specs.declared.result.Result.{Result}
use Rattle.bus_text.specs.Lines.{is_feed}
use Rattle.bus_outer.specs.Faults.{Fails}
use Rattle.bus_outer.specs.Sources.{Taken}
use Rattle.bus_stream.specs.declared.lines.LineRead.{LineRead}
use Rattle.bus_stream.specs.declared.lines.LineRead.TheVariants as read

-- How many bytes a line has at most, its line feed included.
abbrev pub line_limit : ℕ
line_limit = 65536

-- Bytes of one line, without its line feed.
abbrev pub HasNoFeed : List ℕ → Type 0
HasNoFeed bytes = AllByRecursion (λ b. is_feed b ≡ false) bytes

-- A line was taken with its line feed; else the bytes that came of one: all that there were, as many as a line may have, or those before
-- a pull failed. Want of memory leaves open how many came.
abbrev pub ReadsLine : Option (List ℕ) → Option (List ℕ) → Result LineRead AllocError → List ℕ → Type 0
ReadsLine old new (Ok read.Line) line = Taken old new (line ++ 10 ∷ []) × HasNoFeed line × (length line < line_limit)
ReadsLine old new (Ok read.End) line = Taken old new line × HasNoFeed line × (length line < line_limit) × IfSome new (λ xs. xs ≡ [])
ReadsLine old new (Ok read.Long) line = Taken old new line × HasNoFeed line × (length line ≡ line_limit)
ReadsLine old new (Ok read.Failed) line = Taken old new line × HasNoFeed line × (length line < line_limit)
ReadsLine old new (Err e) line = (bytes : List ℕ) × Taken old new bytes

-- A read counts a fault exactly where a pull failed.
abbrev pub CountsLine : ℕ → ℕ → Result LineRead AllocError → Type 0
CountsLine before now (Ok read.Line) = now ≡ before
CountsLine before now (Ok read.End) = now ≡ before
CountsLine before now (Ok read.Long) = now ≡ before
CountsLine before now (Ok read.Failed) = Fails before now
CountsLine before now (Err e) = now ≡ before
