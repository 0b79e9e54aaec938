-- What the calls of a source do to the bytes that it has left, and to its count of faults. The bytes are told, `Some xs`, or not, `None`;
-- where they are not, every fact about them holds.
--
--   Taken old new bs                  the bytes bs came from the front of what was left
--   Pulls old new pull buf            one pull into a buffer, as the buffer is afterwards
--   line_length xs                    how many bytes the first line has, its line feed included
--   StopsAtFeed pull buf              of the bytes of one pull none but the last is a line feed
--   CountsPull before now pull        the count of faults, before and after one pull
--   ReadsWhole limit old new result   a read of all there is, up to a limit
--   CountsRead before now result      the count of faults, before and after such a read
use Rattle.std.specs.Prelude.{◌≡◌, ℕ, suc, ◌+◌, ◌-◌, ◌≤◌, ◌<◌, ◌==◌, false, List, [], ◌∷◌, length, take, IfSome, Vec, Ok, Err}
use Rattle.std.specs.Prelude.{if◌then◌else◌}
use Rattle.std.specs.List.{AllByRecursion}
use Rattle.std.specs.declared.option.Option.{Option}
use Rattle.std.specs.declared.result.Result.{Result}
use Rattle.std.specs.declared.alloc.Global.{Global}
use Rattle.std.specs.Io.KnownBytes.{prepend_known}
use Rattle.bus_outer.specs.Faults.{Fails}
use Rattle.bus_outer.specs.declared.source.Pull.{Pull}
use Rattle.bus_outer.specs.declared.source.Pull.TheVariants.{Got, End, Failed}
use Rattle.bus_outer.specs.declared.whole.ReadError.{ReadError}
use Rattle.bus_outer.specs.declared.whole.ReadError.TheVariants.{Fault, TooLarge, Memory}

-- The bytes came from the front of what the source had left.
abbrev pub Taken : Option (List ℕ) → Option (List ℕ) → List ℕ → Type 0
Taken old new bs = old ≡ prepend_known bs new

-- A pull takes some bytes, at least one and no more than the buffer has; it says that the source has ended only where nothing is
-- left; and a failed one leaves all as it was.
abbrev pub Pulls : Option (List ℕ) → Option (List ℕ) → Pull → List ℕ → Type 0
Pulls old new (Got n) buf = (1 ≤ n) × (n ≤ length buf) × Taken old new (take n buf)
Pulls old new End buf = IfSome old (λ xs. xs ≡ []) × (new ≡ old)
Pulls old new Failed buf = new ≡ old

-- How many bytes the first line has, its line feed included; all where there is no line feed.
abbrev pub line_length : List ℕ → ℕ
line_length [] = 0
line_length (b ∷ bs) = if b == 10 then 1 else suc (line_length bs)

-- Of the bytes that a pull took none but the last is a line feed.
abbrev pub StopsAtFeed : Pull → List ℕ → Type 0
StopsAtFeed (Got n) buf = AllByRecursion (λ b. (b == 10) ≡ false) (take (n - 1) buf)
StopsAtFeed End buf = Unit {0}
StopsAtFeed Failed buf = Unit {0}

-- A pull counts a fault exactly where it answers one.
abbrev pub CountsPull : ℕ → ℕ → Pull → Type 0
CountsPull before now (Got n) = now ≡ before
CountsPull before now End = now ≡ before
CountsPull before now Failed = Fails before now

-- The most bytes for which a read of all there is asks in one pull.
abbrev pub most_piece : ℕ
most_piece = 4096

-- The greatest limit of such a read.
abbrev pub read_limit : ℕ
read_limit = 67108864

-- Some bytes were taken, and their number is so.
abbrev pub TakesSome : Option (List ℕ) → Option (List ℕ) → (ℕ → Type 0) → Type 0
TakesSome old new P = (bs : List ℕ) × Taken old new bs × P (length bs)

-- A read of all there is takes exactly what it gives, up to the end and within the limit. It is too large exactly where a byte
-- past the limit was taken, and then at most one piece past it was.
abbrev pub ReadsWhole : ℕ → Option (List ℕ) → Option (List ℕ) → Result (Vec ℕ Global) ReadError → Type 0
ReadsWhole limit old new (Ok v) = Taken old new v.items × IfSome new (λ xs. xs ≡ []) × (length v.items ≤ limit)
ReadsWhole limit old new (Err TooLarge) = TakesSome old new (λ n. (limit < n) × (n ≤ limit + most_piece))
ReadsWhole limit old new (Err Fault) = TakesSome old new (λ n. n ≤ limit)
ReadsWhole limit old new (Err Memory) = TakesSome old new (λ n. n ≤ limit)

-- A read counts a fault exactly where it answers one: a failed pull is never passed over, nor given as another error.
abbrev pub CountsRead : {T : Type 0} → ℕ → ℕ → Result T ReadError → Type 0
CountsRead before now (Ok x) = now ≡ before
CountsRead before now (Err Fault) = Fails before now
CountsRead before now (Err TooLarge) = now ≡ before
CountsRead before now (Err Memory) = now ≡ before
