-- What the calls that write do to the bytes that a sink holds, and to its count of faults. The bytes are told, `Some xs`, or not, `None`;
-- where they are not, every fact about them holds.
--
--   Pushes old new push bytes     one push
--   CountsPush before now push    the count of faults, before and after one push
--   Written old new rest text     of a text, all but its end `rest` has gone to the sink
--   WritesText held faults old new result text   what a call did that writes a text: the one clause of every public writer
use Rattle.std.specs.Prelude.{◌≡◌, ℕ, ◌≤◌, List, [], ◌++◌, length, take, OnOk, OnErr}
use Rattle.std.specs.declared.option.Option.{Option}
use Rattle.std.specs.declared.result.Result.{Result}
use Rattle.std.specs.Io.KnownBytes.{append_known}
use Rattle.bus_outer.specs.Faults.{Rose, Fails}
use Rattle.bus_outer.specs.declared.sink.Push.{Push}
use Rattle.bus_outer.specs.declared.sink.Push.TheVariants.{Took, Failed}

-- A push takes some bytes from the front, at least one; a failed one leaves all as it was.
abbrev pub Pushes : Option (List ℕ) → Option (List ℕ) → Push → List ℕ → Type 0
Pushes old new (Took n) bytes = (1 ≤ n) × (n ≤ length bytes) × (new ≡ append_known old (take n bytes))
Pushes old new Failed bytes = new ≡ old

-- A push counts a fault exactly where it answers one.
abbrev pub CountsPush : ℕ → ℕ → Push → Type 0
CountsPush before now (Took n) = now ≡ before
CountsPush before now Failed = Fails before now

-- Of a text, all has gone to the sink but `rest`, its end.
pub record Written (old new : Option (List ℕ)) (rest text : List ℕ) : Type 0 where
  pub gone : List ℕ
  pub held_is : new ≡ append_known old gone
  pub text_is : text ≡ gone ++ rest

-- A call wrote a text: at Ok all of it, and no fault was counted; else a front of it, and the count of faults rose.
pub record WritesText {K T E : Type 0} (held : K → Option (List ℕ)) (faults : K → ℕ) (old new : K) (result : Result T E) (text : List ℕ)
    : Type 0 where
  pub ok : OnOk result (Written (held old) (held new) [] text)
  pub prefix : OnErr result ((rest : List ℕ) × Written (held old) (held new) rest text)
  pub same : OnOk result (faults new ≡ faults old)
  pub later : faults old ≤ faults new
  pub cause : OnErr result (Rose (faults old) (faults new))
