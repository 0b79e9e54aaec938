-- What a step of a command comes to on the way, as private contracts and proofs need it. No public clause cites it.
use Rattle.std.specs.Prelude.{ℕ, ◌≡◌, Bool}
use Rattle.bus_outer.specs.declared.whole.ReadError.{ReadError}
use Rattle.bus_outer.specs.declared.whole.ReadError.TheVariants.{Fault, TooLarge as Larger, Memory}
use Rattle.bus_command.specs.declared.outcome.Outcome.{Outcome}
use Rattle.bus_command.specs.declared.outcome.Outcome.TheVariants.{ReadFault, NoMemory, TooLarge}
use Rattle.bus_command.specs.Kinds.{Kind, Point, AtWords, AtSource, BehindBoth, Anywhere, IsSo, row_of}
use Rattle.bus_command.specs.declared.inputs.Dealt.{Dealt}
use Rattle.bus_command.specs.Due.{Inputs, hands_in}

-- What a read that failed comes to.
abbrev pub read_refusal : {R : Type 0} → ℕ → ReadError → Outcome R
read_refusal number Fault = ReadFault number
read_refusal number Larger = TooLarge number
read_refusal number Memory = NoMemory

-- A point at which a command may stop behind both texts, if it may at all.
abbrev pub IsPointLate : Bool → Point → Type 0
IsPointLate early AtWords = ⊥
IsPointLate early (AtSource source) = ⊥
IsPointLate early BehindBoth = IsSo early
IsPointLate early Anywhere = IsSo early

-- A kind at which it may stop there, before it has written anything.
abbrev pub IsLate : Kind → Type 0
IsLate kind = IsPointLate (row_of kind).early (row_of kind).point

-- A table, and the hands that the items give its senders.
pub record AreInputs (dealt : Dealt) (inputs : Inputs) : Type 0 where
  pub table : dealt.table ≡ inputs.table
  pub hands : dealt.hands.items ≡ hands_in inputs
