-- Spaced traces: those whose transmissions and horizon are read again from their wave text.
--   entry k is told by its number, from 0
use Rattle.std.specs.Prelude.{◌≡◌, ℕ, ◌+◌, ◌≤◌, Bool, true, false, not, nat_lt, List, [], ◌∷◌, Option, Some, Result, Ok, is_none}
use Rattle.std.specs.List.{AllByRecursion}
use Rattle.std.specs.Option.{option_map_or}
use Rattle.bus_text.specs.AllOf.{◌>>=◌}
use Rattle.bus_text.specs.Refusals.{first_of, unless}
use Rattle.bus_strings.specs.Messages.{Entry}
use Rattle.bus_strings.specs.Transmissions.{end_of}
use Rattle.bus_table.specs.Tables.{Sender, Table}
use Rattle.bus_table.specs.Fits.{sender_of, fits}
use Rattle.bus_trace.specs.Traces.{Recording}
use Rattle.bus_wave.specs.declared.fault.WaveFault.{WaveFault}
use Rattle.bus_wave.specs.declared.fault.WaveFault.TheVariants.{Stranger, Misfit, Close, Cut}

-- The least quiet between two transmissions of a wave: more than within a message.
abbrev pub least_gap : ℕ
least_gap = 8

-- ---- spaced, as facts
-- An entry is of a sender of the table and fits it.
pub record IsOfSender (table : Table) (x : Entry) : Type 0 where
  pub sender : Sender
  pub found : sender_of table.senders x.terminal ≡ Some sender
  pub fits : fits sender x.message ≡ true

-- Each entry but the first starts at least the least gap behind the end of the one before, and each ends at or before the horizon;
-- the first starts at `from` or later.
abbrev pub AreApart : ℕ → ℕ → List Entry → Type 0
AreApart from horizon [] = Unit {0}
AreApart from horizon (x ∷ xs) = (from ≤ x.moment) × (end_of x ≤ horizon) × AreApart (end_of x + least_gap) horizon xs

-- A trace is spaced for a table: each entry is of a sender and fits it, and they stand apart, up to the horizon.
pub record IsSpaced (table : Table) (t : Recording) : Type 0 where
  pub senders : AllByRecursion (IsOfSender table) t.list
  pub apart : AreApart 0 t.horizon t.list

-- ---- the first entry at which a trace isn't
-- Whether a message fits a sender, where there is one.
abbrev pub fits_some : Option Sender → Entry → Bool
fits_some sender x = option_map_or (λ s. fits s x.message) sender false

-- What is wrong with entry k, which may start from `from` on: the first of these that applies.
abbrev pub entry_fault : List Sender → ℕ → ℕ → ℕ → Entry → Option WaveFault
entry_fault senders horizon from k x = first_of
    ((is_none (sender_of senders x.terminal), Stranger k)
    ∷ (not (fits_some (sender_of senders x.terminal) x), Misfit k)
    ∷ (nat_lt x.moment from, Close k)
    ∷ (nat_lt horizon (end_of x), Cut k)
    ∷ [])

-- The first of these entries with which something is wrong, the first being entry k, which may start from `from` on.
abbrev pub spaced_from : List Sender → ℕ → ℕ → ℕ → List Entry → Result (Unit {0}) WaveFault
spaced_from senders horizon from k [] = Ok tt
spaced_from senders horizon from k (x ∷ xs) =
    unless (entry_fault senders horizon from k x) (tt {0}) >>= λ _. spaced_from senders horizon (end_of x + least_gap) (k + 1) xs

-- Whether a trace is spaced for a table, or else its first entry with which something is wrong.
abbrev pub spaced_of : Table → Recording → Result (Unit {0}) WaveFault
spaced_of table t = spaced_from table.senders t.horizon 0 0 t.list
