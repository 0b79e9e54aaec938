-- A table as plain numbers and lists: the raw table that a text stands for, and what a contract sees of the types.
--   mode        what governs the starts
--   ti, sg, tg  the transmit interval, the synchronization gap and a terminal gap, in bit times
--   at          the offset of a sender in bit times; 0 in aperiodic mode
--   sends       the wordstrings of a sender's messages
--   takes       what a terminal takes from the wordstrings of others
use Rattle.std.specs.Prelude.{ℕ, List, map}
use Rattle.bus_strings.specs.Messages.{Message}
use Rattle.bus_table.specs.declared.mode.Mode.{Mode}
pub use Rattle.bus_table.specs.declared.line.SendLine.{SendLine}
pub use Rattle.bus_table.specs.declared.line.TakeLine.{TakeLine}

-- A terminal that sends.
pub record Sender : Type 0 where
  pub number : ℕ
  pub tg : ℕ
  pub at : ℕ
  pub sends : List SendLine
  pub takes : List TakeLine

-- A terminal that takes and never sends.
pub record Listener : Type 0 where
  pub number : ℕ
  pub takes : List TakeLine

-- A table, valid or not.
pub record Table : Type 0 where
  pub mode : Mode
  pub ti : ℕ
  pub sg : ℕ
  pub senders : List Sender
  pub listeners : List Listener

-- The numbers of the senders of a table, in table order.
abbrev pub sender_numbers : Table → List ℕ
sender_numbers table = map (λ sender. sender.number) table.senders

-- What a terminal has to send: its messages, in the order of their starts.
pub record Hand : Type 0 where
  pub terminal : ℕ
  pub messages : List Message
