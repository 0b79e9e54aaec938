-- The lengths of a sender's messages in bit times.
use Rattle.std.specs.Prelude.{ℕ, ◌+◌, List, length}
use Rattle.std.specs.List.{sum_by}
use Rattle.bus_strings.specs.Messages.{bits_of}
use Rattle.bus_table.specs.Tables.{SendLine, Sender}

-- The words of a message with the least data words on each of these lines.
abbrev pub words_at_least : List SendLine → ℕ
words_at_least sends = sum_by (λ line. 1 + line.least) sends

-- The words of a message with the most data words on each of these lines.
abbrev pub words_at_most : List SendLine → ℕ
words_at_most sends = sum_by (λ line. 1 + line.most) sends

-- The bit times of a message with the least data words on each line.
abbrev pub shortest : Sender → ℕ
shortest sender = bits_of (words_at_least sender.sends) (length sender.sends)

-- The bit times of a message with the most data words on each line.
abbrev pub longest : Sender → ℕ
longest sender = bits_of (words_at_most sender.sends) (length sender.sends)
