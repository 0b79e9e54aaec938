-- The labels of a table that are voted on.
--   channel       a SEND line of a label: its sender, and its extension
--   voted label   a label that exactly three SEND lines of the table have, each of another sender
use Rattle.std.specs.Prelude.{ℕ, Bool, not, ◌&&◌, ◌==◌, List, [], ◌∷◌, map, Option, Some, None, if◌then◌else◌}
use Rattle.std.specs.List.{filter, filter_map, flat_map, range_with_len}
use Rattle.bus_table.specs.declared.line.SendLine.{SendLine}
use Rattle.bus_table.specs.Tables.{Sender, Table}
pub use Rattle.bus_vote.specs.declared.label.Channel.{Channel}
pub use Rattle.bus_vote.specs.declared.label.VotedLabel.{VotedLabel}

-- A SEND line of a sender as a channel.
abbrev pub channel_of : Sender → SendLine → Channel
channel_of sender line = record { terminal = sender.number; ext = line.ext }

-- The channels of a label that a sender has, in the order of its SEND lines.
abbrev pub sender_channels : ℕ → Sender → List Channel
sender_channels label sender = map (channel_of sender) (filter (λ (line : SendLine). line.label == label) sender.sends)

-- The channels of a label, in table order.
abbrev pub channels : Table → ℕ → List Channel
channels table label = flat_map (sender_channels label) table.senders

-- Whether three channels are of three senders.
abbrev pub are_apart : Channel → Channel → Channel → Bool
are_apart a b c = not (a.terminal == b.terminal) && (not (a.terminal == c.terminal) && not (b.terminal == c.terminal))

-- The voted label that a label with these channels is, if it is one.
abbrev pub voted : ℕ → List Channel → Option VotedLabel
voted label (a ∷ (b ∷ (c ∷ []))) = if are_apart a b c then Some (record { label = label; first = a; second = b; third = c }) else None
voted label _ = None

-- The labels, in ascending order: numbers of twelve bits.
unfoldable pub labels : List ℕ
labels = range_with_len 0 4096

-- The voted labels of a table, in ascending order.
abbrev pub voted_labels : Table → List VotedLabel
voted_labels table = filter_map (λ label. voted label (channels table label)) labels
