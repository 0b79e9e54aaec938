-- How a table is looked over for the channels of a label: no more than three are kept.
use Rattle.std.specs.Prelude.{ℕ, ◌==◌, List, [], ◌∷◌, Option, Some, None, if◌then◌else◌}
use Rattle.bus_table.specs.declared.line.SendLine.{SendLine}
use Rattle.bus_vote.specs.Labels.{Channel, VotedLabel, are_apart}
use Rattle.bus_vote.specs.declared.seen.Seen.{Seen}
use Rattle.bus_vote.specs.declared.seen.Seen.TheVariants.{Nothing, One, Two, Three, More}

-- What is kept of these channels.
abbrev pub seen : List Channel → Seen
seen [] = Nothing
seen (a ∷ []) = One a
seen (a ∷ (b ∷ [])) = Two a b
seen (a ∷ (b ∷ (c ∷ []))) = Three a b c
seen (a ∷ (b ∷ (c ∷ (d ∷ rest)))) = More

-- What is kept with one more channel.
abbrev pub after : Seen → Channel → Seen
after Nothing a = One a
after (One a) b = Two a b
after (Two a b) c = Three a b c
after (Three a b c) d = More
after More d = More

-- The voted label that a label with the kept channels is, if it is one.
abbrev pub voted_of : ℕ → Seen → Option VotedLabel
voted_of label (Three a b c) = if are_apart a b c then Some (record { label = label; first = a; second = b; third = c }) else None
voted_of label _ = None

-- The channel that a SEND line of a sender is, where it has the label.
abbrev pub line_channels : ℕ → ℕ → SendLine → List Channel
line_channels label terminal line = if line.label == label then record { terminal = terminal; ext = line.ext } ∷ [] else []
