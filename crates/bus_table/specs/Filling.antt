-- The filling message of a sender, of this project's profile: what the witness of a refused table sends, and what stands for a
-- message that a trace doesn't show. Each of its data words is 0; each line has its least number of them in aperiodic mode, and
-- its most in periodic mode.
use Rattle.std.specs.Prelude.{ℕ, List, map, replicate}
use Rattle.bus_strings.specs.Items.{Item}
use Rattle.bus_strings.specs.Messages.{Message}
use Rattle.bus_table.specs.declared.mode.Mode.{Mode}
use Rattle.bus_table.specs.declared.mode.Mode.TheVariants.{Aperiodic, Periodic}
use Rattle.bus_table.specs.Hands.{message_of}
use Rattle.bus_table.specs.Tables.{SendLine, Sender}

-- How many data words a line has in it.
abbrev pub filling_count : Mode → SendLine → ℕ
filling_count Aperiodic line = line.least
filling_count Periodic line = line.most

-- So many data words of 0.
abbrev pub zeros : ℕ → List ℕ
zeros n = replicate n 0

-- Its data words, wordstring by wordstring.
abbrev pub filling_strings : Mode → List SendLine → List (List ℕ)
filling_strings mode sends = map (λ line. zeros (filling_count mode line)) sends

-- The item that gives it.
abbrev pub filling_item : Mode → Sender → Item
filling_item mode sender = record { terminal = sender.number; strings = filling_strings mode sender.sends }

-- The filling message of a sender of a table of this mode.
abbrev pub filling_message : Mode → Sender → Message
filling_message mode sender = message_of sender.sends (filling_strings mode sender.sends)
