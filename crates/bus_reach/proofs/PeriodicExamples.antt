-- Periodic tables, computed: the greatest delay that they bear, and what a listener may hear of one sender alone.
use Rattle.std.proofs.Common.{◌≡◌, ℕ, true, false, List, [], ◌∷◌, refl}
use Rattle.bus_strings.specs.Messages.{Entry}
use Rattle.bus_strings.specs.Transmissions.{overlaps}
use Rattle.bus_table.specs.declared.mode.Mode.TheVariants.{Periodic}
use Rattle.bus_table.specs.Tables.{Sender, Table}
use Rattle.bus_medium.specs.Delays.{later}
use Rattle.bus_reach.specs.Bearing.{bears}

-- a sender of one wordstring of so many data words
abbrev sender : ℕ → ℕ → ℕ → ℕ → ℕ → Sender
sender number tg at least most =
    record { number = number; tg = tg; at = at; sends = record { label = number; ext = 1; least = least; most = most } ∷ []; takes = [] }

abbrev periodic : ℕ → ℕ → List Sender → Table
periodic ti sg senders = record { mode = Periodic; ti = ti; sg = sg; senders = senders; listeners = [] }

-- four senders, of messages of 180 bit times
abbrev four : ℕ → ℕ → ℕ → ℕ → Table
four ti b c d = periodic ti 300 (sender 1 20 0 8 8 ∷ sender 2 30 b 8 8 ∷ sender 3 40 c 8 8 ∷ sender 4 50 d 8 8 ∷ [])

by_sync : bears (four 1423 215 699 939) 4 ≡ true
by_sync = refl

by_sync_no_more : bears (four 1423 215 699 939) 5 ≡ false
by_sync_no_more = refl

by_several : bears (four 1663 220 701 1182) 3 ≡ true
by_several = refl

by_several_no_more : bears (four 1663 220 701 1182) 4 ≡ false
by_several_no_more = refl

-- a sender alone bears any
alone_bears_any : bears (periodic 1000 300 (sender 1 20 0 2 2 ∷ [])) 1000000 ≡ true
alone_bears_any = refl

-- but a listener may hear two of its messages overlap, where the first comes later by more than the gap: here by 941 bit times, with 940
-- between the end of the first and the second
abbrev alone_sent : ℕ → Entry
alone_sent moment = record { moment = moment; terminal = 1; message = record { label = 1; ext = 1; words = 0 ∷ (0 ∷ []) } ∷ [] }

alone_heard : overlaps (later 941 (alone_sent 0)) (later 0 (alone_sent 1000)) ≡ true
alone_heard = refl

alone_apart : overlaps (later 940 (alone_sent 0)) (later 0 (alone_sent 1000)) ≡ false
alone_apart = refl
