-- The room that a rule leaves, and which is the least.
use Rattle.std.specs.Prelude.{ℕ, zero, suc, ◌+◌, Bool, true, nat_le, nat_lt, Option, Some, None, if◌then◌else◌}
use Rattle.bus_margins_periodic.specs.declared.room.Room.{Room}

-- Whether room a is less than room b.
abbrev pub is_less : Room → Room → Bool
is_less a b = nat_lt (a.have + b.need) (b.have + a.need)

-- The lesser of two rooms, the first where neither is less.
abbrev pub lesser : Option Room → Option Room → Option Room
lesser None b = b
lesser (Some a) None = Some a
lesser (Some a) (Some b) = Some (if is_less b a then b else a)

-- The least of the first n of these, the first of those that are.
abbrev pub least_of : ℕ → (ℕ → Option Room) → Option Room
least_of zero room = None
least_of (suc n) room = lesser (least_of n room) (room n)

-- Whether a rule holds that leaves this least room: there is what it needs.
abbrev pub holds : Option Room → Bool
holds None = true
holds (Some a) = nat_le a.need a.have
