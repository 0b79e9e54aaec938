-- What holds of the pictures and numbers of a page. The contracts of `laws` say that each of these holds.
use Rattle.std.specs.Prelude.{◌≡◌, ◌≢◌, ◌⊎◌, ◌↔◌, ℕ, ◌+◌, ◌-◌, ◌*◌, ◌/◌, ◌≤◌, ◌==◌, max, Bool, true, false, IsTrue, List, [], ◌∷◌, length}
use Rattle.std.specs.Prelude.{codes}
use Rattle.std.specs.Prelude.{Some, if◌then◌else◌}
use Rattle.std.specs.List.{list_all, sum_by}
use Rattle.bus_strings.specs.Members.{In}
use Rattle.bus_table.specs.declared.mode.Mode.TheVariants.{Aperiodic, Periodic}
use Rattle.bus_table.specs.Lengths.{longest}
use Rattle.bus_table.specs.Ranges.{is_sender}
use Rattle.bus_table.specs.Tables.{Sender, Table}
use Rattle.bus_table.specs.Valid.{is_valid}
use Rattle.bus_explain.specs.Accepted.{IsAcceptedWith}
use Rattle.bus_margins.specs.declared.room.Room.{Room as AperiodicRoom}
use Rattle.bus_margins.specs.Least as aperiodic_least
use Rattle.bus_margins_periodic.specs.declared.room.Room.{Room as PeriodicRoom}
use Rattle.bus_margins_periodic.specs.Least as periodic_least
use Rattle.bus_reach.specs.declared.limit.Limit.{Limit}
use Rattle.bus_reach.specs.Bearing.{bears, tolerance_of}
use Rattle.bus_reach.specs.Latency.{latency}
use Rattle.bus_reach.specs.Limits.{is_borne, limits_of}
use Rattle.bus_regime.specs.Verdicts.{is_accepted, verdict_of}
use Rattle.bus_pen.specs.declared.measures.TheConstants.{PIXEL as pixel}
use Rattle.bus_pen.specs.declared.scale.Scale.{Scale}
use Rattle.bus_pen.specs.Scales.{IsScale}
use Rattle.bus_page.specs.Bars.{is_least}
use Rattle.bus_page.specs.Checksums.{checksum}
use Rattle.bus_page.specs.Feet.{shown_text}
use Rattle.bus_page.specs.Messages.{area_of}
use Rattle.bus_page.specs.Rooms.{Span, aperiodic_span, is_short, periodic_span}
use Rattle.bus_page.specs.Slots.{All, Nobody, Slot, slots_of}
use Rattle.bus_page.specs.Turns.{Stretch, Turn, turns_of}

-- ---- widths
-- The length of a stretch by a scale, rounded down.
abbrev pub scaled : Scale → ℕ → ℕ
scaled scale bits = bits * scale.width / (scale.to - scale.from)

-- The box of two moments is as wide as these are apart by the scale, or a unit wider; but it is at least a pixel wide.
abbrev pub WidthsAreOfTheScale : Type 0
WidthsAreOfTheScale =
    (scale : Scale) (a b top height : ℕ) → IsScale scale → scale.from ≤ a → a ≤ b → b ≤ scale.to
    → (scaled scale (b - a) ≤ (area_of scale a b top height).width)
    × ((area_of scale a b top height).width ≤ max (scaled scale (b - a) + 1) pixel)
    × (pixel ≤ (area_of scale a b top height).width)

-- ---- bars
-- What the bars of an accepted table tell of the delays that it bears:
--   together  it bears exactly the delays that each rule bears alone of which a bar is drawn
--   out       a bar stands out exactly where its rule bears no delay that is greater than the tolerance
pub record AreBarsOf (table : Table) : Type 0 where
  pub together : (d : ℕ) → bears table d ≡ list_all (is_borne d) (limits_of table)
  pub out : (limit : Limit) (d : ℕ) → In limit (limits_of table) → tolerance_of table ≡ Some d
      → (is_least (tolerance_of table) limit.bears ≡ true) ↔ (is_borne (d + 1) limit ≡ false)

abbrev pub BarsAreTheRules : Type 0
BarsAreTheRules = (table : Table) → IsTrue (is_valid table) → IsTrue (is_accepted (verdict_of table)) → AreBarsOf table

-- A rule of the margins stands out exactly where it lacks.
pub record RoomsAreTheRules : Type 0 where
  pub aperiodic : (room : AperiodicRoom) (span : Span) → aperiodic_span (Some room) ≡ Some span
      → (is_short span ≡ true) ↔ (aperiodic_least.holds (Some room) ≡ false)
  pub periodic : (room : PeriodicRoom) (span : Span) → periodic_span (Some room) ≡ Some span
      → (is_short span ≡ true) ↔ (periodic_least.holds (Some room) ≡ false)

-- ---- cycles
-- The gap of each of these turns begins where the message of the one before it ends, and that of the first here.
abbrev pub FollowOneAnother : (Turn → Stretch) → ℕ → List Turn → Type 0
FollowOneAnother of end [] = Unit {0}
FollowOneAnother of end (turn ∷ turns) = ((of turn).gap ≡ end) × FollowOneAnother of (of turn).to turns

-- In both cycles that are drawn the first gap begins where the synchronization gap ends, and each other one where a message does.
abbrev pub TurnsFollowOneAnother : Type 0
TurnsFollowOneAnother =
    (table : Table) → FollowOneAnother (λ turn. turn.short) table.sg (turns_of table)
    × FollowOneAnother (λ turn. turn.long) table.sg (turns_of table)

-- Where the last of the messages of these turns ends, and `end` where there is none.
abbrev pub last_end : (Turn → Stretch) → ℕ → List Turn → ℕ
last_end of end [] = end
last_end of end (turn ∷ turns) = last_end of (of turn).to turns

-- The cycles that are drawn end where the verdict says: their gaps and messages together are its shortest and its longest cycle.
abbrev pub CyclesAreTheVerdicts : Type 0
CyclesAreTheVerdicts =
    (table : Table) (least most : ℕ) → table.mode ≡ Aperiodic → IsAcceptedWith table least most
    → (last_end (λ turn. turn.short) table.sg (turns_of table) ≡ least) × (last_end (λ turn. turn.long) table.sg (turns_of table) ≡ most)

-- ---- intervals
-- The bit times of a gap and of the message behind it.
abbrev pub slot_bits : Slot → ℕ
slot_bits slot = (slot.to - slot.from) + (slot.message.to - slot.message.from)

-- The gaps and messages that are drawn of an interval have all its bit times: together as many as it has.
abbrev pub SlotsFillTheInterval : Type 0
SlotsFillTheInterval =
    (table : Table) (least most : ℕ) → IsTrue (is_valid table) → table.mode ≡ Periodic → IsAcceptedWith table least most
    → sum_by slot_bits (slots_of table) ≡ most

-- The gap of another sender is drawn that synchronizes this one.
pub record IsSyncedByAnother (slots : List Slot) (own : Slot) : Type 0 where
  pub other : Slot
  pub among : In other slots
  pub apart : other.number ≢ own.number
  pub serves : other.synced ≢ Nobody

-- Each sender is synchronized by a gap that is drawn: by its own, which synchronizes all, or by that of another sender.
abbrev pub EachIsSynchronized : Type 0
EachIsSynchronized =
    (table : Table) (least most : ℕ) → table.mode ≡ Periodic → IsAcceptedWith table least most
    → (own : Slot) → In own (slots_of table) → (own.synced ≡ All) ⊎ IsSyncedByAnother (slots_of table) own

-- ---- the text
-- A byte that is neither the beginning nor the end of a tag.
abbrev pub is_plain : ℕ → Bool
is_plain byte = if byte == 60 then false else (if byte == 62 then false else true)

-- No byte of the text that is shown begins or ends a tag, whatever text was given.
abbrev pub TextsHaveNoTags : Type 0
TextsHaveNoTags = (bytes : List ℕ) → list_all is_plain (shown_text bytes) ≡ true

-- ---- checksum
-- The checksum is CRC-32: that of the nine digits from 1 on is its check value, 0xCBF43926.
abbrev pub ChecksumIsCrc32 : Type 0
ChecksumIsCrc32 = checksum (codes "123456789") ≡ 3421780262

-- ---- waits
-- What the picture tells of the longest wait of a sender and of its longest message is the latency of the data on its last line, without
-- delays.
abbrev pub WaitsAreLatencies : Type 0
WaitsAreLatencies =
    (table : Table) (most : ℕ) (sender : Sender) → IsTrue (is_sender sender)
    → most + longest sender ≡ latency table most 0 sender (length sender.sends - 1)
