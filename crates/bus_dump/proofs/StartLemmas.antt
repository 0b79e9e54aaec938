-- Senders start where the wire of their timers says that they may.
use Rattle.std.proofs.Common.{◌≡◌, ℕ, ◌<◌, Bool, true, List, Option, length, sym, ap, subst, ◌∙◌}
use Rattle.std.specs.Prelude.{IsTrue, ◌↔◌}
use Rattle.bus_strings.specs.Members.{In}
use Rattle.bus_strings.specs.Messages.{Entry}
use Rattle.bus_table.specs.Hands.{are_hands}
use Rattle.bus_table.specs.Tables.{Hand, Table}
use Rattle.bus_table.specs.Valid.{is_valid}
use Rattle.bus_timers.specs.declared.timing.Timing.{Timing}
use Rattle.bus_timers.specs.MayStartTest.{TestDecides, may_start}
use Rattle.bus_medium.specs.Lawful.{HasEntry, IsLawful, Station}
use Rattle.bus_medium.specs.Past.{last_place, own, past}
use Rattle.bus_medium.proofs.StationLaws.{stations_are_of_senders}
use Rattle.bus_medium.specs.Timings.{quiet_of, stations_of, timing_of}
use Rattle.bus_dump.specs.declared.dump.Dump.TheVariants.{Timers}
use Rattle.bus_dump.specs.Scenes.{scene_at}
use Rattle.bus_dump.specs.Signals.{Bit, May, value}
use Rattle.bus_dump.specs.Timers.{Elapsed}
use Rattle.bus_dump.proofs.TimerLemmas.{timers_found}

same_bit : (a b : Bool) → Bit a ≡ Bit b → a ≡ b
same_bit a b h = cc

-- the wire of a station
may_told : (breach : Option ℕ) (table : Table) (hands : List Hand) (list : List Entry) (t : ℕ) (station : Station) → IsTrue (is_valid table)
    → IsTrue (are_hands table.senders hands) → In station (stations_of table hands)
    → value (May station.number) (scene_at Timers breach table list t)
    ≡ Bit (may_start station.timing (past (quiet_of table) list t) (last_place (quiet_of table) (own list station.number t)))
may_told breach table hands list t station valid dealt there =
    let so = stations_are_of_senders table hands station valid dealt there in
    let heard : List Bool = past (quiet_of table) list t in
    let told : (n : ℕ) → Timing → Type 0 =
    λ n timing. value (May n) (scene_at Timers breach table list t) ≡ Bit (may_start timing heard (last_place (quiet_of table) (own list n t))) in
    subst (told station.number) (sym so.is.timing)
    (subst (λ n. told n (timing_of table so.sender)) (sym so.is.number)
    (ap (λ (e : Elapsed). Bit e.may) (timers_found table list t so.sender valid so.there)))

pub starts_seen : TestDecides → (breach : Option ℕ) (table : Table) (hands : List Hand) (horizon : ℕ) (list : List Entry) (t : ℕ) (station : Station) → IsTrue (is_valid table)
    → IsTrue (are_hands table.senders hands) → IsLawful (quiet_of table) (stations_of table hands) horizon list → t < horizon
    → In station (stations_of table hands)
    → HasEntry list station.number t
    ↔ ((value (May station.number) (scene_at Timers breach table list t) ≡ Bit true) × (length (own list station.number t) < length station.hand))
starts_seen decides breach table hands horizon list t station valid dealt lawful below there =
    let heard : List Bool = past (quiet_of table) list t in
    let last = last_place (quiet_of table) (own list station.number t) in
    let told = may_told breach table hands list t station valid dealt there in
    let exact = lawful.exact t station below there in
    let test = decides station.timing heard last in (
      λ h. let due = exact.0 h in (told ∙ ap Bit (test.1 due.may), due.left),
      λ h. exact.1 (record { may = test.0 (same_bit (may_start station.timing heard last) true (sym told ∙ h.0)); left = h.1 }),
    )
