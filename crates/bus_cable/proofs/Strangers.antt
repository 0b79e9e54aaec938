-- Strangers count for nothing: with delays and wakes that agree on a table the senders do the same, and its terminals hear the same of it.
use Rattle.std.proofs.Common.{◌≡◌, inl, inr, ℕ, List, [], ◌∷◌, ◌++◌, map, refl, sym, ap, subst, ◌∙◌, codes, decimal}
use Rattle.std.specs.Prelude.{IsTrue}
use Rattle.std.specs.List.{filter, zip, flat_map}
use Rattle.bus_timers.specs.MayStart.{MayStart}
use Rattle.bus_strings.specs.Members.{In}
use Rattle.bus_strings.specs.Messages.{Entry}
use Rattle.bus_strings.specs.Transmissions.{marks}
use Rattle.bus_strings.proofs.MemberLaws.{in_append_left, in_map, map_same}
use Rattle.bus_table.specs.Hands.{are_hands}
use Rattle.bus_table.specs.Tables.{Sender, Listener, Table, Hand, sender_numbers}
use Rattle.bus_table.specs.Valid.{is_valid}
use Rattle.bus_medium.specs.CableLawful.{IsDueOnCable, IsLawfulOnCable}
use Rattle.bus_medium.specs.Delays.{Delays, cable, distance, later, heard}
use Rattle.bus_medium.specs.Lawful.{Station}
use Rattle.bus_medium.specs.Past.{own}
use Rattle.bus_medium.specs.Timings.{quiet_of, stations_of}
use Rattle.bus_medium.specs.Wakes.{Wakes, woken_past, woken_place}
use Rattle.bus_medium.proofs.StationLaws.{HasSender, are_of_senders, stations_are_of_senders}
use Rattle.bus_cable.specs.Hearing.{in_order, hearing, hearings, is_of_another}
use Rattle.bus_cable.specs.HeardTexts.{terminals, terminal_text, hearing_line}
use Rattle.bus_cable.specs.OrderLaws.{StrangersSendNothing, StrangersHearNothing, StrangersAreUnwritten}

-- two delays agree where a terminal of the table hears a sender of it
abbrev pub Agree : Table → Delays → Delays → Type 0
Agree table delay other = (x : Entry) (number : ℕ) → In x.terminal (sender_numbers table) → In number (terminals table) → delay x number ≡ other x number

-- each transmission of the list is of a sender of the table
abbrev pub AreOf : Table → List Entry → Type 0
AreOf table list = (x : Entry) → In x list → In x.terminal (sender_numbers table)

pub sender_sends : (table : Table) (sender : Sender) → In sender table.senders → In sender.number (sender_numbers table)
sender_sends table sender there = in_map (λ (s : Sender). s.number) table.senders sender there

pub to_terminal : (table : Table) (number : ℕ) → In number (sender_numbers table) → In number (terminals table)
to_terminal table number there = in_append_left (sender_numbers table) (map (λ (l : Listener). l.number) table.listeners) number there

pub sender_there : (table : Table) (sender : Sender) → In sender table.senders → In sender.number (terminals table)
sender_there table sender there = to_terminal table sender.number (sender_sends table sender there)

pub station_there : (table : Table) (hands : List Hand) (station : Station) → HasSender table hands station → In station.number (terminals table)
station_there table hands station has = subst (λ n. In n (terminals table)) (sym has.is.number) (sender_there table has.sender has.there)

pub heard_alike : (table : Table) (delay other : Delays) (list : List Entry) (number : ℕ) → Agree table delay other → AreOf table list → In number (terminals table)
    → heard delay number list ≡ heard other number list
heard_alike table delay other list number agree of there =
    map_same (λ x. later (delay x number) x) (λ x. later (other x number) x) list (λ x i. ap (λ bits. later bits x) (agree x number (of x i) there))

due_alike : (quiet : ℕ) (delay other : Delays) (wake other_wake : Wakes) (list : List Entry) (s : Station) (t : ℕ)
    → heard delay s.number list ≡ heard other s.number list → wake s.number ≡ other_wake s.number
    → IsDueOnCable quiet delay wake list s t → IsDueOnCable quiet other other_wake list s t
due_alike quiet delay other wake other_wake list s t hears wakes due = record {
  may = subst (λ w. MayStart s.timing (woken_past quiet w (heard other s.number list) t) (woken_place quiet w (own list s.number t))) wakes
      (subst (λ l. MayStart s.timing (woken_past quiet (wake s.number) l t) (woken_place quiet (wake s.number) (own list s.number t))) hears due.may);
  left = due.left;
}

-- with delays and wakes that agree what is lawful is the same
pub lawful_alike : (table : Table) (hands : List Hand) (delay other : Delays) (wake other_wake : Wakes) (horizon : ℕ) (list : List Entry)
    → IsTrue (is_valid table) → IsTrue (are_hands table.senders hands) → Agree table delay other
    → ((sender : Sender) → In sender table.senders → wake sender.number ≡ other_wake sender.number)
    → IsLawfulOnCable (quiet_of table) delay wake (stations_of table hands) horizon list
    → IsLawfulOnCable (quiet_of table) other other_wake (stations_of table hands) horizon list
lawful_alike table hands delay other wake other_wake horizon list valid dealt agree wakes lawful = record {
  ordered = lawful.ordered;
  sent = lawful.sent;
  exact = λ t s less there.
      let has : HasSender table hands s = stations_are_of_senders table hands s valid dealt there in
      let of : AreOf table list = are_of_senders (IsDueOnCable (quiet_of table) delay wake) table hands horizon list valid dealt lawful in
      let hears : heard delay s.number list ≡ heard other s.number list = heard_alike table delay other list s.number agree of (station_there table hands s has) in
      let woken : wake s.number ≡ other_wake s.number = ap wake has.is.number ∙ wakes has.sender has.there ∙ sym (ap other_wake has.is.number) in (
        (λ e. due_alike (quiet_of table) delay other wake other_wake list s t hears woken ((lawful.exact t s less there).0 e)),
        (λ d. (lawful.exact t s less there).1 (due_alike (quiet_of table) other delay other_wake wake list s t (sym hears) (sym woken) d)),
      );
}

-- ---- layouts
pub cables_agree : (table : Table) (place other_place : ℕ → ℕ) → ((number : ℕ) → In number (terminals table) → place number ≡ other_place number)
    → Agree table (cable place) (cable other_place)
cables_agree table place other_place places x number from to =
    ap (λ a. distance a (place number)) (places x.terminal (to_terminal table x.terminal from)) ∙ ap (distance (other_place x.terminal)) (places number to)

pub strangers_send_nothing : StrangersSendNothing
strangers_send_nothing table hands place other_place wake other_wake horizon list valid dealt alike = (
  (λ lawful. lawful_alike table hands (cable place) (cable other_place) wake other_wake horizon list valid dealt (cables_agree table place other_place alike.places) alike.wakes lawful),
  (λ lawful. lawful_alike table hands (cable other_place) (cable place) other_wake wake horizon list valid dealt
      (cables_agree table other_place place (λ n i. sym (alike.places n i))) (λ s i. sym (alike.wakes s i)) lawful),
)

-- what is heard alike is marked alike
hearings_alike : (delay other : Delays) (list : List Entry) (number : ℕ) → heard delay number list ≡ heard other number list
    → hearings delay list number ≡ hearings other list number
unfolding hearing
hearings_alike delay other list number same = ap (λ l. filter (is_of_another number) (zip (in_order l) (marks (in_order l)))) same

pub strangers_hear_nothing : StrangersHearNothing
strangers_hear_nothing table hands place other_place wake other_wake horizon list number valid dealt alike lawful there =
    hearings_alike (cable place) (cable other_place) list number
    (heard_alike table (cable place) (cable other_place) list number (cables_agree table place other_place alike.places)
    (are_of_senders (IsDueOnCable (quiet_of table) (cable place) wake) table hands horizon list valid dealt lawful) there)

flat_map-alike : {X A : Type 0} (f g : X → List A) (xs : List X) → ((x : X) → In x xs → f x ≡ g x) → flat_map f xs ≡ flat_map g xs
flat_map-alike f g [] same = refl
flat_map-alike f g (x ∷ xs) same = ap (λ l. l ++ flat_map f xs) (same x (inl refl)) ∙ ap (λ l. g x ++ l) (flat_map-alike f g xs (λ y i. same y (inr i)))

pub strangers_are_unwritten : StrangersAreUnwritten
strangers_are_unwritten table hands place other_place wake other_wake horizon list valid dealt alike lawful =
    ap (λ l. codes "HEARD 1\n" ++ l ++ codes "END\n")
    (flat_map-alike (terminal_text (cable place) list) (terminal_text (cable other_place) list) (terminals table)
    (λ number there. ap (λ h. codes "TERMINAL " ++ decimal number ++ codes "\n" ++ flat_map hearing_line h)
    (strangers_hear_nothing table hands place other_place wake other_wake horizon list number valid dealt alike lawful there)))
