-- What senders send by their timers is never doubled.
use Rattle.std.proofs.Common.{◌≡◌, ℕ, zero, suc, ◌+◌, ◌<◌, Bool, true, false, cond, eqb, ltb, List, [], ◌∷◌, length, take, Some, None}
use Rattle.std.proofs.Common.{inl, inr, arith, sym, refl, ap, ◌∙◌}
use Rattle.std.specs.Prelude.{IsTrue, slice_get}
use Rattle.std.specs.List.{find, list_any, range_with_len}
use Rattle.std.specs.Option.{option_map_or}
use Rattle.std.proofs.lemmas.Bool.{cases_Bool, and_parts, eqb-true, ltb-true}
use Rattle.bus_strings.specs.Members.{In}
use Rattle.bus_strings.proofs.MemberLaws.{of_each, at_in, none_any}
use Rattle.bus_strings.specs.Messages.{Message, Entry, bits}
use Rattle.bus_strings.specs.Transmissions.{IsAscending, Precedes, end_of}
use Rattle.bus_table.specs.Hands.{are_hands}
use Rattle.bus_table.specs.Tables.{Table, Hand}
use Rattle.bus_table.specs.Valid.{is_valid}
use Rattle.bus_medium.proofs.BusyLaws.{busy_nobody, entry_is_busy}
use Rattle.bus_medium.specs.Lawful.{IsLawful}
use Rattle.bus_medium.specs.Past.{last_place, own}
use Rattle.bus_medium.proofs.StationLaws.{stations_are_of_senders}
use Rattle.bus_medium.specs.Timings.{quiet_of, stations_of}
use Rattle.bus_dump.specs.Doubled.{doubled, is_doubled, runs_into}
use Rattle.bus_dump.proofs.LiveLemmas.{absent, present, at_place}

find_none : (p : ℕ → Bool) (a n : ℕ) → ((k : ℕ) → p k ≡ false) → find p (range_with_len a n) ≡ None
find_none p a zero h = refl
find_none p a (suc n) h = ap (λ b. cond b (Some a) (find p (range_with_len (a + 1) n))) (h a) ∙ find_none p (a + 1) n h

some_string : (m : Message) → 0 < bits m → 0 < length m
some_string [] h = absurd (omega arith)
some_string (s ∷ m) h = omega arith

-- an entry that stands before another one precedes it
pub precedes : (list : List Entry) (k : ℕ) (x y : Entry) → IsAscending list → In x (take k list) → slice_get list k ≡ Some y → Precedes x y
precedes [] k x y o i e = absurd (let w : None ≡ Some y = e in cc)
precedes (z ∷ list) zero x y o i e = absurd i
precedes (z ∷ list) (suc k) x y o (inl same) e = rw same (of_each (Precedes z) list o.0 y (at_in list k y e))
precedes (z ∷ list) (suc k) x y o (inr i) e = precedes list k x y o.1 i e

in_front : (list : List Entry) (k : ℕ) (x : Entry) → In x (take k list) → In x list
in_front [] zero x i = absurd i
in_front [] (suc k) x i = absurd i
in_front (z ∷ list) zero x i = absurd i
in_front (z ∷ list) (suc k) x (inl same) = inl same
in_front (z ∷ list) (suc k) x (inr i) = inr (in_front list k x i)

-- a list is single where no entry runs into a later one
pub single_by : (list : List Entry)
    → ((k : ℕ) (x y : Entry) → In x (take k list) → slice_get list k ≡ Some y → runs_into y x ≡ true → ⊥) → doubled list ≡ None
single_by list none = find_none (is_doubled list) 0 (length list) (λ k. elim (at_place list k) [
  | absent e ↦ ap (λ o. option_map_or (λ (y : Entry). list_any (runs_into y) (take k list)) o false) e
  | present y e ↦
      ap (λ o. option_map_or (λ (y : Entry). list_any (runs_into y) (take k list)) o false) e
      ∙ none_any (runs_into y) (take k list) (λ x i. elim (cases_Bool (runs_into y x)) [
        | inl yes' ↦ absurd (none k x y i e yes')
        | inr no' ↦ no'
      ])
])

pub lawful_single : (table : Table) (hands : List Hand) (horizon : ℕ) (list : List Entry) → IsTrue (is_valid table) → IsTrue (are_hands table.senders hands)
    → IsLawful (quiet_of table) (stations_of table hands) horizon list → doubled list ≡ None
lawful_single table hands horizon list valid dealt lawful =
    single_by list (λ k x y i e into. apart x y (in_front list k x i) (at_in list k y e) (precedes list k x y lawful.ordered i e) into)
  where
    apart : (x y : Entry) → In x list → In y list → Precedes x y → runs_into y x ≡ true → ⊥
    apart x y x_in y_in (inr beside) into =
        let p = and_parts (eqb x.terminal y.terminal) (ltb y.moment (end_of x)) into in
        let same : x.terminal ≡ y.terminal = eqb-true x.terminal y.terminal p.0 in
        let less : x.terminal < y.terminal = beside.1 in
        omega arith
    apart x y x_in y_in (inl before) into =
        let p = and_parts (eqb x.terminal y.terminal) (ltb y.moment (end_of x)) into in
        let within : y.moment < end_of x = ltb-true y.moment (end_of x) p.1 in
        let sent = lawful.sent y y_in in
        let next = sent.1 in
        let due = (lawful.exact y.moment next.sender sent.0 next.there).0 (record { entry = y; there = y_in; moment = refl; terminal = sym next.number }) in
        let sound = (stations_are_of_senders table hands next.sender valid dealt next.there).is.sound in
        busy_nobody (quiet_of table) list next.sender.timing (last_place (quiet_of table) (own list next.sender.number y.moment)) x.moment (end_of x) y.moment sound
        (entry_is_busy list x x_in (some_string x.message (omega arith))) before within due.may
