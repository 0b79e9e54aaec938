-- Spent hands start nothing: a list that holds every message of even hands is lawful up to every later moment.
use Rattle.std.proofs.Common.{arith, ◌≡◌, inl, inr, ℕ, zero, suc, pred, ◌+◌, ◌*◌, ◌<◌, ◌≤◌, Bool, true, false, cond, ◌&&◌, ◌==◌, List, [], ◌∷◌, length, Some, None, refl, sym, ap, subst, ◌∙◌, nat_lt, eqb-true, eq-eqb}
use Rattle.std.specs.Prelude.{slice_get, IsTrue}
use Rattle.std.specs.List.{filter, list_all}
use Rattle.std.proofs.lemmas.Bool.{and_parts, cases_lt, lt-ltb}
use Rattle.std.proofs.lemmas.Option.{slice_get_within}
use Rattle.bus_strings.specs.Members.{In}
use Rattle.bus_strings.specs.Messages.{Entry}
use Rattle.bus_strings.proofs.MemberLaws.{in_at, filter_same}
use Rattle.bus_table.specs.Hands.{are_hands}
use Rattle.bus_table.specs.Tables.{Sender, Table, Hand}
use Rattle.bus_table.specs.Turns.{turn_key, turn_order}
use Rattle.bus_table.proofs.TurnLaws.{in_sort}
use Rattle.bus_medium.specs.Lawful.{Station}
use Rattle.bus_medium.specs.Past.{own}
use Rattle.bus_medium.proofs.StationLaws.{HasSender, stations_are_of_senders}
use Rattle.bus_schedule.specs.Even.{are_even, rounds}
use Rattle.bus_schedule.specs.Runs.{IsInTurns, HasTurn}
use Rattle.bus_schedule.proofs.CableRuns.{all_in}
use Rattle.bus_schedule.proofs.Places.{more_turns}
use Rattle.bus_cable.specs.OrderLaws.{SpentHandsAreSilent}

-- an entry at this place of the list that passes the test
record PassesAt (p : Entry → Bool) (list : List Entry) (place : ℕ) : Type 0 where
  entry : Entry
  at : slice_get list place ≡ Some entry
  passes : p entry ≡ true

-- where one of each k + 1 entries passes, from place j on, n times, n pass
many : (p : Entry → Bool) (k : ℕ) (list : List Entry) (j n : ℕ) → ((r : ℕ) → r < n → PassesAt p list (r * suc k + j))
    → n ≤ length (filter p list)
many p k list j zero each = omega arith
many p k [] j (suc n) each = let first : PassesAt p [] (0 * suc k + j) = each 0 (omega arith) in
    absurd (let none : None ≡ Some first.entry = first.at in cc)
many p k (x ∷ list) zero (suc n) each =
    let first : PassesAt p (x ∷ list) (0 * suc k + 0) = each 0 (omega arith) in
    let place : 0 * suc k + 0 ≡ 0 = omega arith in
    let same : Some x ≡ Some first.entry = sym (ap (slice_get (x ∷ list)) place) ∙ first.at in
    let is : x ≡ first.entry = cc in
    let next : (r : ℕ) → suc r * suc k + 0 ≡ suc (r * suc k + k) = λ r. let more : suc r * suc k ≡ r * suc k + suc k = more_turns r (suc k) in omega arith in
    let rest : n ≤ length (filter p list) = many p k list k n
    (λ r less. let e : PassesAt p (x ∷ list) (suc r * suc k + 0) = each (suc r) (omega (arith, less)) in
    record { entry = e.entry; at = sym (ap (slice_get (x ∷ list)) (next r)) ∙ e.at; passes = e.passes }) in
    subst (λ b. suc n ≤ length (cond b (x ∷ filter p list) (filter p list))) (sym (ap p is ∙ first.passes)) (omega (arith, rest))
many p k (x ∷ list) (suc j) (suc n) each =
    let next : (r : ℕ) → r * suc k + suc j ≡ suc (r * suc k + j) = λ r. omega arith in
    let rest : suc n ≤ length (filter p list) = many p k list j (suc n)
    (λ r less. let e : PassesAt p (x ∷ list) (r * suc k + suc j) = each r less in
    record { entry = e.entry; at = sym (ap (slice_get (x ∷ list)) (next r)) ∙ e.at; passes = e.passes }) in
    elim (p x) as (λ b. suc n ≤ length (cond b (x ∷ filter p list) (filter p list))) [ true ↦ omega (arith, rest) | false ↦ rest ]

and_right : (a b : Bool) → b ≡ true → (a && b) ≡ a
and_right true b h = h
and_right false b h = refl

-- the transmissions of a terminal, whenever they start
abbrev of_terminal : ℕ → Entry → Bool
of_terminal number x = x.terminal == number

-- a sender has as many in a list in turns as there are rounds
as_many : (table : Table) (hands : List Hand) (list : List Entry) (sender : Sender) → IsInTurns table hands list → In sender table.senders
    → rounds hands ≤ length (filter (of_terminal sender.number) list)
as_many table hands list sender turns there =
    let place = in_at table.senders sender there in
    let some : place.0 < length table.senders = slice_get_within table.senders place.0 sender place.1 in
    let long : length table.senders ≡ suc (pred (length table.senders)) = omega (arith, some) in
    let turn = in_at (turn_order table) sender (in_sort (turn_key table.mode) table.senders sender there) in
    many (of_terminal sender.number) (pred (length table.senders)) list turn.0 (rounds hands)
    (λ r less. let t : HasTurn hands list (r * length table.senders + turn.0) r sender = turns.turn r turn.0 sender less turn.1 in
    record {
      entry = t.entry;
      at = sym (ap (λ m. slice_get list (r * m + turn.0)) long) ∙ t.at;
      passes = eq-eqb t.entry.terminal sender.number t.terminal;
    })

-- the hand of each station has as many messages
hand_rounds : (table : Table) (hands : List Hand) (station : Station) → IsTrue (are_even table hands) → HasSender table hands station
    → length station.hand ≡ rounds hands
hand_rounds table hands station even has =
    let parts = and_parts (are_hands table.senders hands) (list_all (λ hand. length hand.messages == rounds hands) hands) even in
    ap length has.is.messages
    ∙ eqb-true (length has.is.hand.messages) (rounds hands) (all_in (λ (hand : Hand). length hand.messages == rounds hands) hands has.is.hand parts.1 has.is.dealt)

pub spent_hands_are_silent : SpentHandsAreSilent
spent_hands_are_silent table hands delay wake until horizon list valid even lawful turns behind = record {
  ordered = lawful.ordered;
  sent = λ x i. let s = lawful.sent x i in ((let m : x.moment < until = s.0 in omega (arith, m, behind)), s.1);
  exact = λ t station less there. elim (cases_lt t until) [
    | inl early ↦ lawful.exact t station early there
    | inr late ↦
        let has : HasSender table hands station = stations_are_of_senders table hands station valid (and_parts (are_hands table.senders hands) _ even).0 there in
        let begun : (x : Entry) → In x list → (x.terminal == station.number && nat_lt x.moment t) ≡ (x.terminal == station.number) =
        λ x i. let m : x.moment < until = (lawful.sent x i).0 in
        and_right (x.terminal == station.number) (nat_lt x.moment t) (lt-ltb x.moment t (omega (arith, m, late))) in
        let all : own list station.number t ≡ filter (of_terminal station.number) list = filter_same (λ x. x.terminal == station.number && nat_lt x.moment t) (of_terminal station.number) list begun in
        let whole : rounds hands ≤ length (filter (of_terminal station.number) list) =
        subst (λ n. rounds hands ≤ length (filter (of_terminal n) list)) (sym has.is.number) (as_many table hands list has.sender turns has.there) in
        let hand : length station.hand ≡ rounds hands = hand_rounds table hands station even has in
        let sent : length (own list station.number t) ≡ length (filter (of_terminal station.number) list) = ap length all in (
          (λ e. let m : e.entry.moment < until = (lawful.sent e.entry e.there).0 in let at : e.entry.moment ≡ t = e.moment in absurd (omega (arith, m, at, late))),
          (λ d. let left : length (own list station.number t) < length station.hand = d.left in absurd (omega (arith, left, sent, hand, whole))),
        )
  ];
}
