-- Senders take their seats.
use Rattle.std.proofs.Common.{◌≡◌, ℕ, zero, suc, ◌+◌, ◌^◌, ◌≤◌, true, false, ◌&&◌, List, [], ◌∷◌, ◌++◌, length, drop, map, replicate, Some, None, arith, sym, refl, ap, ◌∙◌, subst, eqb, eqb-true, append_assoc}
use Rattle.std.specs.Prelude.{slice_get, zip}
use Rattle.std.specs.List.{list_all, AllByRecursion}
use Rattle.std.proofs.lemmas.Bool.{and_parts, true≢false}
use Rattle.std.proofs.lemmas.List.{length_push, append-nil, map-append}
use Rattle.bus_timers.specs.declared.timing.Timing.{Timing}
use Rattle.bus_timers.specs.declared.cores.Core.{Ghosts}
use Rattle.bus_strings.proofs.ListLaws.{all_push}
use Rattle.bus_table.specs.Tables.{Sender, Table, Hand}
use Rattle.bus_table.specs.Fits.{fits}
use Rattle.bus_table.specs.Hands.{are_hands}
use Rattle.bus_medium.specs.Timings.{quiet_of, timing_of, stations_of}
use Rattle.bus_medium.specs.Lawful.{Station}
use Rattle.bus_medium.specs.Buses.{Seat, station_of, number_of, StandsAt}
use Rattle.bus_medium.specs.inside.Seating.{Seated, IsSeated}
use Rattle.bus_strings.proofs.MemberLaws.{at_in, of_each}

-- the station of a sender with its hand
abbrev pub station_with : Table → Sender → Hand → Station
station_with table sender hand = record { number = hand.terminal; timing = timing_of table sender; hand = hand.messages }

-- the senders from place k on, and the hands that are left
pub record IsSeating {C : Type 0} (core : Ghosts C) (table : Table) (hands : List Hand) (seats : List (Seat C)) (left : List Hand) : Type 0 where
  pub fit : are_hands (drop (length seats) table.senders) left ≡ true
  pub made : map station_of seats ++ map (λ p. station_with table p.0 p.1) (zip (drop (length seats) table.senders) left) ≡ stations_of table hands
  pub seated : AllByRecursion (IsSeated core table) seats

pub none_seated : {C : Type 0} (core : Ghosts C) (table : Table) (hands : List Hand) → are_hands table.senders hands ≡ true → IsSeating core table hands [] hands
none_seated core table hands h = record { fit = h; made = refl; seated = tt }

-- the next hand is that of the next sender
pub record NextHand (senders : List Sender) (k : ℕ) (hand : Hand) (left : List Hand) : Type 0 where
  pub sender : Sender
  pub at : slice_get senders k ≡ Some sender
  pub number : hand.terminal ≡ sender.number
  pub behind : drop k senders ≡ sender ∷ drop (k + 1) senders
  pub fit : are_hands (drop (k + 1) senders) left ≡ true

pub next_hand : (senders : List Sender) (k : ℕ) (hand : Hand) (left : List Hand) → are_hands (drop k senders) (hand ∷ left) ≡ true → NextHand senders k hand left
next_hand [] zero hand left h = absurd (true≢false (sym h))
next_hand [] (suc k) hand left h = absurd (true≢false (sym h))
next_hand (s ∷ senders) zero hand left h =
    let one = and_parts (eqb hand.terminal s.number) (list_all (fits s) hand.messages && are_hands senders left) h in
    let two = and_parts (list_all (fits s) hand.messages) (are_hands senders left) one.1 in
    record { sender = s; at = refl; number = eqb-true hand.terminal s.number one.0; behind = refl; fit = two.1 }
next_hand (s ∷ senders) (suc k) hand left h =
    let n = next_hand senders k hand left h in
    let e : suc k + 1 ≡ suc (k + 1) = omega arith in
    record {
      sender = n.sender;
      at = n.at;
      number = n.number;
      behind = n.behind ∙ ap (λ i. n.sender ∷ drop i (s ∷ senders)) (sym e);
      fit = ap (λ i. are_hands (drop i (s ∷ senders)) left) e ∙ n.fit;
    }

pub one_seated : {C : Type 0} (core : Ghosts C) (table : Table) (hands : List Hand) (seats : List (Seat C)) (hand : Hand) (left : List Hand) (seat : Seat C) → IsSeating core table hands seats (hand ∷ left)
    → ((sender : Sender) → slice_get table.senders (length seats) ≡ Some sender → Seated core table sender hand seat) → IsSeating core table hands (seats ++ seat ∷ []) left
one_seated core table hands seats hand left seat so made =
    let n : NextHand table.senders (length seats) hand left = next_hand table.senders (length seats) hand left so.fit in
    let s : Seated core table n.sender hand seat = made n.sender n.at in
    let long : length (seats ++ seat ∷ []) ≡ length seats + 1 = length_push seats seat in
    let station : station_of seat ≡ station_with table n.sender hand =
    ap (λ (h : Hand). record { number = h.terminal; timing = seat.timing; hand = h.messages }) s.hand ∙ ap (λ t. record { number = hand.terminal; timing = t; hand = hand.messages }) s.timing in
    let f = λ (p : Sender × Hand). station_with table p.0 p.1 in
    record {
      fit = ap (λ k. are_hands (drop k table.senders) left) long ∙ n.fit;
      made =
          ap (λ k. map station_of (seats ++ seat ∷ []) ++ map f (zip (drop k table.senders) left)) long
          ∙ ap (λ ss. ss ++ map f (zip (drop (length seats + 1) table.senders) left)) (map-append station_of seats (seat ∷ []))
          ∙ append_assoc (map station_of seats) (station_of seat ∷ []) (map f (zip (drop (length seats + 1) table.senders) left))
          ∙ ap (λ x. map station_of seats ++ x ∷ map f (zip (drop (length seats + 1) table.senders) left)) station
          ∙ ap (λ ss. map station_of seats ++ map f (zip ss (hand ∷ left))) (sym n.behind)
          ∙ so.made;
      seated = all_push (IsSeated core table) seats seat so.seated (record { sender = n.sender; there = at_in table.senders (length seats) n.sender n.at; messages = hand; number = n.number; seated = s });
    }

pub zip_none : (table : Table) (senders : List Sender) → map (λ p. station_with table p.0 p.1) (zip senders []) ≡ []
zip_none table [] = refl
zip_none table (s ∷ senders) = refl

-- with no hand left every sender sits
pub all_seated : {C : Type 0} (core : Ghosts C) (table : Table) (hands : List Hand) (seats : List (Seat C)) → IsSeating core table hands seats [] → map station_of seats ≡ stations_of table hands
all_seated core table hands seats so = sym (ap (λ ss. map station_of seats ++ ss) (zip_none table (drop (length seats) table.senders)) ∙ append-nil (map station_of seats)) ∙ so.made

-- the numbers of the senders that sit are those of the table
pub stations_numbers : (table : Table) (senders : List Sender) (hands : List Hand) → are_hands senders hands ≡ true → map (λ s. s.number) (map (λ p. station_with table p.0 p.1) (zip senders hands)) ≡ map (λ s. s.number) senders
stations_numbers table [] [] h = refl
stations_numbers table [] (hand ∷ hands) h = absurd (true≢false (sym h))
stations_numbers table (s ∷ senders) [] h = absurd (true≢false (sym h))
stations_numbers table (s ∷ senders) (hand ∷ hands) h =
    let one = and_parts (eqb hand.terminal s.number) (list_all (fits s) hand.messages && are_hands senders hands) h in
    let two = and_parts (list_all (fits s) hand.messages) (are_hands senders hands) one.1 in
    ap (λ n. n ∷ map (λ (r : Station). r.number) (map (λ p. station_with table p.0 p.1) (zip senders hands))) (eqb-true hand.terminal s.number one.0) ∙ ap (λ ns. s.number ∷ ns) (stations_numbers table senders hands two.1)

map_numbers : {C : Type 0} (seats : List (Seat C)) → map number_of seats ≡ map (λ s. s.number) (map station_of seats)
map_numbers [] = refl
map_numbers (x ∷ seats) = ap (λ ns. number_of x ∷ ns) (map_numbers seats)

pub seats_numbers : {C : Type 0} (table : Table) (hands : List Hand) (seats : List (Seat C)) → are_hands table.senders hands ≡ true → map station_of seats ≡ stations_of table hands → map number_of seats ≡ map (λ s. s.number) table.senders
seats_numbers table hands seats h e = map_numbers seats ∙ ap (map (λ (s : Station). s.number)) e ∙ stations_numbers table table.senders hands h

-- senders that sit stand at the settled start
pub seated_stands : {C : Type 0} (core : Ghosts C) (table : Table) (seats : List (Seat C)) → AllByRecursion (IsSeated core table) seats → StandsAt core (record { quiet = quiet_of table; seats = seats }) [] 0
seated_stands core table seats a seat there =
    let w : IsSeated core table seat = of_each (IsSeated core table) seats a seat there in
    let s : Seated core table w.sender w.messages seat = w.seated in
    let quiet : seat.timing.quiet ≡ quiet_of table = ap (λ (t : Timing). t.quiet) s.timing in
    let room : 2 ^ 62 ≤ core.room seat.terminal.core = s.room in
    record {
      sound = s.sound;
      stands = subst (λ n. core.stands seat.terminal.core seat.timing (replicate n false) None) quiet s.stands;
      room = omega arith;
      sent = s.sent;
      running = s.running;
    }

pub seated_moves : {C : Type 0} (core : Ghosts C) (table : Table) (seats : List (Seat C)) → AllByRecursion (IsSeated core table) seats → AllByRecursion (λ seat. core.moves seat.terminal.core ≡ 0) seats
seated_moves core table [] a = tt
seated_moves core table (seat ∷ seats) a = (a.0.seated.moves, seated_moves core table seats a.1)
