-- Turn order by places, and a round of turns one by one.
use Rattle.std.proofs.Common.{◌≡◌, ℕ, zero, suc, ◌+◌, ◌<◌, ◌≤◌, List, [], ◌∷◌, ◌++◌, length, map, take, drop, get_or, Option, Some, arith, sym, refl, ap, ◌∙◌, append_assoc, append-nil}
use Rattle.std.specs.Prelude.{slice_get}
use Rattle.std.proofs.lemmas.List.{drop_all, take_all, take_more, length-map, map-append}
use Rattle.std.proofs.lemmas.Option.{slice_get_within, get_or_from_slice_get}
use Rattle.bus_strings.specs.Messages.{Message, Entry, bits}
use Rattle.bus_strings.specs.Transmissions.{end_of}
use Rattle.bus_table.specs.Tables.{Sender, Table}
use Rattle.bus_table.specs.Turns.{turn_key, turn_order}
use Rattle.bus_table.proofs.TurnLaws.{length-sort}
use Rattle.bus_schedule.specs.inside.Places.{AreInTurn}
use Rattle.bus_regime.proofs.GapPlaces.{in_order}
use Rattle.bus_schedule.specs.Closed.{sends, turns, turns_end}
use Rattle.bus_schedule.proofs.EndLemmas.{turns_last}
use Rattle.bus_schedule.proofs.EvenLemmas.{read_sender}

-- what stands at a place of two lists that say the same
record Told {X Y : Type 0} (f : X → Option Y) (xs : List X) (ys : List Y) (i : ℕ) (d : X) : Type 0 where
  value : Y
  at : f (get_or xs i d) ≡ Some value
  behind : drop i ys ≡ value ∷ drop (i + 1) ys

told : {X Y : Type 0} (f : X → Option Y) (xs : List X) (ys : List Y) (i : ℕ) (d : X) → map f xs ≡ map Some ys → i < length xs → Told f xs ys i d
told f [] ys i d e less = absurd (omega arith)
told f (x ∷ xs) [] i d e less = absurd cc
told f (x ∷ xs) (y ∷ ys) zero d e less = record { value = y; at = (cc); behind = refl }
told {X} {Y} f (x ∷ xs) (y ∷ ys) (suc i) d e less =
    let rest : map f xs ≡ map Some ys = cc in
    let so : Told f xs ys i d = told f xs ys i d rest (omega arith) in
    let one : suc i + 1 ≡ suc (i + 1) = omega arith in
    record { value = so.value; at = so.at; behind = so.behind ∙ ap (λ n. so.value ∷ drop n (y ∷ ys)) (sym one) }

-- the sender whose turn comes next
pub place_within : (table : Table) (places : List ℕ) (i : ℕ) → AreInTurn table places → i < length places → get_or places i 0 < length table.senders
place_within table places i h less =
    let so : Told (slice_get table.senders) places (turn_order table) i 0 = told (slice_get table.senders) places (turn_order table) i 0 h less in
    slice_get_within table.senders (get_or places i 0) so.value so.at

pub turn_sender : (table : Table) (senders : List Sender) (places : List ℕ) (i : ℕ) (sender : Sender) → senders ≡ table.senders
    → AreInTurn table places → i < length places → sender ≡ get_or senders (get_or places i 0) sender
    → slice_get table.senders (get_or places i 0) ≡ Some sender
turn_sender table senders places i sender same h less is =
    let inside : get_or places i 0 < length table.senders = place_within table places i h less in
    read_sender table senders (get_or places i 0) sender same (omega (arith, ap length same)) is

pub turn_behind : (table : Table) (places : List ℕ) (i : ℕ) (sender : Sender) → AreInTurn table places → i < length places
    → slice_get table.senders (get_or places i 0) ≡ Some sender
    → drop i (turn_order table) ≡ sender ∷ drop (i + 1) (turn_order table)
turn_behind table places i sender h less at =
    let so : Told (slice_get table.senders) places (turn_order table) i 0 = told (slice_get table.senders) places (turn_order table) i 0 h less in
    let both : Some so.value ≡ Some sender = sym so.at ∙ at in
    let same : so.value ≡ sender = cc in
    so.behind ∙ ap (λ s. s ∷ drop (i + 1) (turn_order table)) same

-- with the turns that are left, a list becomes the whole that ends at `last`
pub record Leads (hands : ℕ → List Message) (round : ℕ) (left : List Sender) (from last : ℕ) (list whole : List Entry) : Type 0 where
  pub turns : list ++ turns hands round left from ≡ whole
  pub end : turns_end hands round left from ≡ last

-- and so it does with one turn more, and one less that is left
pub turn_more : (hands : ℕ → List Message) (round : ℕ) (left rest : List Sender) (from last : ℕ) (list whole : List Entry) (sender : Sender) (message : Message) (list' : List Entry) (moment from' : ℕ)
    → Leads hands round left from last list whole → left ≡ sender ∷ rest → message ≡ get_or (hands sender.number) round [] → moment ≡ from + sender.tg
    → list' ≡ list ++ record { moment = moment; terminal = sender.number; message = message } ∷ []
    → from' ≡ moment + bits message → Leads hands round rest from' last list' whole
turn_more hands round left rest from last list whole sender message list' moment from' so left_is message_is moment_is list_is from_is =
    let due = get_or (hands sender.number) round [] in
    let now : Entry = record { moment = from + sender.tg; terminal = sender.number; message = due } in
    let added : list' ≡ list ++ now ∷ [] = list_is ∙ ap (λ (m : Message). list ++ record { moment = moment; terminal = sender.number; message = m } ∷ []) message_is
    ∙ ap (λ n. list ++ record { moment = n; terminal = sender.number; message = get_or (hands sender.number) round [] } ∷ []) moment_is in
    let ended : from' ≡ from + sender.tg + bits due = from_is ∙ ap (λ (m : Message). moment + bits m) message_is ∙ ap (λ n. n + bits (get_or (hands sender.number) round [])) moment_is in
    record {
      turns = ap (λ (l : List Entry). l ++ turns hands round rest from') added ∙ ap (λ n. (list ++ now ∷ []) ++ turns hands round rest n) ended ∙ append_assoc list (now ∷ []) (turns hands round rest (from + sender.tg + bits due))
          ∙ ap (λ ss. list ++ turns hands round ss from) (sym left_is) ∙ so.turns;
      end = ap (turns_end hands round rest) ended ∙ ap (λ ss. turns_end hands round ss from) (sym left_is) ∙ so.end;
    }

-- the next turn starts no later than the last of them ends
pub turn_within : (hands : ℕ → List Message) (round : ℕ) (left rest : List Sender) (from last : ℕ) (list whole : List Entry) (sender : Sender)
    → Leads hands round left from last list whole → left ≡ sender ∷ rest → from + sender.tg ≤ last
turn_within hands round left rest from last list whole sender so left_is =
    let x : Entry = sends hands round sender (from + sender.tg) in
    let end : turns_end hands round rest (end_of x) ≡ last = ap (λ ss. turns_end hands round ss from) (sym left_is) ∙ so.end in
    omega (arith, turns_last hands round rest (end_of x))

-- where none is left, it is the whole
pub none_left : (hands : ℕ → List Message) (round i : ℕ) (order : List Sender) (from last : ℕ) (list whole : List Entry) → length order ≤ i
    → Leads hands round (drop i order) from last list whole → (list ≡ whole) × (from ≡ last)
none_left hands round i order from last list whole all so =
    let none : drop i order ≡ [] = drop_all i order all in
    (sym (append-nil list) ∙ ap (λ ss. list ++ turns hands round ss from) (sym none) ∙ so.turns, ap (λ ss. turns_end hands round ss from) (sym none) ∙ so.end)

pub as_long : (table : Table) (places : List ℕ) → AreInTurn table places → length places ≡ length (turn_order table)
as_long table places h = sym (length-map places (slice_get table.senders)) ∙ ap length h ∙ length-map (turn_order table) Some

-- one place more
pub place_more : (table : Table) (turn place : ℕ) (places places' : List ℕ) → turn < length table.senders
    → slice_get (turn_order table) turn ≡ slice_get table.senders place → places' ≡ places ++ place ∷ []
    → map (slice_get table.senders) places ≡ map Some (take turn (turn_order table))
    → map (slice_get table.senders) places' ≡ map Some (take (turn + 1) (turn_order table))
place_more table turn place places places' less same places_is so =
    let w = in_order table turn less in
    let read : get_or (turn_order table) turn w.0 ≡ w.0 = get_or_from_slice_get (turn_order table) turn w.0 w.0 w.1 in
    let inside : turn < length (turn_order table) = slice_get_within (turn_order table) turn w.0 w.1 in
    let more : take (turn + 1) (turn_order table) ≡ take turn (turn_order table) ++ w.0 ∷ [] = take_more (turn_order table) turn w.0 inside ∙ ap (λ s. take turn (turn_order table) ++ s ∷ []) read in
    ap (map (slice_get table.senders)) places_is ∙ map-append (slice_get table.senders) places (place ∷ []) ∙ ap (λ l. l ++ slice_get table.senders place ∷ []) so
    ∙ ap (λ o. map Some (take turn (turn_order table)) ++ o ∷ []) (sym same ∙ w.1)
    ∙ sym (map-append Some (take turn (turn_order table)) (w.0 ∷ [])) ∙ ap (map Some) (sym more)

pub places_whole : (table : Table) (places : List ℕ) (turn : ℕ) → length table.senders ≤ turn
    → map (slice_get table.senders) places ≡ map Some (take turn (turn_order table)) → AreInTurn table places
places_whole table places turn all so =
    let long : length (turn_order table) ≡ length table.senders = length-sort (turn_key table.mode) table.senders in
    so ∙ ap (map Some) (take_all turn (turn_order table) (omega arith))
