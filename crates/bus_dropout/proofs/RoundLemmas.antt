-- The rounds of a drop-out schedule, and when each ends.
use Rattle.std.proofs.Common.{◌≡◌, ℕ, zero, suc, ◌+◌, ◌<◌, Bool, List, [], ◌∷◌, length, get_or, Some, None, arith, sym, refl, ap, ◌∙◌, inl, inr}
use Rattle.std.specs.Prelude.{slice_get, nat_lt, IsTrue}
use Rattle.std.specs.List.{sum_by}
use Rattle.std.proofs.lemmas.Bool.{ltb-true}
use Rattle.std.proofs.lemmas.List.Sums.{sum_by-cons}
use Rattle.std.proofs.lemmas.Option.{slice_get-get_or}
use Rattle.bus_strings.specs.Marking.{greatest_end}
use Rattle.bus_strings.specs.Members.{In}
use Rattle.bus_strings.proofs.MemberLaws.{from_filter}
use Rattle.bus_strings.specs.Messages.{Message, Entry, bits}
use Rattle.bus_strings.specs.Transmissions.{end_of}
use Rattle.bus_table.specs.Hands.{are_hands}
use Rattle.bus_table.specs.Tables.{Sender, Table, Hand}
use Rattle.bus_table.specs.Turns.{turn_order}
use Rattle.bus_table.specs.Valid.{is_valid}
use Rattle.bus_medium.specs.LawfulLaws.{OneLawfulList}
use Rattle.bus_medium.proofs.StationLaws.{stations_have_own_numbers}
use Rattle.bus_medium.specs.Timings.{quiet_of, stations_of}
use Rattle.bus_schedule.specs.Closed.{sends, turns, turns_end, origin}
use Rattle.bus_schedule.specs.Even.{messages_of}
use Rattle.bus_schedule.specs.Laws.{LiveRoundsAreLawful, LiveRoundsEnd}
use Rattle.bus_schedule.specs.Live.{live, live_rounds}
use Rattle.bus_schedule.specs.Runs.{HasTurn}
use Rattle.bus_dropout.specs.DropOut.{dropout, drop_end, most_messages}
use Rattle.bus_dropout.specs.Laws.{DropOutIsLawful}
use Rattle.bus_dropout.specs.Runs.{IsInLiveRounds}
use Rattle.bus_dropout.proofs.LongLemmas.{last_bounds}
use Rattle.bus_dropout.proofs.Most.{live_some}

-- the terminal gap and the message of a sender's turn
abbrev pub turn_length : (ℕ → List Message) → ℕ → Sender → ℕ
turn_length messages round sender = sender.tg + bits (get_or (messages sender.number) round [])

-- whether a sender has a message left for a round
abbrev pub has_left : (ℕ → List Message) → ℕ → Sender → Bool
has_left messages round sender = nat_lt round (length (messages sender.number))

turns_end_sum : (messages : ℕ → List Message) (round : ℕ) (order : List Sender) (from : ℕ)
    → turns_end messages round order from ≡ from + sum_by (turn_length messages round) order
turns_end_sum messages round [] from = omega arith
turns_end_sum messages round (a ∷ order) from =
    let x : Entry = sends messages round a (from + a.tg) in
    omega (arith, turns_end_sum messages round order (end_of x), sum_by-cons (turn_length messages round) a order)

-- one round more, by its length
pub record RoundMore (table : Table) (messages : ℕ → List Message) (round from end : ℕ) : Type 0 where
  pub from_is : from ≡ origin messages table.sg (live table messages) (round + 1)
  pub end_is : end ≡ greatest_end (live_rounds table messages (round + 1))

pub round_more : LiveRoundsEnd → (table : Table) (hands : List Hand) (round from span end sg : ℕ) → IsTrue (is_valid table)
    → IsTrue (are_hands table.senders hands) → round < most_messages hands
    → from ≡ origin (messages_of hands) table.sg (live table (messages_of hands)) round
    → span ≡ sum_by (turn_length (messages_of hands) round) (live table (messages_of hands) round) → sg ≡ table.sg → end ≡ from + span
    → RoundMore table (messages_of hands) round (end + sg) end
round_more ends table hands round from span end sg valid dealt less from_is span_is sg_is end_is =
    let start : ℕ = origin (messages_of hands) table.sg (live table (messages_of hands)) round in
    let one : suc round ≡ round + 1 = omega arith in
    let last : end ≡ turns_end (messages_of hands) round (live table (messages_of hands) round) start =
    omega (arith, turns_end_sum (messages_of hands) round (live table (messages_of hands) round) start) in
    record {
      from_is = ap (λ e. e + sg) last ∙ ap (λ g. turns_end (messages_of hands) round (live table (messages_of hands) round) start + g) sg_is
          ∙ ap (origin (messages_of hands) table.sg (live table (messages_of hands))) one;
      end_is = last ∙ sym (ends table (messages_of hands) round (live_some table hands round valid dealt less))
          ∙ ap (λ n. greatest_end (live_rounds table (messages_of hands) n)) one;
    }

-- a round is a turn of each of its senders, which have a message left for it
length-turns : (messages : ℕ → List Message) (round : ℕ) (order : List Sender) (from : ℕ)
    → length (turns messages round order from) ≡ length order
length-turns messages round [] from = refl
length-turns messages round (a ∷ order) from = ap suc (length-turns messages round order (end_of (sends messages round a (from + a.tg))))

turn_at : (hands : List Hand) (round : ℕ) (order : List Sender) (from place : ℕ) (sender : Sender)
    → ((s : Sender) → In s order → round < length (messages_of hands s.number)) → slice_get order place ≡ Some sender
    → HasTurn hands (turns (messages_of hands) round order from) place round sender
turn_at hands round [] from place sender left at = absurd (let k : None ≡ Some sender = at in cc)
turn_at hands round (a ∷ order) from zero sender left at =
    let same : a ≡ sender = let k : Some a ≡ Some sender = at in cc in
    record {
      entry = sends (messages_of hands) round a (from + a.tg);
      at = refl;
      terminal = ap (λ (s : Sender). s.number) same;
      message = ap (λ (s : Sender). slice_get (messages_of hands s.number) round) (sym same)
          ∙ slice_get-get_or (messages_of hands a.number) round [] (left a (inl refl));
    }
turn_at hands round (a ∷ order) from (suc place) sender left at =
    let end : ℕ = end_of (sends (messages_of hands) round a (from + a.tg)) in
    let so : HasTurn hands (turns (messages_of hands) round order end) place round sender =
    turn_at hands round order end place sender (λ s i. left s (inr i)) at in
    record { entry = so.entry; at = so.at; terminal = so.terminal; message = so.message }

in_live_rounds : (table : Table) (hands : List Hand) → IsInLiveRounds table hands (dropout table hands)
in_live_rounds table hands = record {
  round = λ r. turns (messages_of hands) r (live table (messages_of hands) r) (origin (messages_of hands) table.sg (live table (messages_of hands)) r);
  whole = refl;
  each = λ r less.
      let from : ℕ = origin (messages_of hands) table.sg (live table (messages_of hands)) r in
      record {
        whole = length-turns (messages_of hands) r (live table (messages_of hands) r) from;
        turn = λ place sender at. turn_at hands r (live table (messages_of hands) r) from place sender (λ s i.
            ltb-true r (length (messages_of hands s.number))
            (from_filter (has_left (messages_of hands) r) (turn_order table) s i).1) at;
      };
}

pub dropout_is_lawful : LiveRoundsAreLawful → OneLawfulList → DropOutIsLawful
dropout_is_lawful lawful once table hands valid mode dealt long =
    let so = lawful table hands (most_messages hands) valid mode dealt (last_bounds table hands long) in
    record {
      dropout = refl;
      lawful = so.lawful;
      only = λ other law. once (quiet_of table) (stations_of table hands) (drop_end table hands) other (dropout table hands)
          (stations_have_own_numbers table hands valid dealt) law so.lawful;
      clear = so.clear;
      rounds = in_live_rounds table hands;
    }
