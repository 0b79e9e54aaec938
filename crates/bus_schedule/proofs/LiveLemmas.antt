-- Rounds of the senders that have a message left are lawful up to their end where they are long enough, and even hands make them the closed
-- schedule.
use Rattle.std.proofs.Common.{◌≡◌, ℕ, zero, suc, ◌+◌, ◌<◌, ◌≤◌, true, List, [], ◌∷◌, ◌++◌, length, map, arith, sym, refl, ap, ◌∙◌, subst, cond, inl, inr}
use Rattle.std.specs.Prelude.{IsTrue}
use Rattle.std.specs.List.{filter}
use Rattle.std.proofs.lemmas.Bool.{cases_lt, lt-ltb}
use Rattle.bus_strings.specs.Marking.{greatest_end}
use Rattle.bus_strings.specs.Members.{In}
use Rattle.bus_strings.specs.Messages.{Message, Entry}
use Rattle.bus_table.specs.declared.mode.Mode.TheVariants.{Aperiodic}
use Rattle.bus_table.specs.Tables.{Sender, Table, Hand}
use Rattle.bus_table.specs.Hands.{are_hands}
use Rattle.bus_table.specs.Lengths.{shortest}
use Rattle.bus_table.specs.Turns.{turn_key, turn_order}
use Rattle.bus_table.proofs.TurnLaws.{from_sort, numbers_differ}
use Rattle.bus_table.specs.Valid.{is_valid}
use Rattle.bus_table.proofs.ValidLaws.{valid_facts}
use Rattle.bus_medium.specs.Lawful.{Station, HaveOwnNumbers, IsLawful}
use Rattle.bus_medium.specs.Timings.{quiet_of, stations_of}
use Rattle.bus_medium.proofs.StationLaws.{timings_are_sound, stations_have_own_numbers}
use Rattle.bus_medium.specs.Delays.{at_once}
use Rattle.bus_medium.specs.Wakes.{settled}
use Rattle.bus_medium.proofs.Hearing.{heard_none, no_delay_is_the_bus, none_at_once}
use Rattle.bus_schedule.specs.Closed.{turns, turns_end, origin, gap_schedule}
use Rattle.bus_schedule.specs.Even.{messages_of}
use Rattle.bus_schedule.specs.Laws.{LiveRoundsAreLawful, LiveRoundsEnd}
use Rattle.bus_schedule.specs.Live.{live, live_rounds, shortest_cycle, AreLong}
use Rattle.bus_schedule.specs.Runs.{IsClear}
use Rattle.bus_schedule.proofs.EndLemmas.{ends_at}
use Rattle.bus_schedule.proofs.Growing.{Dealt, Setting, has_left}
use Rattle.bus_schedule.proofs.CableGrowing.{grown_lawful}
use Rattle.bus_schedule.proofs.HandLemmas.{stations, stations_are, own_fit}
use Rattle.bus_schedule.proofs.Spacing.{cycle, cycle_sum, cycle_sort}
use Rattle.bus_schedule.proofs.Turning.{has_more, from_live, rounds_on}

pub stations_of_dealt : (table : Table) (hands : List Hand) → IsTrue (is_valid table) → IsTrue (are_hands table.senders hands)
    → stations_of table hands ≡ stations table (messages_of hands)
stations_of_dealt table hands valid dealt = stations_are table table.senders hands dealt (numbers_differ table (valid_facts table valid))

-- what a valid table and hands give
pub dealt_of : (table : Table) (hands : List Hand) → IsTrue (is_valid table) → IsTrue (are_hands table.senders hands)
    → Dealt table (messages_of hands)
dealt_of table hands valid dealt =
    let facts = valid_facts table valid in
    record {
      facts = facts;
      numbers = subst HaveOwnNumbers (stations_of_dealt table hands valid dealt) (stations_have_own_numbers table hands valid dealt);
      sound = λ sender there. timings_are_sound table sender valid there;
      fit = own_fit table.senders hands dealt (numbers_differ table facts);
    }

-- rounds of the same senders are the same
same_origin : (messages : ℕ → List Message) (sg : ℕ) (order other : ℕ → List Sender) (n : ℕ) → ((round : ℕ) → round < n → order round ≡ other round)
    → origin messages sg order n ≡ origin messages sg other n
same_origin messages sg order other zero h = refl
same_origin messages sg order other (suc n) h =
    ap (λ o. turns_end messages n o (origin messages sg order n) + sg) (h n (omega arith))
    ∙ ap (λ m. turns_end messages n (other n) m + sg) (same_origin messages sg order other n (λ round less. h round (omega arith)))

same_rounds : (messages : ℕ → List Message) (sg : ℕ) (order other : ℕ → List Sender) (n : ℕ) → ((round : ℕ) → round < n → order round ≡ other round)
    → gap_schedule messages sg order n ≡ gap_schedule messages sg other n
same_rounds messages sg order other zero h = refl
same_rounds messages sg order other (suc n) h =
    ap (λ o. gap_schedule messages sg order n ++ turns messages n o (origin messages sg order n)) (h n (omega arith))
    ∙ ap (λ m. gap_schedule messages sg order n ++ turns messages n (other n) m) (same_origin messages sg order other n (λ round less. h round (omega arith)))
    ∙ ap (λ l. l ++ turns messages n (other n) (origin messages sg other n)) (same_rounds messages sg order other n (λ round less. h round (omega arith)))

-- where each has as many messages, all are live to the end
module _ (table : Table) (messages : ℕ → List Message) (n : ℕ) (setting : Setting table messages n) where
  all_live : (round : ℕ) → round < n → live table messages round ≡ turn_order table
  all_live round less =
      all_taken (turn_order table) (λ s i.
      let there : In s table.senders = from_sort (turn_key table.mode) table.senders s i in
      lt-ltb round (length (messages s.number)) (has_left table messages n setting s round there less))
    where
      all_taken : (senders : List Sender) → ((s : Sender) → In s senders → has_more messages round s ≡ true)
          → filter (has_more messages round) senders ≡ senders
      all_taken [] h = refl
      all_taken (s ∷ senders) h =
          ap (λ b. cond b (s ∷ filter (has_more messages round) senders) (filter (has_more messages round) senders)) (h s (inl refl))
          ∙ ap (λ l. s ∷ l) (all_taken senders (λ t i. h t (inr i)))

  pub even_rounds : (m : ℕ) → m ≤ n → live_rounds table messages m ≡ gap_schedule messages table.sg (λ round. turn_order table) m
  even_rounds m low = same_rounds messages table.sg (live table messages) (λ round. turn_order table) m (λ round less. all_live round (omega arith))

  pub even_are_long : table.ti ≤ shortest_cycle table table.senders → AreLong table messages
  even_are_long accepted round some =
      let less : suc round < n = elim (cases_lt (suc round) n) [
        | inl k ↦ k
        | inr behind ↦ absurd (none (live table messages (suc round)) some (λ s i.
            let f = from_live table messages (suc round) s i in
            let count : length (messages s.number) ≡ n = setting.count s f.0 in
            let k : suc round < length (messages s.number) = f.1 in
            omega arith))
      ] in
      let same : cycle shortest (live table messages (suc round)) ≡ cycle shortest table.senders =
      ap (cycle shortest) (all_live (suc round) less) ∙ cycle_sort shortest (turn_key table.mode) table.senders in
      subst (λ c. table.ti ≤ table.sg + c)
      (cycle_sum shortest table.senders ∙ sym same ∙ sym (cycle_sum shortest (live table messages (suc round)))) accepted
    where
      none : (senders : List Sender) → 0 < length senders → ((s : Sender) → In s senders → ⊥) → ⊥
      none [] k h = omega arith
      none (s ∷ senders) k h = h s (inl refl)

pub live_rounds_end : LiveRoundsEnd
live_rounds_end table messages round some = ends_at messages table.sg (live table messages) round some

-- lawful up to its end, without overlaps
pub record IsLawfulRounds (table : Table) (messages : ℕ → List Message) (list : List Entry) : Type 0 where
  pub lawful : IsLawful (quiet_of table) (stations table messages) (greatest_end list) list
  pub clear : IsClear list

pub live_lawful : (table : Table) (messages : ℕ → List Message) → Dealt table messages → table.mode ≡ Aperiodic → AreLong table messages → (n : ℕ)
    → IsLawfulRounds table messages (live_rounds table messages n)
live_lawful table messages dealt mode long n =
    let t = rounds_on table messages dealt mode long n in
    let list : List Entry = live_rounds table messages n in
    record {
      lawful = (no_delay_is_the_bus (quiet_of table) at_once settled (stations table messages) (greatest_end list) list
          (none_at_once (map (λ (s : Station). s.number) (stations table messages))) (λ s i. refl)).0
          (grown_lawful (λ _. Unit {0}) at_once (λ x. refl) table messages dealt list t.e t.end t.due t.gap t.count t.sofar);
      clear = subst IsClear (heard_none at_once 0 list (λ x i. omega arith)) (t.sofar.clear 0 tt);
    }

pub live_rounds_are_lawful : LiveRoundsAreLawful
live_rounds_are_lawful table hands n valid mode dealt long =
    let so = live_lawful table (messages_of hands) (dealt_of table hands valid dealt) mode long n in
    record {
      lawful = subst (λ ss. IsLawful (quiet_of table) ss (greatest_end (live_rounds table (messages_of hands) n)) (live_rounds table (messages_of hands) n))
          (sym (stations_of_dealt table hands valid dealt)) so.lawful;
      clear = so.clear;
    }
