-- What the senders of a bus without delays do, whenever they are powered up: each starts where its timers allow it, and what it sends fits it.
use Rattle.std.proofs.Common.{◌≡◌, ℕ, ◌+◌, ◌<◌, ◌≤◌, ◌↔◌, true, List, [], length, get_or, Option, Some, arith, sym, refl, ap, ◌∙◌, subst}
use Rattle.std.specs.Prelude.{slice_get, IsTrue}
use Rattle.std.specs.List.{list_all}
use Rattle.bus_timers.specs.Timings.{IsSound}
use Rattle.bus_timers.specs.MayStart.{MayStart}
use Rattle.bus_strings.specs.Members.{In}
use Rattle.bus_strings.proofs.MemberLaws.{in_map, from_map}
use Rattle.bus_strings.specs.Messages.{Message, Entry, bits}
use Rattle.bus_table.specs.declared.mode.Mode.TheVariants.{Aperiodic}
use Rattle.bus_table.specs.Tables.{Sender, Table, Hand}
use Rattle.bus_table.specs.inside.Facts.{TableFacts}
use Rattle.bus_table.specs.Fits.{fits}
use Rattle.bus_table.specs.Hands.{are_hands}
use Rattle.bus_table.specs.Lengths.{shortest, longest}
use Rattle.bus_table.specs.Valid.{is_valid}
use Rattle.bus_table.proofs.TurnLaws.{numbers_differ}
use Rattle.bus_table.proofs.ValidLaws.{valid_facts}
use Rattle.bus_medium.specs.Past.{own}
use Rattle.bus_medium.specs.Lawful.{Station, HasEntry}
use Rattle.bus_medium.specs.Timings.{timing_of, quiet_of, stations_of}
use Rattle.bus_medium.specs.Wakes.{woken_past, woken_place}
use Rattle.bus_medium.specs.CableLawful.{IsLawfulOnCable}
use Rattle.bus_medium.specs.Delays.{heard}
use Rattle.bus_medium.proofs.Hearing.{heard_none}
use Rattle.bus_medium.proofs.StationLaws.{timings_are_sound}
use Rattle.bus_schedule.specs.Even.{messages_of}
use Rattle.bus_schedule.proofs.HandLemmas.{Sendable, station, stations, quiet_is, message_of, own_fit}
use Rattle.bus_schedule.proofs.LiveLemmas.{stations_of_dealt}
use Rattle.bus_schedule.proofs.Orders.{same_sender}
use Rattle.bus_reach.specs.Settling.{HaveLeft}

-- all is heard as it is sent
heard_same : (list : List Entry) (k : ℕ) → heard (λ _ _. 0) k list ≡ list
heard_same list k = heard_none (λ _ _. 0) k list (λ x i. omega arith)

-- an aperiodic table, wakes, and the lawful list up to a moment before which each sender has messages left
pub record Run : Type 0 where
  pub table : Table
  pub hands : ℕ → List Message
  pub wake : ℕ → ℕ
  pub end : ℕ
  pub list : List Entry
  pub mode : table.mode ≡ Aperiodic
  pub facts : TableFacts table
  pub sound : (b : Sender) → In b table.senders → IsSound (timing_of table b)
  pub fit : (b : Sender) → In b table.senders → list_all (fits b) (hands b.number) ≡ true
  pub law : IsLawfulOnCable table.sg (λ _ _. 0) wake (stations table hands) end list
  pub left : (b : Sender) (t : ℕ) → In b table.senders → t < end → length (own list b.number t) < length (hands b.number)

-- the place of a sender's last start before a moment
abbrev pub run_place : Run → Sender → ℕ → Option ℕ
run_place s b u = woken_place s.table.sg (s.wake b.number) (own s.list b.number u)

abbrev pub RunMay : Run → Sender → ℕ → Type 0
RunMay s b t = MayStart (timing_of s.table b) (woken_past s.table.sg (s.wake b.number) s.list t) (run_place s b t)

-- a sender starts where its timers allow it
pub run_starts_at : (s : Run) (b : Sender) (t : ℕ) → In b s.table.senders → t < s.end → HasEntry s.list b.number t ↔ RunMay s b t
run_starts_at s b t i less =
    let both = s.law.exact t (station s.table s.hands b) less (in_map (station s.table s.hands) s.table.senders b i) in
    let same = heard_same s.list b.number in (
      (λ h. subst (λ l. MayStart (timing_of s.table b) (woken_past s.table.sg (s.wake b.number) l t) (run_place s b t)) same (both.0 h).may),
      (λ m. both.1 (record {
        may = subst (λ l. MayStart (timing_of s.table b) (woken_past s.table.sg (s.wake b.number) l t) (run_place s b t)) (sym same) m;
        left = s.left b t i less;
      })),
    )

-- who sent a transmission
pub record RunSent (s : Run) (x : Entry) : Type 0 where
  pub by : Sender
  pub there : In by s.table.senders
  pub number : x.terminal ≡ by.number
  pub soon : x.moment < s.end
  pub may : RunMay s by x.moment
  pub slice : slice_get (s.hands by.number) (length (own s.list by.number x.moment)) ≡ Some x.message
  pub some : 0 < length x.message
  pub bit : 0 < bits x.message
  pub least : shortest by ≤ bits x.message
  pub most : bits x.message ≤ longest by

some_same : (a b : Message) → Some a ≡ Some b → a ≡ b
some_same a b h = cc

pub run_sent : (s : Run) (x : Entry) → In x s.list → RunSent s x
run_sent s x i =
    let l = s.law.sent x i in
    let f = from_map (station s.table s.hands) s.table.senders l.1.sender l.1.there in
    let number : x.terminal ≡ f.0.number = sym l.1.number ∙ sym (ap (λ (z : Station). z.number) f.2) in
    let may : RunMay s f.0 x.moment = (run_starts_at s f.0 x.moment f.1 l.0).0 (record { entry = x; there = i; moment = refl; terminal = number }) in
    let n : ℕ = length (own s.list f.0.number x.moment) in
    let slice : slice_get (s.hands f.0.number) (length (own s.list f.0.number x.moment)) ≡ Some x.message =
    ap (λ (z : Station). slice_get z.hand (length (own s.list z.number x.moment))) f.2 ∙ l.1.message in
    let m : Sendable f.0 (s.hands f.0.number) (length (own s.list f.0.number x.moment)) (get_or (s.hands f.0.number) (length (own s.list f.0.number x.moment)) []) =
    message_of s.table s.hands f.0 (length (own s.list f.0.number x.moment)) s.facts f.1 (s.fit f.0 f.1) (s.left f.0 x.moment f.1 l.0) in
    let same : get_or (s.hands f.0.number) (length (own s.list f.0.number x.moment)) [] ≡ x.message =
    some_same (get_or (s.hands f.0.number) (length (own s.list f.0.number x.moment)) []) x.message (sym m.sent ∙ slice) in
    record {
      by = f.0;
      there = f.1;
      number = number;
      soon = l.0;
      may = may;
      slice = slice;
      some = subst (λ (z : Message). 0 < length z) same m.some;
      bit = subst (λ (z : Message). 0 < bits z) same m.some_bits;
      least = subst (λ (z : Message). shortest f.0 ≤ bits z) same m.least;
      most = subst (λ (z : Message). bits z ≤ longest f.0) same m.most;
    }

-- it is told by its number
pub run_same : (s : Run) (a b : Sender) → In a s.table.senders → In b s.table.senders → a.number ≡ b.number → a ≡ b
run_same s a b i j e = same_sender (λ c. c.number) s.table.senders a b (numbers_differ s.table s.facts) i j e

-- a lawful list of the stations of a table is one of its senders with their messages
pub law_of : (table : Table) (hands : List Hand) (wake : ℕ → ℕ) (horizon : ℕ) (list : List Entry) → IsTrue (is_valid table) → table.mode ≡ Aperiodic
    → IsTrue (are_hands table.senders hands)
    → IsLawfulOnCable (quiet_of table) (λ _ _. 0) wake (stations_of table hands) horizon list
    → IsLawfulOnCable table.sg (λ _ _. 0) wake (stations table (messages_of hands)) horizon list
law_of table hands wake horizon list valid mode dealt law =
    subst (λ q. IsLawfulOnCable q (λ _ _. 0) wake (stations table (messages_of hands)) horizon list) (quiet_is table mode)
    (subst (λ l. IsLawfulOnCable (quiet_of table) (λ _ _. 0) wake l horizon list) (stations_of_dealt table hands valid dealt) law)

-- what is given, as a run
abbrev pub run_of : (table : Table) (hands : List Hand) (wake : ℕ → ℕ) (horizon : ℕ) (list : List Entry) → IsTrue (is_valid table) → table.mode ≡ Aperiodic
    → IsTrue (are_hands table.senders hands) → HaveLeft table hands horizon list
    → IsLawfulOnCable (quiet_of table) (λ _ _. 0) wake (stations_of table hands) horizon list → Run
run_of table hands wake horizon list valid mode dealt left law = record {
  table = table;
  hands = messages_of hands;
  wake = wake;
  end = horizon;
  list = list;
  mode = mode;
  facts = valid_facts table valid;
  sound = λ b i. timings_are_sound table b valid i;
  fit = own_fit table.senders hands dealt (numbers_differ table (valid_facts table valid));
  law = law_of table hands wake horizon list valid mode dealt law;
  left = left;
}
