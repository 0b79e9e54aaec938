-- A schedule on a cable so far: lawful to the end of its last message, with the numbers that tell who is due.
use Rattle.std.proofs.Common.{◌≡◌, ◌≢◌, ℕ, ◌+◌, ◌<◌, ◌≤◌, ◌⊎◌, false, ltb, List, [], ◌∷◌, ◌++◌, length, get_or, inl, inr, arith, sym, refl, ap, ◌∙◌, subst}
use Rattle.std.specs.Prelude.{slice_get}
use Rattle.std.proofs.lemmas.Bool.{le-ltb, and_right}
use Rattle.bus_timers.specs.Timings.{IsSound}
use Rattle.bus_strings.specs.Members.{In}
use Rattle.bus_strings.proofs.MemberLaws.{from_map, in_map, in_push_cases, ordered_push}
use Rattle.bus_strings.specs.Messages.{Message, Entry}
use Rattle.bus_strings.specs.Marking.{greatest_end}
use Rattle.bus_strings.specs.Transmissions.{end_of, overlaps}
use Rattle.bus_table.specs.Tables.{Sender, Table, sender_numbers}
use Rattle.bus_medium.specs.CableLawful.{IsDueOnCable, IsLawfulOnCable}
use Rattle.bus_medium.specs.inside.Lazy.{HaveEnded}
use Rattle.bus_medium.specs.Delays.{Delays, later, heard, heard_end}
use Rattle.bus_medium.specs.Lawful.{Station}
use Rattle.bus_medium.specs.Timings.{quiet_of, due_for}
use Rattle.bus_medium.specs.Wakes.{settled}
use Rattle.bus_medium.proofs.CableSteps.{AreTimed, ScheduledSoFar, StartsNext, due_behind, gap_from_behind, sent_behind, known_step, known_start, known_lawful}
use Rattle.bus_medium.proofs.Hearing.{cable_looks, heard_push}
use Rattle.bus_medium.proofs.Ruled.{ruled_whole}
use Rattle.bus_schedule.specs.Closed.{sends}
use Rattle.bus_schedule.specs.Runs.{IsClear}
use Rattle.bus_schedule.proofs.Greatest.{end_push}
use Rattle.bus_schedule.proofs.Growing.{Dealt, message_left}
use Rattle.bus_schedule.proofs.HandLemmas.{Sendable, station, stations}

clear_push : (list : List Entry) (x : Entry) (e : ℕ) → e ≤ x.moment → HaveEnded list e → IsClear list → IsClear (list ++ x ∷ [])
clear_push list x e low ended clear = ordered_push (λ y z. overlaps y z ≡ false) list x clear (λ y i.
    let k : end_of y ≤ e = ended y i in
    and_right (ltb y.moment (end_of x)) (ltb x.moment (end_of y)) (le-ltb x.moment (end_of y) (omega arith)))

-- the senders of a table, as stations
pub timed : (table : Table) (hands : ℕ → List Message) → Dealt table hands → AreTimed table.sg (stations table hands)
timed table hands dealt = record {
  numbers = dealt.numbers;
  sound = λ s i. let f = from_map (station table hands) table.senders s i in
      subst (λ (w : Station). IsSound w.timing) f.2 (dealt.sound f.0 f.1);
  same_sg = λ s i. let f = from_map (station table hands) table.senders s i in subst (λ (w : Station). w.timing.sg ≡ table.sg) f.2 refl;
}

-- the schedule so far, decided up to moment t; who hears it soon enough hears no two overlap
pub record Grown (Apart : ℕ → Type 0) (table : Table) (hands : ℕ → List Message) (delay : Delays) (list : List Entry) (e : ℕ) (end due gap count : ℕ → ℕ) : Type 0 where
  pub t : ℕ
  pub known : ScheduledSoFar (quiet_of table) delay settled (stations table hands) list t e end due gap count
  pub ended : HaveEnded list e
  pub ends : greatest_end list ≡ e
  pub of : (x : Entry) → In x list → In x.terminal (sender_numbers table)
  pub clear : (number : ℕ) → Apart number → IsClear (heard delay number list)

-- what the numbers must be where a sender starts
pub record Takes (table : Table) (hands : ℕ → List Message) (delay : Delays) (end due gap count : ℕ → ℕ) (sender : Sender) (round moment : ℕ) : Type 0 where
  pub ready : (b : Sender) → In b table.senders → end b.number ≤ moment
  pub interval : due sender.number ≤ quiet_of table + moment
  pub terminal : gap sender.number + sender.tg ≤ quiet_of table + moment
  pub first : (quiet_of table + moment ≤ due sender.number) ⊎ (quiet_of table + moment ≤ gap sender.number + sender.tg)
  pub others : (b : Sender) → In b table.senders → b.number ≢ sender.number → (quiet_of table + (moment + delay (sends hands round sender moment) b.number) < gap b.number + b.tg)
      ⊎ ((quiet_of table + (moment + delay (sends hands round sender moment) b.number) < due b.number) ⊎ (length (hands b.number) ≤ count b.number))
  pub turn : count sender.number ≡ round

module _ (Apart : ℕ → Type 0) (delay : Delays) (own : (x : Entry) → delay x x.terminal ≡ 0) (table : Table) (hands : ℕ → List Message) (dealt : Dealt table hands) where
  pub grown_step : (list : List Entry) (e : ℕ) (end due gap count : ℕ → ℕ) (sender : Sender) (round moment : ℕ) → round < length (hands sender.number)
      → Grown Apart table hands delay list e end due gap count → In sender table.senders → e ≤ moment
      → ((number : ℕ) → Apart number → HaveEnded (heard delay number list) moment)
      → Takes table hands delay end due gap count sender round moment
      → Grown Apart table hands delay (list ++ sends hands round sender moment ∷ []) (end_of (sends hands round sender moment))
      (heard_end delay (sends hands round sender moment)) (due_behind (quiet_of table) due (station table hands sender) (sends hands round sender moment))
      (gap_from_behind (quiet_of table) table.sg delay settled gap sender.number (sends hands round sender moment)) (sent_behind count sender.number)
  grown_step list e end due gap count sender round moment more so i low all_heard takes =
      let x : Entry = sends hands round sender moment in
      let m : Sendable sender (hands sender.number) round (get_or (hands sender.number) round []) = message_left table hands dealt sender round i more in
      let place = in_map (station table hands) table.senders sender i in
      let starts : StartsNext (quiet_of table) delay (stations table hands) e end due gap count (station table hands sender) (sends hands round sender moment) = record {
        there = place;
        mine = refl;
        some = m.some;
        message = ap (slice_get (hands sender.number)) takes.turn ∙ m.sent;
        left = let k : count sender.number ≡ round = takes.turn in omega arith;
        behind = low;
        ready = λ s there.
            let f = from_map (station table hands) table.senders s there in
            subst (λ (w : Station). end w.number ≤ moment) f.2 (takes.ready f.0 f.1);
        interval = takes.interval;
        terminal = takes.terminal;
        first = takes.first;
        slow = λ s there apart.
            let f = from_map (station table hands) table.senders s there in
            subst (λ (w : Station). (quiet_of table + (moment + delay (sends hands round sender moment) w.number) < gap w.number + w.timing.tg)
            ⊎ ((quiet_of table + (moment + delay (sends hands round sender moment) w.number) < due w.number) ⊎ (length w.hand ≤ count w.number))) f.2
            (takes.others f.0 f.1 (λ same. apart (ap (λ (w : Station). w.number) (sym f.2) ∙ same)));
      } in
      record {
        t = moment + 1;
        known = known_step (quiet_of table) table.sg delay settled (stations table hands) (timed table hands dealt) own list so.t e end due gap count
            (station table hands sender) (sends hands round sender moment) so.known starts;
        ended = λ y j. elim (in_push_cases list (sends hands round sender moment) y j) [
          | inl old ↦ let h : end_of y ≤ e = so.ended y old in omega arith
          | inr same ↦ let h : end_of y ≡ end_of (sends hands round sender moment) = ap end_of same in omega arith
        ];
        ends = end_push list (sends hands round sender moment) e so.ends low;
        of = λ y j. elim (in_push_cases list (sends hands round sender moment) y j) [
          | inl old ↦ so.of y old
          | inr same ↦ subst (λ n. In n (sender_numbers table)) (ap (λ (z : Entry). z.terminal) (sym same)) (in_map (λ (s : Sender). s.number) table.senders sender i)
        ];
        clear = λ k apart. subst IsClear (sym (heard_push delay k list (sends hands round sender moment)))
            (clear_push (heard delay k list) (later (delay (sends hands round sender moment) k) (sends hands round sender moment)) moment (omega arith) (all_heard k apart) (so.clear k apart));
      }

  pub grown_settled : (due : ℕ → ℕ) → ((sender : Sender) → In sender table.senders → quiet_of table + due_for table.mode sender ≡ due sender.number)
      → Grown Apart table hands delay [] 0 (λ _. 0) due (λ k. table.sg + settled k) (λ _. 0)
  grown_settled due due_is = record {
    t = 0;
    known = known_start (quiet_of table) table.sg delay settled (stations table hands) (timed table hands dealt) own due (λ s there.
        let f = from_map (station table hands) table.senders s there in
        subst (λ (w : Station). w.timing.quiet + w.timing.due + settled w.number ≡ due w.number) f.2
        (let k : quiet_of table + due_for table.mode f.0 ≡ due f.0.number = due_is f.0 f.1 in omega arith));
    ended = λ x i. absurd i;
    ends = refl;
    of = λ x i. absurd i;
    clear = λ k apart. tt;
  }

  pub grown_lawful : (list : List Entry) (e : ℕ) (end due gap count : ℕ → ℕ) → Grown Apart table hands delay list e end due gap count
      → IsLawfulOnCable (quiet_of table) delay settled (stations table hands) (greatest_end list) list
  grown_lawful list e end due gap count so =
      subst (λ h. IsLawfulOnCable (quiet_of table) delay settled (stations table hands) h list) (sym so.ends)
      (ruled_whole (IsDueOnCable (quiet_of table) delay settled) (cable_looks (quiet_of table) delay settled) (stations table hands) e list
      (known_lawful (quiet_of table) table.sg delay settled (stations table hands) (timed table hands dealt) own list so.t e end due gap count so.known))
