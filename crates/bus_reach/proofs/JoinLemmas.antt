-- Whenever the others wake, the growing schedule is what the senders do.
use Rattle.std.proofs.Common.{◌≡◌, ℕ, zero, suc, ◌+◌, ◌-◌, ◌<◌, ◌≤◌, Bool, true, false, cond, List, [], ◌∷◌, length, inl, inr, arith, sym, refl, ap, ◌∙◌, subst}
use Rattle.std.specs.List.{filter}
use Rattle.std.proofs.lemmas.Bool.{le-leb}
use Rattle.bus_strings.specs.Members.{In}
use Rattle.bus_strings.specs.Marking.{greatest_end}
use Rattle.bus_strings.specs.Messages.{Message, Entry}
use Rattle.bus_table.specs.declared.mode.Mode.TheVariants.{Aperiodic}
use Rattle.bus_table.specs.Tables.{Sender, Table, sender_numbers}
use Rattle.bus_table.specs.Lengths.{shortest}
use Rattle.bus_table.specs.Turns.{turn_key, turn_order}
use Rattle.bus_table.proofs.TurnLaws.{from_sort, in_sort, length-sort}
use Rattle.bus_medium.specs.Timings.{quiet_of, stations_of}
use Rattle.bus_medium.proofs.StationLaws.{are_of_senders, stations_have_own_numbers}
use Rattle.bus_schedule.specs.Closed.{sends}
use Rattle.bus_schedule.specs.Even.{messages_of, rounds}
use Rattle.bus_schedule.specs.Live.{shortest_cycle}
use Rattle.bus_medium.specs.Delays.{Delays}
use Rattle.bus_medium.specs.CableLawful.{IsDueOnCable}
use Rattle.bus_reach.specs.Joining.{hears_awake, members, grown, growing, IsFirstAwake}
use Rattle.bus_medium.specs.CableLawful.{IsLawfulOnCable}
use Rattle.bus_reach.specs.Laws.{JoiningIsOrderly}
use Rattle.bus_reach.proofs.Clearing.{heard_clear}
use Rattle.bus_schedule.proofs.Growing.{Setting}
use Rattle.bus_schedule.proofs.RunLemmas.{setting_of, dealt}
use Rattle.bus_schedule.proofs.LiveLemmas.{stations_of_dealt}
use Rattle.bus_medium.proofs.Hearing.{cable_looks}
use Rattle.bus_schedule.proofs.HandLemmas.{stations, quiet_is}
use Rattle.bus_reach.proofs.Modes.{in_aperiodic}
use Rattle.bus_reach.proofs.Knowing.{known_none, known_ruled}
use Rattle.bus_reach.proofs.RoundTurns.{total, Begin}
use Rattle.bus_reach.proofs.Rounding.{round_on}
use Rattle.bus_medium.proofs.Ruled.{ruled_whole}
use Rattle.bus_medium.proofs.CableLists.{cable_once}
use Rattle.bus_schedule.proofs.Spacing.{cycle, cycle_sum}
use Rattle.bus_reach.proofs.SpreadLemmas.{IsTolerant, tolerance_of, only_one}

-- what each sender's turn takes of a cycle of the founders
abbrev share_of : (Sender → Bool) → Sender → ℕ
share_of p b = cond (p b) (b.tg + shortest b) 0

share_most : (p : Sender → Bool) (b : Sender) → share_of p b ≤ b.tg + shortest b
share_most p b = elim (p b) as (λ v. cond v (b.tg + shortest b) 0 ≤ b.tg + shortest b) [ true ↦ omega arith | false ↦ omega arith ]

total_filter : (p : Sender → Bool) (xs : List Sender) → total (share_of p) xs ≡ cycle shortest (filter p xs)
total_filter p [] = refl
total_filter p (x ∷ xs) =
    elim (p x) as (λ v. cond v (x.tg + shortest x) 0 + total (share_of p) xs ≡ cycle shortest (cond v (x ∷ filter p xs) (filter p xs))) [
      | true ↦ ap (λ n. x.tg + shortest x + n) (total_filter p xs)
      | false ↦ omega (arith, total_filter p xs)
    ]

module _ (table : Table) (hands : ℕ → List Message) (n : ℕ) (setting : Setting table hands n) (mode : table.mode ≡ Aperiodic) (delay : Delays) (wake : ℕ → ℕ) (spread room : ℕ)
    (tolerant : IsTolerant table delay spread room) (first : Sender) (others : List Sender) (order_is : turn_order table ≡ first ∷ others)
    (early : (b : Sender) → In b table.senders → wake first.number ≤ wake b.number + spread)
    (long : table.ti ≤ shortest_cycle table (members delay wake hands (λ _. 0) (turn_order table) wake)) where
  founds : Sender → Bool
  founds = hears_awake delay wake (sends hands 0 first (wake first.number + first.tg))

  first_founds : hears_awake delay wake (sends hands 0 first (wake first.number + first.tg)) first ≡ true
  first_founds = le-leb (wake first.number) (wake first.number + first.tg + delay (sends hands 0 first (wake first.number + first.tg)) first.number) (omega arith)

  long_enough : table.ti ≤ table.sg + total (share_of (hears_awake delay wake (sends hands 0 first (wake first.number + first.tg)))) (turn_order table)
  long_enough =
      let p : Sender → Bool = hears_awake delay wake (sends hands 0 first (wake first.number + first.tg)) in
      let whole : total (share_of p) (turn_order table) ≡ cycle shortest (first ∷ filter p others) =
      ap (total (share_of p)) order_is ∙ total_filter p (first ∷ others) ∙ ap (λ (v : Bool). cycle shortest (cond v (first ∷ filter p others) (filter p others))) first_founds in
      let same : cycle shortest (first ∷ filter p others) ≡ cycle shortest (members delay wake hands (λ _. 0) (turn_order table) wake) = sym (ap (λ o. cycle shortest (members delay wake hands (λ _. 0) o wake)) order_is) in
      subst (λ c. table.ti ≤ table.sg + c) (cycle_sum shortest (members delay wake hands (λ _. 0) (turn_order table) wake) ∙ sym (whole ∙ same)) long

  at_first : Begin table hands delay wake spread room (share_of (hears_awake delay wake (sends hands 0 first (wake first.number + first.tg)))) first (λ _. 0) 0 wake []
  at_first = record {
    lo = wake first.number - spread;
    t = 0;
    last = 0;
    heard_all = λ _. 0;
    due = λ k. table.sg + wake k;
    gap_from = λ k. table.sg + wake k;
    sent = λ _. 0;
    known = known_none table hands n setting delay wake tolerant.own mode;
    ended = λ b i. omega arith;
    first_gap = refl;
    first_low = omega arith;
    first_high = omega arith;
    low = λ b i. let k : wake first.number ≤ wake b.number + spread = early b i in omega arith;
    high = λ b i. inl (omega arith);
    last_low = omega arith;
    wide = inl refl;
    laid = tt;
    some = λ x i. absurd i;
    due_by = λ b i. inl (omega arith);
    absent = λ b i not. ap (λ (v : Bool). cond v (b.tg + shortest b) 0) not;
    count_is = λ b i. refl;
    count_most = λ b i. omega arith;
  }

  rounds_grow : (round : ℕ) → round ≤ n → Begin table hands delay wake spread room (share_of (hears_awake delay wake (sends hands 0 first (wake first.number + first.tg)))) first
      (grown delay wake hands table.sg (turn_order table) round).count round (grown delay wake hands table.sg (turn_order table) round).from (grown delay wake hands table.sg (turn_order table) round).list
  rounds_grow zero low = at_first
  rounds_grow (suc round) low =
      round_on table hands n setting mode delay wake spread room tolerant (share_of (hears_awake delay wake (sends hands 0 first (wake first.number + first.tg))))
      (share_most (hears_awake delay wake (sends hands 0 first (wake first.number + first.tg)))) long_enough first others order_is
      (grown delay wake hands table.sg (turn_order table) round).count round (grown delay wake hands table.sg (turn_order table) round).from (grown delay wake hands table.sg (turn_order table) round).list
      (omega arith) (rounds_grow round (omega arith))

pub joining_is_orderly : JoiningIsOrderly
joining_is_orderly table hands most delay wake valid mode even delays bearing awake long =
    let setting : Setting table (messages_of hands) (rounds hands) = setting_of table hands valid even in
    let dealt = dealt table hands even in
    let so = tolerance_of table most delay setting.dealt.facts delays (sym (in_aperiodic table most mode) ∙ bearing) in
    in_order (turn_order table) refl (omega (arith, length-sort (turn_key table.mode) table.senders, setting.dealt.facts.some)) (λ first others order_is.
    let first_in : In first table.senders = from_sort (turn_key table.mode) table.senders first (subst (λ o. In first o) (sym order_is) (inl refl)) in
    let early_by : (b : Sender) → In b others → wake first.number ≤ wake b.number + most = subst (IsFirstAwake most wake) order_is awake in
    let early : (b : Sender) → In b table.senders → wake first.number ≤ wake b.number + so.spread = λ b i.
    elim (subst (λ o. In b o) order_is (in_sort (turn_key table.mode) table.senders b i)) [
      | inl is ↦ let same : wake b.number ≡ wake first.number = ap (λ (s : Sender). wake s.number) is in omega arith
      | inr other ↦ elim so.either [
        | inl one ↦ let same : wake first.number ≡ wake b.number = ap (λ (s : Sender). wake s.number) (only_one table.senders one first b first_in i) in omega arith
        | inr is ↦ let k : wake first.number ≤ wake b.number + most = early_by b other in omega arith
      ]
    ] in
    let begin = rounds_grow table (messages_of hands) (rounds hands) setting mode delay wake so.spread 0 (so.tolerant 0 (inl (omega arith))) first others order_is early long (rounds hands) (omega arith) in
    let ruled = known_ruled table (messages_of hands) (rounds hands) setting delay wake delays.own (growing delay wake table hands) begin.t begin.last begin.heard_all begin.due begin.gap_from begin.sent begin.known in
    let lawful : IsLawfulOnCable (quiet_of table) delay wake (stations_of table hands) (greatest_end (growing delay wake table hands)) (growing delay wake table hands) =
    subst (λ ss. IsLawfulOnCable (quiet_of table) delay wake ss (greatest_end (growing delay wake table hands)) (growing delay wake table hands)) (sym (stations_of_dealt table hands valid dealt))
    (subst (λ q. IsLawfulOnCable q delay wake (stations table (messages_of hands)) (greatest_end (growing delay wake table hands)) (growing delay wake table hands)) (sym (quiet_is table mode))
    (ruled_whole (IsDueOnCable table.sg delay wake) (cable_looks table.sg delay wake) (stations table (messages_of hands)) (greatest_end (growing delay wake table hands)) (growing delay wake table hands) ruled)) in
    let of : (x : Entry) → In x (growing delay wake table hands) → In x.terminal (sender_numbers table) =
    are_of_senders (IsDueOnCable (quiet_of table) delay wake) table hands (greatest_end (growing delay wake table hands)) (growing delay wake table hands) valid dealt lawful in
    record {
      lawful = lawful;
      only = λ other law. cable_once (quiet_of table) delay wake (stations_of table hands) (greatest_end (growing delay wake table hands)) other (growing delay wake table hands)
          (stations_have_own_numbers table hands valid dealt) law lawful;
      clear = λ number near.
          let room = so.roomy number near in
          let spaced = rounds_grow table (messages_of hands) (rounds hands) setting mode delay wake so.spread room.0 (so.tolerant room.0 room.2) first others order_is early long (rounds hands) (omega arith) in
          heard_clear delay room.0 number (growing delay wake table hands) (λ x i. room.1 x (of x i)) spaced.laid;
    })
  where
    in_order : {X : Type 0} → (order : List Sender) → turn_order table ≡ order → 0 < length order → ((first : Sender) (others : List Sender) → turn_order table ≡ first ∷ others → X) → X
    in_order [] is some f = absurd (omega arith)
    in_order (first ∷ others) is some f = f first others is
