-- The stations of a valid table with a hand for each of its senders: laws that the crates above cite as they stand here.
use Rattle.std.specs.Prelude.{◌≡◌, ℕ, ◌+◌, ◌<◌, ◌≤◌, true, max, ◌&&◌, nat_eq, List, [], ◌∷◌, map, fold, zip, IsTrue}
use Rattle.std.specs.List.{list_all, IsDistinct, AllByRecursion}
use Rattle.std.proofs.Common.{false, inl, inr, arith, refl, sym, ap, ◌∙◌, subst, eqb, eqb-true, eq-eqb}
use Rattle.std.proofs.lemmas.Bool.{and_parts, true≢false}
use Rattle.bus_timers.specs.Timings.{IsSound}
use Rattle.bus_strings.specs.Members.{In}
use Rattle.bus_strings.specs.Messages.{Entry}
use Rattle.bus_strings.proofs.MemberLaws.{in_map, from_map}
use Rattle.bus_table.specs.declared.mode.Mode.{Mode}
use Rattle.bus_table.specs.declared.mode.Mode.TheVariants.{Aperiodic, Periodic}
use Rattle.bus_table.specs.Tables.{Sender, Table, Hand, sender_numbers}
use Rattle.bus_table.specs.Fits.{fits}
use Rattle.bus_table.specs.Hands.{are_hands}
use Rattle.bus_table.specs.Valid.{is_valid}
use Rattle.bus_table.specs.inside.Facts.{FitsMode, SenderFacts, TableFacts}
use Rattle.bus_table.proofs.ValidLaws.{valid_facts}
use Rattle.bus_medium.specs.Lawful.{Station, HaveOwnNumbers, IsRuled}
use Rattle.bus_medium.specs.Timings.{greatest_gap, quiet_for, due_for, timing_of, stations_of}

-- the station is that of the sender: it has its number, its timing, which is sound, and the messages of its hand, which fit it
pub record IsStationOf (table : Table) (hands : List Hand) (sender : Sender) (station : Station) : Type 0 where
  pub number : station.number ≡ sender.number
  pub timing : station.timing ≡ timing_of table sender
  pub sound : IsSound station.timing
  pub hand : Hand
  pub dealt : In hand hands
  pub terminal : hand.terminal ≡ sender.number
  pub messages : station.hand ≡ hand.messages
  pub fit : list_all (fits sender) hand.messages ≡ true

-- a sender of the table whose station this is
pub record HasSender (table : Table) (hands : List Hand) (station : Station) : Type 0 where
  pub sender : Sender
  pub there : In sender table.senders
  pub is : IsStationOf table hands sender station

-- a station that is that of the sender
pub record HasStation (table : Table) (hands : List Hand) (sender : Sender) : Type 0 where
  pub station : Station
  pub there : In station (stations_of table hands)
  pub is : IsStationOf table hands sender station

-- the facts of each sender
facts_in : (table : Table) (senders : List Sender) (sender : Sender) → AllByRecursion (SenderFacts table) senders → In sender senders
    → SenderFacts table sender
facts_in table [] sender all there = absurd there
facts_in table (s ∷ senders) sender all (inl same) = subst (SenderFacts table) (sym same) all.0
facts_in table (s ∷ senders) sender all (inr there) = facts_in table senders sender all.1 there

-- the greatest terminal gap of a valid table is one of a terminal
greatest_most : (table : Table) (senders : List Sender) (gap : ℕ) → AllByRecursion (SenderFacts table) senders → gap ≤ 256
    → fold (λ g (s : Sender). max g s.tg) gap senders ≤ 256
greatest_most table [] gap all most = most
greatest_most table (s ∷ senders) gap all most = let tg : s.tg ≤ 256 = all.0.tg_most
    in greatest_most table senders (max gap s.tg) all.1 (omega arith)

-- the quiet before the settled start lies in its range
quiet_range : (mode : Mode) (sg : ℕ) (senders : List Sender) → greatest_gap senders ≤ 256 → (sg ≤ quiet_for mode sg senders)
    × (quiet_for mode sg senders ≤ sg + 256)
quiet_range Aperiodic sg senders most = (omega arith, omega arith)
quiet_range Periodic sg senders most = (omega arith, omega arith)

-- so does the moment at which a sender is due
due_range : (mode : Mode) (ti : ℕ) (sender : Sender) → FitsMode mode ti sender.at → ti ≤ 128000 → due_for mode sender < 128000
due_range Aperiodic ti sender fits most = omega arith
due_range Periodic ti sender fits most = let below : sender.at < ti = fits in omega arith

-- the timing of each sender of a valid table is sound, in both modes
pub timings_are_sound : (table : Table) (sender : Sender) → IsTrue (is_valid table) → In sender table.senders
    → IsSound (timing_of table sender)
timings_are_sound table sender valid there =
    let t : TableFacts table = valid_facts table valid in
    let f : SenderFacts table sender = facts_in table table.senders sender t.senders there in
    let quiet = quiet_range table.mode table.sg table.senders (greatest_most table table.senders 0 t.senders (omega arith)) in
    record {
      ti_least = t.ti_least;
      ti_most = t.ti_most;
      sg_least = t.sg_least;
      sg_most = t.sg_most;
      tg_least = f.tg_least;
      tg_most = f.tg_most;
      tg_short = f.tg_short;
      quiet_least = quiet.0;
      quiet_most = quiet.1;
      due_most = due_range table.mode table.ti sender f.mode t.ti_most;
    }

-- a sender and its hand give this station
abbrev station_with : Table → Sender × Hand → Station
station_with table pair = record { number = pair.1.terminal; timing = timing_of table pair.0; hand = pair.1.messages }

-- the first hand is that of the first sender, and the others are those of the others
record FirstDealt (sender : Sender) (senders : List Sender) (hand : Hand) (hands : List Hand) : Type 0 where
  terminal : hand.terminal ≡ sender.number
  fit : list_all (fits sender) hand.messages ≡ true
  rest : are_hands senders hands ≡ true

-- of senders that are dealt hands the first is dealt the first hand
first_dealt : (sender : Sender) (senders : List Sender) (hand : Hand) (hands : List Hand)
    → are_hands (sender ∷ senders) (hand ∷ hands) ≡ true → FirstDealt sender senders hand hands
first_dealt sender senders hand hands dealt =
    let one = and_parts (eqb hand.terminal sender.number) (list_all (fits sender) hand.messages && are_hands senders hands) dealt in
    let two = and_parts (list_all (fits sender) hand.messages) (are_hands senders hands) one.1 in
    record { terminal = eqb-true hand.terminal sender.number one.0; fit = two.0; rest = two.1 }

-- a number apart from those of the senders is apart from those of their stations
apart : (table : Table) (senders : List Sender) (hands : List Hand) (n : ℕ) (station : Station) → are_hands senders hands ≡ true
    → AllByRecursion (λ m. nat_eq n m ≡ false) (map (λ s. s.number) senders)
    → In station (map (station_with table) (zip senders hands)) → n ≡ station.number → ⊥
apart table [] [] n station dealt all there same = there
apart table [] (hand ∷ hands) n station dealt all there same = there
apart table (s ∷ senders) [] n station dealt all there same = there
apart table (s ∷ senders) (hand ∷ hands) n station dealt all (inl here) same =
    let first = first_dealt s senders hand hands dealt in
    true≢false (sym (eq-eqb n s.number (same ∙ ap (λ r. r.number) here ∙ first.terminal)) ∙ all.0)
apart table (s ∷ senders) (hand ∷ hands) n station dealt all (inr behind) same = apart table senders hands n station
    (first_dealt s senders hand hands dealt).rest all.1 behind same

-- senders with numbers of their own have stations with such
own_numbers : (table : Table) (senders : List Sender) (hands : List Hand) → are_hands senders hands ≡ true
    → IsDistinct nat_eq (map (λ s. s.number) senders) → HaveOwnNumbers (map (station_with table) (zip senders hands))
unfolding IsDistinct
own_numbers table [] [] dealt distinct a b a_in b_in same = absurd a_in
own_numbers table [] (hand ∷ hands) dealt distinct a b a_in b_in same = absurd a_in
own_numbers table (s ∷ senders) [] dealt distinct a b a_in b_in same = absurd a_in
own_numbers table (s ∷ senders) (hand ∷ hands) dealt distinct a b (inl a_here) (inl b_here) same = a_here ∙ sym b_here
own_numbers table (s ∷ senders) (hand ∷ hands) dealt distinct a b (inl a_here) (inr b_there) same =
    let first = first_dealt s senders hand hands dealt in
    absurd (apart table senders hands s.number b first.rest distinct.0 b_there (sym first.terminal ∙ ap (λ r. r.number) (sym a_here)
    ∙ same))
own_numbers table (s ∷ senders) (hand ∷ hands) dealt distinct a b (inr a_there) (inl b_here) same =
    let first = first_dealt s senders hand hands dealt in
    absurd (apart table senders hands s.number a first.rest distinct.0 a_there (sym first.terminal ∙ ap (λ r. r.number) (sym b_here)
    ∙ sym same))
own_numbers table (s ∷ senders) (hand ∷ hands) dealt distinct a b (inr a_there) (inr b_there) same = own_numbers table senders hands
    (first_dealt s senders hand hands dealt).rest distinct.1 a b a_there b_there same

-- no two stations of a valid table have the same number
pub stations_have_own_numbers : (table : Table) (hands : List Hand) → IsTrue (is_valid table) → IsTrue (are_hands table.senders hands)
    → HaveOwnNumbers (stations_of table hands)
stations_have_own_numbers table hands valid dealt = own_numbers table table.senders hands dealt (valid_facts table valid).numbers

-- a sender and the hand that it is dealt
record IsDealt (senders : List Sender) (hands : List Hand) (sender : Sender) (hand : Hand) : Type 0 where
  sends : In sender senders
  held : In hand hands
  terminal : hand.terminal ≡ sender.number
  fit : list_all (fits sender) hand.messages ≡ true

-- a sender and a hand at one place are dealt to each other
pair_dealt : (senders : List Sender) (hands : List Hand) (pair : Sender × Hand) → are_hands senders hands ≡ true
    → In pair (zip senders hands) → IsDealt senders hands pair.0 pair.1
pair_dealt [] [] pair dealt there = absurd there
pair_dealt [] (hand ∷ hands) pair dealt there = absurd there
pair_dealt (s ∷ senders) [] pair dealt there = absurd there
pair_dealt (s ∷ senders) (hand ∷ hands) pair dealt (inl here) =
    let first = first_dealt s senders hand hands dealt in
    subst (λ p. IsDealt (s ∷ senders) (hand ∷ hands) p.0 p.1) (sym here)
    (record { sends = inl refl; held = inl refl; terminal = first.terminal; fit = first.fit })
pair_dealt (s ∷ senders) (hand ∷ hands) pair dealt (inr there) =
    let so = pair_dealt senders hands pair (first_dealt s senders hand hands dealt).rest there in
    record { sends = inr so.sends; held = inr so.held; terminal = so.terminal; fit = so.fit }

-- a hand with its sender
abbrev dealt_to : Hand → Sender → Sender × Hand
dealt_to hand sender = (sender, hand)

-- each sender is dealt a hand
hand_for : (senders : List Sender) (hands : List Hand) (sender : Sender) → are_hands senders hands ≡ true → In sender senders
    → (hand : Hand) × In (sender, hand) (zip senders hands)
hand_for [] hands sender dealt there = absurd there
hand_for (s ∷ senders) [] sender dealt there = absurd (true≢false (sym dealt))
hand_for (s ∷ senders) (hand ∷ hands) sender dealt (inl here) = (hand, inl (ap (dealt_to hand) here))
hand_for (s ∷ senders) (hand ∷ hands) sender dealt (inr there) = let so = hand_for senders hands sender
    (first_dealt s senders hand hands dealt).rest there in (so.0, inr so.1)

-- a sender that is dealt a hand has the station of both
station_is : (table : Table) (hands : List Hand) (pair : Sender × Hand) → IsTrue (is_valid table)
    → IsDealt table.senders hands pair.0 pair.1 → IsStationOf table hands pair.0 (station_with table pair)
station_is table hands pair valid dealt = record {
  number = dealt.terminal;
  timing = refl;
  sound = timings_are_sound table pair.0 valid dealt.sends;
  hand = pair.1;
  dealt = dealt.held;
  terminal = dealt.terminal;
  messages = refl;
  fit = dealt.fit;
}

-- each station of a valid table is that of one of its senders
pub stations_are_of_senders : (table : Table) (hands : List Hand) (station : Station) → IsTrue (is_valid table)
    → IsTrue (are_hands table.senders hands) → In station (stations_of table hands) → HasSender table hands station
stations_are_of_senders table hands station valid dealt there =
    let so = from_map (station_with table) (zip table.senders hands) station there in
    let pair = pair_dealt table.senders hands so.0 dealt so.1 in
    record {
      sender = so.0.0;
      there = pair.sends;
      is = subst (IsStationOf table hands so.0.0) so.2
          (station_is table hands so.0 valid pair);
    }

-- each sender of a valid table has its station
pub senders_have_stations : (table : Table) (hands : List Hand) (sender : Sender) → IsTrue (is_valid table)
    → IsTrue (are_hands table.senders hands) → In sender table.senders → HasStation table hands sender
senders_have_stations table hands sender valid dealt there =
    let so = hand_for table.senders hands sender dealt there in
    record {
      station = station_with table (sender, so.0);
      there = in_map (station_with table) (zip table.senders hands) (sender, so.0) so.1;
      is = station_is table hands (sender, so.0) valid (pair_dealt table.senders hands (sender, so.0) dealt so.1);
    }

-- what a rule makes of the stations of a table is of its senders
pub are_of_senders : (due : List Entry → Station → ℕ → Type 0) (table : Table) (hands : List Hand) (horizon : ℕ) (list : List Entry)
    → IsTrue (is_valid table) → IsTrue (are_hands table.senders hands) → IsRuled due (stations_of table hands) horizon list → (x : Entry)
    → In x list → In x.terminal (sender_numbers table)
are_of_senders due table hands horizon list valid dealt ruled x i =
    let next = (ruled.sent x i).1 in
    let has = stations_are_of_senders table hands next.sender valid dealt next.there in
    subst (λ n. In n (sender_numbers table)) (sym has.is.number ∙ next.number)
    (in_map (λ (s : Sender). s.number) table.senders has.sender has.there)
