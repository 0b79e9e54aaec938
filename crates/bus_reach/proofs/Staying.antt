-- Who is in a round of the growing schedule is in the next one: its first sender begins that one later by more than the delays can be.
use Rattle.std.proofs.Common.{◌≡◌, ◌≢◌, ℕ, suc, ◌+◌, ◌≤◌, true, ◌||◌, List, [], ◌∷◌, length, inl, inr, arith, sym, refl, ap, ◌∙◌, subst}
use Rattle.std.specs.List.{filter, list_all}
use Rattle.std.proofs.lemmas.Bool.{leb-true, le-leb, ne_eqb}
use Rattle.bus_strings.specs.Members.{In}
use Rattle.bus_strings.proofs.MemberLaws.{in_filter, from_filter, pass_in}
use Rattle.bus_strings.specs.Messages.{Message, Entry}
use Rattle.bus_strings.specs.Transmissions.{end_of}
use Rattle.bus_table.specs.Tables.{Sender}
use Rattle.bus_table.specs.Turns.{turn_key, turn_order}
use Rattle.bus_table.proofs.TurnLaws.{from_sort, length-sort}
use Rattle.bus_table.proofs.ValidLaws.{valid_facts}
use Rattle.bus_schedule.specs.Closed.{sends}
use Rattle.bus_schedule.specs.Even.{messages_of}
use Rattle.bus_medium.specs.Delays.{Delays, heard_end}
use Rattle.bus_medium.proofs.Hearing.{hears_sender}
use Rattle.bus_reach.specs.Joining.{grow_heard, hears_awake, members, Growth, grow_on, grown, round_members}
use Rattle.bus_reach.proofs.Modes.{in_aperiodic}
use Rattle.bus_reach.specs.Laws.{MembersStay}
use Rattle.bus_reach.specs.Tolerance.{leaves_room}
use Rattle.bus_reach.proofs.SpreadLemmas.{room_left}

heard_no_sooner : (delay : Delays) (messages : ℕ → List Message) (count : ℕ → ℕ) (order : List Sender) (from : ℕ → ℕ) (lo : ℕ) → ((k : ℕ) → lo ≤ from k) → (k : ℕ)
    → lo ≤ grow_heard delay messages count order from k
heard_no_sooner delay messages count [] from lo h k = h k
heard_no_sooner delay messages count (a ∷ order) from lo h k =
    let w : lo ≤ from a.number = h a.number in
    heard_no_sooner delay messages count order (heard_end delay (sends messages (count a.number) a (from a.number + a.tg))) lo (λ m. omega arith) k

stay_in : (delay : Delays) (wake : ℕ → ℕ) (messages : ℕ → List Message) (sg : ℕ) (first : Sender) (others : List Sender) (growth : Growth) (b : Sender)
    → ((x : Entry) → x.terminal ≡ first.number → In b others → delay x b.number ≤ first.tg)
    → In b (members delay wake messages growth.count (first ∷ others) growth.from)
    → In b (members delay wake messages (grow_on delay wake messages sg (first ∷ others) growth).count (first ∷ others) (grow_on delay wake messages sg (first ∷ others) growth).from)
stay_in delay wake messages sg first others growth b near (inl is) = inl is
stay_in delay wake messages sg first others growth b near (inr i) =
    let x : Entry = sends messages (growth.count first.number) first (growth.from first.number + first.tg) in
    let next : Growth = grow_on delay wake messages sg (first ∷ others) growth in
    let f = from_filter (hears_awake delay wake x) others b i in
    let hears : wake b.number ≤ x.moment + delay x b.number = leb-true (wake b.number) (x.moment + delay x b.number) f.1 in
    let lag : delay x b.number ≤ first.tg = near x refl f.0 in
    let later = heard_no_sooner delay messages growth.count (filter (hears_awake delay wake x) others) (heard_end delay x) (end_of x) (λ k. omega arith) first.number in
    let y : Entry = sends messages (next.count first.number) first (next.from first.number + first.tg) in
    inr (in_filter (hears_awake delay wake y) others b f.0 (le-leb (wake b.number) (y.moment + delay y b.number) (omega (arith, later))))

pub members_stay : MembersStay
members_stay table hands most delay wake round sender valid mode delays bearing there = go (turn_order table) refl
  where
    go : (order : List Sender) → turn_order table ≡ order → In sender (round_members delay wake table hands (suc round))
    go [] is = absurd (omega (arith, ap length is, length-sort (turn_key table.mode) table.senders, (valid_facts table valid).some))
    go (first ∷ others) is =
        let messages : ℕ → List Message = messages_of hands in
        let first_in : In first table.senders = from_sort (turn_key table.mode) table.senders first (subst (λ o. In first o) (sym is) (inl refl)) in
        let near : (x : Entry) → x.terminal ≡ first.number → In sender others → delay x sender.number ≤ first.tg = λ x own i.
        let many : length table.senders ≢ 1 = λ e. alone others i (omega (arith, ap length is, length-sort (turn_key table.mode) table.senders, e)) in
        let each : list_all (leaves_room most table.sg table.senders) table.senders ≡ true = ap (λ v. v || list_all (leaves_room most table.sg table.senders) table.senders) (sym (ne_eqb (length table.senders) 1 many)) ∙ (sym (in_aperiodic table most mode) ∙ bearing) in
        let least : most ≤ first.tg = (room_left most table.sg table.senders first (pass_in (leaves_room most table.sg table.senders) table.senders first each first_in)).least in
        let there : In sender table.senders = from_sort (turn_key table.mode) table.senders sender (subst (λ o. In sender o) (sym is) (inr i)) in
        let d : delay x sender.number ≤ most = hears_sender most table delay delays x first sender first_in there own in
        omega arith in
        subst (λ o. In sender (members delay wake messages (grown delay wake messages table.sg o (suc round)).count o (grown delay wake messages table.sg o (suc round)).from)) (sym is)
        (stay_in delay wake messages table.sg first others (grown delay wake messages table.sg (first ∷ others) round) sender near
        (subst (λ o. In sender (members delay wake messages (grown delay wake messages table.sg o round).count o (grown delay wake messages table.sg o round).from)) is there))
      where
        alone : (xs : List Sender) → In sender xs → suc (length xs) ≡ 1 → ⊥
        alone [] i e = i
        alone (x ∷ xs) i e = omega arith
