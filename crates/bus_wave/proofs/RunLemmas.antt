-- The trace of a run is spaced.
use Rattle.std.proofs.Common.{arith, ◌≡◌, ℕ, zero, suc, ◌+◌, ◌*◌, ◌<◌, ◌≤◌, ◌==◌, List, [], ◌∷◌, ◌++◌, length, Some}
use Rattle.std.proofs.Common.{inl, inr, refl, sym, ap, subst, ◌∙◌, append_assoc}
use Rattle.std.specs.Prelude.{IsTrue, slice_get}
use Rattle.std.specs.List.{list_all, AllByRecursion}
use Rattle.std.proofs.lemmas.Bool.{and_parts}
use Rattle.std.proofs.lemmas.List.{append-nil}
use Rattle.bus_strings.specs.Members.{In}
use Rattle.bus_strings.proofs.ListLaws.{all_pass}
use Rattle.bus_strings.proofs.MemberLaws.{all_in, of_each, at_in, in_append_cases, from_map}
use Rattle.bus_strings.specs.Messages.{Message, Entry}
use Rattle.bus_strings.specs.Transmissions.{end_of}
use Rattle.bus_table.specs.declared.mode.Mode.{Mode}
use Rattle.bus_table.specs.declared.mode.Mode.TheVariants.{Aperiodic, Periodic}
use Rattle.bus_table.specs.inside.Facts.{SenderFacts}
use Rattle.bus_table.specs.Fits.{fits, sender_of}
use Rattle.bus_table.specs.Hands.{are_hands}
use Rattle.bus_table.specs.Tables.{Sender, Table, Hand}
use Rattle.bus_table.specs.Turns.{turn_key, turn_order}
use Rattle.bus_table.proofs.TurnLaws.{from_sort, numbers_differ}
use Rattle.bus_table.specs.Valid.{is_valid}
use Rattle.bus_table.proofs.ValidLaws.{valid_facts}
use Rattle.bus_regime.specs.inside.Fine.{IsFine}
use Rattle.bus_regime.specs.Gaps.{Gap, latest_end, last_end, gaps_from, gaps}
use Rattle.bus_regime.proofs.VerdictLaws.{accepted_gaps}
use Rattle.bus_regime.specs.Verdicts.{verdict_of, is_accepted}
use Rattle.bus_regime.proofs.WitnessLaws.{found}
use Rattle.bus_schedule.specs.Closed.{sends, turns, turns_end, origin, offset_turns, in_rounds, gap_schedule, schedule_in, closed, closed_end}
use Rattle.bus_schedule.specs.Even.{messages_of, rounds, are_even}
use Rattle.bus_schedule.proofs.HandLemmas.{own_fit, own_count}
use Rattle.bus_schedule.specs.Laws.{GapsAreLeft}
use Rattle.bus_schedule.proofs.Greatest.{ends_within}
use Rattle.bus_wave.specs.Spacing.{least_gap, IsOfSender, AreApart}
use Rattle.bus_wave.specs.WaveLaws.{RunsAreSpaced}

-- ---- what a closed schedule holds
-- a transmission is of a sender of an order, with its message of one of so many rounds
record IsTurn (messages : ℕ → List Message) (order : List Sender) (n : ℕ) (x : Entry) : Type 0 where
  sender : Sender
  there : In sender order
  round : ℕ
  within : round < n
  moment : ℕ
  is : x ≡ sends messages round sender moment

in_turns : (messages : ℕ → List Message) (round : ℕ) (order : List Sender) (from : ℕ) (x : Entry) → In x (turns messages round order from)
    → (s : Sender) × In s order × (moment : ℕ) × (x ≡ sends messages round s moment)
in_turns messages round [] from x i = absurd i
in_turns messages round (a ∷ order) from x (inl same) = (a, inl refl, from + a.tg, same)
in_turns messages round (a ∷ order) from x (inr i) =
    let w = in_turns messages round order (end_of (sends messages round a (from + a.tg))) x i in (w.0, inr w.1, w.2, w.3)

in_some_round : (f : ℕ → List Entry) (n : ℕ) (x : Entry) → In x (in_rounds f n) → (r : ℕ) × (r < n) × In x (f r)
in_some_round f zero x i = absurd i
in_some_round f (suc n) x i = elim (in_append_cases (in_rounds f n) (f n) x i) [
  | inl before ↦ (let w = in_some_round f n x before in (w.0, omega (arith, w.1), w.2))
  | inr last ↦ (n, omega arith, last)
]

is_turn : (mode : Mode) (table : Table) (messages : ℕ → List Message) (n : ℕ) (x : Entry) → In x (schedule_in mode table messages n)
    → IsTurn messages (turn_order table) n x
is_turn Aperiodic table messages n x i =
    let order : ℕ → List Sender = λ r. turn_order table in
    let w = in_some_round (λ r. turns messages r (turn_order table) (origin messages table.sg order r)) n x i in
    let v = in_turns messages w.0 (turn_order table) (origin messages table.sg order w.0) x w.2 in
    record { sender = v.0; there = v.1; round = w.0; within = w.1; moment = v.2; is = v.3 }
is_turn Periodic table messages n x i =
    let w = in_some_round (λ r. offset_turns messages r (turn_order table) (r * table.ti)) n x i in
    let v = from_map (λ (s : Sender). sends messages w.0 s (w.0 * table.ti + s.at)) (turn_order table) x w.2 in
    record { sender = v.0; there = v.1; round = w.0; within = w.1; moment = w.0 * table.ti + v.0.at; is = sym v.2 }

-- ---- ends
-- ---- apart
-- each starts at least the least gap behind the end of the one before, and the first behind `end`
abbrev Follow : ℕ → List Entry → Type 0
Follow end [] = Unit {0}
Follow end (x ∷ xs) = (end + least_gap ≤ x.moment) × Follow (end_of x) xs

follow_sooner : (end sooner : ℕ) (xs : List Entry) → sooner ≤ end → Follow end xs → Follow sooner xs
follow_sooner end sooner [] low f = tt
follow_sooner end sooner (x ∷ xs) low f = (let k : end + least_gap ≤ x.moment = f.0 in omega arith, f.1)

turns_follow : (messages : ℕ → List Message) (round : ℕ) (order : List Sender) (from : ℕ) (ys : List Entry)
    → ((s : Sender) → In s order → least_gap ≤ s.tg) → Follow (turns_end messages round order from) ys
    → Follow from (turns messages round order from ++ ys)
turns_follow messages round [] from ys wide f = f
turns_follow messages round (a ∷ order) from ys wide f = (
  let k : least_gap ≤ a.tg = wide a (inl refl) in omega arith,
  turns_follow messages round order (end_of (sends messages round a (from + a.tg))) ys (λ s i. wide s (inr i)) f,
)

rounds_follow : (messages : ℕ → List Message) (sg : ℕ) (order : List Sender) (n : ℕ) (ys : List Entry) → ((s : Sender) → In s order → least_gap ≤ s.tg)
    → Follow (origin messages sg (λ r. order) n) ys → Follow 0 (gap_schedule messages sg (λ r. order) n ++ ys)
rounds_follow messages sg order zero ys wide f = f
rounds_follow messages sg order (suc n) ys wide f =
    let from : ℕ = origin messages sg (λ r. order) n in
    let end : ℕ = turns_end messages n order from in
    let behind : Follow end ys = follow_sooner (end + sg) end ys (omega arith) f in
    subst (Follow 0) (sym (append_assoc (gap_schedule messages sg (λ r. order) n) (turns messages n order from) ys))
    (rounds_follow messages sg order n (turns messages n order from ++ ys) wide (turns_follow messages n order from ys wide behind))

follow_apart : (end from horizon : ℕ) (xs : List Entry) → from ≤ end + least_gap → ((x : Entry) → In x xs → end_of x ≤ horizon) → Follow end xs
    → AreApart from horizon xs
follow_apart end from horizon [] low ends f = tt
follow_apart end from horizon (x ∷ xs) low ends f = (
  let k : end + least_gap ≤ x.moment = f.0 in omega arith,
  ends x (inl refl),
  follow_apart (end_of x) (end_of x + least_gap) horizon xs (omega arith) (λ y i. ends y (inr i)) f.1,
)

-- of neighbours
next_apart : (from horizon : ℕ) (xs : List Entry) → ((x : Entry) → slice_get xs 0 ≡ Some x → from ≤ x.moment)
    → ((k : ℕ) (x y : Entry) → slice_get xs k ≡ Some x → slice_get xs (suc k) ≡ Some y → end_of x + least_gap ≤ y.moment)
    → ((x : Entry) → In x xs → end_of x ≤ horizon) → AreApart from horizon xs
next_apart from horizon [] first next ends = tt
next_apart from horizon (x ∷ xs) first next ends = (
  first x refl,
  ends x (inl refl),
  next_apart (end_of x + least_gap) horizon xs (λ y at. next 0 x y refl at) (λ k a b at_a at_b. next (suc k) a b at_a at_b) (λ y i. ends y (inr i)),
)

-- a sender has a gap
own_gap : (ti from : ℕ) (order : List Sender) (s : Sender) → In s order → (g : Gap) × In g (gaps_from ti from order) × (g.sender ≡ s)
own_gap ti from [] s i = absurd i
own_gap ti from (a ∷ order) s (inl same) = (record { sender = a; from = from; to = ti + a.at }, inl refl, sym same)
own_gap ti from (a ∷ order) s (inr i) = let w = own_gap ti (ti + latest_end a) order s i in (w.0, inr w.1, w.2)

module _ (left : GapsAreLeft) (table : Table) (hands : List Hand) (valid : IsTrue (is_valid table)) (accepted : IsTrue (is_accepted (verdict_of table)))
    (even : IsTrue (are_even table hands)) where
  in_table : (s : Sender) → In s (turn_order table) → In s table.senders
  in_table s i = from_sort (turn_key table.mode) table.senders s i

  wide : (s : Sender) → In s (turn_order table) → least_gap ≤ s.tg
  wide s i = (of_each (SenderFacts table) table.senders (valid_facts table valid).senders s (in_table s i)).tg_least

  turn : (x : Entry) → In x (closed table hands) → IsTurn (messages_of hands) (turn_order table) (rounds hands) x
  turn x i = is_turn table.mode table (messages_of hands) (rounds hands) x i

  of_sender : (x : Entry) → In x (closed table hands) → IsOfSender table x
  of_sender x i = by_turn (turn x i) where
    by_turn : IsTurn (messages_of hands) (turn_order table) (rounds hands) x → IsOfSender table x
    by_turn t =
        let parts = and_parts (are_hands table.senders hands) (list_all (λ hand. length hand.messages == rounds hands) hands) even in
        let differ = numbers_differ table (valid_facts table valid) in
        let there : In t.sender table.senders = in_table t.sender t.there in
        let count = own_count (rounds hands) table.senders hands parts.0 parts.1 differ t.sender there in
        let own = own_fit table.senders hands parts.0 differ t.sender there in
        let less : t.round < rounds hands = t.within in
        let fit = all_pass (fits t.sender) (messages_of hands t.sender.number) t.round [] own (omega (arith, count)) in
        record {
          sender = t.sender;
          found = ap (λ (e : Entry). sender_of table.senders e.terminal) t.is ∙ found table.senders t.sender differ there;
          fits = ap (λ (e : Entry). fits t.sender e.message) t.is ∙ fit;
        }

  near : table.mode ≡ Periodic → (k : ℕ) (x y : Entry) → slice_get (closed table hands) k ≡ Some x → slice_get (closed table hands) (suc k) ≡ Some y
      → end_of x + least_gap ≤ y.moment
  near mode k x y at_x at_y = by_turn (turn y (at_in (closed table hands) (suc k) y at_y)) where
    by_turn : IsTurn (messages_of hands) (turn_order table) (rounds hands) y → end_of x + least_gap ≤ y.moment
    by_turn t =
        let g = own_gap table.ti (last_end 0 (turn_order table)) (turn_order table) t.sender t.there in
        let number : g.0.sender.number ≡ y.terminal = ap (λ (s : Sender). s.number) g.2 ∙ sym (ap (λ (e : Entry). e.terminal) t.is) in
        let behind : slice_get (closed table hands) (k + 1) ≡ Some y = ap (slice_get (closed table hands)) (let e : k + 1 ≡ suc k = omega arith in e) ∙ at_y in
        let rest : end_of x + g.0.to ≤ y.moment + g.0.from = left table hands k x y g.0 valid mode even at_x behind g.1 number in
        let fine : IsFine table.sg (gaps table) g.0 = accepted_gaps table mode accepted g.0 g.1 in
        let room : g.0.from + g.0.sender.tg ≤ g.0.to = fine.wide in
        let tg : g.0.sender.tg ≡ t.sender.tg = ap (λ (s : Sender). s.tg) g.2 in
        let least : least_gap ≤ t.sender.tg = wide t.sender t.there in
        omega arith

  apart : AreApart 0 (closed_end table hands) (closed table hands)
  apart = by_mode table.mode refl where
    by_mode : (mode : Mode) → table.mode ≡ mode → AreApart 0 (closed_end table hands) (closed table hands)
    by_mode Aperiodic is =
        let list : List Entry = gap_schedule (messages_of hands) table.sg (λ r. turn_order table) (rounds hands) in
        let follow : Follow 0 list = subst (Follow 0) (append-nil list) (rounds_follow (messages_of hands) table.sg (turn_order table) (rounds hands) [] wide tt) in
        let same : closed table hands ≡ list = ap (λ m. schedule_in m table (messages_of hands) (rounds hands)) is in
        follow_apart 0 0 (closed_end table hands) (closed table hands) (omega arith) (ends_within (closed table hands)) (subst (Follow 0) (sym same) follow)
    by_mode Periodic is =
        next_apart 0 (closed_end table hands) (closed table hands) (λ x at. omega arith) (near is) (ends_within (closed table hands))

pub runs_are_spaced : GapsAreLeft → RunsAreSpaced
runs_are_spaced left table hands t valid accepted even list horizon = record {
  senders = subst (λ xs. AllByRecursion (IsOfSender table) xs) (sym list)
      (all_in (IsOfSender table) (closed table hands) (of_sender left table hands valid accepted even));
  apart = subst (λ xs. AreApart 0 t.horizon xs) (sym list)
      (subst (λ end. AreApart 0 end (closed table hands)) (sym horizon) (apart left table hands valid accepted even));
}
