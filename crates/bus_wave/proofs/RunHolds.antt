-- The holds that a run states are those of its list.
use Rattle.std.proofs.Common.{arith, ◌≡◌, ◌≢◌, ℕ, zero, suc, ◌+◌, ◌*◌, Bool, true, false, cond, ◌==◌, List, [], ◌∷◌, length, Option, Some}
use Rattle.std.proofs.Common.{inl, inr, refl, sym, ap, ◌∙◌}
use Rattle.std.specs.Prelude.{IsTrue, nat_lt}
use Rattle.std.specs.List.{list_all, filter_map, range_with_len, cons_option}
use Rattle.std.proofs.lemmas.Bool.{and_parts, eqb-true, eq-eqb, ne_eqb}
use Rattle.std.proofs.lemmas.List.Sums.{sum_by-cons, sum_by-append}
use Rattle.bus_strings.specs.Members.{In}
use Rattle.bus_strings.specs.Messages.{Message, Entry}
use Rattle.bus_strings.specs.Transmissions.{end_of}
use Rattle.bus_table.specs.declared.mode.Mode.{Mode}
use Rattle.bus_table.specs.declared.mode.Mode.TheVariants.{Aperiodic, Periodic}
use Rattle.bus_table.specs.Fits.{fits}
use Rattle.bus_table.specs.Hands.{are_hands}
use Rattle.bus_table.specs.Tables.{Sender, Table, Hand}
use Rattle.bus_table.specs.Turns.{insert, sort, turn_key, turn_order}
use Rattle.bus_table.specs.inside.Orders.{Differ}
use Rattle.bus_table.proofs.TurnLaws.{numbers_differ}
use Rattle.bus_table.specs.Valid.{is_valid}
use Rattle.bus_table.proofs.ValidLaws.{valid_facts}
use Rattle.bus_schedule.specs.Closed.{sends, turns, origin, offset_turns, in_rounds, schedule_in, closed}
use Rattle.bus_schedule.specs.Even.{messages_of, rounds, are_even}
use Rattle.bus_trace.specs.declared.hold.Hold.{Hold}
use Rattle.bus_hands.specs.Holds.{hand_hold, hand_holds}
use Rattle.bus_wave.specs.Counted.{entries_of, hold_at, holds_of}
use Rattle.bus_wave.specs.WaveLaws.{RunsAreSpaced, RunsAreWaveTraces}

-- ---- how many senders of some have a number
numbered : ℕ → List Sender → ℕ
numbered number [] = 0
numbered number (a ∷ senders) = cond (a.number == number) 1 0 + numbered number senders

numbered_insert : (number : ℕ) (key : Sender → ℕ) (a : Sender) (bs : List Sender)
    → numbered number (insert key a bs) ≡ cond (a.number == number) 1 0 + numbered number bs
unfolding numbered
numbered_insert number key a [] = refl
numbered_insert number key a (c ∷ cs) =
    elim (nat_lt (key a) (key c)) as (λ b. numbered number (cond b (a ∷ (c ∷ cs)) (c ∷ insert key a cs)) ≡ cond (a.number == number) 1 0 + numbered number (c ∷ cs)) [
      | true ↦ refl
      | false ↦ (let rest = numbered_insert number key a cs in omega (arith, rest))
    ]

numbered_sort : (number : ℕ) (key : Sender → ℕ) (bs : List Sender) → numbered number (sort key bs) ≡ numbered number bs
unfolding numbered
numbered_sort number key [] = refl
numbered_sort number key (a ∷ bs) =
    numbered_insert number key a (sort key bs) ∙ ap (λ n. cond (a.number == number) 1 0 + n) (numbered_sort number key bs)

none_numbered : (number : ℕ) (bs : List Sender) → ((b : Sender) → In b bs → b.number ≢ number) → numbered number bs ≡ 0
unfolding numbered
none_numbered number [] h = refl
none_numbered number (a ∷ bs) h =
    let rest : numbered number bs ≡ 0 = none_numbered number bs (λ b i. h b (inr i)) in
    rw (ne_eqb a.number number (h a (inl refl))) (let more : 0 + numbered number bs ≡ 0 = omega (arith, rest) in more)

one_numbered : (bs : List Sender) (s : Sender) → Differ (λ a. a.number) bs → In s bs → numbered s.number bs ≡ 1
unfolding numbered
one_numbered [] s d i = absurd i
one_numbered (a ∷ bs) s d (inl same) =
    let e : a.number ≡ s.number = ap (λ (b : Sender). b.number) (sym same) in
    let none : numbered s.number bs ≡ 0 = none_numbered s.number bs (λ b i k. d.0 b i (e ∙ sym k)) in
    rw (eq-eqb a.number s.number e) (ap (λ n. 1 + n) none)
one_numbered (a ∷ bs) s d (inr i) =
    let rest : numbered s.number bs ≡ 1 = one_numbered bs s d.1 i in
    rw (ne_eqb a.number s.number (d.0 s i)) (let more : 0 + numbered s.number bs ≡ 1 = omega (arith, rest) in more)

-- ---- how many entries of a closed schedule have a number
turns_numbered : (messages : ℕ → List Message) (round number : ℕ) (order : List Sender) (from : ℕ)
    → entries_of (turns messages round order from) number ≡ numbered number order
unfolding numbered
turns_numbered messages round number [] from = refl
turns_numbered messages round number (a ∷ order) from =
    let x : Entry = sends messages round a (from + a.tg) in
    sum_by-cons (λ (e : Entry). cond (e.terminal == number) 1 0) x (turns messages round order (end_of x))
    ∙ ap (λ n. cond (a.number == number) 1 0 + n) (turns_numbered messages round number order (end_of x))

offsets_numbered : (messages : ℕ → List Message) (round number : ℕ) (order : List Sender) (base : ℕ)
    → entries_of (offset_turns messages round order base) number ≡ numbered number order
unfolding numbered
offsets_numbered messages round number [] base = refl
offsets_numbered messages round number (a ∷ order) base =
    sum_by-cons (λ (e : Entry). cond (e.terminal == number) 1 0) (sends messages round a (base + a.at)) (offset_turns messages round order base)
    ∙ ap (λ n. cond (a.number == number) 1 0 + n) (offsets_numbered messages round number order base)

rounds_numbered : (f : ℕ → List Entry) (number n : ℕ) → ((r : ℕ) → entries_of (f r) number ≡ 1) → entries_of (in_rounds f n) number ≡ n
rounds_numbered f number zero h = refl
rounds_numbered f number (suc n) h =
    let both : entries_of (in_rounds f (suc n)) number ≡ entries_of (in_rounds f n) number + entries_of (f n) number =
    sum_by-append (λ (e : Entry). cond (e.terminal == number) 1 0) (in_rounds f n) (f n) in
    let before : entries_of (in_rounds f n) number ≡ n = rounds_numbered f number n h in
    let last : entries_of (f n) number ≡ 1 = h n in
    both ∙ ap (λ m. m + entries_of (f n) number) before ∙ ap (λ m. n + m) last ∙ omega arith

in_mode : (mode : Mode) (table : Table) (messages : ℕ → List Message) (n number : ℕ) → numbered number (turn_order table) ≡ 1
    → entries_of (schedule_in mode table messages n) number ≡ n
in_mode Aperiodic table messages n number one =
    let order : ℕ → List Sender = λ r. turn_order table in
    rounds_numbered (λ r. turns messages r (turn_order table) (origin messages table.sg order r)) number n
    (λ r. turns_numbered messages r number (turn_order table) (origin messages table.sg order r) ∙ one)
in_mode Periodic table messages n number one =
    rounds_numbered (λ r. offset_turns messages r (turn_order table) (r * table.ti)) number n
    (λ r. offsets_numbered messages r number (turn_order table) (r * table.ti) ∙ one)

closed_numbered : (table : Table) (hands : List Hand) (s : Sender) → IsTrue (is_valid table) → In s table.senders
    → entries_of (closed table hands) s.number ≡ rounds hands
closed_numbered table hands s valid i =
    in_mode table.mode table (messages_of hands) (rounds hands) s.number
    (numbered_sort s.number (turn_key table.mode) table.senders ∙ one_numbered table.senders s (numbers_differ table (valid_facts table valid)) i)

-- ---- holds
same_hold : (a b c d : ℕ) → a ≡ c → b ≡ d → (let h : Hold = record { terminal = a; count = b } in h) ≡ (let h : Hold = record { terminal = c; count = d } in h)
same_hold a b c d h k = rw (h, k) refl

hold_same : (n : ℕ) (list : List Entry) (senders : List Sender) (hands : List Hand) → are_hands senders hands ≡ true
    → list_all (λ hand. length hand.messages == n) hands ≡ true → ((s : Sender) → In s senders → entries_of list s.number ≡ n) → (number : ℕ)
    → hand_hold hands number ≡ hold_at senders list number
hold_same n list [] [] h counts own number = refl
hold_same n list [] (hand ∷ hands) h counts own number = absurd cc
hold_same n list (a ∷ senders) [] h counts own number = absurd cc
hold_same n list (a ∷ senders) (hand ∷ hands) h counts own number =
    let parts = and_parts (hand.terminal == a.number) _ h in
    let more = and_parts (list_all (fits a) hand.messages) _ parts.1 in
    let each = and_parts (length hand.messages == n) _ counts in
    let terminal : hand.terminal ≡ a.number = eqb-true hand.terminal a.number parts.0 in
    let many : length hand.messages ≡ n = eqb-true (length hand.messages) n each.0 in
    let rest : hand_hold hands number ≡ hold_at senders list number = hold_same n list senders hands more.1 each.1 (λ s i. own s (inr i)) number in
    by_test terminal many rest (a.number == number) refl where
      by_test : hand.terminal ≡ a.number → length hand.messages ≡ n → hand_hold hands number ≡ hold_at senders list number → (b : Bool) → (a.number == number) ≡ b
          → hand_hold (hand ∷ hands) number ≡ hold_at (a ∷ senders) list number
      by_test terminal many rest true e =
          let is : a.number ≡ number = eqb-true a.number number e in
          let there : (hand.terminal == number) ≡ true = eq-eqb hand.terminal number (terminal ∙ is) in
          let count : entries_of list number ≡ n = ap (entries_of list) (sym is) ∙ own a (inl refl) in
          rw (e, there) (ap Some (same_hold hand.terminal (length hand.messages) number (entries_of list number) (terminal ∙ is) (many ∙ sym count)))
      by_test terminal many rest false e =
          let there : (hand.terminal == number) ≡ false = ap (λ t. t == number) terminal ∙ e in
          rw (e, there) rest

map_alike : {X Y : Type 0} (f g : X → Option Y) (xs : List X) → ((x : X) → f x ≡ g x) → filter_map f xs ≡ filter_map g xs
map_alike f g [] h = refl
map_alike f g (x ∷ xs) h = ap (λ o. cons_option o (filter_map f xs)) (h x) ∙ ap (λ ys. cons_option (g x) ys) (map_alike f g xs h)

run_holds : (table : Table) (hands : List Hand) → IsTrue (is_valid table) → IsTrue (are_even table hands)
    → hand_holds hands ≡ holds_of table (closed table hands)
unfolding hand_holds holds_of
run_holds table hands valid even =
    let parts = and_parts (are_hands table.senders hands) (list_all (λ hand. length hand.messages == rounds hands) hands) even in
    map_alike (hand_hold hands) (hold_at table.senders (closed table hands)) (range_with_len 1 128)
    (hold_same (rounds hands) (closed table hands) table.senders hands parts.0 parts.1 (λ s i. closed_numbered table hands s valid i))

pub runs_are_wave_traces : RunsAreSpaced → RunsAreWaveTraces
runs_are_wave_traces spaced table hands t valid accepted even trace run = record {
  trace = trace;
  spaced = spaced table hands t valid accepted even run.list run.horizon;
  holds = run.holds ∙ run_holds table hands valid even ∙ ap (holds_of table) (sym run.list);
}
