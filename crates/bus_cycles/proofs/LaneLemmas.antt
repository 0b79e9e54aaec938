-- The lanes of terminals, and that neighbours in turn order have different shades.
use Rattle.std.proofs.Common.{◌≡◌, ◌≢◌, ℕ, zero, suc, ◌+◌, ◌%◌, ◌<◌, ◌≤◌, true, false, cond, List, [], ◌∷◌, Some, inl, inr, length, get_or, drop, arith, sym, refl, ap, ◌∙◌}
use Rattle.std.specs.Prelude.{slice_get}
use Rattle.std.proofs.lemmas.Bool.{eq-eqb, ne_eqb}
use Rattle.std.proofs.lemmas.List.{ext_get_or}
use Rattle.std.proofs.lemmas.List.FromFn.{get_or-map-range_with_len, length-map-range_with_len}
use Rattle.bus_strings.specs.Members.{In}
use Rattle.bus_table.specs.Tables.{Sender, Table}
use Rattle.bus_table.specs.Turns.{turn_key, turn_order}
use Rattle.bus_table.specs.inside.Orders.{Differ, Rises}
use Rattle.bus_table.specs.inside.Facts.{SenderFacts, TableFacts}
use Rattle.bus_table.proofs.TurnLaws.{at_in, behind_rises, from_sort, numbers_differ, of_each, order_rises}
use Rattle.bus_table.proofs.ValidLaws.{valid_facts}
use Rattle.bus_shapes.specs.declared.counts.Counts.{Counts}
use Rattle.bus_shapes.specs.declared.sent.Sent.{Sent}
use Rattle.bus_cycles.specs.Lanes.{lane_from, lane_of, lanes_of}
use Rattle.bus_cycles.specs.Laws.{NeighboursDiffer}
use Rattle.bus_cycles.specs.Pages.{page_of}
use Rattle.bus_cycles.specs.RowTexts.{Shaded, shade, slot_of}
use Rattle.bus_cycles.specs.Surveys.{Survey}

-- ---- looking for a lane
pub lane_here : (order : List Sender) (k n : ℕ) (s : Sender) → drop k order ≡ s ∷ drop (k + 1) order → s.number ≡ n
    → lane_from k n (drop k order) ≡ k
lane_here order k n s at same =
    ap (lane_from k n) at ∙ ap (λ b. cond b k (lane_from (k + 1) n (drop (k + 1) order))) (eq-eqb s.number n same)

pub lane_later : (order : List Sender) (k n : ℕ) (s : Sender) → drop k order ≡ s ∷ drop (k + 1) order → s.number ≢ n
    → lane_from k n (drop k order) ≡ lane_from (k + 1) n (drop (k + 1) order)
lane_later order k n s at other =
    ap (lane_from k n) at ∙ ap (λ b. cond b k (lane_from (k + 1) n (drop (k + 1) order))) (ne_eqb s.number n other)

-- ---- all lanes
pub all_lanes : (table : Table) (lanes : List ℕ) → length lanes ≡ 256 → ((n : ℕ) → n < 256 → get_or lanes n 0 ≡ lane_of table n)
    → lanes ≡ lanes_of table
all_lanes table lanes long each =
    ext_get_or 0 lanes (lanes_of table) (long ∙ sym (length-map-range_with_len (lane_of table) 0 256))
    (λ i less. each i (omega (arith, long)) ∙ sym (get_or-map-range_with_len (lane_of table) 0 256 i i 0 (omega (arith, long)) (let e : 0 + i ≡ i = omega arith in e)))

-- ---- the lane of a sender
same_number : (bs : List Sender) → Differ (λ (s : Sender). s.number) bs → (a b : Sender) → In a bs → In b bs → a.number ≡ b.number → a ≡ b
same_number [] d a b i j e = absurd i
same_number (c ∷ cs) d a b (inl p) (inl q) e = p ∙ sym q
same_number (c ∷ cs) d a b (inl p) (inr j) e = absurd (d.0 b j (ap (λ (s : Sender). s.number) (sym p) ∙ e))
same_number (c ∷ cs) d a b (inr i) (inl q) e = absurd (d.0 a i (ap (λ (s : Sender). s.number) (sym q) ∙ sym e))
same_number (c ∷ cs) d a b (inr i) (inr j) e = same_number cs d.1 a b i j e

lane_at : (key : Sender → ℕ) (order : List Sender) (j k : ℕ) (s : Sender) → Rises key order
    → ((x : Sender) → In x order → x.number ≡ s.number → x ≡ s) → slice_get order k ≡ Some s → lane_from j s.number order ≡ j + k
lane_at key [] j k s rises one at = absurd (cc)
lane_at key (x ∷ xs) j zero s rises one at =
    let same : x ≡ s = cc in
    let here : lane_from j s.number (x ∷ xs) ≡ j =
    ap (λ b. cond b j (lane_from (j + 1) s.number xs)) (eq-eqb x.number s.number (ap (λ (y : Sender). y.number) same)) in
    omega (arith, here)
lane_at key (x ∷ xs) j (suc k) s rises one at =
    let less : key x < key s = behind_rises key x xs s rises.0 (at_in xs k s at) in
    let other : x.number ≢ s.number = λ e. (let same : key x ≡ key s = ap key (one x (inl refl) e) in absurd (omega arith)) in
    let later : lane_from j s.number (x ∷ xs) ≡ lane_from (j + 1) s.number xs =
    ap (λ b. cond b j (lane_from (j + 1) s.number xs)) (ne_eqb x.number s.number other) in
    let rest : lane_from (j + 1) s.number xs ≡ j + 1 + k = lane_at key xs (j + 1) k s rises.1 (λ y i e. one y (inr i) e) at in
    omega (arith, later, rest)

lane_is : (table : Table) (facts : TableFacts table) (k : ℕ) (s : Sender) → slice_get (turn_order table) k ≡ Some s → lane_of table s.number ≡ k
lane_is table facts k s at =
    let key : Sender → ℕ = turn_key table.mode in
    let member : (x : Sender) → In x (turn_order table) → In x table.senders = λ x i. from_sort key table.senders x i in
    let is : lane_of table s.number ≡ 0 + k =
    lane_at key (turn_order table) 0 k s (order_rises table facts)
    (λ x i e. same_number table.senders (numbers_differ table facts) x s (member x i) (member s (at_in (turn_order table) k s at)) e) at in
    omega (arith, is)

number_low : (table : Table) (facts : TableFacts table) (k : ℕ) (s : Sender) → slice_get (turn_order table) k ≡ Some s → s.number ≤ 128
number_low table facts k s at =
    (of_each (SenderFacts table) table.senders facts.senders s (from_sort (turn_key table.mode) table.senders s (at_in (turn_order table) k s at))).number_most

-- ---- shades
lane_told : (table : Table) (survey : Survey) (counts : Counts) (facts : TableFacts table) (k : ℕ) (s : Sender) (sent : Sent)
    → slice_get (turn_order table) k ≡ Some s → sent.terminal ≡ s.number → get_or (lanes_of table) sent.terminal 0 ≡ k
lane_told table survey counts facts k s sent at by =
    let low : s.number ≤ 128 = number_low table facts k s at in
    ap (λ n. get_or (lanes_of table) n 0) by ∙ get_or-map-range_with_len (lane_of table) 0 256 s.number s.number 0 (omega arith) (let e : 0 + s.number ≡ s.number = omega arith in e)
    ∙ lane_is table facts k s at

shade_is : (table : Table) (survey : Survey) (counts : Counts) (facts : TableFacts table) (k begin : ℕ) (s : Sender) (earlier : List Shaded) (sent : Sent)
    → slice_get (turn_order table) k ≡ Some s → sent.terminal ≡ s.number → sent.garbled ≡ false
    → shade (page_of table survey counts) begin earlier sent ≡ k % 2
shade_is table survey counts facts k begin s earlier sent at by plain =
    ap (λ b. cond b (2 + slot_of (page_of table survey counts) begin earlier sent) (get_or (lanes_of table) sent.terminal 0 % 2)) plain
    ∙ ap (λ n. n % 2) (lane_told table survey counts facts k s sent at by)

pub neighbours_differ : NeighboursDiffer
neighbours_differ table survey counts k begin a b before before' one other valid at_one at_other by_one by_other plain_one plain_other same =
    let facts : TableFacts table = valid_facts table valid in
    let first = shade_is table survey counts facts k begin a before one at_one by_one plain_one in
    let second = shade_is table survey counts facts (k + 1) begin b before' other at_other by_other plain_other in
    let equal : k % 2 ≡ (k + 1) % 2 = sym first ∙ same ∙ second in
    absurd (omega arith)
