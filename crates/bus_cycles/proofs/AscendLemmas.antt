-- Rows begin in ascending order.
use Rattle.std.proofs.Common.{◌≡◌, ◌≢◌, ℕ, ◌+◌, ◌*◌, ◌/◌, ◌-◌, ◌<◌, ◌≤◌, Bool, true, false, cond, max, min, List, [], ◌∷◌, ◌++◌, length, take, inl, inr, arith, sym, refl, ap, subst, ◌∙◌, append_assoc}
use Rattle.std.specs.Prelude.{not}
use Rattle.std.specs.List.{AllByRecursion, filter}
use Rattle.std.proofs.lemmas.Bool.{eq-eqb, leb-true, ne_eqb, true≢false}
use Rattle.std.proofs.lemmas.List.{length-append}
use Rattle.std.proofs.lemmas.List.Sums.{fold-append}
use Rattle.std.proofs.Math.Nat.{div-mul-le_self, le-div_iff_mul-le, mul-le-mul_right}
use Rattle.bus_strings.specs.Marking.{greatest_end}
use Rattle.bus_strings.proofs.MessageLaws.{bits_some}
use Rattle.bus_strings.specs.Messages.{Entry}
use Rattle.bus_strings.specs.Transmissions.{Precedes, IsAscending, end_of}
use Rattle.bus_table.specs.declared.mode.Mode.{Mode}
use Rattle.bus_table.specs.declared.mode.Mode.TheVariants.{Aperiodic, Periodic}
use Rattle.bus_table.proofs.ValidLaws.{valid_facts}
use Rattle.bus_trace.specs.Traces.{IsBelow}
use Rattle.bus_shapes.specs.declared.sent.Sent.{Sent}
use Rattle.bus_shapes.specs.Sending.{sents, sents_from}
use Rattle.bus_cycles.specs.Laws.{Ascend, RowsAscend}
use Rattle.bus_cycles.specs.Rows.{Cycle, Row, begin_in, begin_of, cycle_of, ended_from, interval_of, is_new, is_new_in, row_at, rows_from, rows_of, with_sent}
use Rattle.bus_cycles.specs.Sents.{is_shown, shown}
use Rattle.bus_cycles.proofs.SentLemmas.{filtered}

-- ---- what is told goes on in order
-- a transmission begins no earlier than this moment, and behind the end of one that began then
pub record IsBehind (m : ℕ) (sent : Sent) : Type 0 where
  pub moment : m ≤ sent.moment
  pub before : m < sent.before

abbrev pub Chain : List Sent → Type 0
Chain [] = Unit {0}
Chain (x ∷ xs) = AllByRecursion (IsBehind x.moment) xs × Chain xs

behind_from : (all front xs : List Entry) (m : ℕ) → all ≡ front ++ xs → m < greatest_end front → AllByRecursion (λ y. m ≤ y.moment) xs
    → AllByRecursion (IsBehind m) (sents_from all (length front) xs)
behind_from all front [] m parts low late = tt
behind_from all front (x ∷ xs) m parts low late =
    let before : greatest_end (take (length front) all) ≡ greatest_end front = ap (λ l. greatest_end (take (length front) l)) parts ∙ ap greatest_end (front_of front (x ∷ xs)) in
    let here : m < greatest_end (take (length front) all) = omega arith in
    let rest_parts : all ≡ (front ++ x ∷ []) ++ xs = parts ∙ sym (append_assoc front (x ∷ []) xs) in
    let long : length (front ++ x ∷ []) ≡ length front + 1 = length-append front (x ∷ []) in
    let more : greatest_end (front ++ x ∷ []) ≡ max (greatest_end front) (end_of x) = fold-append (λ end y. max end (end_of y)) 0 front (x ∷ []) in
    let further : m < greatest_end (front ++ x ∷ []) = omega arith in (
      record { moment = late.0; before = here },
      subst (λ n. AllByRecursion (IsBehind m) (sents_from all n xs)) long (behind_from all (front ++ x ∷ []) xs m rest_parts further late.1),
    )
  where
    front_of : (xs ys : List Entry) → take (length xs) (xs ++ ys) ≡ xs
    front_of [] ys = refl
    front_of (x ∷ xs) ys = ap (λ l. x ∷ l) (front_of xs ys)

chain_from : (all front xs : List Entry) (horizon : ℕ) → all ≡ front ++ xs → IsAscending xs → AllByRecursion (IsBelow horizon) xs → Chain (sents_from all (length front) xs)
chain_from all front [] horizon parts order below = tt
chain_from all front (x ∷ xs) horizon parts order below =
    let rest_parts : all ≡ (front ++ x ∷ []) ++ xs = parts ∙ sym (append_assoc front (x ∷ []) xs) in
    let long : length (front ++ x ∷ []) ≡ length front + 1 = length-append front (x ∷ []) in
    let more : greatest_end (front ++ x ∷ []) ≡ max (greatest_end front) (end_of x) = fold-append (λ end y. max end (end_of y)) 0 front (x ∷ []) in
    let some = bits_some x.message below.0.message.some in
    let further : x.moment < greatest_end (front ++ x ∷ []) = omega arith in (
      subst (λ n. AllByRecursion (IsBehind x.moment) (sents_from all n xs)) long (behind_from all (front ++ x ∷ []) xs x.moment rest_parts further (late x xs order.0)),
      subst (λ n. Chain (sents_from all n xs)) long (chain_from all (front ++ x ∷ []) xs horizon rest_parts order.1 below.1),
    )
  where
    late : (x : Entry) (ys : List Entry) → AllByRecursion (Precedes x) ys → AllByRecursion (λ y. x.moment ≤ y.moment) ys
    late x [] h = tt
    late x (y ∷ ys) h = (elim h.0 [ inl l ↦ omega arith | inr r ↦ (let same : x.moment ≡ y.moment = r.0 in omega arith) ], late x ys h.1)

pub chain : (list : List Entry) (horizon : ℕ) → IsAscending list → AllByRecursion (IsBelow horizon) list → Chain (sents list)
chain list horizon order below = chain_from list [] list horizon refl order below

pub chain_filtered : (p : Sent → Bool) (xs : List Sent) → Chain xs → Chain (filter p xs)
chain_filtered p [] h = tt
chain_filtered p (x ∷ xs) h =
    elim (p x) as (λ b. Chain (cond b (x ∷ filter p xs) (filter p xs))) [
      | true ↦ (filtered (IsBehind x.moment) p xs h.0, chain_filtered p xs h.1)
      | false ↦ chain_filtered p xs h.1
    ]

-- ---- a new row begins later
whole_below : (ti m b q : ℕ) → 0 < ti → b ≡ q * ti → b ≤ m → b ≤ interval_of ti m
whole_below ti m b q some is low =
    let fits : q * ti ≤ m = omega (arith, is) in
    let quotient : q ≤ m / ti = (le-div_iff_mul-le some).1 fits in
    subst (λ n. n ≤ m / ti * ti) (sym is) (mul-le-mul_right' q (m / ti) ti quotient)
  where
    mul-le-mul_right' : (a b c : ℕ) → a ≤ b → a * c ≤ b * c
    mul-le-mul_right' a b c h = mul-le-mul_right c h

-- the same, of a moment that is counted from before the settled start
record IsAfter (origin_offset b : ℕ) (sent : Sent) : Type 0 where
  moment : b ≤ sent.moment + origin_offset
  before : b < sent.before + origin_offset
  some : 0 < sent.before

-- a moment at which a row may begin: in periodic mode the beginning of an interval
abbrev IsStart : Mode → Cycle → ℕ → Type 0
IsStart Periodic cycle b = (q : ℕ) × (b ≡ q * cycle.ti + cycle.origin_offset)
IsStart Aperiodic cycle b = Unit {0}

starts : (mode : Mode) (cycle : Cycle) (sent : Sent) → IsStart mode cycle (begin_in mode cycle sent)
starts Periodic cycle sent = (sent.moment / cycle.ti, refl)
starts Aperiodic cycle sent = tt

begins_below : (mode : Mode) (cycle : Cycle) (sent : Sent) → begin_in mode cycle sent ≤ sent.moment + cycle.origin_offset
begins_below Periodic cycle sent = (let low : interval_of cycle.ti sent.moment ≤ sent.moment = div-mul-le_self sent.moment cycle.ti in omega arith)
begins_below Aperiodic cycle sent = within (sent.moment + cycle.origin_offset) (max (ended_from cycle sent) (sent.moment + cycle.origin_offset - cycle.lead)) where
  within : (m n : ℕ) → min m n ≤ m
  within m n = omega arith

between : (b m e n : ℕ) → b < m → b < e → b < min m (max e n)
between b m e n h k = omega arith

ended_is : (cycle : Cycle) (sent : Sent) → 0 < sent.before → ended_from cycle sent ≡ sent.before + cycle.origin_offset
ended_is cycle sent some = ap (λ b. cond b 0 (sent.before + cycle.origin_offset)) (ne_eqb sent.before 0 (λ e. omega arith))

new_later : (mode : Mode) (cycle : Cycle) (b : ℕ) (sent : Sent) → 0 < cycle.ti → 0 < cycle.sg → IsStart mode cycle b → IsAfter cycle.origin_offset b sent
    → is_new_in mode cycle b sent ≡ true → b < begin_in mode cycle sent
new_later Periodic cycle b sent some gap start after new =
    let q : ℕ = start.0 in
    let is : b ≡ q * cycle.ti + cycle.origin_offset = start.1 in
    let late : b ≤ sent.moment + cycle.origin_offset = after.moment in
    let from : q * cycle.ti ≤ interval_of cycle.ti sent.moment =
    whole_below cycle.ti sent.moment (q * cycle.ti) q some refl (drop_origin_offset b (q * cycle.ti) cycle.origin_offset sent.moment is late) in
    let other : interval_of cycle.ti sent.moment + cycle.origin_offset ≢ b =
    λ e. true≢false (sym new ∙ ap not (eq-eqb (interval_of cycle.ti sent.moment + cycle.origin_offset) b e)) in
    further b (q * cycle.ti) cycle.origin_offset (interval_of cycle.ti sent.moment) is from other
  where
    drop_origin_offset : (b n origin_offset m : ℕ) → b ≡ n + origin_offset → b ≤ m + origin_offset → n ≤ m
    drop_origin_offset b n origin_offset m h k = omega arith

    further : (b n origin_offset m : ℕ) → b ≡ n + origin_offset → n ≤ m → m + origin_offset ≢ b → b < m + origin_offset
    further b n origin_offset m h k l = omega (arith, l)
new_later Aperiodic cycle b sent some gap start after new =
    let wide : cycle.sg ≤ sent.moment - sent.before = leb-true cycle.sg (sent.moment - sent.before) new in
    let before : b < sent.before + cycle.origin_offset = after.before in
    let moment : b < sent.moment + cycle.origin_offset = omega arith in
    between b (sent.moment + cycle.origin_offset) (ended_from cycle sent) (sent.moment + cycle.origin_offset - cycle.lead) moment
    (subst (λ n. b < n) (sym (ended_is cycle sent after.some)) before)

-- ---- rows
weaker : (origin_offset : ℕ) (xs : List Sent) (m b : ℕ) → b ≤ m + origin_offset → AllByRecursion (IsBehind m) xs → AllByRecursion (IsAfter origin_offset b) xs
weaker origin_offset [] m b low all = tt
weaker origin_offset (x ∷ xs) m b low all =
    let late : m ≤ x.moment = all.0.moment in
    let behind : m < x.before = all.0.before in
    (record { moment = omega arith; before = omega arith; some = omega arith }, weaker origin_offset xs m b low all.1)

later_step : (cycle : Cycle) (row : Row) (x : Sent) (xs : List Sent) (b : ℕ) (t : Bool) → b < row.begin → is_new cycle row.begin x ≡ t
    → (is_new cycle row.begin x ≡ true → row.begin < begin_of cycle x)
    → (b < begin_of cycle x → AllByRecursion (λ (r : Row). b < r.begin) (rows_from cycle (row_at cycle (row.place + 1) x) xs))
    → AllByRecursion (λ (r : Row). b < r.begin) (rows_from cycle (with_sent row x) xs)
    → AllByRecursion (λ (r : Row). b < r.begin) (cond t (row ∷ rows_from cycle (row_at cycle (row.place + 1) x) xs) (rows_from cycle (with_sent row x) xs))
later_step cycle row x xs b true low new later next more = let further : row.begin < begin_of cycle x = later new in (low, next (omega arith))
later_step cycle row x xs b false low new later next more = more

later_rows : (cycle : Cycle) (row : Row) (xs : List Sent) (b : ℕ) → 0 < cycle.ti → 0 < cycle.sg → IsStart cycle.mode cycle row.begin → b < row.begin
    → AllByRecursion (IsAfter cycle.origin_offset row.begin) xs → Chain xs → AllByRecursion (λ (r : Row). b < r.begin) (rows_from cycle row xs)
later_rows cycle row [] b some gap start low behind h = (low, tt)
later_rows cycle row (x ∷ xs) b some gap start low behind h =
    later_step cycle row x xs b (is_new cycle row.begin x) low refl (new_later cycle.mode cycle row.begin x some gap start behind.0)
    (λ l. later_rows cycle (row_at cycle (row.place + 1) x) xs b some gap (starts cycle.mode cycle x) l
    (weaker cycle.origin_offset xs x.moment (begin_of cycle x) (begins_below cycle.mode cycle x) h.0) h.1)
    (later_rows cycle (with_sent row x) xs b some gap start low behind.1 h.1)

ascend_step : (cycle : Cycle) (row : Row) (x : Sent) (xs : List Sent) (t : Bool) → is_new cycle row.begin x ≡ t
    → (is_new cycle row.begin x ≡ true → AllByRecursion (λ (r : Row). row.begin < r.begin) (rows_from cycle (row_at cycle (row.place + 1) x) xs))
    → Ascend (rows_from cycle (row_at cycle (row.place + 1) x) xs) → Ascend (rows_from cycle (with_sent row x) xs)
    → Ascend (cond t (row ∷ rows_from cycle (row_at cycle (row.place + 1) x) xs) (rows_from cycle (with_sent row x) xs))
ascend_step cycle row x xs true new later next more = (later new, next)
ascend_step cycle row x xs false new later next more = more

ascend_from : (cycle : Cycle) (row : Row) (xs : List Sent) → 0 < cycle.ti → 0 < cycle.sg → IsStart cycle.mode cycle row.begin
    → AllByRecursion (IsAfter cycle.origin_offset row.begin) xs → Chain xs → Ascend (rows_from cycle row xs)
ascend_from cycle row [] some gap start behind h = (tt, tt)
ascend_from cycle row (x ∷ xs) some gap start behind h =
    let next = weaker cycle.origin_offset xs x.moment (begin_of cycle x) (begins_below cycle.mode cycle x) h.0 in
    ascend_step cycle row x xs (is_new cycle row.begin x) refl
    (λ new. later_rows cycle (row_at cycle (row.place + 1) x) xs row.begin some gap (starts cycle.mode cycle x)
    (new_later cycle.mode cycle row.begin x some gap start behind.0 new) next h.1)
    (ascend_from cycle (row_at cycle (row.place + 1) x) xs some gap (starts cycle.mode cycle x) next h.1)
    (ascend_from cycle (with_sent row x) xs some gap start behind.1 h.1)

ascend_of : (cycle : Cycle) (xs : List Sent) → 0 < cycle.ti → 0 < cycle.sg → Chain xs → Ascend (rows_of cycle xs)
ascend_of cycle [] some gap h = tt
ascend_of cycle (x ∷ xs) some gap h =
    ascend_from cycle (row_at cycle 0 x) xs some gap (starts cycle.mode cycle x)
    (weaker cycle.origin_offset xs x.moment (begin_of cycle x) (begins_below cycle.mode cycle x) h.0) h.1

pub rows_ascend : RowsAscend
rows_ascend table window trace valid is =
    let facts = valid_facts table valid in
    let least : 1000 ≤ table.ti = facts.ti_least in
    let gap : 9 ≤ table.sg = facts.sg_least in
    ascend_of (cycle_of table) (shown window trace.list) (omega arith) (omega arith)
    (chain_filtered (is_shown window) (sents trace.list) (chain trace.list trace.horizon is.order is.list))
