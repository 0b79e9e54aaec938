-- In aperiodic mode rows are cycles; rows are numbered; the counts are those of the rows.
use Rattle.std.proofs.Common.{◌≡◌, ℕ, zero, suc, ◌+◌, ◌-◌, ◌<◌, ◌≤◌, Bool, true, false, cond, List, [], ◌∷◌, ◌++◌, length, Some, arith, sym, refl, ap, ◌∙◌}
use Rattle.std.specs.Prelude.{slice_get}
use Rattle.std.specs.List.{AllByRecursion, count_by, filter, flat_map, sum_by}
use Rattle.std.proofs.lemmas.Bool.{leb-false, leb-true}
use Rattle.std.proofs.lemmas.List.Concat.{length-flat_map}
use Rattle.std.proofs.lemmas.List.{length-append}
use Rattle.std.proofs.lemmas.List.Elements.{filter-append}
use Rattle.std.proofs.lemmas.List.Sums.{length-filter, sum_by-cons}
use Rattle.bus_strings.proofs.ListLaws.{all_push}
use Rattle.bus_strings.proofs.MemberLaws.{of_each}
use Rattle.bus_table.specs.declared.mode.Mode.TheVariants.{Aperiodic}
use Rattle.bus_table.proofs.ValidLaws.{valid_facts}
use Rattle.bus_shapes.specs.declared.sent.Sent.{Sent}
use Rattle.bus_cycles.specs.Laws.{CountsAreOfRows, IsCycle, RowsAreCycles, RowsAreNumbered, garbled_of}
use Rattle.bus_cycles.specs.Rows.{Cycle, Row, cycle_of, is_new, is_new_in, row_at, rows, rows_from, rows_of, with_sent}
use Rattle.bus_cycles.specs.Sents.{shown}
use Rattle.bus_cycles.proofs.RowLemmas.{partition}

-- ---- cycles
new_cycle : (cycle : Cycle) (place : ℕ) (sent : Sent) → (0 < place → sent.before + cycle.sg ≤ sent.moment) → IsCycle cycle.sg (row_at cycle place sent)
new_cycle cycle place sent far = record { first = sent; others = []; sents_are = refl; far = far; near = tt }

more_cycle : (gap : ℕ) (row : Row) (sent : Sent) → sent.moment < sent.before + gap → IsCycle gap row → IsCycle gap (with_sent row sent)
more_cycle gap row sent near is = record {
  first = is.first;
  others = is.others ++ sent ∷ [];
  sents_are = ap (λ l. l ++ sent ∷ []) is.sents_are;
  far = is.far;
  near = all_push (λ (s : Sent). s.moment < s.before + gap) is.others sent is.near near;
}

cycle_step : (cycle : Cycle) (row : Row) (x : Sent) (xs : List Sent) (b : Bool) → 0 < cycle.sg → cycle.mode ≡ Aperiodic → IsCycle cycle.sg row
    → is_new cycle row.begin x ≡ b
    → (IsCycle cycle.sg (row_at cycle (row.place + 1) x) → AllByRecursion (IsCycle cycle.sg) (rows_from cycle (row_at cycle (row.place + 1) x) xs))
    → (IsCycle cycle.sg (with_sent row x) → AllByRecursion (IsCycle cycle.sg) (rows_from cycle (with_sent row x) xs))
    → AllByRecursion (IsCycle cycle.sg) (cond b (row ∷ rows_from cycle (row_at cycle (row.place + 1) x) xs) (rows_from cycle (with_sent row x) xs))
cycle_step cycle row x xs true some e is n new more =
    let test : is_new_in Aperiodic cycle row.begin x ≡ true = sym (ap (λ m. is_new_in m cycle row.begin x) e) ∙ n in
    let wide : cycle.sg ≤ x.moment - x.before = leb-true cycle.sg (x.moment - x.before) test in
    let far : x.before + cycle.sg ≤ x.moment = omega arith in
    (is, new (new_cycle cycle (row.place + 1) x (λ h. far)))
cycle_step cycle row x xs false some e is n new more =
    let test : is_new_in Aperiodic cycle row.begin x ≡ false = sym (ap (λ m. is_new_in m cycle row.begin x) e) ∙ n in
    let short : x.moment - x.before < cycle.sg = leb-false cycle.sg (x.moment - x.before) test in
    let near : x.moment < x.before + cycle.sg = omega arith in
    more (more_cycle cycle.sg row x near is)

cycles_from : (cycle : Cycle) (row : Row) (xs : List Sent) → 0 < cycle.sg → cycle.mode ≡ Aperiodic → IsCycle cycle.sg row
    → AllByRecursion (IsCycle cycle.sg) (rows_from cycle row xs)
cycles_from cycle row [] some e is = (is, tt)
cycles_from cycle row (x ∷ xs) some e is =
    cycle_step cycle row x xs (is_new cycle row.begin x) some e is refl (λ h. cycles_from cycle (row_at cycle (row.place + 1) x) xs some e h)
    (λ h. cycles_from cycle (with_sent row x) xs some e h)

cycles_of : (cycle : Cycle) (xs : List Sent) → 0 < cycle.sg → cycle.mode ≡ Aperiodic → AllByRecursion (IsCycle cycle.sg) (rows_of cycle xs)
cycles_of cycle [] some e = tt
cycles_of cycle (x ∷ xs) some e = cycles_from cycle (row_at cycle 0 x) xs some e (new_cycle cycle 0 x (λ h. absurd (omega arith)))

pub cycles : RowsAreCycles
cycles table window list row valid mode i =
    let facts = valid_facts table valid in
    let least : 9 ≤ table.sg = facts.sg_least in
    let some : 0 < table.sg = omega arith in
    of_each (IsCycle table.sg) (rows table window list) (cycles_of (cycle_of table) (shown window list) some mode) row i

-- ---- numbers
at_place : (row r : Row) → Some row ≡ Some r → r.place ≡ row.place + 0
at_place row r e = let same : row ≡ r = cc in let places : row.place ≡ r.place = ap (λ (y : Row). y.place) same in omega arith

numbered_step : (row r : Row) (new more : List Row) (b : Bool) (k : ℕ)
    → ((n : ℕ) → slice_get new n ≡ Some r → r.place ≡ row.place + 1 + n) → ((n : ℕ) → slice_get more n ≡ Some r → r.place ≡ row.place + n)
    → slice_get (cond b (row ∷ new) more) k ≡ Some r → r.place ≡ row.place + k
numbered_step row r new more true zero next same h = at_place row r h
numbered_step row r new more true (suc n) next same h = let rest : r.place ≡ row.place + 1 + n = next n h in omega arith
numbered_step row r new more false k next same h = same k h

numbered_from : (cycle : Cycle) (row : Row) (xs : List Sent) (k : ℕ) (r : Row) → slice_get (rows_from cycle row xs) k ≡ Some r → r.place ≡ row.place + k
numbered_from cycle row [] zero r e = at_place row r e
numbered_from cycle row [] (suc k) r e = absurd (cc)
numbered_from cycle row (x ∷ xs) k r e =
    numbered_step row r (rows_from cycle (row_at cycle (row.place + 1) x) xs) (rows_from cycle (with_sent row x) xs) (is_new cycle row.begin x) k
    (λ n h. numbered_from cycle (row_at cycle (row.place + 1) x) xs n r h) (λ n h. numbered_from cycle (with_sent row x) xs n r h) e

numbered_of : (cycle : Cycle) (xs : List Sent) (k : ℕ) (r : Row) → slice_get (rows_of cycle xs) k ≡ Some r → r.place ≡ k
numbered_of cycle [] k r e = absurd (cc)
numbered_of cycle (x ∷ xs) k r e = let at : r.place ≡ 0 + k = numbered_from cycle (row_at cycle 0 x) xs k r e in omega arith

pub numbered : RowsAreNumbered
numbered table window list k row e = numbered_of (cycle_of table) (shown window list) k row e

-- ---- counts
garbled_append : (xs ys : List Sent) → count_by (λ (s : Sent). s.garbled) (xs ++ ys) ≡ count_by (λ (s : Sent). s.garbled) xs + count_by (λ (s : Sent). s.garbled) ys
garbled_append xs ys =
    let test : Sent → Bool = λ (s : Sent). s.garbled in
    omega (arith, length-filter test (xs ++ ys), ap length (filter-append test xs ys), length-append (filter test xs) (filter test ys), length-filter test xs, length-filter test ys)

garbled_rows : (rs : List Row) → count_by (λ (s : Sent). s.garbled) (flat_map (λ (r : Row). r.sents) rs) ≡ sum_by garbled_of rs
garbled_rows [] = refl
garbled_rows (r ∷ rs) =
    let rest = garbled_rows rs in
    let parts = garbled_append r.sents (flat_map (λ (r : Row). r.sents) rs) in
    omega (arith, sum_by-cons garbled_of r rs)

pub counted : CountsAreOfRows
counted table window trace =
    let all = partition table window trace.list in (
      ap (length {A = Sent}) (sym all) ∙ length-flat_map (λ (r : Row). r.sents) (rows table window trace.list),
      ap (count_by (λ (s : Sent). s.garbled)) (sym all) ∙ garbled_rows (rows table window trace.list),
    )
