-- The least and the greatest last end of whole rows, and how many rows there are.
use Rattle.std.proofs.Common.{◌≡◌, ◌⊎◌, ℕ, ◌+◌, ◌<◌, ◌≤◌, Bool, true, false, cond, eqb, max, min, List, [], ◌∷◌, length, map, fold, Option, inl, inr, arith, sym, refl, ap, subst, ◌∙◌}
use Rattle.std.specs.List.{filter}
use Rattle.std.proofs.lemmas.Bool.{cases_lt, ne_eqb, eq-eqb}
use Rattle.std.proofs.lemmas.List.Sums.{length-filter}
use Rattle.bus_strings.specs.Members.{In}
use Rattle.bus_cycles.specs.Cuts.{Seen, is_whole}
use Rattle.bus_cycles.specs.Laws.{LastEndsAreOfRows, RowsAreCounted, RowsHaveLastEnds, WholeAreCounted}
use Rattle.bus_cycles.specs.Rows.{Cycle, Extent, Row, cycle_of, extent_of, rows}
use Rattle.bus_cycles.specs.Surveys.{Survey, least_with, last_end_of, nothing, with_row}

-- ---- the last ends bound those of whole rows
-- these last ends, of so many whole rows, bound one
record Bounds (whole least most n : ℕ) : Type 0 where
  some : 0 < whole
  low : least ≤ n
  high : n ≤ most

least_falls : (origin_offset whole least : ℕ) (row : Extent) → 0 < whole → least_with origin_offset whole least row ≤ least
least_falls origin_offset whole least row some =
    let test : eqb whole 0 ≡ false = ne_eqb whole 0 (λ e. omega arith) in
    let is : least_with origin_offset whole least row ≡ min least (last_end_of origin_offset row) = ap (λ b. cond b (last_end_of origin_offset row) (min least (last_end_of origin_offset row))) test in
    omega arith

least_here : (origin_offset whole least : ℕ) (row : Extent) → least_with origin_offset whole least row ≤ last_end_of origin_offset row
least_here origin_offset whole least row = by_case (eqb whole 0) where
  by_case : (b : Bool) → cond b (last_end_of origin_offset row) (min least (last_end_of origin_offset row)) ≤ last_end_of origin_offset row
  by_case true = omega arith
  by_case false = omega arith

-- with one row more, of which it is known whether it is whole
still : (origin_offset whole least most n : ℕ) (row : Extent) (t : Bool) → Bounds whole least most n
    → Bounds (cond t (whole + 1) whole) (cond t (least_with origin_offset whole least row) least) (cond t (max most (last_end_of origin_offset row)) most) n
still origin_offset whole least most n row true b =
    let falls : least_with origin_offset whole least row ≤ least = least_falls origin_offset whole least row b.some in
    let low : least ≤ n = b.low in
    let high : n ≤ most = b.high in
    record { some = omega arith; low = omega arith; high = omega arith }
still origin_offset whole least most n row false b = b

here : (origin_offset whole least most : ℕ) (row : Extent) (t : Bool) → t ≡ true
    → Bounds (cond t (whole + 1) whole) (cond t (least_with origin_offset whole least row) least) (cond t (max most (last_end_of origin_offset row)) most) (last_end_of origin_offset row)
here origin_offset whole least most row true e = record { some = omega arith; low = least_here origin_offset whole least row; high = omega arith }
here origin_offset whole least most row false e = absurd cc

abbrev Bound : Survey → ℕ → Type 0
Bound survey n = Bounds survey.whole survey.least survey.most n

keeps : (cycle : Cycle) (seen : Seen) (breach : Option ℕ) (list : List Row) (survey : Survey) (n : ℕ) → Bound survey n
    → Bound (fold (with_row cycle seen breach) survey (map extent_of list)) n
keeps cycle seen breach [] survey n b = b
keeps cycle seen breach (r ∷ rs) survey n b =
    keeps cycle seen breach rs (with_row cycle seen breach survey (extent_of r)) n
    (still cycle.origin_offset survey.whole survey.least survey.most n (extent_of r) (is_whole cycle seen (extent_of r)) b)

bounded : (cycle : Cycle) (seen : Seen) (breach : Option ℕ) (list : List Row) (survey : Survey) (row : Row) → In row list
    → is_whole cycle seen (extent_of row) ≡ true
    → Bound (fold (with_row cycle seen breach) survey (map extent_of list)) (last_end_of cycle.origin_offset (extent_of row))
bounded cycle seen breach [] survey row i e = absurd i
bounded cycle seen breach (r ∷ rs) survey row (inl same) e =
    let whole : is_whole cycle seen (extent_of r) ≡ true = subst (λ (y : Row). is_whole cycle seen (extent_of y) ≡ true) same e in
    subst (λ (y : Row). Bound (fold (with_row cycle seen breach) (with_row cycle seen breach survey (extent_of r)) (map extent_of rs)) (last_end_of cycle.origin_offset (extent_of y)))
    (sym same)
    (keeps cycle seen breach rs (with_row cycle seen breach survey (extent_of r)) (last_end_of cycle.origin_offset (extent_of r))
    (here cycle.origin_offset survey.whole survey.least survey.most (extent_of r) (is_whole cycle seen (extent_of r)) whole))
bounded cycle seen breach (r ∷ rs) survey row (inr i) e = bounded cycle seen breach rs (with_row cycle seen breach survey (extent_of r)) row i e

pub last_ends_bound : LastEndsAreOfRows
last_ends_bound table window list seen breach row i e =
    let b = bounded (cycle_of table) seen breach (rows table window list) (nothing (cycle_of table)) row i e in
    (b.low, b.high)

-- ---- a whole row has each of the two last ends
-- some whole row of a list has this last end
record HasLastEnd (cycle : Cycle) (seen : Seen) (list : List Row) (n : ℕ) : Type 0 where
  row : Row
  one : In row list
  whole : is_whole cycle seen (extent_of row) ≡ true
  ends : last_end_of cycle.origin_offset (extent_of row) ≡ n

-- so have some of these, where there are whole ones
record Reached (cycle : Cycle) (seen : Seen) (all : List Row) (whole least most : ℕ) : Type 0 where
  none : whole ≡ 0 → most ≡ 0
  low : 0 < whole → HasLastEnd cycle seen all least
  high : 0 < whole → HasLastEnd cycle seen all most

is_last_end : (cycle : Cycle) (seen : Seen) (list : List Row) (row : Row) (n : ℕ) → In row list → is_whole cycle seen (extent_of row) ≡ true
    → n ≡ last_end_of cycle.origin_offset (extent_of row) → HasLastEnd cycle seen list n
is_last_end cycle seen list row n i w e = record { row = row; one = i; whole = w; ends = sym e }

least_choice : (origin_offset whole least : ℕ) (row : Extent) → 0 < whole → (least_with origin_offset whole least row ≡ least) ⊎ (least_with origin_offset whole least row ≡ last_end_of origin_offset row)
least_choice origin_offset whole least row some =
    let test : eqb whole 0 ≡ false = ne_eqb whole 0 (λ e. omega arith) in
    let is : least_with origin_offset whole least row ≡ min least (last_end_of origin_offset row) = ap (λ b. cond b (last_end_of origin_offset row) (min least (last_end_of origin_offset row))) test in
    elim (cases_lt least (last_end_of origin_offset row)) [ inl less ↦ inl (omega arith) | inr more ↦ inr (omega arith) ]

most_choice : (most n : ℕ) → (max most n ≡ most) ⊎ (max most n ≡ n)
most_choice most n = elim (cases_lt most n) [ inl less ↦ inr (omega arith) | inr more ↦ inl (omega arith) ]

taken : (cycle : Cycle) (seen : Seen) (all : List Row) (row : Row) (whole least most : ℕ) → In row all → is_whole cycle seen (extent_of row) ≡ true
    → Reached cycle seen all whole least most
    → Reached cycle seen all (whole + 1) (least_with cycle.origin_offset whole least (extent_of row)) (max most (last_end_of cycle.origin_offset (extent_of row)))
taken cycle seen all row whole least most i w h =
    let ends : ℕ = last_end_of cycle.origin_offset (extent_of row) in
    let low : ℕ = least_with cycle.origin_offset whole least (extent_of row) in
    elim (cases_lt 0 whole) [
      | inl some ↦ record {
        none = λ e. absurd (omega arith);
        low = λ _. elim (least_choice cycle.origin_offset whole least (extent_of row) some) [
          | inl was ↦ subst (HasLastEnd cycle seen all) (sym was) (h.low some)
          | inr now ↦ is_last_end cycle seen all row low i w now
        ];
        high = λ _. elim (most_choice most ends) [
          | inl was ↦ subst (HasLastEnd cycle seen all) (sym was) (h.high some)
          | inr now ↦ is_last_end cycle seen all row (max most ends) i w now
        ];
      }
      | inr few ↦
          let zero : whole ≡ 0 = omega arith in
          let test : eqb whole 0 ≡ true = eq-eqb whole 0 zero in
          let low_is : low ≡ ends = ap (λ b. cond b ends (min least ends)) test in
          let none : most ≡ 0 = h.none zero in
          let high_is : max most ends ≡ ends = omega arith in
          record {
            none = λ e. absurd (omega arith);
            low = λ _. is_last_end cycle seen all row low i w low_is;
            high = λ _. is_last_end cycle seen all row (max most ends) i w high_is;
          }
    ]

reached_step : (cycle : Cycle) (seen : Seen) (all : List Row) (row : Row) (whole least most : ℕ) (t : Bool) → In row all
    → is_whole cycle seen (extent_of row) ≡ t → Reached cycle seen all whole least most
    → Reached cycle seen all (cond t (whole + 1) whole) (cond t (least_with cycle.origin_offset whole least (extent_of row)) least)
    (cond t (max most (last_end_of cycle.origin_offset (extent_of row))) most)
reached_step cycle seen all row whole least most true i w h = taken cycle seen all row whole least most i w h
reached_step cycle seen all row whole least most false i w h = h

reached_from : (cycle : Cycle) (seen : Seen) (breach : Option ℕ) (all list : List Row) (survey : Survey) → ((row : Row) → In row list → In row all)
    → Reached cycle seen all survey.whole survey.least survey.most
    → Reached cycle seen all (fold (with_row cycle seen breach) survey (map extent_of list)).whole
    (fold (with_row cycle seen breach) survey (map extent_of list)).least (fold (with_row cycle seen breach) survey (map extent_of list)).most
reached_from cycle seen breach all [] survey among h = h
reached_from cycle seen breach all (r ∷ rs) survey among h =
    reached_from cycle seen breach all rs (with_row cycle seen breach survey (extent_of r)) (λ row i. among row (inr i))
    (reached_step cycle seen all r survey.whole survey.least survey.most (is_whole cycle seen (extent_of r)) (among r (inl refl)) refl h)

pub rows_have_last_ends : RowsHaveLastEnds
rows_have_last_ends table window list seen breach some =
    let cycle : Cycle = cycle_of table in
    let first : Reached cycle seen (rows table window list) 0 0 0 =
    record { none = λ e. refl; low = λ h. absurd (omega arith); high = λ h. absurd (omega arith) } in
    let found = reached_from cycle seen breach (rows table window list) (rows table window list) (nothing cycle) (λ row i. i) first in
    let least = found.low some in
    let most = found.high some in (
      record { row = least.row; one = least.one; whole = least.whole; ends = least.ends },
      record { row = most.row; one = most.one; whole = most.whole; ends = most.ends },
    )

-- ---- each is counted
counted : (cycle : Cycle) (seen : Seen) (breach : Option ℕ) (list : List Row) (survey : Survey)
    → (fold (with_row cycle seen breach) survey (map extent_of list)).count ≡ survey.count + length list
counted cycle seen breach [] survey = let same : survey.count ≡ survey.count + 0 = omega arith in same
counted cycle seen breach (r ∷ rs) survey =
    let rest : (fold (with_row cycle seen breach) (with_row cycle seen breach survey (extent_of r)) (map extent_of rs)).count ≡ survey.count + 1 + length rs
    = counted cycle seen breach rs (with_row cycle seen breach survey (extent_of r)) in
    rest ∙ (let e : survey.count + 1 + length rs ≡ survey.count + length (r ∷ rs) = omega arith in e)

pub rows_are_counted : RowsAreCounted
rows_are_counted table window list seen breach =
    counted (cycle_of table) seen breach (rows table window list) (nothing (cycle_of table))
    ∙ (let e : 0 + length (rows table window list) ≡ length (rows table window list) = omega arith in e)

whole_step : (t : Bool) (whole : ℕ) (r : Row) (rs : List Row) → cond t (whole + 1) whole + length rs ≡ whole + length (cond t (r ∷ rs) rs)
whole_step true whole r rs = let e : whole + 1 + length rs ≡ whole + length (r ∷ rs) = omega arith in e
whole_step false whole r rs = refl

whole_from : (cycle : Cycle) (seen : Seen) (breach : Option ℕ) (list : List Row) (survey : Survey)
    → (fold (with_row cycle seen breach) survey (map extent_of list)).whole ≡ survey.whole + length (filter (λ (r : Row). is_whole cycle seen (extent_of r)) list)
whole_from cycle seen breach [] survey = let same : survey.whole ≡ survey.whole + 0 = omega arith in same
whole_from cycle seen breach (r ∷ rs) survey =
    whole_from cycle seen breach rs (with_row cycle seen breach survey (extent_of r))
    ∙ whole_step (is_whole cycle seen (extent_of r)) survey.whole r (filter (λ (r : Row). is_whole cycle seen (extent_of r)) rs)

pub whole_are_counted : WholeAreCounted
whole_are_counted table window list seen breach =
    let cycle : Cycle = cycle_of table in
    let test : Row → Bool = λ (r : Row). is_whole cycle seen (extent_of r) in
    let all : List Row = rows table window list in
    whole_from cycle seen breach all (nothing cycle)
    ∙ (let e : 0 + length (filter test all) ≡ length (filter test all) = omega arith in e) ∙ length-filter test all
