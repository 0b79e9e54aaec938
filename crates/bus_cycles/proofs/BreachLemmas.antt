-- A breach that is drawn stands at its moment.
use Rattle.std.proofs.Common.{◌≡◌, ◌⊎◌, ℕ, ◌+◌, ◌-◌, ◌<◌, ◌≤◌, Bool, true, false, cond, max, List, [], ◌∷◌, Option, Some, inl, inr, arith, sym, refl, ap, subst, ◌∙◌}
use Rattle.std.specs.Prelude.{fold, map}
use Rattle.std.specs.List.{AllByRecursion}
use Rattle.std.proofs.lemmas.Bool.{eqb-true, leb-true}
use Rattle.bus_strings.specs.Members.{In}
use Rattle.bus_table.specs.declared.mode.Mode.{Mode}
use Rattle.bus_table.specs.declared.mode.Mode.TheVariants.{Aperiodic, Periodic}
use Rattle.bus_table.proofs.ValidLaws.{valid_facts}
use Rattle.bus_cycles.specs.Laws.{Ascend}
use Rattle.bus_cycles.specs.MarkLaws.{BreachIsAtItsMoment, TheLastRowIsMarked}
use Rattle.bus_cycles.specs.Rows.{Cycle, Extent, Row, cycle_of, extent_of, interval_of, rows, takes, takes_in}
use Rattle.bus_cycles.specs.Cuts.{Seen}
use Rattle.bus_cycles.specs.Sents.{shown}
use Rattle.bus_cycles.specs.Surveys.{Survey, is_drawn, nothing, reach_of, told_of, with_row}
use Rattle.bus_cycles.proofs.AscendLemmas.{rows_ascend}
use Rattle.bus_cycles.proofs.RowLemmas.{no_origin_offset, within_interval}

-- ---- the row that is marked is one of the rows, and takes the breach
pub record IsTaken (cycle : Cycle) (moment : ℕ) (list : List Row) (extent : Extent) : Type 0 where
  pub row : Row
  pub one : In row list
  pub extent_is : extent ≡ extent_of row
  pub takes_it : takes cycle extent moment ≡ true

taken_from : (cycle : Cycle) (seen : Seen) (moment : ℕ) (list : List Row) (survey : Survey) (extent : Extent)
    → (fold (with_row cycle seen (Some moment)) survey (map extent_of list)).marked ≡ Some extent → (survey.marked ≡ Some extent) ⊎ IsTaken cycle moment list extent
taken_from cycle seen moment [] survey extent e = inl e
taken_from cycle seen moment (r ∷ rs) survey extent e =
    elim (taken_from cycle seen moment rs (with_row cycle seen (Some moment) survey (extent_of r)) extent e) [
      | inl here ↦ both (takes cycle (extent_of r) moment) refl here
      | inr later ↦ inr (record { row = later.row; one = inr later.one; extent_is = later.extent_is; takes_it = later.takes_it })
    ]
  where
    both : (b : Bool) → takes cycle (extent_of r) moment ≡ b → cond b (Some (extent_of r)) survey.marked ≡ Some extent
        → (survey.marked ≡ Some extent) ⊎ IsTaken cycle moment (r ∷ rs) extent
    both true t h =
        let same : extent_of r ≡ extent = cc in
        inr (record { row = r; one = inl refl; extent_is = sym same; takes_it = subst (λ (x : Extent). takes cycle x moment ≡ true) same t })
    both false t h = inl h

-- ---- what a row takes
pub record IsTaking (mode : Mode) (cycle : Cycle) (extent : Extent) (moment : ℕ) : Type 0 where
  pub begun : extent.begin ≤ moment + cycle.origin_offset
  pub within : mode ≡ Periodic → moment + cycle.origin_offset < extent.begin + cycle.ti

taking : (mode : Mode) (cycle : Cycle) (extent : Extent) (moment : ℕ) → 0 < cycle.ti → takes_in mode cycle extent moment ≡ true
    → IsTaking mode cycle extent moment
taking Periodic cycle extent moment some e =
    let at : interval_of cycle.ti moment + cycle.origin_offset ≡ extent.begin = eqb-true (interval_of cycle.ti moment + cycle.origin_offset) extent.begin e in
    let parts = within_interval cycle.ti moment some in
    let low : interval_of cycle.ti moment ≤ moment = parts.0 in
    let high : moment < interval_of cycle.ti moment + cycle.ti = parts.1 in
    record { begun = begins (interval_of cycle.ti moment) cycle.origin_offset extent.begin moment at low; within = λ h. ends (interval_of cycle.ti moment) cycle.origin_offset extent.begin moment cycle.ti at high }
  where
    begins : (a origin_offset b m : ℕ) → a + origin_offset ≡ b → a ≤ m → b ≤ m + origin_offset
    begins a origin_offset b m h k = omega arith

    ends : (a origin_offset b m ti : ℕ) → a + origin_offset ≡ b → m < a + ti → m + origin_offset < b + ti
    ends a origin_offset b m ti h k = omega arith
taking Aperiodic cycle extent moment some e =
    record { begun = leb-true extent.begin (moment + cycle.origin_offset) e; within = λ h. absurd (cc) }

-- ---- the scale holds it
held_by : (origin_offset : ℕ) (survey : Survey) (moment : ℕ) (extent : Extent) → survey.marked ≡ Some extent → is_drawn extent.place ≡ true
    → moment + origin_offset - extent.begin ≤ max survey.longest (reach_of origin_offset (Some moment) survey.marked)
held_by origin_offset survey moment extent marked drawn =
    let reach : reach_of origin_offset (Some moment) survey.marked ≡ moment + origin_offset - extent.begin =
    ap (reach_of origin_offset (Some moment)) marked ∙ ap (λ b. cond b (moment + origin_offset - extent.begin) 0) drawn in
    omega arith

pub at_its_moment : BreachIsAtItsMoment
at_its_moment table window list seen moment extent valid marked drawn =
    let cycle = cycle_of table in
    let told = told_of cycle seen (Some moment) (shown window list) in
    let facts = valid_facts table valid in
    let least : 1000 ≤ table.ti = facts.ti_least in
    let some : 0 < table.ti = omega arith in
    elim (taken_from cycle seen moment (rows table window list) (nothing cycle) extent marked) [
      | inl none ↦ absurd (cc)
      | inr taken ↦
          let is : IsTaking table.mode cycle extent moment = taking table.mode cycle extent moment some taken.takes_it in
          record {
            row = taken.row;
            one = taken.one;
            extent_is = taken.extent_is;
            begun = is.begun;
            held = held_by cycle.origin_offset told moment extent marked drawn;
            within = λ h. (let none : cycle.origin_offset ≡ 0 = no_origin_offset table h in let high : moment + cycle.origin_offset < extent.begin + cycle.ti = is.within h in omega arith);
          }
    ]

-- ---- the last row that takes it
pub record IsBehind (marked : Option Extent) (begin : ℕ) : Type 0 where
  pub extent : Extent
  pub is : marked ≡ Some extent
  pub last : begin ≤ extent.begin

stays_behind : (cycle : Cycle) (seen : Seen) (moment : ℕ) (list : List Row) (survey : Survey) (begin : ℕ) → AllByRecursion (λ (next : Row). begin < next.begin) list
    → IsBehind survey.marked begin → IsBehind (fold (with_row cycle seen (Some moment)) survey (map extent_of list)).marked begin
stays_behind cycle seen moment [] survey begin later is = is
stays_behind cycle seen moment (r ∷ rs) survey begin later is =
    stays_behind cycle seen moment rs (with_row cycle seen (Some moment) survey (extent_of r)) begin later.1 (next (takes cycle (extent_of r) moment))
  where
    next : (b : Bool) → IsBehind (cond b (Some (extent_of r)) survey.marked) begin
    next true = let low : begin < r.begin = later.0 in record { extent = extent_of r; is = refl; last = omega arith }
    next false = is

marked_from : (cycle : Cycle) (seen : Seen) (moment : ℕ) (list : List Row) (survey : Survey) (row : Row) → Ascend list → In row list
    → takes cycle (extent_of row) moment ≡ true → IsBehind (fold (with_row cycle seen (Some moment)) survey (map extent_of list)).marked row.begin
marked_from cycle seen moment [] survey row order i t = absurd i
marked_from cycle seen moment (r ∷ rs) survey row order (inl same) t =
    let here : takes cycle (extent_of r) moment ≡ true = subst (λ (y : Row). takes cycle (extent_of y) moment ≡ true) same t in
    let begins : row.begin ≡ r.begin = ap (λ (y : Row). y.begin) same in
    subst (λ b. IsBehind (fold (with_row cycle seen (Some moment)) (with_row cycle seen (Some moment) survey (extent_of r)) (map extent_of rs)).marked b) (sym begins)
    (stays_behind cycle seen moment rs (with_row cycle seen (Some moment) survey (extent_of r)) r.begin order.0 (record {
      extent = extent_of r;
      is = ap (λ b. cond b (Some (extent_of r)) survey.marked) here;
      last = omega arith;
    }))
marked_from cycle seen moment (r ∷ rs) survey row order (inr i) t =
    marked_from cycle seen moment rs (with_row cycle seen (Some moment) survey (extent_of r)) row order.1 i t

pub last_marked : TheLastRowIsMarked
last_marked table window trace seen moment row valid is i t =
    let cycle = cycle_of table in
    let found = marked_from cycle seen moment (rows table window trace.list) (nothing cycle) row (rows_ascend table window trace valid is) i t in
    record { extent = found.extent; marked = found.is; last = found.last }
