-- Steps of the passes over the gaps of a table.
use Rattle.std.proofs.Common.{◌≡◌, ◌≢◌, ◌↔◌, ℕ, ◌+◌, ◌<◌, ◌≤◌, inl, inr, Bool, true, false, ◌&&◌, List, [], ◌∷◌, length, take, drop, arith, sym, refl, ap, ◌∙◌}
use Rattle.std.specs.Prelude.{Option, Some, slice_get, IsSomeAnd}
use Rattle.std.specs.List.{list_all}
use Rattle.std.proofs.lemmas.Bool.{and_from, and_parts, cases_Bool, cases_lt, ne_eqb, le-leb, leb-true, true≢false}
use Rattle.std.proofs.lemmas.List.{drop_all}
use Rattle.bus_table.specs.Tables.{Table}
use Rattle.bus_regime.specs.Gaps.{Gap, gaps}
use Rattle.bus_strings.proofs.MemberLaws.{at_in}
use Rattle.bus_schedule.specs.Slack.{is_wide, is_enough, stays, all_stay, gaps_bear}
use Rattle.bus_regime.proofs.GapPlaces.{some_of, some_and}
use Rattle.bus_reach.proofs.Rotating.{around, stay_next, walk_own, walk_end}
use Rattle.bus_schedule.proofs.CableRuns.{all_in}

-- the test of one sender, as the pass has it
step_is : (d sg : ℕ) (all : List Gap) (k : ℕ) (r b : Bool) → IsSomeAnd (slice_get all k) (λ own. r ≡ stays d sg own.sender.number (Some 0) (around k all))
    → r ≡ b → all_stay d sg [] all ≡ all_stay d sg (take k all) (drop k all)
    → all_stay d sg [] all ≡ (b && all_stay d sg (take (k + 1) all) (drop (k + 1) all))
step_is d sg all k r b has is so =
    let w = some_of (λ (own : Gap). r ≡ stays d sg own.sender.number (Some 0) (around k all)) (slice_get all k) has in
    so ∙ stay_next d sg all k w.0 w.1 ∙ ap (λ v. v && all_stay d sg (take (k + 1) all) (drop (k + 1) all)) (sym w.2 ∙ is)

pub stay_more : (d sg : ℕ) (all : List Gap) (k : ℕ) (r : Bool) → IsSomeAnd (slice_get all k) (λ own. r ≡ stays d sg own.sender.number (Some 0) (around k all))
    → r ≡ true → all_stay d sg [] all ≡ all_stay d sg (take k all) (drop k all)
    → all_stay d sg [] all ≡ all_stay d sg (take (k + 1) all) (drop (k + 1) all)
stay_more d sg all k r has is so = step_is d sg all k r true has is so

several : (table : Table) (d n : ℕ) → n ≡ length table.senders → n ≢ 1
    → gaps_bear table d ≡ (list_all (is_wide d) (gaps table) && all_stay d table.sg [] (gaps table))
several table d n is apart = rw (ne_eqb (length table.senders) 1 (λ e. apart (is ∙ e))) refl

pub narrow_fails : (table : Table) (d n : ℕ) → n ≡ length table.senders → n ≢ 1 → list_all (is_wide d) (gaps table) ≡ false → false ≡ gaps_bear table d
narrow_fails table d n is apart narrow = sym (several table d n is apart ∙ ap (λ b. b && all_stay d table.sg [] (gaps table)) narrow)

pub lacking_fails : (table : Table) (d n k : ℕ) (r : Bool) → n ≡ length table.senders → n ≢ 1 → list_all (is_wide d) (gaps table) ≡ true
    → IsSomeAnd (slice_get (gaps table) k) (λ own. r ≡ stays d table.sg own.sender.number (Some 0) (around k (gaps table))) → r ≡ false
    → all_stay d table.sg [] (gaps table) ≡ all_stay d table.sg (take k (gaps table)) (drop k (gaps table)) → false ≡ gaps_bear table d
lacking_fails table d n k r is apart wide has fails so =
    sym (several table d n is apart ∙ ap (λ b. b && all_stay d table.sg [] (gaps table)) wide ∙ step_is d table.sg (gaps table) k r false has fails so)

pub all_borne : (table : Table) (d n k : ℕ) → n ≡ length table.senders → n ≢ 1 → list_all (is_wide d) (gaps table) ≡ true
    → length (gaps table) ≤ k → all_stay d table.sg [] (gaps table) ≡ all_stay d table.sg (take k (gaps table)) (drop k (gaps table)) → true ≡ gaps_bear table d
all_borne table d n k is apart wide whole so =
    sym (several table d n is apart ∙ ap (λ b. b && all_stay d table.sg [] (gaps table)) wide ∙ so
    ∙ ap (all_stay d table.sg (take k (gaps table))) (drop_all k (gaps table) whole))

-- what is wide with delays is wide without
pub wide_less : (d : ℕ) (gs : List Gap) → list_all (is_wide d) gs ≡ true → list_all (is_wide 0) gs ≡ true
wide_less d [] h = refl
wide_less d (gap ∷ gs) h =
    let both = and_parts (is_wide d gap) (list_all (is_wide d) gs) h in
    let wide : gap.from + (gap.sender.tg + d) ≤ gap.to = leb-true (gap.from + (gap.sender.tg + d)) gap.to both.0 in
    and_from (is_wide 0 gap) (list_all (is_wide 0) gs) (le-leb (gap.from + (gap.sender.tg + 0)) gap.to (omega arith)) (wide_less d gs both.1)

-- a wide gap is no overlap
pub wide_at : (d : ℕ) (all : List Gap) (j : ℕ) (gap : Gap) → list_all (is_wide d) all ≡ true → slice_get all j ≡ Some gap → gap.from ≤ gap.to
wide_at d all j gap wide at =
    let k : gap.from + (gap.sender.tg + d) ≤ gap.to = leb-true (gap.from + (gap.sender.tg + d)) gap.to (all_in (is_wide d) all gap wide (at_in all j gap at)) in omega arith

-- the walk of a sender comes to its own gap, or to no end
pub own_found : (d sg : ℕ) (all : List Gap) (k step number timer : ℕ) (slack : Option ℕ) (own gap : Gap) (r : Bool) → slice_get all k ≡ Some own
    → number ≡ own.sender.number → slice_get (around k all) step ≡ Some gap → gap.sender.number ≡ number → timer ≡ sg → r ≡ is_enough timer slack gap
    → stays d sg number (Some 0) (around k all) ≡ stays d sg number slack (drop step (around k all))
    → IsSomeAnd (slice_get all k) (λ own. r ≡ stays d sg own.sender.number (Some 0) (around k all))
own_found d sg all k step number timer slack own gap r own_at number_is at same timer_is r_is so =
    some_and (λ (own : Gap). r ≡ stays d sg own.sender.number (Some 0) (around k all)) (slice_get all k) own own_at
    (r_is ∙ ap (λ t. is_enough t slack gap) timer_is
    ∙ sym (walk_own d sg number slack (around k all) step gap (stays d sg number (Some 0) (around k all)) at same so)
    ∙ ap (λ n. stays d sg n (Some 0) (around k all)) number_is)

pub none_found : (d sg : ℕ) (all : List Gap) (k step number : ℕ) (slack : Option ℕ) (own : Gap) → slice_get all k ≡ Some own
    → number ≡ own.sender.number → length (around k all) ≤ step
    → stays d sg number (Some 0) (around k all) ≡ stays d sg number slack (drop step (around k all))
    → IsSomeAnd (slice_get all k) (λ own. false ≡ stays d sg own.sender.number (Some 0) (around k all))
none_found d sg all k step number slack own own_at number_is whole so =
    some_and (λ (own : Gap). false ≡ stays d sg own.sender.number (Some 0) (around k all)) (slice_get all k) own own_at
    (sym (walk_end d sg number slack (around k all) step (stays d sg number (Some 0) (around k all)) whole so)
    ∙ ap (λ n. stays d sg n (Some 0) (around k all)) number_is)

-- a table of several senders bears no more than its first gap has
pub first_bound : (table : Table) (d n : ℕ) (gap : Gap) → n ≡ length table.senders → n ≢ 1 → slice_get (gaps table) 0 ≡ Some gap
    → gap.to < gap.from + d → gaps_bear table d ≡ false
first_bound table d n gap is apart at over = elim (cases_Bool (list_all (is_wide d) (gaps table))) [
  | inl wide ↦
      let k : gap.from + (gap.sender.tg + d) ≤ gap.to = leb-true (gap.from + (gap.sender.tg + d)) gap.to (all_in (is_wide d) (gaps table) gap wide (at_in (gaps table) 0 gap at)) in
      absurd (omega arith)
  | inr narrow ↦ sym (narrow_fails table d n is apart narrow)
]

-- what is borne and what is not, one apart, tell the greatest
pub greatest_is : (table : Table) (borne above : ℕ)
    → ((less most : ℕ) → less ≤ most → gaps_bear table most ≡ true → gaps_bear table less ≡ true)
    → gaps_bear table borne ≡ true → gaps_bear table above ≡ false → above ≤ borne + 1 → (most : ℕ) → (most ≤ borne) ↔ (gaps_bear table most ≡ true)
greatest_is table borne above shorter yes' no' near most = (
  (λ low. shorter most borne low yes'),
  (λ is. elim (cases_lt borne most) [
    | inl over ↦ absurd (true≢false (sym (shorter above most (omega arith) is) ∙ no'))
    | inr within ↦ omega arith
  ]),
)
