-- The offsets of a plan in turn order: the table has them in the order of the plan, and its gaps are as long as the plan has them.
use Rattle.std.specs.Prelude.{◌≡◌, ℕ, ◌+◌, ◌*◌, ◌%◌, ◌<◌, ◌≤◌, true, false, ◌==◌, List, [], ◌∷◌, length, map}
use Rattle.std.specs.List.{sum_by}
use Rattle.std.proofs.Common.{inl, inr, arith, sym, refl, ap, ◌∙◌, cond, subst}
use Rattle.std.proofs.lemmas.Nat.{div-add-mod'}
use Rattle.std.proofs.lemmas.List.Sums.{sum_by-cons}
use Rattle.std.proofs.lemmas.List.{length-map}
use Rattle.bus_strings.specs.Members.{In}
use Rattle.bus_table.specs.declared.mode.Mode.{Mode}
use Rattle.bus_table.specs.declared.mode.Mode.TheVariants.{Periodic}
use Rattle.bus_table.specs.Tables.{Sender, Table}
use Rattle.bus_table.specs.Lengths.{longest}
use Rattle.bus_table.specs.Turns.{sort, turn_key, turn_order}
use Rattle.bus_table.specs.Offsets.{at_offset, at_offsets}
use Rattle.bus_table.specs.inside.Orders.{Rises, Differ}
use Rattle.bus_table.specs.inside.Facts.{TableFacts, SenderFacts}
use Rattle.bus_table.proofs.TurnLaws.{from_sort, in_sort, sort_rises, differ_finer, numbers_differ, of_each, sum_sort, length-sort}
use Rattle.bus_regime.specs.Gaps.{Gap, gaps, gaps_from, last_end}
use Rattle.bus_plan.specs.Plans.{offset_in}
use Rattle.bus_plan.proofs.Members.{rising_same, in_map, from_map}
use Rattle.bus_cable_plan.specs.Shapes.{Shape, gap_in, needed, shape_of, greatest_pair}
use Rattle.bus_cable_plan.specs.Plans.{least_in_order, left_over, share, plan_in_order, offsets_in_order, planned_in_order}
use Rattle.bus_cable_plan.specs.inside.Lists.{gaps_hold}
use Rattle.bus_cable_plan.specs.inside.Orders.{AreModest, AreOf, IsPairOf}
use Rattle.bus_cable_plan.proofs.Laid as laid
use Rattle.bus_cable_plan.proofs.Laid.{placed, placed_same, time}
use Rattle.bus_cable_plan.proofs.Orders.{sort_differ}
use Rattle.bus_cable_plan.proofs.Pairs.{greatest_is_pair}
use Rattle.bus_cable_plan.proofs.Shaped.{AreFitted, shape_bears}
use Rattle.bus_cable_plan.proofs.Tops.{HasTops, tops_of}

-- ---- senders of a valid table
pub modest_one : (table : Table) → TableFacts table → AreModest table.senders
modest_one table facts s i =
    let f = of_each (SenderFacts table) table.senders facts.senders s i in
    let least = f.tg_least in
    record { number_most = f.number_most; tg_least = omega (arith, least); tg_most = f.tg_most }

modest_order : (table : Table) → TableFacts table → AreModest (turn_order table)
modest_order table facts s i = modest_one table facts s (from_sort (turn_key table.mode) table.senders s i)

pub order_differ : (table : Table) → TableFacts table → Differ (λ s. s.number) (turn_order table)
order_differ table facts = sort_differ (turn_key table.mode) (λ s. s.number) table.senders (numbers_differ table facts)

-- a sender at another offset is one of the senders, at another offset
pub from_offsets : (offsets : List ℕ) (senders : List Sender) (x : Sender) → In x (at_offsets offsets senders)
    → (s : Sender) × In s senders × (x.number ≡ s.number) × (x.tg ≡ s.tg)
from_offsets [] senders x i = (x, i, refl, refl)
from_offsets (at ∷ offsets) [] x i = absurd i
from_offsets (at ∷ offsets) (s ∷ senders) x (inl e) = (s, inl refl, ap (λ (y : Sender). y.number) e, ap (λ (y : Sender). y.tg) e)
from_offsets (at ∷ offsets) (s ∷ senders) x (inr i) = let w = from_offsets offsets senders x i in (w.0, inr w.1, w.2, w.3)

pub differ_offsets : (offsets : List ℕ) (senders : List Sender) → Differ (λ s. s.number) senders → Differ (λ s. s.number) (at_offsets offsets senders)
differ_offsets [] senders d = d
differ_offsets (at ∷ offsets) [] d = tt
differ_offsets (at ∷ offsets) (s ∷ senders) d =
    ((λ b i k. (let w = from_offsets offsets senders b i in d.0 w.0 w.1 (k ∙ w.2))), differ_offsets offsets senders d.1)

-- turn order rises at any offsets
moved_rises : (table : Table) (offsets : List ℕ) → TableFacts table
    → Rises (turn_key Periodic) (sort (turn_key Periodic) (at_offsets offsets table.senders))
moved_rises table offsets facts =
    let moved : List Sender = at_offsets offsets table.senders in
    sort_rises (turn_key Periodic) moved
    (differ_finer (λ s. s.number) (turn_key Periodic) moved (differ_offsets offsets table.senders (numbers_differ table facts)) (λ a b i j e.
    let p = from_offsets offsets table.senders a i in
    let q = from_offsets offsets table.senders b j in
    let k = (modest_one table facts p.0 p.1).number_most in
    let l = (modest_one table facts q.0 q.1).number_most in
    let m = p.2 in
    let n = q.2 in
    let w : 256 * a.at + a.number ≡ 256 * b.at + b.number = e in
    omega (arith, k, l, m, n, w)))

offsets_placed : (plan senders : List Sender) → at_offsets (map (λ s. offset_in plan s.number) senders) senders ≡ map (placed plan) senders
offsets_placed plan [] = refl
offsets_placed plan (s ∷ senders) = ap (λ l. placed plan s ∷ l) (offsets_placed plan senders)

found_below : (ti : ℕ) (plan : List Sender) (number : ℕ) → 0 < ti → ((s : Sender) → In s plan → s.at < ti) → offset_in plan number < ti
found_below ti [] number some low = some
found_below ti (s ∷ plan) number some low =
    elim (s.number == number) as (λ b. cond b s.at (offset_in plan number) < ti) [
      | true ↦ low s (inl refl)
      | false ↦ found_below ti plan number some (λ x i. low x (inr i))
    ]

each_below : (ti : ℕ) (f : Sender → ℕ) (senders : List Sender) → ((s : Sender) → f s < ti) → (n : ℕ) → In n (map f senders) → n < ti
each_below ti f [] low n i = absurd i
each_below ti f (s ∷ senders) low n (inl e) = let k = low s in omega (arith, e, k)
each_below ti f (s ∷ senders) low n (inr i) = each_below ti f senders low n i

-- ---- what the plan needs
shared_time : (d q : ℕ) (shape : Shape) (ss : List Sender)
    → sum_by (time (λ s. gap_in d shape s + q)) ss ≡ needed d shape ss + q * length ss
shared_time d q shape [] = omega arith
shared_time d q shape (s ∷ ss) =
    let rest = shared_time d q shape ss in
    let one = sum_by-cons (time (λ x. gap_in d shape x + q)) s ss in
    let two = sum_by-cons (λ x. gap_in d shape x + longest x) s ss in
    omega (arith, rest, one, two)

-- the gaps of the plan, and what is left over, fill the interval
fills : (d : ℕ) (table : Table) → least_in_order d table ≤ table.ti
    → sum_by (time (λ s. gap_in d (shape_of d table) s + share d table)) (turn_order table) + left_over d table % length table.senders ≡ table.ti
fills d table h =
    let q : ℕ = share d table in
    let gap : Sender → ℕ = λ s. gap_in d (shape_of d table) s + q in
    let sorted = sum_sort (time gap) (turn_key table.mode) table.senders in
    let sum = shared_time d q (shape_of d table) table.senders in
    let split = div-add-mod' (left_over d table) (length table.senders) in
    omega (arith, sorted, sum, split, h)

-- ---- a table at the offsets of its plan
abbrev pub gap_for : ℕ → Table → Sender → ℕ
gap_for d table s = gap_in d (shape_of d table) s + share d table

abbrev pub rest_for : ℕ → Table → ℕ
rest_for d table = left_over d table % length table.senders

keeps : (d : ℕ) (table : Table) (at : ℕ) (s : Sender) → gap_for d table (at_offset at s) ≡ gap_for d table s
keeps d table at s = refl

some_gap : (d : ℕ) (table : Table) → TableFacts table → (s : Sender) → In s (turn_order table) → 0 < gap_for d table s
some_gap d table facts s i = let least = (modest_order table facts s i).tg_least in omega (arith, least)

plan_rises : (d : ℕ) (table : Table) → TableFacts table → Rises (turn_key Periodic) (plan_in_order d table)
plan_rises d table facts =
    laid.laid_rises (gap_for d table) (keeps d table) (rest_for d table) (turn_order table) (some_gap d table facts) (modest_order table facts)

turn_planned : (d : ℕ) (table : Table) → TableFacts table
    → sort (turn_key Periodic) (at_offsets (offsets_in_order d table) table.senders) ≡ plan_in_order d table
turn_planned d table facts =
    let order : List Sender = turn_order table in
    let plan : List Sender = plan_in_order d table in
    let moved : List Sender = at_offsets (offsets_in_order d table) table.senders in
    let here : moved ≡ map (placed plan) table.senders = offsets_placed plan table.senders in
    let there : plan ≡ map (placed plan) order =
    sym (placed_same plan (laid.laid_differ (gap_for d table) (keeps d table) (rest_for d table) order (order_differ table facts)))
    ∙ laid.laid_placed (gap_for d table) (keeps d table) plan (rest_for d table) order in
    rising_same (turn_key Periodic) (sort (turn_key Periodic) moved) plan (moved_rises table (offsets_in_order d table) facts)
    (plan_rises d table facts)
    (λ x i. let k : In x (map (placed plan) table.senders) = subst (λ l. In x l) here (from_sort (turn_key Periodic) moved x i) in
    let w = from_map (placed plan) table.senders x k in
    subst (λ l. In x l) (sym there) (subst (λ y. In y (map (placed plan) order)) (sym w.2)
    (in_map (placed plan) order w.0 (in_sort (turn_key table.mode) table.senders w.0 w.1))))
    (λ x i. let k : In x (map (placed plan) order) = subst (λ l. In x l) there i in
    let w = from_map (placed plan) order x k in
    in_sort (turn_key Periodic) moved x (subst (λ l. In x l) (sym here)
    (subst (λ y. In y (map (placed plan) table.senders)) (sym w.2)
    (in_map (placed plan) table.senders w.0 (from_sort (turn_key table.mode) table.senders w.0 w.1)))))

-- its turn order is that of the plan
pub order_planned : (d : ℕ) (table : Table) → TableFacts table → table.mode ≡ Periodic
    → turn_order (planned_in_order d table) ≡ plan_in_order d table
order_planned d table facts periodic =
    ap (λ (m : Mode). sort (turn_key m) (at_offsets (offsets_in_order d table) table.senders)) periodic ∙ turn_planned d table facts

-- so are its gaps
abbrev pub plan_gaps : ℕ → Table → List Gap
plan_gaps d table = gaps_from table.ti (last_end 0 (plan_in_order d table)) (plan_in_order d table)

pub gaps_planned : (d : ℕ) (table : Table) → TableFacts table → table.mode ≡ Periodic → gaps (planned_in_order d table) ≡ plan_gaps d table
gaps_planned d table facts periodic = ap (λ l. gaps_from table.ti (last_end 0 l) l) (order_planned d table facts periodic)

pub plan_of_order : (d : ℕ) (table : Table) → AreOf (plan_gaps d table) (turn_order table)
plan_of_order d table =
    laid.laid_of (gap_for d table) (keeps d table) table.ti (last_end 0 (plan_in_order d table)) (rest_for d table) (turn_order table)

-- each is as long as the plan has it
pub plan_gap : (d : ℕ) (table : Table) → least_in_order d table ≤ table.ti → (g : Gap) → In g (plan_gaps d table)
    → g.from + gap_for d table g.sender ≤ g.to
plan_gap d table fits =
    laid.laid_gap (gap_for d table) (keeps d table) table.ti (rest_for d table) (turn_order table)
    (let k = fills d table fits in omega (arith, k))

-- the pair with the greatest terminal gaps is one of neighbours
pub table_pair : (table : Table) → TableFacts table → 1 < length table.senders → IsPairOf (turn_order table) (greatest_pair (turn_order table))
table_pair table facts many =
    pair_in (turn_order table) (let k = length-sort (turn_key table.mode) table.senders in omega (arith, k, many)) (modest_order table facts) where
      pair_in : (ss : List Sender) → 1 < length ss → AreModest ss → IsPairOf ss (greatest_pair ss)
      pair_in [] few m = absurd (omega arith)
      pair_in (a ∷ []) few m = absurd (omega arith)
      pair_in (a ∷ b ∷ ss) few m = greatest_is_pair a b ss (m a (inl refl)).tg_least

-- gaps of its order that are as long as the shape has them bear d
pub order_bears : (d : ℕ) (table : Table) → TableFacts table → 1 < length table.senders → (gs : List Gap) → AreOf gs (turn_order table)
    → AreFitted d (shape_of d table) gs → gaps_hold d table.sg gs ≡ true
order_bears d table facts many =
    let t : HasTops table.senders = tops_of table.senders (numbers_differ table facts) many in
    let key : Sender → ℕ = turn_key table.mode in
    shape_bears d table (order_differ table facts) (table_pair table facts many) t.first t.second
    (in_sort key table.senders t.first t.first_in) (in_sort key table.senders t.second t.second_in) t.apart t.first_is t.second_is

-- the planned gaps bear d
pub planned_hold : (d : ℕ) (table : Table) → TableFacts table → table.mode ≡ Periodic → 1 < length table.senders
    → least_in_order d table ≤ table.ti → gaps_hold d table.sg (gaps (planned_in_order d table)) ≡ true
planned_hold d table facts periodic many fits =
    ap (gaps_hold d table.sg) (gaps_planned d table facts periodic)
    ∙ order_bears d table facts many (plan_gaps d table) (plan_of_order d table)
    (λ g i. let k = plan_gap d table fits g i in omega (arith, k))

pub offsets_count : (d : ℕ) (table : Table) → length (offsets_in_order d table) ≡ length table.senders
offsets_count d table = length-map table.senders (λ (s : Sender). offset_in (plan_in_order d table) s.number)

pub offsets_below : (d : ℕ) (table : Table) → TableFacts table → least_in_order d table ≤ table.ti
    → (n : ℕ) → In n (offsets_in_order d table) → n < table.ti
offsets_below d table facts fits =
    let least = facts.ti_least in
    let some : 0 < table.ti = omega (arith, least) in
    each_below table.ti (λ s. offset_in (plan_in_order d table) s.number) table.senders
    (λ s. found_below table.ti (plan_in_order d table) s.number some
    (laid.laid_below (gap_for d table) (keeps d table) table.ti (rest_for d table) (turn_order table) some (some_gap d table facts)
    (modest_order table facts) (let k = fills d table fits in omega (arith, k))))
