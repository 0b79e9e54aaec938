-- Without delay the least interval is that of a plan that looks at no cable.
use Rattle.std.specs.Prelude.{◌≡◌, ◌≢◌, ℕ, ◌+◌, ◌-◌, ◌*◌, ◌<◌, ◌≤◌, max, min, true, false, nat_le, IsTrue, List, [], ◌∷◌, ◌++◌, length}
use Rattle.std.specs.List.{sum_by}
use Rattle.std.proofs.Common.{inl, inr, arith, sym, refl, ap, ◌∙◌, subst, cond}
use Rattle.std.proofs.lemmas.Bool.{eq-eqb}
use Rattle.std.proofs.lemmas.Bool.Decides.{nat_tests}
use Rattle.std.proofs.lemmas.List.Sums.{sum_by-cons}
use Rattle.bus_strings.specs.Members.{In}
use Rattle.bus_table.specs.declared.mode.Mode.TheVariants.{Periodic}
use Rattle.bus_table.specs.Tables.{Sender, Table}
use Rattle.bus_table.specs.Offsets.{at_offsets}
use Rattle.bus_table.specs.Turns.{turn_key, turn_order}
use Rattle.bus_table.specs.Valid.{is_valid}
use Rattle.bus_table.specs.inside.Facts.{SenderFacts, TableFacts}
use Rattle.bus_table.specs.inside.Orders.{Differ}
use Rattle.bus_table.proofs.TurnLaws.{from_sort, numbers_differ, gaps_differ, of_each}
use Rattle.bus_table.proofs.ValidLaws.{valid_facts}
use Rattle.bus_plan.specs.Plans as plain
use Rattle.bus_plan.specs.inside.Greatest as tops
use Rattle.bus_plan.proofs.Tops.{sync_is}
use Rattle.bus_cable_plan.specs.Laws.{WithoutDelay}
use Rattle.bus_cable_plan.specs.Shapes.{Pair, added, needed, own, neighbours, apart, round, greatest_tg, second_tg, greatest_pair}
use Rattle.bus_cable_plan.specs.Plans.{turn_time, turns_for, least_in_order, by_gap}
use Rattle.bus_cable_plan.specs.inside.Lists.{want}
use Rattle.bus_cable_plan.specs.inside.Orders.{IsBefore, IsPairOf}
use Rattle.bus_cable_plan.proofs.ByGap.{sum_offsets, gap_offsets, by_gap_valid, by_gap_length, top_pair}
use Rattle.bus_cable_plan.proofs.InOrder.{order_differ, table_pair}
use Rattle.bus_cable_plan.proofs.Lower.{before_in}
use Rattle.bus_cable_plan.proofs.Needs.{needed_parts, needed_most, plain_turns, plain_near}
use Rattle.bus_cable_plan.proofs.Rising.{least_min}
use Rattle.bus_cable_plan.proofs.Tops.{HasTops, tops_of, most_two}

-- ---- sums have what their members have
one_sum : (f : Sender → ℕ) (ss : List Sender) (s : Sender) → In s ss → f s ≤ sum_by f ss
one_sum f [] s i = absurd i
one_sum f (x ∷ ss) s (inl e) =
    let a = sum_by-cons f x ss in let same : f s ≡ f x = ap f e in omega (arith, a, same)
one_sum f (x ∷ ss) s (inr i) = let a = sum_by-cons f x ss in let k = one_sum f ss s i in omega (arith, a, k)

two_sum : (f : Sender → ℕ) (ss : List Sender) (s t : Sender) → In s ss → In t ss → s.number ≢ t.number → f s + f t ≤ sum_by f ss
two_sum f [] s t i j differ = absurd i
two_sum f (x ∷ ss) s t (inl e) (inl g) differ = absurd (differ (ap (λ (y : Sender). y.number) (e ∙ sym g)))
two_sum f (x ∷ ss) s t (inl e) (inr j) differ =
    let a = sum_by-cons f x ss in let same : f s ≡ f x = ap f e in let k = one_sum f ss t j in omega (arith, a, same, k)
two_sum f (x ∷ ss) s t (inr i) (inl g) differ =
    let a = sum_by-cons f x ss in let same : f t ≡ f x = ap f g in let k = one_sum f ss s i in omega (arith, a, same, k)
two_sum f (x ∷ ss) s t (inr i) (inr j) differ =
    let a = sum_by-cons f x ss in let k = two_sum f ss s t i j differ in omega (arith, a, k)

added_there : (tg more : ℕ) (ss : List Sender) (s : Sender) → In s ss → s.tg ≡ tg → more ≤ sum_by (added tg more) ss
added_there tg more ss s i e =
    let k = one_sum (added tg more) ss s i in
    let same : added tg more s ≡ more = ap (λ b. cond b more 0) (eq-eqb s.tg tg e) in
    omega (arith, k, same)

-- ---- neighbours of several senders are two
before_apart : (f g : Sender) (order : List Sender) → Differ (λ s. s.number) order → IsBefore f g order → f.number ≢ g.number
before_apart f g order d (inl n) = at n.0 (subst (Differ (λ s. s.number)) n.2 d) where
  at : (x : List Sender) → Differ (λ s. s.number) (x ++ f ∷ g ∷ n.1) → f.number ≢ g.number
  at [] k = k.0 g (inl refl)
  at (z ∷ x) k = at x k.1
before_apart f g order d (inr n) = λ same. (subst (Differ (λ s. s.number)) n.1 d).0 f (last n.0) (sym same) where
  last : (z : List Sender) → In f (z ++ f ∷ [])
  last [] = inl refl
  last (y ∷ z) = inr (last z)

-- ---- the least in the order by terminal gaps
module _ (table : Table) (valid : IsTrue (is_valid table)) (mode : table.mode ≡ Periodic) (several : 1 < length table.senders) where
  least_sum : least_in_order 0 (by_gap table) ≡ turns_for 0 (by_gap table)
      + min table.sg (2 * table.sg - (greatest_tg (by_gap table).senders + second_tg (by_gap table).senders))
  least_sum =
      let ordered : Table = by_gap table in
      let ss : List Sender = ordered.senders in
      let facts : TableFacts ordered = valid_facts ordered (by_gap_valid table valid mode) in
      let long = by_gap_length table in
      let many : 1 < length ss = omega (arith, long, several) in
      let numbers = numbers_differ ordered facts in
      let gaps = gaps_differ ordered facts in
      let t : HasTops ss = tops_of ss numbers many in
      let first : ℕ = greatest_tg ss in
      let second : ℕ = second_tg ss in
      let pair : Pair = greatest_pair (turn_order ordered) in
      let p : IsPairOf (turn_order ordered) pair = table_pair ordered facts many in
      let ins = before_in p.first p.second (turn_order ordered) p.next in
      let in_first : In p.first ss = from_sort (turn_key ordered.mode) ss p.first ins.0 in
      let in_second : In p.second ss = from_sort (turn_key ordered.mode) ss p.second ins.1 in
      let differ = before_apart p.first p.second (turn_order ordered) (order_differ ordered facts) p.next in
      let short : (s : Sender) → In s ss → s.tg < ordered.sg = λ s i. (of_each (SenderFacts ordered) ss facts.senders s i).tg_short in
      let near : (s : Sender) → In s ss → s.tg + 0 < ordered.sg = λ s i. let k = short s i in omega (arith, k) in
      let k1 = short t.first t.first_in in
      let k2 = short t.second t.second_in in
      let k3 = short p.first in_first in
      let k4 = short p.second in_second in
      let e1 = t.first_is in
      let e2 = t.second_is in
      let e3 = p.before_is in
      let e4 = p.behind_is in
      let low = top_pair table valid mode t.first t.second t.first_in t.second_in t.apart in
      let high = most_two ss p.first p.second in_first in_second differ in
      let turns = plain_turns 0 ss in
      let wide = plain_near 0 ordered.sg ss near in
      let wants = two_sum (want 0 ordered.sg) ss t.first t.second t.first_in t.second_in t.apart in
      let min_is = least_min 0 ordered in
      let own_parts = needed_parts 0 (own ordered.sg first) ss in
      let own_most = needed_most 0 (own ordered.sg first) ss gaps in
      let own_least = added_there first ordered.sg ss t.first t.first_in e1 in
      let next_parts = needed_parts 0 (neighbours 0 ordered.sg pair) ss in
      let next_most = needed_most 0 (neighbours 0 ordered.sg pair) ss gaps in
      let next_first = added_there pair.before (ordered.sg - pair.before) ss p.first in_first (sym e3) in
      let next_second = added_there pair.behind (ordered.sg - (pair.behind + 0)) ss p.second in_second (sym e4) in
      let apart_parts = needed_parts 0 (apart ordered.sg first second) ss in
      let apart_first = added_there first (ordered.sg - first) ss t.first t.first_in e1 in
      let apart_second = added_there second (ordered.sg - second) ss t.second t.second_in e2 in
      let round_parts = needed_parts 0 (round 0 ordered.sg first second) ss in
      let round_first = added_there first (ordered.sg - max (ordered.sg - 1) (first + 0)) ss t.first t.first_in e1 in
      let round_second = added_there second (ordered.sg - max (ordered.sg - 1) (second + 0)) ss t.second t.second_in e2 in
      let a : needed 0 (own ordered.sg first) ss ≡ turns_for 0 ordered + ordered.sg = omega (arith, own_parts, own_most, own_least, turns) in
      let b : needed 0 (neighbours 0 ordered.sg pair) ss ≡ turns_for 0 ordered + (2 * ordered.sg - (first + second)) =
      omega (arith, next_parts, next_most, next_first, next_second, turns, low, high, e1, e2, e3, e4, k1, k2, k3, k4) in
      let c : turns_for 0 ordered + (2 * ordered.sg - (first + second)) ≤ needed 0 (apart ordered.sg first second) ss =
      omega (arith, apart_parts, apart_first, apart_second, turns, e1, e2, k1, k2) in
      let d : turns_for 0 ordered + (2 * ordered.sg - (first + second)) ≤ needed 0 (round 0 ordered.sg first second) ss =
      omega (arith, round_parts, round_first, round_second, wide, wants, e1, e2, k1, k2) in
      omega (arith, min_is, a, b, c, d)

-- ---- the same in the words of the plan that looks at no cable
greatest_same : (ss : List Sender) → greatest_tg ss ≡ tops.greatest_tg ss
greatest_same [] = refl
greatest_same (s ∷ ss) = ap (λ n. max s.tg n) (greatest_same ss)

second_same : (ss : List Sender) → second_tg ss ≡ tops.second_tg ss
second_same [] = refl
second_same (s ∷ ss) = let a = greatest_same ss in let b = second_same ss in omega (arith, a, b)

greatest_moved : (offsets : List ℕ) (ss : List Sender) → greatest_tg (at_offsets offsets ss) ≡ greatest_tg ss
greatest_moved [] ss = refl
greatest_moved (at ∷ offsets) [] = refl
greatest_moved (at ∷ offsets) (s ∷ ss) = ap (λ n. max s.tg n) (greatest_moved offsets ss)

second_moved : (offsets : List ℕ) (ss : List Sender) → second_tg (at_offsets offsets ss) ≡ second_tg ss
second_moved [] ss = refl
second_moved (at ∷ offsets) [] = refl
second_moved (at ∷ offsets) (s ∷ ss) = let a = greatest_moved offsets ss in let b = second_moved offsets ss in omega (arith, a, b)

turns_same : (ss : List Sender) → sum_by (turn_time 0) ss ≡ sum_by plain.turn_time ss
turns_same [] = refl
turns_same (s ∷ ss) =
    let a = sum_by-cons (turn_time 0) s ss in
    let b = sum_by-cons plain.turn_time s ss in
    let rest = turns_same ss in
    omega (arith, a, b, rest)

sync_min : (sg n : ℕ) → cond (nat_le n sg) sg (2 * sg - n) ≡ min sg (2 * sg - n)
sync_min sg n =
    (elim (nat_le n sg) as (λ b. nat_le n sg ≡ b → cond b sg (2 * sg - n) ≡ min sg (2 * sg - n)) [
      | true ↦ λ h. (let less : n ≤ sg = grind (arith, nat_tests, h) in omega (arith, less))
      | false ↦ λ h. (let more : sg < n = grind (arith, nat_tests, h) in omega (arith, more))
    ]) refl

pub without_delay : WithoutDelay
without_delay table valid mode several =
    let facts = valid_facts table valid in
    let t : HasTops table.senders = tops_of table.senders (numbers_differ table facts) several in
    let short = (of_each (SenderFacts table) table.senders facts.senders t.first t.first_in).tg_short in
    let is = t.first_is in
    let one = greatest_same table.senders in
    let two = second_same table.senders in
    let sync = sync_is table.sg table.senders (omega (arith, short, is, one)) in
    let low = sync_min table.sg (tops.greatest_tg table.senders + tops.second_tg table.senders) in
    let least = least_sum table valid mode several in
    let first = greatest_moved (gap_offsets table) table.senders in
    let second = second_moved (gap_offsets table) table.senders in
    let moved = sum_offsets (turn_time 0) (λ at s. refl) (gap_offsets table) table.senders in
    let turns = turns_same table.senders in
    omega (arith, least, first, second, moved, turns, one, two, sync, low)
