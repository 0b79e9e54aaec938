-- What a plan needs doesn't fall with the delay; and a delay as long as the interval doesn't fit.
use Rattle.std.proofs.Common.{◌≡◌, ◌≢◌, ℕ, ◌+◌, ◌-◌, ◌<◌, ◌≤◌, max, min, true, false, cond, List, [], ◌∷◌, length, ◌⊎◌, inl, inr, arith, refl, sym, ap, ◌∙◌}
use Rattle.std.specs.Prelude.{◌&&◌, Some, None, IsTrue, not, nat_lt, nat_le, ◌==◌, ◌||◌, Bool}
use Rattle.std.specs.List.{sum_by}
use Rattle.std.proofs.lemmas.Bool.{cases_Bool, cases_lt, le-leb, lt-leb, ne_eqb, true≢false}
use Rattle.std.proofs.lemmas.Bool.Decides.{nat_tests}
use Rattle.std.proofs.lemmas.List.Sums.{sum_by-cons}
use Rattle.bus_strings.specs.Members.{In}
use Rattle.bus_table.specs.declared.mode.Mode.TheVariants.{Periodic}
use Rattle.bus_table.specs.Tables.{Sender, Table}
use Rattle.bus_table.specs.Turns.{turn_order}
use Rattle.bus_table.specs.Valid.{is_valid}
use Rattle.bus_table.specs.inside.Facts.{TableFacts}
use Rattle.bus_table.specs.inside.Orders.{Differ}
use Rattle.bus_table.proofs.TurnLaws.{numbers_differ, gaps_differ}
use Rattle.bus_table.proofs.ValidLaws.{valid_facts}
use Rattle.bus_reach.proofs.GreatestLemmas.{greatest_is}
use Rattle.bus_plan.specs.Answers.{plan_of}
use Rattle.bus_cable_plan.specs.declared.planning.CablePlan.TheVariants.{Planned}
use Rattle.bus_cable_plan.specs.Answers.{alone, bears_as_given, fits, found, is_found, is_refuted, unfit, undecided}
use Rattle.bus_cable_plan.specs.Answers.{best_of, plan_best_of, most_borne_in}
use Rattle.bus_cable_plan.specs.Shapes.{Shape, Pair, added, time_in, needed, own, neighbours, apart, round, lesser_shape, shape_of, greatest_tg, second_tg, greatest_pair}
use Rattle.bus_cable_plan.specs.Plans.{turn_time, turns_for, least_in_order, least_interval_for, by_gap}
use Rattle.bus_cable_plan.specs.inside.Orders.{AreModest}
use Rattle.bus_cable_plan.proofs.ByGap.{by_gap_valid, by_gap_length}
use Rattle.bus_cable_plan.proofs.AsGiven.{given_less, given_turns}
use Rattle.bus_cable_plan.proofs.InOrder.{modest_one}
use Rattle.bus_cable_plan.proofs.Outcome.{or_cases}
use Rattle.bus_cable_plan.proofs.Sharing.{fits_cases}
use Rattle.bus_cable_plan.proofs.Tops.{HasTops, tops_of}

sum_le : (f g : Sender → ℕ) → ((s : Sender) → f s ≤ g s) → (ss : List Sender) → sum_by f ss ≤ sum_by g ss
sum_le f g h [] = let a : sum_by f [] ≡ 0 = refl in let b : sum_by g [] ≡ 0 = refl in omega (arith, a, b)
sum_le f g h (s ∷ ss) =
    let one = h s in
    let rest = sum_le f g h ss in
    let a = sum_by-cons f s ss in
    let b = sum_by-cons g s ss in
    omega (arith, one, rest, a, b)

-- ---- each shape
module _ (e d : ℕ) (low : e ≤ d) where
  same_shape : (shape : Shape) (ss : List Sender) → needed e shape ss ≤ needed d shape ss
  same_shape shape ss = sum_le (time_in e shape) (time_in d shape) (λ s. omega (arith, low)) ss

  neighbours_rise : (sg : ℕ) (pair : Pair) (ss : List Sender) → needed e (neighbours e sg pair) ss ≤ needed d (neighbours d sg pair) ss
  neighbours_rise sg pair ss = sum_le (time_in e (neighbours e sg pair)) (time_in d (neighbours d sg pair)) (λ s.
      (elim (s.tg == pair.behind) as (λ b. (s.tg == pair.behind) ≡ b
      → time_in e (neighbours e sg pair) s ≤ time_in d (neighbours d sg pair) s) [
        | true ↦ λ h.
            let same : s.tg ≡ pair.behind = grind (arith, nat_tests, h) in
            let p : added pair.behind (sg - (pair.behind + e)) s ≡ sg - (pair.behind + e) = ap (λ b. cond b (sg - (pair.behind + e)) 0) h in
            let q : added pair.behind (sg - (pair.behind + d)) s ≡ sg - (pair.behind + d) = ap (λ b. cond b (sg - (pair.behind + d)) 0) h in
            omega (arith, low, same, p, q)
        | false ↦ λ h.
            let p : added pair.behind (sg - (pair.behind + e)) s ≡ 0 = ap (λ b. cond b (sg - (pair.behind + e)) 0) h in
            let q : added pair.behind (sg - (pair.behind + d)) s ≡ 0 = ap (λ b. cond b (sg - (pair.behind + d)) 0) h in
            omega (arith, low, p, q)
      ]) refl) ss

  round_rises : (sg first second : ℕ) → first ≢ second → (ss : List Sender)
      → needed e (round e sg first second) ss ≤ needed d (round d sg first second) ss
  round_rises sg first second apart ss = sum_le (time_in e (round e sg first second)) (time_in d (round d sg first second)) (λ s.
      by_tests s (s.tg == first) (s.tg == second) refl refl) ss
    where
      by_tests : (s : Sender) (a b : Bool) → (s.tg == first) ≡ a → (s.tg == second) ≡ b
          → time_in e (round e sg first second) s ≤ time_in d (round d sg first second) s
      by_tests s true true h k =
          let one : s.tg ≡ first = grind (arith, nat_tests, h) in
          let two : s.tg ≡ second = grind (arith, nat_tests, k) in
          absurd (apart (sym one ∙ two))
      by_tests s true false h k =
          let same : s.tg ≡ first = grind (arith, nat_tests, h) in
          let p : added first (sg - max (sg - 1) (first + e)) s ≡ sg - max (sg - 1) (first + e) =
          ap (λ b. cond b (sg - max (sg - 1) (first + e)) 0) h in
          let q : added first (sg - max (sg - 1) (first + d)) s ≡ sg - max (sg - 1) (first + d) =
          ap (λ b. cond b (sg - max (sg - 1) (first + d)) 0) h in
          let u : added second (sg - max (sg - 1) (second + e)) s ≡ 0 = ap (λ b. cond b (sg - max (sg - 1) (second + e)) 0) k in
          let v : added second (sg - max (sg - 1) (second + d)) s ≡ 0 = ap (λ b. cond b (sg - max (sg - 1) (second + d)) 0) k in
          omega (arith, low, same, p, q, u, v)
      by_tests s false true h k =
          let same : s.tg ≡ second = grind (arith, nat_tests, k) in
          let p : added first (sg - max (sg - 1) (first + e)) s ≡ 0 = ap (λ b. cond b (sg - max (sg - 1) (first + e)) 0) h in
          let q : added first (sg - max (sg - 1) (first + d)) s ≡ 0 = ap (λ b. cond b (sg - max (sg - 1) (first + d)) 0) h in
          let u : added second (sg - max (sg - 1) (second + e)) s ≡ sg - max (sg - 1) (second + e) =
          ap (λ b. cond b (sg - max (sg - 1) (second + e)) 0) k in
          let v : added second (sg - max (sg - 1) (second + d)) s ≡ sg - max (sg - 1) (second + d) =
          ap (λ b. cond b (sg - max (sg - 1) (second + d)) 0) k in
          omega (arith, low, same, p, q, u, v)
      by_tests s false false h k =
          let p : added first (sg - max (sg - 1) (first + e)) s ≡ 0 = ap (λ b. cond b (sg - max (sg - 1) (first + e)) 0) h in
          let q : added first (sg - max (sg - 1) (first + d)) s ≡ 0 = ap (λ b. cond b (sg - max (sg - 1) (first + d)) 0) h in
          let u : added second (sg - max (sg - 1) (second + e)) s ≡ 0 = ap (λ b. cond b (sg - max (sg - 1) (second + e)) 0) k in
          let v : added second (sg - max (sg - 1) (second + d)) s ≡ 0 = ap (λ b. cond b (sg - max (sg - 1) (second + d)) 0) k in
          omega (arith, low, p, q, u, v)

-- ---- the least of them
lesser_min : (d : ℕ) (ss : List Sender) (a b : Shape) → needed d (lesser_shape d ss a b) ss ≡ min (needed d a ss) (needed d b ss)
lesser_min d ss a b =
    (elim (nat_lt (needed d b ss) (needed d a ss)) as (λ w. nat_lt (needed d b ss) (needed d a ss) ≡ w
    → needed d (cond w b a) ss ≡ min (needed d a ss) (needed d b ss)) [
      | true ↦ λ h. (let k : needed d b ss < needed d a ss = grind (arith, nat_tests, h) in omega (arith, k))
      | false ↦ λ h. (let k : needed d a ss ≤ needed d b ss = grind (arith, nat_tests, h) in omega (arith, k))
    ]) refl

pub least_min : (d : ℕ) (table : Table) → least_in_order d table ≡ min (min (min (needed d (own table.sg (greatest_tg table.senders)) table.senders)
    (needed d (neighbours d table.sg (greatest_pair (turn_order table))) table.senders))
    (needed d (apart table.sg (greatest_tg table.senders) (second_tg table.senders)) table.senders))
    (needed d (round d table.sg (greatest_tg table.senders) (second_tg table.senders)) table.senders)
least_min d table =
    let ss : List Sender = table.senders in
    let a : Shape = own table.sg (greatest_tg ss) in
    let b : Shape = neighbours d table.sg (greatest_pair (turn_order table)) in
    let one : Shape = lesser_shape d ss a b in
    let c : Shape = apart table.sg (greatest_tg ss) (second_tg ss) in
    let two : Shape = lesser_shape d ss one c in
    let p = lesser_min d ss two (round d table.sg (greatest_tg ss) (second_tg ss)) in
    let q = lesser_min d ss one c in
    let r = lesser_min d ss a b in
    omega (arith, p, q, r)

pub tops_apart : (table : Table) → TableFacts table → 1 < length table.senders → greatest_tg table.senders ≢ second_tg table.senders
tops_apart table facts many =
    let t : HasTops table.senders = tops_of table.senders (numbers_differ table facts) many in
    λ same. differ_tg table.senders t.first t.second (gaps_differ table facts) t.first_in t.second_in t.apart (t.first_is ∙ same ∙ sym t.second_is)
  where
    differ_tg : (ss : List Sender) (x y : Sender) → Differ (λ s. s.tg) ss → In x ss → In y ss → x.number ≢ y.number → x.tg ≡ y.tg → ⊥
    differ_tg [] x y d i j apart e = absurd i
    differ_tg (s ∷ ss) x y d (inl p) (inl q) apart e = apart (ap (λ (z : Sender). z.number) (p ∙ sym q))
    differ_tg (s ∷ ss) x y d (inl p) (inr q) apart e = d.0 y q (sym (ap (λ (z : Sender). z.tg) p) ∙ e)
    differ_tg (s ∷ ss) x y d (inr p) (inl q) apart e = d.0 x p (sym (ap (λ (z : Sender). z.tg) q) ∙ sym e)
    differ_tg (s ∷ ss) x y d (inr p) (inr q) apart e = differ_tg ss x y d.1 p q apart e

order_rises : (e d : ℕ) (table : Table) → TableFacts table → 1 < length table.senders → e ≤ d → least_in_order e table ≤ least_in_order d table
order_rises e d table facts many low =
    let ss : List Sender = table.senders in
    let first : ℕ = greatest_tg ss in
    let second : ℕ = second_tg ss in
    let p = least_min e table in
    let q = least_min d table in
    let a = same_shape e d low (own table.sg first) ss in
    let b = neighbours_rise e d low table.sg (greatest_pair (turn_order table)) ss in
    let c = same_shape e d low (apart table.sg first second) ss in
    let f = round_rises e d low table.sg first second (tops_apart table facts many) ss in
    omega (arith, p, q, a, b, c, f)

or_either : (a b : Bool) → (a ≡ true) ⊎ (b ≡ true) → (a || b) ≡ true
or_either true b h = refl
or_either false b (inl h) = absurd (true≢false (sym h))
or_either false b (inr h) = h

pub fits_less : (e d : ℕ) (table : Table) → IsTrue (is_valid table) → table.mode ≡ Periodic → 1 < length table.senders → e ≤ d
    → fits d table ≡ true → fits e table ≡ true
fits_less e d table valid mode many low h =
    let a : Bool = nat_le (least_in_order e table) table.ti in
    let b : Bool = nat_le (least_interval_for e table) table.ti in
    or_either a b (elim (fits_cases d table h) [
      | inl k ↦ inl (let r = order_rises e d table (valid_facts table valid) many low in le-leb (least_in_order e table) table.ti (omega (arith, k, r)))
      | inr k ↦ inr (
          let long = by_gap_length table in
          let r = order_rises e d (by_gap table) (valid_facts (by_gap table) (by_gap_valid table valid mode)) (omega (arith, long, many)) low in
          le-leb (least_interval_for e table) table.ti (omega (arith, k, r)))
    ])

-- ---- a delay as long as the interval
pub turns_low : (d : ℕ) (table : Table) → turns_for d table ≤ least_in_order d table
turns_low d table = sum_le (turn_time d) (time_in d (shape_of d table)) (λ s. omega arith) table.senders

turns_long : (d : ℕ) (table : Table) → TableFacts table → d < turns_for d table
turns_long d table facts = by_senders table.senders facts.some (modest_one table facts) where
  by_senders : (ss : List Sender) → 0 < length ss → AreModest ss → d < sum_by (turn_time d) ss
  by_senders [] none m = absurd (omega (arith, none))
  by_senders (s ∷ ss) more m =
      let one = sum_by-cons (turn_time d) s ss in let least = (m s (inl refl)).tg_least in omega (arith, one, least)

either_false : (a b : Bool) → a ≡ false → b ≡ false → (a || b) ≡ false
either_false true b h k = absurd (true≢false h)
either_false false b h k = k

pub long_unfit : (d : ℕ) (table : Table) → IsTrue (is_valid table) → table.mode ≡ Periodic → table.ti ≤ d → fits d table ≡ false
long_unfit d table valid mode long =
    let one = turns_low d table in
    let two = turns_long d table (valid_facts table valid) in
    let three = turns_low d (by_gap table) in
    let four = turns_long d (by_gap table) (valid_facts (by_gap table) (by_gap_valid table valid mode)) in
    either_false (nat_le (least_in_order d table) table.ti) (nat_le (least_interval_for d table) table.ti)
    (lt-leb (least_in_order d table) table.ti (omega (arith, one, two, long)))
    (lt-leb (least_interval_for d table) table.ti (omega (arith, three, four, long)))

-- ---- so with offsets that are found
pub found_less : (e d : ℕ) (table : Table) → IsTrue (is_valid table) → table.mode ≡ Periodic → 1 < length table.senders → e ≤ d
    → is_found d table ≡ true → is_found e table ≡ true
found_less e d table valid mode many low h =
    or_either (fits e table) (bears_as_given e table) (elim (or_cases (fits d table) (bears_as_given d table) h) [
      | inl k ↦ inl (fits_less e d table valid mode many low k)
      | inr k ↦ inr (given_less e d table valid mode many low k)
    ])

pub long_unfound : (d : ℕ) (table : Table) → IsTrue (is_valid table) → table.mode ≡ Periodic → 1 < length table.senders → table.ti ≤ d
    → is_found d table ≡ false
long_unfound d table valid mode many long =
    either_false (fits d table) (bears_as_given d table) (long_unfit d table valid mode long) (elim (cases_Bool (bears_as_given d table)) [
      | inl h ↦
          let one = given_turns d table valid mode many h in
          let two = turns_long d table (valid_facts table valid) in
          absurd (omega (arith, one, two, long))
      | inr h ↦ h
    ])

-- the number that comes of halving is the greatest for which they are
pub best_is : (d : ℕ) (table : Table) → IsTrue (is_valid table) → table.mode ≡ Periodic → 1 < length table.senders → d < table.ti
    → is_found d table ≡ true → is_found (d + 1) table ≡ false → d ≡ best_of table
best_is d table valid mode many low yes' no' =
    sym (greatest_is (λ e. is_found e table) d (table.ti - 1) (λ e. (
      (λ less. found_less e d table valid mode many less yes'),
      (λ it. elim (cases_lt d e) [
        | inl more ↦ absurd (true≢false (sym (found_less (d + 1) e table valid mode many (omega (arith, more)) it) ∙ no'))
        | inr less ↦ less
      ]),
    )) (omega (arith, low)))

pub best_told : (table made : Table) (d : ℕ) → length table.senders ≢ 1 → is_found 0 table ≡ true → d ≡ best_of table
    → is_refuted (d + 1) table ≡ true → made ≡ found d table → Planned made ≡ plan_best_of table
best_told table made d several some best refuted is =
    ap Planned (is ∙ ap (λ (n : ℕ). found n table) best)
    ∙ sym (ap (λ b. cond b (alone (plan_of table)) (cond (not (is_found 0 table)) (unfit 0 table)
    (cond (is_refuted (best_of table + 1) table) (Planned (found (best_of table) table)) (undecided (best_of table + 1) table))))
    (ne_eqb (length table.senders) 1 several)
    ∙ ap (λ b. cond (not b) (unfit 0 table)
    (cond (is_refuted (best_of table + 1) table) (Planned (found (best_of table) table)) (undecided (best_of table + 1) table))) some
    ∙ ap (λ b. cond b (Planned (found (best_of table) table)) (undecided (best_of table + 1) table))
    (ap (λ (n : ℕ). is_refuted (n + 1) table) (sym best) ∙ refuted))

pub most_told_some : (table : Table) (d : ℕ) → length table.senders ≢ 1 → is_found 0 table ≡ true → d ≡ best_of table
    → is_refuted (d + 1) table ≡ true → Some d ≡ most_borne_in Periodic table
most_told_some table d several some best refuted =
    ap Some best
    ∙ sym (ap (λ b. cond b None (cond (is_found 0 table && is_refuted (best_of table + 1) table) (Some (best_of table)) None))
    (ne_eqb (length table.senders) 1 several)
    ∙ ap (λ b. cond (b && is_refuted (best_of table + 1) table) (Some (best_of table)) None) some
    ∙ ap (λ b. cond b (Some (best_of table)) None) (ap (λ (n : ℕ). is_refuted (n + 1) table) (sym best) ∙ refuted))
