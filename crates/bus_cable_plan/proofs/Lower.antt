-- No offsets bear a delay where the interval is below the least one for it, where that is known.
use Rattle.std.proofs.Common.{◌≡◌, ◌≢◌, ℕ, ◌+◌, ◌-◌, ◌*◌, ◌<◌, ◌≤◌, min, true, cond, List, [], ◌∷◌, ◌++◌, length, Some, None, ◌⊎◌, inl, inr, arith, refl, sym, ap, ◌∙◌, subst}
use Rattle.std.specs.Prelude.{nat_lt, nat_le}
use Rattle.std.specs.List.{list_all}
use Rattle.std.proofs.lemmas.Bool.{and_parts, cases_Bool, cases_lt, leb-true, ltb-true}
use Rattle.std.proofs.lemmas.Bool.Decides.{nat_tests}
use Rattle.bus_strings.specs.Members.{In}
use Rattle.bus_table.specs.Tables.{Sender, Table}
use Rattle.bus_table.specs.Turns.{turn_key, turn_order}
use Rattle.bus_table.specs.inside.Facts.{TableFacts}
use Rattle.bus_table.proofs.TurnLaws.{from_sort, sum_sort, numbers_differ, gaps_differ}
use Rattle.bus_regime.specs.Gaps.{Gap, has_width}
use Rattle.bus_schedule.specs.Slack.{stays}
use Rattle.bus_cable_plan.specs.Plans.{turns_for, least_in_order}
use Rattle.bus_cable_plan.specs.inside.Lists.{Apart, AreNear, excess, total, want, HasEnough, gaps_hold}
use Rattle.bus_cable_plan.specs.inside.Orders.{AreModest, AreOf, IsBefore}
use Rattle.bus_cable_plan.proofs.Enough.{borne_have_enough}
use Rattle.bus_cable_plan.proofs.InOrder.{table_pair}
use Rattle.bus_cable_plan.proofs.Matching.{from_of, of_wants, from_next}
use Rattle.bus_cable_plan.proofs.Needs.{AreNearOnes, AllReachIt, IsEnough, near_least, reach_least}
use Rattle.bus_cable_plan.proofs.Pairs.{greatest_is_most}
use Rattle.bus_cable_plan.proofs.Ring.{all_wide, all_stay_at}
use Rattle.bus_cable_plan.proofs.Tops.{HasTops, tops_of, most_two}
use Rattle.bus_cable_plan.proofs.Walking.{stays_own, stays_next}

-- ---- the tests
pub near_of : (d sg : ℕ) (ss : List Sender) → list_all (λ s. nat_lt (s.tg + d) sg) ss ≡ true → AreNearOnes d sg ss
near_of d sg [] h s i = absurd i
near_of d sg (x ∷ ss) h s (inl e) =
    let k : x.tg + d < sg = ltb-true (x.tg + d) sg (and_parts _ _ h).0 in
    let tg : s.tg ≡ x.tg = ap (λ (y : Sender). y.tg) e in
    omega (arith, k, tg)
near_of d sg (x ∷ ss) h s (inr i) = near_of d sg ss (and_parts _ _ h).1 s i

pub reach_of : (d sg : ℕ) (ss : List Sender) → list_all (λ s. nat_le sg (s.tg + d)) ss ≡ true → AllReachIt d sg ss
reach_of d sg [] h s i = absurd i
reach_of d sg (x ∷ ss) h s (inl e) =
    let k : sg ≤ x.tg + d = leb-true sg (x.tg + d) (and_parts _ _ h).0 in
    let tg : s.tg ≡ x.tg = ap (λ (y : Sender). y.tg) e in
    omega (arith, k, tg)
reach_of d sg (x ∷ ss) h s (inr i) = reach_of d sg ss (and_parts _ _ h).1 s i

-- ---- neighbours are of the order
pub before_in : (f g : Sender) (order : List Sender) → IsBefore f g order → In f order × In g order
before_in f g order (inl n) =
    (subst (λ l. In f l) (sym n.2) (first n.0), subst (λ l. In g l) (sym n.2) (second n.0)) where
      first : (x : List Sender) → In f (x ++ f ∷ g ∷ n.1)
      first [] = inl refl
      first (z ∷ x) = inr (first x)

      second : (x : List Sender) → In g (x ++ f ∷ g ∷ n.1)
      second [] = inr (inl refl)
      second (z ∷ x) = inr (second x)
before_in f g order (inr n) =
    (subst (λ l. In f l) (sym n.1) (inr (last n.0)), subst (λ l. In g l) (sym n.1) (inl refl)) where
      last : (z : List Sender) → In f (z ++ f ∷ [])
      last [] = inl refl
      last (y ∷ z) = inr (last z)

-- ---- where none reaches it: what is enough in numbers is no less than the least interval
pub near_bound : (d : ℕ) (table : Table) → TableFacts table → 1 < length table.senders → AreNearOnes d table.sg table.senders
    → (total : ℕ) → IsEnough d table total → least_in_order d table ≤ turns_for d table + total
near_bound d table facts many near total enough =
    let t : HasTops table.senders = tops_of table.senders (numbers_differ table facts) many in
    let p = table_pair table facts many in
    let ins = before_in p.first p.second (turn_order table) p.next in
    let key : Sender → ℕ = turn_key table.mode in
    let f = near p.first (from_sort key table.senders p.first ins.0) in
    let g = near p.second (from_sort key table.senders p.second ins.1) in
    let x = near t.first t.first_in in
    let y = near t.second t.second_in in
    let before = p.before_is in
    let behind = p.behind_is in
    let first = t.first_is in
    let second = t.second_is in
    near_least d table total (gaps_differ table facts) near (omega (arith, first, x)) (omega (arith, second, y)) (omega (arith, before, f))
    (omega (arith, behind, g)) enough

pub near_gaps : (d sg : ℕ) (gs : List Gap) (order : List Sender) → AreOf gs order → AreModest order → AreNearOnes d sg order → AreNear d sg gs
near_gaps d sg gs order of modest near g i =
    let w = from_of gs order of g i in
    let least = (modest w.0 w.1).tg_least in
    let short = near w.0 w.1 in
    let tg = w.2 in
    (omega (arith, least, tg), omega (arith, short, tg))

pub enough_of : (d sg : ℕ) (gs : List Gap) → 0 < length gs → Apart gs → AreNear d sg gs → gaps_hold d sg gs ≡ true → HasEnough d sg gs
enough_of d sg [] some apart near hold = absurd (omega (arith, some))
enough_of d sg (g ∷ gs) some apart near hold = borne_have_enough d sg g gs apart near hold

pub of_length : (gs : List Gap) (order : List Sender) → AreOf gs order → length gs ≡ length order
of_length [] [] h = refl
of_length [] (s ∷ ss) h = absurd h
of_length (g ∷ gs) [] h = absurd h
of_length (g ∷ gs) (s ∷ ss) h = let k = of_length gs ss h.2 in omega (arith, k)

-- a synchronization gap less what two senders lack
pub two_wants : (d sg : ℕ) (x y : Sender) → x.tg + d < sg → y.tg + d < sg → (total : ℕ) → 2 + d + want d sg x + want d sg y ≤ total
    → 2 * sg ≤ total + x.tg + y.tg + d
two_wants d sg x y p q total h = omega (arith, p, q, h)

pub two_more_wants : (d sg : ℕ) (x y : Sender) → x.tg + d < sg → y.tg + d < sg → (total : ℕ) → 2 + d + d + want d sg x + want d sg y ≤ total
    → 2 * sg ≤ total + x.tg + y.tg
two_more_wants d sg x y p q total h = omega (arith, p, q, h)

-- gaps in the turn order of a table that bear d, where none reaches it
pub near_in_order : (d : ℕ) (table : Table) → TableFacts table → 1 < length table.senders → AreNearOnes d table.sg table.senders
    → (gs : List Gap) → AreOf gs (turn_order table) → HasEnough d table.sg gs → least_in_order d table ≤ turns_for d table + total d gs
near_in_order d table facts many near gs of h = near_bound d table facts many near (total d gs) (told h) where
  key : Sender → ℕ
  key = turn_key table.mode

  order_near : (s : Sender) → In s (turn_order table) → s.tg + d < table.sg
  order_near s i = near s (from_sort (turn_key table.mode) table.senders s i)

  told : HasEnough d table.sg gs → IsEnough d table (total d gs)
  told (inl one) = inl one
  told (inr (inl all)) =
      let w = of_wants d table.sg gs (turn_order table) of in
      let s = sum_sort (want d table.sg) (turn_key table.mode) table.senders in
      inr (inl (omega (arith, all, w, s)))
  told (inr (inr (inl c))) =
      let n = from_next gs (turn_order table) of c.first c.second c.next in
      let ins = before_in n.first n.second (turn_order table) n.next in
      let p = order_near n.first ins.0 in
      let q = order_near n.second ins.1 in
      let ft = n.first_tg in
      let st = n.second_tg in
      let e = c.enough in
      let most = greatest_is_most (turn_order table) n.first n.second n.next in
      let k = two_wants d table.sg n.first n.second p q (total d gs) (omega (arith, e, ft, st)) in
      inr (inr (inl (omega (arith, k, most))))
  told (inr (inr (inr c))) =
      let x = from_of gs (turn_order table) of c.first c.first_in in
      let y = from_of gs (turn_order table) of c.second c.second_in in
      let p = order_near x.0 x.1 in
      let q = order_near y.0 y.1 in
      let ft = x.2 in
      let st = y.2 in
      let e = c.enough in
      let most = most_two table.senders x.0 y.0 (from_sort (turn_key table.mode) table.senders x.0 x.1)
      (from_sort (turn_key table.mode) table.senders y.0 y.1) (λ same. c.apart (x.3 ∙ same ∙ sym y.3)) in
      let k = two_more_wants d table.sg x.0 y.0 p q (total d gs) (omega (arith, e, ft, st)) in
      inr (inr (inr (omega (arith, k, most))))

-- ---- where all reach it
pub all_in_order : (d : ℕ) (table : Table) → TableFacts table → 1 < length table.senders → AllReachIt d table.sg table.senders
    → least_in_order d table ≤ turns_for d table
all_in_order d table facts many reach =
    let t : HasTops table.senders = tops_of table.senders (numbers_differ table facts) many in
    let x = reach t.first t.first_in in
    let y = reach t.second t.second_in in
    let first = t.first_is in
    let second = t.second_is in
    reach_least d table (gaps_differ table facts) reach (omega (arith, first, x)) (omega (arith, second, y))

-- ---- two senders
record Seen (d sg : ℕ) (g own : Gap) : Type 0 where
  told : (g.from + sg ≤ g.to) ⊎ ((sg ≤ excess d own) ⊎ ((g.to < g.from + sg) × (sg + sg + own.sender.tg + own.from + g.from ≤ 1 + own.to + g.to)))

two_seen : (d sg : ℕ) (g own : Gap) → g.sender.number ≢ own.sender.number → g.from + (g.sender.tg + d) ≤ g.to
    → own.from + (own.sender.tg + d) ≤ own.to → stays d sg own.sender.number (Some 0) (g ∷ own ∷ []) ≡ true → Seen d sg g own
two_seen d sg g own apart wide own_wide h = elim (cases_Bool (has_width (0 + sg) g)) [
  | inl elapses ↦ record { told = inl (let k : g.from + (0 + sg) ≤ g.to = leb-true (g.from + (0 + sg)) g.to elapses in omega (arith, k)) }
  | inr not ↦
      let next = stays_next d sg own.sender.number (Some 0) g (own ∷ []) apart h in
      let later : ℕ = min d (0 + sg - 1 - (g.to - g.from)) in
      let on : stays d sg own.sender.number (Some later) (own ∷ []) ≡ true =
      subst (λ b. stays d sg own.sender.number (cond b None (Some later)) (own ∷ []) ≡ true) not next in
      let short : g.to < g.from + (0 + sg) =
      (let n : (g.from + (0 + sg) ≤ g.to → ⊥) = grind (arith, nat_tests, not) in grind arith) in
      let k : own.from + (sg + own.sender.tg + later) ≤ own.to = leb-true (own.from + (sg + own.sender.tg + later)) own.to
      (stays_own d sg own.sender.number (Some later) own [] refl on) in
      elim (cases_lt d (0 + sg - 1 - (g.to - g.from))) [
        | inl less ↦ record { told = inr (inl (let e : later ≡ d = omega (arith, less) in omega (arith, k, e, own_wide))) }
        | inr most ↦ record {
          told = inr (inr (
            omega (arith, short),
            (let e : later + (g.to - g.from) ≡ sg - 1 = omega (arith, most, short) in omega (arith, k, e, short, wide)),
          ));
        }
      ]
]

pub two_enough : (d sg : ℕ) (a b : Gap) → a.sender.number ≢ b.sender.number → 0 < a.sender.tg → 0 < b.sender.tg
    → gaps_hold d sg (a ∷ b ∷ []) ≡ true
    → (sg ≤ total d (a ∷ b ∷ [])) ⊎ ((sg - (a.sender.tg + d)) + (sg - (b.sender.tg + d)) ≤ total d (a ∷ b ∷ []))
two_enough d sg a b apart some_a some_b hold =
    let parts = and_parts _ _ hold in
    let wide = all_wide d (a ∷ b ∷ []) parts.0 in
    let wide_a = wide a (inl refl) in
    let wide_b = wide b (inr (inl refl)) in
    let stay_a = all_stay_at d sg [] [] a (b ∷ []) parts.1 in
    let stay_b = all_stay_at d sg [] (a ∷ []) b [] parts.1 in
    let one : Seen d sg b a = two_seen d sg b a (λ e. apart (sym e)) wide_b wide_a stay_a in
    let two : Seen d sg a b = two_seen d sg a b apart wide_a wide_b stay_b in
    elim one.told [
      | inl long_b ↦ elim two.told [
        | inl long_a ↦ inr (omega (arith, long_a, long_b, wide_a, wide_b))
        | inr r ↦ elim r [
          | inl own ↦ inl (omega (arith, own))
          | inr k ↦ let p = k.0 in let q = k.1 in inr (omega (arith, p, q, long_b, wide_a, wide_b, some_b))
        ]
      ]
      | inr r ↦ elim r [
        | inl own ↦ inl (omega (arith, own))
        | inr k ↦ let p = k.0 in let q = k.1 in inr (omega (arith, p, q, wide_a, wide_b, some_a))
      ]
    ]
