-- What the shapes need, and that the least of it is no more than what gaps that bear a delay have.
use Rattle.std.proofs.Common.{◌≡◌, ◌≢◌, ℕ, ◌+◌, ◌-◌, ◌*◌, ◌<◌, ◌≤◌, max, min, true, false, cond, List, [], ◌∷◌, ◌⊎◌, inl, inr, arith, refl, ap, ◌∙◌}
use Rattle.std.specs.Prelude.{nat_lt, ◌==◌}
use Rattle.std.specs.List.{sum_by}
use Rattle.std.proofs.lemmas.Bool.{cases_lt}
use Rattle.std.proofs.lemmas.Bool.Decides.{nat_tests}
use Rattle.std.proofs.lemmas.List.Sums.{sum_by-cons}
use Rattle.bus_strings.specs.Members.{In}
use Rattle.bus_table.specs.Tables.{Sender, Table}
use Rattle.bus_table.specs.Lengths.{longest}
use Rattle.bus_table.specs.Turns.{turn_order}
use Rattle.bus_table.specs.inside.Orders.{Differ}
use Rattle.bus_cable_plan.specs.Shapes.{Shape, Pair, added, time_in, needed, own, neighbours, apart, round, lesser_shape, greatest_tg, second_tg, greatest_pair}
use Rattle.bus_cable_plan.specs.Plans.{turn_time, turns_for, least_in_order}
use Rattle.bus_cable_plan.specs.inside.Lists.{want}
use Rattle.bus_cable_plan.proofs.Pairs.{both}

-- ---- what is added to one gap counts once
none_added : (tg more : ℕ) (ss : List Sender) → ((s : Sender) → In s ss → tg ≢ s.tg) → sum_by (added tg more) ss ≡ 0
none_added tg more [] h = refl
none_added tg more (s ∷ ss) h =
    let rest = none_added tg more ss (λ x i. h x (inr i)) in
    let one = sum_by-cons (added tg more) s ss in
    let apart : tg ≢ s.tg = h s (inl refl) in
    let no : added tg more s ≡ 0 = ap (λ b. cond b more 0) (let k : (s.tg == tg) ≡ false = grind (arith, nat_tests) in k) in
    omega (arith, rest, one, no)

sum_added : (tg more : ℕ) (ss : List Sender) → Differ (λ s. s.tg) ss → sum_by (added tg more) ss ≤ more
sum_added tg more [] d = omega arith
sum_added tg more (s ∷ ss) d =
    let one = sum_by-cons (added tg more) s ss in
    (elim (s.tg == tg) as (λ b. (s.tg == tg) ≡ b → sum_by (added tg more) (s ∷ ss) ≤ more) [
      | true ↦ λ h.
          let same : s.tg ≡ tg = grind (arith, nat_tests, h) in
          let this : added tg more s ≡ more = ap (λ b. cond b more 0) h in
          let none = none_added tg more ss (λ x i k. d.0 x i (same ∙ k)) in
          omega (arith, one, this, none)
      | false ↦ λ h.
          let this : added tg more s ≡ 0 = ap (λ b. cond b more 0) h in
          let rest = sum_added tg more ss d.1 in
          omega (arith, one, this, rest)
    ]) refl

-- the gap in a shape that adds nothing, and the message behind it
abbrev pub plain : ℕ → ℕ → Sender → ℕ
plain d floor s = max floor (s.tg + d) + longest s

pub needed_parts : (d : ℕ) (shape : Shape) (ss : List Sender) → needed d shape ss
    ≡ sum_by (plain d shape.floor) ss + sum_by (added shape.first shape.first_more) ss + sum_by (added shape.second shape.second_more) ss
needed_parts d shape [] = refl
needed_parts d shape (s ∷ ss) =
    let rest = needed_parts d shape ss in
    let a = sum_by-cons (time_in d shape) s ss in
    let b = sum_by-cons (plain d shape.floor) s ss in
    let c = sum_by-cons (added shape.first shape.first_more) s ss in
    let e = sum_by-cons (added shape.second shape.second_more) s ss in
    omega (arith, rest, a, b, c, e)

pub needed_most : (d : ℕ) (shape : Shape) (ss : List Sender) → Differ (λ s. s.tg) ss
    → needed d shape ss ≤ sum_by (plain d shape.floor) ss + shape.first_more + shape.second_more
needed_most d shape ss differ =
    let parts = needed_parts d shape ss in
    let one = sum_added shape.first shape.first_more ss differ in
    let two = sum_added shape.second shape.second_more ss differ in
    omega (arith, parts, one, two)

pub plain_turns : (d : ℕ) (ss : List Sender) → sum_by (plain d 0) ss ≡ sum_by (turn_time d) ss
plain_turns d [] = refl
plain_turns d (s ∷ ss) =
    let rest = plain_turns d ss in
    let a = sum_by-cons (plain d 0) s ss in
    let b = sum_by-cons (turn_time d) s ss in
    omega (arith, rest, a, b)

-- no terminal gap and d reach a synchronization gap; all do
abbrev pub AreNearOnes : ℕ → ℕ → List Sender → Type 0
AreNearOnes d sg ss = (s : Sender) → In s ss → s.tg + d < sg

abbrev pub AllReachIt : ℕ → ℕ → List Sender → Type 0
AllReachIt d sg ss = (s : Sender) → In s ss → sg ≤ s.tg + d

pub plain_near : (d sg : ℕ) (ss : List Sender) → AreNearOnes d sg ss
    → sum_by (plain d (sg - 1)) ss ≡ sum_by (turn_time d) ss + sum_by (want d sg) ss
plain_near d sg [] near = refl
plain_near d sg (s ∷ ss) near =
    let rest = plain_near d sg ss (λ x i. near x (inr i)) in
    let here = near s (inl refl) in
    let a = sum_by-cons (plain d (sg - 1)) s ss in
    let b = sum_by-cons (turn_time d) s ss in
    let c = sum_by-cons (want d sg) s ss in
    omega (arith, rest, here, a, b, c)

plain_all : (d sg : ℕ) (ss : List Sender) → AllReachIt d sg ss → sum_by (plain d (sg - 1)) ss ≡ sum_by (turn_time d) ss
plain_all d sg [] reach = refl
plain_all d sg (s ∷ ss) reach =
    let rest = plain_all d sg ss (λ x i. reach x (inr i)) in
    let here = reach s (inl refl) in
    let a = sum_by-cons (plain d (sg - 1)) s ss in
    let b = sum_by-cons (turn_time d) s ss in
    omega (arith, rest, here, a, b)

-- ---- the least of four
lesser_least : (d : ℕ) (ss : List Sender) (a b : Shape)
    → (needed d (lesser_shape d ss a b) ss ≤ needed d a ss) × (needed d (lesser_shape d ss a b) ss ≤ needed d b ss)
lesser_least d ss a b =
    (elim (nat_lt (needed d b ss) (needed d a ss)) as (λ w. nat_lt (needed d b ss) (needed d a ss) ≡ w
    → (needed d (cond w b a) ss ≤ needed d a ss) × (needed d (cond w b a) ss ≤ needed d b ss)) [
      | true ↦ λ h. (let k : needed d b ss < needed d a ss = grind (arith, nat_tests, h) in (omega (arith, k), omega arith))
      | false ↦ λ h. (let k : needed d a ss ≤ needed d b ss = grind (arith, nat_tests, h) in (omega arith, omega (arith, k)))
    ]) refl

pub record IsLeast (d : ℕ) (table : Table) : Type 0 where
  pub own_most : least_in_order d table ≤ needed d (own table.sg (greatest_tg table.senders)) table.senders
  pub neighbours_most : least_in_order d table ≤ needed d (neighbours d table.sg (greatest_pair (turn_order table))) table.senders
  pub apart_most : least_in_order d table ≤ needed d (apart table.sg (greatest_tg table.senders) (second_tg table.senders)) table.senders
  pub round_most : least_in_order d table ≤ needed d (round d table.sg (greatest_tg table.senders) (second_tg table.senders)) table.senders

pub is_least : (d : ℕ) (table : Table) → IsLeast d table
is_least d table =
    let ss : List Sender = table.senders in
    let first : ℕ = greatest_tg ss in
    let second : ℕ = second_tg ss in
    let a : Shape = own table.sg first in
    let b : Shape = neighbours d table.sg (greatest_pair (turn_order table)) in
    let one : Shape = lesser_shape d ss a b in
    let c : Shape = apart table.sg first second in
    let two : Shape = lesser_shape d ss one c in
    let e : Shape = round d table.sg first second in
    let p = lesser_least d ss a b in
    let q = lesser_least d ss one c in
    let r = lesser_least d ss two e in
    let p0 = p.0 in
    let p1 = p.1 in
    let q0 = q.0 in
    let q1 = q.1 in
    let r0 = r.0 in
    let r1 = r.1 in
    record {
      own_most = omega (arith, p0, q0, r0);
      neighbours_most = omega (arith, p1, q0, r0);
      apart_most = omega (arith, q1, r0);
      round_most = r1;
    }

-- ---- where none reaches it
-- what is enough, in plain numbers
abbrev pub IsEnough : ℕ → Table → ℕ → Type 0
IsEnough d table total =
    (table.sg ≤ total) ⊎ ((2 + sum_by (want d table.sg) table.senders ≤ total)
    ⊎ ((2 * table.sg ≤ total + both (greatest_pair (turn_order table)) + d)
    ⊎ (2 * table.sg ≤ total + greatest_tg table.senders + second_tg table.senders)))

pub near_least : (d : ℕ) (table : Table) (total : ℕ) → Differ (λ s. s.tg) table.senders → AreNearOnes d table.sg table.senders
    → greatest_tg table.senders < table.sg → second_tg table.senders < table.sg
    → (greatest_pair (turn_order table)).before < table.sg → (greatest_pair (turn_order table)).behind + d < table.sg
    → IsEnough d table total → least_in_order d table ≤ turns_for d table + total
near_least d table total differ near first_short second_short before behind h =
    let ss : List Sender = table.senders in
    let first : ℕ = greatest_tg ss in
    let second : ℕ = second_tg ss in
    let pair : Pair = greatest_pair (turn_order table) in
    let least = is_least d table in
    let turns = plain_turns d ss in
    elim h [
      | inl one ↦
          let k = least.own_most in
          let m = needed_most d (own table.sg first) ss differ in
          omega (arith, k, m, turns, one)
      | inr r ↦ elim r [
        | inl all ↦
            let k = least.round_most in
            let m = needed_most d (round d table.sg first second) ss differ in
            let p = plain_near d table.sg ss near in
            omega (arith, k, m, p, all)
        | inr q ↦ elim q [
          | inl close ↦
              let k = least.neighbours_most in
              let m = needed_most d (neighbours d table.sg pair) ss differ in
              omega (arith, k, m, turns, close, before, behind)
          | inr distant ↦
              let k = least.apart_most in
              let m = needed_most d (apart table.sg first second) ss differ in
              omega (arith, k, m, turns, distant, first_short, second_short)
        ]
      ]
    ]

-- ---- where all do
pub reach_least : (d : ℕ) (table : Table) → Differ (λ s. s.tg) table.senders → AllReachIt d table.sg table.senders
    → table.sg ≤ greatest_tg table.senders + d → table.sg ≤ second_tg table.senders + d → least_in_order d table ≤ turns_for d table
reach_least d table differ reach first second =
    let k = (is_least d table).round_most in
    let m = needed_most d (round d table.sg (greatest_tg table.senders) (second_tg table.senders)) table.senders differ in
    let p = plain_all d table.sg table.senders reach in
    omega (arith, k, m, p, first, second)

-- ---- two senders
pub two_least : (d : ℕ) (table : Table) (total : ℕ) (a b : Sender) → table.senders ≡ a ∷ b ∷ [] → Differ (λ s. s.tg) table.senders
    → (table.sg ≤ total) ⊎ ((table.sg - (a.tg + d)) + (table.sg - (b.tg + d)) ≤ total)
    → least_in_order d table ≤ turns_for d table + total
two_least d table total a b is differ (inl one) =
    let k = (is_least d table).own_most in
    let m = needed_most d (own table.sg (greatest_tg table.senders)) table.senders differ in
    let turns = plain_turns d table.senders in
    omega (arith, k, m, turns, one)
two_least d table total a b is differ (inr both_short) =
    let k = (is_least d table).round_most in
    let m = needed_most d (round d table.sg (greatest_tg table.senders) (second_tg table.senders)) table.senders differ in
    let first : greatest_tg table.senders ≡ max a.tg (max b.tg 0) = ap greatest_tg is in
    let second : second_tg table.senders ≡ max (max 0 (min b.tg 0)) (min a.tg (max b.tg 0)) = ap second_tg is in
    let p = ap (sum_by (plain d (table.sg - 1))) is ∙ sum_by-cons (plain d (table.sg - 1)) a (b ∷ [])
    in
    let q = sum_by-cons (plain d (table.sg - 1)) b [] in
    let t = ap (sum_by (turn_time d)) is ∙ sum_by-cons (turn_time d) a (b ∷ []) in
    let u = sum_by-cons (turn_time d) b [] in
    let none : sum_by (plain d (table.sg - 1)) [] ≡ 0 = refl in
    let zero : sum_by (turn_time d) [] ≡ 0 = refl in
    elim (cases_lt a.tg b.tg) [
      | inl less ↦
          let f : greatest_tg table.senders ≡ b.tg = omega (arith, first, less) in
          let g : second_tg table.senders ≡ a.tg = omega (arith, second, less) in
          omega (arith, k, m, p, q, t, u, none, zero, f, g, both_short)
      | inr more ↦
          let f : greatest_tg table.senders ≡ a.tg = omega (arith, first, more) in
          let g : second_tg table.senders ≡ b.tg = omega (arith, second, more) in
          omega (arith, k, m, p, q, t, u, none, zero, f, g, both_short)
    ]
