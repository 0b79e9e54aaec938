-- Where the first sender isn't heard in time the first round fails.
use Rattle.std.proofs.Common.{◌≡◌, ℕ, zero, suc, ◌+◌, ◌*◌, ◌<◌, ◌≤◌, true, false, cond, List, [], ◌∷◌, Option, inl, inr, arith, sym, refl, ap, ◌∙◌, subst, eq-eqb, ne_eqb}
use Rattle.std.specs.Prelude.{IfSome, nat_eq}
use Rattle.std.proofs.lemmas.Bool.{cases_eq}
use Rattle.bus_clocks.specs.Buses.{Bus, among}
use Rattle.bus_clocks.specs.Entries.{Entry, In, IsAscending}
use Rattle.bus_clocks.specs.Courses.{Course, HasEntry}
use Rattle.bus_clocks.specs.Rounds.{InRounds}
use Rattle.bus_clocks.specs.Order.{BeginsBy}
use Rattle.bus_clocks.specs.Apart.{AreHeardApart}
use Rattle.bus_clocks.specs.Needing.{AreBounds, FirstIsNeeded, OpeningIsNeeded}
use Rattle.bus_clocks.proofs.Chosen.{c, cold, has_first, heard_at, late, more, ok, some}
use Rattle.bus_clocks.proofs.Turns.{first_least}

-- another's transmission is heard as late as may be
abbrev pub delay_to : Bus → ℕ → Entry → ℕ
delay_to bus n x = cond (nat_eq x.sender n) 0 bus.delay

pub delay_most : (bus : Bus) (n : ℕ) (x : Entry) → delay_to bus n x ≤ bus.delay
delay_most bus n x = elim (nat_eq x.sender n) as (λ b. cond b 0 bus.delay ≤ bus.delay) [ true ↦ omega arith | false ↦ omega arith ]

pub delay_own : (bus : Bus) (x : Entry) → delay_to bus x.sender x ≡ 0
delay_own bus x = ap (λ b. cond b 0 bus.delay) (eq-eqb x.sender x.sender refl)

pub delay_mine : (bus : Bus) (n : ℕ) (x : Entry) → x.sender ≡ n → delay_to bus n x ≡ 0
delay_mine bus n x mine = ap (λ b. cond b 0 bus.delay) (eq-eqb x.sender n mine)

pub delay_other : (bus : Bus) (n : ℕ) (x : Entry) → (x.sender ≡ n → ⊥) → delay_to bus n x ≡ bus.delay
delay_other bus n x other = ap (λ b. cond b 0 bus.delay) (ne_eqb x.sender n other)

-- sender j has long timers, all others short ones
abbrev pub longer : ℕ → (ℕ → ℕ) → (ℕ → ℕ) → ℕ → ℕ
longer j short long k = cond (nat_eq k j) (long k) (short k)

pub longer_in : (j : ℕ) (short long : ℕ → ℕ) (k : ℕ) → short k ≤ long k → (short k ≤ longer j short long k) × (longer j short long k ≤ long k)
longer_in j short long k low =
    elim (nat_eq k j) as (λ b. (short k ≤ cond b (long k) (short k)) × (cond b (long k) (short k) ≤ long k)) [
      | true ↦ (low, omega arith)
      | false ↦ (omega arith, low)
    ]

pub longer_is : (j : ℕ) (short long : ℕ → ℕ) → longer j short long j ≡ long j
longer_is j short long = ap (λ b. cond b (long j) (short j)) (eq-eqb j j refl)

pub longer_not : (j : ℕ) (short long : ℕ → ℕ) (k : ℕ) → (k ≡ j → ⊥) → longer j short long k ≡ short k
longer_not j short long k other = ap (λ b. cond b (long k) (short k)) (ne_eqb k j other)

module _ (bus : Bus) (ups : ℕ → ℕ) (messages : Option ℕ) (k : ℕ) (bounds : AreBounds bus) (has : IfSome messages (λ n. 0 < n)) (behind : 0 < k) (known : k < bus.senders)
    (less : ups k + bus.sg_short k + bus.tg_short k ≤ ups 0 + bus.sg_long 0 + bus.tg_long 0 + bus.delay) where
  abbrev tgc : ℕ → ℕ
  tgc = longer 0 bus.tg_short bus.tg_long

  abbrev sgc : ℕ → ℕ
  sgc = longer 0 bus.sg_short bus.sg_long

  tg_in : (j : ℕ) → j < bus.senders → (bus.tg_short j ≤ tgc j) × (tgc j ≤ bus.tg_long j)
  tg_in j one = longer_in 0 bus.tg_short bus.tg_long j (bounds.tg j one)

  sg_in : (j : ℕ) → j < bus.senders → (bus.sg_short j ≤ sgc j) × (sgc j ≤ bus.sg_long j)
  sg_in j one = longer_in 0 bus.sg_short bus.sg_long j (bounds.sg j one)

  abbrev H : ℕ
  H = ups 0 + bus.sg_long 0 + bus.tg_long 0 + bus.delay + 1

  abbrev course : Course
  course = c bus bounds ups tgc sgc (delay_to bus) messages H tg_in sg_in (delay_most bus) (delay_own bus) has

  late_first : (x : Entry) → In x course.list → x.sender ≡ 0 → ups 0 + bus.sg_long 0 + bus.tg_long 0 ≤ x.moment
  late_first x i mine =
      let l : ups x.sender + sgc x.sender + tgc x.sender ≤ x.moment = late bus bounds ups tgc sgc (delay_to bus) messages H tg_in sg_in (delay_most bus) (delay_own bus) has x i in
      subst (λ n. ups 0 + bus.sg_long 0 + n ≤ x.moment) (longer_is 0 bus.tg_short bus.tg_long)
      (subst (λ n. ups 0 + n + tgc 0 ≤ x.moment) (longer_is 0 bus.sg_short bus.sg_long) (subst (λ j. ups j + sgc j + tgc j ≤ x.moment) mine l))

  late_other : (x : Entry) → In x course.list → x.sender ≡ k → ups k + bus.sg_short k + bus.tg_short k ≤ x.moment
  late_other x i mine =
      let l : ups x.sender + sgc x.sender + tgc x.sender ≤ x.moment = late bus bounds ups tgc sgc (delay_to bus) messages H tg_in sg_in (delay_most bus) (delay_own bus) has x i in
      subst (λ n. ups k + bus.sg_short k + n ≤ x.moment) (longer_not 0 bus.tg_short bus.tg_long k (λ e. omega arith))
      (subst (λ n. ups k + n + tgc k ≤ x.moment) (longer_not 0 bus.sg_short bus.sg_long k (λ e. omega arith)) (subst (λ j. ups j + sgc j + tgc j ≤ x.moment) mine l))

  is_k : ups k + sgc k + tgc k ≡ ups k + bus.sg_short k + bus.tg_short k
  is_k =
      ap (λ n. ups k + n + tgc k) (longer_not 0 bus.sg_short bus.sg_long k (λ e. omega arith))
      ∙ ap (λ n. ups k + bus.sg_short k + n) (longer_not 0 bus.tg_short bus.tg_long k (λ e. omega arith))

  fails : (l : List Entry) → course.list ≡ l → InRounds (among bus) course 0 (ups 0) l → BeginsBy bus course (ups 0 + bus.sg_long 0 + bus.tg_long 0) l
      → AreHeardApart course.hears l → ⊥
  fails [] is rounds soon apart =
      let l : H ≤ ups 0 + bus.sg_long 0 + bus.tg_long 0 = soon 0 (omega arith) (λ t less. more bus bounds ups tgc sgc (delay_to bus) messages H tg_in sg_in (delay_most bus) (delay_own bus) has 0 t
      (λ x i mine before. subst (In x) is i)) in
      omega arith
  fails (x ∷ ys) is rounds soon apart =
      let mine : x.sender ≡ 0 = rounds.0 in
      let i : In x course.list = subst (In x) (sym is) (inl refl) in
      let at : ups 0 + bus.sg_long 0 + bus.tg_long 0 ≤ x.moment = late_first x i mine in
      let up : IsAscending (x ∷ ys) =
      subst IsAscending is (ok bus bounds ups tgc sgc (delay_to bus) messages H tg_in sg_in (delay_most bus) (delay_own bus) has).ordered in
      let some_x : 0 < x.length = some bus bounds ups tgc sgc (delay_to bus) messages H tg_in sg_in (delay_most bus) (delay_own bus) has x i in
      let h : HasEntry course.list k (ups k + bus.sg_short k + bus.tg_short k) =
      has_first bus bounds ups tgc sgc (delay_to bus) messages H tg_in sg_in (delay_most bus) (delay_own bus) has k (ups k + bus.sg_short k + bus.tg_short k) known is_k (omega arith)
      (λ z j own before. (let l : ups k + bus.sg_short k + bus.tg_short k ≤ z.moment = late_other z j own in omega arith))
      (λ z j. elim (cases_eq z.sender k) [
        | inl own ↦ (let l : ups k + bus.sg_short k + bus.tg_short k ≤ z.moment = late_other z j own in omega arith)
        | inr other ↦
            let e : delay_to bus k z ≡ bus.delay = delay_other bus k z other in
            let l : x.moment ≤ z.moment = first_least x ys up z (subst (In z) is j) in
            omega arith
      ]) in
      let at_h : h.entry.moment ≡ ups k + bus.sg_short k + bus.tg_short k = h.moment in
      let some_h : 0 < h.entry.length = some bus bounds ups tgc sgc (delay_to bus) messages H tg_in sg_in (delay_most bus) (delay_own bus) has h.entry h.there in
      elim (subst (In h.entry) is h.there) [
        | inl same ↦ (let e : h.entry.sender ≡ x.sender = ap (λ (z : Entry). z.sender) same in let f : h.entry.sender ≡ k = h.sender in omega arith)
        | inr j ↦
            let far : delay_to bus k x ≡ bus.delay = delay_other bus k x (λ e. omega arith) in
            let own : delay_to bus k h.entry ≡ 0 = delay_mine bus k h.entry h.sender in
            let apart_h : x.moment + bus.delay < ups k + bus.sg_short k + bus.tg_short k =
            apart.0 h.entry k (x.moment + bus.delay) (ups k + bus.sg_short k + bus.tg_short k) j
            (heard_at bus bounds ups tgc sgc (delay_to bus) messages H tg_in sg_in (delay_most bus) (delay_own bus) has x k (x.moment + bus.delay) (omega arith) (omega arith))
            (heard_at bus bounds ups tgc sgc (delay_to bus) messages H tg_in sg_in (delay_most bus) (delay_own bus) has h.entry k (ups k + bus.sg_short k + bus.tg_short k) (omega arith) (omega arith)) in
            omega arith
      ]

pub first_is_needed : FirstIsNeeded
first_is_needed bus ups messages k bounds has behind known less = record {
  c = course bus ups messages k bounds has behind known less;
  course = ok bus bounds ups (tgc bus ups messages k bounds has behind known less) (sgc bus ups messages k bounds has behind known less) (delay_to bus) messages
      (H bus ups messages k bounds has behind known less) (tg_in bus ups messages k bounds has behind known less) (sg_in bus ups messages k bounds has behind known less)
      (delay_most bus) (delay_own bus) has;
  cold = cold bus bounds ups (tgc bus ups messages k bounds has behind known less) (sgc bus ups messages k bounds has behind known less) (delay_to bus) messages
      (H bus ups messages k bounds has behind known less) (tg_in bus ups messages k bounds has behind known less) (sg_in bus ups messages k bounds has behind known less)
      (delay_most bus) (delay_own bus) has;
  up = λ j. refl;
  even = λ j. refl;
  fails = fails bus ups messages k bounds has behind known less (course bus ups messages k bounds has behind known less).list refl;
}

-- all powered up at once, but the first, which is by the delay later
abbrev pub first_later : ℕ → ℕ → ℕ
first_later delay zero = delay
first_later delay (suc k) = 0

pub opening_is_needed : OpeningIsNeeded
opening_is_needed bus messages k bounds has behind known less = (
  first_later bus.delay,
  (λ j one. within bus.delay j),
  first_is_needed bus (first_later bus.delay) messages k bounds has behind known (enough k behind less),
) where
  within : (delay j : ℕ) → (first_later delay 0 ≤ first_later delay j + delay) × (first_later delay j ≤ first_later delay 0 + delay)
  within delay zero = (omega arith, omega arith)
  within delay (suc j) = (omega arith, omega arith)

  enough : (j : ℕ) → 0 < j → bus.sg_short j + bus.tg_short j ≤ bus.sg_long 0 + bus.tg_long 0 + 2 * bus.delay
      → first_later bus.delay j + bus.sg_short j + bus.tg_short j ≤ first_later bus.delay 0 + bus.sg_long 0 + bus.tg_long 0 + bus.delay
  enough zero none room = absurd (omega arith)
  enough (suc j) more room = omega arith
