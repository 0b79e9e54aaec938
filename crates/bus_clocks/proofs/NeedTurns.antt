-- Where two that follow each other inside a round have too little room the first round fails.
use Rattle.std.proofs.Common.{◌≡◌, ℕ, zero, suc, ◌+◌, ◌-◌, ◌*◌, ◌<◌, ◌≤◌, ◌⊎◌, true, false, cond, List, [], ◌∷◌, Option, inl, inr, arith, sym, refl, ap, ◌∙◌, subst, eq-eqb, ne_eqb}
use Rattle.std.specs.Prelude.{IfSome, nat_eq}
use Rattle.std.proofs.lemmas.Bool.{cases_lt, cases_eq}
use Rattle.bus_clocks.specs.Buses.{Bus, among}
use Rattle.bus_clocks.specs.Entries.{Entry, In, IsAscending, end_of}
use Rattle.bus_clocks.specs.Courses.{Course, HasEntry, IsCourse, IsQuiet, MayStart, carrier}
use Rattle.bus_clocks.specs.Rounds.{InRounds, next}
use Rattle.bus_clocks.specs.Needing.{AreBounds, TurnsAreNeeded}
use Rattle.bus_clocks.proofs.Chosen.{c, carried, cold, loud, may, more, ok, quiet, some}
use Rattle.bus_clocks.proofs.Needs.{delay_mine, delay_most, delay_other, delay_to, longer, longer_in, longer_is, longer_not}
use Rattle.bus_clocks.proofs.NeedSync.{among_most, most_grows, most_of, next_is}
use Rattle.bus_clocks.proofs.Turns.{first_least}

-- rounds begin no earlier than what was before has ended
rounds_later : (bus : Bus) (d : Course) (l : List Entry) (a v : ℕ) → InRounds bus d a v l → (z : Entry) → In z l → v ≤ z.moment
rounds_later bus d [] a v rounds z i = absurd i
rounds_later bus d (y ∷ ys) zero v rounds z (inl same) = (let low : v + bus.sg_short 0 + bus.tg_short 0 ≤ y.moment = rounds.1 in
    subst (λ (w : Entry). v ≤ w.moment) (sym same) (let goal : v ≤ y.moment = omega arith in goal))
rounds_later bus d (y ∷ ys) (suc a) v rounds z (inl same) = (let low : v + bus.tg_short (suc a) ≤ y.moment = rounds.1 in
    subst (λ (w : Entry). v ≤ w.moment) (sym same) (let goal : v ≤ y.moment = omega arith in goal))
rounds_later bus d (y ∷ ys) zero v rounds z (inr i) =
    let low : v + bus.sg_short 0 + bus.tg_short 0 ≤ y.moment = rounds.1 in
    let rest : end_of y ≤ z.moment = rounds_later bus d ys (next bus.senders 0) (end_of y) rounds.3 z i in
    omega arith
rounds_later bus d (y ∷ ys) (suc a) v rounds z (inr i) =
    let low : v + bus.tg_short (suc a) ≤ y.moment = rounds.1 in
    let rest : end_of y ≤ z.moment = rounds_later bus d ys (next bus.senders (suc a)) (end_of y) rounds.3 z i in
    omega arith

gap_later : (bus : Bus) (d : Course) (l : List Entry) (a v : ℕ) → InRounds bus d (suc a) v l → (z : Entry) → In z l → v + bus.tg_short (suc a) ≤ z.moment
gap_later bus d [] a v rounds z i = absurd i
gap_later bus d (y ∷ ys) a v rounds z (inl same) = subst (λ (w : Entry). v + bus.tg_short (suc a) ≤ w.moment) (sym same) rounds.1
gap_later bus d (y ∷ ys) a v rounds z (inr i) =
    let low : v + bus.tg_short (suc a) ≤ y.moment = rounds.1 in
    let rest : end_of y ≤ z.moment = rounds_later bus d ys (next bus.senders (suc a)) (end_of y) rounds.3 z i in
    omega arith

-- sender a hears all others late, and all others hear it late
abbrev late_a : Bus → ℕ → ℕ → Entry → ℕ
late_a bus a n x = cond (nat_eq n a) (delay_to bus n x) (cond (nat_eq x.sender a) bus.delay 0)

late_most : (bus : Bus) (a n : ℕ) (x : Entry) → late_a bus a n x ≤ bus.delay
late_most bus a n x = elim (nat_eq n a) as (λ b. cond b (delay_to bus n x) (cond (nat_eq x.sender a) bus.delay 0) ≤ bus.delay) [
  | true ↦ delay_most bus n x
  | false ↦ elim (nat_eq x.sender a) as (λ b. cond b bus.delay 0 ≤ bus.delay) [ true ↦ omega arith | false ↦ omega arith ]
]

late_own : (bus : Bus) (a : ℕ) (x : Entry) → late_a bus a x.sender x ≡ 0
late_own bus a x = elim (cases_eq x.sender a) [
  | inl is ↦ ap (λ b. cond b (delay_to bus x.sender x) (cond (nat_eq x.sender a) bus.delay 0)) (eq-eqb x.sender a is) ∙ delay_mine bus x.sender x refl
  | inr other ↦
      ap (λ b. cond b (delay_to bus x.sender x) (cond b bus.delay 0)) (ne_eqb x.sender a other)
]

late_there : (bus : Bus) (a : ℕ) (x : Entry) → (x.sender ≡ a → ⊥) → late_a bus a a x ≡ bus.delay
late_there bus a x other =
    ap (λ b. cond b (delay_to bus a x) (cond (nat_eq x.sender a) bus.delay 0)) (eq-eqb a a refl) ∙ delay_other bus a x other

late_back : (bus : Bus) (a n : ℕ) (x : Entry) → (n ≡ a → ⊥) → x.sender ≡ a → late_a bus a n x ≡ bus.delay
late_back bus a n x not mine =
    ap (λ b. cond b (delay_to bus n x) (cond (nat_eq x.sender a) bus.delay 0)) (ne_eqb n a not) ∙ ap (λ b. cond b bus.delay 0) (eq-eqb x.sender a mine)

late_not : (bus : Bus) (a n : ℕ) (x : Entry) → (n ≡ a → ⊥) → (x.sender ≡ a → ⊥) → late_a bus a n x ≡ 0
late_not bus a n x not other =
    ap (λ b. cond b (delay_to bus n x) (cond (nat_eq x.sender a) bus.delay 0)) (ne_eqb n a not) ∙ ap (λ b. cond b bus.delay 0) (ne_eqb x.sender a other)

module _ (bus : Bus) (ups : ℕ → ℕ) (messages : Option ℕ) (a : ℕ) (bounds : AreBounds bus) (has : IfSome messages (λ n. 0 < n)) (behind : 0 < a) (known : suc a < bus.senders)
    (sync : ups (suc a) + bus.sg_short (suc a) ≤ ups 0 + bus.sg_short 0 + bus.tg_short 0) (heard : bus.delay ≤ bus.tg_short a) (lasts : 0 < bus.tg_long a)
    (less : bus.tg_short (suc a) ≤ bus.tg_long a + 2 * bus.delay) where
  abbrev tgc : ℕ → ℕ
  tgc = longer a bus.tg_short bus.tg_long

  abbrev sgc : ℕ → ℕ
  sgc = bus.sg_short

  tg_in : (j : ℕ) → j < bus.senders → (bus.tg_short j ≤ tgc j) × (tgc j ≤ bus.tg_long j)
  tg_in j one = longer_in a bus.tg_short bus.tg_long j (bounds.tg j one)

  sg_in : (j : ℕ) → j < bus.senders → (bus.sg_short j ≤ sgc j) × (sgc j ≤ bus.sg_long j)
  sg_in j one = (omega arith, bounds.sg j one)

  abbrev H : ℕ
  H = ups 0 + bus.sg_long 0 + most_of bus bus.senders + 2 * bus.delay + 1

  abbrev course : Course
  course = c bus bounds ups tgc sgc (late_a bus a) messages H tg_in sg_in (late_most bus a) (late_own bus a) has

  fine : IsCourse bus course
  fine = ok bus bounds ups tgc sgc (late_a bus a) messages H tg_in sg_in (late_most bus a) (late_own bus a) has

  lasting : (x : Entry) → In x course.list → 0 < x.length
  lasting x i = some bus bounds ups tgc sgc (late_a bus a) messages H tg_in sg_in (late_most bus a) (late_own bus a) has x i

  -- a's first transmission x, the one before it w, and what else there is
  record Pair : Type 0 where
    w : Entry
    x : Entry
    in_w : In w course.list
    in_x : In x course.list
    of_x : x.sender ≡ a
    not_a : w.sender < a
    low : end_of w + bus.tg_short a ≤ x.moment
    soon : end_of w ≤ ups 0 + bus.sg_long 0 + most_of bus a
    each : (z : Entry) → In z course.list
        → (z ≡ x) ⊎ (((end_of z ≤ end_of w) × (z.sender < a)) ⊎ (end_of x + bus.tg_short (suc a) ≤ z.moment))

  find : (l : List Entry) (w : Entry) (k : ℕ) → 0 < k → k ≤ a → In w course.list → w.sender < a → InRounds (among bus) course k (end_of w) l
      → end_of w ≤ ups 0 + bus.sg_long 0 + most_of bus k → ((x : Entry) → In x l → In x course.list)
      → ((z : Entry) → In z course.list → In z l ⊎ ((end_of z ≤ end_of w) × (z.sender < a))) → Pair
  find l w zero more_k upto in_w not_a rounds high there all = absurd (omega arith)
  find [] w (suc k) more_k upto in_w not_a rounds high there all =
      let d : (among bus).delay ≤ bus.delay = among_most bus in
      let l : H ≤ end_of w + (among bus).delay + bus.tg_long (suc k) =
      rounds a (omega arith) (λ t soon. more bus bounds ups tgc sgc (late_a bus a) messages H tg_in sg_in (late_most bus a) (late_own bus a) has a t (λ x i mine before.
      elim (all x i) [ inl none ↦ none | inr p ↦ (let l : x.sender < a = p.1 in omega arith) ])) in
      let g : most_of bus (suc (suc k)) ≤ most_of bus bus.senders = most_grows bus (suc (suc k)) bus.senders (omega arith) in
      absurd (omega arith)
  find (y ∷ ys) w (suc k) more_k upto in_w not_a rounds high there all =
      let d : (among bus).delay ≤ bus.delay = among_most bus in
      let mine : y.sender ≡ suc k = rounds.0 in
      let early : end_of w + bus.tg_short (suc k) ≤ y.moment = rounds.1 in
      let soon : y.moment ≤ end_of w + (among bus).delay + bus.tg_long (suc k) = rounds.2 in
      let i : In y course.list = there y (inl refl) in
      let brief : y.length ≤ bus.longest (suc k) = subst (λ n. y.length ≤ bus.longest n) mine (fine.sent y i).3 in
      let rest : InRounds (among bus) course (suc (suc k)) (end_of y) ys =
      subst (λ n. InRounds (among bus) course n (end_of y) ys) (next_is bus.senders (suc k) (omega arith)) rounds.3 in
      elim (cases_eq (suc k) a) [
        | inl is ↦ record {
          w = w;
          x = y;
          in_w = in_w;
          in_x = i;
          of_x = mine ∙ is;
          not_a = not_a;
          low = subst (λ n. end_of w + bus.tg_short n ≤ y.moment) is early;
          soon = subst (λ n. end_of w ≤ ups 0 + bus.sg_long 0 + most_of bus n) is high;
          each = λ z j. elim (all z j) [
            | inr p ↦ inr (inl p)
            | inl q ↦ elim q [
              | inl same ↦ inl same
              | inr later ↦ inr (inr (subst (λ n. end_of y + bus.tg_short (suc n) ≤ z.moment) is (gap_later (among bus) course ys (suc k) (end_of y) rest z later)))
            ]
          ];
        }
        | inr other ↦
            find ys y (suc (suc k)) (omega arith) (omega arith) i (omega arith) rest (omega arith) (λ x j. there x (inr j)) (λ z j. elim (all z j) [
              | inr p ↦ (let e : end_of z ≤ end_of w = p.0 in inr (omega arith, p.1))
              | inl q ↦ elim q [
                | inl same ↦
                    let e : end_of z ≡ end_of y = ap end_of same in
                    let f : z.sender ≡ y.sender = ap (λ (v : Entry). v.sender) same in
                    inr (omega arith, omega arith)
                | inr later ↦ inl later
              ]
            ])
      ]

  -- in such rounds the one behind starts too soon
  module _ (p : Pair) (least : (z : Entry) → In z course.list → ups 0 + bus.sg_short 0 + bus.tg_short 0 ≤ z.moment) where
    abbrev tb : ℕ
    tb = end_of p.w + bus.tg_short (suc a)

    from_late : (s : MayStart course a p.x.moment) → end_of p.w + bus.delay ≤ s.from
    from_late s =
        let some_w : 0 < p.w.length = lasting p.w p.in_w in
        let not_a : p.w.sender < a = p.not_a in
        let low : end_of p.w + bus.tg_short a ≤ p.x.moment = p.low in
        let d_w : late_a bus a a p.w ≡ bus.delay = late_there bus a p.w (λ e. omega arith) in
        elim (cases_lt s.from (end_of p.w + bus.delay)) [
          | inr fine_from ↦ fine_from
          | inl sooner ↦ absurd (loud bus bounds ups tgc sgc (late_a bus a) messages H tg_in sg_in (late_most bus a) (late_own bus a) has a s.from p.x.moment (end_of p.w + bus.delay - 1) p.w s.quiet p.in_w
              (omega arith) (omega arith) (omega arith) (omega arith))
        ]

    starts_a : MayStart course a p.x.moment
    starts_a = subst (λ k. MayStart course k p.x.moment) p.of_x (may bus bounds ups tgc sgc (late_a bus a) messages H tg_in sg_in (late_most bus a) (late_own bus a) has p.x p.in_x)

    x_late : end_of p.w + bus.delay + bus.tg_long a ≤ p.x.moment
    x_late =
        let s : MayStart course a p.x.moment = starts_a in
        let from : end_of p.w + bus.delay ≤ s.from = from_late s in
        let long_a : tgc a ≡ bus.tg_long a = longer_is a bus.tg_short bus.tg_long in
        let terminal : s.from + tgc a ≤ p.x.moment = s.terminal in
        omega arith

    none : (z : Entry) → In z course.list → z.sender ≡ suc a → z.moment < tb → ⊥
    none z j own before =
        let of_x : p.x.sender ≡ a = p.of_x in
        let some_x : 0 < p.x.length = lasting p.x p.in_x in
        let late : end_of p.w + bus.delay + bus.tg_long a ≤ p.x.moment = x_late in
        elim (p.each z j) [
          | inl same ↦ (let f : z.sender ≡ p.x.sender = ap (λ (v : Entry). v.sender) same in omega arith)
          | inr q ↦ elim q [
            | inl old ↦ (let f : z.sender < a = old.1 in omega arith)
            | inr later ↦ (let f : end_of p.x + bus.tg_short (suc a) ≤ z.moment = later in omega arith)
          ]
        ]

    out_x : (z : Entry) → z ≡ p.x → (tb ≤ z.moment + late_a bus a (suc a) z) ⊎ (end_of z + late_a bus a (suc a) z ≤ end_of p.w)
    out_x z same =
        let of_z : z.sender ≡ a = ap (λ (v : Entry). v.sender) same ∙ p.of_x in
        let at : z.moment ≡ p.x.moment = ap (λ (v : Entry). v.moment) same in
        let d_z : late_a bus a (suc a) z ≡ bus.delay = late_back bus a (suc a) z (λ e. omega arith) of_z in
        let late : end_of p.w + bus.delay + bus.tg_long a ≤ p.x.moment = x_late in
        inl (omega arith)

    out_old : (z : Entry) → end_of z ≤ end_of p.w → z.sender < a → (tb ≤ z.moment + late_a bus a (suc a) z) ⊎ (end_of z + late_a bus a (suc a) z ≤ end_of p.w)
    out_old z old not_z =
        let d_z : late_a bus a (suc a) z ≡ 0 = late_not bus a (suc a) z (λ e. omega arith) (λ e. omega arith) in
        inr (omega arith)

    out_later : (z : Entry) → end_of p.x + bus.tg_short (suc a) ≤ z.moment → (tb ≤ z.moment + late_a bus a (suc a) z) ⊎ (end_of z + late_a bus a (suc a) z ≤ end_of p.w)
    out_later z later =
        let late : end_of p.w + bus.delay + bus.tg_long a ≤ p.x.moment = x_late in
        inl (omega arith)

    gap_quiet : IsQuiet course (suc a) (end_of p.w) tb
    gap_quiet = quiet bus bounds ups tgc sgc (late_a bus a) messages H tg_in sg_in (late_most bus a) (late_own bus a) has (suc a) (end_of p.w) tb (λ z j. elim (p.each z j) [
      | inl same ↦ out_x z same
      | inr q ↦ elim q [ inl old ↦ out_old z old.0 old.1 | inr later ↦ out_later z later ]
    ])

    sync_quiet : IsQuiet course (suc a) (ups (suc a)) (ups (suc a) + sgc (suc a))
    sync_quiet = quiet bus bounds ups tgc sgc (late_a bus a) messages H tg_in sg_in (late_most bus a) (late_own bus a) has (suc a) (ups (suc a)) (ups (suc a) + sgc (suc a))
        (λ z j. (let l : ups 0 + bus.sg_short 0 + bus.tg_short 0 ≤ z.moment = least z j in inl (omega arith)))

    carried_w : carrier course (suc a) (end_of p.w - 1) ≡ true
    carried_w =
        let some_w : 0 < p.w.length = lasting p.w p.in_w in
        let not_a : p.w.sender < a = p.not_a in
        let d_w : late_a bus a (suc a) p.w ≡ 0 = late_not bus a (suc a) p.w (λ e. omega arith) (λ e. omega arith) in
        carried bus bounds ups tgc sgc (late_a bus a) messages H tg_in sg_in (late_most bus a) (late_own bus a) has (suc a) (end_of p.w - 1) p.w p.in_w (omega arith) (omega arith)

    ready : MayStart course (suc a) tb
    ready =
        let some_w : 0 < p.w.length = lasting p.w p.in_w in
        let first : ups 0 + bus.sg_short 0 + bus.tg_short 0 ≤ p.w.moment = least p.w p.in_w in
        let short_b : tgc (suc a) ≡ bus.tg_short (suc a) = longer_not a bus.tg_short bus.tg_long (suc a) (λ e. omega arith) in
        record {
          sync = ups (suc a) + sgc (suc a);
          synced = record { from = ups (suc a); begins = inl refl; quiet = sync_quiet; elapsed = refl };
          none = λ z j own before. absurd (none z j own before);
          from = end_of p.w;
          begins = inr (omega arith, carried_w);
          quiet = gap_quiet;
          terminal = omega arith;
          due = omega arith;
          interval = λ z j own before last. absurd (none z j own before);
        }

    soon_b : tb < H
    soon_b =
        let soon : end_of p.w ≤ ups 0 + bus.sg_long 0 + most_of bus a = p.soon in
        let grown : most_of bus (suc a) ≤ most_of bus bus.senders = most_grows bus (suc a) bus.senders (omega arith) in
        omega arith

    too_late : (z : Entry) → In z course.list → z.sender ≡ suc a → z.moment ≡ tb → ⊥
    too_late z j own at =
        let of_x : p.x.sender ≡ a = p.of_x in
        let some_x : 0 < p.x.length = lasting p.x p.in_x in
        let late : end_of p.w + bus.delay + bus.tg_long a ≤ p.x.moment = x_late in
        elim (p.each z j) [
          | inl same ↦ (let f : z.sender ≡ p.x.sender = ap (λ (v : Entry). v.sender) same in omega arith)
          | inr q ↦ elim q [
            | inl old ↦ (let f : z.sender < a = old.1 in omega arith)
            | inr later ↦ (let f : end_of p.x + bus.tg_short (suc a) ≤ z.moment = later in omega arith)
          ]
        ]

    broken : ⊥
    broken =
        let h : HasEntry course.list (suc a) tb = (fine.exact (suc a) tb known soon_b).1 (ready, more bus bounds ups tgc sgc (late_a bus a) messages H tg_in sg_in (late_most bus a) (late_own bus a) has (suc a) tb none) in
        too_late h.entry h.there h.sender h.moment

  fails : (l : List Entry) → course.list ≡ l → InRounds (among bus) course 0 (ups 0) l → ⊥
  fails [] is rounds =
      let d : (among bus).delay ≤ bus.delay = among_most bus in
      let l : H ≤ ups 0 + (among bus).delay + bus.sg_long 0 + bus.tg_long 0 =
      rounds 0 (omega arith) (λ t soon. more bus bounds ups tgc sgc (late_a bus a) messages H tg_in sg_in (late_most bus a) (late_own bus a) has 0 t (λ x i mine before. subst (In x) is i)) in
      let g : most_of bus 1 ≤ most_of bus bus.senders = most_grows bus 1 bus.senders (omega arith) in
      omega arith
  fails (x0 ∷ ys) is rounds =
      let d : (among bus).delay ≤ bus.delay = among_most bus in
      let mine : x0.sender ≡ 0 = rounds.0 in
      let i : In x0 course.list = subst (In x0) (sym is) (inl refl) in
      let up : IsAscending (x0 ∷ ys) = subst IsAscending is fine.ordered in
      let early : ups 0 + bus.sg_short 0 + bus.tg_short 0 ≤ x0.moment = rounds.1 in
      let high : x0.moment ≤ ups 0 + (among bus).delay + bus.sg_long 0 + bus.tg_long 0 = rounds.2 in
      let brief : x0.length ≤ bus.longest 0 = subst (λ k. x0.length ≤ bus.longest k) mine (fine.sent x0 i).3 in
      let rest : InRounds (among bus) course 1 (end_of x0) ys =
      subst (λ n. InRounds (among bus) course n (end_of x0) ys) (next_is bus.senders 0 (omega arith)) rounds.3 in
      broken (find ys x0 1 (omega arith) behind i (omega arith) rest (omega arith) (λ z j. subst (In z) (sym is) (inr j)) (λ z j. elim (subst (In z) is j) [
        | inl same ↦
            let e : end_of z ≡ end_of x0 = ap end_of same in
            let f : z.sender ≡ x0.sender = ap (λ (v : Entry). v.sender) same in
            inr (omega arith, omega arith)
        | inr k ↦ inl k
      ])) (λ z j. (let l : x0.moment ≤ z.moment = first_least x0 ys up z (subst (In z) is j) in omega arith))

pub turns_are_needed : TurnsAreNeeded
turns_are_needed bus ups messages a bounds has behind known sync heard lasts less = record {
  c = course bus ups messages a bounds has behind known sync heard lasts less;
  course = fine bus ups messages a bounds has behind known sync heard lasts less;
  cold = cold bus bounds ups (tgc bus ups messages a bounds has behind known sync heard lasts less) (sgc bus ups messages a bounds has behind known sync heard lasts less) (late_a bus a) messages
      (H bus ups messages a bounds has behind known sync heard lasts less) (tg_in bus ups messages a bounds has behind known sync heard lasts less)
      (sg_in bus ups messages a bounds has behind known sync heard lasts less) (late_most bus a) (late_own bus a) has;
  up = λ j. refl;
  even = λ j. refl;
  fails = λ rounds soon apart. fails bus ups messages a bounds has behind known sync heard lasts less (course bus ups messages a bounds has behind known sync heard lasts less).list refl rounds;
}
