-- Three senders of which the second and the third begin at the same moment in the third round. By then the first, whose clock is the slowest, has
-- come as close to the second as it may, its messages being short; then it sends a long one, which holds the second back until the third is due.
use Rattle.std.proofs.Common.{◌≡◌, ℕ, suc, ◌+◌, ◌*◌, ◌<◌, ◌≤◌, ◌⊎◌, true, false, cond, List, [], ◌∷◌, inl, inr, arith, sym, refl, ap, ◌∙◌, subst, leb-true, ltb-true}
use Rattle.std.specs.Prelude.{nat_eq, nat_le, nat_lt}
use Rattle.std.proofs.lemmas.Bool.{cases_lt, cases_eq, true≢false}
use Rattle.bus_clocks.specs.Buses.{Bus, sum_below}
use Rattle.bus_clocks.specs.Entries.{Entry, In, IsAscending}
use Rattle.bus_clocks.specs.Courses.{Course, carrier, MayStart, HasEntry, IsCourse}
use Rattle.bus_drift.specs.Beginning.{Begins}
use Rattle.bus_drift.specs.Neighbours.{AlmostNone, OneTickCollides}
use Rattle.bus_drift.specs.Room.{HearsOut, HasRoomForSync, BeginsInTurn}
use Rattle.bus_drift.specs.Turns.{who, slowest, fastest}
use Rattle.bus_drift.proofs.Examples.{is_prompt, of_three}
use Rattle.bus_drift.proofs.Rows.{entry, each_is, push, row, some_length, start, wait}

abbrev gap : ℕ → ℕ
gap k = cond (nat_eq k 1) 3 1

abbrev near : Bus
near = record {
  senders = 3;
  delay = 0;
  drop = 1;
  tg_short = gap;
  tg_long = gap;
  sg_short = λ _. 4;
  sg_long = λ _. 4;
  ti_short = λ _. 17;
  ti_long = λ _. 18;
  shortest = λ _. 1;
  longest = λ k. cond (nat_eq k 0) 2 1;
}

-- the third round, where the last two begin at the same moment
abbrev last_two : List Entry
last_two = entry 48 1 1 ∷ entry 48 2 1 ∷ []

abbrev behind_6 : List Entry
behind_6 = entry 43 0 2 ∷ last_two

abbrev behind_5 : List Entry
behind_5 = entry 31 2 1 ∷ behind_6

abbrev behind_4 : List Entry
behind_4 = entry 29 1 1 ∷ behind_5

abbrev behind_3 : List Entry
behind_3 = entry 25 0 1 ∷ behind_4

abbrev behind_2 : List Entry
behind_2 = entry 14 2 1 ∷ behind_3

abbrev behind_1 : List Entry
behind_1 = entry 12 1 1 ∷ behind_2

abbrev sent : List Entry
sent = entry 7 0 1 ∷ behind_1

abbrev due : ℕ → ℕ
due k = cond (nat_eq k 0) 7 (cond (nat_eq k 1) 12 14)

abbrev interval : ℕ → ℕ
interval k = cond (nat_eq k 0) 18 17

abbrev happens : Course
happens = row due gap interval 4 49 sent refl

may : (x : Entry) → In x sent → MayStart happens x.sender x.moment
may x (inl e) = subst (λ (z : Entry). MayStart happens z.sender z.moment) (sym e)
    (start due gap interval 4 49 sent refl 0 7 0 4 (inl refl) refl refl (inl refl) refl (omega arith) (omega arith) refl)
may x (inr (inl e)) = subst (λ (z : Entry). MayStart happens z.sender z.moment) (sym e)
    (start due gap interval 4 49 sent refl 1 12 0 8 (inl refl) refl refl (inr (omega arith, refl)) refl (omega arith) (omega arith) refl)
may x (inr (inr (inl e))) = subst (λ (z : Entry). MayStart happens z.sender z.moment) (sym e)
    (start due gap interval 4 49 sent refl 2 14 0 13 (inl refl) refl refl (inr (omega arith, refl)) refl (omega arith) (omega arith) refl)
may x (inr (inr (inr (inl e)))) = subst (λ (z : Entry). MayStart happens z.sender z.moment) (sym e)
    (start due gap interval 4 49 sent refl 0 25 15 19 (inr (omega arith, refl)) refl refl (inl refl) refl (omega arith) (omega arith) refl)
may x (inr (inr (inr (inr (inl e))))) = subst (λ (z : Entry). MayStart happens z.sender z.moment) (sym e)
    (start due gap interval 4 49 sent refl 1 29 15 26 (inr (omega arith, refl)) refl refl (inr (omega arith, refl)) refl (omega arith) (omega arith) refl)
may x (inr (inr (inr (inr (inr (inl e)))))) = subst (λ (z : Entry). MayStart happens z.sender z.moment) (sym e)
    (start due gap interval 4 49 sent refl 2 31 15 30 (inr (omega arith, refl)) refl refl (inr (omega arith, refl)) refl (omega arith) (omega arith) refl)
may x (inr (inr (inr (inr (inr (inr (inl e))))))) = subst (λ (z : Entry). MayStart happens z.sender z.moment) (sym e)
    (start due gap interval 4 49 sent refl 0 43 32 36 (inr (omega arith, refl)) refl refl (inl refl) refl (omega arith) (omega arith) refl)
may x (inr (inr (inr (inr (inr (inr (inr (inl e)))))))) = subst (λ (z : Entry). MayStart happens z.sender z.moment) (sym e)
    (start due gap interval 4 49 sent refl 1 48 32 45 (inr (omega arith, refl)) refl refl (inr (omega arith, refl)) refl (omega arith) (omega arith) refl)
may x (inr (inr (inr (inr (inr (inr (inr (inr (inl e))))))))) = subst (λ (z : Entry). MayStart happens z.sender z.moment) (sym e)
    (start due gap interval 4 49 sent refl 2 48 32 45 (inr (omega arith, refl)) refl refl (inr (omega arith, refl)) refl (omega arith) (omega arith) refl)
may x (inr (inr (inr (inr (inr (inr (inr (inr (inr e))))))))) = absurd e

-- ---- and nobody else may

has : (x : Entry) → In x sent → (k t : ℕ) → x.sender ≡ k → x.moment ≡ t → HasEntry sent k t
has x i k t mine at = record { entry = x; there = i; sender = mine; moment = at }

-- the second hears the first's long transmission at tick 44
held : (t : ℕ) → 45 < t → t < 48 → MayStart happens 1 t → ⊥
held t low high m =
    let terminal : m.from + 3 ≤ t = m.terminal in
    let silent : carrier happens 1 44 ≡ false = m.quiet 44 (omega arith) (omega arith) in
    let sounds : carrier happens 1 44 ≡ true = refl in
    true≢false (sym sounds ∙ silent)

a0 : In (entry 7 0 1) sent
a0 = inl refl

a1 : In (entry 12 1 1) sent
a1 = inr (inl refl)

a2 : In (entry 14 2 1) sent
a2 = inr (inr (inl refl))

b0 : In (entry 25 0 1) sent
b0 = inr (inr (inr (inl refl)))

b1 : In (entry 29 1 1) sent
b1 = inr (inr (inr (inr (inl refl))))

b2 : In (entry 31 2 1) sent
b2 = inr (inr (inr (inr (inr (inl refl)))))

c0 : In (entry 43 0 2) sent
c0 = inr (inr (inr (inr (inr (inr (inl refl))))))

c1 : In (entry 48 1 1) sent
c1 = inr (inr (inr (inr (inr (inr (inr (inl refl)))))))

c2 : In (entry 48 2 1) sent
c2 = inr (inr (inr (inr (inr (inr (inr (inr (inl refl))))))))

-- where a sender may start between two of its starts, it is the second of these
abbrev Only : ℕ → ℕ → Type 0
Only k t = MayStart happens k t → HasEntry sent k t

only_0 : (t : ℕ) → t < 49 → Only 0 t
only_0 t less m =
    let on_time : 7 ≤ t = m.due in
    elim (cases_eq t 7) [
      | inl is ↦ has (entry 7 0 1) a0 0 t refl (sym is)
      | inr not_7 ↦ elim (cases_lt t 25) [
        | inl first ↦ absurd (wait due gap interval 4 49 sent refl 0 t (entry 7 0 1) 25 a0 refl (omega arith) first (omega arith) refl m)
        | inr on ↦ elim (cases_eq t 25) [
          | inl is ↦ has (entry 25 0 1) b0 0 t refl (sym is)
          | inr not_25 ↦ elim (cases_lt t 43) [
            | inl second ↦ absurd (wait due gap interval 4 49 sent refl 0 t (entry 25 0 1) 43 b0 refl (omega arith) second (omega arith) refl m)
            | inr beyond ↦ elim (cases_eq t 43) [
              | inl is ↦ has (entry 43 0 2) c0 0 t refl (sym is)
              | inr not_43 ↦ absurd (wait due gap interval 4 49 sent refl 0 t (entry 43 0 2) 49 c0 refl (omega arith) (omega arith) (omega arith) refl m)
            ]
          ]
        ]
      ]
    ]

only_1 : (t : ℕ) → t < 49 → Only 1 t
only_1 t less m =
    let on_time : 12 ≤ t = m.due in
    elim (cases_eq t 12) [
      | inl is ↦ has (entry 12 1 1) a1 1 t refl (sym is)
      | inr not_12 ↦ elim (cases_lt t 29) [
        | inl first ↦ absurd (wait due gap interval 4 49 sent refl 1 t (entry 12 1 1) 29 a1 refl (omega arith) first (omega arith) refl m)
        | inr on ↦ elim (cases_eq t 29) [
          | inl is ↦ has (entry 29 1 1) b1 1 t refl (sym is)
          | inr not_29 ↦ elim (cases_lt t 46) [
            | inl second ↦ absurd (wait due gap interval 4 49 sent refl 1 t (entry 29 1 1) 48 b1 refl (omega arith) second (omega arith) refl m)
            | inr beyond ↦ elim (cases_lt t 48) [
              | inl waits ↦ absurd (held t (omega arith) waits m)
              | inr at ↦ has (entry 48 1 1) c1 1 t refl (omega arith)
            ]
          ]
        ]
      ]
    ]

only_2 : (t : ℕ) → t < 49 → Only 2 t
only_2 t less m =
    let on_time : 14 ≤ t = m.due in
    elim (cases_eq t 14) [
      | inl is ↦ has (entry 14 2 1) a2 2 t refl (sym is)
      | inr not_14 ↦ elim (cases_lt t 31) [
        | inl first ↦ absurd (wait due gap interval 4 49 sent refl 2 t (entry 14 2 1) 31 a2 refl (omega arith) first (omega arith) refl m)
        | inr on ↦ elim (cases_eq t 31) [
          | inl is ↦ has (entry 31 2 1) b2 2 t refl (sym is)
          | inr not_31 ↦ elim (cases_lt t 48) [
            | inl second ↦ absurd (wait due gap interval 4 49 sent refl 2 t (entry 31 2 1) 48 b2 refl (omega arith) second (omega arith) refl m)
            | inr at ↦ has (entry 48 2 1) c2 2 t refl (omega arith)
          ]
        ]
      ]
    ]

-- ---- all together

-- what is so of each transmission by a test
proper : (x : Entry) → In x sent → (x.sender < 3) × (x.moment < 49) × (1 ≤ x.length) × (x.length ≤ near.longest x.sender)
proper x i =
    let a : nat_lt x.sender 3 ≡ true = each_is (λ x. nat_lt x.sender 3) sent refl x i in
    let b : nat_lt x.moment 49 ≡ true = each_is (λ x. nat_lt x.moment 49) sent refl x i in
    let d : nat_le x.length (near.longest x.sender) ≡ true = each_is (λ x. nat_le x.length (near.longest x.sender)) sent refl x i in
    let some : 0 < x.length = some_length due gap interval 4 49 sent refl x i in
    (ltb-true x.sender 3 a, ltb-true x.moment 49 b, omega arith, leb-true x.length (near.longest x.sender) d)

ordered_last : IsAscending last_two
ordered_last = (
  (λ y i. elim i [
    | inl e ↦ inr (ap (λ (z : Entry). z.moment) (sym e), (λ same. (let s : y.sender ≡ 2 = ap (λ (z : Entry). z.sender) e in omega arith)))
    | inr none ↦ absurd none
  ]),
  ((λ y i. absurd i), tt),
)

ordered : IsAscending sent
ordered =
    push (entry 7 0 1) behind_1 refl (push (entry 12 1 1) behind_2 refl (push (entry 14 2 1) behind_3 refl (push (entry 25 0 1) behind_4 refl (push (entry 29 1 1) behind_5 refl (push (entry 31 2 1) behind_6 refl (push (entry 43 0 2) last_two refl ordered_last))))))

admissible : IsCourse near happens
admissible = record {
  ordered = ordered;
  sent = proper;
  exact = λ k t known less. (
    (λ h. (subst (λ i. MayStart happens k i) h.moment (subst (λ i. MayStart happens i h.entry.moment) h.sender (may h.entry h.there)), tt)),
    (λ m. of_three (λ i. Only i t) (only_0 t less) (only_1 t less) (only_2 t less) k known m.0),
  );
  own = λ x i. is_prompt x (some_length due gap interval 4 49 sent refl x i) x.sender 0 1 (omega arith);
  others = λ x n i. is_prompt x (some_length due gap interval 4 49 sent refl x i) n 0 1 (omega arith);
  tg_low = λ k a known fresh. omega arith;
  tg_high = λ k a known. omega arith;
  sg_low = λ k a known fresh. omega arith;
  sg_high = λ k a known. omega arith;
  ti_low = λ k a known. of_three (λ i. 17 ≤ interval i) (omega arith) (omega arith) (omega arith) k known;
  ti_high = λ k a known. of_three (λ i. interval i ≤ 18) (omega arith) (omega arith) (omega arith) k known;
}

near_hears : HearsOut near
near_hears = record {
  some = omega arith;
  lasting = λ k known. of_three (λ i. (0 < near.longest i) × (near.shortest i ≤ near.longest i)) (omega arith, omega arith) (omega arith, omega arith) (omega arith, omega arith) k known;
  whole = λ k known. of_three (λ i. 1 ≤ gap i) (omega arith) (omega arith) (omega arith) k known;
  heard = λ k known. omega arith;
}

near_room : HasRoomForSync near
near_room = record {
  gaps = λ j k one two. of_three (λ i. gap i < 4) (omega arith) (omega arith) (omega arith) j one;
  room = λ k known. (
      let sum : sum_below near.longest 3 ≡ 4 = refl in
      let least : gap k ≤ 3 = of_three (λ i. gap i ≤ 3) (omega arith) (omega arith) (omega arith) k known in
      omega arith);
}

near_begin : BeginsInTurn near due due
near_begin = record {
  first = record {
    opens = omega arith;
    synced = λ k some known. omega arith;
    apart = λ k known. of_three (λ i. suc i < 3 → due i + near.longest i + 0 + gap (suc i) ≤ due (suc i)) (λ l. omega arith) (λ l. omega arith) (λ l. absurd (omega arith)) k (omega arith) known;
  };
  round = omega arith;
  again = λ k known. of_three (λ i. due 2 + 0 < due i + 17) (omega arith) (omega arith) (omega arith) k known;
}

near_starts : Begins near happens 0 due due
near_starts = record { powered = λ k known. (omega arith, omega arith); due = λ k known. (omega arith, omega arith); still = λ n t low. refl }

-- by one tick
abbrev Almost : ℕ → ℕ → ℕ → Type 0
Almost i j k = (i ≡ j) ⊎ (gap (who near k) ≤ gap (who near j) + 2 * 0) → near.ti_long (who near i) + slowest near i j + 0 ≤ near.ti_short (who near k) + fastest near i k

almost_at : (i j k : ℕ) → j ≡ i → (k ≡ i + 1) ⊎ (k ≡ i + 2) → Almost i i (i + 1) → Almost i i (i + 2) → Almost i j k
almost_at i j k same next one two = elim next [
  | inl is ↦ subst (λ l. Almost i l k) (sym same) (subst (λ l. Almost i i l) (sym is) one)
  | inr is ↦ subst (λ l. Almost i l k) (sym same) (subst (λ l. Almost i i l) (sym is) two)
]

-- of whichever turn of the first round
abbrev From : ℕ → Type 0
From i = (Almost i i (i + 1) × Almost i i (i + 2)) × Almost i (i + 1) (i + 2)

from_each : (i : ℕ) → i < 3 → From i
from_each i known = of_three From
    (((λ c. omega arith), (λ c. omega arith)), (λ c. omega arith))
    (((λ c. omega arith), (λ c. omega arith)), (λ c. omega arith))
    (((λ c. omega arith), (λ c. omega arith)), (λ c. elim c [ inl same ↦ absurd (omega arith) | inr close ↦ absurd (omega arith) ])) i known

near_almost : AlmostNone near
near_almost i j k known low less high close =
    let f : From i = from_each i known in
    elim (cases_eq j i) [
      | inl same ↦ almost_at i j k same (elim (cases_eq k (i + 1)) [ inl is ↦ inl is | inr more ↦ inr (omega arith) ]) f.0.0 f.0.1 close
      | inr other ↦
          let j_is : j ≡ i + 1 = omega arith in
          let k_is : k ≡ i + 2 = omega arith in
          subst (λ l. Almost i l k) (sym j_is) (subst (λ l. Almost i (i + 1) l) (sym k_is) f.1) close
    ]

pub one_tick_collides : OneTickCollides
one_tick_collides = record {
  case = record { bus = near; c = happens; soon = due; late = due; ok = admissible; even = λ k known. refl; begins = near_starts };
  hearing = near_hears;
  sync = near_room;
  almost = near_almost;
  begin = near_begin;
  collides = record { x = entry 48 1 1; y = entry 48 2 1; x_there = c1; y_there = c2; other = λ same. omega arith; same = refl };
}
