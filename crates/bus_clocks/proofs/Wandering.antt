-- Three senders that never come into order, where a quiet of six ticks may have synchronized a sender and one of seven must have: each gap is six.
use Rattle.std.proofs.Common.{◌≡◌, ℕ, zero, suc, ◌+◌, ◌-◌, ◌*◌, ◌<◌, ◌≤◌, ◌⊎◌, Bool, true, false, ◌&&◌, cond, List, [], ◌∷◌, ◌++◌, length, Option, Some, None, inl, inr, arith, sym, refl, ap, subst, leb-true, le-leb, ltb-true, lt-ltb}
use Rattle.std.specs.Prelude.{nat_eq, nat_le, nat_lt, IfSome}
use Rattle.std.proofs.lemmas.Bool.{cases_lt, true≢false, and_parts}
use Rattle.bus_timers.specs.MayStart.{MayStart as Allows, IsSync}
use Rattle.bus_timers.specs.MayStartTest.{may_start}
use Rattle.bus_timers.proofs.TestLemmas.{may_start_is}
use Rattle.bus_clocks.specs.Buses.{Bus}
use Rattle.bus_clocks.specs.Room.{LeavesRoom, StartsItself}
use Rattle.bus_clocks.specs.Entries.{Entry, In, end_of}
use Rattle.bus_clocks.specs.Courses.{Course, IsQuiet}
use Rattle.bus_clocks.specs.Hearing.{Hears}
use Rattle.bus_clocks.specs.Rounds.{InRounds}
use Rattle.bus_clocks.specs.Settling.{HasSettled}
use Rattle.bus_clocks.specs.Windows.{IsAdmissible, IsLast, past, timing}
use Rattle.bus_clocks.specs.Unsettled.{Unsettled}
use Rattle.bus_clocks.proofs.Bridge.{IsBounded, bits_length, from_still}
use Rattle.bus_clocks.proofs.Lists.{in_cases, in_right}

abbrev gap : ℕ → ℕ
gap k = cond (nat_eq k 0) 1 (cond (nat_eq k 1) 3 5)

abbrev trio : Bus
trio = record {
  senders = 3;
  delay = 0;
  drop = 1;
  tg_short = gap;
  tg_long = gap;
  sg_short = λ _. 6;
  sg_long = λ _. 7;
  ti_short = λ _. 8;
  ti_long = λ _. 8;
  shortest = λ _. 1;
  longest = λ _. 1;
}

abbrev one : Entry
one = record { moment = 7; sender = 0; length = 1 }

abbrev two : Entry
two = record { moment = 14; sender = 2; length = 1 }

abbrev three : Entry
three = record { moment = 21; sender = 1; length = 1 }

abbrev heard : Entry → ℕ → ℕ → Bool
heard x n u = nat_le x.moment u && nat_lt u (x.moment + x.length)

abbrev walk : Course
walk = record {
  up = λ k. cond (nat_eq k 0) 0 1;
  due = λ _. 0;
  tg = λ k _. gap k;
  sg = λ _ _. 6;
  ti = λ _ _. 8;
  messages = λ _. None;
  noise = λ _ _. false;
  hears = heard;
  horizon = 28;
  list = one ∷ two ∷ three ∷ [];
}

-- one of three
of_three : (P : ℕ → Type 0) → P 0 → P 1 → P 2 → (k : ℕ) → k < 3 → P k
of_three P a b c zero less = a
of_three P a b c (suc zero) less = b
of_three P a b c (suc (suc zero)) less = c
of_three P a b c (suc (suc (suc k))) less = absurd (omega arith)

of_two : (P : ℕ → Type 0) → P 0 → P 1 → (k : ℕ) → k < 2 → P k
of_two P a b zero less = a
of_two P a b (suc zero) less = b
of_two P a b (suc (suc k)) less = absurd (omega arith)

both : (a b : Bool) → a ≡ true → b ≡ true → a && b ≡ true
both true b h k = k
both false b h k = absurd (true≢false (sym h))

well : (x : Entry) → 0 < x.length → (n d : ℕ) → Hears heard d 1 x n
well x some n d = record {
  within = λ t h. (let p = and_parts (nat_le x.moment t) (nat_lt t (x.moment + x.length)) h in
      let low : x.moment ≤ t = leb-true x.moment t p.0 in let high : t < x.moment + x.length = ltb-true t (x.moment + x.length) p.1 in (low, omega arith));
  first = x.moment;
  last = x.moment + x.length - 1;
  first_heard = both (nat_le x.moment x.moment) (nat_lt x.moment (x.moment + x.length)) (le-leb x.moment x.moment (omega arith)) (lt-ltb x.moment (x.moment + x.length) (omega arith));
  first_soon = omega arith;
  last_heard = both (nat_le x.moment (x.moment + x.length - 1)) (nat_lt (x.moment + x.length - 1) (x.moment + x.length)) (le-leb x.moment (x.moment + x.length - 1) (omega arith))
      (lt-ltb (x.moment + x.length - 1) (x.moment + x.length) (omega arith));
  last_late = omega arith;
  filled = λ t low high. (
    t,
    omega arith,
    omega arith,
    both (nat_le x.moment t) (nat_lt t (x.moment + x.length)) (le-leb x.moment t low) (lt-ltb t (x.moment + x.length) (omega arith)),
  );
}

bits_some : (x : Entry) → In x walk.list → 0 < x.length
bits_some x (inl e) = (let l : x.length ≡ 1 = ap (λ (z : Entry). z.length) e in omega arith)
bits_some x (inr (inl e)) = (let l : x.length ≡ 1 = ap (λ (z : Entry). z.length) e in omega arith)
bits_some x (inr (inr (inl e))) = (let l : x.length ≡ 1 = ap (λ (z : Entry). z.length) e in omega arith)
bits_some x (inr (inr (inr e))) = absurd e

trio_has_room : LeavesRoom trio
trio_has_room = record {
  some = omega arith;
  lasting = λ k known. omega arith;
  whole = λ k known. omega arith;
  drop = λ k more known. of_three (λ i. 1 ≤ gap i) (omega arith) (omega arith) (omega arith) k known;
  turns = λ j k some less known. of_three (λ i. 0 < j → j < i → gap j + 2 * 0 < gap i) (λ a b. absurd (omega arith)) (λ a b. absurd (omega arith))
      (λ a b. subst (λ i. gap i + 2 * 0 < 5) (let e : 1 ≡ j = omega arith in e) (omega arith)) k known some less;
  opening = λ j k less known. of_three (λ i. j < i → 7 + gap j + 2 * 0 < 6 + gap i) (λ a. absurd (omega arith))
      (λ a. subst (λ i. 7 + gap i + 2 * 0 < 6 + 3) (let e : 0 ≡ j = omega arith in e) (omega arith))
      (λ a. of_two (λ i. 7 + gap i + 2 * 0 < 6 + 5) (omega arith) (omega arith) j a) k known less;
  waiting = λ j k known_j known other. of_three (λ i. gap i + 2 * 0 < 6) (omega arith) (omega arith) (omega arith) j known_j;
  joining = λ j k less known. of_three (λ i. 7 + 0 ≤ 6 + gap i) (omega arith) (omega arith) (omega arith) j (omega arith);
  alone = λ one. omega arith;
}

trio_starts : StartsItself trio
trio_starts k known = of_three (λ i. 8 ≤ 1 + 6 + gap i) (omega arith) (omega arith) (omega arith) k known

-- nobody started before
none_before : (x : Entry) → In x walk.list → (last : Option ℕ) → IsLast walk x.sender x.moment last → last ≡ None
none_before x i None l = refl
none_before x i (Some n) l =
    let mine : l.0.sender ≡ x.sender = l.2 in
    let less : l.0.moment < x.moment = l.3 in
    absurd (apart l.0 l.1 i mine less)
  where
    told : (y : Entry) → In y walk.list → ((y.moment ≡ 7) × (y.sender ≡ 0)) ⊎ (((y.moment ≡ 14) × (y.sender ≡ 2)) ⊎ ((y.moment ≡ 21) × (y.sender ≡ 1)))
    told y (inl e) = inl (ap (λ (z : Entry). z.moment) e, ap (λ (z : Entry). z.sender) e)
    told y (inr (inl e)) = inr (inl (ap (λ (z : Entry). z.moment) e, ap (λ (z : Entry). z.sender) e))
    told y (inr (inr (inl e))) = inr (inr (ap (λ (z : Entry). z.moment) e, ap (λ (z : Entry). z.sender) e))
    told y (inr (inr (inr e))) = absurd e

    apart : (y : Entry) → In y walk.list → In x walk.list → y.sender ≡ x.sender → y.moment < x.moment → ⊥
    apart y j i mine less = elim (told y j) [
      | inl p ↦ (let a : y.moment ≡ 7 = p.0 in let b : y.sender ≡ 0 = p.1 in elim (told x i) [
        | inl q ↦ (let c : x.moment ≡ 7 = q.0 in omega arith)
        | inr q ↦ elim q [ inl r ↦ (let c : x.sender ≡ 2 = r.1 in omega arith) | inr r ↦ (let c : x.sender ≡ 1 = r.1 in omega arith) ]
      ])
      | inr p ↦ elim p [
        | inl r ↦ (let a : y.moment ≡ 14 = r.0 in let b : y.sender ≡ 2 = r.1 in elim (told x i) [
          | inl q ↦ (let c : x.moment ≡ 7 = q.0 in omega arith)
          | inr q ↦ elim q [ inl v ↦ (let c : x.moment ≡ 14 = v.0 in omega arith) | inr v ↦ (let c : x.sender ≡ 1 = v.1 in omega arith) ]
        ])
        | inr r ↦ (let a : y.moment ≡ 21 = r.0 in elim (told x i) [
          | inl q ↦ (let c : x.moment ≡ 7 = q.0 in omega arith)
          | inr q ↦ elim q [ inl v ↦ (let c : x.moment ≡ 14 = v.0 in omega arith) | inr v ↦ (let c : x.moment ≡ 21 = v.0 in omega arith) ]
        ])
      ]
    ]

-- each may start where it does
allowed_one : (k t : ℕ) → may_start (timing 8 6 (gap k)) (past walk k t) None ≡ true → Allows (timing 8 6 (gap k)) (past walk k t) None
allowed_one k t h = (may_start_is (timing 8 6 (gap k)) (past walk k t) None).0 h

allowed_each : (x : Entry) → In x walk.list → Allows (timing 8 6 (gap x.sender)) (past walk x.sender x.moment) None
allowed_each x (inl e) = subst (λ (z : Entry). Allows (timing 8 6 (gap z.sender)) (past walk z.sender z.moment) None) (sym e) (allowed_one 0 7 refl)
allowed_each x (inr (inl e)) = subst (λ (z : Entry). Allows (timing 8 6 (gap z.sender)) (past walk z.sender z.moment) None) (sym e) (allowed_one 2 14 refl)
allowed_each x (inr (inr (inl e))) = subst (λ (z : Entry). Allows (timing 8 6 (gap z.sender)) (past walk z.sender z.moment) None) (sym e) (allowed_one 1 21 refl)
allowed_each x (inr (inr (inr e))) = absurd e

walk_bounded : IsBounded trio walk
walk_bounded = record {
  own = λ x i. well x (bits_some x i) x.sender 0;
  tg_high = λ k a known. omega arith;
  sg_high = λ k a known. omega arith;
  ti_high = λ k a known. omega arith;
}

-- no seven quiet ticks in a row from tick 1 on
no_seven : (k a : ℕ) → 1 ≤ a → a + 7 ≤ 28 → IsQuiet walk k a (a + 7) → ⊥
no_seven k a low high quiet = elim (cases_lt 7 a) [
  | inr first ↦ true≢false (quiet 7 first (omega arith))
  | inl more ↦ elim (cases_lt 14 a) [
    | inr second ↦ true≢false (quiet 14 second (omega arith))
    | inl most ↦ true≢false (quiet 21 (omega arith) (omega arith))
  ]
]

-- nobody must start
never_must : (k t : ℕ) (last : Option ℕ) → k < 3 → t < 28 → walk.up k ≤ t → IsLast walk k t last → Allows (timing 8 7 (gap k)) (past walk k t) last → ⊥
never_must k t last known soon up l a =
    let e : ℕ = a.synchronized.0 in
    let fits : a.synchronized.0 + gap k ≤ length (past walk k t) = a.synchronized.1 in
    let sync : IsSync 7 (past walk k t) last a.synchronized.0 = a.synchronized.2 in
    let long : 7 ≤ a.synchronized.0 = sync.long in
    let len : length (past walk k t) ≡ t - walk.up k = bits_length walk k (t - walk.up k) in
    let low : walk.up k ≤ 1 = of_three (λ i. walk.up i ≤ 1) (omega arith) (omega arith) (omega arith) k known in
    let quiet : IsQuiet walk k (walk.up k + (a.synchronized.0 - 7)) (walk.up k + (a.synchronized.0 - 7) + 7) =
    from_still trio walk walk_bounded k t (a.synchronized.0 - 7) a.synchronized.0 (walk.up k + (a.synchronized.0 - 7)) (walk.up k + (a.synchronized.0 - 7) + 7) (omega arith) refl (omega arith) sync.quiet in
    elim (cases_lt 0 (walk.up k + (a.synchronized.0 - 7))) [
      | inl more ↦ no_seven k (walk.up k + (a.synchronized.0 - 7)) more (omega arith) quiet
      | inr none ↦
          let up_zero : walk.up k ≡ 0 = omega arith in
          let first : k ≡ 0 = of_three (λ i. walk.up i ≡ 0 → i ≡ 0) (λ h. refl) (λ h. absurd (omega arith)) (λ h. absurd (omega arith)) k known up_zero in
          let tg : gap k ≡ 1 = ap gap first in
          let e_seven : a.synchronized.0 ≡ 7 = omega arith in
          own_start last l sync.own first e_seven (omega arith) up_zero
    ]
  where
    own_start : (last : Option ℕ) → IsLast walk k t last → IfSome last (λ start. start ≤ a.synchronized.0 - 7) → k ≡ 0 → a.synchronized.0 ≡ 7 → 8 ≤ t → walk.up k ≡ 0 → ⊥
    own_start None none own first e_seven late up_zero = none one (inl refl) (sym first) (omega arith)
    own_start (Some n) l own first e_seven late up_zero =
        let at : l.0.moment ≡ walk.up k + n = l.4 in
        let more : 7 ≤ l.0.moment = l.5 one (inl refl) (sym first) (omega arith) in
        let less : n ≤ a.synchronized.0 - 7 = own in
        omega arith

happens : IsAdmissible trio walk
happens = record {
  ordered = (
    (λ y i. elim i [
      | inl e ↦ inl (let m : y.moment ≡ 14 = ap (λ (z : Entry). z.moment) e in omega arith)
      | inr j ↦ elim j [ inl e ↦ inl (let m : y.moment ≡ 21 = ap (λ (z : Entry). z.moment) e in omega arith) | inr none ↦ absurd none ]
    ]),
    ((λ y i. elim i [ inl e ↦ inl (let m : y.moment ≡ 21 = ap (λ (z : Entry). z.moment) e in omega arith) | inr none ↦ absurd none ]), ((λ y i. absurd i), tt)),
  );
  sent = λ x i. sent x i;
  allowed = λ x last i l. subst (λ o. Allows (timing 8 6 (gap x.sender)) (past walk x.sender x.moment) o) (sym (none_before x i last l)) (allowed_each x i);
  left = λ x i. tt;
  demanded = λ k t last known soon up l a left. absurd (never_must k t last known soon up l a);
  own = λ x i. well x (bits_some x i) x.sender 0;
  others = λ x n i. well x (bits_some x i) n 0;
}
  where
    sent : (x : Entry) → In x walk.list → (x.sender < 3) × (x.moment < 28) × (1 ≤ x.length) × (x.length ≤ 1)
    sent x (inl e) = subst (λ (z : Entry). (z.sender < 3) × (z.moment < 28) × (1 ≤ z.length) × (z.length ≤ 1)) (sym e) (omega arith, omega arith, omega arith, omega arith)
    sent x (inr (inl e)) = subst (λ (z : Entry). (z.sender < 3) × (z.moment < 28) × (1 ≤ z.length) × (z.length ≤ 1)) (sym e) (omega arith, omega arith, omega arith, omega arith)
    sent x (inr (inr (inl e))) = subst (λ (z : Entry). (z.sender < 3) × (z.moment < 28) × (1 ≤ z.length) × (z.length ≤ 1)) (sym e) (omega arith, omega arith, omega arith, omega arith)
    sent x (inr (inr (inr e))) = absurd e

-- they aren't in order from any moment on
never : (origin : ℕ) → origin + 0 ≤ 20 → HasSettled trio walk 1 origin → ⊥
never origin soon h = from_rounds h.rounds h.parts h.order
  where
    from_rounds : (rounds : List Entry) → walk.list ≡ h.before ++ rounds → InRounds trio walk 0 origin rounds → ⊥
    from_rounds [] parts order =
        let i : In three (h.before ++ []) = subst (In three) parts (inr (inr (inl refl))) in
        elim (in_cases h.before [] three i) [
          | inl j ↦ (let e : end_of three ≤ origin = h.ended three j in omega arith)
          | inr none ↦ none
        ]
    from_rounds (y ∷ []) parts order =
        let first : y.sender ≡ 0 = order.0 in
        let late : 28 ≤ y.moment + y.length + 0 + 3 = order.3 0 (omega arith) (λ t less. tt) in
        let i : In y walk.list = subst (In y) (sym parts) (in_right h.before (y ∷ []) y (inl refl)) in
        elim i [
          | inl e ↦ (let m : y.moment ≡ 7 = ap (λ (z : Entry). z.moment) e in let n : y.length ≡ 1 = ap (λ (z : Entry). z.length) e in omega arith)
          | inr j ↦ elim j [
            | inl e ↦ (let m : y.sender ≡ 2 = ap (λ (z : Entry). z.sender) e in omega arith)
            | inr k ↦ elim k [ inl e ↦ (let m : y.sender ≡ 1 = ap (λ (z : Entry). z.sender) e in omega arith) | inr none ↦ none ]
          ]
        ]
    from_rounds (y ∷ z ∷ zs) parts order =
        let first : y.sender ≡ 0 = order.0 in
        let second : z.sender ≡ 1 = order.3.0 in
        let late : z.moment ≤ y.moment + y.length + 0 + 3 = order.3.2 in
        let i : In y walk.list = subst (In y) (sym parts) (in_right h.before (y ∷ z ∷ zs) y (inl refl)) in
        let j : In z walk.list = subst (In z) (sym parts) (in_right h.before (y ∷ z ∷ zs) z (inr (inl refl))) in
        let moments : (y.moment ≡ 7) × (y.length ≡ 1) = elim i [
          | inl e ↦ (ap (λ (w : Entry). w.moment) e, ap (λ (w : Entry). w.length) e)
          | inr j ↦ elim j [
            | inl e ↦ (let m : y.sender ≡ 2 = ap (λ (w : Entry). w.sender) e in absurd (omega arith))
            | inr k ↦ elim k [ inl e ↦ (let m : y.sender ≡ 1 = ap (λ (w : Entry). w.sender) e in absurd (omega arith)) | inr none ↦ absurd none ]
          ]
        ] in
        let a : y.moment ≡ 7 = moments.0 in
        let b : y.length ≡ 1 = moments.1 in
        elim j [
          | inl e ↦ (let m : z.sender ≡ 0 = ap (λ (w : Entry). w.sender) e in omega arith)
          | inr j ↦ elim j [
            | inl e ↦ (let m : z.sender ≡ 2 = ap (λ (w : Entry). w.sender) e in omega arith)
            | inr k ↦ elim k [ inl e ↦ (let m : z.moment ≡ 21 = ap (λ (w : Entry). w.moment) e in omega arith) | inr none ↦ none ]
          ]
        ]

pub unsettled : Unsettled
unsettled = record {
  bus = trio;
  c = walk;
  up = 1;
  sg = 7;
  has_room = trio_has_room;
  starts = trio_starts;
  happens = happens;
  alone = record {
    powered = λ k known. of_three (λ i. walk.up i ≤ 1) (omega arith) (omega arith) (omega arith) k known;
    due = λ k known. omega arith;
    still = λ n t low. refl;
  };
  greatest = λ k known. omega arith;
  room = omega arith;
  never = never;
}
