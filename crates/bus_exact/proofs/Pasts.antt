-- What a sender has heard, when it started last and how many messages it has sent, told in ticks and in bit times.
use Rattle.std.proofs.Common.{◌≡◌, ℕ, zero, suc, ◌+◌, ◌-◌, ◌<◌, ◌≤◌, ◌⊎◌, true, false, ◌&&◌, ◌||◌, cond, List, [], ◌∷◌, ◌++◌, map, length, replicate, Some, inl, inr, arith, sym, refl, ap, ◌∙◌, subst, le-leb, eq-eqb, ne_eqb, lt-ltb, le-ltb}
use Rattle.std.specs.Prelude.{nat_eq, nat_lt}
use Rattle.std.specs.List.{list_any, fold}
use Rattle.std.specs.Option.{option_map}
use Rattle.std.proofs.lemmas.Bool.{cases_lt, cases_eq, lt-leb}
use Rattle.std.proofs.lemmas.List.{drop_all, drop-replicate}
use Rattle.bus_strings.specs.Members.{In}
use Rattle.bus_strings.proofs.MemberLaws.{none_any}
use Rattle.bus_strings.specs.Messages.{Entry}
use Rattle.bus_strings.specs.Transmissions.{pulses, carrier, Precedes, IsOrdered}
use Rattle.bus_table.specs.Tables.{Sender}
use Rattle.bus_medium.specs.Past.{past, own}
use Rattle.bus_medium.proofs.PastLaws.{length_past, from_own, in_own}
use Rattle.bus_medium.proofs.AscendingLaws.{behind_in}
use Rattle.bus_medium.specs.Wakes.{woken_past, woken_place}
use Rattle.bus_medium.specs.Delays.{heard, later}
use Rattle.bus_medium.proofs.Waking.{woken_more}
use Rattle.bus_clocks.specs.Courses.{carrier as carrier_at}
use Rattle.bus_clocks.specs.Entries.{Entry as Sending, In as Among, own as own_sent}
use Rattle.bus_clocks.specs.Hearing.{hears_any}
use Rattle.bus_clocks.specs.Windows.{bits as told, past as told_until, IsLast}
use Rattle.bus_exact.specs.Exact.{place_of, heard_at, sounds}
use Rattle.bus_exact.proofs.Places.{Placed}
use Rattle.bus_exact.proofs.Ticks.{Case, order, course, tick, number, hearing, late, Sent, sent, number_of, hears_is, facts_of, to_among, from_among}

module _ (s : Case) where
  -- it was powered up before
  pub woke : (x : Entry) → In x s.list → s.wake x.terminal < s.table.sg + x.moment
  woke x i =
      let f : Sent s x = sent s x i in
      elim (cases_lt (s.wake f.by.number) (s.table.sg + x.moment)) [
        | inl fine ↦ subst (λ n. s.wake n < s.table.sg + x.moment) (sym f.number_is) fine
        | inr late ↦
            let none : woken_past s.table.sg (s.wake f.by.number) (heard s.delay f.by.number s.list) x.moment ≡ [] =
            drop_all (s.wake f.by.number) (past s.table.sg (heard s.delay f.by.number s.list) x.moment)
            (omega (arith, length_past s.table.sg (heard s.delay f.by.number s.list) x.moment)) in
            let tg : 8 ≤ f.by.tg = (facts_of s f.by f.there).tg_least in
            let fit : f.by.tg ≤ length (woken_past s.table.sg (s.wake f.by.number) (heard s.delay f.by.number s.list) x.moment) = f.due.may.gap_fits in
            let zero_is : length (woken_past s.table.sg (s.wake f.by.number) (heard s.delay f.by.number s.list) x.moment) ≡ 0 = ap length none in
            absurd (omega arith)
      ]

  -- ---- carrier

  any_ticks : (l : List Entry) → ((x : Entry) → In x l → In x s.list) → (k u : ℕ) → hears_any (hearing s) (map (tick s) l) k u ≡ list_any (sounds s.table s.delay k u) l
  any_ticks [] sub k u = refl
  any_ticks (x ∷ l) sub k u =
      ap (λ b. b || hears_any (hearing s) (map (tick s) l) k u) (hears_is s x (sub x (inl refl)) k u) ∙ ap (λ b. sounds s.table s.delay k u x || b) (any_ticks l (λ y i. sub y (inr i)) k u)

  any_sounds : (l : List Entry) (k u : ℕ) (b : Sender) → Placed (order s) b k → s.table.sg ≤ u → list_any (sounds s.table s.delay k u) l ≡ carrier (heard s.delay b.number l) (u - s.table.sg)
  any_sounds [] k u b p low = refl
  any_sounds (x ∷ l) k u b p low =
      ap (λ z. (z && pulses (u - s.table.sg) (heard_at s.table s.delay k x)) || list_any (sounds s.table s.delay k u) l) (le-leb s.table.sg u low)
      ∙ ap (λ m. pulses (u - s.table.sg) (later m x) || list_any (sounds s.table s.delay k u) l) (p.has (λ c. s.delay x c.number))
      ∙ ap (λ z. pulses (u - s.table.sg) (later (s.delay x b.number) x) || z) (any_sounds l k u b p low)

  carrier_is : (k u : ℕ) (b : Sender) → Placed (order s) b k → s.table.sg ≤ u → carrier_at (course s) k u ≡ carrier (heard s.delay b.number s.list) (u - s.table.sg)
  carrier_is k u b p low = any_ticks s.list (λ x i. i) k u ∙ any_sounds s.list k u b p low

  carrier_before : (k u : ℕ) → u < s.table.sg → carrier_at (course s) k u ≡ false
  carrier_before k u low =
      any_ticks s.list (λ x i. i) k u ∙ none_any (sounds s.table s.delay k u) s.list (λ x i. ap (λ b. b && pulses (u - s.table.sg) (heard_at s.table s.delay k x)) (lt-leb s.table.sg u low))

  -- ---- pasts

  replicate_push : (n : ℕ) → replicate n false ++ false ∷ [] ≡ replicate (suc n) false
  replicate_push zero = refl
  replicate_push (suc n) = ap (λ l. false ∷ l) (replicate_push n)

  told_before : (k n : ℕ) → (course s).up k + n ≤ s.table.sg → told (course s) k n ≡ replicate n false
  told_before k zero low = refl
  told_before k (suc n) low =
      ap (λ l. l ++ carrier_at (course s) k ((course s).up k + n) ∷ []) (told_before k n (omega arith))
      ∙ ap (λ b. replicate n false ++ b ∷ []) (carrier_before k ((course s).up k + n) (omega arith)) ∙ replicate_push n

  module _ (k : ℕ) (b : Sender) (p : Placed (order s) b k) where
    up_is : (course s).up k ≡ s.wake b.number
    up_is = p.has (λ c. s.wake c.number)

    pub past_is : (t : ℕ) → woken_past s.table.sg (s.wake b.number) (heard s.delay b.number s.list) t ≡ told_until (course s) k (s.table.sg + t)
    past_is zero =
        let up : (course s).up k ≡ s.wake b.number = up_is in
        elim (cases_lt s.table.sg (s.wake b.number)) [
          | inl late ↦ drop_all (s.wake b.number) (replicate s.table.sg false) (omega (arith, length_past s.table.sg (heard s.delay b.number s.list) 0))
              ∙ ap (told (course s) k) (let e : 0 ≡ s.table.sg + 0 - (course s).up k = omega arith in e)
          | inr early ↦ drop-replicate (s.wake b.number) s.table.sg false ∙ sym (told_before k (s.table.sg - s.wake b.number) (omega arith))
              ∙ ap (told (course s) k) (let e : s.table.sg - s.wake b.number ≡ s.table.sg + 0 - (course s).up k = omega arith in e)
        ]
    past_is (suc t) =
        let up : (course s).up k ≡ s.wake b.number = up_is in
        elim (cases_lt (s.table.sg + t) (s.wake b.number)) [
          | inl late ↦ drop_all (s.wake b.number) (past s.table.sg (heard s.delay b.number s.list) (suc t)) (omega (arith, length_past s.table.sg (heard s.delay b.number s.list) (suc t)))
              ∙ ap (told (course s) k) (let e : 0 ≡ s.table.sg + suc t - (course s).up k = omega arith in e)
          | inr early ↦
              let same : carrier (heard s.delay b.number s.list) t ≡ carrier_at (course s) k ((course s).up k + (s.table.sg + t - (course s).up k)) =
              ap (carrier (heard s.delay b.number s.list)) (let e : t ≡ s.table.sg + t - s.table.sg = omega arith in e)
              ∙ sym (carrier_is k (s.table.sg + t) b p (omega arith)) ∙ ap (carrier_at (course s) k) (let e : s.table.sg + t ≡ (course s).up k + (s.table.sg + t - (course s).up k) = omega arith in e) in
              woken_more s.table.sg (s.wake b.number) (heard s.delay b.number s.list) t early
              ∙ ap (λ l. l ++ carrier (heard s.delay b.number s.list) t ∷ []) (past_is t)
              ∙ ap (λ z. told_until (course s) k (s.table.sg + t) ++ z ∷ []) same
              ∙ ap (told (course s) k) (let e : suc (s.table.sg + t - (course s).up k) ≡ s.table.sg + suc t - (course s).up k = omega arith in e)
        ]

    -- ---- the last start

    -- of transmissions in order the last is told
    record LastOf (acc : ℕ) (l : List Entry) : Type 0 where
      of : ℕ
      is : fold (λ _ (x : Entry). Some (s.table.sg + x.moment)) (Some (s.table.sg + acc)) l ≡ Some (s.table.sg + of)
      from : (of ≡ acc) ⊎ ((x : Entry) × In x l × (x.moment ≡ of))
      low : acc ≤ of
      most : (x : Entry) → In x l → x.moment ≤ of

    last_of : (acc : ℕ) (l : List Entry) → IsOrdered Precedes l → ((x : Entry) → In x l → acc ≤ x.moment) → LastOf acc l
    last_of acc [] o low = record { of = acc; is = refl; from = inl refl; low = omega arith; most = λ x i. absurd i }
    last_of acc (y ∷ l) o low =
        let r : LastOf y.moment l = last_of y.moment l o.1 (λ x i. elim (behind_in y l x o.0 i) [ inl less ↦ omega arith | inr same ↦ (let e : y.moment ≡ x.moment = same.0 in omega arith) ]) in
        let here : acc ≤ y.moment = low y (inl refl) in
        let r_low : y.moment ≤ r.of = r.low in
        record {
          of = r.of;
          is = r.is;
          from = elim r.from [
            | inl same ↦ inr (y, inl refl, sym same)
            | inr f ↦ inr (f.0, inr f.1, f.2)
          ];
          low = omega arith;
          most = λ x i. elim i [
            | inl same ↦ (let e : x.moment ≡ y.moment = ap (λ (z : Entry). z.moment) same in omega arith)
            | inr j ↦ r.most x j
          ];
        }

    -- whose transmissions are this sender's
    pub mine : (x : Entry) → In x s.list → place_of (order s) x.terminal ≡ k → x.terminal ≡ b.number
    mine x i at_k = sym (number_of s x i) ∙ ap (number s) at_k ∙ p.has (λ c. c.number)

    pub at_place : (x : Entry) → x.terminal ≡ b.number → place_of (order s) x.terminal ≡ k
    at_place x is = ap (place_of (order s)) is ∙ p.is

    -- the own starts, as told here and there
    own_talk : (t : ℕ) (y : Sending) → Among y (course s).list → y.sender ≡ k → y.moment < s.table.sg + t
        → (x : Entry) × In x (own s.list b.number t) × (y ≡ tick s x)
    own_talk t y i its less =
        let r = from_among s s.list y i in
        let is : r.0.terminal ≡ b.number = mine r.0 r.1 (ap (λ (z : Sending). z.sender) (sym r.2) ∙ its) in
        let moment : y.moment ≡ s.table.sg + r.0.moment = ap (λ (z : Sending). z.moment) r.2 in
        (r.0, in_own s.list b.number t r.0 r.1 is (omega arith), r.2)

    talk_own : (t : ℕ) (x : Entry) → In x (own s.list b.number t)
        → Among (tick s x) (course s).list × (place_of (order s) x.terminal ≡ k) × (x.moment < t) × (s.wake b.number ≤ s.table.sg + x.moment)
    talk_own t x i =
        let f = from_own s.list b.number t x i in
        let w : s.wake x.terminal < s.table.sg + x.moment = woke x f.0 in
        (to_among s s.list x f.0, at_place x f.1, f.2, (let v : s.wake b.number < s.table.sg + x.moment = subst (λ n. s.wake n < s.table.sg + x.moment) f.1 w in omega arith))

    pub last_in : (t : ℕ) (l : List Entry) → l ≡ own s.list b.number t → IsOrdered Precedes l
        → IsLast (course s) k (s.table.sg + t) (woken_place s.table.sg (s.wake b.number) l)
    last_in t [] is o = λ y i its less. (let r = own_talk t y i its less in subst (In r.0) (sym is) r.1)
    last_in t (a ∷ l) is o =
        let r : LastOf a.moment l = last_of a.moment l o.1 (λ x i. elim (behind_in a l x o.0 i) [ inl less ↦ omega arith | inr same ↦ (let e : a.moment ≡ x.moment = same.0 in omega arith) ]) in
        let x : (x : Entry) × In x (a ∷ l) × (x.moment ≡ r.of) = elim r.from [ inl same ↦ (a, inl refl, sym same) | inr f ↦ (f.0, inr f.1, f.2) ] in
        let there = talk_own t x.0 (subst (In x.0) is x.1) in
        let before : x.0.moment < t = there.2 in
        let awake : s.wake b.number ≤ s.table.sg + x.0.moment = there.3 in
        let up : (course s).up k ≡ s.wake b.number = up_is in
        let at_of : x.0.moment ≡ r.of = x.2 in
        let r_low : a.moment ≤ r.of = r.low in
        subst (λ o. IsLast (course s) k (s.table.sg + t) (option_map (λ place. place - s.wake b.number) o)) (sym r.is) (
          tick s x.0,
          there.0,
          there.1,
          (omega arith),
          (omega arith),
          (λ y i its less.
              let f = own_talk t y i its less in
              let m : y.moment ≡ s.table.sg + f.0.moment = ap (λ (z : Sending). z.moment) f.2 in
              let j : In f.0 (a ∷ l) = subst (In f.0) (sym is) f.1 in
              elim j [
                | inl same ↦ (let e : f.0.moment ≡ a.moment = ap (λ (z : Entry). z.moment) same in omega arith)
                | inr i2 ↦ (let e : f.0.moment ≤ r.of = r.most f.0 i2 in omega arith)
              ]),
        )

    -- ---- how many

    sooner : (m u : ℕ) → nat_lt (s.table.sg + m) u ≡ nat_lt m (u - s.table.sg)
    sooner m u = elim (cases_lt (s.table.sg + m) u) [
      | inl less ↦ lt-ltb (s.table.sg + m) u less ∙ sym (lt-ltb m (u - s.table.sg) (omega arith))
      | inr more ↦ le-ltb (s.table.sg + m) u more ∙ sym (le-ltb m (u - s.table.sg) (omega arith))
    ]

    same_place : (x : Entry) → In x s.list → nat_eq (place_of (order s) x.terminal) k ≡ nat_eq x.terminal b.number
    same_place x i = elim (cases_eq (place_of (order s) x.terminal) k) [
      | inl same ↦ eq-eqb (place_of (order s) x.terminal) k same ∙ sym (eq-eqb x.terminal b.number (mine x i same))
      | inr other ↦ ne_eqb (place_of (order s) x.terminal) k other ∙ sym (ne_eqb x.terminal b.number (λ e. other (at_place x e)))
    ]

    counted : (l : List Entry) → ((x : Entry) → In x l → In x s.list) → (u : ℕ) → own_sent (map (tick s) l) k u ≡ map (tick s) (own l b.number (u - s.table.sg))
    counted [] sub u = refl
    counted (x ∷ l) sub u =
        ap (λ z. cond (z && nat_lt (s.table.sg + x.moment) u) (tick s x ∷ own_sent (map (tick s) l) k u) (own_sent (map (tick s) l) k u)) (same_place x (sub x (inl refl)))
        ∙ ap (λ z. cond (nat_eq x.terminal b.number && z) (tick s x ∷ own_sent (map (tick s) l) k u) (own_sent (map (tick s) l) k u)) (sooner x.moment u)
        ∙ ap (λ z. cond (nat_eq x.terminal b.number && nat_lt x.moment (u - s.table.sg)) (tick s x ∷ z) z) (counted l (λ y i. sub y (inr i)) u)
        ∙ elim (nat_eq x.terminal b.number && nat_lt x.moment (u - s.table.sg))
        as (λ z. cond z (tick s x ∷ map (tick s) (own l b.number (u - s.table.sg))) (map (tick s) (own l b.number (u - s.table.sg)))
        ≡ map (tick s) (cond z (x ∷ own l b.number (u - s.table.sg)) (own l b.number (u - s.table.sg)))) [ true ↦ refl | false ↦ refl ]

    as_long : (l : List Entry) → length (map (tick s) l) ≡ length l
    as_long [] = refl
    as_long (x ∷ l) = ap suc (as_long l)

    pub count_is : (u : ℕ) → length (own_sent (course s).list k u) ≡ length (own s.list b.number (u - s.table.sg))
    count_is u = ap length (counted s.list (λ x i. i) u) ∙ as_long (own s.list b.number (u - s.table.sg))
