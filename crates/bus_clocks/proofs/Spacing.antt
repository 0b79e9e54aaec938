-- In rounds, from one start of a sender to the next it takes a round.
use Rattle.std.proofs.Common.{◌≡◌, ℕ, zero, suc, ◌+◌, ◌<◌, ◌≤◌, ◌⊎◌, true, false, cond, List, [], ◌∷◌, inl, inr, arith, sym, refl, ap, ◌∙◌, subst, ltb-true, ltb-false}
use Rattle.std.specs.Prelude.{nat_lt}
use Rattle.std.proofs.lemmas.Bool.{cases_eq}
use Rattle.bus_clocks.specs.Buses.{Bus, sum_below}
use Rattle.bus_clocks.specs.Rounds.{AreSpaced, Follows, InRounds, least_round, most_round, next}
use Rattle.bus_clocks.specs.Courses.{Course}
use Rattle.bus_clocks.specs.Entries.{Entry, In, end_of}

module _ (bus : Bus) (c : Course) where
  abbrev K : ℕ
  K = bus.senders

  -- what the first n senders of a round take
  abbrev low : ℕ → ℕ
  low n = sum_below (λ k. bus.tg_short k + bus.shortest k) n

  abbrev high : ℕ → ℕ
  high n = sum_below (λ k. bus.delay + bus.tg_long k + bus.longest k) n

  abbrev Lasts : List Entry → Type 0
  Lasts list = (x : Entry) → In x list → (bus.shortest x.sender ≤ x.length) × (x.length ≤ bus.longest x.sender)

  grows : (f : ℕ → ℕ) (m n : ℕ) → m ≤ n → sum_below f m ≤ sum_below f n
  grows f m zero less = subst (λ i. sum_below f i ≤ 0) (let e : 0 ≡ m = omega arith in e) (let e : 0 ≤ 0 = omega arith in e)
  grows f m (suc n) less = elim (cases_eq m (suc n)) [
    | inl same ↦ subst (λ i. sum_below f m ≤ sum_below f i) same (let e : sum_below f m ≤ sum_below f m = omega arith in e)
    | inr other ↦ (let e : sum_below f m ≤ sum_below f n = grows f m n (omega arith) in omega arith)
  ]

  -- behind transmission x sender a is next, in the same round (a is behind it), or in the next one
  module _ (x : Entry) (known : x.sender < bus.senders) where
    record Same (v a : ℕ) : Type 0 where
      after : x.sender < a
      upto : a ≤ bus.senders
      least : x.moment + low a ≤ v + low x.sender + bus.tg_short x.sender
      most : v + bus.delay + bus.tg_long x.sender + high x.sender ≤ x.moment + high a

    record Then (v a : ℕ) : Type 0 where
      before : a ≤ x.sender
      least : x.moment + least_round bus + low a ≤ v + low x.sender + bus.tg_short x.sender
      most : v + bus.delay + bus.tg_long x.sender + high x.sender ≤ x.moment + most_round bus + high a

    -- who is next: sender a, which may be the first of the next round
    abbrev State : ℕ → ℕ → Type 0
    State v zero = Same v bus.senders
    State v (suc a) = (suc a < bus.senders) × (Same v (suc a) ⊎ Then v (suc a))

    next_same : (v a : ℕ) → Same v (suc a) → State v (next bus.senders a)
    next_same v a s =
        let upto : suc a ≤ bus.senders = s.upto in
        elim (nat_lt (suc a) bus.senders) as (λ b. nat_lt (suc a) bus.senders ≡ b → State v (cond b (suc a) 0)) [
          | true ↦ λ e. (ltb-true (suc a) bus.senders e, inl s)
          | false ↦ λ e. (let l : bus.senders ≤ suc a = ltb-false (suc a) bus.senders e in subst (Same v) (let e : suc a ≡ bus.senders = omega arith in e) s)
        ] refl

    next_then : (v a : ℕ) → Then v (suc a) → State v (next bus.senders a)
    next_then v a s =
        let before : suc a ≤ x.sender = s.before in
        elim (nat_lt (suc a) bus.senders) as (λ b. nat_lt (suc a) bus.senders ≡ b → State v (cond b (suc a) 0)) [
          | true ↦ λ e. (ltb-true (suc a) bus.senders e, inr s)
          | false ↦ λ e. (let l : bus.senders ≤ suc a = ltb-false (suc a) bus.senders e in absurd (omega arith))
        ] refl

    follows : (ys : List Entry) (v a : ℕ) → State v a → InRounds bus c a v ys → Lasts ys → Follows (least_round bus) (most_round bus) c x ys
    follows [] v zero s late lasts = λ has.
        let most : v + bus.delay + bus.tg_long x.sender + high x.sender ≤ x.moment + high bus.senders = s.most in
        let l : c.horizon ≤ v + bus.delay + bus.sg_long 0 + bus.tg_long 0 = late x.sender known has in
        elim (cases_eq x.sender 0) [
          | inl same ↦ (let e : bus.tg_long x.sender ≡ bus.tg_long 0 = ap bus.tg_long same in omega arith)
          | inr other ↦
              let g : high 1 ≤ high x.sender = grows (λ k. bus.delay + bus.tg_long k + bus.longest k) 1 x.sender (omega arith) in
              omega arith
        ]
    follows [] v (suc a) (one, inl s) late lasts = λ has.
        let most : v + bus.delay + bus.tg_long x.sender + high x.sender ≤ x.moment + high (suc a) = s.most in
        let l : c.horizon ≤ v + bus.delay + bus.tg_long (suc a) = late x.sender known has in
        let g : high (suc (suc a)) ≤ high bus.senders = grows (λ k. bus.delay + bus.tg_long k + bus.longest k) (suc (suc a)) bus.senders one in omega arith
    follows [] v (suc a) (one, inr s) late lasts = λ has.
        let most : v + bus.delay + bus.tg_long x.sender + high x.sender ≤ x.moment + most_round bus + high (suc a) = s.most in
        let l : c.horizon ≤ v + bus.delay + bus.tg_long (suc a) = late x.sender known has in
        let before : suc a ≤ x.sender = s.before in
        elim (cases_eq (suc a) x.sender) [
          | inl same ↦
              let e : bus.tg_long (suc a) ≡ bus.tg_long x.sender = ap bus.tg_long same in
              let f : high (suc a) ≡ high x.sender = ap high same in
              omega arith
          | inr other ↦
              let g : high (suc (suc a)) ≤ high x.sender = grows (λ k. bus.delay + bus.tg_long k + bus.longest k) (suc (suc a)) x.sender (omega arith) in
              omega arith
        ]
    follows (y ∷ ys) v zero s r lasts =
        let is : y.sender ≡ 0 = r.0 in
        let early : v + bus.sg_short 0 + bus.tg_short 0 ≤ y.moment = r.1 in
        let late : y.moment ≤ v + bus.delay + bus.sg_long 0 + bus.tg_long 0 = r.2 in
        let least : x.moment + low bus.senders ≤ v + low x.sender + bus.tg_short x.sender = s.least in
        let most : v + bus.delay + bus.tg_long x.sender + high x.sender ≤ x.moment + high bus.senders = s.most in
        elim (cases_eq x.sender 0) [
          | inl same ↦
              let e : bus.tg_long x.sender ≡ bus.tg_long 0 = ap bus.tg_long same in
              let f : bus.tg_short x.sender ≡ bus.tg_short 0 = ap bus.tg_short same in
              let g : low x.sender ≡ 0 = ap low same in
              inl (is ∙ sym same, omega arith, omega arith)
          | inr other ↦
              let short : bus.shortest 0 ≤ y.length = subst (λ k. bus.shortest k ≤ y.length) is (lasts y (inl refl)).0 in
              let long : y.length ≤ bus.longest 0 = subst (λ k. y.length ≤ bus.longest k) is (lasts y (inl refl)).1 in
              inr (
                (λ e. other (sym e ∙ is)),
                follows ys (end_of y) (next bus.senders 0)
                    (next_then (end_of y) 0 (record { before = omega arith; least = omega arith; most = omega arith })) r.3 (λ z i. lasts z (inr i)),
              )
        ]
    follows (y ∷ ys) v (suc a) (one, inl s) r lasts =
        let is : y.sender ≡ suc a = r.0 in
        let early : v + bus.tg_short (suc a) ≤ y.moment = r.1 in
        let late : y.moment ≤ v + bus.delay + bus.tg_long (suc a) = r.2 in
        let after : x.sender < suc a = s.after in
        let least : x.moment + low (suc a) ≤ v + low x.sender + bus.tg_short x.sender = s.least in
        let most : v + bus.delay + bus.tg_long x.sender + high x.sender ≤ x.moment + high (suc a) = s.most in
        let short : bus.shortest (suc a) ≤ y.length = subst (λ k. bus.shortest k ≤ y.length) is (lasts y (inl refl)).0 in
        let long : y.length ≤ bus.longest (suc a) = subst (λ k. y.length ≤ bus.longest k) is (lasts y (inl refl)).1 in
        inr (
          (λ e. (let bad : x.sender ≡ suc a = sym e ∙ is in omega arith)),
          follows ys (end_of y) (next bus.senders (suc a))
              (next_same (end_of y) (suc a) (record { after = omega arith; upto = one; least = omega arith; most = omega arith })) r.3 (λ z i. lasts z (inr i)),
        )
    follows (y ∷ ys) v (suc a) (one, inr s) r lasts =
        let is : y.sender ≡ suc a = r.0 in
        let early : v + bus.tg_short (suc a) ≤ y.moment = r.1 in
        let late : y.moment ≤ v + bus.delay + bus.tg_long (suc a) = r.2 in
        let before : suc a ≤ x.sender = s.before in
        let least : x.moment + least_round bus + low (suc a) ≤ v + low x.sender + bus.tg_short x.sender = s.least in
        let most : v + bus.delay + bus.tg_long x.sender + high x.sender ≤ x.moment + most_round bus + high (suc a) = s.most in
        elim (cases_eq x.sender (suc a)) [
          | inl same ↦
              let e : bus.tg_long x.sender ≡ bus.tg_long (suc a) = ap bus.tg_long same in
              let f : bus.tg_short x.sender ≡ bus.tg_short (suc a) = ap bus.tg_short same in
              let g : low x.sender ≡ low (suc a) = ap low same in
              let h : high x.sender ≡ high (suc a) = ap high same in
              inl (is ∙ sym same, omega arith, omega arith)
          | inr other ↦
              let short : bus.shortest (suc a) ≤ y.length = subst (λ k. bus.shortest k ≤ y.length) is (lasts y (inl refl)).0 in
              let long : y.length ≤ bus.longest (suc a) = subst (λ k. y.length ≤ bus.longest k) is (lasts y (inl refl)).1 in
              inr (
                (λ e. other (sym e ∙ is)),
                follows ys (end_of y) (next bus.senders (suc a))
                    (next_then (end_of y) (suc a) (record { before = omega arith; least = omega arith; most = omega arith })) r.3 (λ z i. lasts z (inr i)),
              )
        ]

  -- sender a is one
  abbrev IsOne : ℕ → Type 0
  IsOne a = a < bus.senders

  next_one : (a : ℕ) → 0 < bus.senders → IsOne (next bus.senders a)
  next_one a some = elim (nat_lt (suc a) bus.senders) as (λ b. nat_lt (suc a) bus.senders ≡ b → IsOne (cond b (suc a) 0)) [
    | true ↦ λ e. ltb-true (suc a) bus.senders e
    | false ↦ λ e. some
  ] refl

  first_state : (x : Entry) (known : x.sender < bus.senders) → bus.shortest x.sender ≤ x.length → x.length ≤ bus.longest x.sender
      → State x known (end_of x) (next bus.senders x.sender)
  first_state x known short long = next_same x known (end_of x) x.sender (record { after = omega arith; upto = omega arith; least = omega arith; most = omega arith })

  pub spaced : (ys : List Entry) (v a : ℕ) → a < bus.senders → InRounds bus c a v ys → Lasts ys → AreSpaced (least_round bus) (most_round bus) c ys
  spaced [] v a one r lasts = tt
  spaced (y ∷ ys) v a one r lasts =
      let is : y.sender ≡ a = r.0 in
      let known : y.sender < bus.senders = omega arith in
      let l = lasts y (inl refl) in
      let more : InRounds bus c (next bus.senders a) (end_of y) ys = r.3 in (
        follows y known ys (end_of y) (next bus.senders a) (subst (λ k. State y known (end_of y) (next bus.senders k)) is (first_state y known l.0 l.1)) more (λ z i. lasts z (inr i)),
        spaced ys (end_of y) (next bus.senders a) (next_one a (omega arith)) more (λ z i. lasts z (inr i)),
      )
