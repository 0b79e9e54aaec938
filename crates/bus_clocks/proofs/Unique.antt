-- There is one course at most for each choice of timers, hearing and lengths: moment by moment the same senders start.
use Rattle.std.proofs.Common.{◌≡◌, ℕ, zero, suc, ◌<◌, ◌≤◌, Bool, true, ◌||◌, ◌&&◌, cond, eqb, ltb, List, [], ◌∷◌, length, inl, inr, arith, sym, refl, ap, ◌∙◌, subst}
use Rattle.std.specs.Prelude.{IfSome}
use Rattle.std.proofs.lemmas.Bool.{cases_lt, cases_Bool, true≢false}
use Rattle.bus_clocks.specs.Buses.{Bus}
use Rattle.bus_clocks.specs.Entries.{Entry, In, IsAscending, own}
use Rattle.bus_clocks.specs.Hearing.{hears_any}
use Rattle.bus_clocks.specs.Courses.{Course, HasEntry, IsCourse, carrier}
use Rattle.bus_clocks.specs.Existing.{OneCourse, with_list}
use Rattle.bus_clocks.proofs.Existence.{may_same}
use Rattle.bus_clocks.proofs.Lists.{is_own, own_is}

-- ---- a sender's own, in order

abbrev IsStrict : List Entry → Type 0
IsStrict [] = Unit {0}
IsStrict (x ∷ xs) = ((y : Entry) → In y xs → x.moment < y.moment) × IsStrict xs

strict_same : (l m : List Entry) → IsStrict l → IsStrict m → ((x : Entry) → In x l → In x m) → ((x : Entry) → In x m → In x l) → l ≡ m
strict_same [] [] p q there back = refl
strict_same [] (y ∷ m) p q there back = absurd (back y (inl refl))
strict_same (x ∷ l) [] p q there back = absurd (there x (inl refl))
strict_same (x ∷ l) (y ∷ m) p q there back =
    let heads : x ≡ y = elim (there x (inl refl)) [
      | inl same ↦ same
      | inr late ↦ elim (back y (inl refl)) [
        | inl same ↦ sym same
        | inr later ↦
            let one : y.moment < x.moment = q.0 x late in
            let two : x.moment < y.moment = p.0 y later in
            absurd (omega arith)
      ]
    ] in
    let at : x.moment ≡ y.moment = ap (λ (z : Entry). z.moment) heads in
    let tails : l ≡ m = strict_same l m p.1 q.1
    (λ z i. elim (there z (inr i)) [
      | inr j ↦ j
      | inl same ↦ (let e : z.moment ≡ y.moment = ap (λ (w : Entry). w.moment) same in let less : x.moment < z.moment = p.0 z i in absurd (omega arith))
    ])
    (λ z i. elim (back z (inr i)) [
      | inr j ↦ j
      | inl same ↦ (let e : z.moment ≡ x.moment = ap (λ (w : Entry). w.moment) same in let less : y.moment < z.moment = q.0 z i in absurd (omega arith))
    ]) in
    ap (λ (z : Entry). z ∷ l) heads ∙ ap (λ (z : List Entry). y ∷ z) tails

module _ (k t : ℕ) where
  from_own : (l : List Entry) (x : Entry) → In x (own l k t) → In x l × (x.sender ≡ k) × (x.moment < t)
  from_own [] x i = absurd i
  from_own (y ∷ l) x i = elim (cases_Bool (eqb y.sender k && ltb y.moment t)) [
    | inl yes' ↦
        let j : In x (y ∷ own l k t) = subst (In x) (ap (λ b. cond b (y ∷ own l k t) (own l k t)) yes') i in
        elim j [
          | inl same ↦ subst (λ (z : Entry). In z (y ∷ l) × (z.sender ≡ k) × (z.moment < t)) (sym same) (inl refl, (is_own k t y yes').0, (is_own k t y yes').1)
          | inr later ↦ (let r = from_own l x later in (inr r.0, r.1, r.2))
        ]
    | inr no' ↦ (let r = from_own l x (subst (In x) (ap (λ b. cond b (y ∷ own l k t) (own l k t)) no') i) in (inr r.0, r.1, r.2))
  ]

  in_own : (l : List Entry) (x : Entry) → In x l → x.sender ≡ k → x.moment < t → In x (own l k t)
  in_own [] x i mine less = absurd i
  in_own (y ∷ l) x (inl same) mine less =
      let yes' : eqb y.sender k && ltb y.moment t ≡ true = subst (λ (z : Entry). eqb z.sender k && ltb z.moment t ≡ true) same (own_is k t x mine less) in
      subst (In x) (sym (ap (λ b. cond b (y ∷ own l k t) (own l k t)) yes')) (inl same)
  in_own (y ∷ l) x (inr i) mine less = elim (cases_Bool (eqb y.sender k && ltb y.moment t)) [
    | inl yes' ↦ subst (In x) (sym (ap (λ b. cond b (y ∷ own l k t) (own l k t)) yes')) (inr (in_own l x i mine less))
    | inr no' ↦ subst (In x) (sym (ap (λ b. cond b (y ∷ own l k t) (own l k t)) no')) (in_own l x i mine less)
  ]

  own_strict : (l : List Entry) → IsAscending l → IsStrict (own l k t)
  own_strict [] up = tt
  own_strict (y ∷ l) up = elim (cases_Bool (eqb y.sender k && ltb y.moment t)) [
    | inl yes' ↦ subst IsStrict (sym (ap (λ b. cond b (y ∷ own l k t) (own l k t)) yes')) (
      (λ z i. (let r = from_own l z i in elim (up.0 z r.0) [
        | inl less ↦ less
        | inr p ↦ absurd (p.1 ((is_own k t y yes').0 ∙ sym r.1))
      ])),
      own_strict l up.1,
    )
    | inr no' ↦ subst IsStrict (sym (ap (λ b. cond b (y ∷ own l k t) (own l k t)) no')) (own_strict l up.1)
  ]

-- ---- hearing

heard_by : (h : Entry → ℕ → ℕ → Bool) (l : List Entry) (n u : ℕ) → hears_any h l n u ≡ true → (x : Entry) × In x l × (h x n u ≡ true)
heard_by h [] n u on = absurd (true≢false (sym on))
heard_by h (y ∷ l) n u on = elim (cases_Bool (h y n u)) [
  | inl yes' ↦ (y, inl refl, yes')
  | inr no' ↦ (let r = heard_by h l n u (sym (ap (λ b. b || hears_any h l n u) no') ∙ on) in (r.0, inr r.1, r.2))
]

by_heard : (h : Entry → ℕ → ℕ → Bool) (l : List Entry) (n u : ℕ) (x : Entry) → In x l → h x n u ≡ true → hears_any h l n u ≡ true
by_heard h [] n u x i on = absurd i
by_heard h (y ∷ l) n u x (inl same) on = ap (λ b. b || hears_any h l n u) (subst (λ z. h z n u ≡ true) same on)
by_heard h (y ∷ l) n u x (inr i) on = elim (cases_Bool (h y n u)) [
  | inl yes' ↦ ap (λ b. b || hears_any h l n u) yes'
  | inr no' ↦ ap (λ b. b || hears_any h l n u) no' ∙ by_heard h l n u x i on
]

entry_same : (x y : Entry) → x.moment ≡ y.moment → x.sender ≡ y.sender → x.length ≡ y.length → x ≡ y
entry_same x y one two three =
    ap (λ m. record x { moment = m }) one ∙ ap (λ s. record x { moment = y.moment; sender = s }) two
    ∙ ap (λ n. record x { moment = y.moment; sender = y.sender; length = n }) three

module _ (bus : Bus) (c : Course) (lasts : ℕ → ℕ → ℕ) (l m : List Entry) (one : IsCourse bus (with_list c l)) (two : IsCourse bus (with_list c m))
    (long_l : (x : Entry) → In x l → x.length ≡ lasts x.sender x.moment) (long_m : (x : Entry) → In x m → x.length ≡ lasts x.sender x.moment) where
  -- the two have the same below moment t
  record Same (t : ℕ) : Type 0 where
    there : (x : Entry) → In x l → x.moment < t → In x m
    back : (x : Entry) → In x m → x.moment < t → In x l

  module _ (t : ℕ) (s : Same t) where
    any_same : (n u : ℕ) → u < t → hears_any c.hears l n u ≡ hears_any c.hears m n u
    any_same n u less = elim (cases_Bool (hears_any c.hears l n u)) [
      | inl yes' ↦
          let r = heard_by c.hears l n u yes' in
          let from : r.0.moment ≤ u = ((one.others r.0 n r.1).within u r.2).0 in
          yes' ∙ sym (by_heard c.hears m n u r.0 (s.there r.0 r.1 (omega arith)) r.2)
      | inr no' ↦ elim (cases_Bool (hears_any c.hears m n u)) [
        | inr also ↦ no' ∙ sym also
        | inl yes' ↦
            let r = heard_by c.hears m n u yes' in
            let from : r.0.moment ≤ u = ((two.others r.0 n r.1).within u r.2).0 in
            absurd (true≢false (sym (by_heard c.hears l n u r.0 (s.back r.0 r.1 (omega arith)) r.2) ∙ no'))
      ]
    ]

    carrier_same : (n u : ℕ) → u < t → carrier (with_list c l) n u ≡ carrier (with_list c m) n u
    carrier_same n u less = ap (λ b. c.noise n u || b) (any_same n u less)

    own_same : (k : ℕ) → own l k t ≡ own m k t
    own_same k = strict_same (own l k t) (own m k t) (own_strict k t l one.ordered) (own_strict k t m two.ordered)
        (λ x i. (let r = from_own k t l x i in in_own k t m x (s.there x r.0 r.2) r.1 r.2))
        (λ x i. (let r = from_own k t m x i in in_own k t l x (s.back x r.0 r.2) r.1 r.2))

    on_there : (x : Entry) → In x l → x.moment ≡ t → In x m
    on_there x i at =
        let sent = one.sent x i in
        let soon : t < c.horizon = subst (λ n. n < c.horizon) at sent.1 in
        let both = (one.exact x.sender t sent.0 soon).0 (record { entry = x; there = i; sender = refl; moment = at }) in
        let h : HasEntry m x.sender t = (two.exact x.sender t sent.0 soon).1 (
          may_same c t l m carrier_same s.there s.back x.sender both.0,
          subst (λ (z : List Entry). IfSome (c.messages x.sender) (λ n. length z < n)) (own_same x.sender) both.1,
        ) in
        let same : h.entry ≡ x = entry_same h.entry x (h.moment ∙ sym at) h.sender
        (long_m h.entry h.there ∙ ap (λ k. lasts k h.entry.moment) h.sender ∙ ap (lasts x.sender) (h.moment ∙ sym at) ∙ sym (long_l x i)) in
        subst (λ z. In z m) same h.there

    on_back : (x : Entry) → In x m → x.moment ≡ t → In x l
    on_back x i at =
        let sent = two.sent x i in
        let soon : t < c.horizon = subst (λ n. n < c.horizon) at sent.1 in
        let both = (two.exact x.sender t sent.0 soon).0 (record { entry = x; there = i; sender = refl; moment = at }) in
        let h : HasEntry l x.sender t = (one.exact x.sender t sent.0 soon).1 (
          may_same c t m l (λ n u less. sym (carrier_same n u less)) s.back s.there x.sender both.0,
          subst (λ (z : List Entry). IfSome (c.messages x.sender) (λ n. length z < n)) (sym (own_same x.sender)) both.1,
        ) in
        let same : h.entry ≡ x = entry_same h.entry x (h.moment ∙ sym at) h.sender
        (long_l h.entry h.there ∙ ap (λ k. lasts k h.entry.moment) h.sender ∙ ap (lasts x.sender) (h.moment ∙ sym at) ∙ sym (long_m x i)) in
        subst (λ z. In z l) same h.there

  same_upto : (t : ℕ) → Same t
  same_upto zero = record { there = λ x i less. absurd (omega arith); back = λ x i less. absurd (omega arith) }
  same_upto (suc t) =
      let s : Same t = same_upto t in
      record {
        there = λ x i less. elim (cases_lt x.moment t) [ inl before ↦ s.there x i before | inr on ↦ on_there t s x i (omega arith) ];
        back = λ x i less. elim (cases_lt x.moment t) [ inl before ↦ s.back x i before | inr on ↦ on_back t s x i (omega arith) ];
      }

pub one_course : OneCourse
one_course bus c lasts l m one two long_l long_m x = (
  (λ i. (same_upto bus c lasts l m one two long_l long_m (suc x.moment)).there x i (omega arith)),
  (λ i. (same_upto bus c lasts l m one two long_l long_m (suc x.moment)).back x i (omega arith)),
)
