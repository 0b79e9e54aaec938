-- Courses that begin cold, with timers and delays of one's own choice.
use Rattle.std.proofs.Common.{◌≡◌, ℕ, ◌+◌, ◌-◌, ◌<◌, ◌≤◌, ◌⊎◌, Bool, true, false, ◌&&◌, cond, eqb, ltb, List, [], ◌∷◌, length, Option, inl, inr, arith, sym, refl, ap, ◌∙◌, subst, leb-true, le-leb, ltb-true, lt-ltb}
use Rattle.std.specs.Prelude.{IfSome, nat_le, nat_lt}
use Rattle.std.proofs.lemmas.Bool.{cases_Bool, true≢false, and_parts}
use Rattle.bus_clocks.specs.Buses.{Bus}
use Rattle.bus_clocks.specs.Entries.{Entry, In, end_of, own}
use Rattle.bus_clocks.specs.Hearing.{Hears}
use Rattle.bus_clocks.specs.Courses.{Course, HasEntry, HasLeft, IsCourse, IsQuiet, MayStart, carrier}
use Rattle.bus_clocks.specs.Existing.{IsNature, with_list}
use Rattle.bus_clocks.specs.Order.{IsCold}
use Rattle.bus_clocks.specs.Needing.{AreBounds}
use Rattle.bus_clocks.proofs.Existence.{courses_exist}
use Rattle.bus_clocks.proofs.Lists.{is_own}
use Rattle.bus_clocks.proofs.Timers.{quiet_all, quiet_each}

own_nobody : (l : List Entry) (k t : ℕ) → ((x : Entry) → In x l → x.sender ≡ k → x.moment < t → ⊥) → own l k t ≡ []
own_nobody [] k t none = refl
own_nobody (y ∷ l) k t none = elim (cases_Bool (eqb y.sender k && ltb y.moment t)) [
  | inl yes' ↦ (let p = is_own k t y yes' in absurd (none y (inl refl) p.0 p.1))
  | inr no' ↦ ap (λ b. cond b (y ∷ own l k t) (own l k t)) no' ∙ own_nobody l k t (λ x i. none x (inr i))
]

two : {a b : Bool} → a ≡ true → b ≡ true → a && b ≡ true
two {a} {b} one other = ap (λ x. x && b) one ∙ other

module _ (bus : Bus) (bounds : AreBounds bus) (ups tgc sgc : ℕ → ℕ) (d : ℕ → Entry → ℕ) (messages : Option ℕ) (H : ℕ)
    (tg_in : (k : ℕ) → k < bus.senders → (bus.tg_short k ≤ tgc k) × (tgc k ≤ bus.tg_long k))
    (sg_in : (k : ℕ) → k < bus.senders → (bus.sg_short k ≤ sgc k) × (sgc k ≤ bus.sg_long k))
    (near : (n : ℕ) (x : Entry) → d n x ≤ bus.delay) (self : (x : Entry) → d x.sender x ≡ 0) (has : IfSome messages (λ n. 0 < n)) where
  abbrev pub hears : Entry → ℕ → ℕ → Bool
  hears x n t = nat_le (x.moment + d n x) t && nat_lt t (end_of x + d n x)

  abbrev pub base : Course
  base = record {
    up = ups;
    due = λ _. 0;
    tg = λ k _. tgc k;
    sg = λ k _. sgc k;
    ti = λ k _. bus.ti_short k;
    messages = λ _. messages;
    noise = λ _ _. false;
    hears = hears;
    horizon = H;
    list = [];
  }

  pub heard_at : (x : Entry) (n t : ℕ) → x.moment + d n x ≤ t → t < end_of x + d n x → hears x n t ≡ true
  heard_at x n t low high = two (le-leb (x.moment + d n x) t low) (lt-ltb t (end_of x + d n x) high)

  pub from_heard : (x : Entry) (n t : ℕ) → hears x n t ≡ true → (x.moment + d n x ≤ t) × (t < end_of x + d n x)
  from_heard x n t h =
      let p = and_parts (nat_le (x.moment + d n x) t) (nat_lt t (end_of x + d n x)) h in
      (leb-true (x.moment + d n x) t p.0, ltb-true t (end_of x + d n x) p.1)

  well : (x : Entry) (n r : ℕ) → 0 < x.length → d n x ≤ r → Hears hears r bus.drop x n
  well x n r some low =
      let drop : 0 < bus.drop = bounds.drop in
      record {
        within = λ t h.
            let p = from_heard x n t h in
            let from : x.moment + d n x ≤ t = p.0 in
            let to : t < end_of x + d n x = p.1 in
            (omega arith, omega arith);
        first = x.moment + d n x;
        last = end_of x + d n x - 1;
        first_heard = heard_at x n (x.moment + d n x) (omega arith) (omega arith);
        first_soon = omega arith;
        last_heard = heard_at x n (end_of x + d n x - 1) (omega arith) (omega arith);
        last_late = omega arith;
        filled = λ t from to. (t, omega arith, omega arith, heard_at x n t from (omega arith));
      }

  nature : IsNature bus base (λ k t. bus.shortest k)
  nature = record {
    tg_low = λ k a known bound. (tg_in k known).0;
    tg_high = λ k a known. (tg_in k known).1;
    sg_low = λ k a known bound. (sg_in k known).0;
    sg_high = λ k a known. (sg_in k known).1;
    ti = λ k a known. (omega arith, bounds.ti k known);
    lengths = λ k t known. (bounds.lasting k known, omega arith, bounds.lengths k known);
    own = λ x some. (let e : d x.sender x ≡ 0 = self x in well x x.sender 0 some (omega arith));
    others = λ x n some. well x n bus.delay some (near n x);
  }

  pub made : (list : List Entry) × IsCourse bus (with_list base list) × ((x : Entry) → In x list → x.length ≡ bus.shortest x.sender)
  made = courses_exist bus base (λ k t. bus.shortest k) nature

  abbrev pub c : Course
  c = with_list base made.0

  pub ok : IsCourse bus c
  ok = made.1

  pub cold : IsCold bus c
  cold = record {
    due = λ k known. omega arith;
    still = λ n t. refl;
    tg = λ k a known. (tg_in k known).0;
    sg = λ k a known. (sg_in k known).0;
  }

  pub some : (x : Entry) → In x c.list → 0 < x.length
  some x i =
      let long : x.length ≡ bus.shortest x.sender = made.2 x i in
      let least : 0 < bus.shortest x.sender = bounds.lasting x.sender (ok.sent x i).0 in
      omega arith

  pub may : (x : Entry) → In x c.list → MayStart c x.sender x.moment
  may x i = ((ok.exact x.sender x.moment (ok.sent x i).0 (ok.sent x i).1).0 (record { entry = x; there = i; sender = refl; moment = refl })).0

  -- nobody starts before both its gaps
  pub late : (x : Entry) → In x c.list → ups x.sender + sgc x.sender + tgc x.sender ≤ x.moment
  late x i =
      let s : MayStart c x.sender x.moment = may x i in
      let from : ups x.sender ≤ s.synced.from = elim s.synced.begins [ inl is ↦ omega arith | inr p ↦ (let l : ups x.sender < s.synced.from = p.0 in omega arith) ] in
      let is : s.synced.from + sgc x.sender ≡ s.sync = s.synced.elapsed in
      let low : s.sync ≤ s.from = elim s.begins [ inl same ↦ omega arith | inr p ↦ (let l : s.sync < s.from = p.0 in omega arith) ] in
      let terminal : s.from + tgc x.sender ≤ x.moment = s.terminal in
      omega arith

  pub quiet : (n a b : ℕ) → ((x : Entry) → In x c.list → (b ≤ x.moment + d n x) ⊎ (end_of x + d n x ≤ a)) → IsQuiet c n a b
  quiet n a b out t low high = quiet_all hears c.list n t (λ x i. elim (cases_Bool (hears x n t)) [
    | inr no' ↦ no'
    | inl yes' ↦
        let p = from_heard x n t yes' in
        let from : x.moment + d n x ≤ t = p.0 in
        let to : t < end_of x + d n x = p.1 in
        absurd (elim (out x i) [ inl early ↦ omega arith | inr over ↦ omega arith ])
  ])

  -- quiet is none where a transmission is heard
  pub loud : (n a b t : ℕ) (x : Entry) → IsQuiet c n a b → In x c.list → a ≤ t → t < b → x.moment + d n x ≤ t → t < end_of x + d n x → ⊥
  loud n a b t x rests i low high from to =
      true≢false (sym (heard_at x n t from to) ∙ quiet_each hears c.list n t (rests t low high) x i)

  pub carried : (n t : ℕ) (x : Entry) → In x c.list → x.moment + d n x ≤ t → t < end_of x + d n x → carrier c n t ≡ true
  carried n t x i from to = elim (cases_Bool (carrier c n t)) [
    | inl yes' ↦ yes'
    | inr no' ↦ absurd (true≢false (sym (heard_at x n t from to) ∙ quiet_each hears c.list n t no' x i))
  ]

  pub more : (k t : ℕ) → ((x : Entry) → In x c.list → x.sender ≡ k → x.moment < t → ⊥) → HasLeft c k t
  more k t none = subst (λ (l : List Entry). IfSome messages (λ n. length l < n)) (sym (own_nobody c.list k t none)) has

  -- who has heard nothing but quiet starts when both its gaps have elapsed
  pub has_first : (k t : ℕ) → k < bus.senders → ups k + sgc k + tgc k ≡ t → t < H → ((x : Entry) → In x c.list → x.sender ≡ k → x.moment < t → ⊥)
      → ((x : Entry) → In x c.list → t ≤ x.moment + d k x) → HasEntry c.list k t
  has_first k t known is soon none far =
      let start : MayStart c k t = record {
        sync = ups k + sgc k;
        synced = record {
          from = ups k;
          begins = inl refl;
          quiet = quiet k (ups k) (ups k + sgc k) (λ x i. (let l : t ≤ x.moment + d k x = far x i in inl (omega arith)));
          elapsed = refl;
        };
        none = λ x i mine less. absurd (none x i mine less);
        from = ups k + sgc k;
        begins = inl refl;
        quiet = quiet k (ups k + sgc k) t (λ x i. inl (far x i));
        terminal = omega arith;
        due = omega arith;
        interval = λ x i mine less last. absurd (none x i mine less);
      } in
      (ok.exact k t known soon).1 (start, more k t none)
