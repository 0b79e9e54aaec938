-- The first turn of which there is a rule leaves no more room than any behind it.
use Rattle.std.specs.Prelude.{nat_lt, ◌||◌}
use Rattle.std.proofs.Common.{◌≡◌, ℕ, zero, suc, ◌+◌, ◌-◌, ◌*◌, ◌<◌, ◌≤◌, Bool, true, false, cond, List, get_or, set, length, eqb, Option, Some, None, inl, inr, arith, sym, refl, ap, ◌∙◌, subst, ltb-true}
use Rattle.std.proofs.lemmas.Bool.{cases_eq, cases_Bool}
use Rattle.std.proofs.lemmas.List.{get_or-set_same, get_or-set_other}
use Rattle.bus_clocks.specs.Buses.{Bus}
use Rattle.bus_drift.specs.Turns.{who, slowest, fastest, shortest_step}
use Rattle.bus_drift.proofs.Sums.{between_join}
use Rattle.bus_margins_periodic.specs.declared.ahead.Ahead.{Ahead}
use Rattle.bus_margins_periodic.specs.declared.room.Room.{Room}
use Rattle.bus_margins_periodic.specs.Least.{is_less, lesser, least_of}
use Rattle.bus_margins_periodic.specs.Rooms.{is_close, order_among, passed_room}
use Rattle.bus_margins_periodic.specs.inside.Ahead.{IsNext, AreAhead, first_due}
use Rattle.bus_margins_periodic.specs.inside.Cases.{is_ruled}

-- ---- the least of rooms

none_all : (n : ℕ) (room : ℕ → Option Room) → ((b : ℕ) → b < n → room b ≡ None) → least_of n room ≡ None
none_all zero room h = refl
none_all (suc n) room h = ap (λ a. lesser a (room n)) (none_all n room (λ b low. h b (omega arith))) ∙ h n (omega arith)

-- there is none, or it isn't less than this one
abbrev NoLess : Room → Option Room → Type 0
NoLess a None = Unit {0}
NoLess a (Some b) = is_less b a ≡ false

kept : (a : Room) (b : Option Room) → NoLess a b → lesser (Some a) b ≡ Some a
kept a None h = refl
kept a (Some b) h = ap (λ t. Some (cond t b a)) h

first_all : (n : ℕ) (room : ℕ → Option Room) (b : ℕ) (a : Room) → b < n → ((c : ℕ) → c < b → room c ≡ None) → room b ≡ Some a
    → ((c : ℕ) → b < c → NoLess a (room c)) → least_of n room ≡ Some a
first_all zero room b a less before at behind = absurd (omega arith)
first_all (suc n) room b a less before at behind = elim (cases_eq b n) [
  | inl same ↦
      ap (λ l. lesser l (room n)) (none_all n room (λ c low. before c (omega arith))) ∙ ap room (sym same) ∙ at
  | inr other ↦
      ap (λ l. lesser l (room n)) (first_all n room b a (omega arith) before at behind) ∙ kept a (room n) (behind n (omega arith))
]

-- ---- those that are due behind the one that is held back

not_less : (a b : ℕ) → b ≤ a → nat_lt a b ≡ false
not_less a b h = elim (cases_Bool (nat_lt a b)) [
  | inl yes' ↦ let l : a < b = ltb-true a b yes' in absurd (omega arith)
  | inr no' ↦ no'
]

module _ (bus : Bus) (alike : (k : ℕ) → bus.ti_short k ≡ bus.ti_short 0) (last late held : ℕ) (order : late ≤ held) where
  abbrev room_of : ℕ → Room
  room_of k = record {
    first = who bus late;
    second = who bus held;
    third = who bus k;
    need = bus.ti_long (who bus late) + slowest bus late held + bus.delay + 1;
    have = bus.ti_short (who bus k) + fastest bus late k;
  }

  ruled_is : (k : ℕ) → is_ruled bus late held k ≡ true → order_among bus late held k ≡ Some (room_of k)
  ruled_is k h = ap (λ t. cond t (Some (room_of k)) None) h

  out_is : (k : ℕ) → is_ruled bus late held k ≡ false → order_among bus late held k ≡ None
  out_is k h = ap (λ t. cond t (Some (room_of k)) None) h

  later : (due k : ℕ) → held < due → due ≤ k → is_less (room_of k) (room_of due) ≡ false
  later due k low high =
      let more : fastest bus late k ≡ fastest bus late due + fastest bus due k = between_join (shortest_step bus) late due k (omega arith) high in
      let a : bus.ti_short (who bus due) ≡ bus.ti_short 0 = alike (who bus due) in
      let b : bus.ti_short (who bus k) ≡ bus.ti_short 0 = alike (who bus k) in
      not_less ((room_of k).have + (room_of due).need) ((room_of due).have + (room_of k).need)
      (sum (bus.ti_short (who bus due)) (bus.ti_short (who bus k)) (bus.ti_short 0) (fastest bus late due) (fastest bus late k) (fastest bus due k)
      (room_of due).need more a b) where
        sum : (s t z f g h need : ℕ) → g ≡ f + h → s ≡ z → t ≡ z → s + f + need ≤ t + g + need
        sum s t z f g h need more a b = omega arith

  no_less : (due k : ℕ) → held < due → due ≤ k → NoLess (room_of due) (order_among bus late held k)
  no_less due k low high = elim (cases_Bool (is_ruled bus late held k)) [
    | inl yes' ↦ subst (NoLess (room_of due)) (sym (ruled_is k yes')) (later due k low high)
    | inr no' ↦ subst (NoLess (room_of due)) (sym (out_is k no')) tt
  ]

  abbrev room : ℕ → Option Room
  room b = order_among bus late held (held + suc b)

  pub passed_first : (due : ℕ) → held < due → due < last → ((k : ℕ) → held < k → k < due → is_ruled bus late held k ≡ false)
      → is_ruled bus late held due ≡ true → passed_room bus last late held ≡ order_among bus late held due
  passed_first due low less before ruled =
      let at : held + suc (due - suc held) ≡ due = omega arith in
      first_all (last - suc held) room (due - suc held) (room_of due) (omega arith)
      (λ c early. out_is (held + suc c) (before (held + suc c) (omega arith) (omega arith)))
      (ap (order_among bus late held) at ∙ ruled_is due ruled)
      (λ c behind. no_less due (held + suc c) low (omega arith))
      ∙ sym (ruled_is due ruled)

  pub passed_none : (due : ℕ) → last ≤ due → ((k : ℕ) → held < k → k < due → is_ruled bus late held k ≡ false)
      → passed_room bus last late held ≡ None
  passed_none due high before =
      none_all (last - suc held) room (λ b less. out_is (held + suc b) (before (held + suc b) (omega arith) (omega arith)))

-- ---- the first turn of which there is a rule

or_none : (a b : Bool) → a ≡ false → b ≡ false → a || b ≡ false
or_none a b h k = ap (λ t. t || b) h ∙ k

or_right : (a b : Bool) → b ≡ true → a || b ≡ true
or_right true b h = refl
or_right false b h = h

or_first : (a b : Bool) → a ≡ true → a || b ≡ true
or_first a b h = ap (λ t. t || b) h

pub record IsFirst (bus : Bus) (late held due : ℕ) : Type 0 where
  pub behind : held < due
  pub before : (k : ℕ) → held < k → k < due → is_ruled bus late held k ≡ false
  pub ruled : due < held + bus.senders → is_ruled bus late held due ≡ true

pub first_is : (bus : Bus) (ahead : Ahead) (late held : ℕ) → AreAhead bus ahead → held < 2 * bus.senders → IsFirst bus late held (first_due ahead late held)
first_is bus ahead late held are low = elim (cases_Bool (eqb late held)) [
  | inl same ↦
      let due : first_due ahead late held ≡ held + 1 = ap (λ t. cond t (held + 1) (get_or ahead.next held 0)) same in
      subst (IsFirst bus late held) (sym due) (record {
        behind = omega arith;
        before = λ k a b. absurd (omega arith);
        ruled = λ less. or_first (eqb late held) (is_close bus held (held + 1)) same;
      })
  | inr other ↦
      let due : first_due ahead late held ≡ get_or ahead.next held 0 = ap (λ t. cond t (held + 1) (get_or ahead.next held 0)) other in
      let next : IsNext bus held (get_or ahead.next held 0) = are.next held low in
      subst (IsFirst bus late held) (sym due) (record {
        behind = next.behind;
        before = λ k a b. or_none (eqb late held) (is_close bus held k) other (next.before k a b);
        ruled = λ less. or_right (eqb late held) (is_close bus held (get_or ahead.next held 0)) (next.close less);
      })
]

-- ---- how soon

pub sooner : (bus : Bus) (ahead : Ahead) (late due : ℕ) → AreAhead bus ahead → late ≤ due → due < 2 * bus.senders
    → get_or ahead.fast due 0 ≡ get_or ahead.fast late 0 + fastest bus late due
sooner bus ahead late due are low less =
    are.fast due less ∙ between_join (shortest_step bus) 0 late due (omega arith) low
    ∙ ap (λ n. n + fastest bus late due) (sym (are.fast late (omega arith)))

-- ---- what is told of each turn so far

pub told_more : (P : ℕ → ℕ → Type 0) (told : List ℕ) (n value : ℕ) → n < length told → ((j : ℕ) → j < n → P j (get_or told j 0)) → P n value
    → (j : ℕ) → j < n + 1 → P j (get_or (set told n value) j 0)
told_more P told n value room before now j less = elim (cases_eq j n) [
  | inl same ↦
      subst (λ m. P m (get_or (set told n value) m 0)) (sym same) (subst (P n) (sym (get_or-set_same told n value 0 room)) now)
  | inr other ↦ subst (P j) (sym (get_or-set_other told n j value 0 other)) (before j (omega arith))
]
