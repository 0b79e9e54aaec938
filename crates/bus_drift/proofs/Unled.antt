-- Two senders, of which the first leads by its slow clock; the second's transmit interval is over when the first one's is.
use Rattle.std.proofs.Common.{◌≡◌, ℕ, suc, ◌+◌, ◌*◌, ◌<◌, ◌≤◌, cond, List, [], ◌∷◌, inl, inr, arith, sym, refl, ap, subst, leb-true, ltb-true}
use Rattle.std.specs.Prelude.{nat_eq, nat_le, nat_lt}
use Rattle.std.proofs.lemmas.Bool.{cases_lt, cases_eq}
use Rattle.bus_clocks.specs.Buses.{Bus}
use Rattle.bus_clocks.specs.Entries.{Entry, In, IsAscending}
use Rattle.bus_clocks.specs.Courses.{Course, MayStart, HasEntry, IsCourse}
use Rattle.bus_drift.specs.Beginning.{Begins}
use Rattle.bus_drift.specs.Neighbours.{AlmostLeads, OneTickUnled}
use Rattle.bus_drift.specs.Room.{BeginsApart}
use Rattle.bus_drift.specs.Turns.{slowest, fastest}
use Rattle.bus_drift.proofs.Examples.{is_prompt}
use Rattle.bus_drift.proofs.Rows.{entry, each_is, push, row, some_length, start, wait, of_two}

abbrev interval : ℕ → ℕ
interval k = cond (nat_eq k 0) 8 6

abbrev due : ℕ → ℕ
due k = cond (nat_eq k 0) 3 5

abbrev gap : ℕ → ℕ
gap k = 1

abbrev pair : Bus
pair = record {
  senders = 2;
  delay = 0;
  drop = 1;
  tg_short = gap;
  tg_long = gap;
  sg_short = λ _. 2;
  sg_long = λ _. 2;
  ti_short = interval;
  ti_long = interval;
  shortest = λ _. 1;
  longest = λ _. 1;
}

abbrev last_two : List Entry
last_two = entry 11 0 1 ∷ entry 11 1 1 ∷ []

abbrev second : List Entry
second = entry 5 1 1 ∷ last_two

abbrev sent : List Entry
sent = entry 3 0 1 ∷ second

abbrev happens : Course
happens = row due gap interval 2 12 sent refl

may : (x : Entry) → In x sent → MayStart happens x.sender x.moment
may x (inl e) = subst (λ (z : Entry). MayStart happens z.sender z.moment) (sym e)
    (start due gap interval 2 12 sent refl 0 3 0 2 (inl refl) refl refl (inl refl) refl (omega arith) (omega arith) refl)
may x (inr (inl e)) = subst (λ (z : Entry). MayStart happens z.sender z.moment) (sym e)
    (start due gap interval 2 12 sent refl 1 5 0 4 (inl refl) refl refl (inr (omega arith, refl)) refl (omega arith) (omega arith) refl)
may x (inr (inr (inl e))) = subst (λ (z : Entry). MayStart happens z.sender z.moment) (sym e)
    (start due gap interval 2 12 sent refl 0 11 6 8 (inr (omega arith, refl)) refl refl (inl refl) refl (omega arith) (omega arith) refl)
may x (inr (inr (inr (inl e)))) = subst (λ (z : Entry). MayStart happens z.sender z.moment) (sym e)
    (start due gap interval 2 12 sent refl 1 11 6 8 (inr (omega arith, refl)) refl refl (inl refl) refl (omega arith) (omega arith) refl)
may x (inr (inr (inr (inr e)))) = absurd e

only_0 : (t : ℕ) → t < 12 → MayStart happens 0 t → HasEntry sent 0 t
only_0 t less m =
    let on_time : 3 ≤ t = m.due in
    elim (cases_eq t 3) [
      | inl is ↦ record { entry = entry 3 0 1; there = inl refl; sender = refl; moment = sym is }
      | inr not_3 ↦ elim (cases_lt t 11) [
        | inl first ↦ absurd (wait due gap interval 2 12 sent refl 0 t (entry 3 0 1) 11 (inl refl) refl (omega arith) first (omega arith) refl m)
        | inr on ↦ record { entry = entry 11 0 1; there = inr (inr (inl refl)); sender = refl; moment = (let e : 11 ≡ t = omega arith in e) }
      ]
    ]

only_1 : (t : ℕ) → t < 12 → MayStart happens 1 t → HasEntry sent 1 t
only_1 t less m =
    let on_time : 5 ≤ t = m.due in
    elim (cases_eq t 5) [
      | inl is ↦ record { entry = entry 5 1 1; there = inr (inl refl); sender = refl; moment = sym is }
      | inr not_5 ↦ elim (cases_lt t 11) [
        | inl first ↦ absurd (wait due gap interval 2 12 sent refl 1 t (entry 5 1 1) 11 (inr (inl refl)) refl (omega arith) first (omega arith) refl m)
        | inr on ↦ record { entry = entry 11 1 1; there = inr (inr (inr (inl refl))); sender = refl; moment = (let e : 11 ≡ t = omega arith in e) }
      ]
    ]

ordered_last : IsAscending last_two
ordered_last = (
  (λ y i. elim i [
    | inl e ↦ inr (ap (λ (z : Entry). z.moment) (sym e), (λ same. (let s : y.sender ≡ 1 = ap (λ (z : Entry). z.sender) e in omega arith)))
    | inr none ↦ absurd none
  ]),
  ((λ y i. absurd i), tt),
)

admissible : IsCourse pair happens
admissible = record {
  ordered = push (entry 3 0 1) second refl (push (entry 5 1 1) last_two refl ordered_last);
  sent = λ x i. (
    ltb-true x.sender 2 (each_is (λ x. nat_lt x.sender 2) sent refl x i),
    ltb-true x.moment 12 (each_is (λ x. nat_lt x.moment 12) sent refl x i),
    leb-true 1 x.length (each_is (λ x. nat_le 1 x.length) sent refl x i),
    leb-true x.length 1 (each_is (λ x. nat_le x.length 1) sent refl x i),
  );
  exact = λ k t known less. (
    (λ h. (subst (λ i. MayStart happens k i) h.moment (subst (λ i. MayStart happens i h.entry.moment) h.sender (may h.entry h.there)), tt)),
    (λ m. of_two (λ i. MayStart happens i t → HasEntry sent i t) (only_0 t less) (only_1 t less) k known m.0),
  );
  own = λ x i. is_prompt x (some_length due gap interval 2 12 sent refl x i) x.sender 0 1 (omega arith);
  others = λ x n i. is_prompt x (some_length due gap interval 2 12 sent refl x i) n 0 1 (omega arith);
  tg_low = λ k a known fresh. omega arith;
  tg_high = λ k a known. omega arith;
  sg_low = λ k a known fresh. omega arith;
  sg_high = λ k a known. omega arith;
  ti_low = λ k a known. omega arith;
  ti_high = λ k a known. omega arith;
}

pair_begin : BeginsApart pair due due
pair_begin = record {
  opens = omega arith;
  synced = λ k some known. omega arith;
  apart = λ k known. of_two (λ i. suc i < 2 → due i + 1 + 0 + 1 ≤ due (suc i)) (λ l. omega arith) (λ l. absurd (omega arith)) k (omega arith) known;
}

pair_leads : AlmostLeads pair due due (λ k. 2 * k) 1 0
pair_leads = record {
  hearing = record {
    some = omega arith;
    lasting = λ k known. (omega arith, omega arith);
    whole = λ k known. omega arith;
    heard = λ k known. omega arith;
  };
  clock = λ k some known. of_two (λ i. 0 < i → interval i ≤ 8) (λ l. absurd (omega arith)) (λ l. omega arith) k known some;
  offsets = record {
    first = λ k some known. of_two (λ i. due i ≤ 3 + 2 * i) (omega arith) (omega arith) k known;
    steps = λ k known. omega arith;
  };
  order = λ i j k low less known close.
      let i_is : i ≡ 0 = omega arith in
      let j_is : j ≡ 0 = omega arith in
      let k_is : k ≡ 1 = omega arith in
      subst (λ l. interval l + slowest pair l j + 0 < interval k + fastest pair l k + 1) (sym i_is)
      (subst (λ l. 8 + slowest pair 0 l + 0 < interval k + fastest pair 0 k + 1) (sym j_is)
      (subst (λ l. 8 + slowest pair 0 0 + 0 < interval l + fastest pair 0 l + 1) (sym k_is) (omega arith)));
  opening = omega arith;
  room = λ k some known. omega arith;
  begin = pair_begin;
}

pair_starts : Begins pair happens 0 due due
pair_starts = record { powered = λ k known. (omega arith, omega arith); due = λ k known. (omega arith, omega arith); still = λ n t low. refl }

pub one_tick_unled : OneTickUnled
one_tick_unled = record {
  case = record { bus = pair; c = happens; soon = due; late = due; ok = admissible; even = λ k known. refl; begins = pair_starts };
  offset = λ k. 2 * k;
  almost = pair_leads;
  collides = record {
    x = entry 11 0 1;
    y = entry 11 1 1;
    x_there = inr (inr (inl refl));
    y_there = inr (inr (inr (inl refl)));
    other = λ same. omega arith;
    same = refl;
  };
}
