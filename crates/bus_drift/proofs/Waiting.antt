-- Two senders, of which the first waits for its synchronization gap: the quiet behind its own transmission is one tick too short, and that behind the
-- other's begins one tick too late.
use Rattle.std.proofs.Common.{◌≡◌, ℕ, suc, ◌+◌, ◌*◌, ◌<◌, ◌≤◌, true, cond, List, [], ◌∷◌, inl, inr, arith, sym, refl, ◌∙◌, subst, leb-true, ltb-true}
use Rattle.std.specs.Prelude.{nat_eq, nat_le, nat_lt}
use Rattle.std.proofs.lemmas.Bool.{cases_lt, cases_eq, true≢false}
use Rattle.bus_clocks.specs.Buses.{Bus, sum_below}
use Rattle.bus_clocks.specs.Entries.{Entry, In}
use Rattle.bus_clocks.specs.Courses.{Course, carrier, MayStart, HasEntry, IsCourse}
use Rattle.bus_drift.specs.Beginning.{Begins}
use Rattle.bus_drift.specs.Neighbours.{AlmostLeads, Case, OneTickIsLate, OneTickHeld}
use Rattle.bus_drift.specs.Room.{HearsOut, NoneOvertaken, BeginsInTurn}
use Rattle.bus_drift.specs.Turns.{who, slowest, fastest}
use Rattle.bus_drift.proofs.Examples.{is_prompt}
use Rattle.bus_drift.proofs.Rows.{entry, each_is, push, row, some_length, start, wait, of_two}

abbrev interval : ℕ → ℕ
interval k = 7

abbrev due : ℕ → ℕ
due k = cond (nat_eq k 0) 4 7

abbrev gap : ℕ → ℕ
gap k = 1

abbrev tight : Bus
tight = record {
  senders = 2;
  delay = 0;
  drop = 1;
  tg_short = gap;
  tg_long = gap;
  sg_short = λ _. 3;
  sg_long = λ _. 3;
  ti_short = interval;
  ti_long = interval;
  shortest = λ _. 1;
  longest = λ _. 1;
}

abbrev last : List Entry
last = entry 12 0 1 ∷ []

abbrev second : List Entry
second = entry 7 1 1 ∷ last

abbrev sent : List Entry
sent = entry 4 0 1 ∷ second

abbrev happens : Course
happens = row due gap interval 3 13 sent refl

may : (x : Entry) → In x sent → MayStart happens x.sender x.moment
may x (inl e) = subst (λ (z : Entry). MayStart happens z.sender z.moment) (sym e)
    (start due gap interval 3 13 sent refl 0 4 0 3 (inl refl) refl refl (inl refl) refl (omega arith) (omega arith) refl)
may x (inr (inl e)) = subst (λ (z : Entry). MayStart happens z.sender z.moment) (sym e)
    (start due gap interval 3 13 sent refl 1 7 0 5 (inl refl) refl refl (inr (omega arith, refl)) refl (omega arith) (omega arith) refl)
may x (inr (inr (inl e))) = subst (λ (z : Entry). MayStart happens z.sender z.moment) (sym e)
    (start due gap interval 3 13 sent refl 0 12 8 11 (inr (omega arith, refl)) refl refl (inl refl) refl (omega arith) (omega arith) refl)
may x (inr (inr (inr e))) = absurd e

-- at tick 11 its transmit interval is over, but its last synchronization was before its own start
unready : MayStart happens 0 11 → ⊥
unready m =
    let terminal : m.from + 1 ≤ 11 = m.terminal in
    let low : m.sync ≤ m.from = elim m.begins [ inl is ↦ omega arith | inr p ↦ omega arith ] in
    let own : 4 < m.sync = m.none (entry 4 0 1) (inl refl) refl (omega arith) in
    let elapsed : m.synced.from + 3 ≡ m.sync = m.synced.elapsed in
    let first : carrier happens 0 4 ≡ true = refl in
    let other : carrier happens 0 7 ≡ true = refl in
    elim (cases_lt m.synced.from 5) [
      | inl early ↦ true≢false (sym first ∙ m.synced.quiet 4 (omega arith) (omega arith))
      | inr later ↦ true≢false (sym other ∙ m.synced.quiet 7 (omega arith) (omega arith))
    ]

only_0 : (t : ℕ) → t < 13 → MayStart happens 0 t → HasEntry sent 0 t
only_0 t less m =
    let on_time : 4 ≤ t = m.due in
    elim (cases_eq t 4) [
      | inl is ↦ record { entry = entry 4 0 1; there = inl refl; sender = refl; moment = sym is }
      | inr not_4 ↦ elim (cases_lt t 11) [
        | inl first ↦ absurd (wait due gap interval 3 13 sent refl 0 t (entry 4 0 1) 12 (inl refl) refl (omega arith) first (omega arith) refl m)
        | inr on ↦ elim (cases_eq t 11) [
          | inl is ↦ absurd (unready (subst (MayStart happens 0) is m))
          | inr not_11 ↦ record { entry = entry 12 0 1; there = inr (inr (inl refl)); sender = refl; moment = (let e : 12 ≡ t = omega arith in e) }
        ]
      ]
    ]

only_1 : (t : ℕ) → t < 13 → MayStart happens 1 t → HasEntry sent 1 t
only_1 t less m =
    let on_time : 7 ≤ t = m.due in
    elim (cases_eq t 7) [
      | inl is ↦ record { entry = entry 7 1 1; there = inr (inl refl); sender = refl; moment = sym is }
      | inr not_7 ↦ absurd (wait due gap interval 3 13 sent refl 1 t (entry 7 1 1) 13 (inr (inl refl)) refl (omega arith) (omega arith) (omega arith) refl m)
    ]

admissible : IsCourse tight happens
admissible = record {
  ordered = push (entry 4 0 1) second refl (push (entry 7 1 1) last refl ((λ y i. absurd i), tt));
  sent = λ x i. (
    ltb-true x.sender 2 (each_is (λ x. nat_lt x.sender 2) sent refl x i),
    ltb-true x.moment 13 (each_is (λ x. nat_lt x.moment 13) sent refl x i),
    leb-true 1 x.length (each_is (λ x. nat_le 1 x.length) sent refl x i),
    leb-true x.length 1 (each_is (λ x. nat_le x.length 1) sent refl x i),
  );
  exact = λ k t known less. (
    (λ h. (subst (λ i. MayStart happens k i) h.moment (subst (λ i. MayStart happens i h.entry.moment) h.sender (may h.entry h.there)), tt)),
    (λ m. of_two (λ i. MayStart happens i t → HasEntry sent i t) (only_0 t less) (only_1 t less) k known m.0),
  );
  own = λ x i. is_prompt x (some_length due gap interval 3 13 sent refl x i) x.sender 0 1 (omega arith);
  others = λ x n i. is_prompt x (some_length due gap interval 3 13 sent refl x i) n 0 1 (omega arith);
  tg_low = λ k a known fresh. omega arith;
  tg_high = λ k a known. omega arith;
  sg_low = λ k a known fresh. omega arith;
  sg_high = λ k a known. omega arith;
  ti_low = λ k a known. omega arith;
  ti_high = λ k a known. omega arith;
}

tight_begin : BeginsInTurn tight due due
tight_begin = record {
  first = record {
    opens = omega arith;
    synced = λ k some known. omega arith;
    apart = λ k known. of_two (λ i. suc i < 2 → due i + 1 + 0 + 1 ≤ due (suc i)) (λ l. omega arith) (λ l. absurd (omega arith)) k (omega arith) known;
  };
  round = omega arith;
  again = λ k known. of_two (λ i. due 1 + 0 < due i + interval i) (omega arith) (omega arith) k known;
}

tight_starts : Begins tight happens 0 due due
tight_starts = record { powered = λ k known. (omega arith, omega arith); due = λ k known. (omega arith, omega arith); still = λ n t low. refl }

abbrev tight_case : Case
tight_case = record { bus = tight; c = happens; soon = due; late = due; ok = admissible; even = λ k known. refl; begins = tight_starts }

tight_order : NoneOvertaken tight
tight_order i j k known low less high close =
    let j_is : j ≡ i = omega arith in
    let k_is : k ≡ i + 1 = omega arith in
    subst (λ l. tight.ti_long (who tight i) + slowest tight i l + 0 < tight.ti_short (who tight k) + fastest tight i k) (sym j_is)
    (subst (λ l. tight.ti_long (who tight i) + slowest tight i i + 0 < tight.ti_short (who tight l) + fastest tight i l) (sym k_is)
    (of_two (λ i. tight.ti_long (who tight i) + slowest tight i i + 0 < tight.ti_short (who tight (i + 1)) + fastest tight i (i + 1)) (omega arith) (omega arith) i known))

tight_hears : HearsOut tight
tight_hears = record {
  some = omega arith;
  lasting = λ k known. (omega arith, omega arith);
  whole = λ k known. omega arith;
  heard = λ k known. omega arith;
}

pub one_tick_is_late : OneTickIsLate
one_tick_is_late = record {
  case = tight_case;
  hearing = tight_hears;
  almost = record {
    gaps = λ j k one two. omega arith;
    room = λ k known. (let sum : sum_below tight.longest 2 ≡ 2 = refl in of_two (λ i. 2 + 2 * 3 + 1 + 1 * 0 ≤ interval i + 2) (omega arith) (omega arith) k known);
  };
  order = tight_order;
  begin = tight_begin;
  n = 2;
  there = omega arith;
  waits = λ h. elim (h.1 (omega arith)) [ inl own ↦ (let bad : 12 ≤ 4 + 7 = own in omega arith) | inr prev ↦ (let bad : 12 ≤ 8 + 0 + 1 = prev in omega arith) ];
}

-- ---- and where the first sender leads

tight_leads : AlmostLeads tight due due (λ k. 3 * k) 0 1
tight_leads = record {
  hearing = tight_hears;
  clock = λ k some known. omega arith;
  offsets = record {
    first = λ k some known. (let e : k ≡ 1 = omega arith in subst (λ i. due i ≤ 4 + 3 * i) (sym e) (omega arith));
    steps = λ k known. omega arith;
  };
  order = λ i j k low less known close.
      let i_is : i ≡ 0 = omega arith in
      let j_is : j ≡ 0 = omega arith in
      let k_is : k ≡ 1 = omega arith in
      subst (λ l. 7 + slowest tight l j + 0 < 7 + fastest tight l k + 0) (sym i_is)
      (subst (λ l. 7 + slowest tight 0 l + 0 < 7 + fastest tight 0 k + 0) (sym j_is) (subst (λ l. 7 + slowest tight 0 0 + 0 < 7 + fastest tight 0 l + 0) (sym k_is) (omega arith)));
  opening = omega arith;
  room = λ k some known. omega arith;
  begin = tight_begin.first;
}

pub one_tick_held : OneTickHeld
one_tick_held = record {
  case = tight_case;
  offset = λ k. 3 * k;
  almost = tight_leads;
  n = 2;
  there = omega arith;
  mine = refl;
  on = omega arith;
  held = omega arith;
}
