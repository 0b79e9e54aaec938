-- A fault may change nothing: a course goes on behind any moment as a bus does behind a fault, with what its timers have left there.
use Rattle.std.proofs.Common.{◌≡◌, ℕ, zero, suc, ◌+◌, ◌-◌, ◌<◌, ◌≤◌, ◌⊎◌, Bool, true, false, ◌&&◌, cond, eqb, inl, inr, arith, sym, refl, ap, subst, le-leb}
use Rattle.std.specs.Prelude.{nat_le}
use Rattle.std.proofs.lemmas.Bool.{cases_lt}
use Rattle.bus_clocks.specs.Buses.{Bus}
use Rattle.bus_clocks.specs.Entries.{Entry, In}
use Rattle.bus_clocks.specs.Courses.{Course, IsCourse, MayStart}
use Rattle.bus_clocks.specs.Faults.{CoursesGoOn, IsBehindFault, MayStartBehind, TimersLeft, rest_at, stands}
use Rattle.bus_clocks.proofs.Cuts.{Go, GoBehind, back_synced, back_waiting, begins_up, behind_of, go_of, may_of, q, start_up, state, sync_behind, there_synced, there_waiting}
use Rattle.bus_clocks.proofs.LastStarts.{find_last}
use Rattle.bus_clocks.proofs.Lists.{later_false}

and_false : (a b : Bool) → b ≡ false → a && b ≡ false
and_false true b no' = no'
and_false false b no' = refl

module _ (bus : Bus) (c : Course) (fault : ℕ) (ok : IsCourse bus c) (k : ℕ) (known : k < bus.senders) where
  module _ (old : c.up k ≤ fault) where
    -- it is over at moment `over`, if the sender hasn't started since the fault
    record Rest : Type 0 where
      over : ℕ
      due : c.due k ≤ over
      last : (x : Entry) → In x c.list → x.sender ≡ k → x.moment < fault
          → ((y : Entry) → In y c.list → y.sender ≡ k → y.moment < fault → y.moment ≤ x.moment) → x.moment + c.ti k x.moment ≤ over
      by : (t : ℕ) → c.due k ≤ t → ((x : Entry) → In x c.list → x.sender ≡ k → x.moment < fault
          → ((y : Entry) → In y c.list → y.sender ≡ k → y.moment < fault → y.moment ≤ x.moment) → x.moment + c.ti k x.moment ≤ t) → over ≤ t

    rest_of : Rest
    rest_of = elim (find_last c.list k fault) [
      | inl none ↦ record {
        over = c.due k;
        due = omega arith;
        last = λ x i mine less most. absurd (none x i mine less);
        by = λ t due each. due;
      }
      | inr p ↦
          let z_last : (x : Entry) → In x c.list → x.sender ≡ k → x.moment < fault
          → ((y : Entry) → In y c.list → y.sender ≡ k → y.moment < fault → y.moment ≤ x.moment) → x.moment + c.ti k x.moment ≤ p.0.moment + c.ti k p.0.moment = λ x i mine less most.
          (let one : x.moment ≤ p.0.moment = p.4 x i mine less in
          let two : p.0.moment ≤ x.moment = most p.0 p.1 p.2 p.3 in
          subst (λ n. n + c.ti k n ≤ p.0.moment + c.ti k p.0.moment) (let e : p.0.moment ≡ x.moment = omega arith in e)
          (let e : p.0.moment + c.ti k p.0.moment ≤ p.0.moment + c.ti k p.0.moment = omega arith in e)) in
          elim (cases_lt (c.due k) (p.0.moment + c.ti k p.0.moment)) [
            | inl less ↦ record {
              over = p.0.moment + c.ti k p.0.moment;
              due = omega arith;
              last = z_last;
              by = λ t due each. each p.0 p.1 p.2 p.3 p.4;
            }
            | inr more ↦ record {
              over = c.due k;
              due = omega arith;
              last = λ x i mine less most. (let l : x.moment + c.ti k x.moment ≤ p.0.moment + c.ti k p.0.moment = z_last x i mine less most in omega arith);
              by = λ t due each. due;
            }
          ]
    ]

    -- whoever starts behind the fault has waited for what ran there
    last_over : (n t : ℕ) → t ≤ n → fault ≤ t → MayStart c k t → (x : Entry) → In x c.list → x.sender ≡ k → x.moment < fault
        → ((y : Entry) → In y c.list → y.sender ≡ k → y.moment < fault → y.moment ≤ x.moment) → x.moment + c.ti k x.moment ≤ t
    last_over zero t low on s x i mine less most = absurd (omega arith)
    last_over (suc n) t low on s x i mine less most = elim (find_last c.list k t) [
      | inl none ↦ absurd (none x i mine (omega arith))
      | inr p ↦ elim (cases_lt p.0.moment fault) [
        | inl before ↦ s.interval x i mine (omega arith) (λ y j own early.
            (let high : y.moment ≤ p.0.moment = p.4 y j own early in
            let top : p.0.moment ≤ x.moment = most p.0 p.1 p.2 before in
            omega arith))
        | inr behind ↦
            let early : p.0.moment < t = p.3 in
            let l : x.moment + c.ti k x.moment ≤ p.0.moment = last_over n p.0.moment (omega arith) behind (may_of bus c fault ok k known p.0 p.1 p.2) x i mine less most in
            omega arith
      ]
    ]

    module _ (r : Rest) (left : TimersLeft) (is : left.rest k ≡ r.over - fault) where
      rest_is : rest_at c fault left k ≡ fault + left.rest k
      rest_is = ap (λ b. cond b (fault + left.rest k) (c.due k)) (le-leb (c.up k) fault old)

      may_there : (t : ℕ) → fault ≤ t → GoBehind bus c fault ok k known left t → MayStart c k t → MayStartBehind c fault left k t
      may_there t low g s =
          let by : r.over ≤ t = r.by t s.due (last_over t t (omega arith) low s) in
          let at : rest_at c fault left k ≡ fault + left.rest k = rest_is in
          record {
            sync = g.sync;
            synced = g.synced;
            none = g.none;
            from = g.from;
            begins = g.begins;
            quiet = g.quiet;
            terminal = g.terminal;
            due = omega arith;
            interval = λ x i mine on less most. s.interval x i mine less (λ y j own early. elim (cases_lt y.moment fault) [
              | inl before ↦ omega arith
              | inr behind ↦ most y j own behind early
            ]);
          }

      may_back : (t : ℕ) → fault ≤ t → Go bus c fault ok k known t → MayStartBehind c fault left k t → MayStart c k t
      may_back t low g s =
          let at : rest_at c fault left k ≡ fault + left.rest k = rest_is in
          let due : rest_at c fault left k ≤ t = s.due in
          let first : c.due k ≤ r.over = r.due in
          record {
            sync = g.sync;
            synced = g.synced;
            none = g.none;
            from = g.from;
            begins = g.begins;
            quiet = g.quiet;
            terminal = g.terminal;
            due = omega arith;
            interval = λ x i mine less most. elim (cases_lt x.moment fault) [
              | inr on ↦ s.interval x i mine on less (λ y j own behind early. most y j own early)
              | inl before ↦
                  let l : x.moment + c.ti k x.moment ≤ r.over = r.last x i mine before (λ y j own early. most y j own (omega arith)) in
                  omega arith
            ];
          }

  -- ---- what the timers of this sender have left at the fault
  record Left : Type 0 where
    wait : ℕ
    gap : ℕ
    rest : ℕ
    wait_high : wait ≤ bus.sg_long k
    gap_high : gap ≤ bus.tg_long k
    rest_high : rest ≤ bus.ti_long k
    there : (left : TimersLeft) (t : ℕ) → left.wait k ≡ wait → left.gap k ≡ gap → left.rest k ≡ rest → fault ≤ t → MayStart c k t → MayStartBehind c fault left k t
    back : (left : TimersLeft) (t : ℕ) → left.wait k ≡ wait → left.gap k ≡ gap → left.rest k ≡ rest → fault ≤ t → MayStartBehind c fault left k t → MayStart c k t

  left_old : c.up k ≤ fault → c.due k ≤ fault + bus.ti_long k → Left
  left_old old due =
      let r : Rest old = rest_of old in
      let brief : r.over ≤ fault + bus.ti_long k = r.by (fault + bus.ti_long k) due (λ x i mine less most. (let high : c.ti k x.moment ≤ bus.ti_long k = ok.ti_high k x.moment known in omega arith)) in
      let high_a : (q bus c fault ok k known old).from ≤ fault = (q bus c fault ok k known old).high in
      elim (state bus c fault ok k known old) [
        | inl s ↦
            let near : s.over ≤ fault + bus.tg_long k = s.near in
            record {
              wait = 0;
              gap = s.over - fault;
              rest = r.over - fault;
              wait_high = omega arith;
              gap_high = omega arith;
              rest_high = omega arith;
              there = λ left t w g i low m. may_there old r left i t low (there_synced bus c fault ok k known old s left w g t low (go_of bus c fault ok k known t m)) m;
              back = λ left t w g i low m. may_back old r left i t low (back_synced bus c fault ok k known old s left w g t low (behind_of bus c fault ok k known left t m)) m;
            }
        | inr s ↦
            let long : c.sg k (q bus c fault ok k known old).from ≤ bus.sg_long k = ok.sg_high k (q bus c fault ok k known old).from known in
            record {
              wait = (q bus c fault ok k known old).from + c.sg k (q bus c fault ok k known old).from - fault;
              gap = 0;
              rest = r.over - fault;
              wait_high = omega arith;
              gap_high = omega arith;
              rest_high = omega arith;
              there = λ left t w g i low m. may_there old r left i t low (there_waiting bus c fault ok k known old s left w t low (go_of bus c fault ok k known t m)) m;
              back = λ left t w g i low m. may_back old r left i t low (back_waiting bus c fault ok k known old s left w t low (behind_of bus c fault ok k known left t m)) m;
            }
      ]

  left_new : fault < c.up k → Left
  left_new new =
      let not : (m : ℕ) → stands c fault k m ≡ false = λ m. and_false (eqb m fault) (nat_le (c.up k) fault) (later_false (c.up k) fault new) in
      record {
        wait = 0;
        gap = 0;
        rest = 0;
        wait_high = omega arith;
        gap_high = omega arith;
        rest_high = omega arith;
        there = λ left t w g i low m.
            let up : c.up k ≤ m.synced.from = begins_up bus c fault ok k known m.synced.from m.synced.begins in
            record {
              sync = m.sync;
              synced = sync_behind bus c fault ok k known left m.sync m.synced (omega arith);
              none = λ x j mine on less. m.none x j mine less;
              from = m.from;
              begins = m.begins;
              quiet = m.quiet;
              terminal = subst (λ n. m.from + n ≤ t) (sym (ap (λ b. cond b (left.gap k) (c.tg k m.from)) (not m.from))) m.terminal;
              due = subst (λ n. n ≤ t) (sym (ap (λ b. cond b (fault + left.rest k) (c.due k)) (later_false (c.up k) fault new))) m.due;
              interval = λ x j mine on less most. m.interval x j mine less (λ y l own early. (let up_y : c.up k ≤ y.moment = start_up bus c fault ok k known y l own in most y l own (omega arith) early));
            };
        back = λ left t w g i low m. record {
          sync = m.sync;
          synced = record {
            from = m.synced.from;
            begins = elim m.synced.begins [ inl p ↦ absurd (let bad : c.up k ≤ fault = p.1 in omega arith) | inr p ↦ p.1 ];
            quiet = m.synced.quiet;
            elapsed = subst (λ n. m.synced.from + n ≡ m.sync) (ap (λ b. cond b (left.wait k) (c.sg k m.synced.from)) (not m.synced.from)) m.synced.elapsed;
          };
          none = λ x j mine less. (let up_x : c.up k ≤ x.moment = start_up bus c fault ok k known x j mine in m.none x j mine (omega arith) less);
          from = m.from;
          begins = m.begins;
          quiet = m.quiet;
          terminal = subst (λ n. m.from + n ≤ t) (ap (λ b. cond b (left.gap k) (c.tg k m.from)) (not m.from)) m.terminal;
          due = subst (λ n. n ≤ t) (ap (λ b. cond b (fault + left.rest k) (c.due k)) (later_false (c.up k) fault new)) m.due;
          interval = λ x j mine less most. (let up_x : c.up k ≤ x.moment = start_up bus c fault ok k known x j mine in
              m.interval x j mine (omega arith) less (λ y l own on early. most y l own early));
        };
      }

  left_of : c.due k ≤ fault + bus.ti_long k → Left
  left_of due = elim (cases_lt fault (c.up k)) [ inl new ↦ left_new new | inr old ↦ left_old old due ]

module _ (bus : Bus) (c : Course) (fault : ℕ) (ok : IsCourse bus c) (due : (k : ℕ) → k < bus.senders → c.due k ≤ fault + bus.ti_long k) where
  -- of all senders, and nothing of others
  known_or : (k : ℕ) → (k < bus.senders) ⊎ (bus.senders ≤ k)
  known_or k = cases_lt k bus.senders

  wait_of : (k : ℕ) → (k < bus.senders) ⊎ (bus.senders ≤ k) → ℕ
  wait_of k (inl known) = (left_of bus c fault ok k known (due k known)).wait
  wait_of k (inr other) = 0

  gap_of : (k : ℕ) → (k < bus.senders) ⊎ (bus.senders ≤ k) → ℕ
  gap_of k (inl known) = (left_of bus c fault ok k known (due k known)).gap
  gap_of k (inr other) = 0

  rest_for : (k : ℕ) → (k < bus.senders) ⊎ (bus.senders ≤ k) → ℕ
  rest_for k (inl known) = (left_of bus c fault ok k known (due k known)).rest
  rest_for k (inr other) = 0

  abbrev left : TimersLeft
  left = record { wait = λ k. wait_of k (known_or k); gap = λ k. gap_of k (known_or k); rest = λ k. rest_for k (known_or k) }

  -- which timers they are of a sender
  record Told (k : ℕ) : Type 0 where
    known : k < bus.senders
    wait : left.wait k ≡ (left_of bus c fault ok k known (due k known)).wait
    gap : left.gap k ≡ (left_of bus c fault ok k known (due k known)).gap
    rest : left.rest k ≡ (left_of bus c fault ok k known (due k known)).rest

  told : (k : ℕ) → k < bus.senders → Told k
  unfolding wait_of gap_of rest_for
  told k known = elim (known_or k) as (λ o. (known_or k ≡ o) → Told k) [
    | inl w ↦ λ e. record { known = w; wait = ap (wait_of k) e; gap = ap (gap_of k) e; rest = ap (rest_for k) e }
    | inr other ↦ λ e. absurd (omega arith)
  ] refl

  goes_on : IsBehindFault bus c fault left
  goes_on = record {
    ordered = ok.ordered;
    sent = ok.sent;
    exact = λ k t known low soon.
        let w : Told k = told k known in
        let l : Left bus c fault ok k w.known = left_of bus c fault ok k w.known (due k w.known) in (
          (λ h. (let both = (ok.exact k t known soon).0 h in (l.there left t w.wait w.gap w.rest low both.0, both.1))),
          (λ both. (ok.exact k t known soon).1 (l.back left t w.wait w.gap w.rest low both.0, both.1)),
        );
    own = ok.own;
    others = ok.others;
    tg_low = λ k m known fresh not. ok.tg_low k m known fresh;
    tg_high = ok.tg_high;
    sg_low = λ k m known fresh not. ok.sg_low k m known fresh;
    sg_high = ok.sg_high;
    ti_low = ok.ti_low;
    ti_high = ok.ti_high;
    wait = λ k known. (let w : Told k = told k known in subst (λ n. n ≤ bus.sg_long k) (sym w.wait) (left_of bus c fault ok k w.known (due k w.known)).wait_high);
    gap = λ k known. (let w : Told k = told k known in subst (λ n. n ≤ bus.tg_long k) (sym w.gap) (left_of bus c fault ok k w.known (due k w.known)).gap_high);
    rest = λ k known. (let w : Told k = told k known in subst (λ n. n ≤ bus.ti_long k) (sym w.rest) (left_of bus c fault ok k w.known (due k w.known)).rest_high);
  }

pub courses_go_on : CoursesGoOn
courses_go_on bus c fault ok due = (left bus c fault ok due, goes_on bus c fault ok due)
