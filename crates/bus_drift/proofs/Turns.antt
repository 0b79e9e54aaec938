-- All take turns for ever: turn by turn, each knowing those before it.
use Rattle.std.proofs.Common.{◌≡◌, ℕ, zero, suc, ◌+◌, ◌-◌, ◌<◌, ◌≤◌, length, inl, inr, arith, sym, refl, ap, ◌∙◌, subst}
use Rattle.std.proofs.lemmas.Bool.{cases_lt, cases_eq}
use Rattle.std.proofs.Math.Nat.{mod-eq_of_lt}
use Rattle.bus_clocks.specs.Buses.{Bus}
use Rattle.bus_clocks.specs.Entries.{Entry, end_of}
use Rattle.bus_clocks.specs.Courses.{Course, IsCourse, HasMore}
use Rattle.bus_clocks.proofs.Timers.{may, heard_out, heard_out_own}
use Rattle.bus_drift.specs.InTurn.{IsDue, InTurn, TakeTurns}
use Rattle.bus_drift.specs.Room.{HearsOut}
use Rattle.bus_drift.specs.Turns.{who, turn}
use Rattle.bus_drift.proofs.Sums.{NextTurn, next_turn, turn_before}
use Rattle.bus_drift.proofs.Lists.{clear}
use Rattle.bus_drift.proofs.Turning.{Turning, Begun, Fact, ear, there, asc_own, interval_behind, spread}
use Rattle.bus_drift.proofs.Chains.{over}
use Rattle.bus_drift.proofs.Dues.{Due, due, Free, Ready, ready_first, in_time, at_end}

module _ (w : Turning) where
  abbrev bus : Bus
  bus = w.bus

  abbrev c : Course
  c = w.c

  abbrev up : ℕ
  up = w.up

  abbrev soon : ℕ → ℕ
  soon = w.soon

  abbrev late : ℕ → ℕ
  late = w.late

  abbrev sound : HearsOut bus
  sound = w.sound

  abbrev ok : IsCourse bus c
  ok = w.ok

  abbrev begun : Begun bus c up soon late
  begun = w.begun

  abbrev N : ℕ
  N = bus.senders

  abbrev len : ℕ
  len = length c.list

  -- when turn n begins and has ended
  abbrev s : ℕ → ℕ
  s n = (turn c n).moment

  abbrev e : ℕ → ℕ
  e n = end_of (turn c n)

  abbrev d : Entry
  d = record { moment = 0; sender = 0; length = 0 }

  module _ (n : ℕ) (upto : n ≤ len) (facts : (m : ℕ) → m < n → Fact w m) where
    -- whoever begins from turn n on has heard out the one before it
    after_last : (z : ℕ) → n ≤ z → z < len → 0 < n → e (n - 1) + bus.tg_short (turn c z).sender ≤ s z
    after_last z from within some =
        let f : Fact w (n - 1) = facts (n - 1) (omega arith) in
        let x = there w z within in
        let y = there w (n - 1) (omega arith) in
        let whole : bus.drop ≤ bus.tg_short (turn c z).sender = sound.whole (turn c z).sender (ok.sent (turn c z) x).0 in
        elim (cases_eq (turn c z).sender (who bus (n - 1))) [
          | inl own ↦ elim (heard_out_own (ear w) (turn c z) (turn c (n - 1)) x y whole (f.sender ∙ sym own)) [
            | inr fine ↦ fine
            | inl early ↦ (let l : s (n - 1) < s z = asc_own w (n - 1) z (omega arith) within (f.sender ∙ sym own) in absurd (omega arith))
          ]
          | inr other ↦ elim (heard_out (ear w) (turn c z) (turn c (n - 1)) x y whole) [
            | inr fine ↦ fine
            | inl early ↦ (let l : s (n - 1) + bus.delay < s z = f.later z (omega arith) within other in absurd (omega arith))
          ]
        ]

    module _ (m : ℕ) (du : Due w n upto facts m) where
      -- ---- and nobody else so early

      -- turn z is of the sender whose next turn is q
      module _ (z q : ℕ) (from : n ≤ z) (within : z < len) (low : n < q) (high : q < n + N) (mine : (turn c z).sender ≡ who bus q) where
        -- a transmit interval behind its sender's last turn
        pub behind_own : N ≤ q → s (q - N) + bus.ti_short (who bus q) ≤ s z
        behind_own on =
            let f : Fact w (q - N) = facts (q - N) (omega arith) in
            let same : (turn c (q - N)).sender ≡ who bus q = f.sender ∙ turn_before N q on in
            subst (λ k. s (q - N) + bus.ti_short k ≤ s z) mine
            (interval_behind w (q - N) (z - (q - N)) z (omega arith) (let any : 0 < N = sound.some in omega arith) within (same ∙ sym mine))

        pub behind_last : 0 < n → e (n - 1) + bus.tg_short (who bus q) ≤ s z
        behind_last some = subst (λ k. e (n - 1) + bus.tg_short k ≤ s z) mine (after_last z from within some)

        -- in the first round they are due one behind the other
        pub in_first : n < N → q < N → m + bus.delay < s z
        in_first less first =
            let f : m ≡ late n = du.first less in
            let positive : 0 < bus.longest n = (sound.lasting n less).0 in
            let one : c.due (turn c z).sender ≤ s z = (may (ear w) (turn c z) (there w z within)).due in
            let two : c.due (turn c z).sender ≡ c.due q = ap c.due (mine ∙ mod-eq_of_lt first) in
            let three : soon q ≤ c.due q = (begun.due q first).0 in
            let four : late n + bus.longest n + bus.delay + bus.tg_long (suc n) ≤ soon q = spread w n q low first in
            omega arith

      -- moment m has been heard before anybody whose next turn isn't n begins
      abbrev pub Past : Type 0
      Past = (z q : ℕ) → n ≤ z → z < len → n < q → q < n + N → (turn c z).sender ≡ who bus q → m + bus.delay < s z

      others_later : Past → (z : ℕ) → n ≤ z → z < len → ((turn c z).sender ≡ who bus n → ⊥) → m + bus.delay < s z
      others_later past z from within other =
          let t : NextTurn N (turn c z).sender n = next_turn N (turn c z).sender n (ok.sent (turn c z) (there w z within)).0 in
          let low : n ≤ t.at = t.low in
          past z t.at from within (elim (cases_eq t.at n) [
            | inl same ↦ absurd (other (sym t.is ∙ ap (who bus) same))
            | inr apart ↦ omega arith
          ]) t.high (sym t.is)

      -- ---- turn n

      mine_is : (Free w n upto facts m du → Ready w n upto facts m du) → Past → n < len → (turn c n).sender ≡ who bus n
      mine_is sync past less = elim (cases_eq (turn c n).sender (who bus n)) [
        | inl same ↦ same
        | inr other ↦
            let a : m + bus.delay < s n = others_later past n (omega arith) less other in
            let b : s n ≤ m = in_time w n upto facts m du sync less in
            absurd (omega arith)
      ]

      fact : (Free w n upto facts m du → Ready w n upto facts m du) → Past → n < len → Fact w n
      fact sync past less =
          let mine : (turn c n).sender ≡ who bus n = mine_is sync past less in
          let by : s n ≤ m = in_time w n upto facts m du sync less in
          record {
            sender = mine;
            gap = λ some. subst (λ k. e (n - 1) + bus.tg_short k ≤ s n) mine (after_last n (omega arith) less some);
            held = ((λ early. let q : m ≡ late n = du.first early in omega arith), (λ on. elim (du.is on) [ inl own ↦ inl (omega arith) | inr prev ↦ inr (omega arith) ]));
            first = λ early.
                let one : c.due (turn c n).sender ≤ s n = (may (ear w) (turn c n) (there w n less)).due in
                let two : c.due (turn c n).sender ≡ c.due n = ap c.due (mine ∙ mod-eq_of_lt early) in
                let three : soon n ≤ c.due n = (begun.due n early).0 in
                omega arith;
            interval = λ on.
                let any : 0 < N = sound.some in
                let f : Fact w (n - N) = facts (n - N) (omega arith) in
                let same : (turn c (n - N)).sender ≡ who bus n = f.sender ∙ turn_before N n on in
                subst (λ k. s (n - N) + bus.ti_short k ≤ s n) mine (interval_behind w (n - N) N n (omega arith) (omega arith) less (same ∙ sym mine));
            later = λ z behind within other. (let l : m + bus.delay < s z = others_later past z (omega arith) within other in omega arith);
          }

      ended : (Free w n upto facts m du → Ready w n upto facts m du) → n ≡ len → (j : ℕ) → j < N → HasMore c j → IsDue bus c late len c.horizon
      ended sync is j known more = subst (λ i. IsDue bus c late i c.horizon) is (
        (λ early. let q : m ≡ late n = du.first early in let h : c.horizon ≤ m = at_end w n upto facts m du sync is j known more in omega arith),
        (λ on. let h : c.horizon ≤ m = at_end w n upto facts m du sync is j known more in elim (du.is on) [ inl own ↦ inl (omega arith) | inr prev ↦ inr (omega arith) ]),
      )

  -- ---- all turns

  -- from the second round on whose turn it is is in sync in time
  abbrev pub InSync : Type 0
  InSync =
      (n : ℕ) (upto : n ≤ len) (facts : (m : ℕ) → m < n → Fact w m) (m : ℕ) (du : Due w n upto facts m) → Free w n upto facts m du → N ≤ n
      → Ready w n upto facts m du

  -- and is heard before anybody else begins
  abbrev pub IsFirst : Type 0
  IsFirst = (n : ℕ) (upto : n ≤ len) (facts : (m : ℕ) → m < n → Fact w m) (m : ℕ) (du : Due w n upto facts m) → Past n upto facts m du

  module _ (in_sync : InSync) (is_first : IsFirst) where
    ready_all : (n : ℕ) (upto : n ≤ len) (facts : (m : ℕ) → m < n → Fact w m) (m : ℕ) (du : Due w n upto facts m) → Free w n upto facts m du → Ready w n upto facts m du
    ready_all n upto facts m du free = elim (cases_lt n N) [
      | inl less ↦ ready_first w n upto facts m du free less
      | inr on ↦ in_sync n upto facts m du free on
    ]

    below : (n : ℕ) → n ≤ len → (m : ℕ) → m < n → Fact w m
    below zero upto m less = absurd (omega arith)
    below (suc n) upto m less = elim (cases_eq m n) [
      | inr other ↦ below n (omega arith) m (omega arith)
      | inl same ↦
          let l : n ≤ len = omega arith in
          let before : (i : ℕ) → i < n → Fact w i = below n l in
          let v = due w n l before in
          subst (Fact w) (sym same) (fact n l before v.0 v.1 (ready_all n l before v.0 v.1) (is_first n l before v.0 v.1) (omega arith))
    ]

    pub facts_all : (m : ℕ) → m < len → Fact w m
    facts_all m less = below len (omega arith) m less

    in_turn : (n : ℕ) → n < len → InTurn bus c soon late n
    in_turn n less =
        let f : Fact w n = facts_all n less in
        record { sender = f.sender; gap = f.gap; held = f.held; first = f.first; interval = f.interval }

    whole_list : (j : ℕ) → j < N → HasMore c j → IsDue bus c late len c.horizon
    whole_list j known more =
        let l : len ≤ len = omega arith in
        let v = due w len l facts_all in
        ended len l facts_all v.0 v.1 (ready_all len l facts_all v.0 v.1) refl j known more

    pub all : TakeTurns bus c soon late
    all = record {
      turns = in_turn;
      whole = whole_list;
      clear = clear bus.delay c.list d (λ m n less on. over w len (omega arith) facts_all m n less on);
    }
