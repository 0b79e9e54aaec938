-- When turn n is due at the latest, and that it begins by then: its sender is in sync, its terminal gap has elapsed, and it has a message
-- left.
use Rattle.std.proofs.Common.{◌≡◌, ℕ, suc, ◌+◌, ◌-◌, ◌<◌, ◌≤◌, ◌⊎◌, length, inl, inr, arith, sym, refl, ap, ◌∙◌}
use Rattle.std.proofs.lemmas.Bool.{cases_lt, cases_eq}
use Rattle.std.proofs.Math.Nat.{mod-eq_of_lt}
use Rattle.bus_clocks.specs.Buses.{Bus}
use Rattle.bus_clocks.specs.Entries.{Entry, end_of, In, own}
use Rattle.bus_clocks.specs.Courses.{Course, IsCourse, IsQuiet, SyncAt, HasEntry, HasLeft, HasMore}
use Rattle.bus_clocks.proofs.Hands.{left_by, own_most}
use Rattle.bus_clocks.proofs.Timers.{is_quiet_own, may, Synced, sync_must, start_due}
use Rattle.bus_drift.specs.Room.{HearsOut}
use Rattle.bus_drift.specs.Turns.{who, turn}
use Rattle.bus_drift.proofs.Sums.{turn_before, turns_differ}
use Rattle.bus_drift.proofs.Lists.{Place, place}
use Rattle.bus_drift.proofs.Left.{left_too}
use Rattle.bus_drift.proofs.Turning.{Turning, Begun, Fact, top, ear, is_one, there, asc, soon_late, soon_least, spread, some_long, powered}
use Rattle.bus_drift.proofs.Chains.{at_most, over}

module _ (w : Turning) where
  abbrev bus : Bus
  bus = w.bus

  abbrev c : Course
  c = w.c

  abbrev up : ℕ
  up = w.up

  abbrev soon : ℕ → ℕ
  soon = w.soon

  abbrev late : ℕ → ℕ
  late = w.late

  abbrev sound : HearsOut bus
  sound = w.sound

  abbrev ok : IsCourse bus c
  ok = w.ok

  abbrev begun : Begun bus c up soon late
  begun = w.begun

  abbrev N : ℕ
  N = bus.senders

  abbrev len : ℕ
  len = length c.list

  -- when turn n begins and has ended
  abbrev s : ℕ → ℕ
  s n = (turn c n).moment

  abbrev e : ℕ → ℕ
  e n = end_of (turn c n)

  abbrev d : Entry
  d = record { moment = 0; sender = 0; length = 0 }

  module _ (n : ℕ) (upto : n ≤ len) (facts : (m : ℕ) → m < n → Fact w m) where
    -- ---- when turn n is due

    pub record Due (m : ℕ) : Type 0 where
      pub own : N ≤ n → s (n - N) + bus.ti_long (who bus n) ≤ m
      pub prev : 0 < n → e (n - 1) + bus.delay + bus.tg_long (who bus n) ≤ m
      pub first : n < N → m ≡ late n
      pub is : N ≤ n → (m ≡ s (n - N) + bus.ti_long (who bus n)) ⊎ (m ≡ e (n - 1) + bus.delay + bus.tg_long (who bus n))

    pub due : (m : ℕ) × Due m
    due = elim (cases_lt n N) [
      | inl first ↦ (
        late n,
        record {
          own = λ on. absurd (omega arith);
          prev = λ some.
              let f : Fact w (n - 1) = facts (n - 1) (omega arith) in
              let at : s (n - 1) ≤ late (n - 1) = f.held.0 (omega arith) in
              let q : suc (n - 1) ≡ n = omega arith in
              let l : late (n - 1) + bus.longest (n - 1) + bus.delay + bus.tg_long (suc (n - 1)) ≤ soon (suc (n - 1)) = begun.apart (n - 1) (omega arith) in
              let one : bus.tg_long (suc (n - 1)) ≡ bus.tg_long (who bus n) = ap bus.tg_long (q ∙ sym (mod-eq_of_lt first)) in
              let two : soon (suc (n - 1)) ≡ soon n = ap soon q in
              let three : bus.longest (who bus (n - 1)) ≡ bus.longest (n - 1) = ap bus.longest (mod-eq_of_lt (let i : n - 1 < N = omega arith in i)) in
              let long : (turn c (n - 1)).length ≤ bus.longest (who bus (n - 1)) = at_most w n upto facts (n - 1) (omega arith) in
              let fine : soon n ≤ late n = soon_late w n first in
              omega arith;
          first = λ _. refl;
          is = λ on. absurd (omega arith);
        },
      )
      | inr on ↦
          let t = top (s (n - N) + bus.ti_long (who bus n)) (e (n - 1) + bus.delay + bus.tg_long (who bus n)) in
          (t.0, record { own = λ _. t.1; prev = λ _. t.2; first = λ less. absurd (omega arith); is = λ _. t.3 })
    ]

    module _ (m : ℕ) (du : Due m) where
      -- by moment v all before have been heard, and a terminal gap passes from there on
      pub record Rest (v : ℕ) : Type 0 where
        pub since : up ≤ v
        pub room : v + bus.tg_long (who bus n) ≤ m
        pub ended : (p : ℕ) → p < n → e p + bus.delay ≤ v

      pub up_before : (p : ℕ) → p < n → up ≤ s p
      up_before p less =
          let l : s 0 ≤ s p = asc w 0 p (omega arith) (omega arith) in
          let f : soon 0 ≤ s 0 = (facts 0 (omega arith)).first (omega arith) in
          let u : up ≤ soon 0 = begun.after in
          omega arith

      powered_before : (p : ℕ) → p < n → c.up (who bus n) ≤ s p
      powered_before p less =
          let l : s 0 ≤ s p = asc w 0 p (omega arith) (omega arith) in
          let f : Fact w 0 = facts 0 (omega arith) in
          let any : 0 < N = sound.some in
          elim (cases_eq (who bus n) 0) [
            | inl first ↦
                let own : c.up (turn c 0).sender ≤ s 0 = powered w (turn c 0) (there w 0 (omega arith)) in
                let same : (turn c 0).sender ≡ who bus n = f.sender ∙ mod-eq_of_lt any ∙ sym first in
                let up_is : c.up (turn c 0).sender ≡ c.up (who bus n) = ap c.up same in
                omega arith
            | inr other ↦
                let on : soon 0 ≤ s 0 = f.first any in
                let u : c.up (who bus n) + bus.sg_long (who bus n) ≤ soon 0 = begun.synced (who bus n) (omega arith) (is_one w n) in
                omega arith
          ]

      pub rest : (v : ℕ) × Rest v
      rest = elim (cases_eq n 0) [
        | inl none ↦
            let any : 0 < N = sound.some in
            let u : c.up 0 + bus.sg_long 0 + bus.tg_long 0 ≤ late 0 = begun.opens in
            let low : up ≤ c.up 0 = begun.powered 0 any in
            let gap : bus.tg_long (who bus n) ≡ bus.tg_long 0 = ap bus.tg_long (ap (who bus) none ∙ mod-eq_of_lt any) in
            let f : m ≡ late n = du.first (omega arith) in
            let q : late n ≡ late 0 = ap late none in
            (up, record { since = omega arith; room = omega arith; ended = λ p less. absurd (omega arith) })
        | inr some ↦
            let prev : e (n - 1) + bus.delay + bus.tg_long (who bus n) ≤ m = du.prev (omega arith) in
            let before : up ≤ s (n - 1) = up_before (n - 1) (omega arith) in (
              e (n - 1) + bus.delay,
              record {
                since = omega arith;
                room = omega arith;
                ended = λ p less. elim (cases_eq p (n - 1)) [
                  | inl same ↦ (let q : e p ≡ e (n - 1) = ap e same in omega arith)
                  | inr other ↦ (let o : e p + bus.delay ≤ s (n - 1) = over w n upto facts p (n - 1) (omega arith) (omega arith) in omega arith)
                ];
              },
            )
      ]

      -- its sender's last turn was a round before
      pub own_before : (p : ℕ) → p < n → (turn c p).sender ≡ who bus n → p + N ≤ n
      own_before p less mine = elim (cases_lt n (p + N)) [
        | inr fine ↦ fine
        | inl near ↦ absurd (turns_differ N p n sound.some less near (sym (facts p less).sender ∙ mine))
      ]

      abbrev k : ℕ
      k = who bus n

      -- it is in sync behind its last turn, and its terminal gap passes from there on
      pub record Ready : Type 0 where
        pub at : ℕ
        pub by : at + bus.tg_long k ≤ m
        pub sync : SyncAt c k at
        pub none : (x : Entry) → In x c.list → x.sender ≡ k → x.moment < m → x.moment < at

      -- all before begin before moment m
      before : (p : ℕ) → p < n → s p < m
      before p less =
          let prev : e (n - 1) + bus.delay + bus.tg_long (who bus n) ≤ m = du.prev (omega arith) in
          let some : 0 < (turn c (n - 1)).length = some_long w (n - 1) (omega arith) in
          let l : s p ≤ s (n - 1) = asc w p (n - 1) (omega arith) (omega arith) in
          omega arith

      -- somebody has a message left
      abbrev pub Wanted : Type 0
      Wanted = (j : ℕ) × (j < N) × HasLeft c j m

      -- nobody begins before moment m from turn n on
      abbrev pub Free : Type 0
      Free = (z : ℕ) → n ≤ z → z < len → m ≤ s z

      module _ (free : Free) where
        -- each has ended before, or begins later
        pub split : (x : Entry) → In x c.list → ((p : ℕ) × (p < n) × (x ≡ turn c p)) ⊎ (m ≤ x.moment)
        split x i =
            let p : Place c.list d x = place c.list d x i in
            let at : x.moment ≡ s p.at = ap (λ (z : Entry). z.moment) p.is in
            elim (cases_lt p.at n) [
              | inl less ↦ inl (p.at, less, p.is)
              | inr on ↦ (let l : m ≤ s p.at = free p.at on p.less in inr (omega arith))
            ]

        -- ---- its sender is in sync

        -- a synchronization behind its sender's last turn
        pub ready : (b : ℕ) → Synced (ear w) k b b → b + bus.tg_long k ≤ m → ((p : ℕ) → p < n → p + N ≤ n → s p < b) → Ready
        ready b y fits behind =
            let by : y.at ≤ b = y.by in
            record {
              at = y.at;
              by = omega arith;
              sync = y.sync;
              none = λ x i mine less. elim (split x i) [
                | inl p ↦
                    let one : (turn c p.0).sender ≡ k = ap (λ (z : Entry). z.sender) (sym p.2) ∙ mine in
                    let two : x.moment ≡ s p.0 = ap (λ (z : Entry). z.moment) p.2 in
                    let far : s p.0 < b = behind p.0 p.1 (own_before p.0 p.1 one) in
                    y.none x i mine (omega arith)
                | inr far ↦ absurd (omega arith)
              ];
            }

        -- from its power-up on, before the first sender's first start, or its own if it is the first
        synced_first : n < N → (c.up k + bus.sg_long k + bus.tg_long k ≤ m) × (0 < n → c.up k + bus.sg_long k ≤ soon 0)
        synced_first less =
            let is : k ≡ n = mod-eq_of_lt less in
            let f : m ≡ late n = du.first less in
            elim (cases_eq n 0) [
              | inl none ↦
                  let u : c.up 0 + bus.sg_long 0 + bus.tg_long 0 ≤ late 0 = begun.opens in
                  let same : c.up k + bus.sg_long k + bus.tg_long k ≡ c.up 0 + bus.sg_long 0 + bus.tg_long 0 =
                  ap (λ i. c.up i + bus.sg_long i + bus.tg_long i) (is ∙ none) in
                  let q : late n ≡ late 0 = ap late none in
                  ((omega arith), (λ some. absurd (omega arith)))
              | inr other ↦
                  let u : c.up k + bus.sg_long k ≤ soon 0 = begun.synced k (omega arith) (is_one w n) in
                  let next : suc (n - 1) ≡ n = omega arith in
                  let one : late (n - 1) + bus.longest (n - 1) + bus.delay + bus.tg_long (suc (n - 1)) ≤ soon n = spread w (n - 1) n (omega arith) less in
                  let gap : bus.tg_long (suc (n - 1)) ≡ bus.tg_long k = ap bus.tg_long (next ∙ sym is) in
                  let least : soon 0 ≤ soon (n - 1) = soon_least w (n - 1) (omega arith) in
                  let fine : soon (n - 1) ≤ late (n - 1) = soon_late w (n - 1) (omega arith) in
                  let l : soon n ≤ late n = soon_late w n less in
                  ((omega arith), (λ some. u))
            ]

        pub ready_first : n < N → Ready
        ready_first less =
            let low : up ≤ c.up k = begun.powered k (is_one w n) in
            let fits = synced_first less in
            let quiet : IsQuiet c k (c.up k) (c.up k + bus.sg_long k) = is_quiet_own (ear w) k (c.up k) (c.up k + bus.sg_long k) low (λ x i. elim (split x i) [
              | inl p ↦
                  let two : x.moment ≡ s p.0 = ap (λ (z : Entry). z.moment) p.2 in
                  let q : p.0 < n = p.1 in
                  let a : s 0 ≤ s p.0 = asc w 0 p.0 (omega arith) (omega arith) in
                  let b : soon 0 ≤ s 0 = (facts 0 (omega arith)).first sound.some in
                  let g : c.up k + bus.sg_long k ≤ soon 0 = fits.1 (omega arith) in
                  inl (omega arith)
              | inr far ↦ (let g : c.up k + bus.sg_long k + bus.tg_long k ≤ m = fits.0 in inl (omega arith))
            ]) in
            ready (c.up k + bus.sg_long k) (sync_must (ear w) k (c.up k) (c.up k + bus.sg_long k) (is_one w n) (omega arith) (omega arith) quiet) fits.0
            (λ p q r. absurd (omega arith))

        -- a quiet behind turn b, from moment f on
        pub quiet_behind : N ≤ n → (b f u : ℕ) → n - N ≤ b → b < n → e b ≤ f → (f ≡ e b + bus.delay) ⊎ (b ≡ n - N) → u ≤ m → ((p : ℕ) → b < p → p < n → u ≤ s p) → IsQuiet c k f u
        quiet_behind on b f u low less from is within next =
            let before : up ≤ s b = up_before b less in
            is_quiet_own (ear w) k f u (omega arith) (λ x i. elim (split x i) [
              | inr far ↦ inl (omega arith)
              | inl p ↦
                  let two : x.moment ≡ s p.0 = ap (λ (z : Entry). z.moment) p.2 in
                  let three : end_of x ≡ e p.0 = ap end_of p.2 in
                  elim (cases_lt b p.0) [
                    | inl later ↦ (let l : u ≤ s p.0 = next p.0 later p.1 in inl (omega arith))
                    | inr by ↦ elim (cases_eq p.0 b) [
                      | inr other ↦ (let o : e p.0 + bus.delay ≤ s b = over w n upto facts p.0 b (omega arith) less in inr (inl (omega arith)))
                      | inl same ↦
                          let four : e p.0 ≡ e b = ap e same in
                          elim is [
                            | inl far ↦ inr (inl (omega arith))
                            | inr own ↦
                                let sender : x.sender ≡ k = ap (λ (z : Entry). z.sender) p.2 ∙ (facts p.0 p.1).sender ∙ ap (who bus) (same ∙ own) ∙ turn_before N n on in
                                inr (inr (sender, omega arith))
                          ]
                    ]
                  ]
            ])

        -- a quiet that is long enough, from moment f on until turn b + 1
        pub long_quiet : N ≤ n → (b f : ℕ) → n - N ≤ b → suc b < n → e b ≤ f → (f ≡ e b + bus.delay) ⊎ (b ≡ n - N) → f + bus.sg_long k ≤ s (suc b) → Ready
        long_quiet on b f low less from is fits =
            let prev : e (n - 1) + bus.delay + bus.tg_long k ≤ m = du.prev (omega arith) in
            let l : s (suc b) ≤ s (n - 1) = asc w (suc b) (n - 1) (omega arith) (omega arith) in
            let before : up ≤ s b = up_before b (omega arith) in
            let powered : c.up k ≤ s b = powered_before b (omega arith) in
            let long : 0 < (turn c b).length = some_long w b (omega arith) in
            ready (s (suc b)) (sync_must (ear w) k f (s (suc b)) (is_one w n) (omega arith) fits
            (quiet_behind on b f (s (suc b)) low (omega arith) from is (omega arith) (λ p q r. asc w (suc b) p (omega arith) (omega arith)))) (omega arith)
            (λ p q r. (let g : s p ≤ s b = asc w p b (omega arith) (omega arith) in omega arith))

        -- and one behind the last turn, from moment f on, behind which its terminal gap passes too
        pub ready_from : N ≤ n → (f : ℕ) → e (n - 1) ≤ f → (f ≡ e (n - 1) + bus.delay) ⊎ (n - 1 ≡ n - N) → f + bus.sg_long k + bus.tg_long k ≤ m → Ready
        ready_from on f from is quiet =
            let any : 0 < N = sound.some in
            let before : up ≤ s (n - 1) = up_before (n - 1) (omega arith) in
            let some : 0 < (turn c (n - 1)).length = some_long w (n - 1) (omega arith) in
            let powered : c.up k ≤ s (n - 1) = powered_before (n - 1) (omega arith) in
            ready (f + bus.sg_long k)
            (sync_must (ear w) k f (f + bus.sg_long k) (is_one w n) (omega arith) (omega arith)
            (quiet_behind on (n - 1) f (f + bus.sg_long k) (omega arith) (omega arith) from is (omega arith) (λ p q r. absurd (omega arith)))) quiet
            (λ p q r. (let g : s p ≤ s (n - 1) = asc w p (n - 1) (omega arith) (omega arith) in omega arith))

        pub ready_last : N ≤ n → e (n - 1) + bus.delay + bus.sg_long k + bus.tg_long k ≤ m → Ready
        ready_last on quiet = ready_from on (e (n - 1) + bus.delay) (omega arith) (inl refl) quiet

        -- and has a message left, where anybody has
        has_left : Wanted → HasLeft c k m
        has_left wanted =
            left_too c N m n wanted.0 upto sound.some wanted.1 (λ j known. w.even j known) (λ p less. ((facts p less).sender, before p less)) free wanted.2

        -- so it starts then at the latest
        must : Ready → Wanted → m < c.horizon → HasEntry c.list k m
        must r wanted soon_enough =
            let v = rest in
            let since : up ≤ v.0 = v.1.since in
            let room : v.0 + bus.tg_long k ≤ m = v.1.room in
            let by : r.at + bus.tg_long k ≤ m = r.by in
            let t = top r.at v.0 in
            let low : r.at ≤ t.0 = t.1 in
            let high : v.0 ≤ t.0 = t.2 in
            start_due (ear w) k r.at t.0 m (is_one w n) r.sync r.none low (elim t.3 [ inl is ↦ omega arith | inr is ↦ omega arith ]) soon_enough
            (is_quiet_own (ear w) k t.0 m (omega arith) (λ x i. elim (split x i) [
              | inl p ↦
                  let over : e p.0 + bus.delay ≤ v.0 = v.1.ended p.0 p.1 in
                  let three : end_of x ≡ e p.0 = ap end_of p.2 in
                  inr (inl (omega arith))
              | inr far ↦ inl (omega arith)
            ])) (has_left wanted) (elim (cases_lt n N) [
              | inl less ↦
                  let one : c.due n ≤ late n = (begun.due n less).1 in
                  let two : c.due k ≡ c.due n = ap c.due (mod-eq_of_lt less) in
                  let f : m ≡ late n = du.first less in
                  omega arith
              | inr on ↦
                  let any : 0 < N = sound.some in
                  let f : Fact w (n - N) = facts (n - N) (omega arith) in
                  let own : s (n - N) + bus.ti_long k ≤ m = du.own on in
                  let sender : (turn c (n - N)).sender ≡ k = f.sender ∙ turn_before N n on in
                  let one : c.due (turn c (n - N)).sender ≤ s (n - N) = (may (ear w) (turn c (n - N)) (there w (n - N) (omega arith))).due in
                  let two : c.due (turn c (n - N)).sender ≡ c.due k = ap c.due sender in
                  omega arith
            ]) (λ x i mine less. elim (split x i) [
              | inr far ↦ absurd (omega arith)
              | inl p ↦
                  let one : (turn c p.0).sender ≡ k = ap (λ (z : Entry). z.sender) (sym p.2) ∙ mine in
                  let two : x.moment ≡ s p.0 = ap (λ (z : Entry). z.moment) p.2 in
                  let far : p.0 + N ≤ n = own_before p.0 p.1 one in
                  let own : s (n - N) + bus.ti_long k ≤ m = du.own (omega arith) in
                  let any : 0 < N = sound.some in
                  let g : s p.0 ≤ s (n - N) = asc w p.0 (n - N) (omega arith) (omega arith) in
                  omega arith
            ])

      -- nobody begins as late as moment m, or the horizon isn't behind it
      by_due : (Free → Ready) → Wanted → ((z : ℕ) → n ≤ z → z < len → m < s z) → c.horizon ≤ m
      by_due sync wanted none = elim (cases_lt m c.horizon) [
        | inr fine ↦ fine
        | inl soon_enough ↦
            let free : Free = λ z low less. (let l : m < s z = none z low less in omega arith) in
            let h : HasEntry c.list (who bus n) m = must free (sync free) wanted soon_enough in
            let p : Place c.list d h.entry = place c.list d h.entry h.there in
            let at : h.entry.moment ≡ s p.at = ap (λ (z : Entry). z.moment) p.is in
            let is : h.entry.moment ≡ m = h.moment in
            elim (cases_lt p.at n) [
              | inr on ↦ (let l : m < s p.at = none p.at on p.less in absurd (omega arith))
              | inl less ↦ (let l : s p.at < m = before p.at less in absurd (omega arith))
            ]
      ]

      -- where the list ends and somebody has a message left, the horizon comes by then
      pub at_end : (Free → Ready) → n ≡ len → (j : ℕ) → j < N → HasMore c j → c.horizon ≤ m
      at_end sync is j known more = elim (cases_lt m c.horizon) [
        | inr fine ↦ fine
        | inl soon_enough ↦ by_due sync (j, known, more m soon_enough) (λ z low less. absurd (omega arith))
      ]

      pub in_time : (Free → Ready) → n < len → s n ≤ m
      in_time sync less = elim (cases_lt m (s n)) [
        | inr fine ↦ fine
        | inl late_start ↦
            let sent = ok.sent (turn c n) (there w n less) in
            let t : s n < c.horizon = sent.1 in
            let j : ℕ = (turn c n).sender in
            let left : HasLeft c (turn c n).sender (s n) =
            ((ok.exact (turn c n).sender (s n) sent.0 t).0 (record { entry = turn c n; there = there w n less; sender = refl; moment = refl })).1 in
            let most : length (own c.list (turn c n).sender m) ≤ length (own c.list (turn c n).sender (s n)) =
            own_most c.list (turn c n).sender m (s n) (omega arith) in
            let wanted : Wanted = (
              (turn c n).sender,
              sent.0,
              left_by (c.messages (turn c n).sender) (length (own c.list (turn c n).sender m)) (length (own c.list (turn c n).sender (s n))) most left,
            ) in
            let h : c.horizon ≤ m = by_due sync wanted (λ z low on. let l : s n ≤ s z = asc w n z low on in omega arith) in
            absurd (omega arith)
      ]
