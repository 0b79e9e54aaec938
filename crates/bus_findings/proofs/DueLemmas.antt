-- When a terminal is told to be due, all its timers were over for certain, and not before.
use Rattle.std.specs.Prelude.{nat_le, ◌==◌, option_map, option_and_then}
use Rattle.std.specs.List.{list_all}
use Rattle.std.proofs.Common.{◌≡◌, ℕ, ◌+◌, ◌-◌, ◌<◌, ◌≤◌, ◌⊎◌, Bool, true, false, cond, ◌&&◌, ◌||◌, List, [], ◌∷◌, Option, Some, None, inl, inr, arith, refl, ap, sym, subst, ◌∙◌}
use Rattle.std.proofs.lemmas.Bool.{cases_lt, cases_Bool, or_cases, and_parts, and_from, or_left, or_right, le-leb, leb-true, eq-eqb, eqb-true}
use Rattle.bus_strings.specs.Members.{In}
use Rattle.bus_strings.proofs.MemberLaws.{pass_in}
use Rattle.bus_recording.specs.Seen.{Seen, Monitor, Bounds}
use Rattle.bus_recording.specs.Findings.{IsQuietForCertain, IsLate}
use Rattle.bus_recording.specs.Walk.{IsElapsed}
use Rattle.bus_findings.specs.declared.judgement.Due.{Due}
use Rattle.bus_findings.specs.declared.judgement.Timer.{Timer}
use Rattle.bus_findings.specs.declared.judgement.Timer.TheVariants.{Interval, SyncGap, TerminalGap}
use Rattle.bus_findings.specs.Amounts.{IsAmount}
use Rattle.bus_findings.specs.Dues.{is_same, is_quiet, first_elapsed, first_due, last_over, due_of}
use Rattle.bus_findings.specs.Laws.{DueIsFirst, NotDueIsNever, DueIsTold, IsLastTimer, LatenessIsAmount, IsFirstOver, lateness}
use Rattle.bus_findings.proofs.AmountLemmas.{IsFirstFrom, first_is, first_none}
use Rattle.bus_findings.proofs.SeenLemmas.{is_in, in_is}

-- nothing, or something
pub cases_option : {X : Type 0} → (o : Option X) → (o ≡ None) ⊎ ((x : X) × (o ≡ Some x))
cases_option None = inl refl
cases_option (Some x) = inr (x, refl)

all_pass : {X : Type 0} (p : X → Bool) → (xs : List X) → ((x : X) → In x xs → p x ≡ true) → list_all p xs ≡ true
all_pass p [] h = refl
all_pass p (x ∷ xs) h = and_from _ _ (h x (inl refl)) (all_pass p xs (λ y i. h y (inr i)))

same_parts : (r o : Seen) → r.moment ≡ o.moment → r.sender ≡ o.sender → r.soonest ≡ o.soonest → r.latest ≡ o.latest → r ≡ o
same_parts r o m s a b =
    let e : record { moment = r.moment; sender = r.sender; soonest = r.soonest; latest = r.latest }
    ≡ record { moment = o.moment; sender = o.sender; soonest = o.soonest; latest = o.latest } = rw (m, s, a, b) refl in e

same_from : (r o : Seen) → is_same r o ≡ true → r ≡ o
same_from r o e =
    let p = and_parts (r.moment == o.moment) (r.sender == o.sender && (r.soonest == o.soonest && r.latest == o.latest)) e in
    let q = and_parts (r.sender == o.sender) (r.soonest == o.soonest && r.latest == o.latest) p.1 in
    let t = and_parts (r.soonest == o.soonest) (r.latest == o.latest) q.1 in
    same_parts r o (eqb-true r.moment o.moment p.0) (eqb-true r.sender o.sender q.0) (eqb-true r.soonest o.soonest t.0) (eqb-true r.latest o.latest t.1)

same_to : (r o : Seen) → r ≡ o → is_same r o ≡ true
same_to r o e =
    and_from _ _ (eq-eqb r.moment o.moment (ap (λ (x : Seen). x.moment) e)) (and_from _ _ (eq-eqb r.sender o.sender (ap (λ (x : Seen). x.sender) e))
    (and_from _ _ (eq-eqb r.soonest o.soonest (ap (λ (x : Seen). x.soonest) e)) (eq-eqb r.latest o.latest (ap (λ (x : Seen). x.latest) e))))

quiet_test : Monitor → Seen → ℕ → ℕ → Seen → Bool
quiet_test monitor o a b r = is_same r o || (nat_le b r.moment || nat_le (r.latest + monitor.rest) a)

quiet_from : (monitor : Monitor) (recording : List Seen) (o : Seen) (a b : ℕ) → is_quiet monitor recording o a b ≡ true
    → IsQuietForCertain monitor recording o a b
unfolding quiet_test
quiet_from monitor recording o a b e =
    let all : Bool = list_all (quiet_test monitor o a b) recording in
    let p = and_parts (nat_le monitor.settled a) (nat_le o.latest a && all) e in
    let q = and_parts (nat_le o.latest a) all p.1 in
    record {
      recorded = leb-true monitor.settled a p.0;
      own = leb-true o.latest a q.0;
      others = λ r i.
          let t = pass_in (quiet_test monitor o a b) recording r q.1 (in_is recording r i) in
          elim (or_cases (is_same r o) (nat_le b r.moment || nat_le (r.latest + monitor.rest) a) t) [
            | inl same ↦ inl (same_from r o same)
            | inr other ↦ inr (elim (or_cases (nat_le b r.moment) (nat_le (r.latest + monitor.rest) a) other) [
              | inl later ↦ inl (leb-true b r.moment later)
              | inr over ↦ inr (leb-true (r.latest + monitor.rest) a over)
            ])
          ];
    }

quiet_to : (monitor : Monitor) (recording : List Seen) (o : Seen) (a b : ℕ) → IsQuietForCertain monitor recording o a b
    → is_quiet monitor recording o a b ≡ true
unfolding quiet_test
quiet_to monitor recording o a b q =
    and_from _ _ (le-leb monitor.settled a q.recorded) (and_from _ _ (le-leb o.latest a q.own)
    (all_pass (quiet_test monitor o a b) recording (λ r i. elim (q.others r (is_in recording r i)) [
      | inl same ↦ or_left _ _ (same_to r o same)
      | inr other ↦ elim other [
        | inl later ↦ or_right (is_same r o) _ (or_left _ _ (le-leb b r.moment later))
        | inr over ↦ or_right (is_same r o) _ (or_right (nat_le b r.moment) _ (le-leb (r.latest + monitor.rest) a over))
      ]
    ])))

-- the tests of the two searches
elapsed_test : Bounds → Monitor → List Seen → Seen → ℕ → Bool
elapsed_test timers monitor recording o e = nat_le timers.long.sg e && is_quiet monitor recording o (e - timers.long.sg) e

due_test : Bounds → Monitor → List Seen → Seen → ℕ → ℕ → Bool
due_test timers monitor recording o e t =
    nat_le (o.moment + timers.long.ti) t && (nat_le (e + timers.long.tg) t && is_quiet monitor recording o (t - timers.long.tg) t)

-- what is found
record IsFound (timers : Bounds) (monitor : Monitor) (recording : List Seen) (o : Seen) (until e t : ℕ) : Type 0 where
  elapsed : IsFirstFrom (elapsed_test timers monitor recording o) 0 until e
  due : IsFirstFrom (due_test timers monitor recording o e) 0 until t

found_over : (timers : Bounds) (monitor : Monitor) (recording : List Seen) (o : Seen) (until e t : ℕ) → IsFound timers monitor recording o until e t
    → IsFirstOver timers monitor recording o until t
unfolding elapsed_test due_test
found_over timers monitor recording o until e t f =
    let p = and_parts (nat_le timers.long.sg e) (is_quiet monitor recording o (e - timers.long.sg) e) f.elapsed.passes in
    let q = and_parts (nat_le (o.moment + timers.long.ti) t)
    (nat_le (e + timers.long.tg) t && is_quiet monitor recording o (t - timers.long.tg) t) f.due.passes in
    let r = and_parts (nat_le (e + timers.long.tg) t) (is_quiet monitor recording o (t - timers.long.tg) t) q.1 in
    record {
      before = omega (arith, f.due.below);
      over = record {
        interval = leb-true (o.moment + timers.long.ti) t q.0;
        elapsed = e;
        fits = leb-true timers.long.sg e p.0;
        synchronized = quiet_from monitor recording o (e - timers.long.sg) e p.1;
        room = leb-true (e + timers.long.tg) t r.0;
        gap = quiet_from monitor recording o (t - timers.long.tg) t r.1;
      };
      first = λ u over.
          let room : over.elapsed + timers.long.tg ≤ u = over.room in
          let early : e ≤ over.elapsed = f.elapsed.first over.elapsed (omega arith)
          (and_from _ _ (le-leb timers.long.sg over.elapsed over.fits) (quiet_to monitor recording o (over.elapsed - timers.long.sg) over.elapsed over.synchronized)) in
          f.due.first u (omega arith) (and_from _ _ (le-leb (o.moment + timers.long.ti) u over.interval)
          (and_from _ _ (le-leb (e + timers.long.tg) u (omega (arith, room, early))) (quiet_to monitor recording o (u - timers.long.tg) u over.gap)));
    }

-- a search for both
due_with : Bounds → Monitor → List Seen → Seen → ℕ → ℕ → Option Due
due_with timers monitor recording o until e =
    option_map (λ t. record { moment = t; timer = last_over timers o e t }) (first_due timers monitor recording o until e)

due_none : (timers : Bounds) (monitor : Monitor) (recording : List Seen) (o : Seen) (until : ℕ)
    → first_elapsed timers monitor recording o until ≡ None → due_of timers monitor recording o until ≡ None
unfolding due_with
due_none timers monitor recording o until none = ap (option_and_then (due_with timers monitor recording o until)) none

due_none_behind : (timers : Bounds) (monitor : Monitor) (recording : List Seen) (o : Seen) (until e : ℕ)
    → first_elapsed timers monitor recording o until ≡ Some e → first_due timers monitor recording o until e ≡ None
    → due_of timers monitor recording o until ≡ None
unfolding due_with
due_none_behind timers monitor recording o until e some none =
    ap (option_and_then (due_with timers monitor recording o until)) some
    ∙ ap (option_map (λ t. record { moment = t; timer = last_over timers o e t })) none

pub due_some : (timers : Bounds) (monitor : Monitor) (recording : List Seen) (o : Seen) (until e t : ℕ)
    → first_elapsed timers monitor recording o until ≡ Some e → first_due timers monitor recording o until e ≡ Some t
    → due_of timers monitor recording o until ≡ Some (record { moment = t; timer = last_over timers o e t })
unfolding due_with
due_some timers monitor recording o until e t some found =
    ap (option_and_then (due_with timers monitor recording o until)) some
    ∙ ap (option_map (λ t. record { moment = t; timer = last_over timers o e t })) found

-- the two searches that gave when a terminal was due
pub record IsDueBy (timers : Bounds) (monitor : Monitor) (recording : List Seen) (o : Seen) (until : ℕ) (due : Due) : Type 0 where
  pub e : ℕ
  pub elapsed : first_elapsed timers monitor recording o until ≡ Some e
  pub found : first_due timers monitor recording o until e ≡ Some due.moment
  pub timer : due.timer ≡ last_over timers o e due.moment

pub due_by : (timers : Bounds) (monitor : Monitor) (recording : List Seen) (o : Seen) (until : ℕ) (due : Due)
    → due_of timers monitor recording o until ≡ Some due → IsDueBy timers monitor recording o until due
due_by timers monitor recording o until due is =
    elim (cases_option (first_elapsed timers monitor recording o until)) [
      | inl none ↦ absurd (let w : None ≡ Some due = sym (due_none timers monitor recording o until none) ∙ is in cc)
      | inr some ↦ elim (cases_option (first_due timers monitor recording o until some.0)) [
        | inl none ↦ absurd (let w : None ≡ Some due = sym (due_none_behind timers monitor recording o until some.0 some.1 none) ∙ is in cc)
        | inr found ↦
            let made : Due = record { moment = found.0; timer = last_over timers o some.0 found.0 } in
            let w : Some made ≡ Some due = sym (due_some timers monitor recording o until some.0 found.0 some.1 found.1) ∙ is in
            let same : made ≡ due = cc in
            let at : found.0 ≡ due.moment = ap (λ (d : Due). d.moment) same in
            let by : last_over timers o some.0 found.0 ≡ due.timer = ap (λ (d : Due). d.timer) same in
            record {
              e = some.0;
              elapsed = some.1;
              found = found.1 ∙ ap Some at;
              timer = sym by ∙ ap (last_over timers o some.0) at;
            }
      ]
    ]

-- when the synchronization gap elapsed first, told twice
pub elapsed_least : (timers : Bounds) (monitor : Monitor) (recording : List Seen) (o : Seen) (until e u : ℕ)
    → first_elapsed timers monitor recording o until ≡ Some e → u ≤ until → IsElapsed timers monitor recording o u
    → ((v : ℕ) → v ≤ until → IsElapsed timers monitor recording o v → u ≤ v) → u ≡ e
unfolding elapsed_test
elapsed_least timers monitor recording o until e u is low over least =
    let f = first_is (elapsed_test timers monitor recording o) until e is in
    let p = and_parts (nat_le timers.long.sg e) (is_quiet monitor recording o (e - timers.long.sg) e) f.passes in
    let one : u ≤ e = least e (omega (arith, f.below)) (leb-true timers.long.sg e p.0, quiet_from monitor recording o (e - timers.long.sg) e p.1) in
    let two : e ≤ u = f.first u (omega arith) (and_from _ _ (le-leb timers.long.sg u over.0) (quiet_to monitor recording o (u - timers.long.sg) u over.1)) in
    omega (arith, one, two)

-- two that have the same parts
pub same_due : (a b : Due) → a.moment ≡ b.moment → a.timer ≡ b.timer → a ≡ b
same_due a b m t =
    let e : record { moment = a.moment; timer = a.timer } ≡ record { moment = b.moment; timer = b.timer } = rw (m, t) refl in e

pub due_first : DueIsFirst
unfolding elapsed_test due_test
due_first timers monitor recording o until due is =
    let w = due_by timers monitor recording o until due is in
    found_over timers monitor recording o until w.e due.moment (record {
      elapsed = first_is (elapsed_test timers monitor recording o) until w.e w.elapsed;
      due = first_is (due_test timers monitor recording o w.e) until due.moment w.found;
    })

less_of : (t n : ℕ) → n ≤ t → (t == n) ≡ false → n < t
less_of t n low apart = elim (cases_lt n t) [
  | inl less ↦ less
  | inr over ↦ absurd (let q : (t == n) ≡ true = eq-eqb t n (omega (arith, low, over)) in cc (q, apart))
]

-- when it is found to be due, interval and terminal gap are over
due_parts : (timers : Bounds) (monitor : Monitor) (recording : List Seen) (o : Seen) (until e t : ℕ)
    → first_due timers monitor recording o until e ≡ Some t → (o.moment + timers.long.ti ≤ t) × (e + timers.long.tg ≤ t)
unfolding due_test
due_parts timers monitor recording o until e t found =
    let f = first_is (due_test timers monitor recording o e) until t found in
    let q = and_parts (nat_le (o.moment + timers.long.ti) t)
    (nat_le (e + timers.long.tg) t && is_quiet monitor recording o (t - timers.long.tg) t) f.passes in
    let r = and_parts (nat_le (e + timers.long.tg) t) (is_quiet monitor recording o (t - timers.long.tg) t) q.1 in
    (leb-true (o.moment + timers.long.ti) t q.0, leb-true (e + timers.long.tg) t r.0)

-- of three timers one was over last
last_timer : (timers : Bounds) (o : Seen) (e t : ℕ) → o.moment + timers.long.ti ≤ t → e + timers.long.tg ≤ t
    → IsLastTimer timers o e t (last_over timers o e t)
last_timer timers o e t interval room =
    let behind : Timer = cond (t == e + timers.long.tg) SyncGap TerminalGap in
    elim (cases_Bool (t == o.moment + timers.long.ti)) [
      | inl then ↦
          subst (IsLastTimer timers o e t) (ap (λ b. cond b Interval behind) (sym then)) (eqb-true t (o.moment + timers.long.ti) then)
      | inr before ↦
          let apart : o.moment + timers.long.ti < t = less_of t (o.moment + timers.long.ti) interval before in
          subst (IsLastTimer timers o e t) (ap (λ b. cond b Interval behind) (sym before)) (elim (cases_Bool (t == e + timers.long.tg)) [
            | inl at ↦ subst (IsLastTimer timers o e t) (ap (λ b. cond b SyncGap TerminalGap) (sym at)) (apart, eqb-true t (e + timers.long.tg) at)
            | inr later ↦
                subst (IsLastTimer timers o e t) (ap (λ b. cond b SyncGap TerminalGap) (sym later)) (apart, less_of t (e + timers.long.tg) room later)
          ])
    ]

pub due_told : DueIsTold
unfolding elapsed_test
due_told timers monitor recording o until due is =
    let w = due_by timers monitor recording o until due is in
    let f = first_is (elapsed_test timers monitor recording o) until w.e w.elapsed in
    let p = and_parts (nat_le timers.long.sg w.e) (is_quiet monitor recording o (w.e - timers.long.sg) w.e) f.passes in
    let d = due_parts timers monitor recording o until w.e due.moment w.found in
    record {
      over = due_first timers monitor recording o until due is;
      elapsed = w.e;
      first = record {
        elapsed = (leb-true timers.long.sg w.e p.0, quiet_from monitor recording o (w.e - timers.long.sg) w.e p.1);
        first = λ u over. f.first u (omega arith)
            (and_from _ _ (le-leb timers.long.sg u over.0) (quiet_to monitor recording o (u - timers.long.sg) u over.1));
      };
      last = subst (IsLastTimer timers o w.e due.moment) (sym w.timer) (last_timer timers o w.e due.moment d.0 d.1);
    }

pub not_due : NotDueIsNever
unfolding elapsed_test due_test
not_due timers monitor recording o until u none less over =
    let room : over.elapsed + timers.long.tg ≤ u = over.room in
    let passes : elapsed_test timers monitor recording o over.elapsed ≡ true =
    and_from _ _ (le-leb timers.long.sg over.elapsed over.fits) (quiet_to monitor recording o (over.elapsed - timers.long.sg) over.elapsed over.synchronized) in
    elim (cases_option (first_elapsed timers monitor recording o until)) [
      | inl fails ↦ first_none (elapsed_test timers monitor recording o) until fails over.elapsed (omega (arith, room, less)) passes
      | inr some ↦
          let early : some.0 ≤ over.elapsed = (first_is (elapsed_test timers monitor recording o) until some.0 some.1).first over.elapsed (omega arith) passes in
          elim (cases_option (first_due timers monitor recording o until some.0)) [
            | inl fails ↦ first_none (due_test timers monitor recording o some.0) until fails u less
                (and_from _ _ (le-leb (o.moment + timers.long.ti) u over.interval)
                (and_from _ _ (le-leb (some.0 + timers.long.tg) u (omega (arith, room, early))) (quiet_to monitor recording o (u - timers.long.tg) u over.gap)))
            | inr found ↦
                let made : Due = record { moment = found.0; timer = last_over timers o some.0 found.0 } in
                let q : None ≡ Some made = sym none ∙ due_some timers monitor recording o until some.0 found.0 some.1 found.1 in cc
          ]
    ]

pub lateness_is : LatenessIsAmount
lateness_is timers monitor recording o y =
    let made : Option Due = due_of timers monitor recording o y.moment in
    elim (cases_option made) [
      | inl none ↦
          let e : 0 ≡ lateness made y = ap (λ d. lateness d y) (sym none) in
          subst (λ n. IsAmount (λ m. IsLate timers monitor m recording o y) n) e (record {
            so = λ some. absurd (omega arith);
            most = λ m some late.
                let early : late.due + m ≤ y.moment = late.early in
                absurd (not_due timers monitor recording o y.moment late.due none (omega arith) late.over);
          })
      | inr some ↦
          let e : y.moment - some.0.moment ≡ lateness made y = ap (λ d. lateness d y) (sym some.1) in
          let f = due_first timers monitor recording o y.moment some.0 some.1 in
          let before : some.0.moment < y.moment = f.before in
          subst (λ n. IsAmount (λ m. IsLate timers monitor m recording o y) n) e (record {
            so = λ _. record { due = some.0.moment; early = omega arith; over = f.over };
            most = λ m positive late.
                let early : late.due + m ≤ y.moment = late.early in
                let first : some.0.moment ≤ late.due = f.first late.due late.over in
                omega arith;
          })
    ]
