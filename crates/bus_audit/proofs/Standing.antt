-- How the auditor goes from an entry to the next.
use Rattle.std.proofs.Common.{◌≡◌, ℕ, zero, suc, ◌+◌, ◌<◌, ◌≤◌, max, List, [], ◌∷◌, length, set, map, Some, None, inl, inr, arith, sym, refl, ap, ◌∙◌, subst}
use Rattle.std.specs.Prelude.{slice_get}
use Rattle.std.specs.Option.{option_map}
use Rattle.std.proofs.lemmas.Bool.{cases_lt, cases_eq}
use Rattle.std.proofs.lemmas.List.{length-set, length-map}
use Rattle.std.proofs.lemmas.Option.{slice_get_within, slice_get-map}
use Rattle.bus_timers.specs.MayStartTest.{TestDecides}
use Rattle.bus_strings.specs.Members.{In}
use Rattle.bus_strings.specs.Messages.{Entry, bits}
use Rattle.bus_strings.proofs.MessageLaws.{bits_some}
use Rattle.bus_strings.specs.Transmissions.{end_of, IsAscending}
use Rattle.bus_table.specs.Tables.{Sender, Table}
use Rattle.bus_table.specs.inside.Orders.{Differ}
use Rattle.bus_trace.specs.Traces.{Recording}
use Rattle.bus_medium.specs.Timings.{quiet_of, timing_of}
use Rattle.bus_audit.specs.declared.watch.Watch.{Watch}
use Rattle.bus_audit.specs.Breaches.{kind_at, IsCleanTo}
use Rattle.bus_audit.specs.inside.Watches.{ready, ready_moment, pair, turn, begun, passed, NoneBefore}
use Rattle.bus_audit.specs.inside.Standing.{NotBefore, NoEntries, Keeps, Tells, At, Told, Stands, Near, Arrived}
use Rattle.bus_strings.proofs.MemberLaws.{at_in}
use Rattle.bus_strings.proofs.ListLaws.{some_at}
use Rattle.bus_medium.proofs.Seats.{get_set_same, get_set_other, same_some}
use Rattle.bus_medium.specs.PastLaws.{NoneOf}
use Rattle.bus_medium.proofs.PastLaws.{own_later, no_carrier, one_at}
use Rattle.bus_medium.specs.BusyLaws.{IsBusy}
use Rattle.bus_audit.proofs.Telling.{keeps_tells, keeps_until, keeps_cut, keeps_busy, busy_tells, keeps_begun, passed_gap}
use Rattle.bus_audit.proofs.Silence.{cases_before, Seated, silence_clean}

-- every message has a wordstring
abbrev pub HaveStrings : List Entry → Type 0
HaveStrings l = (x : Entry) → In x l → 0 < length x.message

-- ---- within a moment
pub stands_told : (table : Table) (trace : Recording) (watches : List Watch) (t n : ℕ) → Stands table trace watches t n → Told table trace watches t t n t
stands_told table trace watches t n st = record {
  clean = st.clean;
  same_length = st.same_length;
  numbers = λ j s w at. elim (cases_lt s.number n) [ inl low ↦ (st.done j s w at low).number | inr high ↦ (st.ahead j s w at high).number ];
  tells = λ j s w u at new high. elim new [
    | inl later ↦ absurd (omega arith)
    | inr here ↦ subst (Tells table trace s w) (sym here.0) (keeps_tells table trace s w t (st.ahead j s w at here.1))
  ];
  late = λ j s w u at new high is. elim new [ inl later ↦ omega arith | inr here ↦ let e : u ≡ t = here.0 in omega arith ];
  later = λ j s w at left. elim (cases_lt s.number n) [
    | inl low ↦ let h : quiet_of table + t < ready w = st.spoken j s w at low left in inl (omega arith)
    | inr high ↦ elim (cases_lt t (ready_moment (quiet_of table) t w)) [ inl more ↦ inl more | inr not ↦ inr (omega arith, high) ]
  ];
}

-- over the terminals from n to m, none of which has an entry
pub stands_on : (table : Table) (trace : Recording) (watches : List Watch) (t n m : ℕ) → TestDecides → Seated table → Stands table trace watches t n → n ≤ m
    → NoEntries trace.list t n t m → NoneBefore (quiet_of table) t watches (pair t m) → Stands table trace watches t m
stands_on table trace watches t n m d seated st up none missed = record {
  clean = silence_clean table trace watches t t n t t m d seated (stands_told table trace watches t n st) (λ u k b. elim b [ inl less ↦ omega arith | inr same ↦ let e : u ≡ t = same.0 in omega arith ]) none missed;
  same_length = st.same_length;
  done = λ j s w at low. elim (cases_lt s.number n) [
    | inl old ↦ st.done j s w at old
    | inr new ↦ keeps_cut table trace s w t t (t + 1) (own_later trace.list s.number t (t + 1) (omega arith) (λ x i e f g. let at_t : x.moment ≡ t = omega arith in none x i (inr (at_t, omega arith)) (inr (at_t, omega arith)))) (st.ahead j s w at new)
  ];
  ahead = λ j s w at high. st.ahead j s w at (omega arith);
  spoken = λ j s w at low left. elim (cases_lt s.number n) [
    | inl old ↦ st.spoken j s w at old left
    | inr new ↦
        let h : pair t m ≤ turn (quiet_of table) t w = missed j w at.watch left in
        let e : w.number ≡ s.number = (st.ahead j s w at new).number in
        omega arith
  ];
}

-- ---- the end of a moment: all is judged at moment t
pub record Over (table : Table) (trace : Recording) (watches : List Watch) (t : ℕ) : Type 0 where
  pub clean : IsCleanTo table trace (t + 1) 0
  pub same_length : length watches ≡ length table.senders
  pub timers : (j : ℕ) (s : Sender) (w : Watch) → At table watches j s w → Keeps table trace s w t (t + 1)
  pub spoken : (j : ℕ) (s : Sender) (w : Watch) → At table watches j s w → 0 < w.left → quiet_of table + t < ready w

pub stands_over : (table : Table) (trace : Recording) (watches : List Watch) (t n : ℕ) → TestDecides → Seated table → Stands table trace watches t n
    → NoEntries trace.list t n (t + 1) 0 → NoneBefore (quiet_of table) t watches (pair (t + 1) 0) → Over table trace watches t
stands_over table trace watches t n d seated st none missed = record {
  clean = silence_clean table trace watches t t n t (t + 1) 0 d seated (stands_told table trace watches t n st) (λ u k b. elim b [ inl less ↦ omega arith | inr same ↦ let e : k < 0 = same.1 in absurd (omega arith) ]) none missed;
  same_length = st.same_length;
  timers = λ j s w at. elim (cases_lt s.number n) [
    | inl old ↦ st.done j s w at old
    | inr new ↦ keeps_cut table trace s w t t (t + 1) (own_later trace.list s.number t (t + 1) (omega arith) (λ x i e f g. let at_t : x.moment ≡ t = omega arith in none x i (inr (at_t, omega arith)) (inl (omega arith)))) (st.ahead j s w at new)
  ];
  spoken = λ j s w at left. elim (cases_lt s.number n) [
    | inl old ↦ st.spoken j s w at old left
    | inr new ↦
        let h : pair (t + 1) 0 ≤ turn (quiet_of table) t w = missed j w at.watch left in
        let e : w.number ≡ s.number = (st.ahead j s w at new).number in
        let few : s.number ≤ 128 = seated.few j s at.sender in
        omega arith
  ];
}

-- ---- from a moment on, up to the next entry or the horizon
-- the watches tell who may start from behind moment t on up to moment top; from moment c on they keep the timers
pub record Onward (table : Table) (trace : Recording) (watches : List Watch) (t c top : ℕ) : Type 0 where
  pub told : Told table trace watches c (t + 1) 0 top
  pub timers : (j : ℕ) (s : Sender) (w : Watch) → At table watches j s w → c ≤ top → Keeps table trace s w top top
  pub after : t ≤ c

-- no transmission begins behind moment t and before moment top
abbrev pub NoneBegin : List Entry → ℕ → ℕ → Type 0
NoneBegin l t top = (x : Entry) → In x l → t < x.moment → x.moment < top → ⊥

none_of : (l : List Entry) (n t a u top : ℕ) → t < a → u ≤ top → NoneBegin l t top → NoneOf l n a u
none_of l n t a u top low high none x i e f g = none x i (omega arith) (omega arith)

-- where no transmission begins at moment t, the bus stays quiet from there on
calm_keeps : (table : Table) (trace : Recording) (s : Sender) (w : Watch) (t u top : ℕ) → ((x : Entry) → In x trace.list → x.moment < t → end_of x ≤ t) → ((x : Entry) → In x trace.list → x.moment ≡ t → ⊥)
    → NoneBegin trace.list t top → t < u → u ≤ top → Keeps table trace s w t (t + 1) → Keeps table trace s w u u
calm_keeps table trace s w t u top old now none low high k =
    keeps_until table trace s w t u (omega arith)
    (λ v from to. no_carrier trace.list v (λ x i. elim (cases_lt x.moment t) [
      | inl before ↦ let h : end_of x ≤ t = old x i before in inl (omega arith)
      | inr not ↦ elim (cases_lt t x.moment) [
        | inl behind ↦ inr (elim (cases_lt v x.moment) [ inl later ↦ later | inr begun ↦ absurd (none x i behind (omega arith)) ])
        | inr at ↦ absurd (now x i (omega arith))
      ]
    ]))
    (λ x i e f g. elim (cases_lt t x.moment) [ inl behind ↦ none x i behind (omega arith) | inr at ↦ now x i (omega arith) ])
    (keeps_cut table trace s w t (t + 1) t (sym (own_later trace.list s.number t (t + 1) (omega arith) (λ x i e f g. now x i (omega arith)))) k)

behind_of : (t u k : ℕ) → NotBefore u k (t + 1) 0 → t < u
behind_of t u k (inl later) = omega arith
behind_of t u k (inr here) = let e : u ≡ t + 1 = here.0 in omega arith

pub calm_onward : (table : Table) (trace : Recording) (watches : List Watch) (t top : ℕ) → Over table trace watches t → ((x : Entry) → In x trace.list → x.moment < t → end_of x ≤ t) → ((x : Entry) → In x trace.list → x.moment ≡ t → ⊥)
    → t < top → NoneBegin trace.list t top → Onward table trace watches t t top
calm_onward table trace watches t top ov old now less none =
    record {
      told = record {
        clean = ov.clean;
        same_length = ov.same_length;
        numbers = λ j s w at. (ov.timers j s w at).number;
        tells = λ j s w u at new high. keeps_tells table trace s w u (calm_keeps table trace s w t u top old now none (behind_of t u s.number new) high (ov.timers j s w at));
        late = λ j s w u at new high is. let h : t < u = behind_of t u s.number new in omega arith;
        later = λ j s w at left. let h : quiet_of table + t < ready w = ov.spoken j s w at left in
            elim (cases_lt (t + 1) (ready_moment (quiet_of table) t w)) [ inl more ↦ inl more | inr not ↦ inr (omega arith, omega arith) ];
      };
      timers = λ j s w at high. calm_keeps table trace s w t top top old now none less (omega arith) (ov.timers j s w at);
      after = omega arith;
    }

-- the watches of senders when the bus was busy
pub passed_at : (table : Table) (watches : List Watch) (a b : ℕ) (j : ℕ) (s : Sender) (w : Watch) → At table (map (passed a b) watches) j s w → (v : Watch) × At table watches j s v × (w ≡ passed a b v)
passed_at table watches a b j s w at =
    let within : j < length watches = let h : j < length (map (passed a b) watches) = slice_get_within (map (passed a b) watches) j w at.watch in omega (arith, length-map watches (passed a b)) in
    let v = some_at watches j within in
    (v.0, record { sender = at.sender; watch = v.1 }, same_some w (passed a b v.0) (sym at.watch ∙ slice_get-map (passed a b) watches j ∙ ap (option_map (passed a b)) v.1))

-- where some do, the bus is busy up to the end of the last of them
group_keeps : (table : Table) (trace : Recording) (s : Sender) (v : Watch) (t e u top : ℕ) → IsBusy trace.list t e → ((x : Entry) → In x trace.list → x.moment ≤ t → end_of x ≤ e)
    → NoneBegin trace.list t top → e ≤ u → u ≤ top → Keeps table trace s v t (t + 1) → Keeps table trace s (passed (quiet_of table + t) (quiet_of table + e) v) u u
group_keeps table trace s v t e u top busy ended none low high k =
    let some : t < e = busy.some in
    keeps_until table trace s (passed (quiet_of table + t) (quiet_of table + e) v) e u low
    (λ y from to. no_carrier trace.list y (λ x i. elim (cases_lt t x.moment) [
      | inl behind ↦ inr (elim (cases_lt y x.moment) [ inl later ↦ later | inr begun ↦ absurd (none x i behind (omega arith)) ])
      | inr old ↦ let h : end_of x ≤ e = ended x i old in inl (omega arith)
    ]))
    (none_of trace.list s.number t e u top some high none)
    (keeps_busy table trace s v t e busy (none_of trace.list s.number t (t + 1) e top (omega arith) (omega arith) none) k)

group_tells : (table : Table) (trace : Recording) (s : Sender) (v : Watch) (t e u top : ℕ) → IsBusy trace.list t e → ((x : Entry) → In x trace.list → x.moment ≤ t → end_of x ≤ e)
    → NoneBegin trace.list t top → t < u → u ≤ top → Keeps table trace s v t (t + 1) → Tells table trace s (passed (quiet_of table + t) (quiet_of table + e) v) u
group_tells table trace s v t e u top busy ended none low high k =
    elim (cases_lt u e) [
      | inl inside ↦ busy_tells table trace s v t e u busy (none_of trace.list s.number t (t + 1) u top (omega arith) high none) low inside k
      | inr behind ↦ keeps_tells table trace s (passed (quiet_of table + t) (quiet_of table + e) v) u (group_keeps table trace s v t e u top busy ended none behind high k)
    ]

-- behind the stretch the terminal gap counts
passed_late : (q t e : ℕ) (v : Watch) → q + e ≤ (passed (q + t) (q + e) v).gap
passed_late q t e v = elim (passed_gap (q + t) (q + e) v) [ inl elapsed ↦ let h : (passed (q + t) (q + e) v).gap ≡ q + e = elapsed.1 in omega arith | inr waiting ↦ let h : (passed (q + t) (q + e) v).gap ≡ q + e + v.timing.sg = waiting.1 in omega arith ]

pub group_onward : (table : Table) (trace : Recording) (watches : List Watch) (t e top : ℕ) → Over table trace watches t → IsBusy trace.list t e → ((x : Entry) → In x trace.list → x.moment ≤ t → end_of x ≤ e)
    → NoneBegin trace.list t top → Onward table trace (map (passed (quiet_of table + t) (quiet_of table + e)) watches) t e top
group_onward table trace watches t e top ov busy ended none =
    let q = quiet_of table in
    let some : t < e = busy.some in
    let ws : List Watch = map (passed (q + t) (q + e)) watches in
    record {
      told = record {
        clean = ov.clean;
        same_length = length-map watches (passed (q + t) (q + e)) ∙ ov.same_length;
        numbers = λ j s w at. let p = passed_at table watches (q + t) (q + e) j s w at in ap (λ (x : Watch). x.number) p.2 ∙ (ov.timers j s p.0 p.1).number;
        tells = λ j s w u at new high. let p = passed_at table watches (q + t) (q + e) j s w at in
            subst (λ x. Tells table trace s x u) (sym p.2) (group_tells table trace s p.0 t e u top busy ended none (behind_of t u s.number new) high (ov.timers j s p.0 p.1));
        late = λ j s w u at new high is. let p = passed_at table watches (q + t) (q + e) j s w at in
            let h : q + e ≤ (passed (q + t) (q + e) p.0).gap = passed_late q t e p.0 in
            let g : w.gap ≡ (passed (q + t) (q + e) p.0).gap = ap (λ (x : Watch). x.gap) p.2 in
            omega arith;
        later = λ j s w at left. elim (cases_lt (t + 1) (ready_moment q e w)) [ inl more ↦ inl more | inr not ↦ inr (omega arith, omega arith) ];
      };
      timers = λ j s w at high. let p = passed_at table watches (q + t) (q + e) j s w at in
          subst (λ x. Keeps table trace s x top top) (sym p.2) (group_keeps table trace s p.0 t e top top busy ended none high (omega arith) (ov.timers j s p.0 p.1));
      after = omega arith;
    }

-- ---- at the next entry
pub arrived_here : (table : Table) (trace : Recording) (watches : List Watch) (t e m : ℕ) → Stands table trace watches t m → Near trace.list t e m → Arrived table trace watches t e t m
arrived_here table trace watches t e m st near = record {
  clean = st.clean;
  same_length = st.same_length;
  tells = λ j s w at is. keeps_tells table trace s w t (st.ahead j s w at (omega arith));
  late = λ j s w at is r. omega arith;
  stands = λ h. st;
  near = λ h. near;
}

-- those that began behind moment t have not begun before moment top
pub arrived_on : (table : Table) (trace : Recording) (watches : List Watch) (t c e top m : ℕ) → TestDecides → Seated table → Onward table trace watches t c top → t < top → e ≤ c
    → ((x : Entry) → In x trace.list → x.moment ≤ t → end_of x ≤ c)
    → NoEntries trace.list (t + 1) 0 top m → NoneBefore (quiet_of table) c watches (pair top m) → Arrived table trace watches c e top m
arrived_on table trace watches t c e top m d seated on less past_end ended none missed =
    let clean : IsCleanTo table trace top m = silence_clean table trace watches c (t + 1) 0 top top m d seated on.told (λ u k b. elim b [ inl l ↦ omega arith | inr same ↦ let f : u ≡ top = same.0 in omega arith ]) none missed in
    let from : (u k : ℕ) → t < u → NotBefore u k (t + 1) 0 = λ u k h. elim (cases_lt (t + 1) u) [ inl more ↦ inl more | inr not ↦ inr (omega arith, omega arith) ] in
    record {
      clean = clean;
      same_length = on.told.same_length;
      tells = λ j s w at is. on.told.tells j s w top at (from top s.number less) (omega arith);
      late = λ j s w at is r. on.told.late j s w top at (from top s.number less) (omega arith) r;
      stands = λ h. record {
        clean = clean;
        same_length = on.told.same_length;
        done = λ j s w at low. keeps_cut table trace s w top top (top + 1) (own_later trace.list s.number top (top + 1) (omega arith) (λ x i f g k. let at_top : x.moment ≡ top = omega arith in none x i (from x.moment x.terminal (omega arith)) (inr (at_top, omega arith)))) (on.timers j s w at h);
        ahead = λ j s w at high. on.timers j s w at h;
        spoken = λ j s w at low left.
            let f : pair top m ≤ turn (quiet_of table) c w = missed j w at.watch left in
            let g : w.number ≡ s.number = on.told.numbers j s w at in
            omega arith;
      };
      near = λ h. record {
        old = λ x i before. elim (cases_lt t x.moment) [
          | inl behind ↦ absurd (none x i (from x.moment x.terminal behind) (inl before))
          | inr old ↦ let f : end_of x ≤ c = ended x i old in omega arith
        ];
        now = inl (record { over = omega arith; none = λ x i f g. none x i (from x.moment x.terminal (omega arith)) (inr (f, g)) });
      };
    }

same_place : (senders : List Sender) (j k : ℕ) (s r : Sender) → Differ (λ y. y.number) senders → slice_get senders j ≡ Some s → slice_get senders k ≡ Some r → s.number ≡ r.number → j ≡ k
same_place [] j k s r d a b e = absurd (let f : None ≡ Some s = a in cc)
same_place (y ∷ ys) zero zero s r d a b e = refl
same_place (y ∷ ys) zero (suc k) s r d a b e = absurd (d.0 r (at_in ys k r b) (ap (λ (z : Sender). z.number) (same_some y s a) ∙ e))
same_place (y ∷ ys) (suc j) zero s r d a b e = absurd (d.0 s (at_in ys j s a) (ap (λ (z : Sender). z.number) (same_some y r b) ∙ sym e))
same_place (y ∷ ys) (suc j) (suc k) s r d a b e = ap suc (same_place ys j k s r d.1 a b e)

-- ---- the entry
-- where nothing is wrong with it, its sender begins
pub begun_stands : (table : Table) (trace : Recording) (watches : List Watch) (j : ℕ) (s : Sender) (w : Watch) (x : Entry) → Seated table → IsAscending trace.list → In x trace.list → At table watches j s w → s.number ≡ x.terminal → 0 < w.left
    → kind_at table trace x.moment x.terminal ≡ None → Stands table trace watches x.moment x.terminal → Stands table trace (set watches j (begun (quiet_of table + x.moment) w)) x.moment (x.terminal + 1)
begun_stands table trace watches j s w x seated asc i at is left fine st =
    let q = quiet_of table in
    let t = x.moment in
    let n = x.terminal in
    let b : Watch = begun (q + t) w in
    let within : j < length watches = slice_get_within watches j w at.watch in
    -- a sender at another place has another number
    let other : (k : ℕ) (r : Sender) (v : Watch) → At table (set watches j b) k r v → (j ≡ k → ⊥) → At table watches k r v = λ k r v h apart. record { sender = h.sender; watch = sym (get_set_other watches j k b apart) ∙ h.watch } in
    let mine : (k : ℕ) (r : Sender) (v : Watch) → At table (set watches j b) k r v → j ≡ k → (r ≡ s) × (v ≡ b) = λ k r v h same. (
      same_some r s (sym h.sender ∙ ap (slice_get table.senders) (sym same) ∙ at.sender),
      same_some v b (sym h.watch ∙ ap (slice_get (set watches j b)) (sym same) ∙ get_set_same watches j b within),
    ) in
    let place : (k : ℕ) (r : Sender) → slice_get table.senders k ≡ Some r → r.number ≡ n → j ≡ k = λ k r h e. same_place table.senders j k s r seated.apart at.sender h (is ∙ sym e) in
    record {
      clean = λ u k before. elim (cases_before u k t n) [
        | inl old ↦ st.clean u k old
        | inr new ↦
            let here : (u ≡ t) × (k ≡ n) = elim before [
              | inl less ↦ absurd (elim new [ inl later ↦ omega arith | inr at_t ↦ let f : u ≡ t = at_t.0 in omega arith ])
              | inr same ↦ let e : u ≡ t = same.0 in let f : k < n + 1 = same.1 in elim new [ inl later ↦ absurd (omega arith) | inr at_t ↦ let g : n ≤ k = at_t.1 in (omega arith, omega arith) ]
            ] in
            subst (λ v. kind_at table trace v k ≡ None) (sym here.0) (subst (λ v. kind_at table trace t v ≡ None) (sym here.1) fine)
      ];
      same_length = length-set watches j b ∙ st.same_length;
      done = λ k r v h low. elim (cases_eq j k) [
        | inl same ↦
            let p = mine k r v h same in
            subst (λ y. Keeps table trace y v t (t + 1)) (sym p.0) (subst (λ y. Keeps table trace s y t (t + 1)) (sym p.1)
            (keeps_begun table trace s w x asc i (sym is) left (st.ahead j s w at (omega arith))))
        | inr apart ↦
            let g = other k r v h apart in
            elim (cases_lt r.number n) [ inl less ↦ st.done k r v g less | inr more ↦ absurd (apart (place k r h.sender (omega arith))) ]
      ];
      ahead = λ k r v h high. elim (cases_eq j k) [
        | inl same ↦ let p = mine k r v h same in let e : r.number ≡ s.number = ap (λ (y : Sender). y.number) p.0 in absurd (omega arith)
        | inr apart ↦ st.ahead k r v (other k r v h apart) (omega arith)
      ];
      spoken = λ k r v h low some. elim (cases_eq j k) [
        | inl same ↦
            let p = mine k r v h same in
            let e : v.due ≡ q + t + w.timing.ti = ap (λ (y : Watch). y.due) p.1 in
            let old = st.ahead j s w at (omega arith) in
            let f : w.timing.ti ≡ (timing_of table s).ti = ap (λ y. y.ti) old.timing in
            let g : 1000 ≤ (timing_of table s).ti = old.sound.ti_least in
            omega arith
        | inr apart ↦
            let g = other k r v h apart in
            elim (cases_lt r.number n) [ inl less ↦ st.spoken k r v g less some | inr more ↦ absurd (apart (place k r h.sender (omega arith))) ]
      ];
    }

pub begun_near : (l : List Entry) (x : Entry) (e : ℕ) → IsAscending l → In x l → 0 < length x.message → Near l x.moment e x.terminal → Near l x.moment (max e (end_of x)) (x.terminal + 1)
begun_near l x e asc i some near = record {
  old = near.old;
  now = inr (elim near.now [
    | inl calm ↦
        let over : e ≤ x.moment = calm.over in
        record {
          entry = x;
          there = i;
          moment = refl;
          end = let bit : 0 < bits x.message = bits_some x.message some in omega arith;
          all = λ y j f g. elim (cases_lt y.terminal x.terminal) [ inl low ↦ absurd (calm.none y j f low) | inr same ↦ let h : end_of y ≡ end_of x = ap end_of (one_at l y x asc j i f (omega arith)) in omega arith ];
        }
    | inr group ↦
        let all : (y : Entry) → In y l → y.moment ≡ x.moment → y.terminal < x.terminal + 1 → end_of y ≤ max e (end_of x) = λ y j f g.
        elim (cases_lt y.terminal x.terminal) [ inl low ↦ let h : end_of y ≤ e = group.all y j f low in omega arith | inr same ↦ let h : end_of y ≡ end_of x = ap end_of (one_at l y x asc j i f (omega arith)) in omega arith ] in
        elim (cases_lt e (end_of x)) [
          | inl longer ↦ record { entry = x; there = i; moment = refl; end = omega arith; all = all }
          | inr not ↦ record { entry = group.entry; there = group.there; moment = group.moment; end = let h : end_of group.entry ≡ e = group.end in omega arith; all = all }
        ]
  ]);
}
