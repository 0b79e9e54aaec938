-- From pair to pair, over the entries of a trace.
use Rattle.std.proofs.Common.{◌≡◌, ℕ, zero, suc, ◌+◌, ◌^◌, ◌<◌, ◌≤◌, ◌⊎◌, max, Bool, true, false, cond, List, [], ◌∷◌, length, set, map, get_or, Option, Some, None, inl, inr, arith, sym, refl, ap, ◌∙◌, subst}
use Rattle.std.specs.Prelude.{slice_get, IsTrue, nat_lt, nat_le, ◌==◌}
use Rattle.std.specs.List.{position, position_or_len, AllByRecursion}
use Rattle.std.specs.Option.{option_map}
use Rattle.std.proofs.lemmas.Bool.{cases_lt, cases_eq, lt-ltb, le-ltb, le-leb, ltb-true, leb-true}
use Rattle.std.proofs.lemmas.List.{length-map}
use Rattle.std.proofs.lemmas.List.Folds.{find_at}
use Rattle.std.proofs.lemmas.Option.{slice_get_within, slice_get-map, slice_get_past, slice_get_read, slice_get-get_or}
use Rattle.bus_timers.specs.MayStartTest.{TestDecides}
use Rattle.bus_timers.specs.Timings.{IsSound}
use Rattle.bus_strings.specs.Members.{In}
use Rattle.bus_strings.specs.Messages.{Entry, Message, bits}
use Rattle.bus_strings.proofs.MessageLaws.{bits_some}
use Rattle.bus_strings.specs.Transmissions.{end_of, IsAscending, Precedes}
use Rattle.bus_table.specs.Tables.{Sender, Table}
use Rattle.bus_table.specs.Fits.{fits, sender_of}
use Rattle.bus_table.specs.inside.Facts.{SenderFacts, TableFacts}
use Rattle.bus_table.specs.Valid.{is_valid}
use Rattle.bus_table.proofs.ValidLaws.{valid_facts}
use Rattle.bus_table.proofs.TurnLaws.{of_each, numbers_differ}
use Rattle.bus_trace.specs.Traces.{Recording, IsTrace, IsBelow}
use Rattle.bus_medium.specs.Past.{own}
use Rattle.bus_medium.specs.Lawful.{IsBefore}
use Rattle.bus_medium.specs.Timings.{quiet_of, timing_of}
use Rattle.bus_medium.proofs.StationLaws.{timings_are_sound}
use Rattle.bus_audit.specs.declared.answer.BreachKind.{BreachKind}
use Rattle.bus_audit.specs.declared.answer.BreachKind.TheVariants.{Stranger, Missing}
use Rattle.bus_audit.specs.declared.watch.Watch.{Watch}
use Rattle.bus_audit.specs.declared.progress.Progress.{Progress}
use Rattle.bus_audit.specs.Breaches.{held, flaw, kind_at, IsFirstBreach}
use Rattle.bus_audit.specs.inside.Watches.{ready, pair, settled, begun, passed, IsLow, AreLow, NoneBefore, Misses}
use Rattle.bus_audit.specs.inside.Standing.{NotBefore, NoEntries, Keeps, Tells, At, Told, Stands, Group, Near, Arrived, AreFar, Judged, Closed, Behind, JudgedTo}
use Rattle.bus_strings.proofs.MemberLaws.{at_in, in_at}
use Rattle.bus_strings.proofs.ListLaws.{some_at}
use Rattle.bus_medium.proofs.PastLaws.{same_bools}
use Rattle.bus_medium.proofs.Seats.{get_set_same, get_set_other, same_some}
use Rattle.bus_medium.proofs.AscendingLaws.{behind_in}
use Rattle.bus_medium.specs.BusyLaws.{IsBusy}
use Rattle.bus_medium.proofs.BusyLaws.{entry_is_busy}
use Rattle.bus_audit.proofs.Pairs.{from_sender_of, left_test, may_test, from_may_test, entry_stranger, entry_flaw}
use Rattle.bus_audit.proofs.Telling.{keeps_settled}
use Rattle.bus_audit.proofs.Silence.{not_both, Seated, silence_breach}
use Rattle.bus_audit.proofs.Standing.{HaveStrings, Over, Onward, NoneBegin, stands_told, stands_on, stands_over, calm_onward, group_onward, arrived_here, arrived_on, begun_stands, begun_near}

-- what a valid table and a trace have
pub seated : (table : Table) → IsTrue (is_valid table) → Seated table
seated table valid =
    let facts : TableFacts table = valid_facts table valid in
    record {
      apart = numbers_differ table facts;
      few = λ j s at. (of_each (SenderFacts table) table.senders facts.senders s (at_in table.senders j s at)).number_most;
    }

pub have_strings : (h : ℕ) (l : List Entry) → AllByRecursion (IsBelow h) l → HaveStrings l
have_strings h [] all x i = absurd i
have_strings h (y ∷ ys) all x (inl same) = subst (λ (z : Entry). 0 < length z.message) (sym same) all.0.message.some
have_strings h (y ∷ ys) all x (inr i) = have_strings h ys all.1 x i

pub below_in : (h : ℕ) (l : List Entry) → AllByRecursion (IsBelow h) l → (x : Entry) → In x l → IsBelow h x
below_in h [] all x i = absurd i
below_in h (y ∷ ys) all x (inl same) = subst (IsBelow h) (sym same) all.0
below_in h (y ∷ ys) all x (inr i) = below_in h ys all.1 x i

-- ---- the same moment
near_on : (l : List Entry) (t e n m : ℕ) → n ≤ m → NoEntries l t n t m → Near l t e n → Near l t e m
near_on l t e n m up none near = record {
  old = near.old;
  now = elim near.now [
    | inl calm ↦ inl (record { over = calm.over; none = λ x i f g. elim (cases_lt x.terminal n) [ inl low ↦ calm.none x i f low | inr high ↦ none x i (inr (f, high)) (inr (f, g)) ] })
    | inr group ↦ inr (record { entry = group.entry; there = group.there; moment = group.moment; end = group.end; all = λ x i f g. elim (cases_lt x.terminal n) [ inl low ↦ group.all x i f low | inr high ↦ absurd (none x i (inr (f, high)) (inr (f, g))) ] })
  ];
}

pub closed_here : (table : Table) (trace : Recording) (progress : Progress) (watches : List Watch) (t m : ℕ) → TestDecides → IsTrue (is_valid table) → t ≡ progress.moment → Judged table trace progress watches t m → Closed table trace progress watches t m
closed_here table trace progress watches t m d valid same j =
    let c = progress.moment in
    let none : NoEntries trace.list c j.number c m = subst (λ u. NoEntries trace.list c j.number u m) same j.none in
    let up : j.number ≤ m = elim j.upto [ inl later ↦ absurd (omega arith) | inr here ↦ here.1 ] in
    record {
      moment = c;
      number = j.number;
      told = subst (Told table trace watches c c j.number) (sym same) (stands_told table trace watches c j.number j.stands);
      none = j.none;
      arrived = λ missed. subst (λ u. Arrived table trace watches c progress.end u m) (sym same)
          (arrived_here table trace watches c progress.end m
          (stands_on table trace watches c j.number m d (seated table valid) j.stands up none (subst (λ u. NoneBefore (quiet_of table) c watches (pair u m)) same missed))
          (near_on trace.list c progress.end j.number m up none j.near));
      far = j.far;
    }

-- ---- a later moment
later_moment : (progress : Progress) (n t m : ℕ) → NotBefore t m progress.moment n → (t ≡ progress.moment → ⊥) → progress.moment < t
later_moment progress n t m (inl later) apart = later
later_moment progress n t m (inr here) apart = absurd (apart here.0)

-- no entry is left at the moment of the clock
none_over : (l : List Entry) (c n t m : ℕ) → c < t → NoEntries l c n t m → NoEntries l c n (c + 1) 0
none_over l c n t m less none x i new before = none x i new (elim before [ inl low ↦ inl (omega arith) | inr at ↦ let e : x.terminal < 0 = at.1 in absurd (omega arith) ])

none_begin : (l : List Entry) (c n t m : ℕ) → NoEntries l c n t m → NoneBegin l c t
none_begin l c n t m none x i low high = none x i (inl low) (inl high)

none_behind : (l : List Entry) (c n t m : ℕ) → NoEntries l c n t m → NoEntries l (c + 1) 0 t m
none_behind l c n t m none x i new before = none x i (inl (elim new [ inl later ↦ omega arith | inr here ↦ let e : x.moment ≡ c + 1 = here.0 in omega arith ])) before

is_over : (table : Table) (trace : Recording) (progress : Progress) (watches : List Watch) (t m : ℕ) → TestDecides → IsTrue (is_valid table) → (j : Judged table trace progress watches t m) → progress.moment < t → NoneBefore (quiet_of table) progress.moment watches (pair (progress.moment + 1) 0) → Over table trace watches progress.moment
is_over table trace progress watches t m d valid j less missed = stands_over table trace watches progress.moment j.number d (seated table valid) j.stands (none_over trace.list progress.moment j.number t m less j.none) missed

pub closed_calm : (table : Table) (trace : Recording) (progress : Progress) (watches : List Watch) (t m : ℕ) → TestDecides → IsTrue (is_valid table) → HaveStrings trace.list → (t ≡ progress.moment → ⊥) → Judged table trace progress watches t m
    → NoneBefore (quiet_of table) progress.moment watches (pair (progress.moment + 1) 0) → progress.end ≤ progress.moment → Closed table trace progress watches t m
closed_calm table trace progress watches t m d valid strings apart j missed over =
    let c = progress.moment in
    let less : c < t = later_moment progress j.number t m j.upto apart in
    let now : (x : Entry) → In x trace.list → x.moment ≡ c → ⊥ = λ x i at. elim j.near.now [
      | inl calm ↦ elim (cases_lt x.terminal j.number) [ inl low ↦ calm.none x i at low | inr high ↦ j.none x i (inr (at, high)) (inl (omega arith)) ]
      | inr group ↦ let bit : 0 < bits group.entry.message = bits_some group.entry.message (strings group.entry group.there) in let e : end_of group.entry ≡ progress.end = group.end in let f : group.entry.moment ≡ c = group.moment in omega arith
    ] in
    let on : Onward table trace watches c c t = calm_onward table trace watches c t (is_over table trace progress watches t m d valid j less missed) j.near.old now less (none_begin trace.list c j.number t m j.none) in
    record {
      moment = c + 1;
      number = 0;
      told = on.told;
      none = none_behind trace.list c j.number t m j.none;
      arrived = arrived_on table trace watches c c progress.end t m d (seated table valid) on less over
          (λ x i low. elim (cases_lt x.moment c) [ inl before ↦ j.near.old x i before | inr at ↦ absurd (now x i (omega arith)) ])
          (none_behind trace.list c j.number t m j.none);
      far = j.far;
    }

pub closed_busy : (table : Table) (trace : Recording) (progress : Progress) (watches : List Watch) (t m : ℕ) → TestDecides → IsTrue (is_valid table) → HaveStrings trace.list → (t ≡ progress.moment → ⊥) → Judged table trace progress watches t m
    → NoneBefore (quiet_of table) progress.moment watches (pair (progress.moment + 1) 0) → progress.moment < progress.end
    → (now : Progress) (watches' : List Watch) → now ≡ record { moment = progress.end; end = progress.end } → watches' ≡ map (passed (quiet_of table + progress.moment) (quiet_of table + progress.end)) watches → AreFar watches' now → Closed table trace now watches' t m
closed_busy table trace progress watches t m d valid strings apart j missed long now watches' now_is are far =
    let c = progress.moment in
    let e = progress.end in
    let less : c < t = later_moment progress j.number t m j.upto apart in
    let at_end : now.moment ≡ e = ap (λ (k : Progress). k.moment) now_is in
    let to_end : now.end ≡ e = ap (λ (k : Progress). k.end) now_is in
    let moved : List Watch = map (passed (quiet_of table + c) (quiet_of table + e)) watches in
    let group : Group trace.list c e j.number = elim j.near.now [ inl calm ↦ let h : e ≤ c = calm.over in absurd (omega arith) | inr g ↦ g ] in
    let busy : IsBusy trace.list c e = subst (λ u. IsBusy trace.list u e) group.moment (subst (IsBusy trace.list group.entry.moment) group.end (entry_is_busy trace.list group.entry group.there (strings group.entry group.there))) in
    let ended : (x : Entry) → In x trace.list → x.moment ≤ c → end_of x ≤ e = λ x i low. elim (cases_lt x.moment c) [
      | inl before ↦ let h : end_of x ≤ c = j.near.old x i before in omega arith
      | inr at ↦ let here : x.moment ≡ c = omega arith in elim (cases_lt x.terminal j.number) [ inl few ↦ group.all x i here few | inr many ↦ absurd (j.none x i (inr (here, many)) (inl (omega arith))) ]
    ] in
    let on : Onward table trace moved c e t = group_onward table trace watches c e t (is_over table trace progress watches t m d valid j less missed) busy ended (none_begin trace.list c j.number t m j.none) in
    let told : Told table trace watches' now.moment (c + 1) 0 t = subst (λ k. Told table trace watches' k (c + 1) 0 t) (sym at_end) (subst (λ ws. Told table trace ws e (c + 1) 0 t) (sym are) on.told) in
    record {
      moment = c + 1;
      number = 0;
      told = told;
      none = none_behind trace.list c j.number t m j.none;
      arrived = λ missed'.
          subst (λ k. Arrived table trace watches' now.moment k t m) (sym to_end)
          (subst (λ k. Arrived table trace watches' k e t m) (sym at_end)
          (subst (λ ws. Arrived table trace ws e e t m) (sym are)
          (arrived_on table trace moved c e e t m d (seated table valid) on less (omega arith) ended (none_behind trace.list c j.number t m j.none)
          (subst (λ ws. NoneBefore (quiet_of table) e ws (pair t m)) are (subst (λ k. NoneBefore (quiet_of table) k watches' (pair t m)) at_end missed')))));
      far = far;
    }

-- somebody is missed at the moment of the clock
pub missed_over : (table : Table) (trace : Recording) (progress : Progress) (watches : List Watch) (t m v r : ℕ) (kind : BreachKind) → TestDecides → IsTrue (is_valid table) → (t ≡ progress.moment → ⊥) → t ≤ trace.horizon → Judged table trace progress watches t m
    → r < 256 → kind ≡ Missing → Misses (quiet_of table) progress.moment watches (pair v r) → NoneBefore (quiet_of table) progress.moment watches (pair v r) → pair v r < pair (progress.moment + 1) 0 → IsFirstBreach table trace v r kind
missed_over table trace progress watches t m v r kind d valid apart below j few is miss none less =
    let c = progress.moment in
    let later : c < t = later_moment progress j.number t m j.upto apart in
    subst (IsFirstBreach table trace v r) (sym is)
    (silence_breach table trace watches c c j.number c (c + 1) 0 v r d (seated table valid) (stands_told table trace watches c j.number j.stands)
    (λ u k b. elim b [ inl low ↦ (omega arith, omega arith) | inr at ↦ let e : k < 0 = at.1 in absurd (omega arith) ])
    (none_over trace.list c j.number t m later j.none) (omega arith) few miss none less)

-- somebody is missed before the next pair
pub missed_on : (table : Table) (trace : Recording) (progress : Progress) (watches : List Watch) (t m v r : ℕ) (kind : BreachKind) → TestDecides → IsTrue (is_valid table) → (t < trace.horizon) ⊎ ((t ≡ trace.horizon) × (m ≡ 0)) → m < 256 → Closed table trace progress watches t m
    → r < 256 → kind ≡ Missing → Misses (quiet_of table) progress.moment watches (pair v r) → NoneBefore (quiet_of table) progress.moment watches (pair v r) → pair v r < pair t m → IsFirstBreach table trace v r kind
missed_on table trace progress watches t m v r kind d valid below small j few is miss none less =
    subst (IsFirstBreach table trace v r) (sym is)
    (silence_breach table trace watches progress.moment j.moment j.number t t m v r d (seated table valid) j.told
    (λ u k b. elim below [
      | inl inside ↦ elim b [ inl low ↦ (omega arith, omega arith) | inr at ↦ let e : u ≡ t = at.0 in (omega arith, omega arith) ]
      | inr end ↦ let f : t ≡ trace.horizon = end.0 in let g : m ≡ 0 = end.1 in elim b [ inl low ↦ (omega arith, omega arith) | inr at ↦ let e : k < m = at.1 in absurd (omega arith) ]
    ])
    j.none (omega arith) few miss none less)

-- ---- the entry that was reached
-- where the sender of a number stands
pub no_place : (senders : List Sender) (n : ℕ) → position (λ s. s.number == n) senders ≡ None → sender_of senders n ≡ None
no_place senders n h = find_at (λ s. s.number == n) senders ∙ slice_get_past senders (position_or_len (λ s. s.number == n) senders) (elim (cases_lt (position_or_len (λ s. s.number == n) senders) (length senders)) [
  | inl within ↦ absurd (let e : Some (position_or_len (λ (s : Sender). s.number == n) senders) ≡ None = sym (ap (λ b. cond b (Some (position_or_len (λ (s : Sender). s.number == n) senders)) None) (lt-ltb _ _ within)) ∙ h in cc)
  | inr past ↦ past
])

pub at_place : (senders : List Sender) (n k : ℕ) → position (λ s. s.number == n) senders ≡ Some k → (k < length senders) × (sender_of senders n ≡ slice_get senders k)
at_place senders n k h = elim (cases_lt (position_or_len (λ s. s.number == n) senders) (length senders)) [
  | inl within ↦
      let e : position_or_len (λ (s : Sender). s.number == n) senders ≡ k = same_some _ k (sym (ap (λ b. cond b (Some (position_or_len (λ (s : Sender). s.number == n) senders)) None) (lt-ltb _ _ within)) ∙ h) in
      (omega arith, find_at (λ s. s.number == n) senders ∙ ap (slice_get senders) e)
  | inr past ↦ absurd (let e : None ≡ Some k = sym (ap (λ b. cond b (Some (position_or_len (λ (s : Sender). s.number == n) senders)) None) (le-ltb _ _ past)) ∙ h in cc)
]

pub stranger_breach : (table : Table) (trace : Recording) (watches : List Watch) (c e : ℕ) (x : Entry) → IsTrace trace → In x trace.list → Arrived table trace watches c e x.moment x.terminal → position (λ s. s.number == x.terminal) table.senders ≡ None → IsFirstBreach table trace x.moment x.terminal Stranger
stranger_breach table trace watches c e x t i a none = record {
  below = (below_in trace.horizon trace.list t.list x i).moment;
  here = entry_stranger table trace x t.order i (no_place table.senders x.terminal none);
  first = a.clean;
}

-- what is wrong with the entry is told by its sender's watch
entry_kind : (table : Table) (trace : Recording) (watches : List Watch) (c e k : ℕ) (s : Sender) (w : Watch) (x : Entry) → TestDecides → IsTrace trace → In x trace.list → Arrived table trace watches c e x.moment x.terminal → At table watches k s w → sender_of table.senders x.terminal ≡ Some s → s.number ≡ x.terminal
    → kind_at table trace x.moment x.terminal ≡ flaw (nat_lt 0 w.left) (nat_le (ready w) (quiet_of table + x.moment)) (fits s x.message)
entry_kind table trace watches c e k s w x d t i a at is number =
    let tell : Tells table trace s w x.moment = a.tells k s w at number in
    entry_flaw table trace x s _ _ _ t.order i is
    (same_bools _ _
    (λ h. lt-ltb 0 w.left (let l : length (own trace.list s.number x.moment) < held trace.holds s.number = ltb-true _ _ h in omega (arith, tell.left)))
    (λ h. left_test trace s x.moment (let l : 0 < w.left = ltb-true 0 w.left h in omega (arith, tell.left))))
    (same_bools _ _
    (λ h. le-leb (ready w) (quiet_of table + x.moment) (tell.may_ready (from_may_test table trace s x.moment d h)))
    (λ h. may_test table trace s x.moment d (tell.ready_may (leb-true (ready w) (quiet_of table + x.moment) h))))
    refl

pub number_is : (senders : List Sender) (n : ℕ) (s : Sender) → sender_of senders n ≡ Some s → s.number ≡ n
number_is senders n s h = (from_sender_of senders n s h).number

pub flaw_breach : (table : Table) (trace : Recording) (watches : List Watch) (c e k : ℕ) (s : Sender) (w : Watch) (x : Entry) (kind : BreachKind) → TestDecides → IsTrace trace → In x trace.list → Arrived table trace watches c e x.moment x.terminal → position (λ s. s.number == x.terminal) table.senders ≡ Some k → At table watches k s w
    → Some kind ≡ flaw (nat_lt 0 w.left) (nat_le (ready w) (quiet_of table + x.moment)) (fits s x.message) → IsFirstBreach table trace x.moment x.terminal kind
flaw_breach table trace watches c e k s w x kind d t i a place at wrong =
    let is : sender_of table.senders x.terminal ≡ Some s = (at_place table.senders x.terminal k place).1 ∙ at.sender in
    record {
      below = (below_in trace.horizon trace.list t.list x i).moment;
      here = entry_kind table trace watches c e k s w x d t i a at is (number_is table.senders x.terminal s is) ∙ sym wrong;
      first = a.clean;
    }

flaw_left : (a b c : Bool) → None ≡ flaw a b c → (a ≡ true) × (b ≡ true)
flaw_left false b c h = absurd (cc)
flaw_left true false c h = absurd (cc)
flaw_left true true c h = (refl, refl)

-- where nothing is wrong with an entry the watches stand at its moment
pub begun_by : (table : Table) (trace : Recording) (watches : List Watch) (c e k : ℕ) (s : Sender) (w : Watch) (x : Entry) → Arrived table trace watches c e x.moment x.terminal → position (λ s. s.number == x.terminal) table.senders ≡ Some k → At table watches k s w
    → None ≡ flaw (nat_lt 0 w.left) (nat_le (ready w) (quiet_of table + x.moment)) (fits s x.message) → c ≤ x.moment
begun_by table trace watches c e k s w x a place at fine =
    let is : sender_of table.senders x.terminal ≡ Some s = (at_place table.senders x.terminal k place).1 ∙ at.sender in
    let parts = flaw_left (nat_lt 0 w.left) (nat_le (ready w) (quiet_of table + x.moment)) (fits s x.message) fine in
    a.late k s w at (number_is table.senders x.terminal s is) (leb-true (ready w) (quiet_of table + x.moment) parts.1)

pub some_bits : (trace : Recording) (x : Entry) → IsTrace trace → In x trace.list → 0 < bits x.message
some_bits trace x t i = bits_some x.message (below_in trace.horizon trace.list t.list x i).message.some

begun_low : (p : ℕ) (w : Watch) → p < 2 ^ 41 → IsLow w → IsLow (begun p w)
begun_low p w h low =
    let ti : w.timing.ti ≤ 128000 = low.sound.ti_most in
    let sg : w.timing.sg ≤ 1024 = low.sound.sg_most in
    record { sound = low.sound; number = low.number; due = omega arith; gap = omega arith }

far_begun : (watches : List Watch) (progress : Progress) (now : Progress) (q k : ℕ) (w : Watch) (x : Entry) → q ≤ 1280 → x.moment < 2 ^ 40 → end_of x < 2 ^ 41 → slice_get watches k ≡ Some w → AreFar watches progress → now.moment ≡ x.moment → now.end ≡ max progress.end (end_of x) → AreFar (set watches k (begun (q + x.moment) w)) now
far_begun watches progress now q k w x quiet low short at far m e = record {
  low = λ j v h. elim (cases_eq k j) [
    | inl same ↦
        let is : v ≡ begun (q + x.moment) w = same_some v _ (sym h ∙ ap (slice_get (set watches k (begun (q + x.moment) w))) (sym same) ∙ get_set_same watches k (begun (q + x.moment) w) (slice_get_within watches k w at)) in
        subst IsLow (sym is) (begun_low (q + x.moment) w (omega arith) (far.low k w at))
    | inr apart ↦ far.low j v (sym (get_set_other watches k j (begun (q + x.moment) w) apart) ∙ h)
  ];
  moment = let f : progress.moment < 2 ^ 41 = far.moment in omega arith;
  end = let f : progress.end < 2 ^ 41 = far.end in omega arith;
}

pub behind_entry : (table : Table) (trace : Recording) (watches : List Watch) (progress now : Progress) (k q : ℕ) (s : Sender) (w : Watch) (x : Entry) → TestDecides → IsTrue (is_valid table) → IsTrace trace → In x trace.list → q ≡ quiet_of table → q ≤ 1280 → x.moment < 2 ^ 40 → end_of x < 2 ^ 41
    → Arrived table trace watches progress.moment progress.end x.moment x.terminal → AreFar watches progress → position (λ s. s.number == x.terminal) table.senders ≡ Some k → At table watches k s w
    → None ≡ flaw (nat_lt 0 w.left) (nat_le (ready w) (quiet_of table + x.moment)) (fits s x.message) → now.moment ≡ x.moment → now.end ≡ max progress.end (end_of x)
    → Behind table trace now (set watches k (begun (q + x.moment) w)) x.moment x.terminal
behind_entry table trace watches progress now k q s w x d valid t i quiet few low short a far place at fine m e =
    let is : sender_of table.senders x.terminal ≡ Some s = (at_place table.senders x.terminal k place).1 ∙ at.sender in
    let number : s.number ≡ x.terminal = number_is table.senders x.terminal s is in
    let parts = flaw_left (nat_lt 0 w.left) (nat_le (ready w) (quiet_of table + x.moment)) (fits s x.message) fine in
    let left : 0 < w.left = ltb-true 0 w.left parts.0 in
    let late : progress.moment ≤ x.moment = begun_by table trace watches progress.moment progress.end k s w x a place at fine in
    let kind : kind_at table trace x.moment x.terminal ≡ None = entry_kind table trace watches progress.moment progress.end k s w x d t i a at is number ∙ sym fine in
    record {
      moment = m;
      stands = subst (λ p. Stands table trace (set watches k (begun (p + x.moment) w)) x.moment (x.terminal + 1)) (sym quiet)
          (begun_stands table trace watches k s w x (seated table valid) t.order i at number left kind (a.stands late));
      near = subst (λ p. Near trace.list x.moment p (x.terminal + 1)) (sym e)
          (begun_near trace.list x progress.end t.order i (below_in trace.horizon trace.list t.list x i).message.some (a.near late));
      far = far_begun watches progress now q k w x few low short at.watch far m e;
    }

-- ---- the list
precedes_at : (l : List Entry) (i k : ℕ) (x y : Entry) → IsAscending l → slice_get l i ≡ Some x → slice_get l k ≡ Some y → i < k → Precedes x y
precedes_at [] i k x y o a b h = absurd (let e : None ≡ Some x = a in cc)
precedes_at (z ∷ zs) zero zero x y o a b h = absurd (omega arith)
precedes_at (z ∷ zs) zero (suc k) x y o a b h = subst (λ v. Precedes v y) (same_some z x a) (behind_in z zs y o.0 (at_in zs k y b))
precedes_at (z ∷ zs) (suc i) zero x y o a b h = absurd (omega arith)
precedes_at (z ∷ zs) (suc i) (suc k) x y o a b h = precedes_at zs i k x y o.1 a b (omega arith)

precedes_not : (x y : Entry) → Precedes x y → NotBefore y.moment y.terminal x.moment x.terminal
precedes_not x y (inl less) = inl less
precedes_not x y (inr same) = let e : x.moment ≡ y.moment = same.0 in let f : x.terminal < y.terminal = same.1 in inr (omega arith, omega arith)

pub judged_entry : (table : Table) (trace : Recording) (progress : Progress) (watches : List Watch) (i : ℕ) (x : Entry) → IsTrace trace → slice_get trace.list i ≡ Some x → JudgedTo table trace progress watches i → Judged table trace progress watches x.moment x.terminal
judged_entry table trace progress watches i x t at j = record {
  number = j.number;
  stands = j.stands;
  near = j.near;
  none = λ y there new before.
      let p = in_at trace.list y there in
      elim (cases_lt p.0 i) [
        | inl old ↦ not_both y.moment y.terminal progress.moment j.number (j.before p.0 y p.1 old) new
        | inr rest ↦ elim (cases_lt i p.0) [
          | inl later ↦ not_both y.moment y.terminal x.moment x.terminal before (precedes_not x y (precedes_at trace.list i p.0 x y t.order at p.1 later))
          | inr here ↦
              let same : i ≡ p.0 = omega arith in
              let e : x ≡ y = same_some x y (sym at ∙ ap (slice_get trace.list) same ∙ p.1) in
              not_both y.moment y.terminal x.moment x.terminal before (inr (ap (λ (z : Entry). z.moment) (sym e), (let f : x.terminal ≡ y.terminal = ap (λ (z : Entry). z.terminal) e in omega arith)))
        ]
      ];
  upto = j.behind i x at (omega arith);
  far = j.far;
}

pub judged_more : (table : Table) (trace : Recording) (progress : Progress) (watches : List Watch) (i : ℕ) (x : Entry) → IsTrace trace → slice_get trace.list i ≡ Some x → Behind table trace progress watches x.moment x.terminal → JudgedTo table trace progress watches (i + 1)
judged_more table trace progress watches i x t at b = record {
  number = x.terminal + 1;
  stands = subst (λ u. Stands table trace watches u (x.terminal + 1)) (sym b.moment) b.stands;
  near = subst (λ u. Near trace.list u progress.end (x.terminal + 1)) (sym b.moment) b.near;
  before = λ k y h low. subst (λ u. IsBefore y.moment y.terminal u (x.terminal + 1)) (sym b.moment) (elim (cases_lt k i) [
    | inl old ↦ elim (precedes_at trace.list k i y x t.order h at old) [ inl less ↦ inl less | inr same ↦ let f : y.terminal < x.terminal = same.1 in inr (same.0, omega arith) ]
    | inr here ↦
        let same : k ≡ i = omega arith in
        let e : y ≡ x = same_some y x (sym h ∙ ap (slice_get trace.list) same ∙ at) in
        inr (ap (λ (z : Entry). z.moment) e, (let f : y.terminal ≡ x.terminal = ap (λ (z : Entry). z.terminal) e in omega arith))
  ]);
  behind = λ k y h high. subst (λ u. NotBefore y.moment y.terminal u (x.terminal + 1)) (sym b.moment) (elim (precedes_at trace.list i k x y t.order at h (omega arith)) [ inl less ↦ inl less | inr same ↦ let e : x.moment ≡ y.moment = same.0 in let f : x.terminal < y.terminal = same.1 in inr (omega arith, omega arith) ]);
  upto = inl (let e : progress.moment ≡ x.moment = b.moment in let f : x.moment < trace.horizon = (below_in trace.horizon trace.list t.list x (at_in trace.list i x at)).moment in omega arith);
  far = b.far;
}

settled_low : (table : Table) (trace : Recording) (s : Sender) → IsSound (timing_of table s) → s.number ≤ 128 → IsLow (settled table trace.holds s)
settled_low table trace s sound few =
    let a : (timing_of table s).sg ≤ 1024 = sound.sg_most in
    let b : (timing_of table s).quiet ≤ (timing_of table s).sg + 256 = sound.quiet_most in
    let c : (timing_of table s).due < 128000 = sound.due_most in
    record { sound = sound; number = few; due = omega arith; gap = omega arith }

pub judged_none : (table : Table) (trace : Recording) (progress : Progress) (watches : List Watch) → IsTrue (is_valid table) → progress.moment ≡ 0 → progress.end ≡ 0 → watches ≡ map (settled table trace.holds) table.senders → JudgedTo table trace progress watches 0
judged_none table trace progress watches valid a b are =
    let settled_at : (j : ℕ) (s : Sender) (w : Watch) → At table watches j s w → w ≡ settled table trace.holds s = λ j s w at.
    same_some w (settled table trace.holds s) (sym at.watch ∙ ap (λ ws. slice_get ws j) are ∙ slice_get-map (settled table trace.holds) table.senders j ∙ ap (option_map (settled table trace.holds)) at.sender) in
    record {
      number = 0;
      stands = subst (λ u. Stands table trace watches u 0) (sym a) (record {
        clean = λ u k before. elim before [ inl less ↦ absurd (omega arith) | inr same ↦ let e : k < 0 = same.1 in absurd (omega arith) ];
        same_length = ap length are ∙ length-map table.senders (settled table trace.holds);
        done = λ j s w at low. absurd (omega arith);
        ahead = λ j s w at high. subst (λ v. Keeps table trace s v 0 0) (sym (settled_at j s w at)) (keeps_settled table trace s (timings_are_sound table s valid (at_in table.senders j s at.sender)));
        spoken = λ j s w at low left. absurd (omega arith);
      });
      near = record { old = λ x i low. absurd (omega arith); now = inl (record { over = omega arith; none = λ x i f g. omega arith }) };
      before = λ k x h low. absurd (omega arith);
      behind = λ k x h low. elim (cases_lt progress.moment x.moment) [ inl later ↦ inl later | inr now ↦ inr (omega arith, omega arith) ];
      upto = inr (a, refl);
      far = record {
        low = λ j w h.
            let within : j < length table.senders = let k : j < length watches = slice_get_within watches j w h in omega (arith, ap length are, length-map table.senders (settled table trace.holds)) in
            let s = some_at table.senders j within in
            subst IsLow (sym (settled_at j s.0 w (record { sender = s.1; watch = h })))
            (settled_low table trace s.0 (timings_are_sound table s.0 valid (at_in table.senders j s.0 s.1)) ((seated table valid).few j s.0 s.1));
        moment = omega arith;
        end = omega arith;
      };
    }

-- to the horizon
pub judged_all : (table : Table) (trace : Recording) (progress : Progress) (watches : List Watch) (i : ℕ) → length trace.list ≤ i → JudgedTo table trace progress watches i → Judged table trace progress watches trace.horizon 0
judged_all table trace progress watches i past j = record {
  number = j.number;
  stands = j.stands;
  near = j.near;
  none = λ y there new before. let p = in_at trace.list y there in let k : p.0 < length trace.list = slice_get_within trace.list p.0 y p.1 in not_both y.moment y.terminal progress.moment j.number (j.before p.0 y p.1 (omega arith)) new;
  upto = elim j.upto [
    | inl below ↦ inl below
    | inr none ↦ let a : progress.moment ≡ 0 = none.0 in let b : j.number ≡ 0 = none.1 in elim (cases_lt progress.moment trace.horizon) [ inl less ↦ inl less | inr not ↦ inr (omega arith, omega arith) ]
  ];
  far = j.far;
}

-- the same place, however the list and the number are told
pub place_same : (senders told : List Sender) (n m : ℕ) → told ≡ senders → m ≡ n → position (λ s. s.number == m) told ≡ position (λ s. s.number == n) senders
place_same senders told n m a b = ap (λ ss. position (λ s. s.number == m) ss) a ∙ ap (λ k. position (λ s. s.number == k) senders) b

-- what an index reads
pub entry_read : (l told : List Entry) (i : ℕ) (x : Entry) → told ≡ l → i < length told → x ≡ get_or told i x → slice_get l i ≡ Some x
entry_read l told i x same within is = ap (λ ys. slice_get ys i) (sym same) ∙ slice_get_read told (length told) i x refl within is

pub at_read : (table : Table) (watches : List Watch) (told : List Sender) (k : ℕ) (s : Sender) (d : Watch) → told ≡ table.senders → length watches ≡ length table.senders → k < length table.senders → s ≡ get_or told k s → At table watches k s (get_or watches k d)
at_read table watches told k s d same len within is = record {
  sender = ap (λ ys. slice_get ys k) (sym same) ∙ slice_get_read told (length told) k s refl (omega (arith, ap length same)) is;
  watch = slice_get-get_or watches k d (omega arith);
}

pub low_read : (watches : List Watch) (k : ℕ) (d : Watch) → AreLow watches → k < length watches → IsLow (get_or watches k d)
low_read watches k d low within = low k (get_or watches k d) (slice_get-get_or watches k d within)

pub flaw_told : (o : Option BreachKind) (w : Watch) (s : Sender) (p p' : ℕ) (x : Entry) (m : Message) → o ≡ flaw (nat_lt 0 w.left) (nat_le (ready w) p) (fits s m) → p ≡ p' → m ≡ x.message → o ≡ flaw (nat_lt 0 w.left) (nat_le (ready w) p') (fits s x.message)
flaw_told o w s p p' x m h e f = h ∙ ap (λ n. flaw (nat_lt 0 w.left) (nat_le (ready w) n) (fits s m)) e ∙ ap (λ n. flaw (nat_lt 0 w.left) (nat_le (ready w) p') (fits s n)) f
