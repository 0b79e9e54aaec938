-- The transmit intervals that are drawn are those of the timers, and the synchronization gaps on the bus are quiet.
use Rattle.std.proofs.Common.{◌≡◌, ℕ, zero, suc, ◌+◌, ◌-◌, ◌<◌, ◌≤◌, Bool, true, false, cond, max, min, eqb, leb, ltb, List, [], ◌∷◌, length, take, Option, Some, None, inl, inr, arith, refl, sym, ap, subst, ◌∙◌}
use Rattle.std.specs.Prelude.{◌&&◌, ◌⊎◌, fold, slice_get}
use Rattle.std.proofs.lemmas.Bool.{and_parts, cases_Bool, cases_lt, eq-eqb, eqb-true, leb-true, ltb-true}
use Rattle.bus_strings.proofs.MemberLaws.{at_in, of_each}
use Rattle.bus_strings.proofs.OverlapLemmas.{ascending_is_by_moment, ordered_before}
use Rattle.bus_strings.specs.Members.{In}
use Rattle.bus_strings.specs.Messages.{Entry}
use Rattle.bus_strings.specs.Marking.{greatest_end}
use Rattle.bus_strings.specs.Transmissions.{IsAscending, IsByMoment, Precedes, carrier, end_of}
use Rattle.bus_timers.specs.Timings.{due_place}
use Rattle.bus_table.specs.Tables.{Sender, Table}
use Rattle.bus_table.specs.Timers.{quiet_of}
use Rattle.bus_trace.specs.Traces.{IsBelow}
use Rattle.bus_medium.specs.BusyLaws.{IsBusy}
use Rattle.bus_medium.specs.Past.{last_place}
use Rattle.bus_medium.specs.Past.{own as own_of}
use Rattle.bus_medium.specs.PastLaws.{NoneOf}
use Rattle.bus_medium.specs.Timings.{timing_of}
use Rattle.bus_medium.proofs.BusyLaws.{entry_is_busy}
use Rattle.bus_medium.proofs.PastLaws.{last_push, no_carrier, own_later, own_more}
use Rattle.bus_medium.proofs.Seats.{same_some}
use Rattle.bus_shapes.specs.Laws.{SentsAreTold}
use Rattle.bus_shapes.specs.Sending.{sent_of, sents, sents_from}
use Rattle.bus_shapes.specs.SendingLaws.{IsToldOf}
use Rattle.bus_shapes.specs.declared.sent.Sent.{Sent}
use Rattle.bus_picture.specs.GapLaws.{IntervalsAreAll, IntervalsAreTrue, LastIntervalsAreTrue, SyncGapsAreTrue}
use Rattle.bus_pen.specs.declared.scale.Scale.{Scale}
use Rattle.bus_picture.specs.Intervals.{last_start, next_start}
use Rattle.bus_picture.specs.Timers.{is_behind_gap}
use Rattle.bus_picture.proofs.GapLemmas.{rise_taken, taken}

-- ---- the last start
-- It is the start of one of them, or was there before.
last_in : (n : ℕ) (o : Option ℕ) (l : List Entry) (m : ℕ) → fold (next_start n) o l ≡ Some m
    → (o ≡ Some m) ⊎ ((y : Entry) × In y l × (y.terminal ≡ n) × (y.moment ≡ m))
last_in n o [] m h = inl h
last_in n o (x ∷ l) m h =
    elim (last_in n (next_start n o x) l m h) [
      | inr y ↦ inr (y.0, inr y.1, y.2, y.3)
      | inl here ↦ elim (cases_Bool (eqb x.terminal n)) [
        | inl own ↦
            let same : Some x.moment ≡ Some m = ap (λ b. cond b (Some x.moment) o) (sym own) ∙ here in
            inr (x, inl refl, eqb-true x.terminal n own, same_some x.moment m same)
        | inr other ↦ inl (ap (λ b. cond b (Some x.moment) o) (sym other) ∙ here)
      ]
    ]

last_of : (n : ℕ) (l : List Entry) (m : ℕ) → last_start n l ≡ Some m → (y : Entry) × In y l × (y.terminal ≡ n) × (y.moment ≡ m)
last_of n l m h = elim (last_in n None l m h) [ inl no' ↦ absurd (let k : None ≡ Some m = no' in cc) | inr y ↦ y ]

-- No start of the terminal is later.
last_low : (n : ℕ) (o : Option ℕ) (l : List Entry) (m : ℕ) → IsByMoment l → fold (next_start n) o l ≡ Some m
    → (y : Entry) → In y l → y.terminal ≡ n → y.moment ≤ m
last_low n o [] m rises h y i own = absurd i
last_low n o (x ∷ l) m rises h y (inr i) own = last_low n (next_start n o x) l m rises.1 h y i own
last_low n o (x ∷ l) m rises h y (inl e) own =
    let here : y.moment ≡ x.moment = ap (λ (z : Entry). z.moment) e in
    elim (last_in n (next_start n o x) l m h) [
      | inl now ↦
          let t : x.terminal ≡ n = ap (λ (z : Entry). z.terminal) (sym e) ∙ own in
          let same : Some x.moment ≡ Some m = ap (λ b. cond b (Some x.moment) o) (sym (eq-eqb x.terminal n t)) ∙ now in
          let is : x.moment ≡ m = same_some x.moment m same in
          omega arith
      | inr z ↦
          let low : x.moment ≤ z.0.moment = of_each (λ (z : Entry). x.moment ≤ z.moment) l rises.0 z.0 z.1 in
          let is : z.0.moment ≡ m = z.3 in
          omega arith
    ]

-- ---- the transmit interval
-- Up to where no other start of the sender comes, the interval from one start of it runs.
interval_runs : (table : Table) (sender : Sender) (l : List Entry) (e : Entry) (from to : ℕ) → IsAscending l → In e l → e.terminal ≡ sender.number
    → e.moment ≡ from → ((t : ℕ) → t ≤ to → NoneOf l sender.number (from + 1) t) → (t : ℕ) → from < t → t ≤ to
    → due_place (timing_of table sender) (last_place (quiet_of table) (own_of l sender.number t)) ≡ quiet_of table + (from + table.ti)
interval_runs table sender l e from to order there own moment none t low high =
    let q : ℕ = quiet_of table in
    let n : ℕ = sender.number in
    let last : last_place q (own_of l e.terminal (e.moment + 1)) ≡ Some (q + e.moment) =
    ap (last_place q) (own_more l e order there) ∙ last_push q (own_of l e.terminal e.moment) e in
    let here : last_place q (own_of l n (from + 1)) ≡ Some (q + from) =
    subst (λ (m : ℕ). last_place q (own_of l n (m + 1)) ≡ Some (q + m)) moment
    (subst (λ (k : ℕ). last_place q (own_of l k (e.moment + 1)) ≡ Some (q + e.moment)) own last) in
    ap (λ (o : List Entry). due_place (timing_of table sender) (last_place q o)) (own_later l n (from + 1) t (omega arith) (none t high))
    ∙ ap (due_place (timing_of table sender)) here ∙ (let s : q + from + table.ti ≡ q + (from + table.ti) = omega arith in s)

-- Of two starts of a terminal the one that stands before the other is earlier.
earlier : (k : ℕ) (l : List Entry) (e y : Entry) → IsAscending l → slice_get l k ≡ Some e → In y (take k l) → y.terminal ≡ e.terminal → y.moment < e.moment
earlier k l e y order at i same =
    elim (of_each (λ (z : Entry). Precedes z e) (take k l) (ordered_before Precedes l k e order at) y i) [
      | inl less ↦ less
      | inr at' ↦ let less : y.terminal < e.terminal = at'.1 in absurd (omega arith)
    ]

-- What is told of an entry is told of the list.
pub sent_in : (list : List Entry) (j k : ℕ) (xs : List Entry) (e : Entry) → slice_get xs k ≡ Some e → In (sent_of list (j + k) e) (sents_from list j xs)
sent_in list j k [] e at = absurd (let h : None ≡ Some e = at in cc)
sent_in list j zero (x ∷ xs) e at =
    let same : e ≡ x = sym (same_some x e at) in
    let here : j + 0 ≡ j = omega arith in
    inl (ap (λ n. sent_of list n e) here ∙ ap (sent_of list j) same)
sent_in list j (suc k) (x ∷ xs) e at =
    let next : j + 1 + k ≡ j + suc k = omega arith in
    inr (subst (λ n. In (sent_of list n e) (sents_from list (j + 1) xs)) next (sent_in list (j + 1) k xs e at))

-- Where the last start lies at a moment it does so up to the next start, or behind all.
up_to_next : (n : ℕ) (o : Option ℕ) (xs : List Entry) (m : ℕ) → o ≡ Some m
    → ((k : ℕ) × (e : Entry) × (slice_get xs k ≡ Some e) × (e.terminal ≡ n) × (fold (next_start n) o (take k xs) ≡ Some m))
    ⊎ (fold (next_start n) o xs ≡ Some m)
up_to_next n o [] m is = inr is
up_to_next n o (x ∷ xs) m is =
    elim (cases_Bool (eqb x.terminal n)) [
      | inl own ↦ inl (0, x, refl, eqb-true x.terminal n own, is)
      | inr other ↦ elim (up_to_next n (next_start n o x) xs m (ap (λ b. cond b (Some x.moment) o) other ∙ is)) [
        | inl r ↦ inl (suc r.0, r.1, r.2, r.3, r.4)
        | inr over ↦ inr over
      ]
    ]

-- So it is with each start.
each_start : (n : ℕ) (o : Option ℕ) (xs : List Entry) (y : Entry) → In y xs → y.terminal ≡ n
    → ((k : ℕ) × (e : Entry) × (slice_get xs k ≡ Some e) × (e.terminal ≡ n) × (fold (next_start n) o (take k xs) ≡ Some y.moment))
    ⊎ (fold (next_start n) o xs ≡ Some y.moment)
each_start n o [] y i own = absurd i
each_start n o (x ∷ xs) y (inr i) own =
    elim (each_start n (next_start n o x) xs y i own) [
      | inl r ↦ inl (suc r.0, r.1, r.2, r.3, r.4)
      | inr over ↦ inr over
    ]
each_start n o (x ∷ xs) y (inl here) own =
    let t : x.terminal ≡ n = ap (λ (z : Entry). z.terminal) (sym here) ∙ own in
    let now : next_start n o x ≡ Some y.moment =
    ap (λ b. cond b (Some x.moment) o) (eq-eqb x.terminal n t) ∙ ap (λ (z : Entry). Some z.moment) (sym here) in
    elim (up_to_next n (next_start n o x) xs y.moment now) [
      | inl r ↦ inl (suc r.0, r.1, r.2, r.3, r.4)
      | inr over ↦ inr over
    ]

pub intervals_are_all : IntervalsAreAll
intervals_are_all list n y there own =
    elim (each_start n None list y there own) [
      | inr over ↦ inr over
      | inl r ↦
          let whole : 0 + r.0 ≡ r.0 = omega arith in
          inl (sent_of list r.0 r.1, subst (λ j. In (sent_of list j r.1) (sents list)) whole (sent_in list 0 r.0 list r.1 r.2), r.3, r.4)
    ]

-- ---- the synchronization gap
ends_from : (a : ℕ) (xs : List Entry) → a ≤ fold (λ end (x : Entry). max end (end_of x)) a xs
ends_from a [] = omega arith
ends_from a (x ∷ xs) = omega (arith, ends_from (max a (end_of x)) xs)

ends_within : (a : ℕ) (xs : List Entry) (y : Entry) → In y xs → end_of y ≤ fold (λ end (x : Entry). max end (end_of x)) a xs
ends_within a [] y i = absurd i
ends_within a (x ∷ xs) y (inl e) = let t : end_of y ≡ end_of x = ap end_of e in omega (arith, ends_from (max a (end_of x)) xs)
ends_within a (x ∷ xs) y (inr i) = ends_within (max a (end_of x)) xs y i

-- The greatest end is that of one of them, or there was none so great.
ends_at : (a : ℕ) (xs : List Entry) → (fold (λ end (x : Entry). max end (end_of x)) a xs ≡ a)
    ⊎ ((y : Entry) × In y xs × (end_of y ≡ fold (λ end (x : Entry). max end (end_of x)) a xs))
ends_at a [] = inl refl
ends_at a (x ∷ xs) =
    elim (ends_at (max a (end_of x)) xs) [
      | inr y ↦ inr (y.0, inr y.1, y.2)
      | inl same ↦ elim (cases_lt a (end_of x)) [
        | inl less ↦ inr (x, inl refl, (let m : end_of x ≡ max a (end_of x) = omega arith in m) ∙ sym same)
        | inr more ↦ inl (same ∙ (let m : max a (end_of x) ≡ a = omega arith in m))
      ]
    ]

-- An entry stands before entry k, or begins no earlier than it.
pub before_or_later : (k : ℕ) (l : List Entry) (e y : Entry) → IsByMoment l → slice_get l k ≡ Some e → In y l → In y (take k l) ⊎ (e.moment ≤ y.moment)
before_or_later k [] e y rises at i = absurd i
before_or_later zero (x ∷ xs) e y rises at i =
    let same : x ≡ e = same_some x e at in
    let a : x.moment ≡ e.moment = ap (λ (z : Entry). z.moment) same in
    elim i [
      | inl here ↦ inr (let b : y.moment ≡ x.moment = ap (λ (z : Entry). z.moment) here in omega arith)
      | inr behind ↦ inr (let b : x.moment ≤ y.moment = of_each (λ (z : Entry). x.moment ≤ z.moment) xs rises.0 y behind in omega arith)
    ]
before_or_later (suc k) (x ∷ xs) e y rises at (inl here) = inl (inl here)
before_or_later (suc k) (x ∷ xs) e y rises at (inr i) =
    elim (before_or_later k xs e y rises.1 at i) [ inl earlier ↦ inl (inr earlier) | inr later ↦ inr later ]

sync_silent : (l : List Entry) (k sg u : ℕ) (e : Entry) → IsByMoment l → slice_get l k ≡ Some e
    → greatest_end (take k l) + sg ≤ e.moment → greatest_end (take k l) ≤ u → u < greatest_end (take k l) + sg → carrier l u ≡ false
sync_silent l k sg u e rises at behind low high =
    no_carrier l u (λ y i. elim (before_or_later k l e y rises at i) [
      | inl earlier ↦ inl (let w : end_of y ≤ greatest_end (take k l) = ends_within 0 (take k l) y earlier in omega arith)
      | inr later ↦ inr (omega arith)
    ])

-- What is asked of a transmission that has the gap before it.
gap_tests : (scale : Scale) (sg : ℕ) (x : Sent) → is_behind_gap scale sg x ≡ true → (0 < x.before) × (x.before + sg ≤ x.moment)
gap_tests scale sg x h =
    let begun : Bool = leb scale.from x.before in
    let early : Bool = ltb x.before scale.to in
    let whole : Bool = leb (x.before + sg) scale.to in
    let a = and_parts (ltb 0 x.before && begun && early && whole) (leb (x.before + sg) x.moment) h in
    let b = and_parts (ltb 0 x.before && begun && early) whole a.0 in
    let c = and_parts (ltb 0 x.before && begun) early b.0 in
    let d = and_parts (ltb 0 x.before) begun c.0 in
    (ltb-true 0 x.before d.0, leb-true (x.before + sg) x.moment a.1)

-- Where it is no 0, there was carrier right before it.
sync_behind : (l : List Entry) (k : ℕ) → ((y : Entry) → In y l → 0 < length y.message) → 0 < greatest_end (take k l)
    → carrier l (greatest_end (take k l) - 1) ≡ true
sync_behind l k words some =
    elim (ends_at 0 (take k l)) [
      | inl none ↦ absurd (omega arith)
      | inr y ↦
          let there : In y.0 l = taken k l y.0 y.1 in
          let busy : IsBusy l y.0.moment (end_of y.0) = entry_is_busy l y.0 there (words y.0 there) in
          ap (λ (u : ℕ). carrier l (u - 1)) (sym y.2) ∙ busy.final
    ]

-- ---- the laws
pub intervals_are_true : SentsAreTold → IntervalsAreTrue
intervals_are_true told table trace sender x from recorded shown own last =
    let l : List Entry = trace.list in
    let n : ℕ = sender.number in
    let is : IsToldOf l x = told l x shown in
    let e : Entry = is.entry in
    let rises : IsByMoment l = ascending_is_by_moment l recorded.order in
    let moment : e.moment ≡ x.moment = sym (ap (λ (s : Sent). s.moment) is.told) in
    let terminal : e.terminal ≡ n = sym (ap (λ (s : Sent). s.terminal) is.told) ∙ own in
    let s = last_of n (take x.at l) from last in
    let there : In s.0 l = taken x.at l s.0 s.1 in
    let from_is : s.0.moment ≡ from = s.3 in
    let later : s.0.moment < e.moment = earlier x.at l e s.0 recorded.order is.at s.1 (s.2 ∙ sym terminal) in
    let none : (t : ℕ) → t ≤ min (from + table.ti) x.moment → NoneOf l n (from + 1) t =
    λ t high y i o low less. elim (before_or_later x.at l e y rises is.at i) [
      | inl before ↦
          let most : y.moment ≤ from = last_low n None (take x.at l) from (rise_taken x.at l rises) last y before o in
          omega arith
      | inr behind ↦ omega arith
    ] in
    record {
      begins = (s.0, there, s.2, s.3);
      runs = interval_runs table sender l s.0 from (min (from + table.ti) x.moment) recorded.order there s.2 s.3 none;
      ends = elim (cases_lt x.moment (from + table.ti)) [
        | inl early ↦ inr (e, at_in l x.at e is.at, terminal, (let m : e.moment ≡ min (from + table.ti) x.moment = omega arith in m), (let less : from < e.moment = omega arith in less))
        | inr late ↦ inl (let m : min (from + table.ti) x.moment ≡ from + table.ti = omega arith in m)
      ];
      short = omega arith;
    }

pub last_intervals_are_true : LastIntervalsAreTrue
last_intervals_are_true table trace sender from recorded last =
    let l : List Entry = trace.list in
    let n : ℕ = sender.number in
    let rises : IsByMoment l = ascending_is_by_moment l recorded.order in
    let s = last_of n l from last in
    let none : (t : ℕ) → t ≤ from + table.ti → NoneOf l n (from + 1) t =
    λ t high y i o low less. let most : y.moment ≤ from = last_low n None l from rises last y i o in omega arith in
    record {
      begins = s;
      runs = interval_runs table sender l s.0 from (from + table.ti) recorded.order s.1 s.2 s.3 none;
      ends = inl refl;
      short = omega arith;
    }

pub sync_gaps_are_true : SentsAreTold → SyncGapsAreTrue
sync_gaps_are_true told scale sg trace x recorded shown behind =
    let l : List Entry = trace.list in
    let is : IsToldOf l x = told l x shown in
    let rises : IsByMoment l = ascending_is_by_moment l recorded.order in
    let moment : x.moment ≡ is.entry.moment = ap (λ (s : Sent). s.moment) is.told in
    let before : x.before ≡ greatest_end (take x.at l) = ap (λ (s : Sent). s.before) is.told in
    let words : (y : Entry) → In y l → 0 < length y.message = λ y i. (of_each (IsBelow trace.horizon) l recorded.list y i).message.some in
    let tests = gap_tests scale sg x behind in
    let some : 0 < x.before = tests.0 in
    let far : x.before + sg ≤ x.moment = tests.1 in
    record {
      behind = ap (λ (t : ℕ). carrier l (t - 1)) before ∙ sync_behind l x.at words (omega arith);
      silent = λ u low high. sync_silent l x.at sg u is.entry rises is.at (omega arith) (omega arith) (omega arith);
    }
