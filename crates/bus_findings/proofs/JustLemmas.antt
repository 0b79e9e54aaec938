-- Whoever keeps its bounds is told no fault by a timer.
use Rattle.std.specs.Prelude.{nat_lt, ◌==◌, option_map}
use Rattle.std.specs.Option.{option_map_or, option_or}
use Rattle.std.proofs.Common.{◌≡◌, ℕ, ◌+◌, ◌<◌, ◌≤◌, Bool, true, cond, ◌&&◌, List, [], ◌∷◌, Option, Some, None, inl, inr, arith, refl, ap, sym, subst, ◌∙◌}
use Rattle.std.proofs.lemmas.Bool.{cases_lt, cases_Bool, and_parts, and_from, eq-eqb, eqb-true, ltb-true, lt-ltb}
use Rattle.bus_strings.specs.Members.{In}
use Rattle.bus_strings.specs.Messages.{Entry}
use Rattle.bus_table.specs.Tables.{Sender, Table}
use Rattle.bus_trace.specs.Traces.{Recording, IsTrace}
use Rattle.bus_bounds.specs.Bounds.{Bounds}
use Rattle.bus_recording.specs.Seen.{Seen, IsIn, IsNext, Monitor, Bounds as TimerBounds}
use Rattle.bus_recording.specs.Findings.{IsEarlyByInterval, IsEarlyByGap, IsEarlyBySync, IsLate, IsClean}
use Rattle.bus_recording.specs.Just.{FindingsAreJust}
use Rattle.bus_recording.specs.Walk.{Ascends}
use Rattle.bus_findings.specs.declared.judgement.Due.{Due}
use Rattle.bus_findings.specs.declared.judgement.Judgement.{Judgement}
use Rattle.bus_findings.specs.Amounts.{IsAmount}
use Rattle.bus_findings.specs.Dues.{due_of}
use Rattle.bus_findings.specs.Judging.{last_such, last_start, judgement_of, of_sender, late_by}
use Rattle.bus_findings.specs.Lacks.{interval_lack, gap_lack, sync_lack}
use Rattle.bus_findings.specs.Laws.{IsUnblamed, IsOfSender, KeepersAreUnblamed, AreAmounts, AmountsAreTold, GapIsTold, IsLateSince, LateIsTold, lateness}
use Rattle.bus_findings.specs.Recorded.{seen, recorded, monitor_of, timers_of}
use Rattle.bus_findings.proofs.SeenLemmas.{is_in, in_is, is_recorded}
use Rattle.bus_findings.proofs.LackLemmas.{interval_is, gap_is, sync_is}
use Rattle.bus_findings.proofs.DueLemmas.{cases_option, due_first, due_told, lateness_is}
use Rattle.bus_findings.proofs.WalkLemmas.{ascends, early_less}
use Rattle.bus_findings.proofs.SenderLemmas.{same_some, found_number, judged_sender}

-- an amount of what is never so is 0
none_so : (P : ℕ → Type 0) (n : ℕ) → IsAmount P n → ((m : ℕ) → 0 < m → P m → ⊥) → n ≡ 0
none_so P n is never = elim (cases_lt 0 n) [ inl some ↦ absurd (never n some (is.so some)) | inr none ↦ omega arith ]

-- ---- the last start is the one before

pub last_none : (p : Seen → Bool) → (xs : List Seen) (z : Seen) → last_such p xs ≡ None → In z xs → p z ≡ true → ⊥
last_none p [] z none i e = i
last_none p (x ∷ xs) z none i e =
    elim (cases_option (last_such p xs)) [
      | inr some ↦ (let q : Some some.0 ≡ None = sym (ap (λ o. option_or o (cond (p x) (Some x) None)) some.1) ∙ none in cc)
      | inl rest ↦
          let here : cond (p x) (Some x) None ≡ None = sym (ap (λ o. option_or o (cond (p x) (Some x) None)) rest) ∙ none in
          elim i [
            | inl same ↦ (let q : Some x ≡ None = sym (ap (λ b. cond b (Some x) None) (sym (ap p same) ∙ e)) ∙ here in cc)
            | inr later ↦ last_none p xs z rest later e
          ]
    ]

pub record IsLastSuch (p : Seen → Bool) (xs : List Seen) (o : Seen) : Type 0 where
  pub there : In o xs
  pub passes : p o ≡ true
  pub last : (z : Seen) → In z xs → p z ≡ true → z.moment ≤ o.moment

pub last_is : (p : Seen → Bool) → (xs : List Seen) (o : Seen) → Ascends xs → last_such p xs ≡ Some o → IsLastSuch p xs o
last_is p [] o up e = absurd (let q : None ≡ Some o = e in cc)
last_is p (x ∷ xs) o up e =
    elim (cases_option (last_such p xs)) [
      | inr some ↦
          let same : some.0 ≡ o = same_some some.0 o (sym (ap (λ w. option_or w (cond (p x) (Some x) None)) some.1) ∙ e) in
          let w = last_is p xs o up.1 (some.1 ∙ ap Some same) in
          record {
            there = inr w.there;
            passes = w.passes;
            last = λ z i t. elim i [
              | inl is ↦ (let m : z.moment ≡ x.moment = ap (λ (r : Seen). r.moment) is in let low : x.moment ≤ o.moment = up.0 o (is_in xs o w.there) in omega arith)
              | inr later ↦ w.last z later t
            ];
          }
      | inl rest ↦
          let here : cond (p x) (Some x) None ≡ Some o = sym (ap (λ w. option_or w (cond (p x) (Some x) None)) rest) ∙ e in
          elim (cases_Bool (p x)) [
            | inl holds ↦
                let same : x ≡ o = same_some x o (sym (ap (λ b. cond b (Some x) None) holds) ∙ here) in
                record {
                  there = inl (sym same);
                  passes = sym (ap p same) ∙ holds;
                  last = λ z i t. elim i [
                    | inl is ↦ (let m : z.moment ≡ o.moment = ap (λ (r : Seen). r.moment) (is ∙ same) in omega arith)
                    | inr later ↦ absurd (last_none p xs z rest later t)
                  ];
                }
            | inr fails ↦ absurd (let q : None ≡ Some o = sym (ap (λ b. cond b (Some x) None) fails) ∙ here in cc)
          ]
    ]

unfoldable pub last_test : ℕ → ℕ → Seen → Bool
last_test number moment r = r.sender == number && nat_lt r.moment moment

pub next_is : (bounds : Bounds) (trace : Recording) (x : Entry) (o : Seen) → IsTrace trace → In x trace.list
    → last_start (recorded bounds trace.list) x.terminal x.moment ≡ Some o → IsNext (recorded bounds trace.list) o (seen bounds x)
unfolding last_test
next_is bounds trace x o t i is =
    let all : List Seen = recorded bounds trace.list in
    let w = last_is (last_test x.terminal x.moment) all o (ascends bounds trace.list t.order) is in
    let p = and_parts (o.sender == x.terminal) (nat_lt o.moment x.moment) w.passes in
    record {
      there = is_in all o w.there;
      here = is_recorded bounds trace.list x i;
      same = eqb-true o.sender x.terminal p.0;
      behind = ltb-true o.moment x.moment p.1;
      next = λ z inside mine later. elim (cases_lt z.moment x.moment) [
        | inr fine ↦ fine
        | inl less ↦
            let low : z.moment ≤ o.moment = w.last z (in_is all z inside) (and_from _ _ (eq-eqb z.sender x.terminal mine) (lt-ltb z.moment x.moment less)) in
            absurd (omega (arith, low, later))
      ];
    }

-- ---- who is clean is told nothing

gap_less : (timers : TimerBounds) (monitor : Monitor) (recording : List Seen) (y : Seen) (m : ℕ) → 0 < m → IsEarlyByGap timers monitor m recording y
    → IsEarlyByGap timers monitor 1 recording y
gap_less timers monitor recording y m some h =
    let early : y.moment + m ≤ h.other.soonest + timers.short.tg = h.early in
    record { wide = h.wide; other = h.other; there = h.there; begun = h.begun; early = omega arith }

clean_first : (timers : TimerBounds) (monitor : Monitor) (recording : List Seen) (k : ℕ) (y : Seen) → IsClean timers monitor recording k → IsIn y recording → y.sender ≡ k
    → gap_lack timers monitor recording y ≡ 0
clean_first timers monitor recording k y clean i mine =
    none_so (λ n. IsEarlyByGap timers monitor n recording y) (gap_lack timers monitor recording y) (gap_is timers monitor recording y)
    (λ m some h. clean.each y i mine (gap_less timers monitor recording y m some h))

record AreNone (timers : TimerBounds) (monitor : Monitor) (recording : List Seen) (o y : Seen) : Type 0 where
  interval : interval_lack timers o y ≡ 0
  sync : sync_lack timers monitor recording o y ≡ 0
  due : due_of timers monitor recording o y.moment ≡ None

clean_next : (timers : TimerBounds) (monitor : Monitor) (recording : List Seen) (k : ℕ) (o y : Seen) → 0 < monitor.drop → IsClean timers monitor recording k
    → IsNext recording o y → y.sender ≡ k → AreNone timers monitor recording o y
clean_next timers monitor recording k o y drop clean next mine =
    let none = clean.next o y next mine in
    record {
      interval = none_so (λ n. IsEarlyByInterval timers n o y) (interval_lack timers o y) (interval_is timers o y)
          (λ m some h. none.by_interval (let e : y.moment + m ≤ o.moment + timers.short.ti = h in omega (arith, e, some)));
      sync = none_so (λ n. IsEarlyBySync timers monitor n recording o y) (sync_lack timers monitor recording o y) (sync_is timers monitor recording o y drop)
          (λ m some h. none.by_sync (early_less timers monitor recording o y m some h));
      due = elim (cases_option (due_of timers monitor recording o y.moment)) [
        | inl never ↦ never
        | inr some ↦
            let f = due_first timers monitor recording o y.moment some.0 some.1 in
            let before : some.0.moment < y.moment = f.before in
            absurd (none.late (record { due = some.0.moment; early = omega (arith, before); over = f.over }))
      ];
    }

unblamed_same : (a b : Judgement) → a ≡ b → IsUnblamed a → IsUnblamed b
unblamed_same a b e u = subst IsUnblamed e u

pub clean_unblamed : (bounds : Bounds) (table : Table) (trace : Recording) (sender : Sender) (x : Entry) → IsTrace trace
    → IsClean (timers_of bounds table sender) (monitor_of bounds table) (recorded bounds trace.list) sender.number → IsOfSender table trace sender x
    → IsUnblamed (judgement_of bounds table trace.list x)
clean_unblamed bounds table trace sender x t clean is =
    let timers = timers_of bounds table sender in
    let monitor = monitor_of bounds table in
    let all : List Seen = recorded bounds trace.list in
    let y : Seen = seen bounds x in
    let mine : x.terminal ≡ sender.number = sym (found_number table.senders x.terminal sender is.sender_is) in
    let gap : gap_lack timers monitor all y ≡ 0 = clean_first timers monitor all sender.number y clean (is_recorded bounds trace.list x is.there) mine in
    let last : Option Seen = last_start all x.terminal x.moment in
    unblamed_same (of_sender bounds table trace.list sender x last) (judgement_of bounds table trace.list x)
    (sym (judged_sender bounds table trace.list x sender is.sender_is)) (elim (cases_option last) [
      | inl none ↦ unblamed_same (of_sender bounds table trace.list sender x None) (of_sender bounds table trace.list sender x last)
          (ap (of_sender bounds table trace.list sender x) (sym none)) (record { interval = refl; sync_gap = refl; terminal_gap = gap; late = refl })
      | inr some ↦
          let n = clean_next timers monitor all sender.number some.0 y (omega arith) clean (next_is bounds trace x some.0 t is.there some.1) mine in
          unblamed_same (of_sender bounds table trace.list sender x (Some some.0)) (of_sender bounds table trace.list sender x last)
          (ap (of_sender bounds table trace.list sender x) (sym some.1))
          (record { interval = n.interval; sync_gap = n.sync; terminal_gap = gap; late = ap (option_map (late_by all y)) n.due })
    ])

pub keepers_unblamed : FindingsAreJust → KeepersAreUnblamed
keepers_unblamed just bounds table trace sender x t k is =
    clean_unblamed bounds table trace sender x t
    (just k.course (monitor_of bounds table) sender.number k.from k.ahead k.sway k.noted (recorded bounds trace.list) k.kept (timers_of bounds table sender)
    k.keeps k.within k.recording) is

-- ---- the amounts

late_amount : (all : List Seen) (y : Seen) (due : Option Due) → lateness due y ≡ option_map_or (λ late. late.amount) (option_map (late_by all y) due) 0
late_amount all y None = refl
late_amount all y (Some due) = refl

pub amounts_told : AmountsAreTold
amounts_told bounds table trace sender x o is last =
    let timers = timers_of bounds table sender in
    let monitor = monitor_of bounds table in
    let all : List Seen = recorded bounds trace.list in
    let y : Seen = seen bounds x in
    let e : of_sender bounds table trace.list sender x (Some o) ≡ judgement_of bounds table trace.list x =
    ap (of_sender bounds table trace.list sender x) (sym last) ∙ sym (judged_sender bounds table trace.list x sender is.sender_is) in
    let told : AreAmounts timers monitor all o y (of_sender bounds table trace.list sender x (Some o)) = record {
      interval = interval_is timers o y;
      sync_gap = sync_is timers monitor all o y (omega arith);
      terminal_gap = gap_is timers monitor all y;
      late = subst (IsAmount (λ n. IsLate timers monitor n all o y)) (late_amount all y (due_of timers monitor all o x.moment)) (lateness_is timers monitor all o y);
    } in
    subst (AreAmounts timers monitor all o y) e told

pub gap_told : GapIsTold
gap_told bounds table trace sender x is =
    subst (IsAmount (λ n. IsEarlyByGap (timers_of bounds table sender) (monitor_of bounds table) n (recorded bounds trace.list) (seen bounds x)))
    (ap (λ (j : Judgement). j.terminal_gap) (sym (judged_sender bounds table trace.list x sender is.sender_is)))
    (gap_is (timers_of bounds table sender) (monitor_of bounds table) (recorded bounds trace.list) (seen bounds x))

late_since : (timers : TimerBounds) (monitor : Monitor) (recording : List Seen) (o y : Seen) (due : Due)
    → due_of timers monitor recording o y.moment ≡ Some due → IsLateSince timers monitor recording o y (late_by recording y due) due.moment
late_since timers monitor recording o y due is =
    let f = due_told timers monitor recording o y.moment due is in
    let before : due.moment < y.moment = f.over.before in
    record { since = f; amount = omega (arith, before); passed = refl }

pub late_told : LateIsTold
late_told bounds table trace sender x o late is last told =
    let timers = timers_of bounds table sender in
    let monitor = monitor_of bounds table in
    let all : List Seen = recorded bounds trace.list in
    let y : Seen = seen bounds x in
    let e : judgement_of bounds table trace.list x ≡ of_sender bounds table trace.list sender x (Some o) =
    judged_sender bounds table trace.list x sender is.sender_is ∙ ap (of_sender bounds table trace.list sender x) last in
    let found : option_map (late_by all y) (due_of timers monitor all o x.moment) ≡ Some late = sym (ap (λ (j : Judgement). j.late) e) ∙ told in
    elim (cases_option (due_of timers monitor all o x.moment)) [
      | inl none ↦ absurd (let q : None ≡ Some late = sym (ap (option_map (late_by all y)) none) ∙ found in cc)
      | inr some ↦ (
        some.0.moment,
        subst (λ l. IsLateSince timers monitor all o y l some.0.moment)
            (same_some (late_by all y some.0) late (sym (ap (option_map (late_by all y)) some.1) ∙ found)) (late_since timers monitor all o y some.0 some.1),
      )
    ]
