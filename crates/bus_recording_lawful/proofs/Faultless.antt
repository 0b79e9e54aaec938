-- Where clocks are exact and nothing is delayed, what is found is told by the lengths of the table.
use Rattle.std.specs.Prelude.{◌==◌}
use Rattle.std.specs.Int.{div_ceil}
use Rattle.std.proofs.Common.{◌≡◌, ℕ, ◌+◌, ◌-◌, ◌*◌, cond, List, [], ◌∷◌, Some, None, inl, inr, arith, refl, ap, sym, subst, ◌∙◌}
use Rattle.std.proofs.lemmas.Bool.{cases_Bool, le-leb}
use Rattle.bus_strings.specs.Limits.{inner_gap}
use Rattle.bus_strings.specs.Members.{In}
use Rattle.bus_strings.specs.Messages.{Entry, bits}
use Rattle.bus_table.specs.Fits.{sender_of}
use Rattle.bus_table.specs.Tables.{Sender, Table}
use Rattle.bus_bounds.specs.Bounds.{drift, short, long}
use Rattle.bus_audit.specs.Meaning.{IsFitting, IsRight, NoBreachIsRight}
use Rattle.bus_recording.specs.Findings.{IsClean}
use Rattle.bus_recording.specs.Monitors.{monitor_of}
use Rattle.bus_recording.specs.Seen.{Seen, Bounds as TimerBounds}
use Rattle.bus_findings.specs.Laws.{GoodBusHasNoFault}
use Rattle.bus_findings.specs.Recorded as found
use Rattle.bus_recording_lawful.specs.Faultless.{exact_bounds, LawfulHasNoFault}
use Rattle.bus_recording_lawful.specs.Lawful.{AuditedIsClean, IsOver, recorded, seen, table_bounds}

-- ---- the bounds

no_drift : (n : ℕ) → drift 0 n ≡ 0
unfolding drift
no_drift n = let none : n * 0 ≡ 0 = omega arith in ap (λ m. div_ceil m 1000000) none

short_is : (n : ℕ) → short exact_bounds n ≡ n
short_is n = let none : drift 0 n ≡ 0 = no_drift n in omega (arith, none)

long_is : (n : ℕ) → long exact_bounds n ≡ n
long_is n = let none : drift 0 n ≡ 0 = no_drift n in omega (arith, none)

bounds_with : ℕ → ℕ → ℕ → ℕ → ℕ → ℕ → TimerBounds
bounds_with a b c d e f = record { short = record { ti = a; sg = b; tg = c }; long = record { ti = d; sg = e; tg = f } }

timers_are : (table : Table) (sender : Sender) → table_bounds table sender ≡ found.timers_of exact_bounds table sender
unfolding bounds_with
timers_are table sender =
    let a : ℕ = table.ti in
    let b : ℕ = table.sg in
    let c : ℕ = sender.tg in
    sym (ap (λ n. bounds_with n (short exact_bounds b) (short exact_bounds c) (long exact_bounds a) (long exact_bounds b) (long exact_bounds c)) (short_is a)
    ∙ ap (λ n. bounds_with a n (short exact_bounds c) (long exact_bounds a) (long exact_bounds b) (long exact_bounds c)) (short_is b)
    ∙ ap (λ n. bounds_with a b n (long exact_bounds a) (long exact_bounds b) (long exact_bounds c)) (short_is c)
    ∙ ap (λ n. bounds_with a b c n (long exact_bounds b) (long exact_bounds c)) (long_is a)
    ∙ ap (λ n. bounds_with a b c a n (long exact_bounds c)) (long_is b)
    ∙ ap (λ n. bounds_with a b c a b n) (long_is c))

-- ---- the recording

seen_with : Entry → ℕ → ℕ → Seen
seen_with x a b = record { moment = x.moment; sender = x.terminal; soonest = x.moment + a; latest = x.moment + b }

seen_is : (x : Entry) → seen x ≡ found.seen exact_bounds x
unfolding seen_with
seen_is x =
    let n : ℕ = bits x.message in
    let none : drift 0 n ≡ 0 = no_drift n in
    let less : n ≡ n - drift 0 n = omega (arith, none) in
    let more : n ≡ n + drift 0 n = omega (arith, none) in
    ap (λ k. seen_with x k n) less ∙ ap (λ k. seen_with x (n - drift 0 n) k) more

all_seen : (list : List Entry) → recorded 0 list ≡ found.recorded exact_bounds list
all_seen [] = refl
all_seen (x ∷ list) =
    ap (λ b. cond b (seen x ∷ recorded 0 list) (recorded 0 list)) (le-leb 0 x.moment (omega arith))
    ∙ ap (λ r. r ∷ recorded 0 list) (seen_is x) ∙ ap (λ l. found.seen exact_bounds x ∷ l) (all_seen list)

-- ---- the senders

found_in : (senders : List Sender) (n : ℕ) (s : Sender) → sender_of senders n ≡ Some s → In s senders
found_in [] n s h = absurd (let e : None ≡ Some s = h in cc)
found_in (t ∷ senders) n s h =
    elim (cases_Bool (t.number == n)) [
      | inl holds ↦ (let e : Some t ≡ Some s = sym (ap (λ b. cond b (Some t) (sender_of senders n)) holds) ∙ h in inl (let same : s ≡ t = cc e in same))
      | inr fails ↦ inr (found_in senders n s (sym (ap (λ b. cond b (Some t) (sender_of senders n)) fails) ∙ h))
    ]

clean_is : (table : Table) (list : List Entry) (sender : Sender)
    → IsClean (table_bounds table sender) (monitor_of 0 (inner_gap + 1) (found.settled_of exact_bounds table)) (recorded 0 list) sender.number
    → IsClean (found.timers_of exact_bounds table sender) (found.monitor_of exact_bounds table) (found.recorded exact_bounds list) sender.number
clean_is table list sender clean =
    subst (λ timers. IsClean timers (found.monitor_of exact_bounds table) (found.recorded exact_bounds list) sender.number) (timers_are table sender)
    (subst (λ all. IsClean (table_bounds table sender) (found.monitor_of exact_bounds table) all sender.number) (all_seen list) clean)

over : (table : Table) (list : List Entry) → IsOver 0 0 (found.settled_of exact_bounds table) list
over table list = record { most = λ x i before. absurd (omega (arith, before)); over = omega arith }

pub lawful_no_fault : AuditedIsClean → NoBreachIsRight → GoodBusHasNoFault → LawfulHasNoFault
lawful_no_fault audited right good table trace valid is none =
    let r : IsRight table trace = (right table trace valid is).0 none in
    good exact_bounds table trace is
    (λ x i. (let f : IsFitting table x = r.fitting x i in record { sender = f.sender; sender_is = f.there; fitting = f.fit }))
    (λ sender mine. clean_is table trace.list sender
    (audited table trace sender 0 0 (found.settled_of exact_bounds table) valid is none (found_in table.senders sender.number sender mine) (over table trace.list)))
