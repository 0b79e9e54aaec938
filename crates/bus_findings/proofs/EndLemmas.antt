-- Who is silent at the end was due, and nobody else.
use Rattle.std.specs.Prelude.{nat_lt, ◌==◌}
use Rattle.std.specs.Option.{option_map_or}
use Rattle.std.proofs.Common.{◌≡◌, ℕ, ◌<◌, ◌≤◌, List, Option, Some, None, inl, inr, arith, ap, sym, subst, ◌∙◌}
use Rattle.std.proofs.lemmas.Bool.{and_parts, and_from, eq-eqb, eqb-true, lt-ltb}
use Rattle.bus_strings.proofs.MemberLaws.{of_each}
use Rattle.bus_table.specs.Tables.{Sender, Table}
use Rattle.bus_trace.specs.Traces.{Recording, IsTrace, IsBelow}
use Rattle.bus_bounds.specs.Bounds.{Bounds}
use Rattle.bus_recording.specs.Seen.{Seen, IsIn}
use Rattle.bus_findings.specs.declared.judgement.Due.{Due}
use Rattle.bus_findings.specs.Dues.{due_of}
use Rattle.bus_findings.specs.Judging.{last_start}
use Rattle.bus_findings.specs.Laws.{IsLastStart, SilentIsDue, NotSilentIsNotDue}
use Rattle.bus_findings.specs.Recorded.{seen, recorded, monitor_of, timers_of}
use Rattle.bus_findings.specs.Silences.{silence_of}
use Rattle.bus_findings.proofs.SeenLemmas.{is_in, in_is, recorded_is}
use Rattle.bus_findings.proofs.DueLemmas.{cases_option, due_told, not_due}
use Rattle.bus_findings.proofs.WalkLemmas.{ascends}
use Rattle.bus_findings.proofs.JustLemmas.{last_none, last_is, last_test}
use Rattle.bus_findings.proofs.FileLemmas.{one_start}

-- all that is recorded begins before the horizon
below : (bounds : Bounds) (trace : Recording) (r : Seen) → IsTrace trace → IsIn r (recorded bounds trace.list) → r.moment < trace.horizon
below bounds trace r t i =
    let w = recorded_is bounds trace.list r i in
    let b = of_each (IsBelow trace.horizon) trace.list t.list w.0 w.1 in
    subst (λ (q : Seen). q.moment < trace.horizon) w.2 b.moment

last_start_is : (bounds : Bounds) (trace : Recording) (number : ℕ) (o : Seen) → IsTrace trace
    → last_start (recorded bounds trace.list) number trace.horizon ≡ Some o → IsLastStart (recorded bounds trace.list) number o
unfolding last_test
last_start_is bounds trace number o t is =
    let all : List Seen = recorded bounds trace.list in
    let w = last_is (last_test number trace.horizon) all o (ascends bounds trace.list t.order) is in
    let p = and_parts (o.sender == number) (nat_lt o.moment trace.horizon) w.passes in
    record {
      there = is_in all o w.there;
      mine = eqb-true o.sender number p.0;
      last = λ r i mine. w.last r (in_is all r i) (and_from _ _ (eq-eqb r.sender number mine) (lt-ltb r.moment trace.horizon (below bounds trace r t i)));
    }

-- there is no more than one, and it is found
same_last : (bounds : Bounds) (trace : Recording) (number : ℕ) (o q : Seen) → IsTrace trace → IsLastStart (recorded bounds trace.list) number o
    → IsLastStart (recorded bounds trace.list) number q → o ≡ q
same_last bounds trace number o q t a b =
    let x = recorded_is bounds trace.list o a.there in
    let z = recorded_is bounds trace.list q b.there in
    let moments : x.0.moment ≡ z.0.moment = ap (λ (r : Seen). r.moment) x.2
    ∙ (let low : o.moment ≤ q.moment = b.last o a.there a.mine in let high : q.moment ≤ o.moment = a.last q b.there b.mine in omega (arith, low, high))
    ∙ sym (ap (λ (r : Seen). r.moment) z.2) in
    let numbers : x.0.terminal ≡ z.0.terminal = ap (λ (r : Seen). r.sender) x.2 ∙ a.mine ∙ sym (ap (λ (r : Seen). r.sender) z.2 ∙ b.mine) in
    sym x.2 ∙ ap (seen bounds) (one_start trace.list x.0 z.0 t.order x.1 z.1 moments numbers) ∙ z.2

found_last : (bounds : Bounds) (trace : Recording) (number : ℕ) (o : Seen) → IsTrace trace → IsLastStart (recorded bounds trace.list) number o
    → last_start (recorded bounds trace.list) number trace.horizon ≡ Some o
unfolding last_test
found_last bounds trace number o t l =
    let all : List Seen = recorded bounds trace.list in
    elim (cases_option (last_start all number trace.horizon)) [
      | inl none ↦
          absurd (last_none (last_test number trace.horizon) all o none (in_is all o l.there)
          (and_from _ _ (eq-eqb o.sender number l.mine) (lt-ltb o.moment trace.horizon (below bounds trace o t l.there))))
      | inr some ↦ some.1 ∙ ap Some (same_last bounds trace number some.0 o t (last_start_is bounds trace number some.0 t some.1) l)
    ]

-- what is due behind a start that may be
due_behind : Bounds → Table → Recording → Sender → Option Seen → Option Due
due_behind bounds table trace sender last =
    option_map_or (λ o. due_of (timers_of bounds table sender) (monitor_of bounds table) (recorded bounds trace.list) o trace.horizon) last None

pub silent_is_due : SilentIsDue
unfolding silence_of due_behind
silent_is_due bounds table trace sender due t silent =
    let all : List Seen = recorded bounds trace.list in
    elim (cases_option (last_start all sender.number trace.horizon)) [
      | inl none ↦ absurd (let q : None ≡ Some due = sym (ap (due_behind bounds table trace sender) none) ∙ silent in cc)
      | inr some ↦ (
        some.0,
        last_start_is bounds trace sender.number some.0 t some.1,
        due_told (timers_of bounds table sender) (monitor_of bounds table) all some.0 trace.horizon due
            (sym (ap (due_behind bounds table trace sender) some.1) ∙ silent),
      )
    ]

pub not_silent_is_not_due : NotSilentIsNotDue
unfolding silence_of due_behind
not_silent_is_not_due bounds table trace sender o u t silent l low over =
    not_due (timers_of bounds table sender) (monitor_of bounds table) (recorded bounds trace.list) o trace.horizon u
    (sym (ap (due_behind bounds table trace sender) (found_last bounds trace sender.number o t l)) ∙ silent) low over
