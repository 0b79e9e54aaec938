-- What the senders of a valid table do with hands that fit has no breach.
use Rattle.std.proofs.Common.{◌≡◌, ℕ, ◌<◌, true, List, length, Some, None, inl, inr, arith, sym, ap, ◌∙◌, subst}
use Rattle.std.specs.Prelude.{slice_get}
use Rattle.bus_timers.specs.MayStart.{MayStart}
use Rattle.bus_timers.specs.MayStartTest.{TestDecides}
use Rattle.bus_strings.proofs.MemberLaws.{at_in, pass_in}
use Rattle.bus_strings.specs.Messages.{Entry, Message}
use Rattle.bus_table.specs.Tables.{Sender, Table, Hand}
use Rattle.bus_table.specs.Fits.{fits, sender_of}
use Rattle.bus_trace.specs.Traces.{Recording}
use Rattle.bus_medium.specs.Past.{past, own, last_place}
use Rattle.bus_medium.specs.Lawful.{Station, IsDue, IsNext}
use Rattle.bus_medium.specs.Timings.{quiet_of, stations_of}
use Rattle.bus_medium.proofs.StationLaws.{IsStationOf, HasSender, HasStation, stations_are_of_senders, senders_have_stations}
use Rattle.bus_audit.specs.Breaches.{held, entry_at, has_left, may}
use Rattle.bus_audit.specs.Meaning.{NoBreachIsRight}
use Rattle.bus_audit.specs.Observed.{StatesHands, ObservedIsRight, ObservedIsClean}
use Rattle.bus_audit.proofs.Lists.{cases_option}
use Rattle.bus_audit.proofs.Pairs.{left_test, from_left_test, may_test, from_may_test, EntryAt, from_entry_at, SenderAt, from_sender_of, kind_is, flaw_is, lack_none, entry_is_at}
use Rattle.bus_audit.proofs.Silence.{sender_is_of}
use Rattle.bus_audit.proofs.Going.{seated}

-- a sender holds as many messages as its station has
station_held : (table : Table) (hands : List Hand) (trace : Recording) (s : Sender) (r : Station) → StatesHands hands trace → IsStationOf table hands s r → length r.hand ≡ held trace.holds s.number
station_held table hands trace s r states is = ap length is.messages ∙ sym (states is.hand is.dealt) ∙ ap (held trace.holds) is.terminal

-- when a station may start, by its number and timing
abbrev MayAt : Table → Recording → ℕ → Station → ℕ → Type 0
MayAt table trace t r n = MayStart r.timing (past (quiet_of table) trace.list t) (last_place (quiet_of table) (own trace.list n t))

-- a station is due where its sender has a message left and may start
due_from : (table : Table) (hands : List Hand) (trace : Recording) (s : Sender) (r : Station) (t : ℕ) → TestDecides → StatesHands hands trace → IsStationOf table hands s r
    → has_left trace s t ≡ true → may table trace s t ≡ true → IsDue (quiet_of table) trace.list r t
due_from table hands trace s r t d states is a b =
    let left : length (own trace.list s.number t) < length r.hand = omega (arith, from_left_test trace s t a, station_held table hands trace s r states is) in
    record {
      may = subst (MayAt table trace t r) (sym is.number)
          (subst (λ w. MayStart w (past (quiet_of table) trace.list t) (last_place (quiet_of table) (own trace.list s.number t))) (sym is.timing) (from_may_test table trace s t d b));
      left = subst (λ n. length (own trace.list n t) < length r.hand) (sym is.number) left;
    }

due_to : (table : Table) (hands : List Hand) (trace : Recording) (s : Sender) (r : Station) (t : ℕ) → TestDecides → StatesHands hands trace → IsStationOf table hands s r
    → IsDue (quiet_of table) trace.list r t → (has_left trace s t ≡ true) × (may table trace s t ≡ true)
due_to table hands trace s r t d states is due =
    let left : length (own trace.list s.number t) < length r.hand = subst (λ n. length (own trace.list n t) < length r.hand) is.number due.left in (
      left_test trace s t (omega (arith, left, station_held table hands trace s r states is)),
      may_test table trace s t d
          (subst (λ w. MayStart w (past (quiet_of table) trace.list t) (last_place (quiet_of table) (own trace.list s.number t))) is.timing
          (subst (MayAt table trace t r) is.number due.may)),
    )

-- each message of a hand that fits does
next_fits : (table : Table) (hands : List Hand) (s : Sender) (r : Station) (k : ℕ) (m : Message) → IsStationOf table hands s r → slice_get r.hand k ≡ Some m → fits s m ≡ true
next_fits table hands s r k m is at =
    pass_in (fits s) is.hand.messages m is.fit (at_in is.hand.messages k m (subst (λ ms. slice_get ms k ≡ Some m) is.messages at))

pub observed_is_clean : TestDecides → ObservedIsClean
observed_is_clean d table hands trace valid dealt t states lawful u n before =
    let below : u < trace.horizon = elim before [ inl less ↦ less | inr same ↦ let e : n < 0 = same.1 in absurd (omega arith) ] in
    elim (cases_option (entry_at trace.list u n)) [
      | inr some ↦
          let x : Entry = some.0 in
          let e : EntryAt trace.list u n x = from_entry_at trace.list u n x some.1 in
          let next : IsNext (stations_of table hands) trace.list x = (lawful.sent x e.there).1 in
          let seat : HasSender table hands next.sender = stations_are_of_senders table hands next.sender valid dealt next.there in
          let due = (lawful.exact u next.sender below next.there).0 (record { entry = x; there = e.there; moment = e.moment; terminal = sym next.number }) in
          let p = due_to table hands trace seat.sender next.sender u d states seat.is due in
          kind_is table trace u n (Some x) (Some seat.sender) some.1
          (subst (λ k. sender_of table.senders k ≡ Some seat.sender) (sym seat.is.number ∙ next.number ∙ e.terminal) (sender_is_of table.senders seat.sender (seated table valid).apart seat.there))
          ∙ flaw_is _ true _ true _ true p.0 p.1 (next_fits table hands seat.sender next.sender _ x.message seat.is next.message)
      | inl none ↦ elim (cases_option (sender_of table.senders n)) [
        | inl nobody ↦ kind_is table trace u n None None none nobody
        | inr some ↦
            let s : SenderAt table.senders n some.0 = from_sender_of table.senders n some.0 some.1 in
            let seat : HasStation table hands some.0 = senders_have_stations table hands some.0 valid dealt s.there in
            kind_is table trace u n None (Some some.0) none some.1
            ∙ lack_none _ _ (λ a b.
            let has = (lawful.exact u seat.station below seat.there).1 (due_from table hands trace some.0 seat.station u d states seat.is a b) in
            let x : Entry = has.entry in
            let there : entry_at trace.list u n ≡ Some x = subst (λ k. entry_at trace.list u k ≡ Some x) (has.terminal ∙ seat.is.number ∙ s.number) (subst (λ v. entry_at trace.list v x.terminal ≡ Some x) has.moment (entry_is_at trace.list x lawful.ordered has.there)) in
            let e : None ≡ Some x = sym none ∙ there in
            absurd cc)
      ]
    ]

pub observed_is_right : TestDecides → NoBreachIsRight → ObservedIsRight
observed_is_right d law table hands trace valid dealt t states lawful = (law table trace valid t).0 (observed_is_clean d table hands trace valid dealt t states lawful)
