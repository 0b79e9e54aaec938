-- A trace without a breach is the lawful list for the hands that it states, and its messages fit.
use Rattle.std.proofs.Common.{◌≡◌, ℕ, zero, suc, ◌-◌, ◌<◌, ◌↔◌, Bool, true, false, eqb, cond, List, [], ◌∷◌, ◌++◌, length, map, take, replicate, Some, None, inl, inr, arith, sym, refl, ap, ◌∙◌, subst, eq-eqb, length-append}
use Rattle.std.specs.Prelude.{slice_get, IsTrue, zip}
use Rattle.std.specs.List.{filter}
use Rattle.std.specs.Option.{option_map}
use Rattle.std.proofs.lemmas.Bool.{cases_eq, ne_eqb}
use Rattle.std.proofs.lemmas.List.{length-take, length-replicate}
use Rattle.std.proofs.lemmas.Option.{slice_get-map}
use Rattle.bus_timers.specs.MayStartTest.{TestDecides}
use Rattle.bus_strings.specs.Members.{In}
use Rattle.bus_strings.proofs.MemberLaws.{in_map, from_map}
use Rattle.bus_strings.specs.Messages.{Entry, Message}
use Rattle.bus_strings.specs.Transmissions.{IsAscending, Precedes}
use Rattle.bus_table.specs.declared.mode.Mode.{Mode}
use Rattle.bus_table.specs.Tables.{Sender, Table}
use Rattle.bus_table.specs.Fits.{fits, sender_of}
use Rattle.bus_table.specs.Filling.{filling_message}
use Rattle.bus_table.specs.Valid.{is_valid}
use Rattle.bus_trace.specs.Traces.{Recording, IsTrace}
use Rattle.bus_medium.specs.Past.{own}
use Rattle.bus_medium.specs.Lawful.{Station, HasEntry, IsDue}
use Rattle.bus_medium.specs.Timings.{quiet_of, timing_of, stations_of}
use Rattle.bus_audit.specs.declared.answer.BreachKind.TheVariants.{Stranger, Missing}
use Rattle.bus_audit.specs.Breaches.{held, entry_at, has_left, may, flaw, kind_at, HasNoBreach}
use Rattle.bus_audit.specs.Meaning.{messages_of, filled, hand_of, hands_of, IsFitting, IsRight, NoBreachIsRight}
use Rattle.bus_audit.proofs.Lists.{filter_none, cases_option}
use Rattle.bus_medium.proofs.PastLaws.{own_test, not_own_test}
use Rattle.bus_medium.proofs.AscendingLaws.{behind_in}
use Rattle.bus_audit.proofs.Pairs.{left_test, from_left_test, may_test, from_may_test, EntryAt, from_entry_at, SenderAt, from_sender_of, kind_is, flaw_is, lack_is, lack_none, entry_is_at}
use Rattle.bus_audit.proofs.Silence.{sender_is_of}
use Rattle.bus_audit.proofs.Going.{seated, below_in}

-- ---- the stations of the hands that a trace states
abbrev station_of : Table → Recording → Sender → Station
station_of table trace s = record { number = s.number; timing = timing_of table s; hand = (hand_of table.mode trace s).messages }

stations_along : (table : Table) (trace : Recording) (ss : List Sender) → map (λ p. record { number = p.1.terminal; timing = timing_of table p.0; hand = p.1.messages }) (zip ss (map (hand_of table.mode trace) ss)) ≡ map (station_of table trace) ss
stations_along table trace [] = refl
stations_along table trace (s ∷ ss) = ap (λ rs. station_of table trace s ∷ rs) (stations_along table trace ss)

station_in : (table : Table) (trace : Recording) (s : Sender) → In s table.senders → In (station_of table trace s) (stations_of table (hands_of table trace))
station_in table trace s i = subst (In (station_of table trace s)) (sym (stations_along table trace table.senders)) (in_map (station_of table trace) table.senders s i)

from_station : (table : Table) (trace : Recording) (r : Station) → In r (stations_of table (hands_of table trace)) → (s : Sender) × In s table.senders × (r ≡ station_of table trace s)
from_station table trace r i =
    let p = from_map (station_of table trace) table.senders r (subst (In r) (stations_along table trace table.senders) i) in
    (p.0, p.1, sym p.2)

-- ---- the hands
pub filled_length : (c : ℕ) (ms : List Message) (m : Message) → length (filled c ms m) ≡ c
filled_length c ms m = omega (arith, length-append (take c ms) (replicate (c - length ms) m), length-take c ms, length-replicate (c - length ms) m)

take_at : (c k : ℕ) (ms rs : List Message) (m : Message) → slice_get ms k ≡ Some m → k < c → slice_get (take c ms ++ rs) k ≡ Some m
take_at c k [] rs m h l = absurd (let e : None ≡ Some m = h in cc)
take_at zero k (n ∷ ms) rs m h l = absurd (omega arith)
take_at (suc c) zero (n ∷ ms) rs m h l = h
take_at (suc c) (suc k) (n ∷ ms) rs m h l = take_at c k ms rs m h (omega arith)

-- as many own transmissions as stand before an entry
own_place : (l : List Entry) (x : Entry) → IsAscending l → In x l → slice_get (filter (λ y. eqb y.terminal x.terminal) l) (length (own l x.terminal x.moment)) ≡ Some x
own_place [] x o i = absurd i
own_place (y ∷ ys) x o (inl same) =
    let n = x.terminal in let t = x.moment in
    let here : eqb y.terminal n ≡ true = eq-eqb y.terminal n (sym (ap (λ (w : Entry). w.terminal) same)) in
    let none : own (y ∷ ys) n t ≡ [] = filter_none _ (y ∷ ys) (λ z k. not_own_test n t z (λ p.
    let b : z.moment < t = p.1 in let e : t ≡ y.moment = ap (λ (w : Entry). w.moment) same in
    elim k [ inl is ↦ let f : z.moment ≡ y.moment = ap (λ (w : Entry). w.moment) is in omega arith | inr later ↦ elim (behind_in y ys z o.0 later) [ inl less ↦ omega arith | inr eq ↦ let f : y.moment ≡ z.moment = eq.0 in omega arith ] ])) in
    ap (λ zs. slice_get (filter (λ z. eqb z.terminal n) (y ∷ ys)) (length zs)) none
    ∙ ap (λ b. slice_get (cond b (y ∷ filter (λ z. eqb z.terminal n) ys) (filter (λ z. eqb z.terminal n) ys)) 0) here
    ∙ ap Some (sym same)
own_place (y ∷ ys) x o (inr i) =
    let n = x.terminal in let t = x.moment in
    let so : slice_get (filter (λ z. eqb z.terminal n) ys) (length (own ys n t)) ≡ Some x = own_place ys x o.1 i in
    let before : Precedes y x = behind_in y ys x o.0 i in
    elim (cases_eq y.terminal n) [
      | inl mine ↦
          let less : y.moment < t = elim before [ inl l ↦ l | inr same ↦ let f : y.terminal < x.terminal = same.1 in absurd (omega arith) ] in
          ap (λ b. slice_get (cond b (y ∷ filter (λ z. eqb z.terminal n) ys) (filter (λ z. eqb z.terminal n) ys)) (length (own (y ∷ ys) n t))) (eq-eqb y.terminal n mine)
          ∙ ap (λ b. slice_get (y ∷ filter (λ z. eqb z.terminal n) ys) (length (cond b (y ∷ own ys n t) (own ys n t)))) (own_test n t y mine less)
          ∙ so
      | inr other ↦
          ap (λ b. slice_get (cond b (y ∷ filter (λ z. eqb z.terminal n) ys) (filter (λ z. eqb z.terminal n) ys)) (length (own (y ∷ ys) n t))) (ne_eqb y.terminal n other)
          ∙ ap (λ b. slice_get (filter (λ z. eqb z.terminal n) ys) (length (cond b (y ∷ own ys n t) (own ys n t)))) (not_own_test n t y (λ p. other p.0))
          ∙ so
    ]

-- the next message of the hand is that of the entry
next_message : (mode : Mode) (trace : Recording) (s : Sender) (x : Entry) → IsAscending trace.list → In x trace.list → s.number ≡ x.terminal → length (own trace.list s.number x.moment) < held trace.holds s.number
    → slice_get (hand_of mode trace s).messages (length (own trace.list s.number x.moment)) ≡ Some x.message
next_message mode trace s x o i is left =
    let k = length (own trace.list s.number x.moment) in
    let at : slice_get (filter (λ y. eqb y.terminal s.number) trace.list) k ≡ Some x = subst (λ n. slice_get (filter (λ y. eqb y.terminal n) trace.list) (length (own trace.list n x.moment)) ≡ Some x) (sym is) (own_place trace.list x o i) in
    let message : slice_get (messages_of trace.list s.number) k ≡ Some x.message = slice_get-map (λ (y : Entry). y.message) (filter (λ y. eqb y.terminal s.number) trace.list) k ∙ ap (option_map (λ (y : Entry). y.message)) at in
    take_at (held trace.holds s.number) k (messages_of trace.list s.number) (replicate (held trace.holds s.number - length (messages_of trace.list s.number)) (filling_message mode s)) x.message message left

-- ---- due
due_from : (table : Table) (trace : Recording) (s : Sender) (t : ℕ) → TestDecides → has_left trace s t ≡ true → may table trace s t ≡ true → IsDue (quiet_of table) trace.list (station_of table trace s) t
due_from table trace s t d a b = record {
  may = from_may_test table trace s t d b;
  left = omega (arith, from_left_test trace s t a, filled_length (held trace.holds s.number) (messages_of trace.list s.number) (filling_message table.mode s));
}

due_to : (table : Table) (trace : Recording) (s : Sender) (t : ℕ) → TestDecides → IsDue (quiet_of table) trace.list (station_of table trace s) t → (has_left trace s t ≡ true) × (may table trace s t ≡ true)
due_to table trace s t d due = (left_test trace s t (omega (arith, due.left, filled_length (held trace.holds s.number) (messages_of trace.list s.number) (filling_message table.mode s))), may_test table trace s t d due.may)

flaw_parts : (a b c : Bool) → flaw a b c ≡ None → (a ≡ true) × (b ≡ true) × (c ≡ true)
flaw_parts false b c h = absurd (cc)
flaw_parts true false c h = absurd (cc)
flaw_parts true true false h = absurd (cc)
flaw_parts true true true h = (refl, refl, refl)

-- an entry at which nothing is wrong
record Fine (table : Table) (trace : Recording) (x : Entry) : Type 0 where
  sender : Sender
  is : sender_of table.senders x.terminal ≡ Some sender
  left : has_left trace sender x.moment ≡ true
  may : may table trace sender x.moment ≡ true
  fit : fits sender x.message ≡ true

fine : (table : Table) (trace : Recording) (x : Entry) → IsAscending trace.list → In x trace.list → kind_at table trace x.moment x.terminal ≡ None → Fine table trace x
fine table trace x o i none =
    elim (cases_option (sender_of table.senders x.terminal)) [
      | inl nobody ↦ absurd (let e : Some Stranger ≡ None = sym (kind_is table trace x.moment x.terminal (Some x) None (entry_is_at trace.list x o i) nobody) ∙ none in cc)
      | inr some ↦
          let p = flaw_parts (has_left trace some.0 x.moment) (may table trace some.0 x.moment) (fits some.0 x.message) (sym (kind_is table trace x.moment x.terminal (Some x) (Some some.0) (entry_is_at trace.list x o i) some.1) ∙ none) in
          record { sender = some.0; is = some.1; left = p.0; may = p.1; fit = p.2 }
    ]

some_same : (a b : Sender) → Some a ≡ Some b → a ≡ b
some_same a b h = cc

is_right : (table : Table) (trace : Recording) → TestDecides → IsTrue (is_valid table) → IsTrace trace → HasNoBreach table trace → IsRight table trace
is_right table trace d valid t clean =
    let fine_at : (x : Entry) → In x trace.list → Fine table trace x = λ x i. fine table trace x t.order i (clean x.moment x.terminal (inl (below_in trace.horizon trace.list t.list x i).moment)) in
    record {
      fitting = λ x i. let f = fine_at x i in record { sender = f.sender; there = f.is; fit = f.fit };
      lawful = record {
        ordered = t.order;
        sent = λ x i. (
          (below_in trace.horizon trace.list t.list x i).moment,
          (
              let f = fine_at x i in
              let s : SenderAt table.senders x.terminal f.sender = from_sender_of table.senders x.terminal f.sender f.is in
              record { sender = station_of table trace f.sender; there = station_in table trace f.sender s.there; number = s.number; message = next_message table.mode trace f.sender x t.order i s.number (from_left_test trace f.sender x.moment f.left) }),
        );
        exact = λ u r below i.
            let so = from_station table trace r i in
            let s : Sender = so.0 in
            let is : sender_of table.senders s.number ≡ Some s = sender_is_of table.senders s (seated table valid).apart so.1 in
            subst (λ v. HasEntry trace.list v.number u ↔ IsDue (quiet_of table) trace.list v u) (sym so.2) (
              (λ e.
                  let f = fine_at e.entry e.there in
                  let same : f.sender ≡ s = some_same f.sender s (sym f.is ∙ ap (sender_of table.senders) e.terminal ∙ is) in
                  due_from table trace s u d
                  (subst (λ v. has_left trace s v ≡ true) e.moment (subst (λ v. has_left trace v e.entry.moment ≡ true) same f.left))
                  (subst (λ v. may table trace s v ≡ true) e.moment (subst (λ v. may table trace v e.entry.moment ≡ true) same f.may))),
              (λ due. elim (cases_option (entry_at trace.list u s.number)) [
                | inl none ↦
                    let p = due_to table trace s u d due in
                    absurd (let e : Some Missing ≡ None = sym (kind_is table trace u s.number None (Some s) none is ∙ lack_is _ true _ true p.0 p.1) ∙ clean u s.number (inl below) in cc)
                | inr some ↦ let f : EntryAt trace.list u s.number some.0 = from_entry_at trace.list u s.number some.0 some.1 in record { entry = some.0; there = f.there; moment = f.moment; terminal = f.terminal }
              ]),
            );
      };
    }

has_none : (table : Table) (trace : Recording) → TestDecides → IsTrue (is_valid table) → IsTrace trace → IsRight table trace → HasNoBreach table trace
has_none table trace d valid t right u n before =
    let below : u < trace.horizon = elim before [ inl less ↦ less | inr same ↦ let e : n < 0 = same.1 in absurd (omega arith) ] in
    elim (cases_option (entry_at trace.list u n)) [
      | inr some ↦
          let x : Entry = some.0 in
          let e : EntryAt trace.list u n x = from_entry_at trace.list u n x some.1 in
          let f : IsFitting table x = right.fitting x e.there in
          let s : SenderAt table.senders x.terminal f.sender = from_sender_of table.senders x.terminal f.sender f.there in
          let due = (right.lawful.exact u (station_of table trace f.sender) below (station_in table trace f.sender s.there)).0 (record { entry = x; there = e.there; moment = e.moment; terminal = sym s.number }) in
          let p = due_to table trace f.sender u d due in
          kind_is table trace u n (Some x) (Some f.sender) some.1 (subst (λ k. sender_of table.senders k ≡ Some f.sender) e.terminal f.there)
          ∙ flaw_is _ true _ true _ true p.0 p.1 f.fit
      | inl none ↦ elim (cases_option (sender_of table.senders n)) [
        | inl nobody ↦ kind_is table trace u n None None none nobody
        | inr some ↦
            let s : SenderAt table.senders n some.0 = from_sender_of table.senders n some.0 some.1 in
            kind_is table trace u n None (Some some.0) none some.1
            ∙ lack_none _ _ (λ a b.
            let has = (right.lawful.exact u (station_of table trace some.0) below (station_in table trace some.0 s.there)).1 (due_from table trace some.0 u d a b) in
            let x : Entry = has.entry in
            let there : entry_at trace.list u n ≡ Some x = subst (λ k. entry_at trace.list u k ≡ Some x) (has.terminal ∙ s.number) (subst (λ v. entry_at trace.list v x.terminal ≡ Some x) has.moment (entry_is_at trace.list x t.order has.there)) in
            let e : None ≡ Some x = sym none ∙ there in
            absurd cc)
      ]
    ]

pub no_breach_is_right : TestDecides → NoBreachIsRight
no_breach_is_right d table trace valid t = (is_right table trace d valid t, has_none table trace d valid t)
