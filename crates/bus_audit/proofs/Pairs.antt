-- What is wrong at a pair, as facts.
use Rattle.std.proofs.Common.{◌≡◌, ℕ, ◌<◌, ◌≤◌, Bool, true, false, List, length, Option, Some, None, inl, inr, refl, ap, ◌∙◌, eqb-true}
use Rattle.std.proofs.lemmas.Bool.{cases_Bool, lt-ltb, le-ltb, ltb-true}
use Rattle.bus_timers.specs.MayStartTest.{TestDecides}
use Rattle.bus_strings.specs.Members.{In}
use Rattle.bus_strings.specs.Messages.{Entry}
use Rattle.bus_strings.specs.Transmissions.{IsAscending}
use Rattle.bus_table.specs.Tables.{Sender, Table}
use Rattle.bus_table.specs.Fits.{fits, sender_of}
use Rattle.bus_trace.specs.Traces.{Recording}
use Rattle.bus_medium.specs.Past.{past, own, last_place}
use Rattle.bus_medium.specs.Timings.{quiet_of, timing_of}
use Rattle.bus_audit.specs.declared.answer.BreachKind.TheVariants.{Stranger, Missing}
use Rattle.bus_audit.specs.Breaches.{held, entry_at, has_left, may, flaw, lack, pair_kind, kind_at}
use Rattle.bus_audit.specs.inside.Standing.{Allowed}
use Rattle.bus_audit.proofs.Lists.{find_none, find_one, from_find, Found, cases_option}
use Rattle.bus_medium.proofs.PastLaws.{one_at}
use Rattle.bus_audit.proofs.Entries.{at_test, from_at_test, not_at_test}

-- the sender has a message left
abbrev pub HasLeft : Recording → Sender → ℕ → Type 0
HasLeft trace s t = length (own trace.list s.number t) < held trace.holds s.number

pub left_test : (trace : Recording) (s : Sender) (t : ℕ) → HasLeft trace s t → has_left trace s t ≡ true
left_test trace s t h = lt-ltb (length (own trace.list s.number t)) (held trace.holds s.number) h

pub none_left_test : (trace : Recording) (s : Sender) (t : ℕ) → held trace.holds s.number ≤ length (own trace.list s.number t) → has_left trace s t ≡ false
none_left_test trace s t h = le-ltb (length (own trace.list s.number t)) (held trace.holds s.number) h

pub from_left_test : (trace : Recording) (s : Sender) (t : ℕ) → has_left trace s t ≡ true → HasLeft trace s t
from_left_test trace s t h = ltb-true (length (own trace.list s.number t)) (held trace.holds s.number) h

pub may_test : (table : Table) (trace : Recording) (s : Sender) (t : ℕ) → TestDecides → Allowed table trace s t → may table trace s t ≡ true
may_test table trace s t d h = (d (timing_of table s) (past (quiet_of table) trace.list t) (last_place (quiet_of table) (own trace.list s.number t))).1 h

pub from_may_test : (table : Table) (trace : Recording) (s : Sender) (t : ℕ) → TestDecides → may table trace s t ≡ true → Allowed table trace s t
from_may_test table trace s t d h = (d (timing_of table s) (past (quiet_of table) trace.list t) (last_place (quiet_of table) (own trace.list s.number t))).0 h

pub not_may_test : (table : Table) (trace : Recording) (s : Sender) (t : ℕ) → TestDecides → (Allowed table trace s t → ⊥) → may table trace s t ≡ false
not_may_test table trace s t d h = elim (cases_Bool (may table trace s t)) [ inl yes' ↦ absurd (h (from_may_test table trace s t d yes')) | inr no' ↦ no' ]

-- no entry of terminal n is at moment t
abbrev pub IsSilent : List Entry → ℕ → ℕ → Type 0
IsSilent l t n = (x : Entry) → In x l → x.moment ≡ t → x.terminal ≡ n → ⊥

pub silent_at : (l : List Entry) (t n : ℕ) → IsSilent l t n → entry_at l t n ≡ None
silent_at l t n h = find_none _ l (λ x i. not_at_test t n x (λ p. h x i p.0 p.1))

pub entry_is_at : (l : List Entry) (x : Entry) → IsAscending l → In x l → entry_at l x.moment x.terminal ≡ Some x
entry_is_at l x o i = find_one _ l x i (at_test x.moment x.terminal x refl refl) (λ y j e. let p = from_at_test x.moment x.terminal y e in one_at l y x o j i p.0 p.1)

-- the entry at a pair
pub record EntryAt (l : List Entry) (t n : ℕ) (x : Entry) : Type 0 where
  pub there : In x l
  pub moment : x.moment ≡ t
  pub terminal : x.terminal ≡ n

pub from_entry_at : (l : List Entry) (t n : ℕ) (x : Entry) → entry_at l t n ≡ Some x → EntryAt l t n x
from_entry_at l t n x h = let f : Found _ l x = from_find _ l x h in let p = from_at_test t n x f.passes in record { there = f.there; moment = p.0; terminal = p.1 }

-- the sender of a number
pub record SenderAt (senders : List Sender) (n : ℕ) (s : Sender) : Type 0 where
  pub there : In s senders
  pub number : s.number ≡ n

pub from_sender_of : (senders : List Sender) (n : ℕ) (s : Sender) → sender_of senders n ≡ Some s → SenderAt senders n s
from_sender_of senders n s h = let f : Found _ senders s = from_find _ senders s h in record { there = f.there; number = eqb-true s.number n f.passes }

-- what is wrong, by what is there
pub kind_is : (table : Table) (trace : Recording) (t n : ℕ) (e : Option Entry) (s : Option Sender) → entry_at trace.list t n ≡ e → sender_of table.senders n ≡ s → kind_at table trace t n ≡ pair_kind table trace t e s
kind_is table trace t n e s a b = ap (λ o. pair_kind table trace t o (sender_of table.senders n)) a ∙ ap (λ o. pair_kind table trace t e o) b

pub flaw_is : (a a' b b' c c' : Bool) → a ≡ a' → b ≡ b' → c ≡ c' → flaw a b c ≡ flaw a' b' c'
flaw_is a a' b b' c c' e f g = ap (λ x. flaw x b c) e ∙ ap (λ x. flaw a' x c) f ∙ ap (λ x. flaw a' b' x) g

pub lack_is : (a a' b b' : Bool) → a ≡ a' → b ≡ b' → lack a b ≡ lack a' b'
lack_is a a' b b' e f = ap (λ x. lack x b) e ∙ ap (λ x. lack a' x) f

pub lack_none : (a b : Bool) → (a ≡ true → b ≡ true → ⊥) → lack a b ≡ None
lack_none true true h = absurd (h refl refl)
lack_none true false h = refl
lack_none false b h = refl

-- a silence that breaks nothing
pub silent_clean : (table : Table) (trace : Recording) (t n : ℕ) → TestDecides → IsSilent trace.list t n → ((s : Sender) → sender_of table.senders n ≡ Some s → Allowed table trace s t → HasLeft trace s t → ⊥) → kind_at table trace t n ≡ None
silent_clean table trace t n d silent h =
    elim (cases_option (sender_of table.senders n)) [
      | inl none ↦ kind_is table trace t n None None (silent_at trace.list t n silent) none
      | inr some ↦
          kind_is table trace t n None (Some some.0) (silent_at trace.list t n silent) some.1
          ∙ lack_none _ _ (λ a b. h some.0 some.1 (from_may_test table trace some.0 t d b) (from_left_test trace some.0 t a))
    ]

-- and one that does
pub silent_missing : (table : Table) (trace : Recording) (t n : ℕ) (s : Sender) → TestDecides → IsSilent trace.list t n → sender_of table.senders n ≡ Some s → Allowed table trace s t → HasLeft trace s t → kind_at table trace t n ≡ Some Missing
silent_missing table trace t n s d silent is may left =
    kind_is table trace t n None (Some s) (silent_at trace.list t n silent) is ∙ lack_is _ true _ true (left_test trace s t left) (may_test table trace s t d may)

-- an entry of no sender, and one of a sender
pub entry_stranger : (table : Table) (trace : Recording) (x : Entry) → IsAscending trace.list → In x trace.list → sender_of table.senders x.terminal ≡ None → kind_at table trace x.moment x.terminal ≡ Some Stranger
entry_stranger table trace x o i none = kind_is table trace x.moment x.terminal (Some x) None (entry_is_at trace.list x o i) none

pub entry_flaw : (table : Table) (trace : Recording) (x : Entry) (s : Sender) (left may' fit : Bool) → IsAscending trace.list → In x trace.list → sender_of table.senders x.terminal ≡ Some s
    → has_left trace s x.moment ≡ left → may table trace s x.moment ≡ may' → fits s x.message ≡ fit → kind_at table trace x.moment x.terminal ≡ flaw left may' fit
entry_flaw table trace x s left may' fit o i is a b c = kind_is table trace x.moment x.terminal (Some x) (Some s) (entry_is_at trace.list x o i) is ∙ flaw_is _ left _ may' _ fit a b c
