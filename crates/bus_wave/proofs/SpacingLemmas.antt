-- What is wrong with no entry of a trace is a spaced trace.
use Rattle.std.proofs.Common.{arith, ◌≡◌, ℕ, ◌+◌, ◌≤◌, Bool, true, false, not, List, [], ◌∷◌, Option, Some, None, Result, Ok, Err}
use Rattle.std.proofs.Common.{refl, sym, ap, ◌∙◌}
use Rattle.std.specs.Prelude.{nat_lt, is_none, IsOk, ◌↔◌}
use Rattle.std.specs.List.{AllByRecursion}
use Rattle.std.proofs.lemmas.Bool.Decides.{nat_tests}
use Rattle.bus_text.specs.AllOf.{◌>>=◌}
use Rattle.bus_text.specs.Refusals.{first_of, unless}
use Rattle.bus_strings.specs.Messages.{Entry}
use Rattle.bus_strings.specs.Transmissions.{end_of}
use Rattle.bus_table.specs.Fits.{sender_of, fits}
use Rattle.bus_table.specs.Tables.{Sender, Table}
use Rattle.bus_trace.specs.Traces.{Recording}
use Rattle.bus_wave.specs.declared.fault.WaveFault.{WaveFault}
use Rattle.bus_wave.specs.Spacing.{least_gap, IsOfSender, AreApart, IsSpaced, fits_some, entry_fault, spaced_from, spaced_of}

-- one entry
record IsRight (table : Table) (horizon from : ℕ) (x : Entry) : Type 0 where
  sender : IsOfSender table x
  starts : from ≤ x.moment
  ends : end_of x ≤ horizon

four_rows : (a b c d : Bool) (p q r s : WaveFault) → first_of ((a, p) ∷ (b, q) ∷ (c, r) ∷ (d, s) ∷ []) ≡ None
    → (a ≡ false) × (b ≡ false) × (c ≡ false) × (d ≡ false)
four_rows true b c d p q r s h = absurd cc
four_rows false true c d p q r s h = absurd cc
four_rows false false true d p q r s h = absurd cc
four_rows false false false true p q r s h = absurd cc
four_rows false false false false p q r s h = (refl, refl, refl, refl)

of_sender : (table : Table) (x : Entry) (o : Option Sender) → sender_of table.senders x.terminal ≡ o → is_none o ≡ false
    → not (fits_some o x) ≡ false → IsOfSender table x
of_sender table x None e none fit = absurd cc
of_sender table x (Some sender) e none fit =
    record { sender = sender; found = e; fits = by_test (fits sender x.message) fit } where
      by_test : (b : Bool) → not b ≡ false → b ≡ true
      by_test true h = refl
      by_test false h = absurd cc

right : (table : Table) (horizon from k : ℕ) (x : Entry) → entry_fault table.senders horizon from k x ≡ None → IsRight table horizon from x
right table horizon from k x h =
    let rows = four_rows (is_none (sender_of table.senders x.terminal)) (not (fits_some (sender_of table.senders x.terminal) x)) (nat_lt x.moment from) (nat_lt horizon (end_of x)) _ _ _ _ h in
    record {
      sender = of_sender table x (sender_of table.senders x.terminal) refl rows.0 rows.1;
      starts = grind (arith, nat_tests, rows.2);
      ends = grind (arith, nat_tests, rows.3);
    }

no_fault : (table : Table) (horizon from k : ℕ) (x : Entry) → IsRight table horizon from x → entry_fault table.senders horizon from k x ≡ None
no_fault table horizon from k x h =
    let sender : Sender = h.sender.sender in
    let none : is_none (sender_of table.senders x.terminal) ≡ false = ap is_none h.sender.found in
    let fit : not (fits_some (sender_of table.senders x.terminal) x) ≡ false = ap (λ o. not (fits_some o x)) h.sender.found ∙ ap not h.sender.fits in
    let early : nat_lt x.moment from ≡ false = (let k : from ≤ x.moment = h.starts in grind (arith, nat_tests)) in
    let late : nat_lt horizon (end_of x) ≡ false = (let k : end_of x ≤ horizon = h.ends in grind (arith, nat_tests)) in
    rw (none, fit, early, late) refl

-- ---- all of them
bound_ok : (o : Option WaveFault) (r : Result (Unit {0}) WaveFault) (u : Unit {0}) → (unless o (tt {0}) >>= λ _. r) ≡ Ok u → (o ≡ None) × (r ≡ Ok u)
bound_ok None r u h = (refl, h)
bound_ok (Some fault) r u h = absurd cc

spaced_parts : (table : Table) (horizon from k : ℕ) (list : List Entry) (u : Unit {0}) → spaced_from table.senders horizon from k list ≡ Ok u
    → AllByRecursion (IsOfSender table) list × AreApart from horizon list
spaced_parts table horizon from k [] u h = (tt, tt)
spaced_parts table horizon from k (x ∷ xs) u h =
    let b = bound_ok (entry_fault table.senders horizon from k x) (spaced_from table.senders horizon (end_of x + least_gap) (k + 1) xs) u h in
    let one = right table horizon from k x b.0 in
    let rest = spaced_parts table horizon (end_of x + least_gap) (k + 1) xs u b.1 in
    ((one.sender, rest.0), (one.starts, one.ends, rest.1))

parts_spaced : (table : Table) (horizon from k : ℕ) (list : List Entry) → AllByRecursion (IsOfSender table) list → AreApart from horizon list
    → spaced_from table.senders horizon from k list ≡ Ok tt
parts_spaced table horizon from k [] s a = refl
parts_spaced table horizon from k (x ∷ xs) s a =
    ap (λ o. unless o (tt {0}) >>= λ _. spaced_from table.senders horizon (end_of x + least_gap) (k + 1) xs) (no_fault table horizon from k x (record { sender = s.0; starts = a.0; ends = a.1 }))
    ∙ parts_spaced table horizon (end_of x + least_gap) (k + 1) xs s.1 a.2

-- a trace is spaced exactly where nothing is wrong with an entry
pub is_spaced : (table : Table) (t : Recording) (r : Result (Unit {0}) WaveFault) → r ≡ spaced_of table t → IsOk r ↔ IsSpaced table t
is_spaced table t (Ok u) h =
    (λ _. (let p = spaced_parts table t.horizon 0 0 t.list u (sym h) in record { senders = p.0; apart = p.1 }), λ _. refl)
is_spaced table t (Err fault) h = (λ e. absurd (cc), λ s. absurd (let k = parts_spaced table t.horizon 0 0 t.list s.senders s.apart in cc))

pub spaced_passes : (table : Table) (t : Recording) → IsSpaced table t → spaced_of table t ≡ Ok tt
spaced_passes table t s = parts_spaced table t.horizon 0 0 t.list s.senders s.apart

passed_spaced : (table : Table) (t : Recording) → spaced_of table t ≡ Ok tt → IsSpaced table t
passed_spaced table t h = (let p = spaced_parts table t.horizon 0 0 t.list tt h in record { senders = p.0; apart = p.1 })

pub passes : (table : Table) (t : Recording) → (spaced_of table t ≡ Ok tt) ↔ IsSpaced table t
passes table t = (λ h. passed_spaced table t h, λ s. spaced_passes table t s)
