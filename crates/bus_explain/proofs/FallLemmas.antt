-- A periodic table with another transmit interval, whatever its offsets: at first they are all 0, and then others.
use Rattle.std.specs.Prelude.{◌≡◌, ℕ, ◌<◌, ◌≤◌, ◌↔◌, true, nat_le, None, IsTrue, List, [], ◌∷◌, length, map}
use Rattle.std.proofs.Common.{inl, inr, arith, sym, refl, ap, ◌∙◌}
use Rattle.std.proofs.lemmas.Bool.{and_parts}
use Rattle.std.proofs.lemmas.Bool.Decides.{nat_tests}
use Rattle.bus_strings.specs.Members.{In}
use Rattle.bus_table.specs.declared.mode.Mode.{Mode}
use Rattle.bus_table.specs.declared.mode.Mode.TheVariants.{Periodic}
use Rattle.bus_table.specs.Offsets.{at_offset, at_offsets, with_offsets}
use Rattle.bus_table.specs.Ranges.{is_ti}
use Rattle.bus_table.specs.Tables.{Sender, Table}
use Rattle.bus_table.specs.Valid.{is_valid}
use Rattle.bus_table.specs.Whole.{periodic_refusal}
use Rattle.bus_table.proofs.OffsetLaws.{kept_valid}
use Rattle.bus_table.proofs.ValidLaws.{valid_facts}
use Rattle.bus_table.proofs.PartLaws.{none_late}
use Rattle.bus_regime.specs.Verdicts.{verdict_of, is_accepted}
use Rattle.bus_plan.specs.Laws.{AreAccepted, FeasibleExactly}
use Rattle.bus_plan.specs.Plans.{least_interval}
use Rattle.bus_plan.proofs.Moved.{least_offsets, length-at_offsets}
use Rattle.bus_advice.specs.Changes.{with_interval}
use Rattle.bus_advice.proofs.IntervalLaws.{at_interval}

-- an offset of 0 for each sender
abbrev zeros : List Sender → List ℕ
zeros senders = map (λ s. 0) senders

in_zeros : (senders : List Sender) (n : ℕ) → In n (zeros senders) → n ≡ 0
in_zeros [] n i = absurd i
in_zeros (s ∷ senders) n (inl e) = e
in_zeros (s ∷ senders) n (inr i) = in_zeros senders n i

at_zero : (senders : List Sender) (s : Sender) → In s (at_offsets (zeros senders) senders) → s.at ≡ 0
at_zero [] s i = absurd i
at_zero (t ∷ senders) s (inl e) = ap (λ (x : Sender). x.at) e
at_zero (t ∷ senders) s (inr i) = at_zero senders s i

-- the table with them
abbrev cleared : Table → Table
cleared table = with_offsets (zeros table.senders) table

not_late : (mode : Mode) (n : ℕ) (senders : List Sender) → mode ≡ Periodic → 0 < n → periodic_refusal mode n (at_offsets (zeros senders) senders) ≡ None
not_late mode n senders e some =
    ap (λ m. periodic_refusal m n (at_offsets (zeros senders) senders)) e
    ∙ none_late n (at_offsets (zeros senders) senders) (λ s i. let at = at_zero senders s i in omega (arith, at, some))

ti_some : (n : ℕ) → is_ti n ≡ true → 0 < n
ti_some n h = let low = (and_parts (nat_le 1000 n) (nat_le n 128000) h).0 in let least : 1000 ≤ n = grind (arith, nat_tests, low) in omega (arith, least)

-- it is valid at any interval in its range
cleared_valid : (table : Table) (n : ℕ) → IsTrue (is_valid table) → table.mode ≡ Periodic → is_ti n ≡ true
    → IsTrue (is_valid (with_interval n (cleared table)))
cleared_valid table n valid periodic range =
    let facts = valid_facts table valid in
    let least = facts.ti_least in
    let base : IsTrue (is_valid (cleared table)) =
    kept_valid table (zeros table.senders) valid periodic (λ at i. let none = in_zeros table.senders at i in omega (arith, none, least)) in
    at_interval (cleared table) n base range (not_late table.mode n table.senders periodic (ti_some n range))

-- other offsets over these are those over the table's own
over : (offsets : List ℕ) (senders : List Sender) → length offsets ≡ length senders
    → at_offsets offsets (at_offsets (zeros senders) senders) ≡ at_offsets offsets senders
over [] [] h = refl
over [] (s ∷ senders) h = absurd (omega (arith, h))
over (at ∷ offsets) [] h = refl
over (at ∷ offsets) (s ∷ senders) h = ap (λ l. at_offset at s ∷ l) (over offsets senders (omega (arith, h)))

abbrev placed : Table → List Sender → Table
placed table senders = record { mode = table.mode; ti = table.ti; sg = table.sg; senders = senders; listeners = table.listeners }

same_verdict : (table : Table) (offsets : List ℕ) → length offsets ≡ length table.senders
    → is_accepted (verdict_of (with_offsets offsets (cleared table))) ≡ is_accepted (verdict_of (with_offsets offsets table))
same_verdict table offsets count = ap (λ senders. is_accepted (verdict_of (placed table senders))) (over offsets table.senders count)

to_own : (table : Table) (offsets : List ℕ) → AreAccepted (cleared table) offsets → AreAccepted table offsets
to_own table offsets a =
    let count : length offsets ≡ length table.senders = a.count ∙ length-at_offsets (zeros table.senders) table.senders in
    record { count = count; below = a.below; accepted = sym (same_verdict table offsets count) ∙ a.accepted }

from_own : (table : Table) (offsets : List ℕ) → AreAccepted table offsets → AreAccepted (cleared table) offsets
from_own table offsets a = record {
  count = a.count ∙ sym (length-at_offsets (zeros table.senders) table.senders);
  below = a.below;
  accepted = same_verdict table offsets a.count ∙ a.accepted;
}

-- some offsets are accepted at an interval exactly where it is at least the least interval
pub feasible_at : FeasibleExactly → (table : Table) (n : ℕ) → IsTrue (is_valid table) → table.mode ≡ Periodic → is_ti n ≡ true
    → (least_interval table ≤ n) ↔ ((offsets : List ℕ) × AreAccepted (with_interval n table) offsets)
feasible_at feasible table n valid periodic range =
    let law = feasible (with_interval n (cleared table)) (cleared_valid table n valid periodic range) periodic in
    let least = least_offsets (zeros table.senders) table in (
      (λ enough. let found = law.0 (omega (arith, enough, least)) in (found.0, to_own (with_interval n table) found.0 found.1)),
      (λ found. let enough = law.1 (found.0, from_own (with_interval n table) found.0 found.1) in omega (arith, enough, least)),
    )
