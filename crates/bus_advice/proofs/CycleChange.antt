-- An aperiodic table with another transmit interval, or another synchronization gap.
use Rattle.std.specs.Prelude.{◌≡◌, ℕ, ◌+◌, ◌-◌, ◌<◌, ◌≤◌, true, false, IsTrue, Some, None}
use Rattle.std.proofs.Common.{arith, sym, ap}
use Rattle.std.proofs.lemmas.Bool.{and_parts, and_from, false_from_ne_true}
use Rattle.bus_table.specs.declared.mode.Mode.{Mode}
use Rattle.bus_table.specs.declared.mode.Mode.TheVariants.{Aperiodic}
use Rattle.bus_table.specs.Tables.{Table}
use Rattle.bus_table.specs.Valid.{is_valid}
use Rattle.bus_table.specs.Whole.{periodic_refusal}
use Rattle.bus_table.specs.inside.Facts.{SenderFacts}
use Rattle.bus_table.proofs.ValidLaws.{valid_facts}
use Rattle.bus_table.proofs.TurnLaws.{of_each}
use Rattle.bus_table.proofs.PartLaws.{parts_of, valid_of, none_long, ti_range, sg_range}
use Rattle.bus_regime.specs.Verdicts.{verdict_of, is_accepted, least_cycle}
use Rattle.bus_regime.proofs.VerdictLaws.{accepted_cycle, cycle_accepted, refused_cycle}
use Rattle.bus_advice.specs.Changes.{with_interval, with_synchronization}
use Rattle.bus_advice.specs.Advices.{works, lesser_interval, greater_synchronization}
use Rattle.bus_advice.specs.inside.InnerGaps.{IsShort}
use Rattle.bus_advice.proofs.Searches.{below_some, below_none, above_some, above_none}
use Rattle.bus_advice.proofs.IntervalLaws.{at_interval}

-- both halves of working
pub is_working : (table : Table) → IsTrue (is_valid table) → IsTrue (is_accepted (verdict_of table)) → works table ≡ true
is_working table valid accepted = and_from _ _ valid accepted

pub working_valid : (table : Table) → works table ≡ true → IsTrue (is_valid table)
working_valid table h = (and_parts (is_valid table) _ h).0

pub working_accepted : (table : Table) → works table ≡ true → IsTrue (is_accepted (verdict_of table))
working_accepted table h = (and_parts (is_valid table) _ h).1

-- ---- the transmit interval
no_late : (mode : Mode) (table : Table) (n : ℕ) → mode ≡ Aperiodic → periodic_refusal mode n table.senders ≡ None
no_late mode table n e = ap (λ m. periodic_refusal m n table.senders) e

pub interval_valid : (table : Table) (n : ℕ) → IsTrue (is_valid table) → table.mode ≡ Aperiodic → 1000 ≤ n → n ≤ 128000
    → IsTrue (is_valid (with_interval n table))
interval_valid table n valid aperiodic low high = at_interval table n valid (ti_range n low high) (no_late table.mode table n aperiodic)

interval_works : (table : Table) (n : ℕ) → IsTrue (is_valid table) → table.mode ≡ Aperiodic → 1000 ≤ n → n ≤ least_cycle table
    → n ≤ 128000 → works (with_interval n table) ≡ true
interval_works table n valid aperiodic low cycle high =
    is_working (with_interval n table) (interval_valid table n valid aperiodic low high)
    (cycle_accepted (with_interval n table) aperiodic cycle)

interval_only : (table : Table) (n : ℕ) → table.mode ≡ Aperiodic → works (with_interval n table) ≡ true → (1000 ≤ n) × (n ≤ least_cycle table)
interval_only table n aperiodic h = (
  (valid_facts (with_interval n table) (working_valid (with_interval n table) h)).ti_least,
  accepted_cycle (with_interval n table) aperiodic (working_accepted (with_interval n table) h),
)

pub lesser_some : (table : Table) (deficit n : ℕ) → IsTrue (is_valid table) → IsShort table deficit → n ≡ table.ti - deficit → 1000 ≤ n
    → Some n ≡ lesser_interval table
lesser_some table deficit n valid short e low =
    let facts = valid_facts table valid in
    let most = facts.ti_most in
    let some = short.some in
    let lacks = short.short in
    sym (below_some (λ ti. works (with_interval ti table)) table.ti n (omega arith)
    (interval_works table n valid short.aperiodic low (omega arith) (omega arith))
    (λ m a b. false_from_ne_true _ (λ h. let only = interval_only table m short.aperiodic h in
    let cycle : m ≤ least_cycle table = only.1 in absurd (omega arith))))

pub lesser_none : (table : Table) (deficit n : ℕ) → IsShort table deficit → n ≡ table.ti - deficit → n < 1000
    → None ≡ lesser_interval table
lesser_none table deficit n short e low =
    let lacks = short.short in
    sym (below_none (λ ti. works (with_interval ti table)) table.ti
    (λ m a. false_from_ne_true _ (λ h. let only = interval_only table m short.aperiodic h in
    let least : 1000 ≤ m = only.0 in
    let cycle : m ≤ least_cycle table = only.1 in absurd (omega arith))))

-- a greater one doesn't help
pub interval_refused : (table : Table) (n : ℕ) → table.mode ≡ Aperiodic → is_accepted (verdict_of table) ≡ false → table.ti ≤ n
    → works (with_interval n table) ≡ false
interval_refused table n aperiodic refused low = false_from_ne_true _ (λ h.
    let less = refused_cycle table aperiodic refused in
    let only = interval_only table n aperiodic h in
    let cycle : n ≤ least_cycle table = only.1 in
    absurd (omega arith))

-- ---- the synchronization gap
sync_valid : (table : Table) (n : ℕ) → IsTrue (is_valid table) → table.sg < n → n ≤ 1024 → IsTrue (is_valid (with_synchronization n table))
sync_valid table n valid low high =
    let p = parts_of table valid in
    let facts = valid_facts table valid in
    let least = facts.sg_least in
    valid_of (with_synchronization n table) (record {
      ti = p.ti;
      sg = sg_range n (omega arith) high;
      senders = p.senders;
      listeners = p.listeners;
      fits = p.fits;
      some = p.some;
      once = p.once;
      gaps = p.gaps;
      short = none_long n table.senders (λ s i. let k = (of_each (SenderFacts table) table.senders facts.senders s i).tg_short in omega (arith, k, low));
      pairs = p.pairs;
      late = p.late;
    })

sync_only : (table : Table) (n : ℕ) → table.mode ≡ Aperiodic → works (with_synchronization n table) ≡ true
    → (n ≤ 1024) × (table.ti ≤ least_cycle (with_synchronization n table))
sync_only table n aperiodic h = (
  (valid_facts (with_synchronization n table) (working_valid (with_synchronization n table) h)).sg_most,
  accepted_cycle (with_synchronization n table) aperiodic (working_accepted (with_synchronization n table) h),
)

sync_cycle : (table : Table) (n : ℕ) → least_cycle (with_synchronization n table) + table.sg ≡ least_cycle table + n
sync_cycle table n = omega arith

pub sync_some : (table : Table) (deficit n : ℕ) → IsTrue (is_valid table) → IsShort table deficit → n ≡ table.sg + deficit → n ≤ 1024
    → Some n ≡ greater_synchronization table
sync_some table deficit n valid short e high =
    let some = short.some in
    let lacks = short.short in
    let cycle = sync_cycle table n in
    above_some (λ sg. works (with_synchronization sg table)) table.sg n (omega arith) (omega arith)
    (is_working (with_synchronization n table) (sync_valid table n valid (omega arith) high)
    (cycle_accepted (with_synchronization n table) short.aperiodic (omega arith)))
    (λ m a b. false_from_ne_true _ (λ h. let only = sync_only table m short.aperiodic h in
    let fits = only.1 in
    let other = sync_cycle table m in absurd (omega arith)))

pub sync_none : (table : Table) (deficit n : ℕ) → IsShort table deficit → n ≡ table.sg + deficit → 1024 < n
    → None ≡ greater_synchronization table
sync_none table deficit n short e high =
    let lacks = short.short in
    above_none (λ sg. works (with_synchronization sg table)) table.sg
    (λ m a b. false_from_ne_true _ (λ h. let only = sync_only table m short.aperiodic h in
    let most : m ≤ 1024 = only.0 in
    let fits = only.1 in
    let other = sync_cycle table m in absurd (omega arith)))

-- a lesser one doesn't help
pub sync_refused : (table : Table) (n : ℕ) → table.mode ≡ Aperiodic → is_accepted (verdict_of table) ≡ false → n ≤ table.sg
    → works (with_synchronization n table) ≡ false
sync_refused table n aperiodic refused high = false_from_ne_true _ (λ h.
    let less = refused_cycle table aperiodic refused in
    let only = sync_only table n aperiodic h in
    let fits : table.ti ≤ least_cycle (with_synchronization n table) = only.1 in
    let cycle = sync_cycle table n in
    absurd (omega arith))
