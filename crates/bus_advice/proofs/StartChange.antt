-- An aperiodic table with the greatest transmit interval with which it starts itself.
use Rattle.std.specs.Prelude.{◌≡◌, ℕ, ◌+◌, ◌<◌, ◌≤◌, ◌↔◌, true, false, nat_le, IsTrue, List, [], ◌∷◌, Some, None}
use Rattle.std.specs.List.{list_all}
use Rattle.std.proofs.Common.{inl, inr, arith, refl, sym, ◌∙◌}
use Rattle.std.proofs.lemmas.Bool.{and_parts, and_from, cases_lt, true≢false, false_from_ne_true, le-leb, leb-true, not-true}
use Rattle.bus_table.specs.declared.mode.Mode.{Mode}
use Rattle.bus_table.specs.declared.mode.Mode.TheVariants.{Aperiodic, Periodic}
use Rattle.bus_table.specs.Lengths.{shortest}
use Rattle.bus_table.specs.Tables.{Sender, Table}
use Rattle.bus_table.specs.Valid.{is_valid}
use Rattle.bus_table.proofs.ValidLaws.{valid_facts}
use Rattle.bus_regime.specs.Starting.{starts_itself}
use Rattle.bus_regime.proofs.StartingLaws.{started_accepted}
use Rattle.bus_advice.specs.Changes.{with_interval}
use Rattle.bus_advice.specs.Advices.{works, starts, lacks_start, starting_interval}
use Rattle.bus_advice.proofs.Searches.{below_some, below_none}
use Rattle.bus_advice.proofs.CycleChange.{is_working, working_valid, interval_valid}

-- both halves of starting
pub starting_works : (table : Table) → starts table ≡ true → works table ≡ true
starting_works table h = (and_parts (works table) _ h).0

pub starting_free : (table : Table) → starts table ≡ true → IsTrue (starts_itself table)
starting_free table h = (and_parts (works table) _ h).1

-- the greatest number that is enough for each sender
abbrev pub IsFreeTo : Table → ℕ → Type 0
IsFreeTo table most = (n : ℕ) → (n ≤ most) ↔ ((n ≤ table.ti) × IsTrue (starts_itself (with_interval n table)))

interval_starts : (table : Table) (n : ℕ) → IsTrue (is_valid table) → table.mode ≡ Aperiodic → 1000 ≤ n → n ≤ table.ti
    → IsTrue (starts_itself (with_interval n table)) → starts (with_interval n table) ≡ true
interval_starts table n valid aperiodic low high free =
    let most = (valid_facts table valid).ti_most in
    let changed = interval_valid table n valid aperiodic low (omega (arith, high, most)) in
    and_from _ _ (is_working (with_interval n table) changed (started_accepted (with_interval n table) changed aperiodic free)) free

starts_least : (table : Table) (n : ℕ) → starts (with_interval n table) ≡ true → 1000 ≤ n
starts_least table n h =
    (valid_facts (with_interval n table) (working_valid (with_interval n table) (starting_works (with_interval n table) h))).ti_least

-- with its own interval it doesn't
free_below : (table : Table) (most : ℕ) → starts_itself table ≡ false → IsFreeTo table most → most < table.ti
free_below table most waits free = elim (cases_lt most table.ti) [
  | inl less ↦ less
  | inr rest ↦ (let own : IsTrue (starts_itself table) = ((free table.ti).0 (omega arith)).1 in absurd (true≢false (sym own ∙ waits)))
]

pub start_some : (table : Table) (n : ℕ) → IsTrue (is_valid table) → table.mode ≡ Aperiodic → starts_itself table ≡ false → IsFreeTo table n
    → 1000 ≤ n → Some n ≡ starting_interval table
start_some table n valid aperiodic waits free low =
    let own = (free n).0 (omega arith) in
    sym (below_some (λ ti. starts (with_interval ti table)) table.ti n (free_below table n waits free)
    (interval_starts table n valid aperiodic low own.0 own.1)
    (λ m a b. false_from_ne_true _ (λ h.
    let less : m ≤ n = (free m).1 (omega (arith, b), starting_free (with_interval m table) h) in absurd (omega arith))))

pub start_none : (table : Table) (n : ℕ) → IsFreeTo table n → n < 1000 → None ≡ starting_interval table
start_none table n free low =
    sym (below_none (λ ti. starts (with_interval ti table)) table.ti
    (λ m b. false_from_ne_true _ (λ h.
    let least = starts_least table m h in
    let less : m ≤ n = (free m).1 (omega (arith, b), starting_free (with_interval m table) h) in absurd (omega arith))))

-- one with which it starts is less than its own, with which it doesn't
more_free : (table : Table) (n : ℕ) (senders : List Sender) → table.ti ≤ n → list_all (λ s. nat_le n (table.sg + s.tg + shortest s)) senders ≡ true
    → list_all (λ s. nat_le table.ti (table.sg + s.tg + shortest s)) senders ≡ true
more_free table n [] low h = refl
more_free table n (s ∷ senders) low h =
    let p = and_parts (nat_le n (table.sg + s.tg + shortest s)) _ h in
    let here : n ≤ table.sg + s.tg + shortest s = leb-true n (table.sg + s.tg + shortest s) p.0 in
    and_from _ _ (le-leb table.ti (table.sg + s.tg + shortest s) (omega (arith, here, low))) (more_free table n senders low p.1)

lacking_waits : (table : Table) (mode : Mode) → IsTrue (lacks_start mode table) → starts_itself table ≡ false
lacking_waits table Aperiodic h = not-true (starts_itself table) h
lacking_waits table Periodic h = absurd (cc)

pub lacking_mode : (table : Table) (mode : Mode) → IsTrue (lacks_start mode table) → mode ≡ Aperiodic
lacking_mode table Aperiodic h = refl
lacking_mode table Periodic h = absurd (cc)

pub starts_below : (table : Table) (n : ℕ) → IsTrue (lacks_start table.mode table) → starts (with_interval n table) ≡ true → n < table.ti
starts_below table n lacks good = elim (cases_lt n table.ti) [
  | inl less ↦ less
  | inr rest ↦ absurd (true≢false (sym (more_free table n table.senders (omega arith) (starting_free (with_interval n table) good))
      ∙ lacking_waits table table.mode lacks))
]
