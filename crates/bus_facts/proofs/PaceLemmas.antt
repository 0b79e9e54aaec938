-- How small the numbers of an accepted table are.
use Rattle.std.proofs.Common.{◌≡◌, ℕ, ◌+◌, ◌*◌, ◌/◌, ◌<◌, ◌≤◌, ◌^◌, Bool, true, false, cond, List, [], ◌∷◌, length, Some, None, inl, inr, arith, refl}
use Rattle.std.specs.Prelude.{nat_lt, IsTrue, IfSome, Option}
use Rattle.std.specs.List.{find, sum_by}
use Rattle.std.specs.Option.{option_map, option_or}
use Rattle.std.proofs.lemmas.List.Sums.{sum_by-cons}
use Rattle.std.proofs.Math.Nat.{div-le_self}
use Rattle.bus_strings.specs.Members.{In}
use Rattle.bus_strings.proofs.MemberLaws.{of_each}
use Rattle.bus_table.specs.declared.mode.Mode.{Mode}
use Rattle.bus_table.specs.declared.mode.Mode.TheVariants.{Aperiodic, Periodic}
use Rattle.bus_table.specs.inside.Facts.{SenderFacts, TableFacts}
use Rattle.bus_table.specs.Lengths.{longest}
use Rattle.bus_table.specs.Tables.{Sender, Table}
use Rattle.bus_table.specs.Valid.{is_valid}
use Rattle.bus_table.proofs.LengthLemmas.{word_bounds}
use Rattle.bus_table.proofs.ValidLaws.{valid_facts}
use Rattle.bus_regime.specs.declared.table_verdict.TableVerdict.TheVariants.{Accept, ShortCycle}
use Rattle.bus_regime.specs.Gaps.{Gap, gaps}
use Rattle.bus_regime.specs.Verdicts.{verdict_in, verdict_of, least_cycle, most_cycle, is_small, lacks_sync, small_gap, no_sync, unless_refused}

by_test : (test : Bool) (short ti long most least : ℕ) (mode : Mode) → cond test (ShortCycle short ti) (Accept Aperiodic short long) ≡ Accept mode least most
    → long ≡ most
by_test true short ti long most least mode h = absurd cc
by_test false short ti long most least mode h = cc

by_gap : (small lacking : Option Gap) (sg ti most least : ℕ) (mode : Mode)
    → unless_refused (option_or (option_map small_gap small) (option_map (no_sync sg) lacking)) ti ≡ Accept mode least most → ti ≡ most
by_gap (Some gap) lacking sg ti most least mode h = absurd cc
by_gap None (Some gap) sg ti most least mode h = absurd cc
by_gap None None sg ti most least mode h = cc

cycles : (senders : List Sender) → ((s : Sender) → In s senders → s.tg + longest s ≤ 200000) → sum_by (λ s. s.tg + longest s) senders ≤ length senders * 200000
cycles [] h = omega arith
cycles (s ∷ senders) h =
    let own : s.tg + longest s ≤ 200000 = h s (inl refl) in
    omega (arith, cycles senders (λ t i. h t (inr i)), sum_by-cons (λ (t : Sender). t.tg + longest t) s senders)

sender_short : (table : Table) (s : Sender) → SenderFacts table s → s.tg + longest s ≤ 200000
sender_short table s facts =
    let bounds = word_bounds s facts.in_range in
    let tg : s.tg ≤ 256 = facts.tg_most in
    omega (arith, bounds.most, bounds.few)

most_short : (table : Table) → TableFacts table → most_cycle table ≤ 2 ^ 40
most_short table facts =
    let few : length table.senders ≤ 128 = facts.few in
    let sg : table.sg ≤ 1024 = facts.sg_most in
    omega (arith, cycles table.senders (λ s i. sender_short table s (of_each (SenderFacts table) table.senders facts.senders s i)))

pub record IsShortMost (most : ℕ) : Type 0 where
  pub some : 0 < most
  pub short : most ≤ 2 ^ 40

in_mode : (own mode : Mode) (table : Table) (least most : ℕ) → TableFacts table → verdict_in own table ≡ Accept mode least most → IsShortMost most
in_mode Aperiodic mode table least most facts h =
    let same = by_test (nat_lt (least_cycle table) table.ti) (least_cycle table) table.ti (most_cycle table) most least mode h in
    let sg : 9 ≤ table.sg = facts.sg_least in
    let short = most_short table facts in
    record { some = omega (arith, same, sg); short = omega (arith, same, short) }
in_mode Periodic mode table least most facts h =
    let all = gaps table in
    let same = by_gap (find is_small all) (find (lacks_sync table.sg all) all) table.sg table.ti most least mode h in
    let least_ti : 1000 ≤ table.ti = facts.ti_least in
    let most_ti : table.ti ≤ 128000 = facts.ti_most in
    record { some = omega (arith, same); short = omega (arith, same) }

-- the longest cycle of an accepted table
pub most_of : (table : Table) (mode : Mode) (least most : ℕ) → IsTrue (is_valid table) → verdict_of table ≡ Accept mode least most → IsShortMost most
most_of table mode least most valid h = in_mode table.mode mode table least most (valid_facts table valid) h

-- a share of a short time
pub share_short : (part whole : ℕ) → part < 2 ^ 32 → whole ≤ 2 ^ 40 → (2000 * part + whole) / (2 * whole) < 2 ^ 64
share_short part whole low short = omega (arith, div-le_self (2000 * part + whole) (2 * whole))

pub slow_tolerance : (ti : ℕ) (tolerance : Option ℕ) → ti ≤ 128000 → IfSome tolerance (λ most. most < 2 * ti) → IfSome tolerance (λ d. d ≤ 2 ^ 40)
slow_tolerance ti None low h = tt
slow_tolerance ti (Some d) low h = let k : d < 2 * ti = h in omega arith
