-- What the numbers of an acceptance are.
use Rattle.std.proofs.Common.{◌≡◌, ℕ, zero, suc, ◌+◌, ◌*◌, ◌<◌, ◌≤◌, ◌^◌, Bool, true, false, cond, List, [], ◌∷◌, ◌++◌, map, length, ◌==◌, inl, inr, arith, refl, sym, ap, ◌∙◌}
use Rattle.std.specs.Prelude.{nat_lt, IsTrue, IfSome, Option, Some, None}
use Rattle.std.specs.List.{find, sum_by}
use Rattle.std.specs.Option.{option_map, option_or}
use Rattle.std.proofs.lemmas.Bool.Decides.{nat_tests}
use Rattle.std.proofs.lemmas.List.Sums.{sum_by-cons}
use Rattle.bus_strings.specs.Members.{In}
use Rattle.bus_strings.proofs.MemberLaws.{of_each}
use Rattle.bus_table.specs.declared.mode.Mode.{Mode}
use Rattle.bus_table.specs.declared.mode.Mode.TheVariants.{Aperiodic, Periodic}
use Rattle.bus_table.specs.inside.Facts.{SenderFacts, TableFacts}
use Rattle.bus_table.specs.Lengths.{longest, shortest}
use Rattle.bus_table.specs.Tables.{Sender, Table}
use Rattle.bus_table.specs.Valid.{is_valid}
use Rattle.bus_table.proofs.LengthLemmas.{word_bounds}
use Rattle.bus_table.proofs.ValidLaws.{valid_facts}
use Rattle.bus_regime.specs.declared.table_verdict.TableVerdict.TheVariants.{Accept, ShortCycle}
use Rattle.bus_regime.specs.Gaps.{Gap, gaps}
use Rattle.bus_regime.specs.Verdicts.{verdict_in, verdict_of, least_cycle, most_cycle, is_small, lacks_sync, small_gap, no_sync, unless_refused}
use Rattle.bus_explain.specs.Accepted.{IsAcceptedWith}
use Rattle.std.proofs.lemmas.List.{length-append, length-map}
use Rattle.bus_table.specs.Turns.{turn_order}
use Rattle.bus_table.proofs.TurnLaws.{order_length}
use Rattle.bus_regime.proofs.GapPlaces.{length-gaps}
use Rattle.bus_reach.specs.Bearing.{bears, greatest_to, tolerance_of}
use Rattle.bus_reach.specs.declared.limit.Limit.{Limit}
use Rattle.bus_reach.specs.Limits.{gap_limit, least_limits, limits_in, limits_of, next_limits, sync_limits}

-- ---- aperiodic
-- the shortest and the longest cycle, of which the shortest is no shorter than the transmit interval
pub record AreCycles (table : Table) (least most : ℕ) : Type 0 where
  pub least_is : least_cycle table ≡ least
  pub most_is : most_cycle table ≡ most
  pub enough : table.ti ≤ least

by_test : (test : Bool) (short ti long least most : ℕ) (mode : Mode) → cond test (ShortCycle short ti) (Accept Aperiodic short long) ≡ Accept mode least most
    → (test ≡ false) × ((short ≡ least) × (long ≡ most))
by_test true short ti long least most mode h = absurd cc
by_test false short ti long least most mode h = (refl, (cc, cc))

by_cycles : (short ti long least most : ℕ) (mode : Mode) → cond (nat_lt short ti) (ShortCycle short ti) (Accept Aperiodic short long) ≡ Accept mode least most
    → (short ≡ least) × ((long ≡ most) × (ti ≤ least))
by_cycles short ti long least most mode h =
    let parts = by_test (nat_lt short ti) short ti long least most mode h in
    let enough : ti ≤ short = grind (arith, nat_tests, parts.0) in
    let same : short ≡ least = parts.1.0 in
    (parts.1.0, (parts.1.1, omega (arith, enough, same)))

pub cycles_of : (table : Table) (least most : ℕ) → table.mode ≡ Aperiodic → IsAcceptedWith table least most → AreCycles table least most
cycles_of table least most aperiodic accepted =
    let parts = by_cycles (least_cycle table) table.ti (most_cycle table) least most accepted.0
    (sym (ap (λ m. verdict_in m table) aperiodic) ∙ accepted.1) in
    record { least_is = parts.0; most_is = parts.1.0; enough = parts.1.1 }

-- ---- periodic
by_gap : (small lacking : Option Gap) (sg ti most least : ℕ) (mode : Mode)
    → unless_refused (option_or (option_map small_gap small) (option_map (no_sync sg) lacking)) ti ≡ Accept mode least most → ti ≡ most
by_gap (Some gap) lacking sg ti most least mode h = absurd cc
by_gap None (Some gap) sg ti most least mode h = absurd cc
by_gap None None sg ti most least mode h = cc

pub interval_of : (table : Table) (least most : ℕ) → table.mode ≡ Periodic → IsAcceptedWith table least most → table.ti ≡ most
interval_of table least most periodic accepted =
    let all = gaps table in
    by_gap (find is_small all) (find (lacks_sync table.sg all) all) table.sg table.ti most least accepted.0
    (sym (ap (λ m. verdict_in m table) periodic) ∙ accepted.1)

-- ---- how small they are
sums : (f : Sender → ℕ) (senders : List Sender) → ((s : Sender) → In s senders → f s ≤ 200000) → sum_by f senders ≤ length senders * 200000
sums f [] h = omega arith
sums f (s ∷ senders) h =
    let own : f s ≤ 200000 = h s (inl refl) in
    omega (arith, sums f senders (λ t i. h t (inr i)), sum_by-cons f s senders)

sender_short : (table : Table) (s : Sender) → SenderFacts table s → s.tg + longest s ≤ 200000
sender_short table s facts =
    let bounds = word_bounds s facts.in_range in
    let tg : s.tg ≤ 256 = facts.tg_most in
    omega (arith, bounds.most, bounds.few)

most_short : (table : Table) → TableFacts table → most_cycle table ≤ 2 ^ 40
most_short table facts =
    let few : length table.senders ≤ 128 = facts.few in
    let sg : table.sg ≤ 1024 = facts.sg_most in
    omega (arith, sums (λ s. s.tg + longest s) table.senders (λ s i. sender_short table s (of_each (SenderFacts table) table.senders facts.senders s i)))

-- the longest cycle, or the interval
pub record IsShortMost (most : ℕ) : Type 0 where
  pub some : 0 < most
  pub short : most ≤ 2 ^ 40

of_mode : (mode : Mode) (table : Table) (least most : ℕ) → TableFacts table → table.mode ≡ mode → IsAcceptedWith table least most → IsShortMost most
of_mode Aperiodic table least most facts is accepted =
    let same = (cycles_of table least most is accepted).most_is in
    let sg : 9 ≤ table.sg = facts.sg_least in
    let short = most_short table facts in
    record { some = omega (arith, same, sg); short = omega (arith, same, short) }
of_mode Periodic table least most facts is accepted =
    let same = interval_of table least most is accepted in
    let least_ti : 1000 ≤ table.ti = facts.ti_least in
    let most_ti : table.ti ≤ 128000 = facts.ti_most in
    record { some = omega (arith, same); short = omega (arith, same) }

-- so short are those of every accepted table
pub most_of : (table : Table) (least most : ℕ) → IsTrue (is_valid table) → IsAcceptedWith table least most → IsShortMost most
most_of table least most valid accepted = of_mode table.mode table least most (valid_facts table valid) refl accepted

-- ---- delays
greatest_within : (test : ℕ → Bool) (n : ℕ) → greatest_to test n ≤ n
greatest_within test zero = omega arith
greatest_within test (suc n) = elim (test (suc n)) as (λ b. cond b (suc n) (greatest_to test n) ≤ suc n) [
  | true ↦ omega arith
  | false ↦ omega (arith, greatest_within test n)
]

of_alone : (alone : Bool) (d : ℕ) → d ≤ 2 ^ 40 → IfSome (cond alone None (Some d)) (λ e. e ≤ 2 ^ 40)
of_alone true d low = tt
of_alone false d low = low

pub slow_tolerance : (table : Table) → IsTrue (is_valid table) → IfSome (tolerance_of table) (λ d. d ≤ 2 ^ 40)
slow_tolerance table valid =
    let most : table.ti ≤ 128000 = (valid_facts table valid).ti_most in
    of_alone (length table.senders == 1) (greatest_to (bears table) (2 * table.ti)) (omega (arith, most, greatest_within (bears table) (2 * table.ti)))

-- ---- limits
next_length : (table : Table) (order : List Sender) → length (next_limits table order) ≡ length order
next_length table [] = refl
next_length table (sender ∷ order) = ap (λ n. suc n) (next_length table order)

least_length : (table : Table) (order : List Sender) → length (least_limits table order) ≤ 1
least_length table [] = omega arith
least_length table (first ∷ order) = omega arith

sync_length : (table : Table) (before behind : List Gap) → length (sync_limits table before behind) ≡ length behind
sync_length table before [] = refl
sync_length table before (own ∷ behind) = ap (λ n. suc n) (sync_length table (before ++ own ∷ []) behind)

in_length : (mode : Mode) (table : Table) → length table.senders ≤ 128 → length (limits_in mode table) ≤ 1000
in_length Aperiodic table few =
    let order = turn_order table in
    omega (arith, few, order_length table, length-append (least_limits table order) (next_limits table order), least_length table order, next_length table order)
in_length Periodic table few =
    let all = gaps table in
    omega (
      arith,
      few,
      length-gaps table,
      length-append (map (gap_limit table) all) (sync_limits table [] all),
      length-map all (gap_limit table),
      sync_length table [] all,
    )

of_count : (alone : Bool) (limits : List Limit) → length limits ≤ 1000 → length (cond alone [] limits) ≤ 1000
of_count true limits few = omega arith
of_count false limits few = few

pub few_limits : (table : Table) → IsTrue (is_valid table) → length (limits_of table) ≤ 1000
few_limits table valid =
    of_count (length table.senders == 1) (limits_in table.mode table) (in_length table.mode table (valid_facts table valid).few)
