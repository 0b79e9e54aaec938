-- The longest cycle of an accepted table isn't nothing.
use Rattle.std.specs.Prelude.{◌≡◌, ℕ, ◌<◌, ◌≤◌, Bool, true, false, cond, nat_lt, IsTrue, Option, Some, None}
use Rattle.std.specs.List.{find}
use Rattle.std.specs.Option.{option_map, option_or}
use Rattle.std.proofs.Common.{arith}
use Rattle.bus_table.specs.declared.mode.Mode.{Mode}
use Rattle.bus_table.specs.declared.mode.Mode.TheVariants.{Aperiodic, Periodic}
use Rattle.bus_table.specs.Tables.{Table}
use Rattle.bus_table.specs.Valid.{is_valid}
use Rattle.bus_table.proofs.ValidLaws.{valid_facts}
use Rattle.bus_regime.specs.declared.table_verdict.TableVerdict.TheVariants.{Accept, ShortCycle}
use Rattle.bus_regime.specs.Gaps.{Gap, gaps}
use Rattle.bus_regime.specs.Verdicts.{verdict_in, verdict_of, least_cycle, most_cycle, is_small, lacks_sync, small_gap, no_sync, unless_refused}

by_test : (test : Bool) (short ti long most least other : ℕ) (mode : Mode) → cond test (ShortCycle short ti) (Accept Aperiodic short long) ≡ Accept mode least most
    → long ≡ most
by_test true short ti long most least other mode h = absurd cc
by_test false short ti long most least other mode h = cc

by_gap : (small lacking : Option Gap) (sg ti most least : ℕ) (mode : Mode)
    → unless_refused (option_or (option_map small_gap small) (option_map (no_sync sg) lacking)) ti ≡ Accept mode least most → ti ≡ most
by_gap (Some gap) lacking sg ti most least mode h = absurd cc
by_gap None (Some gap) sg ti most least mode h = absurd cc
by_gap None None sg ti most least mode h = cc

in_mode : (own mode : Mode) (table : Table) (least most : ℕ) → 1000 ≤ table.ti → 9 ≤ table.sg → verdict_in own table ≡ Accept mode least most → 0 < most
in_mode Aperiodic mode table least most ti sg h =
    let same = by_test (nat_lt (least_cycle table) table.ti) (least_cycle table) table.ti (most_cycle table) most least 0 mode h in
    omega (arith, same, sg)
in_mode Periodic mode table least most ti sg h =
    let all = gaps table in
    let same = by_gap (find is_small all) (find (lacks_sync table.sg all) all) table.sg table.ti most least mode h in
    omega (arith, same, ti)

pub most_is_some : (table : Table) (mode : Mode) (least most : ℕ) → IsTrue (is_valid table) → verdict_of table ≡ Accept mode least most → 0 < most
most_is_some table mode least most valid h =
    let facts = valid_facts table valid in
    in_mode table.mode mode table least most facts.ti_least facts.sg_least h
