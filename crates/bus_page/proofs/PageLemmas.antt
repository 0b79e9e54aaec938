-- The page of a refused table.
use Rattle.std.specs.Prelude.{◌≡◌, ℕ, false, List, Option}
use Rattle.std.proofs.Common.{refl}
use Rattle.bus_bounds.specs.Bounds.{Bounds}
use Rattle.bus_table.specs.Tables.{Table}
use Rattle.bus_regime.specs.Verdicts.{is_accepted}
use Rattle.bus_regime.specs.declared.table_verdict.TableVerdict.{TableVerdict}
use Rattle.bus_regime.specs.declared.table_verdict.TableVerdict.TheVariants.{Accept, ShortCycle, SmallGap, NoSync}
use Rattle.bus_page.specs.Pages.{page_with, refused_page}

pub refused_is : (program bytes : List ℕ) (asked : Option Bounds) (verdict : TableVerdict) (table : Table) → is_accepted verdict ≡ false
    → refused_page program bytes verdict table ≡ page_with program bytes asked verdict table
refused_is program bytes asked (Accept mode least most) table h = absurd cc
refused_is program bytes asked (ShortCycle least ti) table h = refl
refused_is program bytes asked (SmallGap terminal gap needed) table h = refl
refused_is program bytes asked (NoSync terminal gap needed) table h = refl
