-- A verdict, with the numbers that the verdict line tells.
use Rattle.std.specs.Prelude.{ℕ, ℤ, pos, List, codes}
use Rattle.serde_json.specs.Data.{Data, number, string, object, member, no_members}
use Rattle.serde_json.specs.Find.{of_integer}
use Rattle.bus_regime.specs.declared.table_verdict.TableVerdict.{TableVerdict}
use Rattle.bus_regime.specs.declared.table_verdict.TableVerdict.TheVariants.{Accept, ShortCycle, SmallGap, NoSync}
use Rattle.bus_facts.specs.Values.{count}

-- One that accepts.
abbrev pub accept_value : (least most : ℕ) → Data
accept_value least most =
    object (member (codes "kind") (string (codes "accept"))
    (member (codes "least") (count least)
    (member (codes "most") (count most) no_members)))

-- One that refuses a cycle.
abbrev pub cycle_value : (least ti : ℕ) → Data
cycle_value least ti =
    object (member (codes "kind") (string (codes "short-cycle"))
    (member (codes "least") (count least)
    (member (codes "ti") (count ti) no_members)))

-- One that refuses a gap, which is below 0 where it is an overlap.
abbrev pub gap_value : List ℕ → (terminal : ℕ) → ℤ → (needed : ℕ) → Data
gap_value kind terminal gap needed =
    object (member (codes "gap") (number (of_integer gap))
    (member (codes "kind") (string kind)
    (member (codes "needed") (count needed)
    (member (codes "terminal") (count terminal) no_members))))

-- A verdict.
abbrev pub verdict_value : TableVerdict → Data
verdict_value (Accept mode least most) = accept_value least most
verdict_value (ShortCycle least ti) = cycle_value least ti
verdict_value (SmallGap terminal gap needed) = gap_value (codes "small-gap") terminal gap needed
verdict_value (NoSync terminal gap needed) = gap_value (codes "no-sync") terminal (pos gap) needed
