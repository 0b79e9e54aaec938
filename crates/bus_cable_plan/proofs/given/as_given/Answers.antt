use Rattle.std.proofs.Common.{IfOk, ap, sym, subst, ◌∙◌, ◌≡◌, ◌<◌, ℕ, List}
use Rattle.std.specs.List.{All}
use Rattle.bus_table.specs.Tables.{Table}
use Rattle.bus_table.specs.Offsets.{with_offsets}
use Rattle.bus_cable_plan.specs.Plans.{given_offsets}
use Rattle.bus_cable_plan.proofs.AsGiven.{given_below, itself}
use Rattle.bus_cable_plan.proofs.Steps.{all_of}
use Rattle.bus_cable_plan.proofs.given.as_given.Goals as goal

pub with_offsets-requires-clause-below : goal.with_offsets-requires-clause-below
with_offsets-requires-clause-below c =
    subst (λ (os : List ℕ). All (λ at. at < c.args.table.now.ti) os) (sym (c.deref.ensures.value ∙ c.in_ok-offsets.ensures))
    (all_of (λ at. at < c.args.table.now.ti) (given_offsets c.args.table.now)
    (given_below c.args.table.now c.table_is_valid.ensures c.requires.periodic))

pub returns : goal.returns
returns c =
    subst (λ (t : Table). IfOk c.with_offsets.result (λ made. made ≡ t))
    (ap (λ (os : List ℕ). with_offsets os c.args.table.now) (c.deref.ensures.value ∙ c.in_ok-offsets.ensures) ∙ itself c.args.table.now)
    c.with_offsets.ensures
