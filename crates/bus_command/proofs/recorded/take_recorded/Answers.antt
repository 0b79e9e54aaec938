use Rattle.bus_command.proofs.FollowedLemmas.{no_table, none_followed, all_taken}
use Rattle.bus_command.proofs.recorded.take_recorded.Goals as goal

pub returns-in_err-table-clause-prepares : goal.returns-in_err-table-clause-prepares
returns-in_err-table-clause-prepares g c = no_table g.row.R.Denot c.args.hears _ _ _ c.in_err-table.field-0.0 c.from_residual.result c.from_residual.ensures.1 c.in_err-table.ensures

pub returns-in_err-followed-clause-prepares : goal.returns-in_err-followed-clause-prepares
returns-in_err-followed-clause-prepares g c =
    none_followed g.row.R.Denot c.args.hears _ _ _ _ c.in_ok-table.table c.in_err-followed.field-0.0 c.from_residual-in_err-followed.result c.from_residual-in_err-followed.ensures.1
    c.in_ok-table.ensures c.in_err-followed.ensures.takes

pub returns-clause-prepares : goal.returns-clause-prepares
returns-clause-prepares g c = all_taken g.row.R.Denot c.args.hears _ _ _ _ c.in_ok-table.table c.in_ok-followed.followed c.in_ok-table.ensures c.in_ok-followed.ensures.takes
