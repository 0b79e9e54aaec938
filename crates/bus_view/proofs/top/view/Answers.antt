use Rattle.bus_view.proofs.ViewClaims.{keeps}
use Rattle.bus_view.proofs.top.view.Goals as goal

pub returns-clause-keeps : goal.returns-clause-keeps
returns-clause-keeps g c = rw c.status.ensures (keeps (record {
  table_again = c.text_reads_as_its_table.ensures;
  trace_back = c.traces_read_back.ensures.back;
  single = c.lawful_is_single.ensures;
  closed = c.accepted_is_closed.ensures;
  clear = c.clear_lists_show_none.ensures;
  breach = c.wires_are_told.ensures.breach;
}) _ c.act-outcome.result c.act-outcome.ensures)
