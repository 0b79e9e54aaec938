use Rattle.bus_table.proofs.ValidLaws.{valid_facts}
use Rattle.bus_facts.proofs.PaceLemmas.{most_of, slow_tolerance}
use Rattle.bus_facts.proofs.table.accepted_figures.Goals as goal

pub load_value-requires-clause-some : goal.load_value-requires-clause-some
load_value-requires-clause-some c = (most_of c.args.table.now c.requires.0 c.args.least c.args.most c.table_is_valid.ensures c.requires.1).some

pub load_value-requires-clause-short : goal.load_value-requires-clause-short
load_value-requires-clause-short c = (most_of c.args.table.now c.requires.0 c.args.least c.args.most c.table_is_valid.ensures c.requires.1).short

pub senders_value-requires : goal.senders_value-requires
senders_value-requires c = record {
  most = (most_of c.args.table.now c.requires.0 c.args.least c.args.most c.table_is_valid.ensures c.requires.1).short;
  tolerance = slow_tolerance c.args.table.now.ti c.tolerance-tolerance.result (valid_facts c.args.table.now c.table_is_valid.ensures).ti_most
      c.tolerance-tolerance.ensures.bound;
}
