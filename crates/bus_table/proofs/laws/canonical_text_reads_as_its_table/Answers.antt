use Rattle.bus_table.proofs.CanonicalLemmas.{canonical_is, canonical_again}
use Rattle.bus_table.proofs.laws.canonical_text_reads_as_its_table.Goals as goal

pub returns-clause-stands : goal.returns-clause-stands
returns-clause-stands c = canonical_is

pub returns-clause-reads : goal.returns-clause-reads
returns-clause-reads c = canonical_again
