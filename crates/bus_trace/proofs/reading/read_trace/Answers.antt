use Rattle.bus_trace.proofs.ReadLaws.{loops_takes, loops_exact, exact_found, exact_only}
use Rattle.bus_trace.proofs.reading.read_trace.Goals as goal

pub returns-clause-taken : goal.returns-clause-taken
returns-clause-taken g c = loops_takes (record {
  neighbours = c.neighbours_tell.ensures.neighbours;
  ascending =
      c.neighbours_tell.ensures.ascending;
}) _ _ _ c.read_text.ensures.loops

pub returns-clause-exact : goal.returns-clause-exact
returns-clause-exact g c = loops_exact _ _ _ c.read_text.ensures.loops

pub returns-clause-found : goal.returns-clause-found
returns-clause-found g c =
    exact_found (record { neighbours = c.neighbours_tell.ensures.neighbours; ascending = c.neighbours_tell.ensures.ascending }) _ _
    (loops_exact _ _ _ c.read_text.ensures.loops)

pub returns-clause-only : goal.returns-clause-only
returns-clause-only g c =
    exact_only (record { neighbours = c.neighbours_tell.ensures.neighbours; ascending = c.neighbours_tell.ensures.ascending }) _ _
    (loops_exact _ _ _ c.read_text.ensures.loops)
