use Rattle.std.proofs.Common.{arith}
use Rattle.std.proofs.lemmas.Grind.{common_steps}
use Rattle.bus_shapes.proofs.heading.put_breach_words.Goals as goal

pub returns-in-Missing : goal.returns-in-Missing
returns-in-Missing g c = grind (arith, common_steps)

pub returns-in-Stranger : goal.returns-in-Stranger
returns-in-Stranger g c = rw c.in-Stranger.is c.put.ensures

pub returns-in-Unheld : goal.returns-in-Unheld
returns-in-Unheld g c = rw c.in-Unheld.is c.put-in-Unheld.ensures

pub returns-in-Early : goal.returns-in-Early
returns-in-Early g c = rw c.in-Early.is c.put-in-Early.ensures

pub returns-in-Misfit : goal.returns-in-Misfit
returns-in-Misfit g c = rw c.in-Misfit.is c.put-in-Misfit.ensures
