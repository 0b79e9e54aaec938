use Rattle.std.proofs.Common.{◌<◌, ◌≤◌, ◌+◌, ◌-◌, ◌^◌, ◌∷◌, length}
use Rattle.std.specs.List.{AllByRecursion}
use Rattle.bus_cycles.specs.inside.Bounds.{IsSent}
use Rattle.bus_cycles.specs.inside.Surveying.{Surveys}
use Rattle.bus_cycles.specs.Surveys.{told_of}
use Rattle.bus_cycles.proofs.survey.survey_from.Given as goal

abbrev pub invariant-loop-sent : goal.invariant-loop-sent
invariant-loop-sent l = record {
  surveys : Surveys l.seen l.breach l.cycle (told_of l.cycle l.seen l.breach (l.first ∷ l.fn.shown)) l.survey l.row l.sent-iterator;
  each : AllByRecursion IsSent l.sent-iterator;
  begin : l.row.begin ≤ 2 ^ 42;
  few : l.row.place + length l.sent-iterator < 2 ^ 64 - 1;
}
