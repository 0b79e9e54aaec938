use Rattle.std.proofs.Common.{◌≤◌, arith}
use Rattle.bus_medium.specs.inside.Lazy.{clocks_of}
use Rattle.bus_medium.proofs.TimersLemmas.{shorter_after}
use Rattle.bus_medium.proofs.passing.pass_busy.Goals as goal

pub returns-clause-kept : goal.returns-clause-kept
returns-clause-kept c = record {
  ended = (let h : c.args.to ≤ c.args.to = omega arith in h);
  least = shorter_after c.args.idle.now.least c.args.from c.args.to (clocks_of c.args.idle.now.ended c.args.all_timers.now) (clocks_of c.args.to c.pass_some.new.all_timers) c.requires.least c.pass_some.ensures.after;
  each = c.pass_some.ensures.kept;
}
