use Rattle.std.proofs.Common.{arith, refl}
use Rattle.bus_findings.proofs.heard.Heard.nothing.Goals as goal

pub returns-clause-heard : goal.returns-clause-heard
returns-clause-heard c = record {
  end = refl;
  end_bound = omega arith;
  soonest = c.none.ensures;
  latest = refl;
  latest_bound = omega arith;
  quiet = c.none-2.ensures c.args.bounds c.args.list.now;
}
