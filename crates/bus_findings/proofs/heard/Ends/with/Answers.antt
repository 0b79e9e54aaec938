use Rattle.std.proofs.Common.{◌∙◌}
use Rattle.bus_findings.proofs.HeardLemmas.{ends_own, ends_first, ends_second}
use Rattle.bus_findings.proofs.heard.Ends.with.Goals as goal

pub returns-then-terminal-self : goal.returns-then-terminal-self
returns-then-terminal-self c = λ recording r are own is.
    ends_own recording c.args.self r c.args.end c.max.result are (own ∙ c.if-terminal-self.true) is c.requires c.max.ensures

pub returns-then-self-end : goal.returns-then-self-end
returns-then-self-end c = λ recording r are own is.
    ends_first recording c.args.self r c.args.terminal c.args.end are own c.if-terminal-self.false is c.requires c.if-self-end.true

pub returns-else-self-end : goal.returns-else-self-end
returns-else-self-end c = λ recording r are own is.
    ends_second recording c.args.self r c.args.terminal c.args.end c.max-else-self-end.result are own c.if-terminal-self.false is c.if-self-end.false c.max-else-self-end.ensures
