use Rattle.bus_page.proofs.bars.put_rule.Goals as goal

pub returns-in-LeastGap : goal.returns-in-LeastGap
returns-in-LeastGap g c = rw c.in-LeastGap.is c.put_named.ensures

pub returns-in-NextGap : goal.returns-in-NextGap
returns-in-NextGap g c = rw c.in-NextGap.is c.put_named-in-NextGap.ensures

pub returns-in-OwnGap : goal.returns-in-OwnGap
returns-in-OwnGap g c = rw c.in-OwnGap.is c.put_named-in-OwnGap.ensures

pub returns-in-Sync : goal.returns-in-Sync
returns-in-Sync g c = rw c.in-Sync.is c.put_named-in-Sync.ensures
