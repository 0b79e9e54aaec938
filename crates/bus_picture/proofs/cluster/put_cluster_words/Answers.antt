use Rattle.bus_outer.proofs.TextLaws.{◌▸◌}
use Rattle.bus_picture.proofs.cluster.put_cluster_words.Goals as goal

pub returns : goal.returns
returns g c = c.put_members.ensures ▸ c.put_share.ensures
