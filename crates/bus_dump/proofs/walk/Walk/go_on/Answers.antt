use Rattle.std.proofs.Common.{refl}
use Rattle.bus_dump.proofs.WalkLemmas.{walk_later}
use Rattle.bus_dump.proofs.walk.Walk.go_on.Goals as goal

pub begin_all-requires-clause-reaches : goal.begin_all-requires-clause-reaches
begin_all-requires-clause-reaches c =
    walk_later c.args.self.now.list.now c.args.from c.args.t c.args.self.now _ c.requires.stands c.requires.later c.requires.next refl refl refl c.drop_ended.ensures
