use Rattle.std.proofs.Common.{◌≡◌, ◌<◌, List, length, Some, get_or, arith, ap}
use Rattle.std.specs.Prelude.{slice_get, min}
use Rattle.std.proofs.lemmas.Option.{slice_get-get_or}
use Rattle.bus_strings.specs.Messages.{Entry}
use Rattle.bus_dump.proofs.WalkLemmas.{next_begins}
use Rattle.bus_dump.proofs.walk.Walk.next_begin.Goals as goal

pub returns-clause-ahead : goal.returns-clause-ahead
returns-clause-ahead c =
    let list : List Entry = c.args.self.now.list.now in
    let x : Entry = get_or list c.args.self.now.begun c.index-self-self.result in
    let within : c.args.self.now.begun < length list = omega (arith, c.requires.stands.within, c.if-self.false) in
    let at : slice_get list c.args.self.now.begun ≡ Some x = slice_get-get_or list c.args.self.now.begun c.index-self-self.result within in
    let m : c.x.inside.moment ≡ x.moment = ap (λ (e : Entry). e.moment) c.x.view_is in
    let least : c.min.result ≡ min c.x.inside.moment c.args.limit = c.min.ensures in
    next_begins list c.args.self.now.begun c.min.result x c.requires.walkable at (omega arith)
