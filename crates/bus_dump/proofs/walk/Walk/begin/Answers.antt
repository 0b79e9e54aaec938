use Rattle.std.proofs.Common.{◌≡◌, ◌+◌, ◌<◌, ◌≤◌, List, length, Some, get_or, arith, refl, sym, ap}
use Rattle.std.specs.Prelude.{slice_get}
use Rattle.std.proofs.lemmas.Option.{slice_get-get_or}
use Rattle.bus_strings.proofs.MemberLaws.{of_each, at_in}
use Rattle.bus_strings.specs.Messages.{Entry}
use Rattle.bus_strings.specs.Transmissions.{IsTransmission, end_of}
use Rattle.bus_strings.proofs.MarkLaws.{next_mark}
use Rattle.bus_dump.proofs.WalkLemmas.{room, walk_begun}
use Rattle.bus_dump.proofs.walk.Walk.begin.Goals as goal

pub push-requires : goal.push-requires
push-requires c =
    let list : List Entry = c.args.self.now.list.now in
    let x : Entry = get_or list c.args.self.now.begun c.index-self-self.result in
    let at : slice_get list c.args.self.now.begun ≡ Some x = slice_get-get_or list c.args.self.now.begun c.index-self-self.result c.requires.within in
    let now : x.moment ≡ c.args.t = c.requires.now x at in
    let some : x.moment < c.end.result = c.end.ensures.some in
    let is : c.end.result ≡ end_of x = c.end.ensures.value in
    (omega arith, room list c.args.t c.args.self.now x c.requires.walkable c.requires.reaches at now (omega arith))

pub returns-clause-reaches : goal.returns-clause-reaches
returns-clause-reaches c =
    let list : List Entry = c.args.self.now.list.now in
    let x : Entry = get_or list c.args.self.now.begun c.index-self-self.result in
    let at : slice_get list c.args.self.now.begun ≡ Some x = slice_get-get_or list c.args.self.now.begun c.index-self-self.result c.requires.within in
    let now : x.moment ≡ c.args.t = c.requires.now x at in
    let some : x.moment < c.end.result = c.end.ensures.some in
    let is : c.end.result ≡ end_of x = c.end.ensures.value in
    let own : x.terminal ≡ c.x.inside.terminal = sym (ap (λ (e : Entry). e.terminal) c.x.view_is) in
    let low : x.terminal ≤ 128 = (of_each IsTransmission list c.requires.walkable.entries x (at_in list c.args.self.now.begun x at)).low in
    let long : length c.args.self.now.counts ≡ 129 = omega arith in
    let mark = next_mark list c.args.self.now.begun c.args.self.now.marks c.next.new.self c.next.result c.eq-garbled.result c.requires.within
    c.requires.reaches.marks c.next.ensures.steps c.eq-garbled.ensures in
    walk_begun list c.args.t c.x.inside.terminal (get_or c.args.self.now.counts c.x.inside.terminal 0 + 1) c.end.result c.eq-garbled.result c.args.self.now _ x
    c.requires.reaches at now (omega arith) is own (omega arith) long refl mark.0 refl refl mark.1 c.push.ensures.items
