use Rattle.std.proofs.Common.{◌≡◌, arith, ap, refl, sym, subst, ◌∙◌}
use Rattle.std.proofs.lemmas.Result.{err_from_is_err_and}
use Rattle.bus_outer.specs.Texts.{Adds}
use Rattle.bus_outer.proofs.TextLaws.{adds_then}
use Rattle.bus_findings.specs.Terminals.{is_faulty}
use Rattle.bus_stream.specs.Places.{bit_of}
use Rattle.bus_watch.specs.declared.part.Part.{Part}
use Rattle.bus_watch.specs.Parts.{found_in, found_of, judged, judged_text, made_room, room_text, taken, with_fault}
use Rattle.bus_watch.specs.Texts.{found_lines}
use Rattle.bus_watch.specs.Looks.{CanLook}
use Rattle.bus_watch.specs.Standing.{CanTake}
use Rattle.bus_watch.proofs.PartLemmas.{look_before, made_room_can}
use Rattle.bus_watch.proofs.part.Part.judge.Goals as goal

pub make_room-requires-clause-look : goal.make_room-requires-clause-look
make_room-requires-clause-look g c =
    let table = c.args.setting.now.table.now in
    subst (λ b. CanLook table c.args.self.now b) (sym c.bit_of.ensures)
    (look_before table c.args.self.now (bit_of c.args.at.time) c.args.at.terminal c.requires.room)

pub take-requires-clause-room : goal.take-requires-clause-room
take-requires-clause-room g c =
    let bounds = c.args.setting.now.bounds in
    let table = c.args.setting.now.table.now in
    let bit = bit_of c.args.at.time in
    let made : c.make_room.new.self ≡ made_room bounds table c.args.self.now bit =
    c.make_room.ensures.made ∙ ap (made_room bounds table c.args.self.now) c.bit_of.ensures in (
      table,
      subst (λ (p : Part). CanTake table p bit c.args.at.terminal) (sym made)
          (made_room_can bounds table c.args.self.now bit c.args.at.terminal c.requires.room),
    )

pub returns-in_err-found-clause-front : goal.returns-in_err-found-clause-front
unfolding judged_text
returns-in_err-found-clause-front g c =
    let bounds = c.args.setting.now.bounds in
    let table = c.args.setting.now.table.now in
    let room = subst (λ b. Adds g.K.Sink.held g.K.Sink.faults c.args.sink.now c.make_room.new.sink c.args.text.now c.make_room.new.text
    (room_text table c.args.self.now c.args.at.line b)) c.bit_of.ensures c.make_room.ensures.adds in
    let p = err_from_is_err_and c.from_residual.result c.from_residual.ensures.1 in
    rw p.1 (record {
      some = room_text table c.args.self.now c.args.at.line (bit_of c.args.at.time);
      rest = found_lines c.args.at (found_of bounds table c.args.self.now c.args.at.time c.args.at.terminal c.args.message);
      adds = room;
      front = refl;
    })

pub returns-clause-adds : goal.returns-clause-adds
unfolding judged_text found_of
returns-clause-adds g c =
    let bounds = c.args.setting.now.bounds in
    let table = c.args.setting.now.table.now in
    let bit = bit_of c.args.at.time in
    let made : c.make_room.new.self ≡ made_room bounds table c.args.self.now bit =
    c.make_room.ensures.made ∙ ap (made_room bounds table c.args.self.now) c.bit_of.ensures in
    let found = c.in_ok-found.ensures.found ∙ ap (λ (p : Part). found_in p.older bit c.args.at.terminal c.args.message) made in
    let room = subst (λ b. Adds g.K.Sink.held g.K.Sink.faults c.args.sink.now c.make_room.new.sink c.args.text.now c.make_room.new.text
    (room_text table c.args.self.now c.args.at.line b)) c.bit_of.ensures c.make_room.ensures.adds in
    adds_then room (subst (λ f. Adds g.K.Sink.held g.K.Sink.faults c.make_room.new.sink c.put_found.new.sink c.make_room.new.text c.put_found.new.text
    (found_lines c.args.at f)) found c.put_found.ensures)

pub returns-clause-judged : goal.returns-clause-judged
unfolding judged found_of
returns-clause-judged g c =
    let bounds = c.args.setting.now.bounds in
    let table = c.args.setting.now.table.now in
    let bit = bit_of c.args.at.time in
    let made : c.make_room.new.self ≡ made_room bounds table c.args.self.now bit =
    c.make_room.ensures.made ∙ ap (made_room bounds table c.args.self.now) c.bit_of.ensures in
    let found = c.in_ok-found.ensures.found ∙ ap (λ (p : Part). found_in p.older bit c.args.at.terminal c.args.message) made in
    c.count.ensures
    ∙ ap (λ p. with_fault c.is_faulty-faulty.result p) (c.in_ok-found.ensures.taken ∙ ap (λ p. taken p c.args.at.time c.args.at.terminal c.args.message) made)
    ∙ ap (λ b. with_fault b (taken (made_room bounds table c.args.self.now bit) c.args.at.time c.args.at.terminal c.args.message))
    (c.is_faulty-faulty.ensures ∙ ap is_faulty found)

pub returns-clause-fault : goal.returns-clause-fault
unfolding found_of
returns-clause-fault g c =
    let bounds = c.args.setting.now.bounds in
    let table = c.args.setting.now.table.now in
    let bit = bit_of c.args.at.time in
    let made : c.make_room.new.self ≡ made_room bounds table c.args.self.now bit =
    c.make_room.ensures.made ∙ ap (made_room bounds table c.args.self.now) c.bit_of.ensures in
    let found = c.in_ok-found.ensures.found ∙ ap (λ (p : Part). found_in p.older bit c.args.at.terminal c.args.message) made in
    c.is_faulty-faulty.ensures ∙ ap is_faulty found

pub count-requires : goal.count-requires
count-requires g c =
    let bounds = c.args.setting.now.bounds in
    let table = c.args.setting.now.table.now in
    let bit = bit_of c.args.at.time in
    let made : c.make_room.new.self ≡ made_room bounds table c.args.self.now bit =
    c.make_room.ensures.made ∙ ap (made_room bounds table c.args.self.now) c.bit_of.ensures in
    let can = made_room_can bounds table c.args.self.now bit c.args.at.terminal c.requires.room in
    let same = ap (λ (p : Part). p.faults) (c.in_ok-found.ensures.taken ∙ ap (λ p. taken p c.args.at.time c.args.at.terminal c.args.message) made) in
    omega (arith, same, can.few, can.more)
