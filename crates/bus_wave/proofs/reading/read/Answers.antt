use Rattle.std.proofs.Common.{◌≡◌, ◌≤◌, length, arith, List, sym, subst, ap, ◌∙◌, Result, Ok}
use Rattle.bus_trace.specs.declared.hold.Hold.{Hold}
use Rattle.bus_trace.specs.Traces.{Recording, IsTrace}
use Rattle.bus_wave.specs.Counted.{holds_of}
use Rattle.bus_wave.specs.Reading.{WaveRefusal}
use Rattle.bus_wave.specs.WaveLaws.{IsRead}
use Rattle.bus_wave.proofs.reading.read.Goals as goal

pub holds-requires : goal.holds-requires
holds-requires c =
    let table = c.args.table.now in
    let list = c.in_ok-horizon.list.items in
    let t : Recording = record { horizon = c.in_ok-horizon.horizon; holds = holds_of table list; list = list } in
    let r : IsRead table t c.args.text.now = c.waves_tell_traces.ensures.only table t c.args.text.now c.table_is_valid.ensures c.requires c.in_ok-horizon.ensures in
    let few : length list ≤ length c.args.text.now = r.few in
    omega (arith, few, c.requires, ap length c.deref.ensures.value)

pub of-requires : goal.of-requires
of-requires c =
    let table = c.args.table.now in
    let list = c.in_ok-horizon.list.items in
    let t : Recording = record { horizon = c.in_ok-horizon.horizon; holds = holds_of table list; list = list } in
    let r : IsRead table t c.args.text.now = c.waves_tell_traces.ensures.only table t c.args.text.now c.table_is_valid.ensures c.requires c.in_ok-horizon.ensures in
    let same : holds_of table list ≡ c.in_ok-holds.holds.items = ap (holds_of table) (sym c.deref.ensures.value) ∙ sym c.in_ok-holds.ensures in
    subst (λ (hs : List Hold). IsTrace (record { horizon = c.in_ok-horizon.horizon; holds = hs; list = list })) same r.trace.trace

pub returns : goal.returns
returns c =
    let table = c.args.table.now in
    let list = c.in_ok-horizon.list.items in
    let same : holds_of table list ≡ c.in_ok-holds.holds.items = ap (holds_of table) (sym c.deref.ensures.value) ∙ sym c.in_ok-holds.ensures in
    c.in_ok-horizon.ensures
    ∙ ap (λ (hs : List Hold). (let r : Result Recording WaveRefusal = Ok (record { horizon = c.in_ok-horizon.horizon; holds = hs; list = list }) in r)) same
    ∙ ap (λ (u : Recording). (let r : Result Recording WaveRefusal = Ok u in r)) (sym c.of.ensures)
