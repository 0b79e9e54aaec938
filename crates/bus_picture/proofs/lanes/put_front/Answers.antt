use Rattle.std.proofs.Common.{ℕ, [], ◌++◌, subst}
use Rattle.std.specs.Option.{option_map_or}
use Rattle.bus_outer.specs.Texts.{Adds}
use Rattle.bus_outer.proofs.TextLaws.{◌▸◌}
use Rattle.bus_table.specs.Fits.{sender_of}
use Rattle.bus_picture.specs.TimeLines.{band_text, sender_text, terminal_text}
use Rattle.bus_picture.proofs.lanes.put_front.Goals as goal

pub returns : goal.returns
returns g c =
    subst (λ (top : ℕ). Adds g.K.Sink.held g.K.Sink.faults c.args.sink.now c.put_sender_of.new.sink c.args.text.now c.put_sender_of.new.text
    (band_text c.args.k top ++ terminal_text top c.args.lane.terminal
    ++ option_map_or (sender_text c.args.table.now.mode top) (sender_of c.args.table.now.senders c.args.lane.terminal) [])) c.lane_top-top.ensures.value
    (c.put_band.ensures ▸ c.put_terminal.ensures ▸ c.put_sender_of.ensures)
