use Rattle.std.proofs.Common.{List, Option, sym, ap, ◌∙◌, subst, []}
use Rattle.std.specs.Option.{option_copied, option_map_or}
use Rattle.bus_outer.specs.Texts.{Adds}
use Rattle.bus_outer.proofs.TextLaws.{adds_nothing}
use Rattle.bus_table.specs.Fits.{sender_of}
use Rattle.bus_table.specs.Tables.{Sender}
use Rattle.bus_dump.specs.SaveFiles.{timing_text}
use Rattle.bus_dump.proofs.save_file.put_timing_of.Goals as goal

pub returns-in-Some : goal.returns-in-Some
returns-in-Some g c =
    subst (λ (o : Option Sender). Adds g.K.Sink.held g.K.Sink.faults c.args.sink.now c.put_timing.new.sink c.args.text.now c.put_timing.new.text
    (option_map_or (timing_text c.args.table.now.mode) o []))
    (ap option_copied (sym c.in-Some.is) ∙ c.sender_of.ensures ∙ ap (λ (senders : List Sender). sender_of senders c.args.terminal) c.senders.ensures.value)
    (rw c.mode.ensures.value at c.put_timing.ensures)

pub returns-in_default : goal.returns-in_default
returns-in_default g c =
    subst (λ (o : Option Sender). Adds g.K.Sink.held g.K.Sink.faults c.args.sink.now c.args.sink.now c.args.text.now c.args.text.now
    (option_map_or (timing_text c.args.table.now.mode) o []))
    (ap option_copied (sym c.in_default.is) ∙ c.sender_of.ensures ∙ ap (λ (senders : List Sender). sender_of senders c.args.terminal) c.senders.ensures.value)
    (adds_nothing g.K.Sink.held g.K.Sink.faults c.args.sink.now c.args.text.now)
