-- What a call puts of a line.
use Rattle.std.specs.Prelude.{Result, Err}
use Rattle.std.specs.declared.option.Option.{Option}
use Rattle.std.proofs.Common.{ℕ, List, [], refl, ap}
use Rattle.bus_outer.specs.declared.text_buffer.TextBuffer.{TextBuffer}
use Rattle.bus_outer.proofs.TextLaws.{adds_nothing}
use Rattle.bus_table.specs.Tables.{Table}
use Rattle.bus_bounds.specs.Bounds.{Bounds}
use Rattle.bus_text.specs.declared.fault.LineFault.{LineFault}
use Rattle.bus_text.specs.declared.fault.LineFault.TheVariants.{Memory, Refused}
use Rattle.bus_text.specs.inside.Gives.{LineFails}
use Rattle.bus_stream.specs.declared.item.Item.{Item}
use Rattle.bus_stream.specs.declared.reason.StreamReason.{StreamReason}
use Rattle.bus_watch.specs.declared.state.State.{State}
use Rattle.bus_watch.specs.Lines.{PutsLine, came_by, text_in}

pub puts_refused : {K : Type 0} (T : Type 0) (held : K → Option (List ℕ)) (faults : K → ℕ) (k : K) (a : TextBuffer) (bounds : Bounds)
    (table : Table) (s s' : State) (number : ℕ) (read : Result Item StreamReason) (fault : LineFault StreamReason) → LineFails fault read
    → PutsLine {T = T} held faults k k a a s' (Err fault) (came_by bounds table s number read)
puts_refused T held faults k a bounds table s s' number read Memory h = record {
  some = [];
  rest = text_in (came_by bounds table s number read);
  adds = adds_nothing held faults k a;
  front = refl;
}
puts_refused T held faults k a bounds table s s' number read (Refused why) h =
    (ap (came_by bounds table s number) h, adds_nothing held faults k a)
