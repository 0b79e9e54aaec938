-- Wordstrings of a transmission.
use Rattle.std.proofs.Common.{◌≡◌, ℕ, ◌+◌, [], Option, Some, sym, ap, ◌∙◌}
use Rattle.std.specs.Prelude.{slice_get}
use Rattle.std.specs.Option.{option_map_or}
use Rattle.bus_strings.specs.Messages.{Entry, Wordstring}
use Rattle.bus_strings.specs.Pulses.{pulse_length, pulse_start}
use Rattle.bus_pen.specs.declared.scale.Scale.{Scale}
use Rattle.bus_shapes.specs.declared.sent.Sent.{Sent}
use Rattle.bus_table.specs.Tables.{Table}
use Rattle.bus_picture.specs.Strings.{pulse_text, string_text}

pub at_pulse : (scale : Scale) (table : Table) (top : ℕ) (sent : Sent) (x : Entry) (k from to : ℕ) (string : Wordstring)
    → from ≡ x.moment + pulse_start x.message k → to ≡ x.moment + pulse_start x.message k + pulse_length x.message k
    → slice_get x.message k ≡ Some string
    → string_text scale table top sent from to string ≡ option_map_or (pulse_text scale table top sent x k) (slice_get x.message k) []
at_pulse scale table top sent x k from to string f t s =
    ap (λ n. string_text scale table top sent n to string) f
    ∙ ap (λ n. string_text scale table top sent (x.moment + pulse_start x.message k) n string) t
    ∙ sym (ap (λ (o : Option Wordstring). option_map_or (pulse_text scale table top sent x k) o []) s)
