-- The pictures, of what was taken for them.
use Rattle.std.specs.Prelude.{◌≡◌, ℕ, true, List, Option}
use Rattle.std.proofs.Common.{sym, ap, ◌∙◌}
use Rattle.bus_regime.specs.declared.table_verdict.TableVerdict.{TableVerdict}
use Rattle.bus_regime.specs.Verdicts.{verdict_of}
use Rattle.bus_table.specs.Tables.{Table}
use Rattle.bus_trace.specs.Traces.{Recording}
use Rattle.bus_cycles.specs.CyclesTexts.{cycles_text}
use Rattle.bus_picture.specs.TimeLines.{time_line_text}
use Rattle.bus_shapes.specs.declared.told.Told.{Told}
use Rattle.bus_trace.specs.Windows.{Window}
use Rattle.bus_command.specs.Acts.{Ends, Leaves}
use Rattle.bus_command.specs.Kinds.{Kind, NoForm, NotRead, TooMuch, Wrong, Late, NotWritten, NoRoom, Answer, kind_of}
use Rattle.bus_command.specs.Outside.{Seen}
use Rattle.bus_command.specs.Readers.{by_recorded}
use Rattle.bus_dump.specs.declared.dump.Dump.{Dump}
use Rattle.bus_dump.specs.DumpTexts.{dump_text}
use Rattle.bus_regime.specs.Lines.{verdict_words}
use Rattle.bus_view.specs.Due.{drawing, first_breach, painted}
use Rattle.bus_view.specs.Forms.{Picture, TimeLine, Cycles}
use Rattle.bus_view.specs.Refusals.{Outcome}

-- each picture is what its writer writes
pub time_line_is : (picture : Picture) → picture ≡ TimeLine → (window : Window) (verdict : TableVerdict) (told : Told) (table : Table)
    (trace : Recording)
    → time_line_text window verdict told table trace ≡ painted picture window verdict told table trace
unfolding painted
time_line_is picture e window verdict told table trace = ap (λ p. painted p window verdict told table trace) (sym e)

pub cycles_are : (picture : Picture) → picture ≡ Cycles → (window : Window) (verdict : TableVerdict) (told : Told) (table : Table)
    (trace : Recording) → cycles_text window verdict told table trace ≡ painted picture window verdict told table trace
unfolding painted
cycles_are picture e window verdict told table trace = ap (λ p. painted p window verdict told table trace) (sym e)

-- of the verdict and of the window
pub painted_is : (picture : Picture) (window window' : Window) (table : Table) (trace : Recording) (verdict : TableVerdict) (told : Told)
    → verdict ≡ verdict_of table → window ≡ window'
    → painted picture window verdict told table trace ≡ painted picture window' (verdict_of table) told table trace
painted_is picture window window' table trace verdict told v w =
    ap (λ x. painted picture window x told table trace) v ∙ ap (λ x. painted picture x (verdict_of table) told table trace) w

-- what a command did that wrote such a text, where all such texts are of another kind too
leaves_map : (k : Kind) (P Q : List ℕ → Type 0) (old new : Option (List ℕ)) → ((text : List ℕ) → P text → Q text) → Leaves k P old new → Leaves k Q old new
leaves_map NoForm P Q old new f l = l
leaves_map (NotRead source) P Q old new f l = l
leaves_map (TooMuch source) P Q old new f l = l
leaves_map (Wrong source) P Q old new f l = l
leaves_map Late P Q old new f l = l
leaves_map NotWritten P Q old new f l = (l.0, f l.0 l.1, l.2, l.3)
leaves_map NoRoom P Q old new f l = l
leaves_map Answer P Q old new f l = (l.0, f l.0 l.1, l.2)

pub ends_map : (due o : Outcome) (P Q : List ℕ → Type 0) (old new : Seen) → ((text : List ℕ) → P text → Q text)
    → Ends (by_recorded true) due P old new o → Ends (by_recorded true) due Q old new o
ends_map due o P Q old new f e = record {
  stands = e.stands;
  text = leaves_map (kind_of o) P Q old.bytes new.bytes f e.text;
  count = e.count;
  behind = e.behind;
}

-- the dump of the window, the breach and the verdict that were taken
pub dump_is : (dump : Dump) (window window' : Window) (breach : Option ℕ) (verdict : TableVerdict) (table : Table) (trace : Recording)
    → window ≡ window' → breach ≡ first_breach table trace → verdict ≡ verdict_of table
    → dump_text dump window breach (verdict_words verdict) table trace ≡ drawing dump window' table trace
dump_is dump window window' breach verdict table trace w b v =
    ap (λ x. dump_text dump x breach (verdict_words verdict) table trace) w
    ∙ ap (λ x. dump_text dump window' x (verdict_words verdict) table trace) b
    ∙ ap (λ x. dump_text dump window' (first_breach table trace) (verdict_words x) table trace) v
