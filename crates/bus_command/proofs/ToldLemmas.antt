-- What is due of texts that are told by the relation between a value and its texts.
use Rattle.std.specs.Prelude.{◌≡◌, List, Ok}
use Rattle.std.proofs.Common.{ap, ◌∙◌}
use Rattle.bus_text.specs.AllOf.{◌>>=◌}
use Rattle.bus_strings.specs.Items.{Item}
use Rattle.bus_strings.specs.Reading.{messages_reading}
use Rattle.bus_table.specs.Tables.{Table}
use Rattle.bus_table.specs.Fits.{items_fit}
use Rattle.bus_table.specs.Reading.{answer_of}
use Rattle.bus_command.specs.Outside.{Seen}
use Rattle.bus_command.specs.Readers.{text_limit}
use Rattle.bus_command.specs.Due.{table_or_refusal, table_due, items_or_refusal, fitting_or_refusal, items_due}
use Rattle.bus_command.specs.Claims.{TellsTable, TellsItems}
use Rattle.bus_command.proofs.TextLemmas.{short_text}
use Rattle.bus_command.proofs.LawTypes.{TextReadsAsItsTable, TextReadsAsItsItems}

pub table_told : {R : Type 0} → TextReadsAsItsTable → (table : Table) (seen : Seen) (t : TellsTable table seen) → table_due {R = R} t.text ≡ Ok table
table_told {R} reads table seen t =
    ap (λ r. r >>= λ whole. table_or_refusal (answer_of whole)) (short_text {R = R} text_limit 1 t.text t.short)
    ∙ ap (table_or_refusal {R = R}) (reads t.text table t.stands t.valid)

pub items_told : {R : Type 0} → TextReadsAsItsItems → (table : Table) (items : List Item) (seen : Seen) (t : TellsItems table items seen)
    → items_due {R = R} table t.text ≡ Ok items
items_told {R} reads table items seen t =
    ap (λ r. r >>= λ whole. items_or_refusal (messages_reading whole) >>= λ items. fitting_or_refusal (items_fit table items) items)
    (short_text {R = R} text_limit 2 t.text t.short)
    ∙ ap (λ r. items_or_refusal {R = R} r >>= λ items. fitting_or_refusal (items_fit table items) items) (reads t.text items t.stands)
    ∙ ap (λ fit. fitting_or_refusal {R = R} fit items) t.fit
