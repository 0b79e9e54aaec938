use Rattle.std.proofs.Common.{◌≡◌, ℕ, List, Result, Ok, Err, ap, codes}
use Rattle.std.specs.Prelude.{IfOk, IfErr}
use Rattle.bus_text.specs.AllOf.{◌>>=◌, all_of}
use Rattle.bus_text.specs.Gives.{Refuses}
use Rattle.bus_text.specs.Headers.{headed}
use Rattle.bus_text.specs.Lines.{Entry}
use Rattle.bus_text.specs.declared.error.TextError.{TextError}
use Rattle.bus_text.specs.declared.error.TextError.TheVariants.{Text, Memory}
use Rattle.bus_text.specs.declared.reason.Reason.{Reason}
use Rattle.bus_strings.specs.Reading.{item_line, messages_reading}
use Rattle.bus_strings.proofs.reading.item_lines.Goals as goal

items_left : (text : List ℕ) (r : Result (List Entry) (TextError Reason)) → IfOk r (λ lines. headed (codes "MESSAGES") text ≡ Ok lines) → IfOk r (λ lines. messages_reading text ≡ all_of item_line lines)
items_left text (Ok lines) h = ap (λ r. r >>= all_of item_line) h
items_left text (Err error) h = tt

refused : (text : List ℕ) (r : Result (List Entry) (TextError Reason)) → IfErr r (λ error. Refuses error (headed (codes "MESSAGES") text)) → IfErr r (λ error. Refuses error (messages_reading text))
refused text (Ok lines) h = tt
refused text (Err Memory) h = h
refused text (Err (Text line reason)) h = ap (λ r. r >>= all_of item_line) h

pub returns-clause-items : goal.returns-clause-items
returns-clause-items c = items_left c.args.text.now c.headed_lines.result c.headed_lines.ensures.lines

pub returns-clause-refused : goal.returns-clause-refused
returns-clause-refused c = refused c.args.text.now c.headed_lines.result c.headed_lines.ensures.refused
