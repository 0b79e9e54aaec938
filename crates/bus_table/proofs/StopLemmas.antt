-- Where the reading of lines stops.
use Rattle.std.specs.Prelude.{◌≡◌, ◌≢◌, List, [], ◌∷◌, None, Result, Ok, Err, IfErr}
use Rattle.std.proofs.Common.{refl, sym, ap, ◌∙◌, subst}
use Rattle.bus_text.specs.Lines.{Entry}
use Rattle.bus_text.specs.Refusals.{Refusal}
use Rattle.bus_table.specs.declared.error.TableError.{TableError}
use Rattle.bus_table.specs.declared.error.TableError.TheVariants.{Text, Whole, Memory}
use Rattle.bus_table.specs.declared.reading.Unread.{Unread}
use Rattle.bus_table.specs.Drafts.{Draft}
use Rattle.bus_table.specs.Forms.{keyword_of}
use Rattle.bus_table.specs.Gives.{Fails}
use Rattle.bus_table.specs.Tables.{Table}
use Rattle.bus_table.specs.inside.LineGives.{LineFails}
use Rattle.bus_table.specs.Reading.{step}
use Rattle.bus_table.specs.Stops.{Stop, stop_at, stop_in, with_word, read_or, stops}

-- a line was read
pub stops_go : (draft next : Draft) (entries others : List Entry) (entry : Entry) (total : Stop) → entries ≡ entry ∷ others → step draft entry ≡ Ok next
    → stops draft entries ≡ total → stops next others ≡ total
unfolding stops
stops_go draft next entries others entry total p h so_far =
    sym (ap (stops draft) p ∙ ap (read_or (λ d. stops d others) (stop_at draft entry)) h) ∙ so_far

-- a line was refused
pub stops_here : (draft : Draft) (entries others : List Entry) (entry : Entry) (refusal : Refusal) (total here : Stop) → entries ≡ entry ∷ others
    → step draft entry ≡ Err refusal → here ≡ stop_at draft entry → stops draft entries ≡ total → here ≡ total
unfolding stops
stops_here draft entries others entry refusal total here p h is so_far =
    is ∙ sym (ap (stops draft) p ∙ ap (read_or (λ d. stops d others) (stop_at draft entry)) h) ∙ so_far

at_error : (error : TableError) (draft : Draft) (entries others : List Entry) (entry : Entry) (total here : Stop) → error ≢ Memory
    → entries ≡ entry ∷ others → LineFails error (step draft entry) → here ≡ stop_at draft entry → stops draft entries ≡ total → here ≡ total
at_error Memory draft entries others entry total here not p h is so_far = absurd (not refl)
at_error (Text line reason) draft entries others entry total here not p h is so_far =
    stops_here draft entries others entry (record { line = line; reason = reason }) total here p h is so_far
at_error (Whole reason) draft entries others entry total here not p h is so_far = absurd h

-- what is said of a line that wasn't taken: its own error, unless memory ran out
pub stops_error : (error said : TableError) (draft : Draft) (entries others : List Entry) (entry : Entry) (total before here : Stop)
    → (said ≢ Memory → said ≡ error) → (said ≢ Memory → here ≡ with_word before (keyword_of entry.fields)) → before ≡ stop_in draft None
    → entries ≡ entry ∷ others → LineFails error (step draft entry) → stops draft entries ≡ total → said ≢ Memory → here ≡ total
stops_error error said draft entries others entry total before here own at is p h so_far not =
    at_error error draft entries others entry total here (λ e. not (own not ∙ e)) p h
    (at not ∙ ap (λ (b : Stop). with_word b (keyword_of entry.fields)) is) so_far

pub said_fails : (error said : TableError) (due : Result Table TableError) → (said ≢ Memory → said ≡ error) → Fails error due → Fails said due
said_fails error Memory due own f = tt
said_fails error (Text line reason) due own f = subst (λ (e : TableError). Fails e due) (sym (own (λ e. absurd cc))) f
said_fails error (Whole reason) due own f = subst (λ (e : TableError). Fails e due) (sym (own (λ e. absurd cc))) f

-- no line is left
pub stops_end : (draft : Draft) (entries : List Entry) (total : Stop) → entries ≡ [] → stops draft entries ≡ total → stop_in draft None ≡ total
unfolding stops
stops_end draft entries total p so_far = sym (ap (stops draft) p) ∙ so_far

-- what is said at the end of a text
pub at_end_of : {T : Type 0} (result : Result T Unread) (last total : Stop) → IfErr result (λ unread. unread.stop ≡ last) → last ≡ total
    → IfErr result (λ unread. unread.error ≢ Memory → unread.stop ≡ total)
at_end_of (Ok v) last total at is = tt
at_end_of (Err unread) last total at is = λ not. at ∙ is
