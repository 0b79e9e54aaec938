-- The text of the JSON value is the text of the report.
use Rattle.std.proofs.Common.{arith, ◌≡◌, ℕ, ◌+◌, ◌<◌, length, take, get_or, Some, true, false, ◌||◌, List, [], ◌∷◌, ◌++◌, map, codes, refl, sym, ap, ◌∙◌, append_assoc, append-nil}
use Rattle.std.specs.Prelude.{decimal, flat_map, slice_get}
use Rattle.std.proofs.lemmas.List.{take_more, map-append, take_all}
use Rattle.std.proofs.lemmas.Option.{get_or_from_slice_get}
use Rattle.serde_json.specs.Data.{Data}
use Rattle.serde_json.specs.View.{items_of, view}
use Rattle.serde_json.specs.declared.value.Value.{Value}
use Rattle.serde_json.specs.Written.{compact_text, items_text, has_float, items_have_float}
use Rattle.json.specs.Print.{escape_byte, escape}
use Rattle.bus_table.specs.Lengths.{shortest, longest}
use Rattle.bus_table.specs.Tables.{Sender, Table}
use Rattle.bus_table.specs.Turns.{turn_order}
use Rattle.bus_regime.specs.Lines.{verdict_words}
use Rattle.bus_table.specs.Text.{mode_word}
use Rattle.bus_regime.specs.Verdicts.{verdict_of}
use Rattle.bus_tool.specs.inside.Escapes.{are_plain}
use Rattle.bus_tool.specs.Reports.{sender_text, senders_text, report_text}
use Rattle.bus_tool.specs.inside.ReportData.{sender_data, report_data}
use Rattle.bus_tool.proofs.EscapeLemmas.{stays, mode_plain}

-- ---- a sender
eleven : (a b c d e f g h i j k : List ℕ)
    → a ++ b ++ c ++ d ++ e ++ f ++ g ++ h ++ i ++ j ++ k ≡ a ++ (b ++ (c ++ (d ++ (e ++ (f ++ (g ++ (h ++ (i ++ (j ++ k)))))))))
eleven a b c d e f g h i j k = simp append_assoc

sender_json : (sender : Sender) → compact_text (sender_data sender) ≡ sender_text sender
unfolding escape_byte
sender_json sender =
    sym (eleven (codes "{\"at\":") (decimal sender.at) (codes ",\"longest\":") (decimal (longest sender)) (codes ",\"number\":")
    (decimal sender.number) (codes ",\"shortest\":") (decimal (shortest sender)) (codes ",\"tg\":") (decimal sender.tg) (codes "}"))

-- ---- senders
-- each behind a comma
abbrev behind_commas : List Sender → List ℕ
behind_commas senders = flat_map (λ sender. 44 ∷ sender_text sender) senders

joined : (sender : Sender) (senders : List Sender) → senders_text (sender ∷ senders) ≡ sender_text sender ++ behind_commas senders
joined sender [] = sym (append-nil (sender_text sender))
joined sender (next ∷ senders) = ap (λ t. sender_text sender ++ 44 ∷ t) (joined next senders)

more_json : (senders : List Sender) → items_text true (items_of (map sender_data senders)) ≡ behind_commas senders ++ codes "]"
more_json [] = refl
more_json (sender ∷ senders) =
    ap (λ t. 44 ∷ (t ++ items_text true (items_of (map sender_data senders)))) (sender_json sender)
    ∙ ap (λ t. 44 ∷ (sender_text sender ++ t)) (more_json senders)
    ∙ ap (λ t. 44 ∷ t) (sym (append_assoc (sender_text sender) (behind_commas senders) (codes "]")))

senders_json : (senders : List Sender) → items_text false (items_of (map sender_data senders)) ≡ senders_text senders ++ codes "]"
senders_json [] = refl
senders_json (sender ∷ senders) =
    ap (λ t. t ++ items_text true (items_of (map sender_data senders))) (sender_json sender)
    ∙ ap (λ t. sender_text sender ++ t) (more_json senders)
    ∙ sym (append_assoc (sender_text sender) (behind_commas senders) (codes "]"))
    ∙ ap (λ t. t ++ codes "]") (sym (joined sender senders))

floatless : (senders : List Sender) → items_have_float (items_of (map sender_data senders)) ≡ false
floatless [] = refl
floatless (sender ∷ senders) = floatless senders

-- one more of the senders in turn order
pub values_next : (order : List Sender) (k : ℕ) (sender : Sender) (value : Value) (old new : List Value) → k < length order
    → slice_get order k ≡ Some sender → view value ≡ sender_data sender → new ≡ old ++ value ∷ []
    → map view old ≡ map sender_data (take k order) → map view new ≡ map sender_data (take (k + 1) order)
values_next order k sender value old new less at is added before =
    let found : get_or order k sender ≡ sender = get_or_from_slice_get order k sender sender at in
    ap (map view) added ∙ map-append view old (value ∷ [])
    ∙ ap (λ (ds : List Data). ds ++ view value ∷ []) before
    ∙ ap (λ (d : Data). map sender_data (take k order) ++ d ∷ []) (is ∙ ap sender_data (sym found))
    ∙ sym (map-append sender_data (take k order) (get_or order k sender ∷ []))
    ∙ ap (map sender_data) (sym (take_more order k sender less))

-- all of them
pub values_whole : (order : List Sender) (k : ℕ) (values : List Value) → k ≡ length order
    → map view values ≡ map sender_data (take k order) → map view values ≡ map sender_data order
values_whole order k values whole h = h ∙ ap (λ n. map sender_data (take n order)) whole ∙ ap (map sender_data) (take_all (length order) order (omega arith))

-- ---- the report
pub no_float : (table : Table) → has_float (report_data table) ≡ false
no_float table = ap (λ b. b || false) (floatless (turn_order table))

-- the pieces of the line, as they stand in it
pieces : (a line q b mode s senders k g sg t ti e f : List ℕ)
    → a ++ (((line ++ q) ++ (b ++ ((mode ++ q) ++ (s ++ ((senders ++ k) ++ (g ++ (sg ++ (t ++ (ti ++ e))))))))) ++ f)
    ≡ a ++ line ++ (q ++ b) ++ mode ++ (q ++ s) ++ senders ++ (k ++ g) ++ sg ++ t ++ ti ++ (e ++ f)
pieces a line q b mode s senders k g sg t ti e f = simp append_assoc

-- the value's text of these parts, with a line feed
abbrev value_line : (line mode senders sg ti : List ℕ) → List ℕ
value_line line mode senders sg ti =
    codes "{\"line\":\"" ++ (((line ++ codes "\"") ++ (codes ",\"mode\":\"" ++ ((mode ++ codes "\"") ++ (codes ",\"senders\":["
    ++ (senders ++ (codes ",\"sg\":" ++ (sg ++ (codes ",\"ti\":" ++ (ti ++ codes "}"))))))))) ++ codes "\n")

-- the text of the report's value, with a line feed
pub report_json : (table : Table) → are_plain (verdict_words (verdict_of table)) ≡ true
    → compact_text (report_data table) ++ codes "\n" ≡ report_text table
unfolding escape_byte
report_json table plain =
    let json : List ℕ = items_text false (items_of (map sender_data (turn_order table))) in
    ap (λ (l : List ℕ). value_line l (escape (mode_word table.mode)) (items_text false (items_of (map sender_data (turn_order table))))
    (decimal table.sg) (decimal table.ti)) (stays (verdict_words (verdict_of table)) plain)
    ∙ ap (λ (m : List ℕ). value_line (verdict_words (verdict_of table)) m (items_text false (items_of (map sender_data (turn_order table))))
    (decimal table.sg) (decimal table.ti)) (stays (mode_word table.mode) (mode_plain table.mode))
    ∙ ap (λ (j : List ℕ). value_line (verdict_words (verdict_of table)) (mode_word table.mode) j (decimal table.sg) (decimal table.ti))
    (senders_json (turn_order table))
    ∙ pieces (codes "{\"line\":\"") (verdict_words (verdict_of table)) (codes "\"") (codes ",\"mode\":\"") (mode_word table.mode)
    (codes ",\"senders\":[") (senders_text (turn_order table)) (codes "]") (codes ",\"sg\":") (decimal table.sg) (codes ",\"ti\":")
    (decimal table.ti) (codes "}") (codes "\n")
