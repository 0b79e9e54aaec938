-- What is claimed of `observe`.
use Rattle.std.specs.Prelude.{◌≡◌, ℕ, ◌≤◌, true, ◌&&◌, nat_le, IsTrue, IsOk, List, [], ◌∷◌, codes, Some, None, Ok}
use Rattle.std.proofs.Common.{arith, refl, sym, ap, ◌∙◌, subst, cond}
use Rattle.std.proofs.lemmas.Bool.Decides.{nat_tests}
use Rattle.bus_text.specs.Numbers.{IsDecimal, is_plain_decimal, decimal_value}
use Rattle.bus_strings.specs.Items.{Item}
use Rattle.bus_strings.specs.Limits.{horizon_limit}
use Rattle.bus_strings.specs.Messages.{Entry}
use Rattle.bus_table.specs.Fits.{items_fit}
use Rattle.bus_table.specs.Hands.{hands_of}
use Rattle.bus_table.specs.Tables.{Table}
use Rattle.bus_table.specs.Valid.{is_valid}
use Rattle.bus_medium.specs.Lawful.{IsLawful}
use Rattle.bus_medium.specs.LawfulLaws.{OneListOfATable}
use Rattle.bus_medium.specs.Timings.{quiet_of, stations_of}
use Rattle.bus_command.specs.Claims.{TellsItems}
use Rattle.bus_command.specs.Outside.{Seen, Call}
use Rattle.bus_command.proofs.LawTypes.{FittingItemsGiveHands}
use Rattle.bus_command.specs.declared.status.Status.TheVariants as status
use Rattle.bus_tool.specs.Acts.{Acts}
use Rattle.bus_tool.specs.Answering.{Answers, IsTextOf}
use Rattle.bus_tool.specs.Asking.{IsObserveOf}
use Rattle.bus_tool.specs.Forms.{OnMessages, Observe, four_words, no_options}
use Rattle.bus_tool.proofs.FormLemmas.{decimal_plain}
use Rattle.bus_tool.specs.ObserveClaims.{IsTheTrace}
use Rattle.bus_tool.specs.Refusals.{Outcome, status_of}
use Rattle.bus_tool.specs.Replies.{TheTrace}
use Rattle.bus_tool.specs.Texts.{IsObserveText}
use Rattle.bus_tool.proofs.EntryLemmas.{observed_recording}
use Rattle.bus_tool.proofs.GroupClaims.{ReadLaws, messages_comes}

-- the words are the form
horizon_form : (number : List ℕ) (horizon : ℕ) → IsDecimal number horizon → horizon ≤ horizon_limit
    → four_words (codes "observe") number no_options ≡ Some (OnMessages (Observe horizon))
horizon_form number horizon d within =
    let plain : is_plain_decimal number ≡ true = d.plain in
    let low : nat_le (decimal_value number) horizon_limit ≡ true = grind (arith, nat_tests, d.value) in
    ap (λ b. cond (b && nat_le (decimal_value number) horizon_limit) (Some (OnMessages (Observe (decimal_value number)))) None) plain
    ∙ ap (λ b. cond b (Some (OnMessages (Observe (decimal_value number)))) None) low ∙ ap (λ n. Some (OnMessages (Observe n))) d.value

-- there is no other list
only_list : FittingItemsGiveHands → OneListOfATable → (table : Table) (items : List Item) (horizon : ℕ) (list other : List Entry) → IsTrue (is_valid table)
    → items_fit table items ≡ Ok tt → IsLawful (quiet_of table) (stations_of table (hands_of table items)) horizon list
    → IsLawful (quiet_of table) (stations_of table (hands_of table items)) horizon other → other ≡ list
only_list give one_list table items horizon list other valid fit h k =
    let fits : IsOk (items_fit table items) = subst IsOk (sym fit) refl in
    let one = one_list table (hands_of table items) horizon valid (give table items valid fits) in
    one.2 other k ∙ sym (one.2 list h)

trace_of : FittingItemsGiveHands → OneListOfATable → (table : Table) (items : List Item) (seen : Seen) (horizon : ℕ) (text : List ℕ) → IsTrue (is_valid table)
    → TellsItems table items seen → horizon ≤ horizon_limit → IsObserveText horizon table (hands_of table items) text
    → IsTextOf (IsTheTrace table (hands_of table items) horizon) text
trace_of give one_list table items seen horizon text valid told within h = record {
  reply = TheTrace h.recording;
  is = record {
    trace = h.recording;
    observed = h.observed;
    only = λ other k. only_list give one_list table items horizon h.recording.list other valid told.fit h.observed.lawful k;
    reply_is = refl;
  };
  stands = observed_recording table items told.text horizon h.recording valid (give table items valid (subst IsOk (sym told.fit) refl)) told.stands told.short within h.observed;
  text_is = h.text_is;
}

pub observe_claim : ReadLaws → FittingItemsGiveHands → OneListOfATable → (call : Call) (outcome : Outcome) (table : Table) (items : List Item) (horizon : ℕ)
    → Acts call outcome → IsObserveOf table items horizon call
    → Answers call (status_of outcome) status.Done (IsTheTrace table (hands_of table items) horizon)
observe_claim laws give one_list call outcome table items horizon acts h =
    messages_comes laws (Observe horizon) (codes "observe") (h.number ∷ []) call outcome table items (IsTextOf (IsTheTrace table (hands_of table items) horizon))
    (decimal_plain h.number h.spelled.plain, tt) (λ a b. horizon_form h.number horizon h.spelled h.within) tt refl
    (λ text is. trace_of give one_list table items call.before.sources.second horizon text h.call_is.table_told.valid h.call_is.items_told h.within is)
    acts h.call_is
