use Rattle.std.proofs.Common.{◌≡◌, false, true, min, codes, slice_index_or, ap, sym, ◌∙◌, drop, []}
use Rattle.bus_text.specs.Fields.{is_at}
use Rattle.bus_text.specs.Numbers.{is_plain_decimal, decimal_value}
use Rattle.bus_strings.specs.Reading.{number_of}
use Rattle.bus_strings.proofs.ItemLemmas.{keyword_refused, fields_refused, decimal_refused, some_if, none_if, second, third, behind}
use Rattle.bus_strings.proofs.item.front.Goals as goal

pub returns-then-not-next_is-clause-refused : goal.returns-then-not-next_is-clause-refused
returns-then-not-next_is-clause-refused c = keyword_refused c.args.fields.now (sym c.if-not-next_is.ensures.value)

pub returns-then-not-next_is-2-clause-refused : goal.returns-then-not-next_is-2-clause-refused
returns-then-not-next_is-2-clause-refused c =
    let fields = c.args.fields.now in
    let left : c.next_or_empty-number.new.self ≡ drop 1 (drop 1 fields) = c.next_or_empty-number.ensures.rest ∙ ap (drop 1) c.if-not-next_is.ensures.rest in
    let colon : is_at fields 2 (codes ":") ≡ false = sym (third fields (codes ":")) ∙ ap (λ fs. is_at fs 0 (codes ":")) (sym left) ∙ sym c.if-not-next_is-2.ensures.value in
    fields_refused fields (sym c.if-not-next_is.ensures.value) colon

pub returns-in-None-clause-refused : goal.returns-in-None-clause-refused
returns-in-None-clause-refused c =
    let fields = c.args.fields.now in
    let left : c.next_or_empty-number.new.self ≡ drop 1 (drop 1 fields) = c.next_or_empty-number.ensures.rest ∙ ap (drop 1) c.if-not-next_is.ensures.rest in
    let colon : is_at fields 2 (codes ":") ≡ true = sym (third fields (codes ":")) ∙ ap (λ fs. is_at fs 0 (codes ":")) (sym left) ∙ sym c.if-not-next_is-2.ensures.value in
    let number : c.next_or_empty-number.result.now ≡ number_of fields = c.next_or_empty-number.ensures.value ∙ ap (λ fs. slice_index_or fs 0 []) c.if-not-next_is.ensures.rest ∙ second fields in
    decimal_refused fields (sym c.if-not-next_is.ensures.value) colon (ap is_plain_decimal (sym number) ∙ none_if (is_plain_decimal c.next_or_empty-number.result.now) _ c.in-None.ensures)

pub returns-in-Some-clause-taken : goal.returns-in-Some-clause-taken
returns-in-Some-clause-taken c =
    let fields = c.args.fields.now in
    let left : c.next_or_empty-number.new.self ≡ drop 1 (drop 1 fields) = c.next_or_empty-number.ensures.rest ∙ ap (drop 1) c.if-not-next_is.ensures.rest in
    let number : c.next_or_empty-number.result.now ≡ number_of fields = c.next_or_empty-number.ensures.value ∙ ap (λ fs. slice_index_or fs 0 []) c.if-not-next_is.ensures.rest ∙ second fields in
    let decimal = some_if (is_plain_decimal c.next_or_empty-number.result.now) c.in-Some.terminal _ c.in-Some.ensures in (
      record {
        keyword = sym c.if-not-next_is.ensures.value;
        colon = sym (third fields (codes ":")) ∙ ap (λ fs. is_at fs 0 (codes ":")) (sym left) ∙ sym c.if-not-next_is-2.ensures.value;
        plain = ap is_plain_decimal (sym number) ∙ decimal.0;
        value = decimal.1 ∙ ap (λ field. min (decimal_value field) 18446744073709551615) number;
      },
      c.if-not-next_is-2.ensures.rest ∙ ap (drop 1) left ∙ behind fields,
    )
