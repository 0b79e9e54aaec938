use Rattle.std.proofs.Common.{◌≡◌, ◌∷◌, ◌++◌, [], ap, sym, ◌∙◌}
use Rattle.std.proofs.lemmas.List.{map_push}
use Rattle.bus_strings.specs.Items.{numbers}
use Rattle.bus_strings.proofs.StringLemmas.{at_colon}
use Rattle.bus_strings.proofs.item.take_field.Goals as goal

pub returns-then-is_colon-clause-taken : goal.returns-then-is_colon-clause-taken
returns-then-is_colon-clause-taken c rest =
    let before = numbers c.args.strings.now.items in
    let string : c.in_ok-from_slice.field-0.items ≡ c.args.words.now.items = c.in_ok-from_slice.ensures.items ∙ c.deref.ensures.value in
    let whole : numbers c.push.new.self.items ≡ before ++ c.args.words.now.items ∷ [] =
    rw (c.in_ok-push.ensures.items) (map_push _ c.args.strings.now.items c.in_ok-from_slice.field-0 ∙ ap (λ s. before ++ s ∷ []) string) in
    rw (whole, c.clear.ensures.items) (sym (at_colon before c.args.words.now.items c.args.field.now rest (sym c.if-is_colon.ensures)))
