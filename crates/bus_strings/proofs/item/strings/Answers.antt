use Rattle.std.proofs.Common.{◌≡◌, ◌∷◌, ◌++◌, [], ap, sym, ◌∙◌}
use Rattle.std.proofs.lemmas.List.{map_push}
use Rattle.bus_strings.specs.Items.{numbers}
use Rattle.bus_strings.specs.inside.Building.{with_strings}
use Rattle.bus_strings.proofs.StringLemmas.{begun, ended}
use Rattle.bus_strings.proofs.item.strings.Goals as goal

pub returns : goal.returns
returns c =
    let before = numbers c.loop-field.strings.items in
    let words = c.loop-field.words.items in
    let string : c.in_ok-from_slice.field-0.items ≡ words = c.in_ok-from_slice.ensures.items ∙ c.deref.ensures.value in
    let whole : numbers c.push.new.self.items ≡ before ++ words ∷ [] =
    rw (c.in_ok-push.ensures.items) (map_push _ c.loop-field.strings.items c.in_ok-from_slice.field-0 ∙ ap (λ s. before ++ s ∷ []) string) in
    rw whole (sym (begun c.args.fields) ∙ sym c.loop-field.invariant ∙ ap (with_strings before words) c.in_default.ensures.steps.0 ∙ ended before words)
