use Rattle.std.proofs.Common.{◌∙◌, List, ap, sym, subst, codes, Ok}
use Rattle.std.proofs.lemmas.Result.{err_from_is_err_and}
use Rattle.bus_text.specs.AllOf.{all_of}
use Rattle.bus_text.specs.Lines.{Entry}
use Rattle.bus_strings.specs.Reading.{item_line}
use Rattle.bus_cable.specs.Cables.{most_wake}
use Rattle.bus_propagation.specs.Numbered.{most_place}
use Rattle.bus_cable.specs.Reading.{front_of, behind, named_lines}
use Rattle.bus_text.specs.Gives.{Fails}
use Rattle.bus_cable.proofs.BodyLemmas.{ahead_is, places_fail, wakes_fail, items_fail, body_read, cable_ranges}
use Rattle.bus_cable.proofs.reading.body.Goals as goal

pub returns-in_err-places : goal.returns-in_err-places
returns-in_err-places c =
    let p = err_from_is_err_and c.from_residual.result c.from_residual.ensures.1 in
    let e = ahead_is c.args.lines.now c.next-first.new.self c.next-first.result c.next-first.ensures.steps in
    rw (p.1, p.2) (places_fail c.in_err-places.field-0.0 c.args.lines.now
    (subst (λ (es : List Entry). Fails c.in_err-places.field-0.0 (named_lines most_place 0 (front_of (codes "PLACE") es))) e c.in_err-places.ensures.exact))

pub returns-in_err-wakes : goal.returns-in_err-wakes
returns-in_err-wakes c =
    let p = err_from_is_err_and c.from_residual-in_err-wakes.result c.from_residual-in_err-wakes.ensures.1 in
    let e = ahead_is c.args.lines.now c.next-first.new.self c.next-first.result c.next-first.ensures.steps in
    let f = c.in_ok-places.ensures.behind ∙ ap (behind (codes "PLACE")) e in
    rw (p.1, p.2) (wakes_fail c.in_err-wakes.field-0.0 c.args.lines.now c.in_ok-places.places.items
    (ap (λ es. named_lines most_place 0 (front_of (codes "PLACE") es)) (sym e) ∙ c.in_ok-places.ensures.exact)
    (subst (λ (es : List Entry). Fails c.in_err-wakes.field-0.0 (named_lines most_wake 0 (front_of (codes "WAKE") es))) f c.in_err-wakes.ensures.exact))

pub returns-in_err-items : goal.returns-in_err-items
returns-in_err-items c =
    let p = err_from_is_err_and c.from_residual-in_err-items.result c.from_residual-in_err-items.ensures.1 in
    let e = ahead_is c.args.lines.now c.next-first.new.self c.next-first.result c.next-first.ensures.steps in
    let f = c.in_ok-places.ensures.behind ∙ ap (behind (codes "PLACE")) e in
    let g = c.in_ok-wakes.ensures.behind ∙ ap (behind (codes "WAKE")) f in
    rw (p.1, p.2) (items_fail c.in_err-items.field-0.0 c.args.lines.now c.in_ok-places.places.items c.in_ok-wakes.wakes.items
    (ap (λ es. named_lines most_place 0 (front_of (codes "PLACE") es)) (sym e) ∙ c.in_ok-places.ensures.exact)
    (ap (λ es. named_lines most_wake 0 (front_of (codes "WAKE") es)) (sym f) ∙ c.in_ok-wakes.ensures.exact)
    (subst (λ (es : List Entry). Fails c.in_err-items.field-0.0 (all_of item_line es)) g c.in_err-items.ensures.exact))

pub of_lines-requires : goal.of_lines-requires
of_lines-requires c =
    let e = ahead_is c.args.lines.now c.next-first.new.self c.next-first.result c.next-first.ensures.steps in
    let f = c.in_ok-places.ensures.behind ∙ ap (behind (codes "PLACE")) e in
    cable_ranges c.args.lines.now c.in_ok-places.places.items c.in_ok-wakes.wakes.items
    (ap (λ es. named_lines most_place 0 (front_of (codes "PLACE") es)) (sym e) ∙ c.in_ok-places.ensures.exact)
    (ap (λ es. named_lines most_wake 0 (front_of (codes "WAKE") es)) (sym f) ∙ c.in_ok-wakes.ensures.exact)

pub returns : goal.returns
returns c =
    let e = ahead_is c.args.lines.now c.next-first.new.self c.next-first.result c.next-first.ensures.steps in
    let f = c.in_ok-places.ensures.behind ∙ ap (behind (codes "PLACE")) e in
    let g = c.in_ok-wakes.ensures.behind ∙ ap (behind (codes "WAKE")) f in
    body_read c.args.lines.now c.in_ok-places.places.items c.in_ok-wakes.wakes.items c.in_ok-items.items.items
    (ap (λ es. named_lines most_place 0 (front_of (codes "PLACE") es)) (sym e) ∙ c.in_ok-places.ensures.exact)
    (ap (λ es. named_lines most_wake 0 (front_of (codes "WAKE") es)) (sym f) ∙ c.in_ok-wakes.ensures.exact)
    (ap (all_of item_line) (sym g) ∙ c.in_ok-items.ensures.exact)
    ∙ ap (λ cable. Ok (cable, c.in_ok-items.items.items)) (sym c.of_lines.ensures)
