-- What is drawn of a row.
use Rattle.std.proofs.Common.{◌≡◌, ℕ, Bool, true, false, cond, List, [], ◌∷◌, ◌++◌, refl, ap, ◌∙◌}
use Rattle.std.specs.Prelude.{not, filter}
use Rattle.std.specs.List.{flat_map}
use Rattle.bus_shapes.specs.declared.sent.Sent.{Sent}
use Rattle.bus_cycles.specs.Laws.{EachIsDueOnce, KeptAreDrawn, kept}
use Rattle.bus_cycles.specs.Pages.{Page}
use Rattle.bus_cycles.specs.RowTexts.{Shaded, box_behind, boxes, drawing_of, is_due, is_left_out, shaded, where_due}

-- ---- in one of the walks
pub due_once : EachIsDueOnce
due_once sent = elim sent.garbled as (λ b. b ≡ not (not b)) [ true ↦ refl | false ↦ refl ]

-- ---- what a walk draws
drawn_from : (page : Page) (garbled : Bool) (row begin : ℕ) (earlier : List Shaded) (xs : List Sent)
    → boxes page garbled row begin earlier xs
    ≡ flat_map (drawing_of page row begin) (filter (λ (x : Shaded). is_due garbled x.sent) (kept page begin earlier xs))
drawn_from page garbled row begin earlier [] = refl
drawn_from page garbled row begin earlier (x ∷ xs) =
    ap (λ t. box_behind page garbled row begin earlier x ++ t) (drawn_from page garbled row begin (earlier ++ own ∷ []) xs)
    ∙ one (is_left_out page begin earlier x)
  where
    own : Shaded
    own = shaded page begin earlier x

    next : List Shaded
    next = kept page begin (earlier ++ own ∷ []) xs

    due_of : Shaded → Bool
    due_of y = is_due garbled y.sent

    others : List ℕ
    others = flat_map (drawing_of page row begin) (filter due_of next)

    due : (b : Bool) → cond b (drawing_of page row begin own) [] ++ others
        ≡ flat_map (drawing_of page row begin) (cond b (own ∷ filter due_of next) (filter due_of next))
    due true = refl
    due false = refl

    one : (out : Bool) → cond out [] (where_due garbled x (drawing_of page row begin own)) ++ others
        ≡ flat_map (drawing_of page row begin) (filter due_of (cond out next (own ∷ next)))
    one true = refl
    one false = due (is_due garbled x)

pub kept_drawn : KeptAreDrawn
kept_drawn page garbled row begin sents = drawn_from page garbled row begin [] sents
