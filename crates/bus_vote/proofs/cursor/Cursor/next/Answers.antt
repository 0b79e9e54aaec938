use Rattle.std.proofs.Common.{◌≡◌, ℕ, ◌+◌, ◌<◌, ◌∷◌, false, Some, length, refl, ap, sym, ◌∙◌, arith}
use Rattle.std.specs.Prelude.{slice_get}
use Rattle.std.proofs.lemmas.Option.{slice_get_read}
use Rattle.bus_vote.specs.inside.Walks.{sent_from}
use Rattle.bus_vote.proofs.WalkLemmas.{own_next, leap}
use Rattle.bus_vote.proofs.cursor.Cursor.next.Goals as goal

pub returns-in-Some-clause-some : goal.returns-in-Some-clause-some
returns-in-Some-clause-some c =
    let s = c.self.inside in
    let list = s.list.now in
    let place : ℕ = c.next_place-place.result in
    let x = c.index-self-place.result in
    let within : place < length list = omega arith in
    let there : slice_get list place ≡ Some x = slice_get_read list (length list) place x refl within c.index-self-place.is in
    let own : x.terminal ≡ s.terminal = c.next_place-place.ensures.own x there in
    let pace = c.self.invariant.pace c.in-Some.gap c.in-Some.is in
    let rest = sent_from s.terminal list (place + 1) in
    sym c.self.view_is ∙ c.next_place-place.ensures.left
    ∙ own_next s.terminal list place x within c.index-self-place.is own
    ∙ ap (λ m. (x, m) ∷ rest) (pace.clear place within)
    ∙ ap (λ r. (x, false) ∷ r) (leap s.terminal list place c.in-Some.gap c.max-self-inside.result x pace.spaced there own (omega arith) (omega arith))
    ∙ ap (λ y. (y, false) ∷ sent_from s.terminal list c.max-self-inside.result) c.index-self-place.is

pub returns-clause-some : goal.returns-clause-some
returns-clause-some c =
    let s = c.self.inside in
    let list = s.list.now in
    let place : ℕ = c.next_place-place.result in
    let x = c.index-self-place.result in
    let within : place < length list = omega arith in
    let there : slice_get list place ≡ Some x = slice_get_read list (length list) place x refl within c.index-self-place.is in
    let own : x.terminal ≡ s.terminal = c.next_place-place.ensures.own x there in
    let rest = sent_from s.terminal list (place + 1) in
    sym c.self.view_is ∙ c.next_place-place.ensures.left
    ∙ own_next s.terminal list place x within c.index-self-place.is own
    ∙ ap (λ m. (x, m) ∷ rest) (sym c.is_garbled.ensures)
    ∙ ap (λ y. (y, c.is_garbled.result) ∷ rest) c.index-self-place.is
