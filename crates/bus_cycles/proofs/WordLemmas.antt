-- The word of a breach stands behind all boxes.
use Rattle.std.proofs.Common.{ℕ, ◌+◌, ◌-◌, ◌*◌, ◌/◌, ◌≤◌, max, arith}
use Rattle.bus_pen.specs.Laws.{PlacesLieWithin, PlacesRise}
use Rattle.bus_shapes.specs.declared.sent.Sent.{Sent}
use Rattle.bus_pen.specs.Scales.{IsScale, place}
use Rattle.bus_cycles.specs.MarkLaws.{BreachWordHidesNone}
use Rattle.bus_cycles.specs.Pages.{Page, page_of}
use Rattle.bus_cycles.specs.RowTexts.{left_of, pixel, right_of}

-- an edge on a whole pixel, which is no more than the right edge of the rows
on_pixel : (page : Page) (begin t : ℕ) → PlacesLieWithin → IsScale page.scale → pixel page begin t ≤ page.scale.left + page.scale.width
on_pixel page begin t within is =
    let most = (within page.scale (t + page.cycle.origin_offset - begin) is).1 in
    tens (place page.scale (t + page.cycle.origin_offset - begin)) (page.scale.left + page.scale.width) most
  where
    tens : (a b : ℕ) → a ≤ b → a / 10 * 10 ≤ b
    tens a b h = omega arith

pub pixel_rises : (page : Page) (begin t u : ℕ) → PlacesRise → IsScale page.scale → t ≤ u → pixel page begin t ≤ pixel page begin u
pixel_rises page begin t u rise is order =
    let origin_offset : ℕ = page.cycle.origin_offset in
    let places : place page.scale (t + origin_offset - begin) ≤ place page.scale (u + origin_offset - begin) =
    rise page.scale (t + origin_offset - begin) (u + origin_offset - begin) is (omega arith) in
    tens (place page.scale (t + origin_offset - begin)) (place page.scale (u + origin_offset - begin)) places
  where
    tens : (a b : ℕ) → a ≤ b → a / 10 * 10 ≤ b / 10 * 10
    tens a b h = omega arith

all_of : (left right edge : ℕ) → left ≤ edge → right ≤ edge → left + (max right (left + 10) - left) ≤ edge + 10
all_of left right edge h k = omega arith

pub word_hides_none : PlacesRise → PlacesLieWithin → BreachWordHidesNone
word_hides_none rise within table survey counts row begin x is =
    let page : Page = page_of table survey counts in
    let sent : Sent = x.sent in
    let a : left_of page begin sent ≤ 8200 = on_pixel page begin sent.moment within is in
    let b : pixel page begin sent.end ≤ 8200 = on_pixel page begin sent.end within is in
    let c : left_of page begin sent + (right_of page begin sent - left_of page begin sent) ≤ 8210 =
    all_of (left_of page begin sent) (pixel page begin sent.end) 8200 a b in
    omega (arith, c)
