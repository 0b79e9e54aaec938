-- The stroke of a box lies within its area.
use Rattle.std.proofs.Common.{◌≡◌, ℕ, ◌+◌, ◌*◌, ◌≤◌, Bool, true, false, cond, List, [], ◌∷◌, fold, Option, Some, None, arith, refl, ap, ◌∙◌}
use Rattle.std.proofs.lemmas.Bool.{le-ltb, ltb-false}
use Rattle.bus_pen.specs.declared.area.Area.{Area}
use Rattle.bus_pen.specs.declared.scale.Scale.{Scale}
use Rattle.bus_shapes.specs.declared.sent.Sent.{Sent}
use Rattle.bus_pen.specs.Scales.{IsScale, extent, place}
use Rattle.bus_pen.proofs.ScaleLemmas.{place_rises}
use Rattle.bus_picture.specs.Boxes.{Box, Cluster, grown, is_narrow, is_thin, one, cluster_height, cluster_of, share_height}
use Rattle.bus_picture.specs.Laws.{StrokesLieWithin, with_stroke}
use Rattle.bus_picture.specs.Rows.{Row, box_area, inset, overhang, plain_overhang}

no_earlier : (cluster : Cluster) (xs : List Sent) → cluster.end ≤ (fold grown cluster xs).end
no_earlier cluster [] = omega arith
no_earlier cluster (x ∷ xs) = omega (arith, no_earlier (grown cluster x) xs)

first_kept : (cluster : Cluster) (xs : List Sent) → (fold grown cluster xs).first ≡ cluster.first
first_kept cluster [] = refl
first_kept cluster (x ∷ xs) = first_kept (grown cluster x) xs

few_plain : (terminal : Option ℕ) → plain_overhang terminal ≤ 7
few_plain None = omega arith
few_plain (Some n) = omega arith

few_by : (g : Bool) (terminal : Option ℕ) → cond g 7 (plain_overhang terminal) ≤ 7
few_by true terminal = omega arith
few_by false terminal = few_plain terminal

same_area : (a b : Area) → a.left ≡ b.left → a.top ≡ b.top → a.width ≡ b.width → a.height ≡ b.height → a ≡ b
same_area a b l t w h =
    ap (λ n. record { left = n; top = a.top; width = a.width; height = a.height }) l
    ∙ ap (λ n. record { left = b.left; top = n; width = a.width; height = a.height }) t
    ∙ ap (λ n. record { left = b.left; top = b.top; width = n; height = a.height }) w
    ∙ ap (λ n. record { left = b.left; top = b.top; width = b.width; height = n }) h

-- An area with room for it takes it back.
back : (n : ℕ) (area : Area) → 2 * n ≤ area.width → 2 * n ≤ area.height → with_stroke n (inset n area) ≡ area
back n area wide high =
    same_area (with_stroke n (inset n area)) area (omega arith) (omega arith) (omega arith) (omega arith)

by_thin : (share : ℕ) (thin : Bool) → thin ≡ false → cond thin share 180 ≡ 180
by_thin share true e = absurd cc
by_thin share false e = refl

by_narrow : (scale : Scale) (row : Row) (box : Box) (narrow : Bool) → IsScale scale → is_narrow scale (cluster_of box).first ≡ narrow
    → with_stroke (overhang row narrow) (inset (overhang row narrow) (box_area scale row (cluster_of box))) ≡ box_area scale row (cluster_of box)
by_narrow scale row box true s e = back 0 (box_area scale row (cluster_of box)) (omega arith) (omega arith)
by_narrow scale row box false s e =
    let cluster : Cluster = cluster_of box in
    let few : overhang row false ≤ 7 = few_by row.garbled row.terminal in
    let first : cluster.first ≡ box.first = first_kept (one box.first) box.others in
    let end : box.first.end ≤ cluster.end = no_earlier (one box.first) box.others in
    let same_end : cluster.first.end ≡ box.first.end = ap (λ (x : Sent). x.end) first in
    let later : place scale cluster.first.end ≤ place scale cluster.end = place_rises scale cluster.first.end cluster.end s (omega arith) in
    let wide : 60 ≤ extent scale cluster.first.moment cluster.first.end = ltb-false (extent scale cluster.first.moment cluster.first.end) 60 e in
    let thin : is_thin scale cluster.first ≡ false = le-ltb (place scale cluster.first.end) (place scale cluster.first.moment + 10) (omega arith) in
    let tall : cluster_height scale cluster ≡ 180 = by_thin (share_height scale cluster) (is_thin scale cluster.first) thin in
    let whole : 60 ≤ extent scale cluster.first.moment cluster.end = omega arith in
    back (overhang row false) (box_area scale row cluster) (omega arith) (omega arith)

pub strokes_lie_within : StrokesLieWithin
strokes_lie_within scale row box s = by_narrow scale row box (is_narrow scale (cluster_of box).first) s refl
