-- The boxes of a row of transmissions. Neighbours that take less than a pixel each share a box, where less than a pixel lies between them
-- and they begin in the same six pixels: so no box covers quiet between two of them that takes a pixel.
use Rattle.std.specs.Prelude.{ℕ, ◌+◌, ◌-◌, ◌*◌, ◌/◌, max, min, Bool, ◌&&◌, nat_le, nat_lt, nat_eq, List, [], ◌∷◌, ◌++◌, codes, decimal}
use Rattle.std.specs.Prelude.{fold}
use Rattle.std.specs.Prelude.{if◌then◌else◌}
use Rattle.std.specs.List.{count_by, range_with_len}
use Rattle.bus_shapes.specs.declared.sent.Sent.{Sent}
use Rattle.bus_shapes.specs.Sayings.{garbled_words, sent_words}
use Rattle.bus_pen.specs.declared.scale.Scale.{Scale}
use Rattle.bus_pen.specs.Scales.{extent, place}
pub use Rattle.bus_picture.specs.declared.cluster.Cluster.{Cluster}
use Rattle.bus_pen.specs.declared.measures.TheConstants.{PIXEL as pixel}
use Rattle.bus_picture.specs.declared.measures.TheConstants.{BOX_HEIGHT as box_height, LEAST_HEIGHT as least_height, NARROW as narrow}

-- ---- which transmissions share a box
-- Whether a transmission takes less than a pixel.
abbrev pub is_thin : Scale → Sent → Bool
is_thin scale x = nat_lt (place scale x.end) (place scale x.moment + pixel)

-- Whether it takes less than six.
abbrev pub is_narrow : Scale → Sent → Bool
is_narrow scale x = nat_lt (extent scale x.moment x.end) narrow

-- The stretch of six pixels in which it begins.
abbrev pub bucket : Scale → Sent → ℕ
bucket scale x = place scale x.moment / narrow

-- Whether it begins less than a pixel behind a moment, or before that.
abbrev pub is_close : Scale → ℕ → Sent → Bool
is_close scale end x = nat_lt (place scale x.moment) (place scale end + pixel)

-- A box of one transmission, of which all that is drawn is busy.
abbrev pub one : Sent → Cluster
one x = record { first = x; count = 1; end = x.end; busy = x.end - x.moment }

-- A box with one transmission more, which is busy from its begin on, or from the end of the others on.
abbrev pub grown : Cluster → Sent → Cluster
grown cluster x = record {
  first = cluster.first;
  count = cluster.count + 1;
  end = max cluster.end x.end;
  busy = cluster.busy + (x.end - max cluster.end x.moment);
}

-- Whether the next transmission shares a box: it and the first of the box take less than a pixel and begin in the same six pixels, and less
-- than a pixel lies between it and all of the box.
abbrev pub joins : Scale → Cluster → Sent → Bool
joins scale cluster y =
    is_thin scale cluster.first && is_thin scale y && nat_eq (bucket scale cluster.first) (bucket scale y) && is_close scale cluster.end y

-- A box: a transmission, and those after it that share it.
pub record Box : Type 0 where
  pub first : Sent
  pub others : List Sent

-- The transmissions of a box.
abbrev pub members : Box → List Sent
members box = box.first ∷ box.others

-- What is drawn of a box: its first transmission, how many it has, when all have ended, and for how many bit times one of them is sent.
abbrev pub cluster_of : Box → Cluster
cluster_of box = fold grown (one box.first) box.others

-- The boxes where this one is the last so far, and these transmissions are yet to come: it takes those that share it.
abbrev pub boxes_from : Scale → Box → List Sent → List Box
boxes_from scale box [] = box ∷ []
boxes_from scale box (y ∷ ys) =
    if joins scale (cluster_of box) y then boxes_from scale (record { first = box.first; others = box.others ++ y ∷ [] }) ys
    else box ∷ boxes_from scale (record { first = y; others = [] }) ys

-- The boxes of a row of transmissions.
abbrev pub boxes : Scale → List Sent → List Box
boxes scale [] = []
boxes scale (x ∷ xs) = boxes_from scale (record { first = x; others = [] }) xs

-- ---- what is drawn of a box
-- How many transmissions it has, and from when to when.
abbrev pub many_words : Cluster → List ℕ
many_words cluster =
    decimal cluster.count ++ codes " transmissions, moments " ++ decimal cluster.first.moment ++ codes " to " ++ decimal cluster.end
    ++ garbled_words cluster.first.garbled

-- The bit times that take more than a pixel.
abbrev pub pixel_bits : Scale → ℕ
pixel_bits scale = pixel * (scale.to - scale.from) / scale.width + 1

-- How many bit times a box is drawn for: from the begin of its first transmission to the end of all, and no less than a pixel.
abbrev pub drawn_bits : Scale → Cluster → ℕ
drawn_bits scale cluster = max (cluster.end - cluster.first.moment) (pixel_bits scale)

-- How many of so many are busy, in words.
abbrev pub busy_words : ℕ → ℕ → List ℕ
busy_words busy bits = codes ", busy " ++ decimal busy ++ codes " of " ++ decimal bits ++ codes " bit times"

-- The same of a box of what takes less than a pixel.
abbrev pub share_words : Scale → Cluster → List ℕ
share_words scale cluster = if is_thin scale cluster.first then busy_words cluster.busy (drawn_bits scale cluster) else []

-- The words of its transmissions: of one, or of all.
abbrev pub members_words : Cluster → List ℕ
members_words cluster = if nat_eq cluster.count 1 then sent_words cluster.first else many_words cluster

-- The words of a box; of one that takes less than a pixel, or has several that do, with how much of it is busy.
abbrev pub cluster_words : Scale → Cluster → List ℕ
cluster_words scale cluster = members_words cluster ++ share_words scale cluster

-- Whether the square of a height is no more than the share of the square of the whole height that is busy.
abbrev pub is_below_root : ℕ → ℕ → ℕ → Bool
is_below_root busy bits height = nat_le (height * height * bits) (box_height * box_height * busy)

-- The greatest of these heights, since all below it are so: the square root of that share, in units.
abbrev pub root_height : ℕ → ℕ → ℕ
root_height busy bits = count_by (λ k. is_below_root busy bits (k + 1)) (range_with_len 0 box_height)

-- The height of a box of transmissions that take less than a pixel: the square root of the share of what is drawn that is busy, by which
-- small shares can be told apart.
abbrev pub share_height : Scale → Cluster → ℕ
share_height scale cluster = min (max (root_height cluster.busy (drawn_bits scale cluster)) least_height) box_height

-- The height of a box.
abbrev pub cluster_height : Scale → Cluster → ℕ
cluster_height scale cluster = if is_thin scale cluster.first then share_height scale cluster else box_height
