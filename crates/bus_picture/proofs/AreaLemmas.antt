-- Where boxes and the line at a breach are.
use Rattle.std.proofs.Common.{◌≡◌, ℕ, ◌+◌, ◌*◌, ◌-◌, ◌≤◌, Bool, true, false, cond, List, [], ◌∷◌, inl, inr, arith, ap}
use Rattle.std.specs.Prelude.{◌⊎◌}
use Rattle.std.proofs.lemmas.Bool.{cases_lt}
use Rattle.bus_dump.specs.declared.lane.Lane.{Lane}
use Rattle.bus_pen.specs.declared.scale.Scale.{Scale}
use Rattle.bus_strings.specs.Members.{In}
use Rattle.bus_picture.specs.Boxes.{Cluster, is_thin, cluster_height, share_height}
use Rattle.bus_picture.specs.Laws.{BoxesLieInRows, BreachesHideNoBox, IntervalWordsHideNoBox}
use Rattle.bus_picture.specs.declared.measures.TheConstants.{PLOT_TOP as plot_top, ROW_HEIGHT as row_height}
use Rattle.bus_picture.specs.Rows.{Row}
use Rattle.bus_picture.specs.TimeLines.{each_lane, lane_rows, rows_of}

by_share : (share : ℕ) (thin : Bool) → share ≤ 180 → cond thin share 180 ≤ 180
by_share share true h = h
by_share share false h = omega arith

-- A box is no higher than it may be.
height_within : (scale : Scale) (cluster : Cluster) → cluster_height scale cluster ≤ 180
height_within scale cluster = by_share (share_height scale cluster) (is_thin scale cluster.first) (omega arith)

pub boxes_lie_in_rows : BoxesLieInRows
boxes_lie_in_rows scale row cluster = let high : cluster_height scale cluster ≤ 180 = height_within scale cluster in (omega arith, omega arith)

-- A row begins a whole number of rows below the plot's upper edge.
record IsPlace (row : Row) : Type 0 where
  number : ℕ
  top : row.top ≡ plot_top + row_height * number

lanes_placed : (k : ℕ) (lanes : List Lane) (row : Row) → In row (each_lane lane_rows k lanes) → IsPlace row
lanes_placed k [] row i = absurd i
lanes_placed k (lane ∷ lanes) row (inl e) = record { number = k + 1; top = ap (λ (r : Row). r.top) e }
lanes_placed k (lane ∷ lanes) row (inr (inl e)) = record { number = k + 1; top = ap (λ (r : Row). r.top) e }
lanes_placed k (lane ∷ lanes) row (inr (inr i)) = lanes_placed (k + 1) lanes row i

placed : (lanes : List Lane) (row : Row) → In row (rows_of lanes) → IsPlace row
placed lanes row (inl e) = record { number = 0; top = ap (λ (r : Row). r.top) e }
placed lanes row (inr (inl e)) = record { number = 0; top = ap (λ (r : Row). r.top) e }
placed lanes row (inr (inr i)) = lanes_placed 0 lanes row i

-- A dash that lies above or below the boxes of its row lies so of all boxes.
apart : (from high below tall n k : ℕ) → below + tall ≤ 60 ⊎ (240 ≤ below × (below + tall ≤ 320)) → 60 ≤ from → from + high ≤ 240
    → (1170 + 320 * k + below + tall ≤ 1170 + 320 * n + from) ⊎ (1170 + 320 * n + from + high ≤ 1170 + 320 * k + below)
apart from high below tall n k where' low most =
    elim (cases_lt k n) [
      | inl before ↦ inl (elim where' [ inl above ↦ omega arith | inr under ↦ (let u : below + tall ≤ 320 = under.1 in omega arith) ])
      | inr later ↦ elim (cases_lt n k) [
        | inl behind ↦ inr (omega arith)
        | inr here ↦ elim where' [ inl above ↦ inl (omega arith) | inr under ↦ inr (let u : 240 ≤ below = under.0 in omega arith) ]
      ]
    ]

pub breaches_hide_no_box : BreachesHideNoBox
breaches_hide_no_box scale lanes row cluster left width i =
    let p : IsPlace row = placed lanes row i in
    let top : row.top ≡ 1170 + 320 * p.number = p.top in
    let high : cluster_height scale cluster ≤ 180 = height_within scale cluster in
    let from : ℕ = 60 + (180 - cluster_height scale cluster) in (
      record {
        head = inl (omega arith);
        upper = λ k. elim (apart from (cluster_height scale cluster) 0 60 p.number k (inl (omega arith)) (omega arith) (omega arith)) [
          | inl above ↦ inl (omega arith)
          | inr under ↦ inr (omega arith)
        ];
        lower = λ k. elim (apart from (cluster_height scale cluster) 240 80 p.number k (inr (omega arith, omega arith)) (omega arith) (omega arith)) [
          | inl above ↦ inl (omega arith)
          | inr under ↦ inr (omega arith)
        ];
      },
      omega arith,
    )

pub interval_words_hide_no_box : IntervalWordsHideNoBox
interval_words_hide_no_box scale lanes row cluster i =
    let p : IsPlace row = placed lanes row i in
    let top : row.top ≡ 1170 + 320 * p.number = p.top in
    let high : cluster_height scale cluster ≤ 180 = height_within scale cluster in
    elim (cases_lt p.number 1) [
      | inl before ↦ inl (omega arith)
      | inr later ↦ inr (omega arith)
    ]
