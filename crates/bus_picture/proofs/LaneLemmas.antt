-- Lanes, one behind the other, and their rows.
use Rattle.std.proofs.Common.{◌≡◌, ℕ, suc, ◌+◌, ◌<◌, Bool, List, [], ◌∷◌, ◌++◌, length, filter, take, get_or, append-nil, arith, sym, ap, ◌∙◌}
use Rattle.std.proofs.lemmas.Grind.{flat_map-append}
use Rattle.std.proofs.lemmas.List.{append_assoc, length-take, take_more}
use Rattle.std.proofs.lemmas.List.Elements.{filter-append}
use Rattle.bus_strings.specs.Messages.{Entry}
use Rattle.bus_table.specs.Tables.{Table}
use Rattle.bus_dump.specs.declared.lane.Lane.{Lane}
use Rattle.bus_pen.specs.declared.scale.Scale.{Scale}
use Rattle.bus_picture.specs.Rows.{Row, row_text, rows_text}
use Rattle.bus_picture.specs.TimeLines.{each_lane, lane_rows, rows_of_lanes}

behind : {X : Type 0} (of : ℕ → Lane → List X) (k : ℕ) (xs : List Lane) (y : Lane) → each_lane of k (xs ++ y ∷ []) ≡ each_lane of k xs ++ of (k + length xs) y
behind of k [] y = append-nil (of k y) ∙ ap (λ n. of n y) (let e : k ≡ k + 0 = omega arith in e)
behind {X} of k (x ∷ xs) y =
    ap (λ (t : List X). of k x ++ t) (behind of (k + 1) xs y)
    ∙ sym (append_assoc (of k x) (each_lane of (k + 1) xs) (of (k + 1 + length xs) y))
    ∙ ap (λ n. (of k x ++ each_lane of (k + 1) xs) ++ of n y) (let e : k + 1 + length xs ≡ k + suc (length xs) = omega arith in e)

-- One lane more.
pub one_more : {X : Type 0} (of : ℕ → Lane → List X) (lanes : List Lane) (k : ℕ) (d : Lane) → k < length lanes
    → each_lane of 0 (take (k + 1) lanes) ≡ each_lane of 0 (take k lanes) ++ of k (get_or lanes k d)
one_more of lanes k d h =
    ap (each_lane of 0) (take_more lanes k d h) ∙ behind of 0 (take k lanes) (get_or lanes k d)
    ∙ ap (λ n. each_lane of 0 (take k lanes) ++ of n (get_or lanes k d)) (let e : 0 + length (take k lanes) ≡ k = omega (arith, length-take k lanes) in e)

-- Rows, and others behind them.
pub rows_both : (scale : Scale) (table : Table) (list : List Entry) (rows others : List Row) → rows_text scale table list (rows ++ others) ≡ rows_text scale table list rows ++ rows_text scale table list others
rows_both scale table list rows others = flat_map-append (λ (row : Row). row_text scale table row list) rows others

-- The rows of one lane more.
pub rows_more : (scale : Scale) (table : Table) (list : List Entry) (lanes : List Lane) (k : ℕ) (d : Lane) → k < length lanes
    → rows_text scale table list (rows_of_lanes (take (k + 1) lanes)) ≡ rows_text scale table list (rows_of_lanes (take k lanes)) ++ rows_text scale table list (lane_rows k (get_or lanes k d))
rows_more scale table list lanes k d h =
    ap (rows_text scale table list) (one_more lane_rows lanes k d h)
    ∙ rows_both scale table list (rows_of_lanes (take k lanes)) (lane_rows k (get_or lanes k d))

-- Of one lane more, it is kept or it isn't.
pub kept_more : (test : Lane → Bool) (lanes : List Lane) (k : ℕ) (d : Lane) (old new : List Lane) → k < length lanes → old ≡ filter test (take k lanes)
    → new ≡ old ++ filter test (get_or lanes k d ∷ []) → new ≡ filter test (take (k + 1) lanes)
kept_more test lanes k d old new within kept more =
    more ∙ ap (λ (l : List Lane). l ++ filter test (get_or lanes k d ∷ [])) kept
    ∙ sym (filter-append test (take k lanes) (get_or lanes k d ∷ [])) ∙ ap (filter test) (sym (take_more lanes k d within))
