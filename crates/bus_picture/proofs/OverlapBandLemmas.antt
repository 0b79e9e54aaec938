-- Overlap bands, one behind the other.
use Rattle.std.proofs.Common.{◌≡◌, ℕ, ◌≤◌, ◌<◌, Bool, true, false, cond, min, List, [], ◌∷◌, ◌++◌, filter, map, Option, Some, None, append-nil, arith, refl, sym, ap, subst, ◌∙◌}
use Rattle.std.specs.Prelude.{nat_lt}
use Rattle.std.specs.List.{flat_map}
use Rattle.std.proofs.lemmas.Bool.{and_parts, ltb-true}
use Rattle.std.proofs.lemmas.List.{append_assoc}
use Rattle.bus_strings.specs.Messages.{Entry}
use Rattle.bus_pen.specs.declared.scale.Scale.{Scale}
use Rattle.bus_shapes.specs.declared.sent.Sent.{Sent}
use Rattle.bus_shapes.specs.Sending.{sents}
use Rattle.bus_picture.specs.Strings.{meets}
use Rattle.bus_picture.specs.OverlapBands.{OverlapBand, is_overlapped, joined, overlap_of, overlap_band_text, bands_from, overlap_bands_text, touches, widened}
use Rattle.bus_picture.specs.inside.Banding.{IsLastBand, Banding, last_band_text, next_band, next_band_text, bands_to_come, untouched, with_band}

abbrev texts : Scale → ℕ → List OverlapBand → List ℕ
texts scale bottom ts = flat_map (overlap_band_text scale bottom) ts

by_touch : (scale : Scale) (bottom : ℕ) (band next : OverlapBand) (xs : List Sent) (ys : List OverlapBand) (b : Bool)
    → bands_to_come scale bottom (Some (widened band next)) xs ≡ texts scale bottom (bands_from scale (widened band next) ys)
    → bands_to_come scale bottom (Some next) xs ≡ texts scale bottom (bands_from scale next ys)
    → (cond b [] (overlap_band_text scale bottom band) ++ bands_to_come scale bottom (Some (cond b (widened band next) next)) xs)
    ≡ texts scale bottom (cond b (bands_from scale (widened band next) ys) (band ∷ bands_from scale next ys))
by_touch scale bottom band next xs ys true more new = more
by_touch scale bottom band next xs ys false more new = ap (λ (t : List ℕ). overlap_band_text scale bottom band ++ t) new

by_overlap : (scale : Scale) (bottom : ℕ) (band : OverlapBand) (x : Sent) (xs ys : List Sent) (b : Bool)
    → (untouched scale bottom band (overlap_of x) ++ bands_to_come scale bottom (Some (with_band scale (Some band) (overlap_of x))) xs)
    ≡ texts scale bottom (bands_from scale band (overlap_of x ∷ map overlap_of ys))
    → bands_to_come scale bottom (Some band) xs ≡ texts scale bottom (bands_from scale band (map overlap_of ys))
    → (cond b (untouched scale bottom band (overlap_of x)) []
    ++ bands_to_come scale bottom (cond b (Some (with_band scale (Some band) (overlap_of x))) (Some band)) xs)
    ≡ texts scale bottom (bands_from scale band (map overlap_of (cond b (x ∷ ys) ys)))
by_overlap scale bottom band x xs ys true shared other = shared
by_overlap scale bottom band x xs ys false shared other = other

-- What is to come behind an overlap band is that overlap band and the others.
behind : (scale : Scale) (bottom : ℕ) (band : OverlapBand) (xs : List Sent)
    → bands_to_come scale bottom (Some band) xs ≡ texts scale bottom (bands_from scale band (map overlap_of (filter (is_overlapped scale) xs)))
behind scale bottom band [] = sym (append-nil (overlap_band_text scale bottom band))
behind scale bottom band (x ∷ xs) =
    by_overlap scale bottom band x xs (filter (is_overlapped scale) xs) (is_overlapped scale x)
    (by_touch scale bottom band (overlap_of x) xs (map overlap_of (filter (is_overlapped scale) xs)) (touches scale band (overlap_of x))
    (behind scale bottom (widened band (overlap_of x)) xs) (behind scale bottom (overlap_of x) xs))
    (behind scale bottom band xs)

first_overlap : (scale : Scale) (bottom : ℕ) (x : Sent) (xs ys : List Sent) (b : Bool)
    → bands_to_come scale bottom (Some (overlap_of x)) xs ≡ texts scale bottom (bands_from scale (overlap_of x) (map overlap_of ys))
    → bands_to_come scale bottom None xs ≡ texts scale bottom (joined scale (map overlap_of ys))
    → (cond b [] [] ++ bands_to_come scale bottom (cond b (Some (overlap_of x)) None) xs)
    ≡ texts scale bottom (joined scale (map overlap_of (cond b (x ∷ ys) ys)))
first_overlap scale bottom x xs ys true shared other = shared
first_overlap scale bottom x xs ys false shared other = other

all_come : (scale : Scale) (bottom : ℕ) (xs : List Sent)
    → bands_to_come scale bottom None xs ≡ texts scale bottom (joined scale (map overlap_of (filter (is_overlapped scale) xs)))
all_come scale bottom [] = refl
all_come scale bottom (x ∷ xs) =
    first_overlap scale bottom x xs (filter (is_overlapped scale) xs) (is_overlapped scale x) (behind scale bottom (overlap_of x) xs)
    (all_come scale bottom xs)

-- ---- what a writer keeps
by_wide : (band next : OverlapBand) (b : Bool) → next.from ≤ next.to → band.from ≤ band.to
    → (cond b (widened band next) next).from ≤ (cond b (widened band next) next).to
by_wide band next true new old = omega arith
by_wide band next false new old = new

with_order : (scale : Scale) (last : Option OverlapBand) (next : OverlapBand) → next.from ≤ next.to → IsLastBand last → IsLastBand (Some (with_band scale last next))
with_order scale None next new old = new
with_order scale (Some band) next new old = by_wide band next (touches scale band next) new old

choose_last : (scale : Scale) (last : Option OverlapBand) (x : Sent) (b : Bool) → is_overlapped scale x ≡ b → IsLastBand last
    → IsLastBand (cond b (Some (with_band scale last (overlap_of x))) last)
choose_last scale last x true is old =
    let some : x.moment < min x.end x.before =
    ltb-true x.moment (min x.end x.before)
    (and_parts (nat_lt x.moment (min x.end x.before)) (meets scale x.moment (min x.end x.before)) is).0 in
    with_order scale last (overlap_of x) (omega arith) old
choose_last scale last x false is old = old

-- Nothing is written yet.
pub begun : (text : List ℕ → Type 0) (scale : Scale) (bottom : ℕ) (list : List Entry) (left : List Sent) → left ≡ sents list → text []
    → Banding text scale bottom list None left
begun text scale bottom list left is nothing = record {
  done = [];
  adds = nothing;
  rest = ap (bands_to_come scale bottom None) is;
  order = tt;
}

-- The next transmission is taken.
pub took : (text text' : List ℕ → Type 0) (scale : Scale) (bottom : ℕ) (list : List Entry) (last last' : Option OverlapBand) (x : Sent) (left xs : List Sent)
    → (w : Banding text scale bottom list last left) → left ≡ x ∷ xs → last' ≡ next_band scale last x
    → text' (w.done ++ next_band_text scale bottom last x) → Banding text' scale bottom list last' xs
took text text' scale bottom list last last' x left xs w is next adds = record {
  done = w.done ++ next_band_text scale bottom last x;
  adds = adds;
  rest = ap (λ (o : Option OverlapBand). (w.done ++ next_band_text scale bottom last x) ++ bands_to_come scale bottom o xs) next
      ∙ append_assoc w.done (next_band_text scale bottom last x) (bands_to_come scale bottom (next_band scale last x) xs)
      ∙ ap (λ (ys : List Sent). w.done ++ bands_to_come scale bottom last ys) (sym is) ∙ w.rest;
  order = subst IsLastBand (sym next) (choose_last scale last x (is_overlapped scale x) refl w.order);
}

-- All are taken.
pub ended : (text : List ℕ → Type 0) (scale : Scale) (bottom : ℕ) (list : List Entry) (last : Option OverlapBand) (left : List Sent)
    → (w : Banding text scale bottom list last left) → left ≡ [] → w.done ++ last_band_text scale bottom last ≡ overlap_bands_text scale bottom list
ended text scale bottom list last left w is =
    ap (λ (xs : List Sent). w.done ++ bands_to_come scale bottom last xs) (sym is) ∙ w.rest ∙ all_come scale bottom (sents list)
