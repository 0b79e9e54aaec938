-- What a writer of overlap bands keeps: the last overlap band so far, which may still grow.
use Rattle.std.specs.Prelude.{◌≡◌, ℕ, ◌≤◌, List, [], ◌∷◌, ◌++◌, ⊤, Option, Some, None, if◌then◌else◌}
use Rattle.std.specs.Option.{option_map_or}
use Rattle.bus_strings.specs.Messages.{Entry}
use Rattle.bus_pen.specs.declared.scale.Scale.{Scale}
use Rattle.bus_shapes.specs.declared.sent.Sent.{Sent}
use Rattle.bus_shapes.specs.Sending.{sents}
use Rattle.bus_picture.specs.OverlapBands.{OverlapBand, is_overlapped, overlap_of, overlap_band_text, touches, widened}

-- The last overlap band where this one comes next.
abbrev pub with_band : Scale → Option OverlapBand → OverlapBand → OverlapBand
with_band scale None next = next
with_band scale (Some band) next = if touches scale band next then widened band next else next

-- An overlap band, where the next doesn't touch it.
abbrev pub untouched : Scale → ℕ → OverlapBand → OverlapBand → List ℕ
untouched scale bottom band next = if touches scale band next then [] else overlap_band_text scale bottom band

-- What is written then: the overlap band before, where the next doesn't touch it.
abbrev pub band_before : Scale → ℕ → Option OverlapBand → OverlapBand → List ℕ
band_before scale bottom None next = []
band_before scale bottom (Some band) next = untouched scale bottom band next

-- The last overlap band where x comes next.
abbrev pub next_band : Scale → Option OverlapBand → Sent → Option OverlapBand
next_band scale last x = if is_overlapped scale x then Some (with_band scale last (overlap_of x)) else last

-- What is written then.
abbrev pub next_band_text : Scale → ℕ → Option OverlapBand → Sent → List ℕ
next_band_text scale bottom last x = if is_overlapped scale x then band_before scale bottom last (overlap_of x) else []

-- The last overlap band, where there is one.
abbrev pub last_band_text : Scale → ℕ → Option OverlapBand → List ℕ
last_band_text scale bottom last = option_map_or (overlap_band_text scale bottom) last []

-- What is still to be written, where these transmissions are yet to come.
abbrev pub bands_to_come : Scale → ℕ → Option OverlapBand → List Sent → List ℕ
bands_to_come scale bottom last [] = last_band_text scale bottom last
bands_to_come scale bottom last (x ∷ xs) =
    next_band_text scale bottom last x ++ bands_to_come scale bottom (next_band scale last x) xs

-- The last overlap band, where there is one, ends no earlier than it begins.
abbrev pub IsLastBand : Option OverlapBand → Type 0
IsLastBand None = ⊤
IsLastBand (Some band) = band.from ≤ band.to

-- A writer of overlap bands has these transmissions yet to come. `text done` is that it has written this.
pub record Banding (text : List ℕ → Type 0) (scale : Scale) (bottom : ℕ) (list : List Entry) (last : Option OverlapBand) (left : List Sent)
    : Type 0 where
  pub done : List ℕ
  pub adds : text done
  pub rest : done ++ bands_to_come scale bottom last left ≡ bands_to_come scale bottom None (sents list)
  pub order : IsLastBand last
