-- What overlap bands tell. The contract of `laws::bands_are_overlaps` says that each of these laws holds.
use Rattle.std.specs.Prelude.{◌≡◌, ℕ, ◌+◌, ◌<◌, ◌≤◌, List, Some, slice_get, take}
use Rattle.bus_strings.specs.Members.{In}
use Rattle.bus_strings.specs.Messages.{Entry}
use Rattle.bus_strings.specs.Transmissions.{IsByMoment, end_of}
use Rattle.bus_pen.specs.declared.scale.Scale.{Scale}
use Rattle.bus_pen.specs.declared.measures.TheConstants.{PIXEL as pixel}
use Rattle.bus_pen.specs.Scales.{IsScale, place}
use Rattle.bus_picture.specs.OverlapBands.{OverlapBand, overlap_bands}

-- A transmission is sent at bit time t, its inner quiet included.
abbrev pub IsSent : Entry → ℕ → Type 0
IsSent x t = (x.moment ≤ t) × (t < end_of x)

-- Two transmissions of a list are sent at bit time t: entry `at`, and one of those before it.
pub record IsShared (list : List Entry) (t : ℕ) : Type 0 where
  pub at : ℕ
  pub one : Entry
  pub other : Entry
  pub before : In one (take at list)
  pub is : slice_get list at ≡ Some other
  pub sends : IsSent one t
  pub sends_too : IsSent other t

-- An overlap band has bit time t.
abbrev pub IsIn : OverlapBand → ℕ → Type 0
IsIn band t = (band.from ≤ t) × (t < band.to)

-- Each bit time of the scale at which two transmissions are sent is in an overlap band.
abbrev pub OverlapsHaveBands : Type 0
OverlapsHaveBands =
    (scale : Scale) (list : List Entry) (t : ℕ) → IsByMoment list → scale.from ≤ t → t < scale.to → IsShared list t
    → (band : OverlapBand) × In band (overlap_bands scale list) × IsIn band t

-- Of each bit time t of an overlap band: two transmissions are sent at it, or at a bit time behind it, less than a pixel away.
abbrev pub BandsAreOverlaps : Type 0
BandsAreOverlaps =
    (scale : Scale) (list : List Entry) (band : OverlapBand) (t : ℕ) → IsScale scale → IsByMoment list
    → In band (overlap_bands scale list) → IsIn band t
    → (u : ℕ) × IsShared list u × (t ≤ u) × (place scale u < place scale t + pixel)
