-- What is seen of a line tells what it carries.
use Rattle.std.specs.Prelude.{◌≡◌, ℕ, ◌+◌, ◌*◌, ◌<◌, ◌≤◌, Bool, true, not, ◌&&◌, nat_lt, cond, List, [], ◌∷◌, ◌++◌, replicate}
use Rattle.bus_edges.specs.Lines.{half, near, count_of, most_count, quiet_from, IsNear, bursts, ends_burst}
use Rattle.bus_edges.specs.declared.run.Run.{Run}

-- A stretch that the line carries: whether it is high, and how many halves it has.
pub record Stretch : Type 0 where
  pub high : Bool
  pub count : ℕ

-- The halves that it carries.
abbrev pub carried : Stretch → List Bool
carried s = replicate s.count s.high

-- Whether it stands between two bursts: low for more halves than a message ever is.
abbrev pub is_quiet : Stretch → Bool
is_quiet s = not s.high && nat_lt most_count s.count

-- The bursts that stretches carry, where `now` is that under way.
unfoldable pub carried_bursts : List Bool → List Stretch → List (List Bool)
carried_bursts now [] = []
carried_bursts now (s ∷ stretches) =
    cond (is_quiet s) (now ∷ carried_bursts [] stretches) (carried_bursts (now ++ carried s) stretches)

-- A run shows a stretch: at the same level; inside a burst near its halves; between two bursts quiet for long enough. No line is high for
-- more halves than nine.
pub record Shows (s : Stretch) (r : Run) : Type 0 where
  pub level : r.high ≡ s.high
  pub inside : s.count ≤ most_count → IsNear s.count r.length
  pub between : most_count < s.count → quiet_from ≤ r.length
  pub short : s.high ≡ true → s.count ≤ most_count

-- Each run shows its stretch, in order, and there are as many.
abbrev pub ShowAll : List Stretch → List Run → Type 0
ShowAll [] [] = Unit {0}
ShowAll [] (r ∷ runs) = ⊥
ShowAll (s ∷ stretches) [] = ⊥
ShowAll (s ∷ stretches) (r ∷ runs) = Shows s r × ShowAll stretches runs

-- Runs that show what the line carries give its bursts, half for half. Each run is rounded by itself, so errors don't add up over a message.
abbrev pub BurstsAreSeen : Type 0
BurstsAreSeen =
    (now : List Bool) (stretches : List Stretch) (runs : List Run) → ShowAll stretches runs → bursts now runs ≡ carried_bursts now stretches

-- What was told stays, whatever comes: of more runs there are the same bursts, and maybe more behind.
abbrev pub BurstsStay : Type 0
BurstsStay =
    (now : List Bool) (runs more : List Run) → (rest : List (List Bool)) × (bursts now (runs ++ more) ≡ bursts now runs ++ rest)

-- Behind a quiet run nothing depends on what was before it: whatever noise there was, from there on the bursts are those of the rest.
abbrev pub QuietMends : Type 0
QuietMends =
    (now : List Bool) (noise rest : List Run) (r : Run) → ends_burst r ≡ true
    → (before : List (List Bool)) × (bursts now (noise ++ r ∷ rest) ≡ before ++ bursts [] rest)

-- How two edges are seen, one behind the other. Each is seen up to `early` before it is due or up to `late` behind that; by the sender's
-- clock what lies between them may last up to `off` less or more than by the table. All in nanoseconds.
--   a, b          when they are due, so many halves apart
--   seen, next    when they are seen
pub record AreSeen (early late off count a b seen next : ℕ) : Type 0 where
  pub least : a + half * count ≤ b + off
  pub most : b ≤ a + half * count + off
  pub first_early : a ≤ seen + early
  pub first_late : seen ≤ a + late
  pub next_early : b ≤ next + early
  pub next_late : next ≤ b + late

-- What is seen between them is near the halves between them, where all three errors together are less than half of one.
abbrev pub EdgesAreNear : Type 0
EdgesAreNear =
    (early late off count a b seen next length : ℕ) → AreSeen early late off count a b seen next → early + late + off < near
    → seen + length ≡ next → IsNear count length

-- And where they are ten halves apart, or more, what is between them is quiet, and no part of a message.
abbrev pub QuietIsSeen : Type 0
QuietIsSeen =
    (early late off count a b seen next length : ℕ) → AreSeen early late off count a b seen next → most_count < count
    → early + late + off < near → seen + length ≡ next → quiet_from ≤ length

-- How a half bit is seen that counts as none.
pub record IsLost (early late off : ℕ) : Type 0 where
  pub a : ℕ
  pub b : ℕ
  pub seen : ℕ
  pub next : ℕ
  pub length : ℕ
  pub seen_so : AreSeen early late off 1 a b seen next
  pub between : seen + length ≡ next
  pub none : count_of length ≡ 0

-- The three errors can't be more: where they are a nanosecond more than half of a half together, one half may count as none.
abbrev pub NoMoreIsBorne : Type 0
NoMoreIsBorne = (early late off : ℕ) → early + late + off ≡ near + 1 → IsLost early late off
