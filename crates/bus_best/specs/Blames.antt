-- Which rule is to blame where no gaps are roomy: the first that can't be kept together with those before it.
use Rattle.std.specs.Prelude.{◌≡◌, ℕ, zero, suc, ◌+◌, ◌-◌, ◌*◌, ◌<◌, ◌≤◌, Bool, true, false, ◌&&◌, ◌==◌, nat_lt, nat_le}
use Rattle.std.specs.Prelude.{List, [], ◌∷◌, length, get_or, slice_get, Option, Some, None, if◌then◌else◌}
use Rattle.bus_bounds.specs.Bounds.{Bounds, error}
use Rattle.bus_gaps.specs.declared.speaker.Speaker.{Speaker}
use Rattle.bus_gaps.specs.Gaps.{most_sg, most_tg, least_time, most_time, drop_of, sway}
use Rattle.bus_best.specs.declared.blame.Rule.{Rule}
use Rattle.bus_best.specs.declared.blame.Rule.TheVariants.{Joining, Drop, Opening}
use Rattle.bus_best.specs.declared.blame.Needed.{Needed}
use Rattle.bus_best.specs.declared.blame.Blame.{Blame}
use Rattle.bus_best.specs.declared.blame.Blame.TheVariants.{Lasts, Whole, Gap, Waiting, Interval}
use Rattle.bus_best.specs.Asked.{asked, least_whole}
use Rattle.bus_best.specs.Groups.{IsWhole, AreApart, AllWait}

-- ---- by computation

-- What asks for the gap behind one of x bit times.
abbrev pub rule_behind : Bounds → ℕ → ℕ → Rule
rule_behind bounds sg x =
    if nat_le (most_time bounds x + sway bounds sg + 2 * bounds.delay + 1) (drop_of bounds) then Drop else Opening

-- The first of these gaps that is greater than a gap may be, where the first of them is at this place and this rule asks for it.
abbrev pub first_above : Bounds → ℕ → ℕ → Rule → List ℕ → Option Needed
first_above bounds sg place rule [] = None
first_above bounds sg place rule (x ∷ gaps) =
    if nat_lt most_tg x then Some (record { rule = rule; place = place; bits = x })
    else first_above bounds sg (suc place) (rule_behind bounds sg x) gaps

abbrev pub above : Bounds → ℕ → ℕ → Option Needed
above bounds count sg = first_above bounds sg 0 Joining (asked bounds count sg)

-- Whether each of these gaps is over before another's synchronization gap.
abbrev pub waits : Bounds → ℕ → Bool → ℕ → Bool
waits bounds sg true x = nat_lt x sg
waits bounds sg false x = nat_lt (most_time bounds x + 2 * bounds.delay) (least_time bounds sg)

abbrev pub all_wait : Bounds → ℕ → Bool → List ℕ → Bool
all_wait bounds sg alone [] = true
all_wait bounds sg alone (x ∷ gaps) = waits bounds sg alone x && all_wait bounds sg alone gaps

-- With one synchronization gap: a gap that is too great, or gaps that wait, or what there is with a greater one.
abbrev pub waiting_or : Option Needed → Bool → Blame → Blame
waiting_or (Some needed) waiting later = Waiting (Some needed)
waiting_or None true later = Interval
waiting_or None false later = later

-- From this synchronization gap on, of so many.
unfoldable pub blame_from : Bounds → ℕ → ℕ → ℕ → Blame
blame_from bounds count sg zero = Waiting None
blame_from bounds count sg (suc n) =
    waiting_or (above bounds count sg) (all_wait bounds sg (count == 1) (asked bounds count sg)) (blame_from bounds count (suc sg) n)

abbrev pub gap_or : Option Needed → Blame → Blame
gap_or (Some needed) later = Gap needed
gap_or None later = later

abbrev pub blame_gaps : Bounds → ℕ → Blame
blame_gaps bounds count =
    if nat_lt most_sg (least_whole bounds) then Whole (least_whole bounds)
    else gap_or (above bounds count (least_whole bounds)) (blame_from bounds count (least_whole bounds) (suc most_sg - least_whole bounds))

-- The first of these senders whose shortest message may be over as soon as it begins, where the first of them is at this place.
abbrev pub first_unlasting : Bounds → ℕ → List Speaker → Option Blame
first_unlasting bounds place [] = None
first_unlasting bounds place (a ∷ senders) =
    if nat_lt 0 (least_time bounds a.shortest) then first_unlasting bounds (suc place) senders
    else Some (Lasts place (error bounds (500 * a.shortest) + 1) (500 * a.shortest))

abbrev pub told_or : Option Blame → Blame → Blame
told_or (Some blame) later = blame
told_or None later = later

abbrev pub blame_of : Bounds → List Speaker → Blame
blame_of bounds senders = told_or (first_unlasting bounds 0 senders) (blame_gaps bounds (length senders))

-- ---- what it means

-- The shortest message of the sender at this place has so many nanoseconds, and may be off by all of them: it would have to have more.
pub record IsUnlasting (bounds : Bounds) (senders : List Speaker) (place needed have : ℕ) : Type 0 where
  pub sender : Speaker
  pub at : slice_get senders place ≡ Some sender
  pub message : have ≡ 500 * sender.shortest
  pub off : needed ≡ error bounds have + 1
  pub short : have < needed

-- Some gaps within their limits are whole and apart.
pub record HaveApart (bounds : Bounds) (count : ℕ) : Type 0 where
  pub sg : ℕ
  pub gaps : List ℕ
  pub most : sg ≤ most_sg
  pub whole : IsWhole bounds sg
  pub apart : AreApart bounds count sg gaps
  pub few : (k : ℕ) → get_or gaps k 0 ≤ most_tg

-- And wait.
pub record HaveWaiting (bounds : Bounds) (count : ℕ) : Type 0 where
  pub have : HaveApart bounds count
  pub waiting : AllWait bounds have.sg (count == 1) have.gaps

-- Whatever gaps are whole and apart, however great: the one at this place has so many bit times at least, which is too many.
pub record IsNeeded (bounds : Bounds) (count : ℕ) (needed : Needed) : Type 0 where
  pub many : most_tg < needed.bits
  pub asked : (sg : ℕ) (gaps : List ℕ) → IsWhole bounds sg → AreApart bounds count sg gaps → needed.bits ≤ get_or gaps needed.place 0

-- Some are whole and apart; but of those that also wait, however great, the one at this place is too great, or their synchronization gap.
abbrev pub IsNeededToWait : Bounds → ℕ → Option Needed → Type 0
IsNeededToWait bounds count None =
    (sg : ℕ) (gaps : List ℕ) → IsWhole bounds sg → AreApart bounds count sg gaps → AllWait bounds sg (count == 1) gaps → most_sg < sg
IsNeededToWait bounds count (Some needed) =
    (most_tg < needed.bits)
    × ((sg : ℕ) (gaps : List ℕ) → IsWhole bounds sg → AreApart bounds count sg gaps → AllWait bounds sg (count == 1) gaps
    → needed.bits ≤ get_or gaps needed.place 0)

-- What is said by blame.
abbrev pub Means : Bounds → List Speaker → Blame → Type 0
Means bounds senders (Lasts place needed have) = IsUnlasting bounds senders place needed have
Means bounds senders (Whole needed) = (most_sg < needed) × ((sg : ℕ) → IsWhole bounds sg → needed ≤ sg)
Means bounds senders (Gap needed) = IsNeeded bounds (length senders) needed
Means bounds senders (Waiting needed) = HaveApart bounds (length senders) × IsNeededToWait bounds (length senders) needed
Means bounds senders Interval = HaveWaiting bounds (length senders)
