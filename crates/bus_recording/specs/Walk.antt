-- How findings are computed: a walk over the transmissions between two starts of one terminal. The functions go over a list alone; the laws
-- say that what they give is what is found, both ways.
--   list    transmissions, each beginning no earlier than those before it
--   start   when the terminal starts that is judged
use Rattle.std.specs.Prelude.{◌≡◌, ◌≢◌, ℕ, ◌+◌, ◌-◌, ◌<◌, ◌≤◌, ◌⊎◌, nat_le, nat_lt, max, min, if◌then◌else◌}
use Rattle.std.specs.Prelude.{Option, Some, None, List, [], ◌∷◌}
use Rattle.bus_recording.specs.Seen.{Bounds, IsIn, Monitor, Seen}
use Rattle.bus_recording.specs.Findings.{HasHeardBegin, IsEarlyByGap, IsEarlyByInterval, IsEarlyBySync, IsGreatest, IsLate}
use Rattle.bus_recording.specs.Findings.{IsOverForCertain, IsQuietForCertain}

-- Each begins no earlier than those before it.
abbrev pub Ascends : List Seen → Type 0
Ascends [] = Unit {0}
Ascends (r ∷ list) = ((q : Seen) → IsIn q list → r.moment ≤ q.moment) × Ascends list

-- The longest stretch that may have been quiet between these transmissions, the first of which begins at moment a, with `tg` ticks behind
-- it before the start: each transmission may be heard up to `reach` later, and ends a stretch; the next begins at the greatest end so far.
abbrev pub longest_room : ℕ → ℕ → ℕ → ℕ → List Seen → ℕ
longest_room reach tg start a [] = start - tg - a
longest_room reach tg start a (r ∷ list) =
    max (min (r.moment + reach) (start - tg) - a) (longest_room reach tg start (max a r.soonest) list)

-- The walk from o to y for the synchronization gap: it meets the others' transmissions between the two, and begins at the greatest end of o
-- and of those before it.
pub record IsSyncWalk (monitor : Monitor) (recording : List Seen) (o y : Seen) (a : ℕ) (between : List Seen) : Type 0 where
  pub ascends : Ascends between
  pub foreign : (r : Seen) → IsIn r between → IsIn r recording × (r.sender ≢ y.sender)
  pub others : (r : Seen) → IsIn r recording → r.sender ≢ y.sender → IsIn r between ⊎ ((r.soonest ≤ a) ⊎ (y.moment ≤ r.moment))
  pub behind : o.soonest ≤ a
  pub of_one : (a ≡ o.soonest) ⊎ ((w : Seen) × IsIn w recording × (w.sender ≢ y.sender) × (w.moment ≤ o.moment) × (a ≡ w.soonest))
  pub long : o.moment + monitor.reach ≤ o.soonest

-- Where the synchronization gap has elapsed for certain, if it has: a stretch from moment c to moment m is quiet for certain.
abbrev pub elapsed_by : ℕ → ℕ → ℕ → Option ℕ → Option ℕ
elapsed_by sg c m (Some e) = Some e
elapsed_by sg c m None = if nat_le (c + sg) m then Some (c + sg) else None

-- Where it elapses first between these transmissions, the first stretch beginning at moment c.
abbrev pub first_elapsed : ℕ → ℕ → ℕ → ℕ → Option ℕ → List Seen → Option ℕ
first_elapsed rest sg start c e [] = elapsed_by sg c start e
first_elapsed rest sg start c e (r ∷ list) = first_elapsed rest sg start (max c (r.latest + rest)) (elapsed_by sg c r.moment e) list

-- The first moment of that stretch at which all timers are over for certain, if that is before the start: the interval is at moment `over`,
-- the synchronization gap elapsed at e.
abbrev pub due_in : ℕ → ℕ → ℕ → ℕ → ℕ → Option ℕ → Option ℕ
due_in tg over start c m None = None
due_in tg over start c m (Some e) =
    if nat_le (max over (max (e + tg) (c + tg))) m then
    (if nat_lt (max over (max (e + tg) (c + tg))) start then Some (max over (max (e + tg) (c + tg))) else None)
    else None

-- The one, or the other where there is none.
abbrev pub first_of : Option ℕ → Option ℕ → Option ℕ
first_of (Some t) other = Some t
first_of None other = other

-- The first moment before the start at which all timers are over for certain, if there is one.
abbrev pub first_due : ℕ → ℕ → ℕ → ℕ → ℕ → ℕ → Option ℕ → List Seen → Option ℕ
first_due rest sg tg over start c e [] = due_in tg over start c start (elapsed_by sg c start e)
first_due rest sg tg over start c e (r ∷ list) =
    first_of
    (due_in tg over start c r.moment (elapsed_by sg c r.moment e))
    (first_due rest sg tg over start (max c (r.latest + rest)) (elapsed_by sg c r.moment e) list)

-- The walk from o to y for late starts: from moment c on, behind which all before is over, it meets what isn't over there.
pub record IsLateWalk (monitor : Monitor) (recording : List Seen) (o y : Seen) (c : ℕ) (between : List Seen) : Type 0 where
  pub ascends : Ascends between
  pub settles : monitor.settled ≤ c
  pub own : o.latest ≤ c
  pub lasts : o.moment ≤ o.latest
  pub least : (c ≡ monitor.settled) ⊎ ((c ≡ o.latest) ⊎ ((w : Seen) × IsIn w recording × (w ≢ o) × (w.moment ≤ o.moment)
      × (c ≡ w.latest + monitor.rest)))
  pub there : (r : Seen) → IsIn r between → IsIn r recording × (r ≢ o) × (r.moment ≤ y.moment) × (r.moment ≤ r.latest)
  pub others : (r : Seen) → IsIn r recording → (r ≡ o) ⊎ (IsIn r between ⊎ ((r.latest + monitor.rest ≤ c) ⊎ (y.moment ≤ r.moment)))

-- The amount by the interval is what the two starts lack.
abbrev pub IntervalAmount : Type 0
IntervalAmount =
    (bounds : Bounds) (o y : Seen) (n : ℕ) → y.moment + n ≡ o.moment + bounds.short.ti → IsGreatest (λ m. IsEarlyByInterval bounds m o y) n

-- The amount by the terminal gap is told by the transmission that ends last of those that were heard to begin.
abbrev pub GapAmount : Type 0
GapAmount =
    (bounds : Bounds) (monitor : Monitor) (recording : List Seen) (y w : Seen) (n : ℕ) → monitor.drop ≤ bounds.short.tg → IsIn w recording
    → HasHeardBegin monitor w y → ((r : Seen) → IsIn r recording → HasHeardBegin monitor r y → r.soonest ≤ w.soonest)
    → y.moment + n ≡ w.soonest + bounds.short.tg → IsGreatest (λ m. IsEarlyByGap bounds monitor m recording y) n

-- The walk for the synchronization gap gives the amount: what the longest stretch lacks, where quiet inside a message counts as heard.
abbrev pub WalkFindsSync : Type 0
WalkFindsSync =
    (bounds : Bounds) (monitor : Monitor) (recording : List Seen) (o y : Seen) (a : ℕ) (between : List Seen) (n : ℕ)
    → IsSyncWalk monitor recording o y a between → 0 < monitor.drop → 0 < n
    → n + max (longest_room monitor.reach bounds.short.tg y.moment a between) (monitor.drop - 1) ≡ bounds.short.sg
    → IsGreatest (λ m. IsEarlyBySync bounds monitor m recording o y) n

-- Where the longest stretch lacks nothing, the start isn't too early by its synchronization gap.
abbrev pub WalkFindsNoSync : Type 0
WalkFindsNoSync =
    (bounds : Bounds) (monitor : Monitor) (recording : List Seen) (o y : Seen) (a : ℕ) (between : List Seen)
    → IsSyncWalk monitor recording o y a between → 0 < monitor.drop
    → bounds.short.sg ≤ max (longest_room monitor.reach bounds.short.tg y.moment a between) (monitor.drop - 1)
    → IsEarlyBySync bounds monitor 1 recording o y → ⊥

-- The walk for late starts gives the first moment before the start at which all timers were over for certain.
abbrev pub WalkFindsDue : Type 0
WalkFindsDue =
    (bounds : Bounds) (monitor : Monitor) (recording : List Seen) (o y : Seen) (c t : ℕ) (between : List Seen)
    → IsLateWalk monitor recording o y c between → 0 < bounds.long.sg → 0 < bounds.long.tg
    → first_due monitor.rest bounds.long.sg bounds.long.tg (o.moment + bounds.long.ti) y.moment c None between ≡ Some t
    → (t < y.moment) × IsOverForCertain bounds monitor recording o t
    × ((u : ℕ) → u < y.moment → IsOverForCertain bounds monitor recording o u → t ≤ u)

-- And it gives none only where there is none: so a start is late exactly where the walk gives a moment.
abbrev pub WalkFindsNotDue : Type 0
WalkFindsNotDue =
    (bounds : Bounds) (monitor : Monitor) (recording : List Seen) (o y : Seen) (c : ℕ) (between : List Seen)
    → IsLateWalk monitor recording o y c between → 0 < bounds.long.sg → 0 < bounds.long.tg
    → first_due monitor.rest bounds.long.sg bounds.long.tg (o.moment + bounds.long.ti) y.moment c None between ≡ None
    → (u : ℕ) → u < y.moment → IsOverForCertain bounds monitor recording o u → ⊥

-- The synchronization gap has elapsed for certain at moment e, behind the terminal's last start o.
abbrev pub IsElapsed : Bounds → Monitor → List Seen → Seen → ℕ → Type 0
IsElapsed bounds monitor recording o e = (bounds.long.sg ≤ e) × IsQuietForCertain monitor recording o (e - bounds.long.sg) e

-- The walk gives where it elapses first, up to the start.
abbrev pub WalkFindsElapsed : Type 0
WalkFindsElapsed =
    (bounds : Bounds) (monitor : Monitor) (recording : List Seen) (o y : Seen) (c e : ℕ) (between : List Seen)
    → IsLateWalk monitor recording o y c between → 0 < bounds.long.sg
    → first_elapsed monitor.rest bounds.long.sg y.moment c None between ≡ Some e
    → (e ≤ y.moment) × IsElapsed bounds monitor recording o e
    × ((u : ℕ) → u ≤ y.moment → IsElapsed bounds monitor recording o u → e ≤ u)

-- The amount by which a start is late goes from the first such moment to the start.
abbrev pub LateAmount : Type 0
LateAmount =
    (bounds : Bounds) (monitor : Monitor) (recording : List Seen) (o y : Seen) (t n : ℕ) → IsOverForCertain bounds monitor recording o t
    → ((u : ℕ) → u < y.moment → IsOverForCertain bounds monitor recording o u → t ≤ u) → 0 < n → t + n ≡ y.moment
    → IsGreatest (λ m. IsLate bounds monitor m recording o y) n
