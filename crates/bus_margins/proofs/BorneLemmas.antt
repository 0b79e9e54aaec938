-- What the text says that a table bears is what it bears.
use Rattle.std.specs.Prelude.{◌↔◌, IsNone, IfSome}
use Rattle.std.proofs.Common.{◌≡◌, ℕ, ◌≤◌, Bool, true, Option, Some, None}
use Rattle.std.proofs.Common.{refl, ap}
use Rattle.bus_table.specs.Tables.{Table}
use Rattle.bus_bounds.specs.Bounds.{Bounds, AreBounds}
use Rattle.bus_margins.specs.declared.part.Borne.{Borne}
use Rattle.bus_margins.specs.declared.part.Part.{Part}
use Rattle.bus_margins.specs.declared.part.Part.TheVariants.{Delay, Jitter, Clocks}
use Rattle.bus_margins.specs.declared.level.Level.{Level}
use Rattle.bus_margins.specs.declared.level.Level.TheVariants.{Any, Common, Neither}
use Rattle.bus_margins.specs.Bearing.{keeps, most_part, part_of, with_part, greatest_part, borne_with, IsBorne}
use Rattle.bus_margins.specs.Greatest.{IsGreatest}
use Rattle.bus_margins.specs.Texts.{borne_at}
use Rattle.bus_margins.proofs.Greatest.{greatest_is, found}

-- ---- bounds
pub same_part : (bounds : Bounds) (part : Part) → with_part bounds part (part_of bounds part) ≡ bounds
same_part bounds Delay = refl
same_part bounds Jitter = refl
same_part bounds Clocks = refl

pub part_within : (bounds : Bounds) → AreBounds bounds → (part : Part) → part_of bounds part ≤ most_part part
part_within bounds within Delay = within.delay
part_within bounds within Jitter = within.jitter
part_within bounds within Clocks = within.clocks

-- ---- what is borne, computed
part_is : (keeps : Part → ℕ → Bool) (part : Part) (n : ℕ) → IsGreatest (keeps part) (most_part part) n → n ≡ greatest_part keeps part
unfolding greatest_part
part_is keeps part n g = greatest_is (keeps part) (most_part part) n g

-- what is borne has three numbers
unfoldable made : ℕ → ℕ → ℕ → Borne
made d j c = record { delay = d; jitter = j; clocks = c }

same_borne : (x y : Borne) → x.delay ≡ y.delay → x.jitter ≡ y.jitter → x.clocks ≡ y.clocks → x ≡ y
unfolding made
same_borne x y d j c = same x y d j c where
  same : (x y : Borne) → x.delay ≡ y.delay → x.jitter ≡ y.jitter → x.clocks ≡ y.clocks
      → made x.delay x.jitter x.clocks ≡ made y.delay y.jitter y.clocks
  same x y d j c = cc

pub borne_is : (keeps : Part → ℕ → Bool) (borne : Borne) → IsBorne keeps borne → borne ≡ borne_with keeps
borne_is keeps borne b =
    let d = part_is keeps Delay borne.delay b.delay in
    let j = part_is keeps Jitter borne.jitter b.jitter in
    let c = part_is keeps Clocks borne.clocks b.clocks in
    same_borne borne (borne_with keeps) d j c

-- where the present values are kept
found_part : (keeps : Part → ℕ → Bool) (part : Part) (now : ℕ) → now ≤ most_part part → keeps part now ≡ true
    → IsGreatest (keeps part) (most_part part) (greatest_part keeps part)
unfolding greatest_part
found_part keeps part now within kept = found (keeps part) (most_part part) now within kept

pub is_borne : (keeps : Part → ℕ → Bool) (bounds : Bounds) → AreBounds bounds → ((part : Part) → keeps part (part_of bounds part) ≡ true)
    → IsBorne keeps (borne_with keeps)
is_borne keeps bounds within kept = record {
  delay = found_part keeps Delay (part_of bounds Delay) (part_within bounds within Delay) (kept Delay);
  jitter = found_part keeps Jitter (part_of bounds Jitter) (part_within bounds within Jitter) (kept Jitter);
  clocks = found_part keeps Clocks (part_of bounds Clocks) (part_within bounds within Clocks) (kept Clocks);
}

-- ---- of an aperiodic table
pub told_borne : (bounds : Bounds) (table : Table) (level : Level) (result : Option Borne) → (IsNone result ↔ (level ≡ Neither))
    → IfSome result (IsBorne (keeps bounds table level)) → result ≡ borne_at bounds table level
told_borne bounds table Any None none borne = absurd (let e : Any ≡ Neither = none.0 refl in cc)
told_borne bounds table Common None none borne = absurd (let e : Common ≡ Neither = none.0 refl in cc)
told_borne bounds table Neither None none borne = refl
told_borne bounds table Any (Some b) none borne = ap Some (borne_is (keeps bounds table Any) b borne)
told_borne bounds table Common (Some b) none borne = ap Some (borne_is (keeps bounds table Common) b borne)
told_borne bounds table Neither (Some b) none borne = absurd (let e : IsNone (Some b) = none.1 refl in cc)
