-- What is kept with one value of the delay, or of the jitter, is kept with each smaller one.
use Rattle.std.proofs.Common.{arith, ◌≡◌, ◌≢◌, ℕ, ◌<◌, ◌≤◌, Bool, true, false, cond, ◌&&◌}
use Rattle.std.proofs.Common.{refl, sym, ◌∙◌, ap}
use Rattle.std.proofs.lemmas.Bool.{and_parts, and_from, true≢false}
use Rattle.bus_table.specs.Tables.{Table}
use Rattle.bus_table.specs.Turns.{turn_order}
use Rattle.bus_table.specs.inside.Facts.{TableFacts}
use Rattle.bus_bounds.specs.Bounds.{Bounds}
use Rattle.bus_margins.specs.declared.part.Part.{Part}
use Rattle.bus_margins.specs.declared.part.Part.TheVariants.{Delay, Jitter, Clocks}
use Rattle.bus_margins.specs.declared.level.Level.{Level}
use Rattle.bus_margins.specs.declared.level.Level.TheVariants.{Any, Common, Neither}
use Rattle.bus_margins.specs.Least.{holds}
use Rattle.bus_margins.specs.Rooms.{level_of, rooms_of, lasts, order_holds}
use Rattle.bus_margins.specs.Bearing.{is_level, with_part, part_of, most_part, keeps}
use Rattle.bus_margins.proofs.BorneLemmas.{same_part}
use Rattle.bus_margins.proofs.Greatest.{IsAmong, all_left}
use Rattle.bus_margins.proofs.Ordering.{ordered}
use Rattle.bus_margins.proofs.WiderLemmas.{Wider, keeps_rules, keeps_interval, keeps_cycle, interval_cycle}

-- the greatest of the values below n with which it is kept
pub record IsSoFar (bounds : Bounds) (table : Table) (level : Level) (n greatest : ℕ) : Type 0 where
  pub most : greatest ≤ most_part Clocks
  pub kept : keeps bounds table level Clocks greatest ≡ true
  pub greater : (m : ℕ) → m < n → keeps bounds table level Clocks m ≡ true → m ≤ greatest

-- a level by its rules: those of both, intervals and cycles
pub is_any : (x i c : Bool) → is_level Any (cond x (cond i Any (cond c Common Neither)) Neither) ≡ (x && i)
is_any true true c = refl
is_any true false true = refl
is_any true false false = refl
is_any false i c = refl

pub is_common : (x i c : Bool) → (i ≡ true → c ≡ true) → is_level Common (cond x (cond i Any (cond c Common Neither)) Neither) ≡ (x && c)
is_common true true true h = refl
is_common true true false h = absurd (true≢false (sym (h refl)))
is_common true false true h = refl
is_common true false false h = refl
is_common false i c h = refl

module _ (table : Table) (facts : TableFacts table) where
  any_is : (bounds : Bounds) → is_level Any (level_of bounds table) ≡ ((lasts bounds table && order_holds (rooms_of bounds table)) && holds (rooms_of bounds table).interval)
  any_is bounds = is_any (lasts bounds table && order_holds (rooms_of bounds table)) (holds (rooms_of bounds table).interval) (holds (rooms_of bounds table).cycle)

  common_is : (bounds : Bounds) → is_level Common (level_of bounds table) ≡ ((lasts bounds table && order_holds (rooms_of bounds table)) && holds (rooms_of bounds table).cycle)
  common_is bounds =
      is_common (lasts bounds table && order_holds (rooms_of bounds table)) (holds (rooms_of bounds table).interval) (holds (rooms_of bounds table).cycle)
      (interval_cycle bounds table (turn_order table) (ordered table facts))

  narrow : (level : Level) (p q : Bounds) → Wider p q → is_level level (level_of q table) ≡ true → is_level level (level_of p table) ≡ true
  narrow Any p q w h =
      let k = and_parts _ _ (sym (any_is q) ∙ h) in
      any_is p ∙ and_from _ _ (keeps_rules p q table (turn_order table) (ordered table facts) w k.0) (keeps_interval p q table (turn_order table) w k.1)
  narrow Common p q w h =
      let k = and_parts _ _ (sym (common_is q) ∙ h) in
      common_is p
      ∙ and_from _ _ (keeps_rules p q table (turn_order table) (ordered table facts) w k.0)
      (keeps_cycle p q table (turn_order table) (ordered table facts) w (and_parts _ _ k.0).0 k.1)
  narrow Neither p q w h = refl

  pub kept_narrow : (bounds : Bounds) (level : Level) (part : Part) (a b : ℕ) → part ≢ Clocks → a ≤ b
      → keeps bounds table level part b ≡ true → keeps bounds table level part a ≡ true
  kept_narrow bounds level Clocks a b other l h = absurd (other refl)
  kept_narrow bounds level Delay a b other l h =
      narrow level (with_part bounds Delay a) (with_part bounds Delay b) (record { clocks = refl; delay = l; jitter = omega arith }) h
  kept_narrow bounds level Jitter a b other l h =
      narrow level (with_part bounds Jitter a) (with_part bounds Jitter b) (record { clocks = refl; delay = omega arith; jitter = l }) h

reaches : (level : Level) → is_level level level ≡ true
reaches Any = refl
reaches Common = refl
reaches Neither = refl

-- the present value keeps it
pub kept_now : (bounds : Bounds) (table : Table) (level : Level) (part : Part) → level_of bounds table ≡ level
    → keeps bounds table level part (part_of bounds part) ≡ true
kept_now bounds table level part e =
    ap (λ b. is_level level (level_of b table)) (same_part bounds part) ∙ ap (is_level level) e ∙ reaches level

-- all values are left
pub all_kept : (bounds : Bounds) (table : Table) (level : Level) (part : Part) → part_of bounds part ≤ most_part part → level_of bounds table ≡ level
    → IsAmong (keeps bounds table level part) (most_part part) (part_of bounds part) (most_part part)
all_kept bounds table level part r e = all_left (keeps bounds table level part) (most_part part) (part_of bounds part) r (kept_now bounds table level part e)
