-- What a periodic table bears.
use Rattle.std.specs.Prelude.{◌↔◌, IsNone, IfSome}
use Rattle.std.proofs.Common.{◌≡◌, ◌≢◌, ℕ, ◌-◌, ◌<◌, ◌≤◌, Bool, true, false, ◌||◌, ◌&&◌, cond, Option, Some, None, IsTrue, inl, inr, arith, refl, sym, ap, ◌∙◌}
use Rattle.std.proofs.lemmas.Bool.{cases_lt, cases_Bool, true≢false}
use Rattle.bus_table.specs.Tables.{Table}
use Rattle.bus_table.specs.Valid.{is_valid}
use Rattle.bus_bounds.specs.Bounds.{Bounds, AreBounds}
use Rattle.bus_drift.specs.Leading.{least_offset, round_end}
use Rattle.bus_margins.specs.declared.part.Borne.{Borne}
use Rattle.bus_margins.specs.declared.part.Part.{Part}
use Rattle.bus_margins.specs.declared.part.Part.TheVariants.{Delay, Jitter, Clocks}
use Rattle.bus_margins.specs.Bearing.{with_part, part_of, most_part, borne_with, IsBorne}
use Rattle.bus_margins.specs.Buses.{bus_of}
use Rattle.bus_margins.specs.Greatest.{IsGreatest}
use Rattle.bus_margins.proofs.BorneLemmas.{same_part, borne_is, is_borne}
use Rattle.bus_margins.proofs.Greatest.{IsAmong, TakesLess, all_left}
use Rattle.bus_margins_periodic.specs.declared.level.Level.{Level}
use Rattle.bus_margins_periodic.specs.declared.level.Level.TheVariants.{Turns, Leads, Neither}
use Rattle.bus_margins_periodic.specs.Bearing.{is_level, keeps}
use Rattle.bus_margins_periodic.specs.Buses.{soon_of, late_of}
use Rattle.bus_margins_periodic.specs.Least.{holds}
use Rattle.bus_margins_periodic.specs.Margins.{rooms_by, all_hold, lead_holds, level_of}
use Rattle.bus_margins_periodic.specs.Rooms.{hearing_room, sync_room, order_room, begin_room, clock_room, lead_order_room, pause_room, first_room}
use Rattle.bus_margins_periodic.specs.Texts.{borne_at}
use Rattle.bus_margins_periodic.specs.inside.Cases.{may_keep, may_with}
use Rattle.bus_margins_periodic.proofs.LeadLemmas.{lead_of, is_lead, clock_of, is_clock}
use Rattle.bus_margins_periodic.proofs.RoomLemmas.{turns_of, are_turns, order_of, is_order, or_left, or_right, or_cases}
use Rattle.bus_margins_periodic.proofs.TableLemmas.{sound, opens}
use Rattle.bus_margins_periodic.proofs.WiderLemmas.{Wider, narrow_order, narrow_clock, narrow_turns, narrow_lead}

-- a level by its rules
is_turns : (a b : Bool) → is_level Turns (cond a Turns (cond b Leads Neither)) ≡ a
is_turns true b = refl
is_turns false true = refl
is_turns false false = refl

is_leads : (a b : Bool) → is_level Leads (cond a Turns (cond b Leads Neither)) ≡ (a || b)
is_leads true b = refl
is_leads false true = refl
is_leads false false = refl

module _ (bounds : Bounds) (table : Table) where
  abbrev have_turns : Bool
  have_turns = all_hold (rooms_by (bus_of bounds table) (soon_of bounds table) (late_of bounds table))

  abbrev have_lead : Bool
  have_lead = lead_holds (bus_of bounds table) (soon_of bounds table) (late_of bounds table)

-- ---- narrower bounds

module _ (p q : Bounds) (table : Table) (valid : IsTrue (is_valid table)) (own : AreBounds p) (range : AreBounds q) (w : Wider p q) where
  may_less : may_keep (bus_of q table) ≡ true → may_keep (bus_of p table) ≡ true
  may_less h = elim (or_cases (holds (clock_room (bus_of q table))) (holds (order_room (bus_of q table))) h) [
    | inl clock ↦ or_left (holds (clock_room (bus_of p table))) (holds (order_room (bus_of p table)))
        (is_clock (bus_of p table) (narrow_clock p q table range w (clock_of (bus_of q table) clock)))
    | inr order ↦ or_right (holds (clock_room (bus_of p table))) (holds (order_room (bus_of p table)))
        (is_order (bus_of p table) (narrow_order p q table range w (order_of (bus_of q table) order)))
  ]

  module _ (same : p.clocks ≡ q.clocks) where
    turns_less : have_turns q table ≡ true → have_turns p table ≡ true
    turns_less h =
        are_turns (bus_of p table) (soon_of p table) (late_of p table) (narrow_turns p q table range w own valid same
        (turns_of (bus_of q table) (soon_of q table) (late_of q table) (sound q table range valid) (opens q table range valid) h))

    lead_less : have_lead q table ≡ true → have_lead p table ≡ true
    lead_less h =
        is_lead (bus_of p table) (soon_of p table) (late_of p table) (narrow_lead p q table range w own valid same
        (lead_of (bus_of q table) (soon_of q table) (late_of q table) (sound q table range valid) (opens q table range valid) h))

    level_less : (level : Level) → is_level level (level_of q table) ≡ true → is_level level (level_of p table) ≡ true
    level_less Turns h =
        is_turns (have_turns p table) (have_lead p table) ∙ turns_less (sym (is_turns (have_turns q table) (have_lead q table)) ∙ h)
    level_less Leads h =
        is_leads (have_turns p table) (have_lead p table)
        ∙ elim (or_cases (have_turns q table) (have_lead q table) (sym (is_leads (have_turns q table) (have_lead q table)) ∙ h)) [
          | inl turns ↦ or_left (have_turns p table) (have_lead p table) (turns_less turns)
          | inr lead ↦ or_right (have_turns p table) (have_lead p table) (lead_less lead)
        ]
    level_less Neither h = refl

-- ---- one of the bounds

are_with : (bounds : Bounds) (part : Part) (n : ℕ) → AreBounds bounds → n ≤ most_part part → AreBounds (with_part bounds part n)
are_with bounds Delay n are most = record { delay = most; jitter = are.jitter; clocks = are.clocks }
are_with bounds Jitter n are most = record { delay = are.delay; jitter = most; clocks = are.clocks }
are_with bounds Clocks n are most = record { delay = are.delay; jitter = are.jitter; clocks = most }

wider : (bounds : Bounds) (part : Part) (a b : ℕ) → a ≤ b → Wider (with_part bounds part a) (with_part bounds part b)
wider bounds Delay a b less = record { clocks = omega arith; delay = less; jitter = omega arith }
wider bounds Jitter a b less = record { clocks = omega arith; delay = omega arith; jitter = less }
wider bounds Clocks a b less = record { clocks = less; delay = omega arith; jitter = omega arith }

same_clocks : (bounds : Bounds) (part : Part) (a b : ℕ) → part ≢ Clocks → (with_part bounds part a).clocks ≡ (with_part bounds part b).clocks
same_clocks bounds Delay a b other = refl
same_clocks bounds Jitter a b other = refl
same_clocks bounds Clocks a b other = absurd (other refl)

module _ (bounds : Bounds) (table : Table) (valid : IsTrue (is_valid table)) (are : AreBounds bounds) where
  pub kept_less : (level : Level) (part : Part) → part ≢ Clocks → TakesLess (keeps bounds table level part) (most_part part)
  kept_less level part other a b less most h =
      level_less (with_part bounds part a) (with_part bounds part b) table valid (are_with bounds part a are (omega arith)) (are_with bounds part b are most)
      (wider bounds part a b less) (same_clocks bounds part a b other) level h

  pub may_take_less : TakesLess (may_with bounds table) (most_part Clocks)
  may_take_less a b less most h =
      may_less (with_part bounds Clocks a) (with_part bounds Clocks b) table valid (are_with bounds Clocks a are (omega arith))
      (are_with bounds Clocks b are most) (wider bounds Clocks a b less) h

-- one value is left
pub among_greatest : (test : ℕ → Bool) (limit low high : ℕ) → IsAmong test limit low high → high ≤ low → IsGreatest test limit low
among_greatest test limit low high among one = record {
  most = (let order = among.order in let most = among.most in omega (arith, order, most));
  kept = among.kept;
  greatest = λ m within h. elim (cases_lt high m) [
    | inl more ↦ absurd (true≢false (sym h ∙ among.none m more within))
    | inr less ↦ omega (arith, less, one)
  ];
}

-- ---- the present values

reaches : (level : Level) → is_level level level ≡ true
reaches Turns = refl
reaches Leads = refl
reaches Neither = refl

pub kept_now : (bounds : Bounds) (table : Table) (level : Level) (part : Part) → level_of bounds table ≡ level
    → keeps bounds table level part (part_of bounds part) ≡ true
kept_now bounds table level part e =
    ap (λ b. is_level level (level_of b table)) (same_part bounds part) ∙ ap (is_level level) e ∙ reaches level

pub all_kept : (bounds : Bounds) (table : Table) (level : Level) (part : Part) → part_of bounds part ≤ most_part part → level_of bounds table ≡ level
    → IsAmong (keeps bounds table level part) (most_part part) (part_of bounds part) (most_part part)
all_kept bounds table level part r e = all_left (keeps bounds table level part) (most_part part) (part_of bounds part) r (kept_now bounds table level part e)

-- ---- clocks

-- where a level is kept, order may be
split_and : (a b : Bool) → (a && b) ≡ true → (a ≡ true) × (b ≡ true)
split_and true b h = (refl, h)
split_and false b h = absurd (true≢false (sym h))

third : (a b c d : Bool) → (a && (b && (c && d))) ≡ true → c ≡ true
third a b c d h = (split_and c d (split_and b (c && d) (split_and a (b && (c && d)) h).1).1).0

second : (a b c : Bool) → (a && (b && c)) ≡ true → b ≡ true
second a b c h = (split_and b c (split_and a (b && c) h).1).0

turns_may : (bounds : Bounds) (table : Table) → have_turns bounds table ≡ true → may_keep (bus_of bounds table) ≡ true
turns_may bounds table h =
    or_right (holds (clock_room (bus_of bounds table))) (holds (order_room (bus_of bounds table)))
    (third (holds (hearing_room (bus_of bounds table))) (holds (sync_room (bus_of bounds table))) (holds (order_room (bus_of bounds table)))
    (holds (begin_room (bus_of bounds table) (soon_of bounds table) (late_of bounds table))) h)

lead_may : (bounds : Bounds) (table : Table) → have_lead bounds table ≡ true → may_keep (bus_of bounds table) ≡ true
lead_may bounds table h =
    or_left (holds (clock_room (bus_of bounds table))) (holds (order_room (bus_of bounds table)))
    (second (holds (hearing_room (bus_of bounds table))) (holds (clock_room (bus_of bounds table)))
    (holds (lead_order_room (bus_of bounds table))
    && (holds (pause_room (bus_of bounds table) (round_end (bus_of bounds table) (least_offset (bus_of bounds table) (soon_of bounds table) (late_of bounds table))))
    && holds (first_room (bus_of bounds table) (soon_of bounds table) (late_of bounds table)))) h)

pub level_may : (bounds : Bounds) (table : Table) (level : Level) → level ≢ Neither → is_level level (level_of bounds table) ≡ true
    → may_keep (bus_of bounds table) ≡ true
level_may bounds table Turns some h = turns_may bounds table (sym (is_turns (have_turns bounds table) (have_lead bounds table)) ∙ h)
level_may bounds table Leads some h =
    elim (or_cases (have_turns bounds table) (have_lead bounds table) (sym (is_leads (have_turns bounds table) (have_lead bounds table)) ∙ h)) [
      | inl turns ↦ turns_may bounds table turns
      | inr lead ↦ lead_may bounds table lead
    ]
level_may bounds table Neither some h = absurd (some refl)

-- so it may where there is a level
pub now_may : (bounds : Bounds) (table : Table) (level : Level) → level ≢ Neither → level_of bounds table ≡ level → may_keep (bus_of bounds table) ≡ true
now_may bounds table level some is = level_may bounds table level some (ap (is_level level) is ∙ reaches level)

-- it is kept with none of the values above n, which is no less than the present one
pub record IsBelow (bounds : Bounds) (table : Table) (level : Level) (n : ℕ) : Type 0 where
  pub now : bounds.clocks ≤ n
  pub most : n ≤ most_part Clocks
  pub none : (m : ℕ) → n < m → m ≤ most_part Clocks → keeps bounds table level Clocks m ≡ false

pub below_may : (bounds : Bounds) (table : Table) (level : Level) (n : ℕ) → level ≢ Neither → bounds.clocks ≤ most_part Clocks
    → may_keep (bus_of bounds table) ≡ true → IsGreatest (may_with bounds table) (most_part Clocks) n → IsBelow bounds table level n
below_may bounds table level n some most now is = record {
  now = is.greatest bounds.clocks most now;
  most = is.most;
  none = λ m more within. elim (cases_Bool (keeps bounds table level Clocks m)) [
    | inr no' ↦ no'
    | inl yes' ↦
        let low : m ≤ n = is.greatest m within (level_may (with_part bounds Clocks m) table level some yes') in
        absurd (omega (arith, low, more))
  ];
}

pub below_next : (bounds : Bounds) (table : Table) (level : Level) (n : ℕ) → IsBelow bounds table level n → bounds.clocks < n
    → keeps bounds table level Clocks n ≡ false → IsBelow bounds table level (n - 1)
below_next bounds table level n is more not = record {
  now = omega (arith, more);
  most = (let most = is.most in omega (arith, most));
  none = λ m above within. elim (cases_lt n m) [
    | inl greater ↦ is.none m greater within
    | inr low ↦ ap (keeps bounds table level Clocks) (let same : m ≡ n = omega (arith, above, more) in same) ∙ not
  ];
}

pub found_below : (bounds : Bounds) (table : Table) (level : Level) (n : ℕ) → IsBelow bounds table level n → keeps bounds table level Clocks n ≡ true
    → IsGreatest (keeps bounds table level Clocks) (most_part Clocks) n
found_below bounds table level n is kept = record {
  most = is.most;
  kept = kept;
  greatest = λ m within h. elim (cases_lt n m) [
    | inl more ↦ absurd (true≢false (sym h ∙ is.none m more within))
    | inr low ↦ low
  ];
}

-- ---- what is told

pub told_borne : (bounds : Bounds) (table : Table) (level : Level) (result : Option Borne) → (IsNone result ↔ (level ≡ Neither))
    → IfSome result (IsBorne (keeps bounds table level)) → result ≡ borne_at bounds table level
told_borne bounds table Turns None none borne = absurd (let e : Turns ≡ Neither = none.0 refl in cc)
told_borne bounds table Leads None none borne = absurd (let e : Leads ≡ Neither = none.0 refl in cc)
told_borne bounds table Neither None none borne = refl
told_borne bounds table Turns (Some b) none borne = ap Some (borne_is (keeps bounds table Turns) b borne)
told_borne bounds table Leads (Some b) none borne = ap Some (borne_is (keeps bounds table Leads) b borne)
told_borne bounds table Neither (Some b) none borne = absurd (let e : IsNone (Some b) = none.1 refl in cc)

pub bears_so : (bounds : Bounds) (table : Table) → AreBounds bounds
    → IsBorne (keeps bounds table (level_of bounds table)) (borne_with (keeps bounds table (level_of bounds table)))
bears_so bounds table are = is_borne (keeps bounds table (level_of bounds table)) bounds are (λ part. kept_now bounds table (level_of bounds table) part refl)
