-- Other offsets change neither the planned order nor the least interval.
use Rattle.std.specs.Prelude.{◌≡◌, ℕ, ◌+◌, ◌-◌, ◌*◌, ◌<◌, ◌≤◌, Bool, true, false, nat_lt, nat_le, List, [], ◌∷◌, length, map}
use Rattle.std.specs.List.{sum_by}
use Rattle.std.proofs.Common.{arith, sym, refl, ap, ◌∙◌, cond}
use Rattle.std.proofs.lemmas.Bool.{false_from_ne_true}
use Rattle.std.proofs.lemmas.List.Sums.{sum_by-cons}
use Rattle.bus_table.specs.Tables.{Sender, Table}
use Rattle.bus_regime.specs.Verdicts.{is_accepted}
use Rattle.bus_regime.specs.Verdicts.{verdict_of}
use Rattle.bus_plan.specs.Plans.{turn_time, lead, greatest_first, second_greatest, planned_order, sync_time, least_interval}
use Rattle.bus_table.specs.Offsets.{at_offset, at_offsets, with_offsets}
use Rattle.bus_table.specs.declared.mode.Mode.TheVariants.{Periodic}
use Rattle.bus_table.proofs.OffsetLaws.{strip_offsets}
use Rattle.bus_plan.proofs.Lower.{accepted_least}

-- ---- senders changed in something else than their terminal gaps
module _ (h : Sender → Sender) (keeps : (s : Sender) → (h s).tg ≡ s.tg) where
  lead_map : (a : Sender) (others led : List Sender) → lead (h a) (map h others) (map h led) ≡ map h (lead a others led)
  lead_map a others [] = refl
  lead_map a others (b ∷ rest) = ap (λ (n : ℕ). cond (nat_lt n (h a).tg) (h a ∷ map h others) (h b ∷ h a ∷ map h rest)) (keeps b)
      ∙ ap (λ (n : ℕ). cond (nat_lt b.tg n) (h a ∷ map h others) (h b ∷ h a ∷ map h rest)) (keeps a)
      ∙ chosen (nat_lt b.tg a.tg)
    where
      chosen : (w : Bool) → cond w (h a ∷ map h others) (h b ∷ h a ∷ map h rest) ≡ map h (cond w (a ∷ others) (b ∷ a ∷ rest))
      chosen true = refl
      chosen false = refl

  greatest_map : (senders : List Sender) → greatest_first (map h senders) ≡ map h (greatest_first senders)
  greatest_map [] = refl
  greatest_map (a ∷ others) = ap (lead (h a) (map h others)) (greatest_map others) ∙ lead_map a others (greatest_first others)

  second_map : (led : List Sender) → second_greatest (map h led) ≡ map h (second_greatest led)
  second_map [] = refl
  second_map (a ∷ others) = ap (λ l. h a ∷ l) (greatest_map others)

  pub planned_map : (senders : List Sender) → planned_order (map h senders) ≡ map h (planned_order senders)
  planned_map senders = ap second_greatest (greatest_map senders) ∙ second_map (greatest_first senders)

  pub sync_map : (sg : ℕ) (order : List Sender) → sync_time sg (map h order) ≡ sync_time sg order
  sync_map sg [] = refl
  sync_map sg (a ∷ []) = refl
  sync_map sg (a ∷ b ∷ others) = ap (λ (n : ℕ). cond (nat_le (n + (h b).tg) sg) sg (2 * sg - (n + (h b).tg))) (keeps a)
      ∙ ap (λ (n : ℕ). cond (nat_le (a.tg + n) sg) sg (2 * sg - (a.tg + n))) (keeps b)

-- ---- senders at other offsets

sync_strip : (sg : ℕ) (senders : List Sender)
    → sync_time sg (planned_order (map (at_offset 0) senders)) ≡ sync_time sg (planned_order senders)
sync_strip sg senders =
    ap (sync_time sg) (planned_map (at_offset 0) (λ s. refl) senders) ∙ sync_map (at_offset 0) (λ s. refl) sg (planned_order senders)

sync_offsets : (sg : ℕ) (offsets : List ℕ) (senders : List Sender)
    → sync_time sg (planned_order (at_offsets offsets senders)) ≡ sync_time sg (planned_order senders)
sync_offsets sg offsets senders =
    sym (sync_strip sg (at_offsets offsets senders)) ∙ ap (λ l. sync_time sg (planned_order l)) (strip_offsets offsets senders)
    ∙ sync_strip sg senders

sum_offsets : (offsets : List ℕ) (senders : List Sender) → sum_by turn_time (at_offsets offsets senders) ≡ sum_by turn_time senders
sum_offsets [] senders = refl
sum_offsets (at ∷ offsets) [] = refl
sum_offsets (at ∷ offsets) (s ∷ senders) =
    let one = sum_by-cons turn_time (at_offset at s) (at_offsets offsets senders) in
    let two = sum_by-cons turn_time s senders in
    let rest = sum_offsets offsets senders in
    omega (arith, one, two, rest)

pub length-at_offsets : (offsets : List ℕ) (senders : List Sender) → length (at_offsets offsets senders) ≡ length senders
length-at_offsets [] senders = refl
length-at_offsets (at ∷ offsets) [] = refl
length-at_offsets (at ∷ offsets) (s ∷ senders) = let rest = length-at_offsets offsets senders in omega (arith, rest)

pub least_offsets : (offsets : List ℕ) (table : Table) → least_interval (with_offsets offsets table) ≡ least_interval table
least_offsets offsets table =
    let sums = sum_offsets offsets table.senders in
    let syncs = sync_offsets table.sg offsets table.senders in
    omega (arith, sums, syncs)

-- below the least interval no choice of offsets is accepted
pub short_refused : (table : Table) (offsets : List ℕ) → table.mode ≡ Periodic → 0 < length table.senders
    → table.ti < least_interval table → is_accepted (verdict_of (with_offsets offsets table)) ≡ false
short_refused table offsets mode some short = false_from_ne_true (is_accepted (verdict_of (with_offsets offsets table))) (λ h.
    let long = length-at_offsets offsets table.senders in
    let least = accepted_least (with_offsets offsets table) mode (omega (arith, some, long)) h in
    let same = least_offsets offsets table in
    omega (arith, short, least, same))

-- an accepted choice of offsets has the least interval
pub accepted_long : (table : Table) (offsets : List ℕ) → table.mode ≡ Periodic → 0 < length table.senders
    → is_accepted (verdict_of (with_offsets offsets table)) ≡ true → least_interval table ≤ table.ti
accepted_long table offsets mode some h =
    let long = length-at_offsets offsets table.senders in
    let least = accepted_least (with_offsets offsets table) mode (omega (arith, some, long)) h in
    let same = least_offsets offsets table in
    omega (arith, least, same)
