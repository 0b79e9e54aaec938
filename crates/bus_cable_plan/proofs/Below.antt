-- In no interval below the least one that is told do any offsets bear a delay.
use Rattle.std.specs.Prelude.{◌≡◌, ℕ, ◌+◌, ◌-◌, ◌<◌, ◌≤◌, Bool, true, false, ◌&&◌, ◌||◌, ◌==◌, nat_le, nat_lt, List, [], ◌∷◌, length, map}
use Rattle.std.specs.List.{list_all}
use Rattle.std.proofs.Common.{arith, refl, ap, ◌∙◌, cond}
use Rattle.std.proofs.lemmas.Bool.{and_parts}
use Rattle.std.proofs.lemmas.List.{length-map}
use Rattle.bus_table.specs.declared.mode.Mode.TheVariants.{Periodic}
use Rattle.bus_table.specs.Tables.{Sender, Table}
use Rattle.bus_table.specs.Offsets.{at_offset, at_offsets, with_offsets}
use Rattle.bus_table.specs.Ranges.{most_tg}
use Rattle.bus_regime.specs.Verdicts.{verdict_of, is_accepted}
use Rattle.bus_plan.proofs.Moved.{length-at_offsets}
use Rattle.bus_reach.specs.Bearing.{bears}
use Rattle.bus_cable_plan.specs.Plans.{turn_time, turns_for, least_in_order, least_interval_for, by_gap, with_interval}
use Rattle.bus_cable_plan.specs.Known.{none_reach, all_reach, is_known}
use Rattle.bus_cable_plan.specs.Answers.{bears_as_given, known_least}
use Rattle.bus_cable_plan.specs.Meaning.{NoneBear}
use Rattle.bus_cable_plan.proofs.AsGiven.{given_less}
use Rattle.bus_cable_plan.proofs.Bound.{borne_has_least, borne_fits_turns}
use Rattle.bus_cable_plan.proofs.ByGap.{gap_offsets, offsets_again, sum_offsets}

-- ---- what doesn't look at offsets
tgs_again : (offsets : List ℕ) (ss : List Sender)
    → map (λ (s : Sender). most_tg - s.tg) (at_offsets offsets ss) ≡ map (λ (s : Sender). most_tg - s.tg) ss
tgs_again [] ss = refl
tgs_again (at ∷ offsets) [] = refl
tgs_again (at ∷ offsets) (s ∷ ss) = ap (λ l. (most_tg - s.tg) ∷ l) (tgs_again offsets ss)

all_again : (f : Sender → Bool) → ((at : ℕ) (s : Sender) → f (at_offset at s) ≡ f s) → (offsets : List ℕ) (ss : List Sender)
    → list_all f (at_offsets offsets ss) ≡ list_all f ss
all_again f same [] ss = refl
all_again f same (at ∷ offsets) [] = refl
all_again f same (at ∷ offsets) (s ∷ ss) =
    ap (λ b. b && list_all f (at_offsets offsets ss)) (same at s) ∙ ap (λ b. f s && b) (all_again f same offsets ss)

by_gap_again : (offsets : List ℕ) (table : Table) → by_gap (with_offsets offsets table) ≡ by_gap table
by_gap_again offsets table =
    ap (λ (ss : List Sender). record { mode = table.mode; ti = table.ti; sg = table.sg; senders = ss; listeners = table.listeners })
    (ap (λ os. at_offsets os (at_offsets offsets table.senders)) (tgs_again offsets table.senders)
    ∙ offsets_again (gap_offsets table) offsets table.senders (length-map table.senders (λ (s : Sender). most_tg - s.tg)))

known_again : (d : ℕ) (offsets : List ℕ) (table : Table) → is_known d (with_offsets offsets table) ≡ is_known d table
known_again d offsets table =
    let moved : Table = with_offsets offsets table in
    ap (λ n. (n == 2) || (none_reach d moved || all_reach d moved)) (length-at_offsets offsets table.senders)
    ∙ ap (λ b. (length table.senders == 2) || (b || all_reach d moved))
    (all_again (λ s. nat_lt (s.tg + d) table.sg) (λ at s. refl) offsets table.senders)
    ∙ ap (λ b. (length table.senders == 2) || (none_reach d table || b))
    (all_again (λ s. nat_le table.sg (s.tg + d)) (λ at s. refl) offsets table.senders)

-- ---- the least interval that is told, in any other
pub none_below : (d : ℕ) (table : Table) → table.mode ≡ Periodic → 1 < length table.senders
    → (other : ℕ) → other < known_least d table → NoneBear d (with_interval other table)
none_below d table mode several other less e low offsets b =
    let there : Table = with_interval other table in
    let moved : Table = with_offsets offsets there in
    let long = length-at_offsets offsets table.senders in
    let many : 1 < length moved.senders = omega (arith, several, long) in
    let given : bears_as_given e moved ≡ true = ap (λ a. a && bears moved e) b.accepted ∙ b.borne in
    let borne = (and_parts (is_accepted (verdict_of moved)) (bears moved d) (given_less d e moved b.valid mode many low given)).1 in
    (elim (is_known d table) as (λ k. is_known d table ≡ k → other < cond k (least_interval_for d table) (turns_for d table) → ⊥) [
      | true ↦ λ known under.
          let least : least_interval_for d moved ≤ other =
          borne_has_least d moved [] b.valid mode many (known_again d offsets there ∙ known) borne in
          let same : least_interval_for d moved ≡ least_interval_for d table = ap (least_in_order d) (by_gap_again offsets there) in
          absurd (omega (arith, least, same, under))
      | false ↦ λ known under.
          let least : turns_for d moved ≤ other = borne_fits_turns d moved [] b.valid mode many borne in
          let same : turns_for d moved ≡ turns_for d table = sum_offsets (turn_time d) (λ at s. refl) offsets table.senders in
          absurd (omega (arith, least, same, under))
    ]) refl less
