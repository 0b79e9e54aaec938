-- A plan doesn't look at the offsets that the table had.
use Rattle.std.specs.Prelude.{◌≡◌, ℕ, ◌+◌, List, [], ◌∷◌, map}
use Rattle.std.proofs.Common.{sym, refl, ap, ◌∙◌}
use Rattle.bus_table.specs.Tables.{Sender, Table}
use Rattle.bus_table.specs.Lengths.{longest}
use Rattle.bus_table.specs.Offsets.{at_offset, at_offsets, with_offsets}
use Rattle.bus_table.proofs.OffsetLaws.{strip_offsets}
use Rattle.bus_plan.specs.Plans.{planned_order, behind, second_gap, planned, offset_in, planned_table}
use Rattle.bus_plan.proofs.Moved.{planned_map}

behind_strip : (end : ℕ) (order : List Sender) → behind end (map (at_offset 0) order) ≡ behind end order
behind_strip end [] = refl
behind_strip end (s ∷ order) = ap (λ l. at_offset (end + s.tg) s ∷ l) (behind_strip (end + s.tg + longest s) order)

planned_strip : (sg : ℕ) (order : List Sender) → planned sg (map (at_offset 0) order) ≡ planned sg order
planned_strip sg [] = refl
planned_strip sg (a ∷ []) = refl
planned_strip sg (a ∷ b ∷ others) =
    ap (λ l. at_offset 0 a ∷ at_offset (longest a + second_gap sg a b) b ∷ l)
    (behind_strip (longest a + second_gap sg a b + longest b) others)

-- the senders at their planned offsets
abbrev plan_for : ℕ → List Sender → List Sender
plan_for sg senders = planned sg (planned_order senders)

plan_strip : (sg : ℕ) (senders : List Sender) → plan_for sg (map (at_offset 0) senders) ≡ plan_for sg senders
plan_strip sg senders = ap (planned sg) (planned_map (at_offset 0) (λ s. refl) senders) ∙ planned_strip sg (planned_order senders)

plan_anew : (sg : ℕ) (offsets : List ℕ) (senders : List Sender) → plan_for sg (at_offsets offsets senders) ≡ plan_for sg senders
plan_anew sg offsets senders =
    sym (plan_strip sg (at_offsets offsets senders)) ∙ ap (plan_for sg) (strip_offsets offsets senders) ∙ plan_strip sg senders

abbrev placed_by : List Sender → List Sender → List ℕ
placed_by plan senders = map (λ s. offset_in plan s.number) senders

over_others : (plan : List Sender) (offsets : List ℕ) (senders : List Sender)
    → at_offsets (placed_by plan (at_offsets offsets senders)) (at_offsets offsets senders) ≡ at_offsets (placed_by plan senders) senders
over_others plan [] senders = refl
over_others plan (at ∷ offsets) [] = refl
over_others plan (at ∷ offsets) (s ∷ senders) = ap (λ l. at_offset (offset_in plan s.number) s ∷ l) (over_others plan offsets senders)

pub planned_anew : (table : Table) (offsets : List ℕ) → planned_table (with_offsets offsets table) ≡ planned_table table
planned_anew table offsets =
    let moved : List Sender = at_offsets offsets table.senders in
    let same = plan_anew table.sg offsets table.senders in
    ap (λ plan. with_offsets (placed_by plan moved) (with_offsets offsets table)) same
    ∙ ap (λ (l : List Sender). let t : Table =
    record { mode = table.mode; ti = table.ti; sg = table.sg; senders = l; listeners = table.listeners } in t)
    (over_others (plan_for table.sg table.senders) offsets table.senders)
