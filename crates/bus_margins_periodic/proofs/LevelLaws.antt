-- Each level is exactly its room, and so its theorem.
use Rattle.std.proofs.Common.{◌≡◌, ℕ, ◌+◌, true, false, cond, inl, inr, sym, refl, ap, ◌∙◌}
use Rattle.std.proofs.lemmas.Bool.{cases_Bool, true≢false}
use Rattle.bus_clocks.specs.Buses.{Bus}
use Rattle.bus_drift.specs.Leading.{least_offset}
use Rattle.bus_drift.proofs.Leading.{one_leads}
use Rattle.bus_drift.proofs.Pace.{turns_go_on, pace_is_kept}
use Rattle.bus_margins_periodic.specs.declared.level.Level.{Level}
use Rattle.bus_margins_periodic.specs.declared.level.Level.TheVariants.{Turns, Leads, Neither}
use Rattle.bus_margins.specs.Buses.{bus_of}
use Rattle.bus_margins_periodic.specs.Buses.{soon_of, late_of}
use Rattle.bus_margins_periodic.specs.Laws.{HasTurns, HasLead, AreApart, TurnsIsRoom, LeadsIsRoom, TurnsKeepTurns, LeadsFollowOne}
use Rattle.bus_margins_periodic.specs.Margins.{rooms_by, all_hold, lead_holds, level_by, least_apart, most_apart}
use Rattle.bus_margins_periodic.proofs.Apart.{turns_apart, lead_apart}
use Rattle.bus_margins_periodic.proofs.LeadLemmas.{lead_of, is_lead}
use Rattle.bus_margins_periodic.proofs.RoomLemmas.{turns_of, are_turns}
use Rattle.bus_margins_periodic.proofs.TableLemmas.{sound, opens}

-- which level it is
leads≢turns : Leads ≡ Turns → ⊥
leads≢turns h = cc

neither≢turns : Neither ≡ Turns → ⊥
neither≢turns h = cc

neither≢leads : Neither ≡ Leads → ⊥
neither≢leads h = cc

turns≢leads : Turns ≡ Leads → ⊥
turns≢leads h = cc

module _ (bus : Bus) (soon late : ℕ → ℕ) where
  abbrev rest : Level
  rest = cond (lead_holds bus soon late) Leads Neither

  rest_is : rest ≡ Turns → ⊥
  rest_is h = elim (cases_Bool (lead_holds bus soon late)) [
    | inl yes' ↦ leads≢turns (sym (ap (λ t. cond t Leads Neither) yes') ∙ h)
    | inr no' ↦ neither≢turns (sym (ap (λ t. cond t Leads Neither) no') ∙ h)
  ]

  level_turns : level_by bus soon late ≡ Turns → all_hold (rooms_by bus soon late) ≡ true
  level_turns h = elim (cases_Bool (all_hold (rooms_by bus soon late))) [
    | inl yes' ↦ yes'
    | inr no' ↦ absurd (rest_is (sym (ap (λ t. cond t Turns rest) no') ∙ h))
  ]

  turns_level : all_hold (rooms_by bus soon late) ≡ true → level_by bus soon late ≡ Turns
  turns_level h = ap (λ t. cond t Turns rest) h

  level_leads : level_by bus soon late ≡ Leads → (all_hold (rooms_by bus soon late) ≡ false) × (lead_holds bus soon late ≡ true)
  level_leads h = elim (cases_Bool (all_hold (rooms_by bus soon late))) [
    | inl yes' ↦ absurd (turns≢leads (sym (ap (λ t. cond t Turns rest) yes') ∙ h))
    | inr no' ↦
        let is : rest ≡ Leads = sym (ap (λ t. cond t Turns rest) no') ∙ h in
        elim (cases_Bool (lead_holds bus soon late)) [
          | inl holds' ↦ (no', holds')
          | inr none ↦ absurd (neither≢leads (sym (ap (λ t. cond t Leads Neither) none) ∙ is))
        ]
  ]

  leads_level : all_hold (rooms_by bus soon late) ≡ false → lead_holds bus soon late ≡ true → level_by bus soon late ≡ Leads
  leads_level none h = ap (λ t. cond t Turns rest) none ∙ ap (λ t. cond t Leads Neither) h

pub turns_is_room : TurnsIsRoom
turns_is_room bounds table asked =
    let bus : Bus = bus_of bounds table in
    let soon : ℕ → ℕ = soon_of bounds table in
    let late : ℕ → ℕ = late_of bounds table in (
      (λ h. turns_of (bus_of bounds table) (soon_of bounds table) (late_of bounds table) (sound bounds table asked.range asked.valid)
          (opens bounds table asked.range asked.valid) (level_turns (bus_of bounds table) (soon_of bounds table) (late_of bounds table) h)),
      (λ room. turns_level (bus_of bounds table) (soon_of bounds table) (late_of bounds table)
          (are_turns (bus_of bounds table) (soon_of bounds table) (late_of bounds table) room)),
    )

pub leads_is_room : LeadsIsRoom
leads_is_room bounds table asked = (
  (λ h.
      let p = level_leads (bus_of bounds table) (soon_of bounds table) (late_of bounds table) h in (
        lead_of (bus_of bounds table) (soon_of bounds table) (late_of bounds table) (sound bounds table asked.range asked.valid)
            (opens bounds table asked.range asked.valid) p.1,
        (λ room. true≢false (sym (are_turns (bus_of bounds table) (soon_of bounds table) (late_of bounds table) room) ∙ p.0)),
      )),
  (λ h. elim (cases_Bool (all_hold (rooms_by (bus_of bounds table) (soon_of bounds table) (late_of bounds table)))) [
    | inl yes' ↦ absurd (h.1 (turns_of (bus_of bounds table) (soon_of bounds table) (late_of bounds table) (sound bounds table asked.range asked.valid)
        (opens bounds table asked.range asked.valid) yes'))
    | inr no' ↦ leads_level (bus_of bounds table) (soon_of bounds table) (late_of bounds table) no'
        (is_lead (bus_of bounds table) (soon_of bounds table) (late_of bounds table) h.0)
  ]),
)

-- ---- theorems

pub turns_keep_turns : TurnsKeepTurns
turns_keep_turns bounds table c start level run =
    let bus : Bus = bus_of bounds table in
    let room : HasTurns bounds table = (turns_is_room bounds table run.asked).0 level in
    let turns = turns_go_on (bus_of bounds table) c start (soon_of bounds table) (late_of bounds table) room run.course run.even run.begins in
    let pace = pace_is_kept (bus_of bounds table) c start (soon_of bounds table) (late_of bounds table) room run.course run.even run.begins in
    let apart : AreApart (bus_of bounds table) c (least_apart (bus_of bounds table) (soon_of bounds table) (late_of bounds table) Turns)
    (most_apart (bus_of bounds table) (soon_of bounds table) (late_of bounds table) Turns) =
    turns_apart (bus_of bounds table) c (λ k. start + soon_of bounds table k) (λ k. start + late_of bounds table k) room.hearing.some (λ k. refl) turns pace in
    record { turns = turns; pace = pace; apart = rw level apart }

pub leads_follow_one : LeadsFollowOne
leads_follow_one bounds table c start level run =
    let h = (leads_is_room bounds table run.asked).0 level in
    let room : HasLead bounds table = h.0 in
    let follow = one_leads (bus_of bounds table) c start (soon_of bounds table) (late_of bounds table)
    (least_offset (bus_of bounds table) (soon_of bounds table) (late_of bounds table)) room run.course run.even run.begins in
    let apart : AreApart (bus_of bounds table) c (least_apart (bus_of bounds table) (soon_of bounds table) (late_of bounds table) Leads)
    (most_apart (bus_of bounds table) (soon_of bounds table) (late_of bounds table) Leads) =
    lead_apart (bus_of bounds table) c (soon_of bounds table) (late_of bounds table) room.hearing.some (λ k. start + soon_of bounds table k)
    (λ k. start + late_of bounds table k) follow in
    record { follow = follow; apart = rw level apart }
