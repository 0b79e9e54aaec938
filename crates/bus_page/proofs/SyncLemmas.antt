-- Each sender of an accepted periodic table is synchronized by a gap that is drawn.
use Rattle.std.specs.Prelude.{◌≡◌, ◌≢◌, ℕ, ◌+◌, ◌≤◌, Bool, true, false, cond}
use Rattle.std.proofs.Common.{inl, inr, sym, ap, ◌∙◌}
use Rattle.std.proofs.lemmas.Bool.{le-leb}
use Rattle.bus_strings.specs.Members.{In}
use Rattle.bus_strings.proofs.MemberLaws.{from_map, in_map}
use Rattle.bus_table.specs.Tables.{Table}
use Rattle.bus_regime.specs.Gaps.{Gap, gaps, has_width}
use Rattle.bus_regime.specs.Verdicts.{is_accepted, verdict_in}
use Rattle.bus_regime.proofs.VerdictLaws.{accepted_fine}
use Rattle.bus_page.specs.Laws.{EachIsSynchronized}
use Rattle.bus_page.specs.Slots.{All, Nobody, Others, Slot, Synced, slot_of, slots_of, synced_by}

-- a gap with room for both synchronizes all
synced_all : (sg : ℕ) (gap : Gap) → gap.from + (sg + gap.sender.tg) ≤ gap.to → synced_by sg gap ≡ All
synced_all sg gap room = ap (λ b. cond b All (cond (has_width sg gap) Others Nobody)) (le-leb _ _ room)

-- one with room for a synchronization gap doesn't synchronize nobody
synced_some : (sg : ℕ) (gap : Gap) → gap.from + sg ≤ gap.to → synced_by sg gap ≢ Nobody
synced_some sg gap room e =
    let wide : has_width sg gap ≡ true = le-leb _ _ room in
    (elim (has_width (sg + gap.sender.tg) gap) as (λ b. cond b All (cond (has_width sg gap) Others Nobody) ≡ Nobody → ⊥) [
      | true ↦ λ k. cc
      | false ↦ λ k. let other : Others ≡ Nobody = sym (ap (λ b. cond b Others Nobody) wide) ∙ k in cc
    ]) e

pub each_is_synchronized : EachIsSynchronized
each_is_synchronized table least most periodic accepted own within =
    let found = from_map (slot_of table) (gaps table) own within in
    let gap : Gap = found.0 in
    let is : slot_of table gap ≡ own = found.2 in
    let verdict = ap is_accepted (sym (ap (λ m. verdict_in m table) periodic) ∙ accepted.1) in
    let fine = accepted_fine table.sg table.ti (gaps table) verdict gap found.1 in
    elim fine.sync [
      | inl room ↦ inl (ap (λ (s : Slot). s.synced) (sym is) ∙ synced_all table.sg gap room)
      | inr s ↦ inr (record {
        other = slot_of table s.other;
        among = in_map (slot_of table) (gaps table) s.other s.among;
        apart = λ e. s.apart (e ∙ ap (λ (t : Slot). t.number) (sym is));
        serves = synced_some table.sg s.other s.wide;
      })
    ]
