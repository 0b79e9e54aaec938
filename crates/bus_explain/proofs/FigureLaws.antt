-- The spare, and how a share is rounded.
use Rattle.std.specs.Prelude.{◌≡◌, ℕ, ◌+◌, ◌-◌, ◌≤◌, ◌↔◌, Bool, true, false, cond, nat_lt, IsTrue, List, [], ◌∷◌, map}
use Rattle.std.proofs.Common.{arith, refl, sym, ap, ◌∙◌, subst, inl, inr}
use Rattle.std.proofs.lemmas.Bool.{cases_lt}
use Rattle.std.proofs.lemmas.Bool.Decides.{nat_tests}
use Rattle.bus_table.specs.declared.mode.Mode.{Mode}
use Rattle.bus_table.specs.declared.mode.Mode.TheVariants.{Aperiodic}
use Rattle.bus_table.specs.Tables.{Sender, Table}
use Rattle.bus_table.specs.Offsets.{at_offsets, with_offsets}
use Rattle.bus_regime.specs.declared.table_verdict.TableVerdict.TheVariants.{Accept, ShortCycle}
use Rattle.bus_regime.specs.Verdicts.{verdict_in, verdict_of, is_accepted, least_cycle, most_cycle}
use Rattle.bus_plan.specs.Laws.{FeasibleExactly, ShortIsRefused}
use Rattle.bus_plan.specs.Plans.{least_interval}
use Rattle.bus_advice.specs.Changes.{with_interval}
use Rattle.bus_explain.specs.Figures.{spare, spare_in}
use Rattle.bus_explain.proofs.FallLemmas.{feasible_at}
use Rattle.bus_explain.specs.Laws.{SpareIsRise, SpareIsFall}

-- ---- up
by_test : (test : Bool) (mode : Mode) (short ti long least most : ℕ) → cond test (ShortCycle short ti) (Accept Aperiodic short long) ≡ Accept mode least most
    → (test ≡ false) × (short ≡ least)
by_test true mode short ti long least most h = absurd cc
by_test false mode short ti long least most h = (refl, cc)

rise : (mode : Mode) (short ti least long most n : ℕ) → cond (nat_lt short ti) (ShortCycle short ti) (Accept Aperiodic short long) ≡ Accept mode least most
    → (n ≤ ti + (least - ti)) ↔ IsTrue (is_accepted (cond (nat_lt short n) (ShortCycle short n) (Accept Aperiodic short long)))
rise mode short ti least long most n h =
    let own = by_test (nat_lt short ti) mode short ti long least most h in
    let enough : ti ≤ short = grind (arith, nat_tests, own.0) in
    let same : short ≡ least = own.1 in
    elim (cases_lt short n) [
      | inl less ↦
          let test : nat_lt short n ≡ true = grind (arith, nat_tests) in
          let no' : is_accepted (cond (nat_lt short n) (ShortCycle short n) (Accept Aperiodic short long)) ≡ false =
          ap (λ b. is_accepted (cond b (ShortCycle short n) (Accept Aperiodic short long))) test in
          ((λ within. absurd (omega (arith, within, less, enough, same))), (λ yes'. absurd (let e = sym no' ∙ yes' in cc)))
      | inr more ↦
          let test : nat_lt short n ≡ false = grind (arith, nat_tests) in
          ((λ within. ap (λ b. is_accepted (cond b (ShortCycle short n) (Accept Aperiodic short long))) test), (λ yes'. omega (arith, more, enough, same)))
    ]

in_mode : (mode : Mode) (table : Table) → table.mode ≡ mode → verdict_of table ≡ verdict_in mode table
in_mode mode table h = ap (λ m. verdict_in m table) h

pub spare_is_rise : SpareIsRise
spare_is_rise table least most aperiodic h n =
    let own = sym (in_mode Aperiodic table aperiodic) ∙ h.1 in
    let law = rise h.0 (least_cycle table) table.ti least (most_cycle table) most n own in
    let there = ap (λ m. spare_in m table least) aperiodic in
    let changed = in_mode Aperiodic (with_interval n table) aperiodic in (
      (λ within. subst (λ v. IsTrue (is_accepted v)) (sym changed) (law.0 (omega (arith, within, there)))),
      (λ yes'. let up = law.1 (subst (λ v. IsTrue (is_accepted v)) changed yes') in omega (arith, up, there)),
    )

-- ---- down
-- a table with its own offsets is itself
own_offsets : (senders : List Sender) → at_offsets (map (λ sender. sender.at) senders) senders ≡ senders
own_offsets [] = refl
own_offsets (sender ∷ senders) = ap (λ rest. sender ∷ rest) (own_offsets senders)

itself : (table : Table) → with_offsets (map (λ sender. sender.at) table.senders) table ≡ table
itself table = ap (λ senders. record { mode = table.mode; ti = table.ti; sg = table.sg; senders = senders; listeners = table.listeners }) (own_offsets table.senders)

pub spare_is_fall : FeasibleExactly → ShortIsRefused → SpareIsFall
spare_is_fall feasible short table least most valid periodic h n range =
    let accepted : IsTrue (is_accepted (verdict_of table)) = ap is_accepted h.1 in
    let enough : least_interval table ≤ table.ti = elim (cases_lt table.ti (least_interval table)) [
      | inl less ↦ absurd (
          let no' = short table (map (λ sender. sender.at) table.senders) valid periodic less in
          let again = ap (λ t. is_accepted (verdict_of t)) (itself table) in
          let both = sym accepted ∙ sym again ∙ no' in cc)
      | inr more ↦ more
    ] in
    let there : spare table least ≡ table.ti - least_interval table = ap (λ m. spare_in m table least) periodic in
    let law = feasible_at feasible table n valid periodic range in
    ((λ within. law.0 (omega (arith, within, there, enough))), (λ some. let down = law.1 some in omega (arith, down, there, enough)))
