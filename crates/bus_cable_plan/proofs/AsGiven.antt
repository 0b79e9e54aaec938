-- What a table bears at the offsets that it has.
use Rattle.std.specs.Prelude.{◌≡◌, ℕ, ◌<◌, ◌≤◌, ◌&&◌, true, IsTrue, List, [], ◌∷◌, length, map}
use Rattle.std.proofs.Common.{inl, inr, arith, sym, refl, ap, ◌∙◌, subst}
use Rattle.std.proofs.lemmas.Bool.{and_parts}
use Rattle.std.proofs.lemmas.List.{length-map}
use Rattle.bus_strings.specs.Members.{In}
use Rattle.bus_table.specs.declared.mode.Mode.{Mode}
use Rattle.bus_table.specs.declared.mode.Mode.TheVariants.{Periodic}
use Rattle.bus_table.specs.Tables.{Sender, Table}
use Rattle.bus_table.specs.Offsets.{at_offsets, with_offsets}
use Rattle.bus_table.specs.Valid.{is_valid}
use Rattle.bus_table.specs.inside.Facts.{FitsMode, SenderFacts}
use Rattle.bus_table.proofs.TurnLaws.{of_each}
use Rattle.bus_table.proofs.ValidLaws.{valid_facts}
use Rattle.bus_regime.specs.Verdicts.{verdict_of, is_accepted}
use Rattle.bus_reach.specs.Bearing.{bears}
use Rattle.bus_cable_plan.specs.Plans.{turns_for, given_offsets}
use Rattle.bus_cable_plan.specs.Answers.{bears_as_given}
use Rattle.bus_cable_plan.specs.Laws.{AreBorne}
use Rattle.bus_cable_plan.proofs.Bound.{borne_fits_turns}
use Rattle.bus_cable_plan.proofs.Outcome.{less_borne}

-- ---- the table with its own offsets is itself
itself_each : (ss : List Sender) → at_offsets (map (λ (s : Sender). s.at) ss) ss ≡ ss
itself_each [] = refl
itself_each (s ∷ ss) = ap (λ l. s ∷ l) (itself_each ss)

pub itself : (table : Table) → with_offsets (given_offsets table) table ≡ table
itself table =
    ap (λ (ss : List Sender). record { mode = table.mode; ti = table.ti; sg = table.sg; senders = ss; listeners = table.listeners })
    (itself_each table.senders)

-- ---- and these are offsets for it
of_sender : (ss : List Sender) (at : ℕ) → In at (map (λ (s : Sender). s.at) ss) → (s : Sender) × In s ss × (at ≡ s.at)
of_sender [] at i = absurd i
of_sender (s ∷ ss) at (inl e) = (s, inl refl, e)
of_sender (s ∷ ss) at (inr i) = let w = of_sender ss at i in (w.0, inr w.1, w.2)

pub given_below : (table : Table) → IsTrue (is_valid table) → table.mode ≡ Periodic → (at : ℕ) → In at (given_offsets table) → at < table.ti
given_below table valid mode at i =
    let w = of_sender table.senders at i in
    let one = of_each (SenderFacts table) table.senders (valid_facts table valid).senders w.0 w.1 in
    let low : w.0.at < table.ti = subst (λ (m : Mode). FitsMode m table.ti w.0.at) mode one.mode in
    let same = w.2 in
    omega (arith, low, same)

pub given_borne : (d : ℕ) (table : Table) → IsTrue (is_valid table) → table.mode ≡ Periodic → bears_as_given d table ≡ true
    → AreBorne d table (given_offsets table)
given_borne d table valid mode h =
    let parts = and_parts (is_accepted (verdict_of table)) (bears table d) h in
    let same = sym (itself table) in
    record {
      count = length-map table.senders (λ (s : Sender). s.at);
      below = given_below table valid mode;
      valid = subst (λ t. IsTrue (is_valid t)) same valid;
      accepted = subst (λ t. IsTrue (is_accepted (verdict_of t))) same parts.0;
      borne = subst (λ t. IsTrue (bears t d)) same parts.1;
    }

pub borne_given : (d : ℕ) (table : Table) → AreBorne d table (given_offsets table) → bears_as_given d table ≡ true
borne_given d table b =
    subst (λ t. (is_accepted (verdict_of t) && bears t d) ≡ true) (itself table)
    (ap (λ a. a && bears (with_offsets (given_offsets table) table) d) b.accepted ∙ b.borne)

-- ---- with a delay each shorter one, and the turns fit
pub given_less : (e d : ℕ) (table : Table) → IsTrue (is_valid table) → table.mode ≡ Periodic → 1 < length table.senders → e ≤ d
    → bears_as_given d table ≡ true → bears_as_given e table ≡ true
given_less e d table valid mode many low h =
    borne_given e table (less_borne e d table (given_offsets table) valid mode many low (given_borne d table valid mode h))

pub given_turns : (d : ℕ) (table : Table) → IsTrue (is_valid table) → table.mode ≡ Periodic → 1 < length table.senders
    → bears_as_given d table ≡ true → turns_for d table ≤ table.ti
given_turns d table valid mode many h =
    borne_fits_turns d table (given_offsets table) valid mode many (given_borne d table valid mode h).borne
