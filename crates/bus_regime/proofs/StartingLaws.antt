-- An aperiodic table that starts itself is accepted.
use Rattle.std.specs.Prelude.{◌≡◌, ℕ, ◌+◌, ◌<◌, ◌≤◌, true, nat_le, IsTrue, List, [], ◌∷◌, length}
use Rattle.std.specs.List.{list_all, sum_by}
use Rattle.std.proofs.Common.{arith}
use Rattle.std.proofs.lemmas.Bool.{and_parts, leb-true}
use Rattle.std.proofs.lemmas.List.Sums.{sum_by-cons}
use Rattle.bus_table.specs.declared.mode.Mode.TheVariants.{Aperiodic}
use Rattle.bus_table.specs.Lengths.{shortest}
use Rattle.bus_table.specs.Tables.{Sender, Table}
use Rattle.bus_table.specs.Valid.{is_valid}
use Rattle.bus_table.proofs.ValidLaws.{valid_facts}
use Rattle.bus_regime.specs.Starting.{starts_itself}
use Rattle.bus_regime.specs.Verdicts.{verdict_of, is_accepted, least_cycle}
use Rattle.bus_regime.proofs.VerdictLaws.{cycle_accepted}

-- what the first sender waits and sends is part of the shortest cycle
fits_first : (ti sg : ℕ) (senders : List Sender) → 0 < length senders
    → list_all (λ s. nat_le ti (sg + s.tg + shortest s)) senders ≡ true → ti ≤ sg + sum_by (λ s. s.tg + shortest s) senders
fits_first ti sg [] some free = absurd (omega arith)
fits_first ti sg (s ∷ senders) some free =
    let first : ti ≤ sg + s.tg + shortest s = leb-true ti (sg + s.tg + shortest s) (and_parts (nat_le ti (sg + s.tg + shortest s)) _ free).0 in
    let sum = sum_by-cons (λ (t : Sender). t.tg + shortest t) s senders in
    omega (arith, first, sum)

pub started_accepted : (table : Table) → IsTrue (is_valid table) → table.mode ≡ Aperiodic → IsTrue (starts_itself table)
    → IsTrue (is_accepted (verdict_of table))
started_accepted table valid aperiodic free =
    let fits : table.ti ≤ least_cycle table = fits_first table.ti table.sg table.senders (valid_facts table valid).some free in
    cycle_accepted table aperiodic fits
