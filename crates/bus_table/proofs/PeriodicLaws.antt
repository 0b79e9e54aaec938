-- A valid aperiodic table is a valid periodic one too, at each transmit interval: the offset 0 of its senders is below it.
use Rattle.std.specs.Prelude.{◌≡◌, ℕ, ◌<◌, ◌≤◌, nat_le, IsTrue, List}
use Rattle.std.proofs.Common.{arith, refl, subst}
use Rattle.std.proofs.lemmas.Bool.{and_parts, leb-true}
use Rattle.bus_strings.specs.Members.{In}
use Rattle.bus_table.specs.declared.mode.Mode.{Mode}
use Rattle.bus_table.specs.declared.mode.Mode.TheVariants.{Aperiodic, Periodic}
use Rattle.bus_table.specs.Tables.{Sender, Listener, Table}
use Rattle.bus_table.specs.Periodic.{as_periodic}
use Rattle.bus_table.specs.Ranges.{is_ti}
use Rattle.bus_table.specs.Valid.{is_valid}
use Rattle.bus_table.specs.inside.Facts.{FitsMode, SenderFacts}
use Rattle.bus_table.proofs.PartLaws.{parts_of, valid_of, none_late}
use Rattle.bus_table.proofs.TurnLaws.{of_each}
use Rattle.bus_table.proofs.ValidLaws.{valid_facts}

pub periodic_valid : (table : Table) (ti : ℕ) → IsTrue (is_valid table) → table.mode ≡ Aperiodic → IsTrue (is_ti ti)
    → IsTrue (is_valid (as_periodic ti table))
periodic_valid table ti valid aperiodic range =
    let facts = valid_facts table valid in
    let p = parts_of table valid in
    let least : 1000 ≤ ti = leb-true 1000 ti (and_parts (nat_le 1000 ti) _ range).0 in
    let low : (s : Sender) → In s table.senders → s.at < ti = λ s i.
    let none : s.at ≡ 0 = subst (λ (m : Mode). FitsMode m table.ti s.at) aperiodic (of_each (SenderFacts table) table.senders facts.senders s i).mode in
    omega (arith, none, least) in
    valid_of (as_periodic ti table) (record {
      ti = range;
      sg = p.sg;
      senders = p.senders;
      listeners = p.listeners;
      fits = refl;
      some = p.some;
      once = p.once;
      gaps = p.gaps;
      short = p.short;
      pairs = p.pairs;
      late = none_late ti table.senders low;
    })

-- the parts of a made table
pub made_valid : (table : Table) (ti sg : ℕ) (senders : List Sender) (listeners : List Listener) → IsTrue (is_valid table)
    → table.mode ≡ Aperiodic → IsTrue (is_ti ti) → sg ≡ table.sg → senders ≡ table.senders → listeners ≡ table.listeners
    → IsTrue (is_valid (record { mode = Periodic; ti = ti; sg = sg; senders = senders; listeners = listeners }))
made_valid table ti sg senders listeners valid aperiodic range g s l =
    let kept = periodic_valid table ti valid aperiodic range in
    let same : as_periodic ti table ≡ (record { mode = Periodic; ti = ti; sg = sg; senders = senders; listeners = listeners }) = cc in
    subst (λ made. IsTrue (is_valid made)) same kept
