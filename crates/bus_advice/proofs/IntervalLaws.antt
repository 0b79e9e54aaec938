-- A valid table stays valid at another transmit interval in its range, where no offset is too late for it.
use Rattle.std.specs.Prelude.{◌≡◌, ℕ, true, None, IsTrue}
use Rattle.bus_table.specs.Tables.{Table}
use Rattle.bus_table.specs.Ranges.{is_ti}
use Rattle.bus_table.specs.Valid.{is_valid}
use Rattle.bus_table.specs.Whole.{periodic_refusal}
use Rattle.bus_table.proofs.PartLaws.{parts_of, valid_of}
use Rattle.bus_advice.specs.Changes.{with_interval}

pub at_interval : (table : Table) (n : ℕ) → IsTrue (is_valid table) → is_ti n ≡ true → periodic_refusal table.mode n table.senders ≡ None
    → IsTrue (is_valid (with_interval n table))
at_interval table n valid range late =
    let p = parts_of table valid in
    valid_of (with_interval n table) (record {
      ti = range;
      sg = p.sg;
      senders = p.senders;
      listeners = p.listeners;
      fits = p.fits;
      some = p.some;
      once = p.once;
      gaps = p.gaps;
      short = p.short;
      pairs = p.pairs;
      late = late;
    })
