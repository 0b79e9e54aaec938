-- Which tables are valid.
use Rattle.std.specs.Prelude.{Bool, true, ◌&&◌, ◌==◌, is_none, List}
use Rattle.std.specs.List.{list_all}
use Rattle.bus_table.specs.declared.mode.Mode.{Mode}
use Rattle.bus_table.specs.declared.mode.Mode.TheVariants.{Aperiodic, Periodic}
use Rattle.bus_table.specs.Tables.{Sender, Table}
use Rattle.bus_table.specs.Ranges.{is_ti, is_sg, is_sender, is_listener}
use Rattle.bus_table.specs.Whole.{whole_refusal}

-- The senders of an aperiodic table have no offset but 0.
abbrev pub fits_mode : Mode → List Sender → Bool
fits_mode Aperiodic senders = list_all (λ sender. sender.at == 0) senders
fits_mode Periodic senders = true

-- Every number of the table is in its range.
abbrev pub is_in_range : Table → Bool
is_in_range table =
    is_ti table.ti
    && (is_sg table.sg
    && (list_all is_sender table.senders && (list_all is_listener table.listeners && fits_mode table.mode table.senders)))

-- Whether senders and listeners that are each in their ranges make a table.
abbrev pub is_table : Table → Bool
is_table table = is_ti table.ti && (is_sg table.sg && (fits_mode table.mode table.senders && is_none (whole_refusal table)))

-- Every number is in its range, and no whole reason applies.
abbrev pub is_valid : Table → Bool
is_valid table = is_in_range table && is_none (whole_refusal table)
