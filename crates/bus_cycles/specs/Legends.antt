-- The legend: what boxes and lines mean, as far as there are such ones.
use Rattle.std.specs.Prelude.{ℕ, Bool, List, ◌++◌}
use Rattle.bus_pen.specs.Legends.{note_text}
use Rattle.bus_pen.specs.declared.legend.Sample.{Sample}
use Rattle.bus_cycles.specs.Listings.{Listed}
use Rattle.bus_cycles.specs.declared.legend.TheConstants as the
use Rattle.bus_cycles.specs.declared.measures.TheConstants.{LEGEND_LINE as legend_line, LEGEND_TOP as legend_top}

-- A note, where there are boxes of which it tells.
abbrev pub noted : Bool → List Sample → ℕ → List ℕ → List ℕ
noted there samples left words = note_text there legend_top legend_line samples left words

-- What plain boxes mean, where some are drawn.
abbrev pub plain_legend : Bool → List ℕ
plain_legend some = noted some the.PLAIN.0.now the.PLAIN.1 the.PLAIN.2.now

-- What hatched boxes mean.
abbrev pub garbled_legend : Bool → List ℕ
garbled_legend some = noted some the.GARBLED.0.now the.GARBLED.1 the.GARBLED.2.now

-- What the mark of a breach means.
abbrev pub breach_legend : Bool → List ℕ
breach_legend some = noted some the.BREACH.0.now the.BREACH.1 the.BREACH.2.now

-- What the mark of a fault means.
abbrev pub fault_legend : Bool → List ℕ
fault_legend some = noted some the.FAULT.0.now the.FAULT.1 the.FAULT.2.now

-- What it means that a row is drawn open.
abbrev pub cut_legend : Bool → List ℕ
cut_legend some = noted some the.CUT.0.now the.CUT.1 the.CUT.2.now

-- What the line of an offset means.
abbrev pub due_legend : Bool → List ℕ
due_legend some = noted some the.DUE.0.now the.DUE.1 the.DUE.2.now

-- What is listed.
abbrev pub legend_text : Listed → List ℕ
legend_text listed =
    plain_legend listed.plain ++ garbled_legend listed.garbled ++ breach_legend listed.breach ++ fault_legend listed.fault
    ++ cut_legend listed.cut ++ due_legend listed.due
