-- What `facts` tells of a text: one JSON value, with the same keys whatever the text is, and null for what it doesn't have.
use Rattle.std.specs.Prelude.{ℕ, Bool, false, List, [], ◌++◌, codes, Some, None, Result, Ok, Err}
use Rattle.serde_json.specs.Data.{Data, null, boolean, string, object, member, no_members}
use Rattle.serde_json.specs.Written.{compact_text}
use Rattle.bus_table.specs.declared.error.TableError.{TableError}
use Rattle.bus_table.specs.declared.error.TableError.TheVariants.{Text, Whole, Memory}
use Rattle.bus_table.specs.Reading.{answer_of}
use Rattle.bus_table.specs.Stops.{stop_of}
use Rattle.bus_table.specs.Tables.{Table}
use Rattle.bus_table.specs.Text.{mode_word}
use Rattle.bus_regime.specs.Verdicts.{verdict_of, is_accepted}
use Rattle.bus_regime.specs.declared.table_verdict.TableVerdict.{TableVerdict}
use Rattle.bus_regime.specs.declared.table_verdict.TableVerdict.TheVariants.{Accept, ShortCycle, SmallGap, NoSync}
use Rattle.bus_advice.specs.Advices.{advices_of}
use Rattle.bus_explain.specs.Figures.{spare}
use Rattle.bus_reach.specs.Bearing.{tolerance_of}
use Rattle.bus_facts.specs.Advised.{advices_value}
use Rattle.bus_facts.specs.Bounds.{cycle_value, load_value, tolerance_value}
use Rattle.bus_facts.specs.Margins.{margins_value}
use Rattle.bus_facts.specs.Senders.{senders_value}
use Rattle.bus_facts.specs.Starts.{start_value}
use Rattle.bus_facts.specs.Takes.{takes_value}
use Rattle.bus_facts.specs.Values.{count, list}
use Rattle.bus_facts.specs.Verdicts.{verdict_value}
use Rattle.bus_facts.specs.Wrong.{text_value, whole_value}

-- ---- a valid table
-- What only an accepted table has, and its senders and TAKE lines.
pub record Figures : Type 0 where
  pub cycle : Data
  pub load : Data
  pub margins : Data
  pub spare : Data
  pub tolerance : Data
  pub senders : Data
  pub takes : Data

-- They, of an accepted table with these numbers of its verdict.
abbrev pub accepted_figures : Table → (least most : ℕ) → Figures
accepted_figures table least most = record {
  cycle = cycle_value least most;
  load = load_value table most;
  margins = margins_value table;
  spare = count (spare table least);
  tolerance = tolerance_value table;
  senders = senders_value table (Some (record { most = most; tolerance = tolerance_of table }));
  takes = takes_value table;
}

-- A refused table has its senders and TAKE lines alone.
abbrev pub refused_figures : Table → Figures
refused_figures table = record {
  cycle = null;
  load = null;
  margins = null;
  spare = null;
  tolerance = null;
  senders = senders_value table None;
  takes = takes_value table;
}

-- The figures of a table with this verdict.
abbrev pub figures_of : TableVerdict → Table → Figures
figures_of (Accept mode least most) table = accepted_figures table least most
figures_of (ShortCycle least ti) table = refused_figures table
figures_of (SmallGap terminal gap needed) table = refused_figures table
figures_of (NoSync terminal gap needed) table = refused_figures table

-- All that is told of a table with these figures, of which these advices, this start and this verdict are told.
abbrev pub told_as : Bool → (mode : List ℕ) → (sg ti : ℕ) → (advices start verdict : Data) → Figures → Data
told_as accepted mode sg ti advices start verdict figures =
    object (member (codes "accepted") (boolean accepted)
    (member (codes "advices") advices
    (member (codes "cycle") figures.cycle
    (member (codes "error") null
    (member (codes "load") figures.load
    (member (codes "margins") figures.margins
    (member (codes "mode") (string mode)
    (member (codes "senders") figures.senders
    (member (codes "sg") (count sg)
    (member (codes "spare") figures.spare
    (member (codes "start") start
    (member (codes "takes") figures.takes
    (member (codes "ti") (count ti)
    (member (codes "tolerance") figures.tolerance
    (member (codes "verdict") verdict no_members)))))))))))))))

-- All that is told of a table with these figures.
abbrev pub told_of : Figures → Table → Data
told_of figures table =
    told_as (is_accepted (verdict_of table)) (mode_word table.mode) table.sg table.ti (advices_value (advices_of table)) (start_value table)
    (verdict_value (verdict_of table)) figures

-- What is told of a table.
abbrev pub table_value : Table → Data
table_value table = told_of (figures_of (verdict_of table) table) table

-- ---- a text that gives no valid table
-- What is told of it: the error alone.
abbrev pub error_value : Data → Data
error_value error =
    object (member (codes "accepted") (boolean false)
    (member (codes "advices") (list [])
    (member (codes "cycle") null
    (member (codes "error") error
    (member (codes "load") null
    (member (codes "margins") null
    (member (codes "mode") null
    (member (codes "senders") (list [])
    (member (codes "sg") null
    (member (codes "spare") null
    (member (codes "start") null
    (member (codes "takes") (list [])
    (member (codes "ti") null
    (member (codes "tolerance") null
    (member (codes "verdict") null no_members)))))))))))))))

-- What is told of a text that gives no valid table for this reason; want of memory is no reason of a text.
abbrev pub refusal_value : TableError → List ℕ → Data
refusal_value (Text line reason) text = error_value (text_value line reason (stop_of text))
refusal_value (Whole reason) text = error_value (whole_value reason)
refusal_value Memory text = null

-- ---- any text
-- What is told of a text that gives this.
abbrev pub answer_value : Result Table TableError → List ℕ → Data
answer_value (Ok table) text = table_value table
answer_value (Err error) text = refusal_value error text

-- What is told of a text.
abbrev pub facts_value : List ℕ → Data
facts_value text = answer_value (answer_of text) text

-- It is written in one line, without blanks.
abbrev pub facts_text : List ℕ → List ℕ
facts_text text = compact_text (facts_value text) ++ codes "\n"

-- Whether a text that gives this gives a table that is accepted.
abbrev pub is_accepting : Result Table TableError → Bool
is_accepting (Ok table) = is_accepted (verdict_of table)
is_accepting (Err error) = false
