-- What is told of a table is what is told beside its figures, and these.
use Rattle.std.proofs.Common.{◌≡◌, Bool, ℕ, ap, ◌∙◌}
use Rattle.serde_json.specs.Data.{Data}
use Rattle.serde_json.specs.View.{view}
use Rattle.bus_table.specs.Tables.{Table}
use Rattle.bus_table.specs.Text.{mode_word}
use Rattle.bus_table.specs.declared.mode.Mode.{Mode}
use Rattle.bus_regime.specs.Verdicts.{verdict_of, is_accepted}
use Rattle.bus_advice.specs.Advices.{advices_of}
use Rattle.bus_facts.specs.Advised.{advices_value}
use Rattle.bus_facts.specs.Facts as facts
use Rattle.bus_facts.specs.Starts.{start_value}
use Rattle.bus_facts.specs.declared.table.Heads.{Heads}
use Rattle.bus_facts.specs.inside.Seen.{AreHeadsOf}

pub told_same : (table : Table) (heads : Heads) (figures : facts.Figures) → AreHeadsOf table heads → figures ≡ facts.figures_of (verdict_of table) table
    → facts.told_as heads.accepted (mode_word heads.mode) heads.sg heads.ti (view heads.advices) (view heads.start) (view heads.verdict) figures
    ≡ facts.table_value table
told_same table heads figures h is =
    ap (λ (b : Bool). facts.told_as b (mode_word heads.mode) heads.sg heads.ti (view heads.advices) (view heads.start) (view heads.verdict) figures) h.accepts
    ∙ ap (λ (m : Mode). facts.told_as (is_accepted (verdict_of table)) (mode_word m) heads.sg heads.ti (view heads.advices) (view heads.start) (view heads.verdict) figures) h.mode
    ∙ ap (λ (n : ℕ). facts.told_as (is_accepted (verdict_of table)) (mode_word table.mode) n heads.ti (view heads.advices) (view heads.start) (view heads.verdict) figures) h.sg
    ∙ ap (λ (n : ℕ). facts.told_as (is_accepted (verdict_of table)) (mode_word table.mode) table.sg n (view heads.advices) (view heads.start) (view heads.verdict) figures) h.ti
    ∙ ap (λ (d : Data). facts.told_as (is_accepted (verdict_of table)) (mode_word table.mode) table.sg table.ti d (view heads.start) (view heads.verdict) figures) h.advices
    ∙ ap (λ (d : Data). facts.told_as (is_accepted (verdict_of table)) (mode_word table.mode) table.sg table.ti (advices_value (advices_of table)) d (view heads.verdict) figures) h.start
    ∙ ap (λ (d : Data). facts.told_as (is_accepted (verdict_of table)) (mode_word table.mode) table.sg table.ti (advices_value (advices_of table)) (start_value table) d figures) h.verdict
    ∙ ap (λ f. facts.told_of f table) is
