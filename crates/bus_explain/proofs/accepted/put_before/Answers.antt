use Rattle.std.proofs.Common.{◌≡◌, List, [], ℕ, ◌++◌, ap, ◌∙◌, subst}
use Rattle.bus_outer.specs.Texts.{Adds}
use Rattle.bus_outer.proofs.TextLaws.{◌▸◌}
use Rattle.bus_table.specs.declared.mode.Mode.{Mode}
use Rattle.bus_table.specs.Tables.{Table}
use Rattle.bus_explain.specs.Accepted.{cycles_lines, load_line, before_senders}
use Rattle.bus_say.specs.Sentences.{said}
use Rattle.bus_explain.specs.declared.wordings.TheConstants as the
use Rattle.bus_explain.specs.Figures.{load, spare}
use Rattle.bus_explain.proofs.AcceptLemmas.{most_is_some}
use Rattle.bus_explain.proofs.accepted.put_before.Goals as goal

-- what is said, of these figures
abbrev told : Mode → (least most spare load : ℕ) → List ℕ
told mode least most spare load = said the.ACCEPTED.now [] ++ cycles_lines mode least most spare ++ load_line load

same_told : (table : Table) (mode : Mode) (least most a b : ℕ) → mode ≡ table.mode → a ≡ spare table least → b ≡ load table most
    → told mode least most a b ≡ before_senders table least most
same_told table mode least most a b h k l =
    ap (λ (m : Mode). told m least most a b) h
    ∙ ap (λ (n : ℕ). told table.mode least most n b) k
    ∙ ap (λ (n : ℕ). told table.mode least most (spare table least) n) l

pub spare-spare-requires : goal.spare-spare-requires
spare-spare-requires g c = (c.args.most, c.requires)

pub load-load-requires : goal.load-load-requires
load-load-requires g c = most_is_some c.args.table.now c.requires.0 c.args.least c.args.most c.table_is_valid.ensures c.requires.1

pub returns : goal.returns
returns g c =
    let same = same_told c.args.table.now c.mode-mode.result c.args.least c.args.most c.spare-spare.result c.load-load.result c.mode-mode.ensures.value
    c.spare-spare.ensures c.load-load.ensures in
    subst (λ (t : List ℕ). Adds g.K.Sink.held g.K.Sink.faults c.args.sink.now c.put_load_line.new.sink c.args.text.now c.put_load_line.new.text t) same
    (c.say.ensures ▸ c.put_cycles.ensures ▸ c.put_load_line.ensures)
