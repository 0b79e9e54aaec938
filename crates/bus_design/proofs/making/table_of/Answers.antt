use Rattle.std.proofs.Common.{sym, ◌∙◌}
use Rattle.bus_design.specs.Others.{made_table}
use Rattle.bus_design.proofs.Made.{built_is, kept_table, is_some, same_some}
use Rattle.bus_design.proofs.making.table_of.Goals as goal

pub unwrap-requires : goal.unwrap-requires
unwrap-requires c =
    is_some c.new.result (made_table c.args.table.now c.args.sg c.args.gaps.now)
    (c.new.ensures
    ∙ kept_table _ _ (built_is c.args.table.now c.args.sg c.args.gaps.now _ _ c.in_ok-senders.ensures (c.in_ok-listeners.ensures ∙ c.listeners.ensures.value))
    c.requires.valid)

pub returns : goal.returns
returns c =
    same_some c.unwrap.result (made_table c.args.table.now c.args.sg c.args.gaps.now)
    (sym c.unwrap.ensures ∙ c.new.ensures
    ∙ kept_table _ _ (built_is c.args.table.now c.args.sg c.args.gaps.now _ _ c.in_ok-senders.ensures (c.in_ok-listeners.ensures ∙ c.listeners.ensures.value))
    c.requires.valid)
