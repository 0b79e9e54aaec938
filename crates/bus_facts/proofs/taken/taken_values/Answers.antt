use Rattle.std.proofs.Common.{List, ◌++◌, map, ap, ◌∙◌}
use Rattle.serde_json.specs.View.{view}
use Rattle.serde_json.specs.Data.{Data}
use Rattle.serde_json.specs.declared.value.Value.{Value}
use Rattle.bus_table.specs.Tables.{Sender, Listener}
use Rattle.bus_facts.specs.Takes.{listener_numbers, sender_numbers}
use Rattle.bus_facts.proofs.taken.taken_values.Goals as goal

pub returns : goal.returns
returns c =
    let number = c.args.number in
    let send = c.args.send.now in
    let table = c.args.table.now in
    c.in_ok-add_listeners.ensures
    ∙ ap (λ (ds : List Data). ds ++ listener_numbers number send c.listeners.result.now)
    (c.in_ok-add_senders.ensures ∙ ap (λ (vs : List Value). map view vs ++ sender_numbers number send c.senders.result.now) c.new-values.ensures.items)
    ∙ ap (λ (ss : List Sender). sender_numbers number send ss ++ listener_numbers number send c.listeners.result.now) c.senders.ensures.value
    ∙ ap (λ (ls : List Listener). sender_numbers number send table.senders ++ listener_numbers number send ls) c.listeners.ensures.value
