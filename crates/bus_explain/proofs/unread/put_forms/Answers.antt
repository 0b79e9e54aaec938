use Rattle.std.proofs.Common.{List, ℕ, ◌≡◌, ◌++◌, [], append_assoc, append-nil, subst}
use Rattle.bus_outer.specs.Texts.{Adds}
use Rattle.bus_outer.proofs.TextLaws.{◌▸◌}
use Rattle.bus_table.specs.declared.keyword.Keyword.TheVariants as keywords
use Rattle.bus_explain.specs.Unread.{form_where}
use Rattle.bus_explain.proofs.unread.put_forms.Goals as goal

eight : (a b c d e f g h : List ℕ) → a ++ b ++ c ++ d ++ e ++ f ++ g ++ h ≡ a ++ (b ++ (c ++ (d ++ (e ++ (f ++ (g ++ (h ++ [])))))))
eight a b c d e f g h = simp (append_assoc, append-nil)

pub returns : goal.returns
returns g c =
    let stop = c.args.stop.now in
    let all = eight (form_where stop keywords.Table) (form_where stop keywords.Mode) (form_where stop keywords.Ti) (form_where stop keywords.Sg)
    (form_where stop keywords.Sender) (form_where stop keywords.Send) (form_where stop keywords.Take) (form_where stop keywords.Listener) in
    subst (λ (t : List ℕ). Adds g.K.Sink.held g.K.Sink.faults c.args.sink.now c.put_where-8.new.sink c.args.text.now c.put_where-8.new.text t) all
    (c.put_where.ensures ▸ c.put_where-2.ensures ▸ c.put_where-3.ensures ▸ c.put_where-4.ensures ▸ c.put_where-5.ensures ▸ c.put_where-6.ensures
    ▸ c.put_where-7.ensures ▸ c.put_where-8.ensures)
