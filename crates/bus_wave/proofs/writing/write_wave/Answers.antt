use Rattle.std.proofs.Common.{◌++◌, codes, subst, List, ℕ}
use Rattle.bus_outer.specs.Texts.{Adds}
use Rattle.bus_outer.proofs.TextLaws.{◌▸◌, ends_text}
use Rattle.bus_wave.specs.inside.Puts.{list_put, quiet_put}
use Rattle.bus_wave.proofs.WriteTexts.{put_as_read}
use Rattle.bus_wave.proofs.WaveLemmas.{has_one_text, some_strings}
use Rattle.bus_wave.proofs.writing.write_wave.Goals as goal

pub returns-clause-written : goal.returns-clause-written
returns-clause-written g c =
    let e = put_as_read c.args.trace.now c.horizon.result c.put_list-end.result c.list.result.now c.horizon.ensures.value c.list.ensures.value c.put_list-end.ensures.end in
    ends_text g.K.Sink.held g.K.Sink.faults c.args.sink.now c.put-2.new.sink c.finish.new.sink c.new-text.result c.put-2.new.self
    c.finish.result _ c.finish.ensures
    (subst (λ (t : List ℕ). Adds g.K.Sink.held g.K.Sink.faults c.args.sink.now c.put-2.new.sink c.new-text.result c.put-2.new.self t) e
    (subst (λ (n : ℕ). Adds g.K.Sink.held g.K.Sink.faults c.args.sink.now c.put-2.new.sink c.new-text.result c.put-2.new.self (codes "WAVE 1\n" ++ list_put 0 c.list.result.now ++ quiet_put n ++ codes "END\n")) c.saturating_sub.ensures
    (c.put.ensures ▸ c.put_list-end.ensures.puts ▸ c.put_quiet.ensures ▸ c.put-2.ensures))) c.new-text.ensures

pub returns-clause-one : goal.returns-clause-one
returns-clause-one g c = has_one_text c.args.trace.now c.requires (some_strings c.args.trace.now c.list.ensures.ranges)
