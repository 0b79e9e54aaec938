use Rattle.std.proofs.Common.{List, ℕ, ◌++◌, ap, subst}
use Rattle.bus_outer.specs.Texts.{Adds}
use Rattle.bus_outer.proofs.TextLaws.{◌▸◌}
use Rattle.bus_feeds.specs.declared.share.Share.{Share}
use Rattle.bus_takes.specs.Takes.{words_text}
use Rattle.bus_takes.specs.declared.wordings.TheConstants as the
use Rattle.bus_takes.proofs.lines.put_share.Goals as goal

pub returns : goal.returns
returns g c =
    let pair = c.args.pair in
    let told = ap (λ (s : Share). words_text the.NEVER_COME.now pair.number pair.take.now pair.other pair.send.now s.never
    ++ words_text the.SOMETIMES_COME.now pair.number pair.take.now pair.other pair.send.now s.sometimes) c.share_of-share.ensures.value in
    subst (λ (t : List ℕ). Adds g.K.Sink.held g.K.Sink.faults c.args.sink.now c.put_words-2.new.sink c.args.text.now c.put_words-2.new.text t) told
    (c.put_words.ensures ▸ c.put_words-2.ensures)
