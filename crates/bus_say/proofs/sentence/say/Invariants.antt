use Rattle.std.proofs.Common.{◌≡◌, take}
use Rattle.bus_outer.specs.Texts.{Adds}
use Rattle.bus_say.specs.Sentences.{said}
use Rattle.bus_say.specs.declared.sentence.Hole.TheVariants.{Closed}
use Rattle.bus_say.proofs.SentenceLemmas.{behind_all}
use Rattle.bus_say.proofs.sentence.say.Given as goal

abbrev pub invariant-loop-byte : goal.invariant-loop-byte
invariant-loop-byte g l = record {
  hole : l.hole ≡ behind_all Closed (take l.byte-index l.sentence);
  text : Adds g.K.Sink.held g.K.Sink.faults l.fn.sink l.sink l.fn.text l.text (said (take l.byte-index l.sentence) l.numbers);
}
