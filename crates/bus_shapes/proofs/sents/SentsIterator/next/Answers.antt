use Rattle.std.proofs.Common.{◌≡◌, ◌∙◌, ◌∷◌, ◌+◌, ap, sym, refl, length, drop, arith, max, rules}
use Rattle.std.proofs.lemmas.Option.{slice_get_read}
use Rattle.bus_strings.specs.Messages.{Entry}
use Rattle.bus_strings.specs.Transmissions.{end_of}
use Rattle.bus_shapes.specs.Sayings.{Sent}
use Rattle.bus_shapes.specs.Sending.{sents_from}
use Rattle.bus_shapes.proofs.SendingLemmas.{tell, sents_more, sents_end}
use Rattle.std.proofs.lemmas.Grind.{common_steps}
use Rattle.bus_shapes.proofs.sents.SentsIterator.next.Goals as goal

pub returns-then-self-clause-steps : goal.returns-then-self-clause-steps
returns-then-self-clause-steps c =
    let s = c.self.inside in
    let none = sym c.self.view_is ∙ sents_end s.list.now s.at (omega arith) in
    (none, none)

pub invariant_of-self : goal.invariant_of-self
invariant_of-self c =
    let s = c.self.inside in
    let list = s.list.now in
    let x = c.index-self-self.result in
    let at = slice_get_read list (length list) s.at x refl (omega arith) c.index-self-self.is in
    let own : x.terminal ≡ c.x.inside.terminal = ap (λ (e : Entry). e.terminal) (sym (c.x.view_is ∙ sym c.index-self-self.is)) in
    let moment : c.x.inside.moment ≡ x.moment = ap (λ (e : Entry). e.moment) (c.x.view_is ∙ sym c.index-self-self.is) in
    let end : c.end-end.result ≡ end_of x = c.end-end.ensures.value ∙ ap end_of (sym c.index-self-self.is) in
    let t = (tell list s.at c.x.inside.terminal c.x.inside.moment c.end-end.result s.before s.counts s.marks c.next.new.self c.next.result c.eq-garbled.result x
    c.self.invariant at own moment end (omega arith) (omega arith) c.next.ensures.steps c.eq-garbled.ensures).telling in
    let end_is : c.max-self-inside.result ≡ max s.before c.end-end.result = omega arith in
    record { order = t.order; within = t.within; ends = end_is ∙ t.ends; counted = t.counted; marks = t.marks }

pub returns-clause-steps : goal.returns-clause-steps
returns-clause-steps c =
    let s = c.self.inside in
    let list = s.list.now in
    let x = c.index-self-self.result in
    let at = slice_get_read list (length list) s.at x refl (omega arith) c.index-self-self.is in
    let own : x.terminal ≡ c.x.inside.terminal = ap (λ (e : Entry). e.terminal) (sym (c.x.view_is ∙ sym c.index-self-self.is)) in
    let moment : c.x.inside.moment ≡ x.moment = ap (λ (e : Entry). e.moment) (c.x.view_is ∙ sym c.index-self-self.is) in
    let end : c.end-end.result ≡ end_of x = c.end-end.ensures.value ∙ ap end_of (sym c.index-self-self.is) in
    let told = tell list s.at c.x.inside.terminal c.x.inside.moment c.end-end.result s.before s.counts s.marks c.next.new.self c.next.result c.eq-garbled.result x
    c.self.invariant at own moment end (omega arith) (omega arith) c.next.ensures.steps c.eq-garbled.ensures in
    sym c.self.view_is ∙ sents_more list s.at x at ∙ ap (λ (y : Sent). y ∷ sents_from list (s.at + 1) (drop (s.at + 1) list)) (sym told.sent)

pub returns-clause-goes : goal.returns-clause-goes
returns-clause-goes c = let steps = returns-clause-steps c in search rules

pub returns-then-self-clause-goes : goal.returns-then-self-clause-goes
returns-then-self-clause-goes c = grind (arith, common_steps)
