use Rattle.std.proofs.Common.{◌≡◌, ◌<◌, ◌+◌, [], ◌∷◌, Some, take, arith, inl, inr, sym, ap, subst, ◌∙◌}
use Rattle.std.proofs.lemmas.Option.{slice_get-get_or}
use Rattle.bus_strings.specs.Members.{In}
use Rattle.bus_strings.specs.Messages.{Entry}
use Rattle.bus_strings.proofs.MemberLaws.{in_append_cases}
use Rattle.bus_findings.specs.Recorded.{reach}
use Rattle.bus_findings.proofs.PlaceLemmas.{take_next, drop_past}
use Rattle.bus_findings.proofs.HeardLemmas.{begun_next, none_behind}
use Rattle.bus_findings.proofs.heard.Heard.at_moment.Goals.{else-loop-begun-test, then-loop-begun-test+then-x-reach}
use Rattle.bus_findings.proofs.heard.Heard.at_moment.Goals as goal

pub loop-begun-preserved : goal.loop-begun-preserved
loop-begun-preserved c =
    let bounds = c.args.bounds in
    let list = c.args.list.now in
    let k = c.loop-begun.begun in
    let x = c.index-list-begun.result in
    let h = c.loop-begun.invariant in
    let at = slice_get-get_or list k x c.loop-begun-test.true ∙ ap Some (sym c.index-list-begun.is) in
    let e : x.moment ≡ c.x.inside.moment = ap (λ (z : Entry). z.moment) (sym c.x.view_is) in
    let early : x.moment + reach bounds < c.args.moment = omega (arith, e, c.if-x-reach.false, c.reach-reach.ensures.value) in
    record {
      within = omega (arith, c.loop-begun-test.true);
      end = omega (arith, c.max-end.ensures, c.soonest.ensures.value, h.end, begun_next bounds list k x at);
      bound = omega (arith, c.max-end.ensures, c.soonest.ensures.bound, h.bound);
      each = λ z inside. elim (in_append_cases (take k list) (x ∷ []) z (subst (λ l. In z l) (take_next list k x at) inside)) [
        | inl front ↦ h.each z front
        | inr last ↦ elim last [ inl same ↦ subst (λ (y : Entry). y.moment + reach bounds < c.args.moment) (sym same) early | inr none ↦ absurd none ]
      ];
    }

pub returns-clause-reached : goal.returns-clause-reached
returns-clause-reached c =
    let bounds = c.args.bounds in
    let list = c.args.list.now in
    let k = c.loop-begun.begun in
    let h = c.loop-begun.invariant in
    record {
      begun = record { within = h.within; end = h.end; bound = h.bound; begun = h.each };
      all = λ z inside. elim c.loop-begun-test.branch [
        | else-loop-begun-test w ↦ absurd (drop_past list k z w.loop-begun-test.false inside)
        | then-loop-begun-test+then-x-reach w ↦
            let x = w.index-list-begun.result in
            let at = slice_get-get_or list k x w.loop-begun-test.true ∙ ap Some (sym w.index-list-begun.is) in
            let e : x.moment ≡ w.x.inside.moment = ap (λ (y : Entry). y.moment) (sym w.x.view_is) in
            none_behind bounds list k c.args.moment x c.requires.order at (omega (arith, e, w.if-x-reach.true, c.reach-reach.ensures.value)) z inside
      ];
    }
