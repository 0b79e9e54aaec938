use Rattle.std.proofs.Common.{◌≡◌, Some, take, arith, sym, ap, ◌∙◌}
use Rattle.std.proofs.lemmas.Option.{slice_get-get_or}
use Rattle.bus_strings.specs.Messages.{Entry}
use Rattle.bus_findings.specs.Recorded.{seen, recorded}
use Rattle.bus_findings.proofs.HeardLemmas.{end_next, latest_next, ends_next}
use Rattle.bus_findings.proofs.QuietLemmas.{have_ended, ended_exactly, latest_reached}
use Rattle.bus_findings.proofs.heard.Heard.with.Goals as goal

pub returns-clause-heard : goal.returns-clause-heard
returns-clause-heard c =
    let bounds = c.args.bounds in
    let list = c.args.list.now in
    let i = c.args.i in
    let x = c.index-list-i.result in
    let at = slice_get-get_or list i x c.requires.within ∙ ap Some (sym c.index-list-i.is) in
    let h = c.requires.heard in
    let number : x.terminal ≡ c.x.inside.terminal = ap (λ (z : Entry). z.terminal) (sym c.x.view_is) in
    let e : x.moment ≡ c.x.inside.moment = ap (λ (z : Entry). z.moment) (sym c.x.view_is) in
    record {
      end = omega (arith, c.max.ensures, c.end.ensures.value, h.end, end_next list i x at);
      end_bound = omega (arith, c.max.ensures, c.end.type_inv, h.end_bound);
      soonest = ends_next bounds list i x c.with.result at (c.with.ensures (recorded bounds (take i list)) (seen bounds x) h.soonest number (sym c.soonest.ensures.value));
      latest = omega (arith, c.max-2.ensures, c.latest.ensures.value, c.reach-reach.ensures.value, h.latest, latest_next bounds list i x at);
      latest_bound = omega (arith, c.max-2.ensures, c.latest.ensures.bound, c.reach-reach.ensures.bound, h.latest_bound);
      quiet = c.with-2.ensures bounds list (λ z there. let same : Some x ≡ Some z = sym at ∙ there in let one : x ≡ z = cc in sym (ap (λ (y : Entry). y.moment) one) ∙ e)
          (have_ended bounds list i c.args.self.soonest h.soonest) (ended_exactly bounds list i c.args.self.soonest h.soonest)
          (omega (arith, c.saturating_sub-end.ensures, h.latest, latest_reached bounds list i, c.reach-reach.ensures.value)) h.quiet;
    }
