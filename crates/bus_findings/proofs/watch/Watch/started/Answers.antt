use Rattle.std.proofs.Common.{◌≡◌, ◌≤◌, ◌<◌, ◌*◌, ◌+◌, ◌^◌, Some, arith, sym, ap, ◌∙◌, rules}
use Rattle.std.proofs.lemmas.Option.{slice_get-get_or}
use Rattle.bus_strings.specs.Messages.{Entry}
use Rattle.bus_findings.specs.Judging.{judgement_of}
use Rattle.bus_findings.specs.Recorded.{seen}
use Rattle.bus_findings.specs.Terminals.{fault_count}
use Rattle.bus_findings.specs.inside.Counting.{with_least, with_most, apart_from}
use Rattle.bus_findings.specs.inside.Standing.{IsLast, of_others}
use Rattle.bus_findings.proofs.PlaceLemmas.{read_is}
use Rattle.bus_findings.proofs.WatchLemmas.{last_within, last_started, end_started, starts_started, faults_started, least_started, most_started}
use Rattle.bus_findings.proofs.watch.Watch.started.Goals as goal

pub apart-apart-requires-clause-last : goal.apart-apart-requires-clause-last
apart-apart-requires-clause-last c =
    let list = c.args.list.now in
    let x = c.index-list-i.result in
    let at = slice_get-get_or list c.args.i x c.requires.within ∙ ap Some (sym c.index-list-i.is) in
    last_within c.args.bounds list x.terminal c.args.i c.args.self.last (c.requires.watch x at).last

pub overflow_add-result : goal.overflow_add-result
overflow_add-result c =
    let list = c.args.list.now in
    let x = c.index-list-i.result in
    let at = slice_get-get_or list c.args.i x c.requires.within ∙ ap Some (sym c.index-list-i.is) in
    let less : c.args.self.starts + 1 < 18446744073709551616 = omega (arith, (c.requires.watch x at).counted, c.requires.few) in
    search rules

pub overflow_add-result-2 : goal.overflow_add-result-2
overflow_add-result-2 c =
    let list = c.args.list.now in
    let x = c.index-list-i.result in
    let at = slice_get-get_or list c.args.i x c.requires.within ∙ ap Some (sym c.index-list-i.is) in
    let w = c.requires.watch x at in
    let counted : c.args.self.starts ≤ c.args.i = w.counted in
    let few : c.args.self.faults ≤ 6 * c.args.self.starts = w.few in
    let less : c.args.self.faults + c.fault_count.result < 18446744073709551616 = omega (arith, counted, few, c.requires.few, c.fault_count.ensures.most) in
    search rules

pub returns : goal.returns
returns c = λ x at.
    let bounds = c.args.bounds in
    let table = c.args.table.now in
    let list = c.args.list.now in
    let i = c.args.i in
    let w = c.requires.watch x at in
    let it : c.index-list-i.result ≡ x = read_is list i c.index-list-i.result x c.index-list-i.is at in
    let number : c.x.inside.terminal ≡ x.terminal = ap (λ (z : Entry). z.terminal) (c.x.view_is ∙ it) in
    let end : c.soonest.result ≡ (seen bounds x).soonest = c.soonest.ensures.value ∙ ap (λ (z : Entry). (seen bounds z).soonest) it in
    let count : c.fault_count.result ≡ fault_count (judgement_of bounds table list x) = c.fault_count.ensures.value ∙ ap fault_count (c.requires.judged x at) in
    let counted : c.args.self.starts ≤ i = w.counted in
    let few : c.args.self.faults ≤ 6 * c.args.self.starts = w.few in
    let own : c.args.self.own_end < 2 ^ 41 = w.own_bound in
    let last : IsLast bounds list x.terminal i c.args.self.last = w.last in
    record {
      last = last_started bounds list i x c.args.heard c.of_others.result c.requires.heard at (c.of_others.ensures ∙ ap (of_others c.args.heard.soonest) number);
      own_end = omega (arith, c.max.ensures, w.own_end, end, end_started bounds list i x at);
      own_bound = omega (arith, c.max.ensures, own, c.soonest.ensures.bound);
      starts = omega (arith, w.starts, starts_started list i x at);
      faults = omega (arith, w.faults, count, faults_started bounds table list i x at);
      counted = omega (arith, counted);
      few = omega (arith, few, c.fault_count.ensures.most);
      least = c.with_least.ensures ∙ ap (λ a. with_least c.args.self.least a) c.apart-apart.ensures
          ∙ ap (λ s. with_least s (apart_from list c.args.self.last i)) w.least ∙ sym (least_started bounds list i x c.args.self.last at last);
      most = c.with_most.ensures ∙ ap (λ a. with_most c.args.self.most a) c.apart-apart.ensures
          ∙ ap (λ s. with_most s (apart_from list c.args.self.last i)) w.most ∙ sym (most_started bounds list i x c.args.self.last at last);
    }
