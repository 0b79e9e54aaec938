use Rattle.std.proofs.Common.{◌<◌, ◌++◌, ◌∷◌, [], length, map, take, get_or, arith, sym, ap, ◌∙◌}
use Rattle.std.proofs.lemmas.List.{take_all}
use Rattle.std.proofs.lemmas.Option.{slice_get-get_or}
use Rattle.bus_audit.specs.declared.watch.Watch.{Watch}
use Rattle.bus_audit.specs.inside.Keeping.{lazy_of}
use Rattle.bus_audit.proofs.Watching.{map_more}
use Rattle.bus_audit.proofs.lazy_timers.lazy_all.Goals as goal

pub settled_lazy-requires : goal.settled_lazy-requires
settled_lazy-requires c =
    let i = c.loop-watch.watch-index in
    let ws = c.args.watches.now in
    let none : Watch = record { number = 0; timing = record { ti = 0; sg = 0; tg = 0; quiet = 0; due = 0 }; due = 0; gap = 0; left = 0 } in
    let within : i < length ws = omega arith in
    c.requires i (get_or ws i none) (slice_get-get_or ws i none within)

pub loop-watch-preserved : goal.loop-watch-preserved
loop-watch-preserved c =
    let i = c.loop-watch.watch-index in
    let ws = c.args.watches.now in
    let none : Watch = record { number = 0; timing = record { ti = 0; sg = 0; tg = 0; quiet = 0; due = 0 }; due = 0; gap = 0; left = 0 } in
    let within : i < length ws = omega arith in
    c.in_ok-push.ensures.items ∙ ap (λ ks. ks ++ c.settled_lazy.result ∷ []) c.loop-watch.invariant ∙ ap (λ k. map lazy_of (take i ws) ++ k ∷ []) c.settled_lazy.ensures ∙ sym (map_more lazy_of ws i (get_or ws i none) (slice_get-get_or ws i none within))

pub returns : goal.returns
returns c = c.loop-watch.invariant ∙ ap (map lazy_of) (take_all c.loop-watch.watch-index c.args.watches.now (omega arith))
