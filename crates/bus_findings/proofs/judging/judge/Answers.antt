use Rattle.std.specs.Prelude.{None, slice_get}
use Rattle.std.proofs.Common.{◌≡◌, ◌<◌, Some, length, get_or, arith, sym, ap, subst, ◌∙◌}
use Rattle.std.proofs.lemmas.List.{length-set}
use Rattle.std.proofs.lemmas.Option.{slice_get-get_or}
use Rattle.bus_strings.specs.Messages.{Entry}
use Rattle.bus_table.specs.Fits.{sender_of}
use Rattle.bus_table.proofs.ValidLaws.{valid_facts}
use Rattle.bus_findings.specs.declared.watch.Watch.{Watch}
use Rattle.bus_findings.specs.inside.Standing.{IsWatch}
use Rattle.bus_findings.proofs.PlaceLemmas.{read_is}
use Rattle.bus_findings.proofs.SenderLemmas.{no_place, at_place, place_same, found_number, judged_stranger, judged_sender, watched_stranger, watched_sender}
use Rattle.bus_findings.proofs.judging.judge.Goals as goal

pub returns-in_default-clause-value : goal.returns-in_default-clause-value
returns-in_default-clause-value c = λ x at.
    let table = c.args.table.now in
    let list = c.args.list.now in
    let it : c.index-list-i.result ≡ x = read_is list c.args.i c.index-list-i.result x c.index-list-i.is at in
    let number : c.x.inside.terminal ≡ x.terminal = ap (λ (z : Entry). z.terminal) (c.x.view_is ∙ it) in
    let placed = place_same table.senders c.senders-senders.result.now x.terminal c.x.inside.terminal c.senders-senders.ensures.value number in
    let none : sender_of table.senders x.terminal ≡ None = no_place table.senders x.terminal (sym placed ∙ sym c.place_of.ensures ∙ c.in_default.is) in
    c.of_stranger.ensures x at ∙ sym (judged_stranger c.args.bounds table list x none)

pub returns-in_default-clause-watched : goal.returns-in_default-clause-watched
returns-in_default-clause-watched c =
    let table = c.args.table.now in
    let list = c.args.list.now in
    let x = c.index-list-i.result in
    let at = slice_get-get_or list c.args.i x c.requires.here ∙ ap Some (sym c.index-list-i.is) in
    let number : c.x.inside.terminal ≡ x.terminal = ap (λ (z : Entry). z.terminal) c.x.view_is in
    let placed = place_same table.senders c.senders-senders.result.now x.terminal c.x.inside.terminal c.senders-senders.ensures.value number in
    let none : sender_of table.senders x.terminal ≡ None = no_place table.senders x.terminal (sym placed ∙ sym c.place_of.ensures ∙ c.in_default.is) in
    watched_stranger c.args.bounds table list c.args.i x c.args.watches.now at none c.requires.watched

pub of_sender-judgement-requires-clause-watch : goal.of_sender-judgement-requires-clause-watch
of_sender-judgement-requires-clause-watch c =
    let table = c.args.table.now in
    let s = c.index-senders-k.result in
    let k = c.in-Some.k in
    let x = c.index-list-i.result in
    let number : c.x.inside.terminal ≡ x.terminal = ap (λ (z : Entry). z.terminal) c.x.view_is in
    let placed = place_same table.senders c.senders-senders.result.now x.terminal c.x.inside.terminal c.senders-senders.ensures.value number in
    let w = at_place table.senders x.terminal k (sym placed ∙ sym c.place_of.ensures ∙ c.in-Some.is) in
    let low : k < length c.senders-senders.result.now = omega (arith, w.0, ap length c.senders-senders.ensures.value) in
    let here : slice_get table.senders k ≡ Some s =
    ap (λ l. slice_get l k) (sym c.senders-senders.ensures.value) ∙ slice_get-get_or c.senders-senders.result.now k s low ∙ ap Some (sym c.index-senders-k.is) in
    c.requires.watched.each k s _ here (slice_get-get_or c.args.watches.now k _ (omega (arith, w.0, c.requires.watched.enough)))

pub started-requires-clause-judged : goal.started-requires-clause-judged
started-requires-clause-judged c = λ x at.
    let table = c.args.table.now in
    let list = c.args.list.now in
    let s = c.index-senders-k.result in
    let k = c.in-Some.k in
    let it : c.index-list-i.result ≡ x = read_is list c.args.i c.index-list-i.result x c.index-list-i.is at in
    let number : c.x.inside.terminal ≡ x.terminal = ap (λ (z : Entry). z.terminal) (c.x.view_is ∙ it) in
    let placed = place_same table.senders c.senders-senders.result.now x.terminal c.x.inside.terminal c.senders-senders.ensures.value number in
    let w = at_place table.senders x.terminal k (sym placed ∙ sym c.place_of.ensures ∙ c.in-Some.is) in
    let low : k < length c.senders-senders.result.now = omega (arith, w.0, ap length c.senders-senders.ensures.value) in
    let here : slice_get table.senders k ≡ Some s =
    ap (λ l. slice_get l k) (sym c.senders-senders.ensures.value) ∙ slice_get-get_or c.senders-senders.result.now k s low ∙ ap Some (sym c.index-senders-k.is) in
    let some : sender_of table.senders x.terminal ≡ Some s = w.1 ∙ here in
    c.of_sender-judgement.ensures x at (sym (found_number table.senders x.terminal s some)) ∙ sym (judged_sender c.args.bounds table list x s some)

pub started-requires-clause-watch : goal.started-requires-clause-watch
started-requires-clause-watch c = λ x at.
    let table = c.args.table.now in
    let list = c.args.list.now in
    let s = c.index-senders-k.result in
    let k = c.in-Some.k in
    let it : c.index-list-i.result ≡ x = read_is list c.args.i c.index-list-i.result x c.index-list-i.is at in
    let number : c.x.inside.terminal ≡ x.terminal = ap (λ (z : Entry). z.terminal) (c.x.view_is ∙ it) in
    let placed = place_same table.senders c.senders-senders.result.now x.terminal c.x.inside.terminal c.senders-senders.ensures.value number in
    let w = at_place table.senders x.terminal k (sym placed ∙ sym c.place_of.ensures ∙ c.in-Some.is) in
    let low : k < length c.senders-senders.result.now = omega (arith, w.0, ap length c.senders-senders.ensures.value) in
    let here : slice_get table.senders k ≡ Some s =
    ap (λ l. slice_get l k) (sym c.senders-senders.ensures.value) ∙ slice_get-get_or c.senders-senders.result.now k s low ∙ ap Some (sym c.index-senders-k.is) in
    let mine = found_number table.senders x.terminal s (w.1 ∙ here) in
    let none : Watch = record { last = None; own_end = 0; starts = 0; faults = 0; least = None; most = None } in
    let kept : Watch = get_or c.args.watches.now k none in
    subst (λ n. IsWatch c.args.bounds table list n c.args.i kept) mine
    (c.requires.watched.each k s kept here (slice_get-get_or c.args.watches.now k none (omega (arith, w.0, c.requires.watched.enough))))

pub returns-clause-value : goal.returns-clause-value
returns-clause-value c = λ x at.
    let table = c.args.table.now in
    let list = c.args.list.now in
    let s = c.index-senders-k.result in
    let k = c.in-Some.k in
    let it : c.index-list-i.result ≡ x = read_is list c.args.i c.index-list-i.result x c.index-list-i.is at in
    let number : c.x.inside.terminal ≡ x.terminal = ap (λ (z : Entry). z.terminal) (c.x.view_is ∙ it) in
    let placed = place_same table.senders c.senders-senders.result.now x.terminal c.x.inside.terminal c.senders-senders.ensures.value number in
    let w = at_place table.senders x.terminal k (sym placed ∙ sym c.place_of.ensures ∙ c.in-Some.is) in
    let low : k < length c.senders-senders.result.now = omega (arith, w.0, ap length c.senders-senders.ensures.value) in
    let here : slice_get table.senders k ≡ Some s =
    ap (λ l. slice_get l k) (sym c.senders-senders.ensures.value) ∙ slice_get-get_or c.senders-senders.result.now k s low ∙ ap Some (sym c.index-senders-k.is) in
    let some : sender_of table.senders x.terminal ≡ Some s = w.1 ∙ here in
    c.of_sender-judgement.ensures x at (sym (found_number table.senders x.terminal s some)) ∙ sym (judged_sender c.args.bounds table list x s some)

pub returns-clause-watched : goal.returns-clause-watched
returns-clause-watched c =
    let table = c.args.table.now in
    let list = c.args.list.now in
    let s = c.index-senders-k.result in
    let k = c.in-Some.k in
    let x = c.index-list-i.result in
    let at = slice_get-get_or list c.args.i x c.requires.here ∙ ap Some (sym c.index-list-i.is) in
    let number : c.x.inside.terminal ≡ x.terminal = ap (λ (z : Entry). z.terminal) c.x.view_is in
    let placed = place_same table.senders c.senders-senders.result.now x.terminal c.x.inside.terminal c.senders-senders.ensures.value number in
    let w = at_place table.senders x.terminal k (sym placed ∙ sym c.place_of.ensures ∙ c.in-Some.is) in
    let low : k < length c.senders-senders.result.now = omega (arith, w.0, ap length c.senders-senders.ensures.value) in
    let here : slice_get table.senders k ≡ Some s =
    ap (λ l. slice_get l k) (sym c.senders-senders.ensures.value) ∙ slice_get-get_or c.senders-senders.result.now k s low ∙ ap Some (sym c.index-senders-k.is) in
    let mine = found_number table.senders x.terminal s (w.1 ∙ here) in
    let within : k < length c.args.watches.now = omega (arith, w.0, c.requires.watched.enough) in
    watched_sender c.args.bounds table list c.args.i k x s c.args.watches.now c.started.result at (valid_facts table c.senders-senders.ensures.valid).numbers here mine within
    (length-set c.args.watches.now k c.started.result) (c.started.ensures x at) c.requires.watched
