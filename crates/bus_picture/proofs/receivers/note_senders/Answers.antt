use Rattle.std.proofs.Common.{◌≡◌, ℕ, ◌+◌, List, ◌++◌, ◌∷◌, [], map, take, arith, sym, ap, subst, ◌∙◌}
use Rattle.std.proofs.lemmas.List.{map-append, take_all, take_more}
use Rattle.bus_table.specs.declared.line.TakeLine.{TakeLine}
use Rattle.bus_table.specs.Tables.{Sender}
use Rattle.bus_filter.specs.Received.{Taker, sender_taker}
use Rattle.bus_picture.specs.inside.Noting.{AreNoted, LinesNoted}
use Rattle.bus_picture.proofs.TakingLemmas.{taker_more}
use Rattle.bus_picture.proofs.receivers.note_senders.Goals as goal

pub loop-k-init : goal.loop-k-init
loop-k-init c = record { kept = λ j h. h; noted = λ taker i. absurd i }

pub loop-k-preserved : goal.loop-k-preserved
loop-k-preserved c =
    let i = c.loop-k.invariant in
    let all : List Sender = c.args.senders.now in
    let one : Sender = c.index-senders-k.result in
    let may = c.note.new.may in
    let lines : LinesNoted one.number one.takes may =
    subst (λ (takes : List TakeLine). LinesNoted one.number takes may) c.takes.ensures.value
    (subst (λ (n : ℕ). LinesNoted n c.takes.result.now may) c.number.ensures.value c.note.ensures.noted) in
    let more : map sender_taker (take (c.loop-k.k + 1) all) ≡ map sender_taker (take c.loop-k.k all) ++ sender_taker one ∷ [] =
    ap (map sender_taker) (take_more all c.loop-k.k one c.loop-k-test.true ∙ ap (λ (s : Sender). take c.loop-k.k all ++ s ∷ []) (sym c.index-senders-k.is))
    ∙ map-append sender_taker (take c.loop-k.k all) (one ∷ []) in
    record {
      kept = λ j h. c.note.ensures.kept j (i.kept j h);
      noted = subst (λ (ts : List Taker). AreNoted ts may) (sym more)
          (taker_more (map sender_taker (take c.loop-k.k all)) (sender_taker one) c.loop-k.may may c.note.ensures.kept i.noted lines);
    }

pub returns-clause-noted : goal.returns-clause-noted
returns-clause-noted c =
    subst (λ (some : List Sender). AreNoted (map sender_taker some) c.loop-k.may) (take_all c.loop-k.k c.args.senders.now (omega arith)) c.loop-k.invariant.noted
