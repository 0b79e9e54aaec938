use Rattle.std.proofs.Common.{arith, ap, sym, ◌∙◌, ◌≡◌, ◌<◌, ◌≤◌, ◌⊎◌, inl, inr}
use Rattle.std.specs.Prelude.{true, false, ◌==◌, List}
use Rattle.std.specs.List.{list_any}
use Rattle.std.proofs.lemmas.Bool.{cases_lt}
use Rattle.bus_table.specs.Tables.{Sender}
use Rattle.bus_advice.specs.Changes.{with_gap}
use Rattle.bus_advice.specs.Advices.{works}
use Rattle.bus_advice.proofs.Searches.{above_some, above_none}
use Rattle.bus_advice.proofs.GapChange.{gap_works, gap_too_little, gap_taken, gap_too_much}
use Rattle.bus_advice.proofs.cycles.greater_gap.Goals as goal

pub loop-tg-init : goal.loop-tg-init
loop-tg-init c = λ m a b.
    let tg = c.tg.ensures.value in
    gap_too_little c.args.table.now c.args.sender.now c.args.deficit m c.sg.ensures.valid c.requires.short c.requires.among a (omega arith)

pub returns-then-not-is_taken : goal.returns-then-not-is_taken
returns-then-not-is_taken c =
    let tg = c.tg.ensures.value in
    let sg = c.sg.ensures.value in
    let some = c.requires.short.some in
    let above = c.loop-tg.auto.tg in
    let end = c.loop-tg-test.true in
    let least = c.min-end.ensures in
    let free : list_any (λ (s : Sender). s.tg == c.loop-tg.tg) c.args.table.now.senders ≡ false =
    ap (λ (l : List Sender). list_any (λ (s : Sender). s.tg == c.loop-tg.tg) l) (sym c.senders-senders.ensures.value) ∙ sym c.is_taken.ensures ∙ c.if-not-is_taken.true in
    above_some (λ n. works (with_gap c.args.sender.now.number n c.args.table.now)) c.args.sender.now.tg c.loop-tg.tg (omega arith) (omega arith)
    (gap_works c.args.table.now c.args.sender.now c.args.deficit c.loop-tg.tg c.sg.ensures.valid c.requires.short c.requires.among (omega arith) (omega arith) (omega arith) free)
    c.loop-tg.invariant

pub loop-tg-preserved : goal.loop-tg-preserved
loop-tg-preserved c = λ m a b.
    let tg = c.tg.ensures.value in
    let some = c.requires.short.some in
    let above = c.loop-tg.auto.tg in
    let taken : list_any (λ (s : Sender). s.tg == c.loop-tg.tg) c.args.table.now.senders ≡ true =
    ap (λ (l : List Sender). list_any (λ (s : Sender). s.tg == c.loop-tg.tg) l) (sym c.senders-senders.ensures.value) ∙ sym c.is_taken.ensures ∙ c.if-not-is_taken.false in
    elim (cases_lt m c.loop-tg.tg) [
      | inl less ↦ c.loop-tg.invariant m a less
      | inr rest ↦
          let same : c.loop-tg.tg ≡ m = omega arith in
          ap (λ n. works (with_gap c.args.sender.now.number n c.args.table.now)) (sym same)
          ∙ gap_taken c.args.table.now c.args.sender.now c.args.deficit c.loop-tg.tg c.sg.ensures.valid c.requires.short c.requires.among (omega arith) taken
    ]

pub returns : goal.returns
returns c =
    let sg = c.sg.ensures.value in
    let least = c.min-end.ensures in
    let past = c.loop-tg-test.false in
    above_none (λ n. works (with_gap c.args.sender.now.number n c.args.table.now)) c.args.sender.now.tg (λ m a b.
    elim (cases_lt m c.loop-tg.tg) [
      | inl less ↦ c.loop-tg.invariant m a less
      | inr rest ↦
          let high : (256 < m) ⊎ (c.args.table.now.sg ≤ m) = elim (cases_lt 256 m) [
            | inl more ↦ inl more
            | inr few ↦ inr (omega arith)
          ] in
          gap_too_much c.args.table.now c.args.sender.now c.args.deficit m c.sg.ensures.valid c.requires.short c.requires.among a high
    ])
