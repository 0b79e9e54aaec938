use Rattle.std.proofs.Common.{ℕ, ◌≤◌, List, arith, sym, subst, ap, ◌∙◌, Result, Ok}
use Rattle.std.specs.List.{slice_split}
use Rattle.bus_strings.specs.Limits.{horizon_limit}
use Rattle.bus_strings.specs.Messages.{Entry}
use Rattle.bus_table.specs.Tables.{Sender}
use Rattle.bus_text.specs.Lines.{is_feed}
use Rattle.bus_trace.specs.Traces.{Recording}
use Rattle.bus_text.specs.declared.error.TextError.{TextError}
use Rattle.bus_wave.specs.Counted.{holds_of}
use Rattle.bus_wave.specs.inside.Drafts.{state_of}
use Rattle.bus_text.specs.inside.Gives.{LineFails}
use Rattle.bus_text.specs.Gives.{Fails}
use Rattle.bus_wave.specs.inside.Parts.{fault_at}
use Rattle.bus_wave.specs.declared.fault.WaveReason.{WaveReason}
use Rattle.bus_wave.specs.Judging.{State, opening}
use Rattle.bus_wave.specs.Reading.{WaveRefusal, judge, pieces_reading}
use Rattle.bus_wave.proofs.ReadLemmas.{judged_read, line_more, line_fails, text_ended, undone, done_is}
use Rattle.bus_wave.proofs.reading.read_lines.Goals as goal

pub returns-in-Err : goal.returns-in-Err
returns-in-Err c =
    let table = c.args.table.now in
    let s = state_of c.loop-line.draft in
    let h = c.in-Some.ensures.line in
    let low : s.at ≤ horizon_limit = (let k = c.loop-line.invariant.keeps.low in omega arith) in
    let g = subst (λ (r : Result State WaveReason). LineFails c.in-Err.fault r) (judged_read c.in_ok-beginners.beginners.senders.now s h.first c.in-Some.line low h.reads) c.in-Err.ensures.gives in
    let j = subst (λ (ss : List Sender). LineFails c.in-Err.fault (judge ss s h.first)) c.in_ok-beginners.ensures g in
    let f = line_fails table c.loop-line.number s c.loop-line.rest.now h.first c.in-Some.behind.now c.in-Err.fault h.pieces j in
    subst (λ (e : TextError WaveReason). Fails e (pieces_reading table 2 opening (slice_split is_feed c.args.text.now))) (sym c.error_at.ensures)
    (subst (λ (r : Result Recording WaveRefusal). Fails (fault_at c.loop-line.number c.in-Err.fault) r) c.loop-line.invariant.left f)

pub loop-line-preserved : goal.loop-line-preserved
loop-line-preserved c =
    let table = c.args.table.now in
    let s = state_of c.loop-line.draft in
    let h = c.in-Some.ensures.line in
    let low : s.at ≤ horizon_limit = (let k = c.loop-line.invariant.keeps.low in omega arith) in
    let j = ap (λ (ss : List Sender). judge ss s h.first) (sym c.in_ok-beginners.ensures)
    ∙ sym (judged_read c.in_ok-beginners.beginners.senders.now s h.first c.in-Some.line low h.reads) ∙ c.in_default-take_line.ensures.gives in
    record {
      keeps = c.in_default-take_line.ensures.keeps;
      left = sym (line_more table c.loop-line.number s (state_of c.take_line.new.draft) c.loop-line.rest.now h.first c.in-Some.behind.now h.pieces j)
          ∙ c.loop-line.invariant.left;
      room = omega (arith, c.in-Some.ensures.shorter, c.loop-line.invariant.room);
    }

pub returns-then-not-is_done : goal.returns-then-not-is_done
returns-then-not-is_done c =
    let s = state_of c.loop-line.draft in
    sym c.loop-line.invariant.left
    ∙ text_ended c.args.table.now c.loop-line.number s c.loop-line.rest.now c.in_default.ensures.line
    ∙ undone c.args.table.now c.loop-line.number s c.loop-line.rest.now (sym c.if-not-is_done.ensures)

pub returns : goal.returns
returns c =
    let table = c.args.table.now in
    let s = state_of c.loop-line.draft in
    sym c.loop-line.invariant.left
    ∙ text_ended table c.loop-line.number s c.loop-line.rest.now c.in_default.ensures.line
    ∙ done_is table c.loop-line.number s c.loop-line.rest.now (sym c.if-not-is_done.ensures)
    ∙ ap (λ (n : ℕ). (let r : Result Recording WaveRefusal = Ok (record { horizon = n; holds = holds_of table s.list; list = s.list }) in r)) (sym c.into_parts.ensures.at)
    ∙ ap (λ (l : List Entry). (let r : Result Recording WaveRefusal = Ok (record { horizon = c.into_parts.result.0; holds = holds_of table l; list = l }) in r)) (sym c.into_parts.ensures.list)
