use Rattle.std.proofs.Common.{◌∙◌, sym, length}
use Rattle.std.proofs.lemmas.Bool.{eqb-true}
use Rattle.bus_trace.proofs.QuickLines.{match_given}
use Rattle.bus_trace.proofs.Walks.{is_nil, walks_begin, walks_took, walks_nowhere}
use Rattle.bus_trace.proofs.walk.Walk.walk_quickly.Goals as goal

pub returns-then-not-is_empty : goal.returns-then-not-is_empty
returns-then-not-is_empty c = walks_nowhere c.args.self.now c.args.piece.now

pub loop-behind-init : goal.loop-behind-init
loop-behind-init c = record {
  walks = walks_begin c.args.self.now c.args.piece.now;
  empty =
      sym c.pending.ensures.value
      ∙ is_nil c.pending.result.now (eqb-true (length c.pending.result.now) 0 (sym c.is_empty.ensures ∙ c.if-not-is_empty.false));
}

pub loop-behind-preserved : goal.loop-behind-preserved
loop-behind-preserved c =
    let took = match_given c.in_ok-behind.field-0 c.in-Some.behind _ _ c.in-Some.is c.in_ok-behind.ensures in
    record {
      walks =
          walks_took c.args.self.now c.loop-behind.self c.take_quickly.new.self c.args.piece.now c.loop-behind.rest.now c.in-Some.behind.now
          c.loop-behind.invariant.walks took;
      empty = took.none_begun;
    }
