use Rattle.std.proofs.Common.{◌≡◌, ◌≤◌, [], ◌++◌, IfSome, length, take, arith, refl, sym, subst, ◌∙◌}
use Rattle.std.proofs.lemmas.List.{length-take}
use Rattle.bus_outer.specs.Sources.{Taken}
use Rattle.bus_outer.proofs.WriteLaws.{taken_on}
use Rattle.bus_command.specs.Heard.{next_line}
use Rattle.bus_command.proofs.LineLemmas.{piece_put, goes_on, ends, full_line, last_line, part_line, rest_of, rest_is, unfed, piece_fits, nothing_more, room_kept}
use Rattle.bus_command.proofs.heard.take_line.Goals as goal

pub pieces-preserved : goal.pieces-preserved
pieces-preserved g c =
    let b = c.in-Got.ensures.bytes in
    let k = c.pieces.count in
    let fits : k ≤ length c.pieces.line = omega (arith, c.pieces.invariant.room) in
    record {
      taken = subst (λ l. Taken (g.S.Source.left c.args.source.now) (g.S.Source.left c.pull_line.new.self) l)
          (sym (piece_put k _ c.in-Got.n c.pieces.line c.pull_line.new.buf fits b.1)) (taken_on _ _ _ _ _ c.pieces.invariant.taken b.2);
      feedless = goes_on k _ c.in-Got.n c.pieces.line c.pull_line.new.buf fits b.0 b.1 c.pieces.invariant.feedless c.in-Got.ensures.line
          (unfed _ c.if-line-count-eq10.false);
      fits = piece_fits k c.in-Got.n c.pieces.line c.pull_line.new.buf c.pieces.invariant.room c.pieces.invariant.fits c.pull_line.auto.buf b.1;
      room = room_kept k c.pieces.line c.pull_line.new.buf c.pieces.invariant.room c.pull_line.auto.buf;
      same = c.in-Got.ensures.counts ∙ c.pieces.invariant.same;
    }

pub returns-then-line-count-eq10-clause-taken : goal.returns-then-line-count-eq10-clause-taken
returns-then-line-count-eq10-clause-taken g c =
    let b = c.in-Got.ensures.bytes in
    let k = c.pieces.count in
    let fits : k ≤ length c.pieces.line = omega (arith, c.pieces.invariant.room) in
    let rest = rest_of (g.S.Source.left c.pull_line.new.self) in
    record {
      bytes = _;
      rest = rest;
      came = subst (λ l. Taken (g.S.Source.left c.args.source.now) (g.S.Source.left c.pull_line.new.self) l)
          (sym (piece_put k _ c.in-Got.n c.pieces.line c.pull_line.new.buf fits b.1)) (taken_on _ _ _ _ _ c.pieces.invariant.taken b.2);
      left = rest_is (g.S.Source.left c.pull_line.new.self);
      known = (
        refl,
        ends k _ c.in-Got.n c.pieces.line c.pull_line.new.buf fits b.0 b.1 c.pieces.invariant.feedless c.in-Got.ensures.line
            c.if-line-count-eq10.true
            (piece_fits k c.in-Got.n c.pieces.line c.pull_line.new.buf c.pieces.invariant.room c.pieces.invariant.fits c.pull_line.auto.buf b.1) rest,
      );
    }

pub returns-in-End-clause-taken : goal.returns-in-End-clause-taken
returns-in-End-clause-taken g c =
    let k = c.pieces.count in
    let old = g.S.Source.left c.pieces.source in
    let same = nothing_more k c.pieces.line c.pull_line.new.buf (omega (arith, c.pieces.invariant.room)) in
    let short : length (take k c.pieces.line) ≤ 32 = omega (arith, length-take k c.pieces.line) in
    record {
      bytes = _;
      rest = [];
      came = subst (λ l. Taken (g.S.Source.left c.args.source.now) (g.S.Source.left c.pull_line.new.self) l) (sym same)
          (subst (λ s. Taken (g.S.Source.left c.args.source.now) s (take k c.pieces.line)) (sym c.in-End.ensures.bytes.1) c.pieces.invariant.taken);
      left = subst (λ s. IfSome s (λ text. text ≡ [])) (sym c.in-End.ensures.bytes.1) c.in-End.ensures.bytes.0;
      known = (refl, subst (λ l. next_line (l ++ []) ≡ l) (sym same) (last_line (take k c.pieces.line) c.pieces.invariant.feedless short));
    }

pub returns-in-Failed-clause-taken : goal.returns-in-Failed-clause-taken
returns-in-Failed-clause-taken g c =
    let k = c.pieces.count in
    let rest = rest_of (g.S.Source.left c.pull_line.new.self) in
    let short : length (take k c.pieces.line) ≤ 32 = omega (arith, length-take k c.pieces.line) in
    record {
      bytes = take k c.pieces.line;
      rest = rest;
      came = subst (λ s. Taken (g.S.Source.left c.args.source.now) s (take k c.pieces.line)) (sym c.in-Failed.ensures.bytes) c.pieces.invariant.taken;
      left = rest_is (g.S.Source.left c.pull_line.new.self);
      known = part_line (take k c.pieces.line) rest c.pieces.invariant.feedless short;
    }

pub returns-clause-taken : goal.returns-clause-taken
returns-clause-taken g c =
    let rest = rest_of (g.S.Source.left c.pieces.source) in
    let long : length (take c.pieces.count c.pieces.line) ≡ 32 = omega (arith, length-take c.pieces.count c.pieces.line, c.pieces.invariant.room) in
    record {
      bytes = take c.pieces.count c.pieces.line;
      rest = rest;
      came = c.pieces.invariant.taken;
      left = rest_is (g.S.Source.left c.pieces.source);
      known = (refl, full_line _ rest c.pieces.invariant.feedless long);
    }
