use Rattle.std.proofs.Common.{arith, ◌≡◌, [], ◌∙◌, ap, sym, length, vec_len}
use Rattle.std.proofs.lemmas.Bool.{eqb-true}
use Rattle.bus_trace.specs.States.{text_of}
use Rattle.bus_trace.specs.Runs.{Standing}
use Rattle.bus_trace.proofs.Walks.{kept, not_kept, close_gives, close_long, front_closes, is_nil}
use Rattle.bus_trace.proofs.walk.Walk.close.Goals as goal

pub returns-then-not-branch : goal.returns-then-not-branch
returns-then-not-branch c =
    let k = not_kept _ _ _ _ c.if-not-branch.true c.in_ok-keep.ensures in
    close_long c.args.self.now c.args.front.now c.used.result k.1 (c.used.ensures ∙ ap (λ (s : Standing). length (text_of s.state)) k.0)

pub returns : goal.returns
returns c =
    let k = kept _ _ _ _ c.if-not-branch.false c.in_ok-keep.ensures in
    close_gives c.args.self.now c.keep.new.self c.judge.new.self c.args.front.now c.judge.result k.0 k.1 c.judge.ensures

pub returns-then-front-le-LINE_LIMIT : goal.returns-then-front-le-LINE_LIMIT
returns-then-front-le-LINE_LIMIT c =
    let inside : c.self.inside.line.items ≡ [] = is_nil c.self.inside.line.items
    (omega (arith, eqb-true (vec_len c.self.inside.line) 0 (sym c.is_empty.ensures ∙ c.if-is_empty.true), c.self.inside.line.ok.0)) in
    let empty = sym (ap (λ (r : Standing). r.line) c.self.view_is) ∙ inside in
    front_closes c.args.self.now c.judge_front.new.self c.args.front.now c.judge_front.result empty c.requires.one
    c.if-front-le-LINE_LIMIT.true c.judge_front.ensures
