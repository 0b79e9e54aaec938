use Rattle.std.proofs.Common.{Some, sym, ap, ◌∙◌, drop}
use Rattle.std.specs.Option.{option_map}
use Rattle.bus_wave.specs.inside.Digits.{frame_with, gathered}
use Rattle.bus_wave.proofs.DigitLemmas.{ten_heard, taken}
use Rattle.bus_wave.proofs.code.heard.Goals as goal

pub returns-in_err-kind : goal.returns-in_err-kind
returns-in_err-kind c =
    let e = ten_heard c.args.digits.now c.requires in
    let h = ap (taken (drop 2 c.args.digits.now)) (sym c.in_err-kind.ensures.value) in
    cc (e, h)

pub returns-in_err-bits : goal.returns-in_err-bits
returns-in_err-bits c =
    let e = ten_heard c.args.digits.now c.requires in
    let h = ap (taken (drop 2 c.args.digits.now)) (sym c.in_ok-kind.ensures.value) in
    let g = ap (option_map (frame_with c.in_ok-kind.kind)) (sym c.in_err-bits.ensures.value) in
    let d = ap (λ ds. option_map (frame_with c.in_ok-kind.kind) (gathered c.in_ok-kind.front ds)) (sym c.split_at.ensures.back) in
    cc (e, h, d, g)

pub returns : goal.returns
returns c =
    let e = ten_heard c.args.digits.now c.requires in
    let h = ap (taken (drop 2 c.args.digits.now)) (sym c.in_ok-kind.ensures.value) in
    let g = ap (option_map (frame_with c.in_ok-kind.kind)) (sym c.in_ok-bits.ensures.value) in
    let d = ap (λ ds. option_map (frame_with c.in_ok-kind.kind) (gathered c.in_ok-kind.front ds)) (sym c.split_at.ensures.back) in
    ap Some c.frame_with.ensures ∙ sym (e ∙ h ∙ d ∙ g)
