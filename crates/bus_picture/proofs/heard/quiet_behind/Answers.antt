use Rattle.std.proofs.Common.{◌≡◌, ◌<◌, ◌≤◌, ◌^◌, arith, ap, sym}
use Rattle.bus_strings.specs.Messages.{Entry, bits}
use Rattle.bus_strings.specs.Transmissions.{end_of}
use Rattle.bus_strings.proofs.KeptLemmas.{bits_within}
use Rattle.bus_picture.proofs.heard.quiet_behind.Goals as goal

pub overflow_add-from : goal.overflow_add-from
overflow_add-from c =
    let x : Entry = c.args.x.now in
    let at : x.moment ≡ c.x.inside.moment = sym (ap (λ (y : Entry). y.moment) c.x.view_is) in
    let low : c.x.inside.moment < 2 ^ 40 = c.x.invariant.2 in
    let b : bits x.message ≤ 159460 = (bits_within x.message c.end.ensures.ranges).1 in
    let is : c.end.result ≡ end_of x = c.end.ensures.value in
    let quiet : c.args.quiet < 2 ^ 32 = c.ranges.quiet.fits in
    omega (arith, c.from.ensures)

pub returns-clause-far : goal.returns-clause-far
returns-clause-far c =
    let x : Entry = c.args.x.now in
    let at : x.moment ≡ c.x.inside.moment = sym (ap (λ (y : Entry). y.moment) c.x.view_is) in
    let low : c.x.inside.moment < 2 ^ 40 = c.x.invariant.2 in
    let b : bits x.message ≤ 159460 = (bits_within x.message c.end.ensures.ranges).1 in
    let is : c.end.result ≡ end_of x = c.end.ensures.value in
    let quiet : c.args.quiet < 2 ^ 32 = c.ranges.quiet.fits in
    omega (arith, c.max.ensures, c.from.ensures, c.requires)
