use Rattle.std.proofs.Common.{◌≡◌, ℕ, ◌+◌, ◌<◌, refl, sym, ap, ◌∙◌, subst, get_or, set, take, length, arith}
use Rattle.std.proofs.lemmas.List.{get_or-replicate, length-set}
use Rattle.bus_strings.specs.Messages.{Entry}
use Rattle.bus_wave.specs.Counted.{entries_of}
use Rattle.bus_wave.proofs.CountLemmas.{counted_more}
use Rattle.bus_wave.proofs.holds.counts.Goals as goal

pub loop-entry-init : goal.loop-entry-init
loop-entry-init c = record { all = refl; counted = λ number low. get_or-replicate 256 number 0 0 low }

pub loop-entry-preserved : goal.loop-entry-preserved
loop-entry-preserved c =
    let x : Entry = c.entry-item.result in
    let counts = c.loop-entry.counts in
    let i = c.loop-entry.entry-index in
    let same : x.terminal ≡ c.entry.inside.terminal = sym (ap (λ (y : Entry). y.terminal) c.entry.view_is) in
    let low : x.terminal < length counts = omega (arith, c.loop-entry.invariant.all, c.entry.invariant) in
    record {
      all = length-set _ _ _ ∙ c.loop-entry.invariant.all;
      counted = subst (λ (t : ℕ). (number : ℕ) → number < 256 → get_or (set counts t (get_or counts t 0 + 1)) number 0 ≡ entries_of (take (i + 1) c.args.list.now) number) same
          (counted_more c.args.list.now i x counts (get_or counts x.terminal 0 + 1) c.loop-entry-test.true c.entry-item.is low refl c.loop-entry.invariant.counted);
    }
