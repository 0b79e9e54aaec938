use Rattle.std.proofs.Common.{◌≡◌, ◌<◌, ◌-◌, ◌==◌, ℕ, suc, length, drop, sym, ap, ◌∙◌, arith}
use Rattle.std.proofs.lemmas.List.{length-set, length-replicate}
use Rattle.bus_table.proofs.ValidLaws.{valid_facts}
use Rattle.bus_wave.specs.Judging.{beginner}
use Rattle.bus_wave.proofs.PlaceLemmas.{none_placed, place_more}
use Rattle.bus_wave.proofs.beginners.Beginners.new.Goals as goal

pub loop-place-init : goal.loop-place-init
loop-place-init c = record {
  within = omega arith;
  all = ap length c.in_ok-places.ensures ∙ (let none : ℕ = 0 in length-replicate 65536 none);
  found = none_placed c.senders-senders.result.now c.in_ok-places.places.items 65536 c.in_ok-places.ensures;
}

pub overflow_cast-place : goal.overflow_cast-place
overflow_cast-place c =
    let few = (valid_facts c.args.table.now c.senders-senders.ensures.valid).few in
    omega (arith, few, ap length c.senders-senders.ensures.value, c.loop-place.invariant.within)

pub loop-place-preserved : goal.loop-place-preserved
loop-place-preserved c =
    let place = c.loop-place.place in
    let places = c.loop-place.places.items in
    let senders = c.senders-senders.result.now in
    let word = c.from.result in
    let next : place ≡ suc (place - 1) = omega (arith, c.loop-place-test.true) in
    let room : word < length places = omega (arith, c.loop-place.invariant.all, c.from.ensures, c.first_word-word.type_inv) in
    record {
      within = omega (arith, c.loop-place.invariant.within);
      all = length-set _ _ _ ∙ c.loop-place.invariant.all;
      found = place_more senders c.index-senders-place.result places (place - 1) place word next c.loop-place.invariant.within c.index-senders-place.is
          (λ value. c.first_word-word.ensures value ∙ ap (λ (w : ℕ). value == w) (sym c.from.ensures)) room c.loop-place.invariant.found;
    }

pub invariant_of-result : goal.invariant_of-result
invariant_of-result c =
    let senders = c.senders-senders.result.now in
    let none : c.loop-place.place ≡ 0 = omega (arith, c.loop-place-test.false) in
    record {
      placed = record {
        all = c.loop-place.invariant.all;
        found = λ value low. c.loop-place.invariant.found value low ∙ ap (λ k. beginner (drop k senders) value) none;
      };
    }
