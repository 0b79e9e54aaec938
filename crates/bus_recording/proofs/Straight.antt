-- Why straight cables are cables.
use Rattle.std.specs.Prelude.{nat_le}
use Rattle.std.proofs.Common.{◌≡◌, ℕ, ◌+◌, ◌-◌, ◌<◌, ◌≤◌, Bool, true, arith, sym, ap, ◌∙◌}
use Rattle.std.proofs.lemmas.Bool.{and_parts, le-leb, leb-true}
use Rattle.bus_clocks.specs.Entries.{Entry, In}
use Rattle.bus_clocks.specs.Courses.{Course}
use Rattle.bus_recording.specs.Places.{IsStraight, StraightIsClean, StraightIsPlaced, apart, arrives_at}
use Rattle.bus_recording.proofs.Recorded.{placed_clean}

module _ (c : Course) (drop : ℕ) (place : ℕ → ℕ) (on : Entry → ℕ → Bool) (straight : IsStraight c drop place on) (x : Entry) (i : In x c.list) (k : ℕ) where
  abbrev at : ℕ
  at = arrives_at place (place k) x

  sounds : (n : ℕ) → on x n ≡ true → c.hears x k (at + n) ≡ true
  sounds n h =
      let e : at + n - at ≡ n = omega arith in
      straight.hears x k (at + n) i ∙ rw (le-leb at (at + n) (omega arith), e) h

  heard : (t : ℕ) → c.hears x k t ≡ true → (at ≤ t) × (t < at + x.length)
  heard t h =
      let p = and_parts (nat_le at t) (on x (t - at)) (sym (straight.hears x k t i) ∙ h) in
      let low : at ≤ t = leb-true at t p.0 in
      let high : t - at < x.length = (straight.carrier x i).within (t - at) p.1 in
      (low, omega arith)

  filled : (t : ℕ) → at ≤ t → t < at + x.length → (u : ℕ) × (t ≤ u) × (u < t + drop) × (c.hears x k u ≡ true)
  filled t low high =
      let w = (straight.carrier x i).filled (t - at) (omega arith) in
      let from : t - at ≤ w.0 = w.1 in
      let to : w.0 < t - at + drop = w.2 in
      (at + w.0, omega arith, omega arith, sounds w.0 w.3)

  some : 0 < x.length
  some = (straight.carrier x i).within 0 (straight.carrier x i).first

pub straight_placed : StraightIsPlaced
straight_placed c place on k spot drop straight = record {
  steady = λ x i mine. ap (λ n. x.moment + apart (place n) spot) mine;
  itself = λ x i mine.
      let l : 0 < x.length = some c drop place on straight x i k in
      let at_once : arrives_at place (place k) x ≡ x.moment + apart (place k) (place k) = ap (λ n. x.moment + apart (place n) (place k)) mine in
      let begun : c.hears x k (arrives_at place (place k) x + 0) ≡ true = sounds c drop place on straight x i k 0 (straight.carrier x i).first in
      let ended : c.hears x k (arrives_at place (place k) x + (x.length - 1)) ≡ true = sounds c drop place on straight x i k (x.length - 1) (straight.carrier x i).last in
      record {
        within = λ t h. (
          (let low : arrives_at place (place k) x ≤ t = (heard c drop place on straight x i k t h).0 in omega arith),
          (let high : t < arrives_at place (place k) x + x.length = (heard c drop place on straight x i k t h).1 in omega arith),
        );
        first = arrives_at place (place k) x + 0;
        last = arrives_at place (place k) x + (x.length - 1);
        first_heard = begun;
        first_soon = omega arith;
        last_heard = ended;
        last_late = omega arith;
        filled = λ t low high. filled c drop place on straight x i k t (omega arith) (omega arith);
      };
  near = λ x i foreign.
      let l : 0 < x.length = some c drop place on straight x i k in
      record {
        within = λ t h. (
          (let low : arrives_at place (place k) x ≤ t = (heard c drop place on straight x i k t h).0 in omega arith),
          (let high : t < arrives_at place (place k) x + x.length = (heard c drop place on straight x i k t h).1 in omega arith),
        );
        first = arrives_at place (place k) x + 0;
        last = arrives_at place (place k) x + (x.length - 1);
        first_heard = sounds c drop place on straight x i k 0 (straight.carrier x i).first;
        first_soon = omega arith;
        last_heard = sounds c drop place on straight x i k (x.length - 1) (straight.carrier x i).last;
        last_late = omega arith;
        filled = λ t low high. filled c drop place on straight x i k t (omega arith) (omega arith);
      };
}

pub straight_clean : StraightIsClean
straight_clean c place on k from spot reach drop start longest settled recording kept bounds keeps within straight near f done since =
    placed_clean c k from (apart (place k) spot) reach drop start longest settled (arrives_at place spot) recording kept bounds keeps within
    (straight_placed c place on k spot drop straight) near f done since
