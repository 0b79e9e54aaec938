-- The test that computes says what the definition says.
use Rattle.std.proofs.Common.{◌≡◌, ℕ, zero, suc, ◌+◌, ◌-◌, ◌<◌, ◌≤◌, Bool, true, false, not, ◌&&◌, ◌||◌, leb, List, [], ◌∷◌, length, get_or, take, drop, Option, Some, None, inl, inr, arith, sym, refl, ap, ◌∙◌}
use Rattle.std.specs.List.{list_any, list_all, range_with_len}
use Rattle.std.proofs.lemmas.Bool.{cases_lt, true≢false, leb-true, le-leb, and_parts}
use Rattle.std.proofs.lemmas.List.{get_or-take, get_or-drop, length-take, length-drop}
use Rattle.bus_timers.specs.Timings.{due_place}
use Rattle.bus_timers.specs.MayStart.{IsQuiet, IsSync}
use Rattle.bus_timers.specs.MayStartTest.{is_quiet, is_behind, is_sync, TestDecides}

all_not : (xs : List Bool) → list_all (λ b. not b) xs ≡ true → (k : ℕ) → k < length xs → get_or xs k true ≡ false
all_not [] h k l = absurd (omega arith)
all_not (true ∷ xs) h k l = absurd (true≢false (sym h))
all_not (false ∷ xs) h zero l = refl
all_not (false ∷ xs) h (suc k) l = all_not xs h k (omega arith)

from_not : (xs : List Bool) → ((k : ℕ) → k < length xs → get_or xs k true ≡ false) → list_all (λ b. not b) xs ≡ true
from_not [] h = refl
from_not (true ∷ xs) h = absurd (true≢false (h 0 (omega arith)))
from_not (false ∷ xs) h = from_not xs (λ k l. h (suc k) (omega arith))

quiet_from : (past : List Bool) (i j : ℕ) → j ≤ length past → is_quiet past i j ≡ true → IsQuiet past i j
quiet_from past i j fits h k low high =
    let l : k - i < length (take (j - i) (drop i past)) = omega (arith, length-take (j - i) (drop i past), length-drop i past) in
    let at : i + (k - i) ≡ k = omega arith in
    sym (get_or-take (j - i) (drop i past) (k - i) true (omega arith) ∙ get_or-drop i past (k - i) true ∙ ap (λ n. get_or past n true) at) ∙ all_not (take (j - i) (drop i past)) h (k - i) l

quiet_to : (past : List Bool) (i j : ℕ) → IsQuiet past i j → is_quiet past i j ≡ true
quiet_to past i j q = from_not (take (j - i) (drop i past)) (λ k l.
    let b : k < j - i = omega (arith, length-take (j - i) (drop i past)) in
    get_or-take (j - i) (drop i past) k true b ∙ get_or-drop i past k true ∙ q (i + k) (omega arith) (omega arith))

pub any_range : (p : ℕ → Bool) (a n e : ℕ) → a ≤ e → e < a + n → p e ≡ true → list_any p (range_with_len a n) ≡ true
any_range p a zero e low high h = absurd (omega arith)
any_range p a (suc n) e low high h =
    elim (cases_lt a e) [
      | inl later ↦ elim (p a) as (λ b. (b || list_any p (range_with_len (a + 1) n)) ≡ true) [ true ↦ refl | false ↦ any_range p (a + 1) n e (omega arith) (omega arith) h ]
      | inr here ↦ rw (ap p (let x : a ≡ e = omega arith in x) ∙ h) refl
    ]

from_range : (p : ℕ → Bool) (a n : ℕ) → list_any p (range_with_len a n) ≡ true → (e : ℕ) × (e < a + n) × (p e ≡ true)
from_range p a zero h = absurd (true≢false (sym h))
from_range p a (suc n) h =
    elim (p a) as (λ b. p a ≡ b → (b || list_any p (range_with_len (a + 1) n)) ≡ true → (e : ℕ) × (e < a + suc n) × (p e ≡ true)) [
      | true ↦ λ e k. (a, omega arith, e)
      | false ↦ λ e k. let f = from_range p (a + 1) n k in (f.0, (let l : f.0 < a + 1 + n = f.1 in omega arith), f.2)
    ] refl h

behind_from : (last : Option ℕ) (place start : ℕ) → is_behind (Some start) place ≡ true → start ≤ place
behind_from last place start h = leb-true start place h

sync_from : (sg : ℕ) (past : List Bool) (last : Option ℕ) (e : ℕ) → e ≤ length past → is_sync sg past last e ≡ true → IsSync sg past last e
sync_from sg past None e fits h =
    let a = and_parts (leb sg e && is_quiet past (e - sg) e) true h in let b = and_parts (leb sg e) (is_quiet past (e - sg) e) a.0 in
    record { long = leb-true sg e b.0; quiet = quiet_from past (e - sg) e fits b.1; own = tt }
sync_from sg past (Some start) e fits h =
    let a = and_parts (leb sg e && is_quiet past (e - sg) e) (leb start (e - sg)) h in let b = and_parts (leb sg e) (is_quiet past (e - sg) e) a.0 in
    record { long = leb-true sg e b.0; quiet = quiet_from past (e - sg) e fits b.1; own = leb-true start (e - sg) a.1 }

sync_to : (sg : ℕ) (past : List Bool) (last : Option ℕ) (e : ℕ) → IsSync sg past last e → is_sync sg past last e ≡ true
sync_to sg past None e s = rw (le-leb sg e s.long, quiet_to past (e - sg) e s.quiet) refl
sync_to sg past (Some start) e s = rw (le-leb sg e s.long, quiet_to past (e - sg) e s.quiet, le-leb start (e - sg) s.own) refl

pub may_start_is : TestDecides
may_start_is timing past last =
    let n : ℕ = length past in
    let p : ℕ → Bool = λ e. is_sync timing.sg past last e in (
      (λ h.
          let a = and_parts (leb (due_place timing last) (length past) && list_any p (range_with_len 0 (length past + 1 - timing.tg)) && leb timing.tg (length past)) (is_quiet past (length past - timing.tg) (length past)) h in
          let b = and_parts (leb (due_place timing last) (length past) && list_any p (range_with_len 0 (length past + 1 - timing.tg))) (leb timing.tg (length past)) a.0 in
          let c = and_parts (leb (due_place timing last) (length past)) (list_any p (range_with_len 0 (length past + 1 - timing.tg))) b.0 in
          let f = from_range p 0 (length past + 1 - timing.tg) c.1 in
          let below : f.0 < 0 + (length past + 1 - timing.tg) = f.1 in
          record {
            interval = leb-true (due_place timing last) (length past) c.0;
            synchronized = (f.0, omega arith, sync_from timing.sg past last f.0 (omega arith) f.2);
            gap_fits = leb-true timing.tg (length past) b.1;
            gap = quiet_from past (length past - timing.tg) (length past) (omega arith) a.1;
          }),
      (λ may.
          let e : ℕ = may.synchronized.0 in
          let room : may.synchronized.0 + timing.tg ≤ length past = may.synchronized.1 in
          rw (
            le-leb (due_place timing last) (length past) may.interval,
            any_range p 0 (length past + 1 - timing.tg) may.synchronized.0 (omega arith) (omega arith) (sync_to timing.sg past last may.synchronized.0 may.synchronized.2),
            le-leb timing.tg (length past) may.gap_fits,
            quiet_to past (length past - timing.tg) (length past) may.gap,
          ) refl),
    )
