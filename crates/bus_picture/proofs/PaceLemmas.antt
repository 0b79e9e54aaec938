-- A walk finds how far starts lie apart.
use Rattle.std.proofs.Common.{◌≡◌, ℕ, ◌-◌, true, false, cond, max, min, List, [], ◌∷◌, ◌++◌, filter, map, Option, Some, None, append-nil, arith, refl, sym, ap, ◌∙◌}
use Rattle.std.specs.Prelude.{fold}
use Rattle.std.proofs.lemmas.List.{append_assoc}
use Rattle.std.proofs.lemmas.List.Sums.{fold-append}
use Rattle.bus_strings.specs.Messages.{Entry}
use Rattle.bus_pen.specs.declared.scale.Scale.{Scale}
use Rattle.bus_picture.specs.Paces.{Pace, pace, pace_of, start_moments, starts, times, times_from}
use Rattle.bus_picture.specs.inside.Pacing.{Pacing, pace_behind, paced, unpaced, widened, with_start}

abbrev last_from : Option ℕ → List ℕ → Option ℕ
last_from o [] = o
last_from o (t ∷ ts) = last_from (Some t) ts

-- What is kept of these starts.
abbrev kept : List ℕ → Pacing
kept ts = record { last = last_from None ts; pace = pace_of (times ts) }

last_push : (o : Option ℕ) (ts : List ℕ) (t : ℕ) → last_from o (ts ++ t ∷ []) ≡ Some t
last_push o [] t = refl
last_push o (s ∷ ts) t = last_push (Some s) ts t

abbrev both : ℕ → ℕ → Option Pace
both a b = Some (record { least = a; greatest = b })

pace_push : (ds : List ℕ) (d : ℕ) → pace_of (ds ++ d ∷ []) ≡ Some (widened (pace_of ds) d)
pace_push [] d = ap (λ n. both n d) (let e : d ≡ min d d = omega arith in e) ∙ ap (both (min d d)) (let e : d ≡ max d d = omega arith in e)
pace_push (s ∷ ds) d =
    ap (λ n. both n (fold max s (ds ++ d ∷ []))) (fold-append min s ds (d ∷ [])) ∙ ap (both (min (fold min s ds) d)) (fold-append max s ds (d ∷ []))

abbrev final : ℕ → List ℕ → ℕ
final s [] = s
final s (u ∷ us) = final u us

last_final : (s : ℕ) (ts : List ℕ) → last_from (Some s) ts ≡ Some (final s ts)
last_final s [] = refl
last_final s (u ∷ us) = last_final u us

times_push : (s : ℕ) (ts : List ℕ) (t : ℕ) → times_from s (ts ++ t ∷ []) ≡ times_from s ts ++ (t - final s ts) ∷ []
times_push s [] t = refl
times_push s (u ∷ us) t = ap (λ l. (u - s) ∷ l) (times_push u us t)

abbrev with_last : Option ℕ → Option Pace → Pacing
with_last last pace = record { last = last; pace = pace }

one_start : (ts : List ℕ) (t : ℕ) → with_start (kept ts) t ≡ kept (ts ++ t ∷ [])
one_start [] t = refl
one_start (s ∷ us) t =
    let same : pace_of (times_from s (us ++ t ∷ [])) ≡ pace_behind (pace_of (times_from s us)) (last_from (Some s) us) t =
    ap pace_of (times_push s us t) ∙ pace_push (times_from s us) (t - final s us)
    ∙ sym (ap (λ o. pace_behind (pace_of (times_from s us)) o t) (last_final s us)) in
    ap (with_last (Some t)) (sym same) ∙ ap (λ o. with_last o (pace_of (times_from s (us ++ t ∷ [])))) (sym (last_push (Some s) us t))

all_starts : (scale : Scale) (n : ℕ) (ts : List ℕ) (xs : List Entry) → fold (paced scale n) (kept ts) xs ≡ kept (ts ++ start_moments scale n xs)
all_starts scale n ts [] = ap kept (sym (append-nil ts))
all_starts scale n ts (x ∷ xs) =
    elim (starts scale n x) as (λ b. fold (paced scale n) (cond b (with_start (kept ts) x.moment) (kept ts)) xs
    ≡ kept (ts ++ map (λ (y : Entry). y.moment) (cond b (x ∷ filter (starts scale n) xs) (filter (starts scale n) xs)))) [
      | true ↦
          ap (λ p. fold (paced scale n) p xs) (one_start ts x.moment) ∙ all_starts scale n (ts ++ x.moment ∷ []) xs
          ∙ ap kept (append_assoc ts (x.moment ∷ []) (start_moments scale n xs))
      | false ↦ all_starts scale n ts xs
    ]

pub whole_pace : (scale : Scale) (n : ℕ) (xs : List Entry) → (fold (paced scale n) unpaced xs).pace ≡ pace scale n xs
whole_pace scale n xs = ap (λ (p : Pacing). p.pace) (all_starts scale n [] xs)
