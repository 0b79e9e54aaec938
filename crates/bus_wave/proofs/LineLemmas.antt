-- The lines of a wave are the only ones of their form that stand for it.
use Rattle.std.proofs.Common.{arith, ◌≡◌, ℕ, zero, suc, ◌*◌, ◌<◌, ◌≤◌, Bool, true, false, List, [], ◌∷◌, ◌++◌, length, map, Some, None, refl, sym, ap, ◌∙◌}
use Rattle.std.proofs.Common.{length-append}
use Rattle.std.specs.Prelude.{replicate}
use Rattle.std.proofs.lemmas.List.{length-replicate}
use Rattle.bus_wave.specs.Waves.{Half, quiet}
use Rattle.bus_wave.specs.WaveTexts.{WaveLine, Quiet, Halves, lines_wave, AreLines}

-- what is empty or begins with a half bit
abbrev StartsLoud : List Half → Type 0
StartsLoud [] = Unit {0}
StartsLoud (None ∷ xs) = ⊥
StartsLoud (Some half ∷ xs) = Unit {0}

loud : (lines : List WaveLine) → AreLines true lines → StartsLoud (lines_wave lines)
loud [] h = tt
loud (Quiet n ∷ lines) h = absurd (let e : true ≡ false = h.0 in cc)
loud (Halves [] ∷ lines) h = absurd (omega (arith, h.0))
loud (Halves (half ∷ halves) ∷ lines) h = tt

same_quiet : (n m : ℕ) (xs ys : List Half) → StartsLoud xs → StartsLoud ys → replicate n None ++ xs ≡ replicate m None ++ ys
    → (n ≡ m) × (xs ≡ ys)
same_quiet zero zero xs ys a b e = (refl, e)
same_quiet zero (suc m) [] ys a b e = absurd cc
same_quiet zero (suc m) (None ∷ xs) ys a b e = absurd a
same_quiet zero (suc m) (Some half ∷ xs) ys a b e = absurd cc
same_quiet (suc n) zero xs [] a b e = absurd cc
same_quiet (suc n) zero xs (None ∷ ys) a b e = absurd b
same_quiet (suc n) zero xs (Some half ∷ ys) a b e = absurd cc
same_quiet (suc n) (suc m) xs ys a b e =
    let rest : replicate n None ++ xs ≡ replicate m None ++ ys = cc in
    let same = same_quiet n m xs ys a b rest in
    (ap suc same.0, same.1)

same_halves : (hs ks : List Bool) (xs ys : List Half) → length hs ≡ length ks → map Some hs ++ xs ≡ map Some ks ++ ys → (hs ≡ ks) × (xs ≡ ys)
same_halves [] [] xs ys n e = (refl, e)
same_halves [] (k ∷ ks) xs ys n e = absurd (omega (arith, n))
same_halves (h ∷ hs) [] xs ys n e = absurd (omega (arith, n))
same_halves (h ∷ hs) (k ∷ ks) xs ys n e =
    let first : h ≡ k = cc in
    let rest : map Some hs ++ xs ≡ map Some ks ++ ys = cc in
    let same = same_halves hs ks xs ys (omega (arith, n)) rest in
    (ap (λ b. b ∷ hs) first ∙ ap (λ bs. k ∷ bs) same.0, same.1)

not_both : (n : ℕ) (halves : List Bool) (xs ys : List Half) → 0 < n → 0 < length halves → replicate n None ++ xs ≡ map Some halves ++ ys → ⊥
not_both zero halves xs ys a b e = omega (arith, a)
not_both (suc n) [] xs ys a b e = omega (arith, b)
not_both (suc n) (half ∷ halves) xs ys a b e = cc

some_quiet : (n : ℕ) (xs : List Half) → 1 ≤ n → [] ≡ quiet n ++ xs → ⊥
some_quiet n xs h e = let none : Half = None in omega (arith, ap length e, length-append (quiet n) xs, length-replicate (2 * n) none)

some_halves : (halves : List Bool) (xs : List Half) → length halves ≡ 40 → [] ≡ map Some halves ++ xs → ⊥
some_halves [] xs h e = omega (arith, h)
some_halves (half ∷ halves) xs h e = cc

-- two lists of lines that stand for the same wave are the same
pub one_list : (behind : Bool) (ls ms : List WaveLine) → AreLines behind ls → AreLines behind ms → lines_wave ls ≡ lines_wave ms → ls ≡ ms
one_list behind [] [] a b e = refl
one_list behind [] (Quiet m ∷ ms) a b e = absurd (some_quiet m (lines_wave ms) b.1 e)
one_list behind [] (Halves ks ∷ ms) a b e = absurd (some_halves ks (lines_wave ms) b.0 e)
one_list behind (Quiet n ∷ ls) [] a b e = absurd (some_quiet n (lines_wave ls) a.1 (sym e))
one_list behind (Halves hs ∷ ls) [] a b e = absurd (some_halves hs (lines_wave ls) a.0 (sym e))
one_list behind (Quiet n ∷ ls) (Quiet m ∷ ms) a b e =
    let same = same_quiet (2 * n) (2 * m) (lines_wave ls) (lines_wave ms) (loud ls a.2) (loud ms b.2) e in
    let count : n ≡ m = omega (arith, same.0) in
    ap (λ k. Quiet k ∷ ls) count ∙ ap (λ ks. Quiet m ∷ ks) (one_list true ls ms a.2 b.2 same.1)
one_list behind (Halves hs ∷ ls) (Halves ks ∷ ms) a b e =
    let same = same_halves hs ks (lines_wave ls) (lines_wave ms) (a.0 ∙ sym b.0) e in
    ap (λ bs. Halves bs ∷ ls) same.0 ∙ ap (λ bs. Halves ks ∷ bs) (one_list false ls ms a.1 b.1 same.1)
one_list behind (Quiet n ∷ ls) (Halves ks ∷ ms) a b e =
    absurd (not_both (2 * n) ks (lines_wave ls) (lines_wave ms) (omega (arith, a.1)) (omega (arith, b.0)) e)
one_list behind (Halves hs ∷ ls) (Quiet m ∷ ms) a b e =
    absurd (not_both (2 * m) hs (lines_wave ms) (lines_wave ls) (omega (arith, b.1)) (omega (arith, a.0)) (sym e))
