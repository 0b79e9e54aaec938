-- Binary digits, one after another.
use Rattle.std.proofs.Common.{◌≡◌, ℕ, ◌+◌, ◌/◌, ◌%◌, ◌<◌, ◌≤◌, List, [], ◌∷◌, ◌++◌, map, arith, refl, sym, ap, ◌∙◌, append_assoc}
use Rattle.std.specs.Int.Digits.{digits_of}
use Rattle.std.proofs.lemmas.Int.Digits.{digits_of_step}
use Rattle.std.proofs.lemmas.List.{map_push}

-- one digit more
pub digits_more : (n digit : ℕ) → 0 < n → digit ≡ 48 + n % 2 → map (λ d. 48 + d) (digits_of 2 (n / 2)) ++ digit ∷ [] ≡ map (λ d. 48 + d) (digits_of 2 n)
digits_more n digit some is =
    ap (λ d. map (λ d. 48 + d) (digits_of 2 (n / 2)) ++ d ∷ []) is
    ∙ sym (ap (map (λ d. 48 + d)) (digits_of_step 2 n (omega arith) some) ∙ map_push (λ d. 48 + d) (digits_of 2 (n / 2)) (n % 2))

-- the digits of a number, one by one
abbrev each : ℕ → List ℕ
each n = map (λ d. 48 + d) (digits_of 2 n)

one_more : (n half digit : ℕ) → 0 < n → half ≡ n / 2 → digit ≡ 48 + n % 2 → each half ++ digit ∷ [] ≡ each n
one_more n half digit some is last = ap (λ h. each h ++ digit ∷ []) is ∙ digits_more n digit some last

-- four digits more
pub digits_four : (n a b c d : ℕ) → 16 ≤ n → a ≡ 48 + n / 8 % 2 → b ≡ 48 + n / 4 % 2 → c ≡ 48 + n / 2 % 2 → d ≡ 48 + n % 2
    → map (λ d. 48 + d) (digits_of 2 (n / 16)) ++ a ∷ (b ∷ (c ∷ (d ∷ []))) ≡ map (λ d. 48 + d) (digits_of 2 n)
digits_four n a b c d h p q r s =
    sym (append_assoc (each (n / 16)) (a ∷ []) (b ∷ (c ∷ (d ∷ []))))
    ∙ ap (λ l. l ++ b ∷ (c ∷ (d ∷ []))) (one_more (n / 8) (n / 16) a (omega arith) (omega arith) p)
    ∙ sym (append_assoc (each (n / 8)) (b ∷ []) (c ∷ (d ∷ [])))
    ∙ ap (λ l. l ++ c ∷ (d ∷ [])) (one_more (n / 4) (n / 8) b (omega arith) (omega arith) q)
    ∙ sym (append_assoc (each (n / 4)) (c ∷ []) (d ∷ []))
    ∙ ap (λ l. l ++ d ∷ []) (one_more (n / 2) (n / 4) c (omega arith) (omega arith) r)
    ∙ one_more n (n / 2) d (omega arith) refl s
