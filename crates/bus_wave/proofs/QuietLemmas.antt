-- Q lines that are recognized as they are written.
use Rattle.std.proofs.Common.{arith, ◌≡◌, ◌≢◌, ℕ, zero, suc, ◌+◌, ◌-◌, ◌<◌, ◌^◌, min, true, not, ◌&&◌, List, [], ◌∷◌, ◌++◌, length}
use Rattle.std.proofs.Common.{get_or, take, drop, Ok, refl, sym, ap, ◌∙◌, take-append-drop, drop-cons}
use Rattle.std.specs.List.{slice_split, list_all}
use Rattle.std.specs.Char.{is_ascii_digit}
use Rattle.std.proofs.lemmas.Bool.{and_parts, ne_eqb}
use Rattle.std.proofs.lemmas.List.{take_all, length-take, length-drop}
use Rattle.bus_text.specs.Lines.{is_feed}
use Rattle.bus_text.specs.Numbers.{is_plain_decimal, decimal_value}
use Rattle.bus_wave.specs.declared.symbol.Symbol.TheVariants as symbol
use Rattle.bus_wave.specs.inside.Capped.{capped}
use Rattle.bus_wave.specs.inside.Parts.{HasLine}
use Rattle.bus_wave.proofs.TextLemmas.{plain_reads, plain_feedless, line_split}

-- digits that don't begin with a 0 are a plain decimal
plain_is : (ds : List ℕ) → list_all is_ascii_digit ds ≡ true → 0 < length ds → get_or ds 0 0 ≢ 48 → is_plain_decimal ds ≡ true
plain_is [] h some first = absurd (omega (arith, some))
plain_is (d ∷ []) h some first = (and_parts (is_ascii_digit d) true h).0
plain_is (d ∷ e ∷ ds) h some first = ap (λ b. not b && list_all is_ascii_digit (d ∷ e ∷ ds)) (ne_eqb d 48 first) ∙ h

first_of_take : (count : ℕ) (t : List ℕ) → 0 < count → get_or (take count t) 0 0 ≡ get_or t 0 0
first_of_take zero t some = absurd (omega (arith, some))
first_of_take (suc count) [] some = refl
first_of_take (suc count) (b ∷ t) some = refl

-- a field and a line feed in front
cut_front : (t : List ℕ) (count : ℕ) → count < length t → get_or t count 0 ≡ 10
    → t ≡ take count t ++ 10 ∷ take (length t - (count + 1)) (drop (count + 1) t)
cut_front t count less feed =
    let next : suc count ≡ count + 1 = omega arith in
    let rest : drop (suc count) t ≡ take (length t - (count + 1)) (drop (count + 1) t) =
    ap (λ k. drop k t) next ∙ sym (take_all (length t - (count + 1)) (drop (count + 1) t) (omega (arith, length-drop (count + 1) t))) in
    sym (take-append-drop count t)
    ∙ ap (λ r. take count t ++ r) (drop-cons t count 0 less ∙ ap (λ b. b ∷ drop (suc count) t) feed ∙ ap (λ r. 10 ∷ r) rest)

capped_is : (n v : ℕ) → n ≡ v → n < 10 ^ 18 → n ≡ min v (2 ^ 64 - 1)
capped_is n v same low = omega (arith, same, low)

-- a Q line in front
pub quiet_first : (text t : List ℕ) (count number : ℕ) → text ≡ 81 ∷ 32 ∷ t → list_all is_ascii_digit (take count t) ≡ true
    → number ≡ decimal_value (take count t) → number < 10 ^ 18 → 0 < count → count < length t → get_or t 0 0 ≢ 48 → get_or t count 0 ≡ 10
    → HasLine text (Ok (symbol.Quiet number)) (take (length t - (count + 1)) (drop (count + 1) t))
quiet_first text t count number is digits value low some less first feed =
    let field : List ℕ = take count t in
    let behind : List ℕ = take (length t - (count + 1)) (drop (count + 1) t) in
    let long : 0 < length field = omega (arith, length-take count t, some, less) in
    let plain : is_plain_decimal field ≡ true =
    plain_is field digits long (λ zero_first. first (sym (first_of_take count t some) ∙ zero_first)) in
    record {
      first = 81 ∷ 32 ∷ field;
      pieces = ap (slice_split is_feed) (is ∙ ap (λ r. 81 ∷ 32 ∷ r) (cut_front t count less feed))
          ∙ line_split (81 ∷ 32 ∷ field) behind (plain_feedless field plain);
      reads = ap (λ n. Ok (symbol.Quiet n)) (capped_is number (decimal_value field) value low) ∙ sym (ap capped (plain_reads field plain));
    }
