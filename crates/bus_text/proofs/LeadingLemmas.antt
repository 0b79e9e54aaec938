-- One digit more, and four, of those in front of a text.
use Rattle.std.proofs.Common.{arith, ◌≡◌, ℕ, ◌+◌, ◌-◌, ◌*◌, ◌<◌, ◌≤◌, ◌^◌, true, List, [], ◌∷◌, ◌++◌, length, take, get_or}
use Rattle.std.proofs.Common.{refl, sym, ap, subst, ◌∙◌}
use Rattle.std.specs.List.{list_all}
use Rattle.std.specs.Char.{is_ascii_digit, digit_value}
use Rattle.std.proofs.lemmas.Bool.Decides.{nat_tests}
use Rattle.std.proofs.lemmas.List.{take_more}
use Rattle.std.proofs.lemmas.Int.Digits.{digits_value_more}
use Rattle.bus_text.specs.Numbers.{decimal_value}
use Rattle.bus_text.specs.inside.Leading.{AreDigits}
use Rattle.bus_text.proofs.DigitLaws.{list_all_push}

digit_is : (d : ℕ) → is_ascii_digit d ≡ true → (48 ≤ d) × (digit_value d ≡ d - 48) × (d - 48 < 10)
digit_is d h = grind (arith, nat_tests)

pub record NextDigit (text : List ℕ) (count number : ℕ) : Type 0 where
  pub within : count ≤ length text
  pub digits : list_all is_ascii_digit (take count text) ≡ true
  pub value : number ≡ decimal_value (take count text)
  pub room : number < 10 ^ 18

pub next_digit : (text : List ℕ) (count value b d : ℕ) → count < length text → list_all is_ascii_digit (take count text) ≡ true
    → value ≡ decimal_value (take count text) → value < 10 ^ 17 → b ≡ get_or text count 0 → is_ascii_digit b ≡ true → d ≡ b - 48
    → NextDigit text (count + 1) (10 * value + d)
next_digit text count value b d within digits value_is low here k d_is =
    let digit = digit_is b k in
    let more = digits_value_more 10 text count within in
    let front : take count text ++ b ∷ [] ≡ take (count + 1) text = ap (λ x. take count text ++ x ∷ []) here
    ∙ sym (take_more text count 0 within) in
    record {
      within = omega arith;
      digits = subst (λ ds. list_all is_ascii_digit ds ≡ true) front (list_all_push is_ascii_digit (take count text) b digits k);
      value = omega (arith, more, value_is, d_is, digit.1, ap digit_value here);
      room = omega (arith, low, d_is, digit.2);
    }

-- four digits more
pub next_four : (text : List ℕ) (count value a b c d four : ℕ) → count + 4 ≤ length text
    → list_all is_ascii_digit (take count text) ≡ true → value ≡ decimal_value (take count text) → value < 10 ^ 13
    → a ≡ get_or text count 0 → b ≡ get_or text (count + 1) 0 → c ≡ get_or text (count + 2) 0 → d ≡ get_or text (count + 3) 0
    → AreDigits a b c d four → NextDigit text (count + 4) (10000 * value + four)
next_four text count value a b c d four within digits value_is low ha hb hc hd f =
    let one = next_digit text count value a (a - 48) (omega (arith, within)) digits value_is (omega (arith, low)) ha f.first refl in
    let at2 : count + 2 ≡ (count + 1) + 1 = omega arith in
    let at3 : count + 3 ≡ ((count + 1) + 1) + 1 = omega arith in
    let at4 : (((count + 1) + 1) + 1) + 1 ≡ count + 4 = omega arith in
    let da = (digit_is a f.first).2 in
    let db = (digit_is b f.second).2 in
    let dc = (digit_is c f.third).2 in
    let two = next_digit text (count + 1) (10 * value + (a - 48)) b (b - 48) (omega (arith, within)) one.digits one.value
    (omega (arith, low, da)) hb f.second refl in
    let three = next_digit text ((count + 1) + 1) (10 * (10 * value + (a - 48)) + (b - 48)) c (c - 48) (omega (arith, within)) two.digits
    two.value (omega (arith, low, da, db)) (hc ∙ ap (λ k. get_or text k 0) at2) f.third refl in
    let all = next_digit text (((count + 1) + 1) + 1) (10 * (10 * (10 * value + (a - 48)) + (b - 48)) + (c - 48)) d (d - 48)
    (omega (arith, within)) three.digits three.value (omega (arith, low, da, db, dc)) (hd ∙ ap (λ k. get_or text k 0) at3) f.fourth refl in
    let total : 10000 * value + four ≡ 10 * (10 * (10 * (10 * value + (a - 48)) + (b - 48)) + (c - 48)) + (d - 48) =
    omega (arith, f.value) in
    record {
      within = within;
      digits = subst (λ k. list_all is_ascii_digit (take k text) ≡ true) at4 all.digits;
      value = total ∙ all.value ∙ ap (λ k. decimal_value (take k text)) at4;
      room = omega (arith, total, all.room);
    }
