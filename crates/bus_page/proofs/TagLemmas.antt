-- The text that is shown has no tags.
use Rattle.std.specs.Prelude.{◌≡◌, ℕ, ◌==◌, Bool, true, false, List, [], ◌∷◌, ◌&&◌, codes}
use Rattle.std.specs.List.{flat_map, list_all}
use Rattle.std.proofs.Common.{cond, inl, inr, refl, sym, ap, ◌∙◌}
use Rattle.std.proofs.lemmas.Bool.{cases_Bool}
use Rattle.std.proofs.lemmas.List.Concat.{flat_map-cons}
use Rattle.std.proofs.lemmas.List.Folds.{list_all-append}
use Rattle.bus_page.specs.Feet.{shown}
use Rattle.bus_page.specs.Laws.{TextsHaveNoTags, is_plain}

-- a byte, by which of the three it is
plain_by : (and less more : Bool) (byte : ℕ) → (byte == 60) ≡ less → (byte == 62) ≡ more
    → list_all is_plain (cond and (codes "&amp;") (cond less (codes "&lt;") (cond more (codes "&gt;") (byte ∷ [])))) ≡ true
plain_by true less more byte h k = refl
plain_by false true more byte h k = refl
plain_by false false true byte h k = refl
plain_by false false false byte h k =
    ap (λ b. cond b false (cond (byte == 62) false true) && true) h ∙ ap (λ b. cond b false true && true) k

shown_plain : (byte : ℕ) → list_all is_plain (shown byte) ≡ true
shown_plain byte = plain_by (byte == 38) (byte == 60) (byte == 62) byte refl refl

pub texts_have_no_tags : TextsHaveNoTags
texts_have_no_tags [] = refl
texts_have_no_tags (byte ∷ bytes) =
    ap (list_all is_plain) (flat_map-cons shown byte bytes)
    ∙ list_all-append is_plain (shown byte) (flat_map shown bytes)
    ∙ ap (λ b. b && list_all is_plain (flat_map shown bytes)) (shown_plain byte)
    ∙ texts_have_no_tags bytes
