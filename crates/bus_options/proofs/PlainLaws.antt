-- Words without options.
use Rattle.std.specs.Prelude.{◌≡◌, ℕ, ◌+◌, ◌-◌, not, List, [], ◌∷◌, length, drop, Ok}
use Rattle.std.proofs.Common.{arith, refl, ap, ◌∙◌, cond}
use Rattle.std.proofs.Math.Seq.{drop-length}
use Rattle.bus_options.specs.Options.{ArePlain, plain_count, line_of, line_with, no_options, options_by, read, start}

-- all of them are plain
plain_all : (words : List (List ℕ)) → ArePlain words → plain_count words ≡ length words
plain_all [] h = refl
plain_all (word ∷ words) h =
    let first : plain_count (word ∷ words) ≡ 1 + plain_count words = ap (λ b. cond (not b) (1 + plain_count words) 0) h.0 in
    let behind : plain_count words ≡ length words = plain_all words h.1 in
    first ∙ omega (arith, behind)

-- a line of plain words has no options
pub plain_line : (words : List (List ℕ)) → ArePlain words → line_of words ≡ Ok (record { plain = length words; options = no_options })
plain_line words h =
    ap (λ n. line_with n (options_by (length words - 1) (read start n (drop n words)))) (plain_all words h)
    ∙ ap (λ rest. line_with (length words) (options_by (length words - 1) (read start (length words) rest))) (drop-length words)
