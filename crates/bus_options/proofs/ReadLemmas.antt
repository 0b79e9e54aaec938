-- What is read of a word, and of those behind it.
use Rattle.std.specs.Prelude.{◌≡◌, ℕ, ◌+◌, List, ◌∷◌, Result, Ok, Err}
use Rattle.std.proofs.Common.{sym, ap, ◌∙◌}
use Rattle.bus_options.specs.Options.{Reading, OptionError, and_then, read, step}
use Rattle.bus_options.specs.Settings.{OptionReason}

goes_on : (reading next : Reading) (place : ℕ) (word : List ℕ) (behind : List (List ℕ)) → step reading word ≡ Ok next
    → read reading place (word ∷ behind) ≡ read next (place + 1) behind
goes_on reading next place word behind h = ap (λ came. and_then place came (λ next. read next (place + 1) behind)) h

stops : (reading : Reading) (why : OptionReason) (place : ℕ) (word : List ℕ) (behind : List (List ℕ)) → step reading word ≡ Err why
    → read reading place (word ∷ behind) ≡ Err (record { place = place; why = why })
stops reading why place word behind h = ap (λ came. and_then place came (λ next. read next (place + 1) behind)) h

-- where a word is read, what comes of it and those behind comes of those behind
pub read_on : (reading next : Reading) (place : ℕ) (word : List ℕ) (behind words : List (List ℕ)) (all : Result Reading OptionError)
    → step reading word ≡ Ok next → words ≡ word ∷ behind → read reading place words ≡ all → read next (place + 1) behind ≡ all
read_on reading next place word behind words all h e known =
    sym (goes_on reading next place word behind h) ∙ ap (read reading place) (sym e) ∙ known

-- where a word is refused, that comes of it
pub read_no_more : (reading : Reading) (why : OptionReason) (place : ℕ) (word : List ℕ) (behind words : List (List ℕ)) (all : Result Reading OptionError)
    → step reading word ≡ Err why → words ≡ word ∷ behind → read reading place words ≡ all → Err (record { place = place; why = why }) ≡ all
read_no_more reading why place word behind words all h e known =
    sym (stops reading why place word behind h) ∙ ap (read reading place) (sym e) ∙ known
