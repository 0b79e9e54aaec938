-- Numbers and the words between them hold no line feed.
use Rattle.std.proofs.Common.{ℕ, suc, ◌^◌, ◌<◌, List, [], ◌∷◌, ◌++◌, arith, refl}
use Rattle.std.specs.Prelude.{ℤ, pos, negsuc, decimal}
use lib.Signed.{mag}
use Rattle.std.specs.Fmt.{signed_decimal}
use Rattle.bus_text.proofs.NumberLaws.{decimal_field}
use Rattle.bus_text.proofs.CanonicalLaws.{feedless_append, feedless}
use Rattle.bus_trace.specs.Runs.{HasNoFeed}

pub decimal_plain : (n : ℕ) → n < 2 ^ 64 → HasNoFeed (decimal n)
decimal_plain n h = feedless (decimal n) (decimal_field n h).bytes

pub signed_plain : (z : ℤ) → mag z < 2 ^ 63 → HasNoFeed (signed_decimal z)
signed_plain (pos n) h = decimal_plain n (omega arith)
signed_plain (negsuc n) h = (refl, decimal_plain (suc n) (omega arith))

-- a name, and numbers behind spaces
pub two_plain : (name first second : List ℕ) → HasNoFeed name → HasNoFeed first → HasNoFeed second
    → HasNoFeed (name ++ first ++ 32 ∷ [] ++ second)
two_plain name first second a b c =
    feedless_append (name ++ first ++ 32 ∷ []) second (feedless_append (name ++ first) (32 ∷ []) (feedless_append name first a b) (refl, tt)) c

pub three_plain : (name first second third : List ℕ) → HasNoFeed name → HasNoFeed first → HasNoFeed second → HasNoFeed third
    → HasNoFeed (name ++ first ++ 32 ∷ [] ++ second ++ 32 ∷ [] ++ third)
three_plain name first second third a b c d =
    feedless_append (name ++ first ++ 32 ∷ [] ++ second ++ 32 ∷ []) third
    (feedless_append (name ++ first ++ 32 ∷ [] ++ second) (32 ∷ []) (two_plain name first second a b c) (refl, tt)) d
