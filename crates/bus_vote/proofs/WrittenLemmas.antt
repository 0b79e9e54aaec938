-- A round in which channels have words is one of those that are written.
use Rattle.std.proofs.Common.{◌≡◌, ◌⊎◌, ℕ, suc, ◌+◌, ◌<◌, ◌≤◌, Bool, true, false, cond, ◌&&◌, ◌||◌, List, [], ◌∷◌, length, Option, Some, None, inl, inr, refl, ap, ◌∙◌, arith}
use Rattle.std.specs.Prelude.{is_some, slice_get, IsTrue}
use Rattle.std.specs.List.{filter, zip, range_with_len}
use Rattle.std.specs.Option.{option_and_then}
use Rattle.std.proofs.lemmas.List.FromFn.{length-range_with_len, get_or-range_with_len}
use Rattle.std.proofs.lemmas.Option.{slice_get-get_or, slice_get_within}
use Rattle.std.proofs.lemmas.Slice.Zip.{length-zip}
use Rattle.bus_strings.specs.Members.{In}
use Rattle.bus_strings.proofs.MemberLaws.{at_in, in_filter}
use Rattle.bus_strings.specs.Messages.{Entry}
use Rattle.bus_strings.specs.Transmissions.{marks}
use Rattle.bus_vote.specs.Labels.{Channel, VotedLabel}
use Rattle.bus_vote.specs.Rounds.{is_of, sent_by, words_of, channel_words, is_voted, first_words, second_words, third_words, voted_rounds}

kept_few : {X : Type 0} (p : X → Bool) (xs : List X) → length (filter p xs) ≤ length xs
kept_few p [] = omega arith
kept_few p (x ∷ xs) =
    let rest = kept_few p xs in
    elim (p x) as (λ b. length (cond b (x ∷ filter p xs) (filter p xs)) ≤ suc (length xs)) [ true ↦ omega (arith, rest) | false ↦ omega (arith, rest) ]

-- a terminal has no more transmissions than the list
sent_few : (terminal : ℕ) (list : List Entry) → length (sent_by terminal list) ≤ length list
sent_few terminal list =
    let kept = kept_few (is_of terminal) (zip list (marks list)) in
    let both = length-zip list (marks list) in
    omega (arith, kept, both)

-- a channel that has words in a round has a transmission there
had_within : (list : List Entry) (label : ℕ) (channel : Channel) (round : ℕ) → is_some (channel_words list label channel round) ≡ true
    → round < length list
had_within list label channel round h = by_case (slice_get (sent_by channel.terminal list) round) refl h
  where
    by_case : (o : Option (Entry × Bool)) → slice_get (sent_by channel.terminal list) round ≡ o
        → is_some (option_and_then (words_of label channel.ext) o) ≡ true → round < length list
    by_case None e k = absurd cc
    by_case (Some x) e k =
        let within = slice_get_within (sent_by channel.terminal list) round x e in
        let few = sent_few channel.terminal list in
        omega (arith, within, few)

-- of two of three the first or the second is one
one_of : (a b c : Bool) → ((a && b) || ((a && c) || (b && c))) ≡ true → (a ≡ true) ⊎ (b ≡ true)
one_of true b c h = inl refl
one_of false true c h = inr refl
one_of false false c h = absurd cc

voted_within : (list : List Entry) (voted : VotedLabel) (round : ℕ) → IsTrue (is_voted list voted round) → round < length list
voted_within list voted round h =
    elim (one_of (is_some (first_words list voted round)) (is_some (second_words list voted round)) (is_some (third_words list voted round)) h) [
      | inl first ↦ had_within list voted.label voted.first round first
      | inr second ↦ had_within list voted.label voted.second round second
    ]

in_range : (n k : ℕ) → k < n → In k (range_with_len 0 n)
in_range n k h =
    let all : length (range_with_len 0 n) ≡ n = length-range_with_len 0 n in
    let within : k < length (range_with_len 0 n) = omega (arith, h, all) in
    let same : 0 + k ≡ k = omega arith in
    at_in (range_with_len 0 n) k k (slice_get-get_or (range_with_len 0 n) k 0 within ∙ ap Some (get_or-range_with_len 0 n k 0 h ∙ same))

pub voted_is_written : (list : List Entry) (voted : VotedLabel) (round : ℕ) → IsTrue (is_voted list voted round) → In round (voted_rounds list voted)
voted_is_written list voted round h =
    in_filter (is_voted list voted) (range_with_len 0 (length list)) round (in_range (length list) round (voted_within list voted round h)) h
