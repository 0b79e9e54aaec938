-- What is put is the text of the votes.
use Rattle.std.proofs.Common.{◌≡◌, ℕ, Bool, List, ◌++◌, codes, length, map, drop, Option, ap, sym, ◌∙◌}
use Rattle.std.specs.List.{flat_map, range_with_len}
use Rattle.std.specs.Option.{option_and_then}
use Rattle.std.specs.Prelude.{slice_get}
use Rattle.bus_strings.specs.Messages.{Entry}
use Rattle.bus_table.specs.Tables.{Table}
use Rattle.bus_vote.specs.Labels.{Channel, VotedLabel, channels, voted, labels, voted_labels}
use Rattle.bus_vote.specs.Rounds.{sent_by, words_of, channel_words, first_words, second_words, is_voted, round_votes, voted_rounds}
use Rattle.bus_vote.specs.VoteTexts.{place_text, round_text, label_text, votes_text}
use Rattle.bus_vote.specs.Votes.{vote_at, width, votes}
use Rattle.bus_vote.specs.inside.Putting.{place_put, words_put, round_put, label_put}
use Rattle.bus_strings.proofs.ListLaws.{flat_map-map, flat_map-passing, flat_map-given, first_left}
use Rattle.bus_vote.proofs.VotingLemmas.{places_front}

-- the places
pub places_put : (a b c : Option (List ℕ)) (n : ℕ) → n ≡ width a b c → flat_map (place_put a b c) (range_with_len 0 n) ≡ flat_map place_text (votes a b c)
places_put a b c n e =
    ap (λ m. flat_map (place_put a b c) (range_with_len 0 m)) e
    ∙ sym (ap (λ ps. flat_map place_text (map (vote_at a b c) ps)) (places_front a b c) ∙ flat_map-map place_text (vote_at a b c) (range_with_len 0 (width a b c)))

-- the rounds
pub rounds_put : (list : List Entry) (label : VotedLabel) → flat_map (round_put list label) (range_with_len 0 (length list))
    ≡ flat_map (λ round. round_text round (round_votes list label round)) (voted_rounds list label)
rounds_put list label = flat_map-passing (is_voted list label) (λ round. round_text round (round_votes list label round)) (range_with_len 0 (length list))

-- the labels
pub labels_put : (table : Table) (list : List Entry) → flat_map (label_put table list) labels ≡ flat_map (label_text list) (voted_labels table)
labels_put table list = flat_map-given (λ label. voted label (channels table label)) (label_text list) labels

pub labels_are : (n : ℕ) → n ≡ 4096 → range_with_len 0 n ≡ labels
unfolding labels
labels_are n e = ap (range_with_len 0) e

-- the words of a channel in a round, from what is left of its transmissions
pub words_left : (list : List Entry) (label : ℕ) (channel : Channel) (round : ℕ) (left : List (Entry × Bool)) (words : Option (List ℕ))
    → left ≡ drop round (sent_by channel.terminal list) → words ≡ option_and_then (words_of label channel.ext) (slice_get left 0)
    → words ≡ channel_words list label channel round
words_left list label channel round left words l w =
    w ∙ ap (λ ms. option_and_then (words_of label channel.ext) (slice_get ms 0)) l
    ∙ ap (option_and_then (words_of label channel.ext)) (first_left (sent_by channel.terminal list) round)

-- a round, from what is left of the transmissions of each channel
pub round_is : (list : List Entry) (label : VotedLabel) (round : ℕ) (first second third : List (Entry × Bool)) (a b c : Option (List ℕ))
    → first ≡ drop round (sent_by label.first.terminal list) → second ≡ drop round (sent_by label.second.terminal list) → third ≡ drop round (sent_by label.third.terminal list)
    → a ≡ option_and_then (words_of label.label label.first.ext) (slice_get first 0) → b ≡ option_and_then (words_of label.label label.second.ext) (slice_get second 0)
    → c ≡ option_and_then (words_of label.label label.third.ext) (slice_get third 0)
    → words_put round a b c ≡ round_put list label round
round_is list label round first second third a b c f s t p q r =
    ap (λ x. words_put round x b c) (words_left list label.label label.first round first a f p)
    ∙ ap (λ x. words_put round (first_words list label round) x c) (words_left list label.label label.second round second b s q)
    ∙ ap (λ x. words_put round (first_words list label round) (second_words list label round) x) (words_left list label.label label.third round third c t r)

-- the whole
pub text_put : (table : Table) (own list : List Entry) → list ≡ own → codes "VOTE 1\n" ++ flat_map (label_put table list) labels ++ codes "END\n" ≡ votes_text table own
text_put table own list e =
    ap (λ xs. codes "VOTE 1\n" ++ flat_map (label_put table xs) labels ++ codes "END\n") e
    ∙ ap (λ t. codes "VOTE 1\n" ++ t ++ codes "END\n") (labels_put table own)
