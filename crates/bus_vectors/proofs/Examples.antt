-- Worked examples of the definitions, computed.
use Rattle.std.proofs.Common.{◌≡◌, ℕ, List, [], ◌∷◌, ◌++◌, length, refl}
use Rattle.bus_vectors.specs.Made.{sender_count, round_count, made_table, word_count, made_words, made_items}

-- two senders: 300, and twice 620 with the gaps 8 and 12
the_least_interval : (made_table 0).ti ≡ 1560
the_least_interval = refl

the_most_senders : (sender_count 149 ≡ 31) × (round_count 149 ≡ 500)
the_most_senders = (refl, refl)

-- 300, 31 times 620, and the gaps 8 to 128
the_greatest_interval : (made_table 149).ti ≡ 21628
the_greatest_interval = refl

-- sender 2 in round 1 of number 1
a_count_of_words : word_count 1 1 2 ≡ 34
a_count_of_words = refl

its_first_words : (rest : List ℕ) × (made_words 1 1 2 ≡ (34 ∷ 35 ∷ 36 ∷ []) ++ rest)
its_first_words = (_, refl)

the_least_items : length (made_items 0) ≡ 20
the_least_items = refl
