-- What a reader that stands before a find knows of the rounds of its channel.
use Rattle.std.proofs.Common.{◌≡◌, ℕ, ◌+◌, ◌-◌, ◌<◌, ◌≤◌, Bool, true, List, [], length, subst, Option, Some, None, inl, inr, refl, ap, sym, ◌∙◌, arith}
use Rattle.std.specs.Prelude.{slice_get}
use Rattle.std.specs.List.{flat_map, range_with_len}
use Rattle.std.specs.Option.{option_and_then}
use Rattle.std.proofs.lemmas.Bool.{cases_eq, cases_lt}
use Rattle.std.proofs.lemmas.Option.{slice_get_within}
use Rattle.bus_strings.specs.Messages.{Entry}
use Rattle.bus_vote.specs.Labels.{Channel, VotedLabel}
use Rattle.bus_vote.specs.Rounds.{sent_by, words_in, words_of, channel_words, first_words, second_words, third_words}
use Rattle.bus_vote.specs.inside.Putting.{words_put, round_put}
use Rattle.bus_vote.specs.inside.Finds.{Find, IsFound, AreFinds, Hearing, IsHearing, TwoAreSilent, is_own}
use Rattle.bus_vote.proofs.FindLemmas.{own_terminal}
use Rattle.bus_vote.proofs.WalkLemmas.{none_first, none_second, none_third, range_over}

-- ---- rounds without words
silent_round : (list : List Entry) (finds : List Find) (label : ℕ) (channel : Channel) (round : ℕ) → AreFinds list finds label
    → ((j : ℕ) (f : Find) → slice_get finds j ≡ Some f → is_own label channel.terminal f ≡ true → f.round ≡ round → ⊥)
    → channel_words list label channel round ≡ None
silent_round list finds label channel round a none = by_option (channel_words list label channel round) refl where
  by_option : (o : Option (List ℕ)) → channel_words list label channel round ≡ o → channel_words list label channel round ≡ None
  by_option None e = e
  by_option (Some words) e =
      let f : IsFound list finds label channel.terminal round = a.whole channel.terminal channel.ext round words e in
      absurd (none f.at f.find f.there f.own f.named)

pub silent_past : (list : List Entry) (finds : List Find) (label : ℕ) (channel : Channel) (round at : ℕ) → IsHearing list finds label channel round at
    → length finds ≤ at → (k : ℕ) → round ≤ k → channel_words list label channel k ≡ None
silent_past list finds label channel round at h past k from =
    silent_round list finds label channel k h.finds_are (λ j f there own named.
    let behind : at ≤ j = h.left j f there own (omega arith) in
    let within : j < length finds = slice_get_within finds j f there in
    absurd (omega arith))

pub silent_before : (list : List Entry) (finds : List Find) (label : ℕ) (channel : Channel) (round at : ℕ) (f : Find) → IsHearing list finds label channel round at
    → slice_get finds at ≡ Some f → round < f.round → channel_words list label channel round ≡ None
silent_before list finds label channel round at f h there later =
    silent_round list finds label channel round h.finds_are (λ j g then own named.
    let behind : at ≤ j = h.left j g then own (omega arith) in
    let order : f.round ≤ g.round = h.finds_are.order at j channel.terminal f g behind there then (h.here f there).0 own in
    absurd (omega arith))

-- ---- the round of the find
pub words_found : (list : List Entry) (finds : List Find) (label : ℕ) (channel : Channel) (round at : ℕ) (f : Find) (x : Entry) → IsHearing list finds label channel round at
    → slice_get finds at ≡ Some f → f.round ≤ round → slice_get list f.place ≡ Some x → words_in label channel.ext x.message ≡ channel_words list label channel round
words_found list finds label channel round at f x h there low sent =
    let here = h.here f there in
    let from : round ≤ f.round = here.1 in
    let named : f.round ≡ round = omega arith in
    let own : x.terminal ≡ channel.terminal = h.finds_are.sender at f x there sent ∙ own_terminal label channel.terminal f here.0 in
    let words : Option (Entry × Bool) → Option (List ℕ) = option_and_then (words_of label channel.ext) in
    sym (ap (λ t. words (slice_get (sent_by t list) round)) (sym own) ∙ ap (λ r. words (slice_get (sent_by x.terminal list) r)) (sym named)
    ∙ ap words (h.finds_are.sound at f x there sent))

-- ---- where it stands then
pub hearing_first : (list : List Entry) (finds : List Find) (label : ℕ) (channel : Channel) (at : ℕ) → AreFinds list finds label
    → ((j : ℕ) (f : Find) → 0 ≤ j → j < at → slice_get finds j ≡ Some f → is_own label channel.terminal f ≡ true → f.round < 0)
    → ((f : Find) → slice_get finds at ≡ Some f → (is_own label channel.terminal f ≡ true) × (0 ≤ f.round)) → IsHearing list finds label channel 0 at
hearing_first list finds label channel at a skipped own = record {
  finds_are = a;
  left = λ j f there of from. elim (cases_lt j at) [
    | inl before ↦ let low : f.round < 0 = skipped j f (omega arith) before there of in absurd (omega arith)
    | inr behind ↦ omega arith
  ];
  here = own;
}

pub hearing_later : (list : List Entry) (finds : List Find) (label : ℕ) (channel : Channel) (round at : ℕ) → IsHearing list finds label channel round at
    → ((f : Find) → slice_get finds at ≡ Some f → round < f.round) → IsHearing list finds label channel (round + 1) at
hearing_later list finds label channel round at h later = record {
  finds_are = h.finds_are;
  left = λ j f there own from. h.left j f there own (omega arith);
  here = λ f there. let low : round < f.round = later f there in ((h.here f there).0, omega arith);
}

pub hearing_next : (list : List Entry) (finds : List Find) (label : ℕ) (channel : Channel) (round at next : ℕ) (f : Find) → IsHearing list finds label channel round at
    → slice_get finds at ≡ Some f → f.round ≤ round
    → ((j : ℕ) (g : Find) → at + 1 ≤ j → j < next → slice_get finds j ≡ Some g → is_own label channel.terminal g ≡ true → g.round < round + 1)
    → ((g : Find) → slice_get finds next ≡ Some g → (is_own label channel.terminal g ≡ true) × (round + 1 ≤ g.round))
    → IsHearing list finds label channel (round + 1) next
hearing_next list finds label channel round at next f h there low skipped own = record {
  finds_are = h.finds_are;
  left = λ j g then of from.
      let behind : at ≤ j = h.left j g then of (omega arith) in
      elim (cases_eq j at) [
        | inl same ↦
            let both : Some g ≡ Some f = sym then ∙ ap (slice_get finds) same ∙ there in
            let e : g ≡ f = cc in
            let r : g.round ≡ f.round = ap (λ (z : Find). z.round) e in
            absurd (omega arith)
        | inr apart ↦ elim (cases_lt j next) [
          | inl before ↦ let less : g.round < round + 1 = skipped j g (omega arith) before then of in absurd (omega arith)
          | inr far ↦ omega arith
        ]
      ];
  here = own;
}

-- ---- rounds behind two readers that are over
silent_put : (list : List Entry) (voted : VotedLabel) (k r : ℕ) → k ≤ r
    → TwoAreSilent (record { list = list; label = voted.label; channel = voted.first; round = k })
    (record { list = list; label = voted.label; channel = voted.second; round = k }) (record { list = list; label = voted.label; channel = voted.third; round = k })
    → round_put list voted r ≡ []
silent_put list voted k r from two = elim two [
  | inl ab ↦ ap (λ o. words_put r o (second_words list voted r) (third_words list voted r)) (ab.0 r from)
      ∙ ap (λ o. words_put r None o (third_words list voted r)) (ab.1 r from) ∙ none_first r (third_words list voted r)
  | inr (inl ac) ↦ ap (λ o. words_put r o (second_words list voted r) (third_words list voted r)) (ac.0 r from)
      ∙ ap (λ o. words_put r None (second_words list voted r) o) (ac.1 r from) ∙ none_second r (second_words list voted r)
  | inr (inr bc) ↦ ap (λ o. words_put r (first_words list voted r) o (third_words list voted r)) (bc.0 r from)
      ∙ ap (λ o. words_put r (first_words list voted r) None o) (bc.1 r from) ∙ none_third r (first_words list voted r)
]

pub all_silent : (list : List Entry) (voted : VotedLabel) (k n : ℕ) (first second third : Hearing) → k ≤ n
    → first ≡ record { list = list; label = voted.label; channel = voted.first; round = k }
    → second ≡ record { list = list; label = voted.label; channel = voted.second; round = k }
    → third ≡ record { list = list; label = voted.label; channel = voted.third; round = k } → TwoAreSilent first second third
    → flat_map (round_put list voted) (range_with_len 0 k) ≡ flat_map (round_put list voted) (range_with_len 0 n)
all_silent list voted k n first second third low f s t two =
    let all : k + (n - k) ≡ n = omega arith in
    let a : Hearing = record { list = list; label = voted.label; channel = voted.first; round = k } in
    let b : Hearing = record { list = list; label = voted.label; channel = voted.second; round = k } in
    let c : Hearing = record { list = list; label = voted.label; channel = voted.third; round = k } in
    let now : TwoAreSilent a b c = subst (λ h. TwoAreSilent h b c) f (subst (λ h. TwoAreSilent first h c) s (subst (λ h. TwoAreSilent first second h) t two)) in
    sym (range_over (round_put list voted) k (n - k) (λ r from. silent_put list voted k r from now))
    ∙ ap (λ m. flat_map (round_put list voted) (range_with_len 0 m)) all

-- a round that three readers have read
heard : (h own : Hearing) (words : Option (List ℕ)) → h ≡ own → words ≡ channel_words h.list h.label h.channel h.round
    → words ≡ channel_words own.list own.label own.channel own.round
heard h own words same w = w ∙ ap (λ (x : Hearing). channel_words x.list x.label x.channel x.round) same

pub round_heard : (list : List Entry) (voted : VotedLabel) (round : ℕ) (first second third : Hearing) (a b c : Option (List ℕ))
    → first ≡ record { list = list; label = voted.label; channel = voted.first; round = round }
    → second ≡ record { list = list; label = voted.label; channel = voted.second; round = round }
    → third ≡ record { list = list; label = voted.label; channel = voted.third; round = round }
    → a ≡ channel_words first.list first.label first.channel first.round → b ≡ channel_words second.list second.label second.channel second.round
    → c ≡ channel_words third.list third.label third.channel third.round → words_put round a b c ≡ round_put list voted round
round_heard list voted round first second third a b c f s t p q r =
    ap (λ x. words_put round x b c) (heard first (record { list = list; label = voted.label; channel = voted.first; round = round }) a f p)
    ∙ ap (λ x. words_put round (first_words list voted round) x c) (heard second (record { list = list; label = voted.label; channel = voted.second; round = round }) b s q)
    ∙ ap (λ x. words_put round (first_words list voted round) (second_words list voted round) x)
    (heard third (record { list = list; label = voted.label; channel = voted.third; round = round }) c t r)

pub one_further : (h : Hearing) (list : List Entry) (label : ℕ) (channel : Channel) (round : ℕ) (next : Hearing)
    → h ≡ record { list = list; label = label; channel = channel; round = round }
    → next ≡ record { list = h.list; label = h.label; channel = h.channel; round = h.round + 1 }
    → next ≡ record { list = list; label = label; channel = channel; round = round + 1 }
one_further h list label channel round next same n =
    n ∙ ap (λ (x : Hearing). let y : Hearing = record { list = x.list; label = x.label; channel = x.channel; round = x.round + 1 } in y) same
