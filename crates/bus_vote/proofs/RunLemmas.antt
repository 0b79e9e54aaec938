-- Of a run, every round is voted.
use Rattle.std.proofs.Common.{◌≡◌, ℕ, ◌<◌, Bool, true, false, cond, ◌==◌, List, [], ◌∷◌, map, Option, Some, None, inl, inr, refl, ap, sym, ◌∙◌, subst}
use Rattle.std.specs.Prelude.{IsTrue, slice_get}
use Rattle.std.specs.List.{filter, flat_map}
use Rattle.std.specs.Option.{option_and_then, option_map}
use Rattle.std.proofs.lemmas.Bool.{eqb-true}
use Rattle.std.proofs.lemmas.Option.{slice_get-map}
use Rattle.bus_strings.specs.Members.{In}
use Rattle.bus_strings.proofs.ClearLaws.{unmarked}
use Rattle.bus_strings.proofs.MemberLaws.{in_append_cases, from_map, from_filter, from_given}
use Rattle.bus_strings.specs.Messages.{Entry}
use Rattle.bus_table.specs.declared.line.SendLine.{SendLine}
use Rattle.bus_table.specs.Tables.{Sender, Table, Hand}
use Rattle.bus_table.specs.Valid.{is_valid}
use Rattle.bus_table.proofs.ValidLaws.{valid_facts}
use Rattle.bus_table.proofs.TurnLaws.{numbers_differ}
use Rattle.bus_regime.specs.Verdicts.{verdict_of, is_accepted}
use Rattle.bus_schedule.specs.Even.{messages_of, message_in, rounds, are_even}
use Rattle.bus_schedule.specs.Closed.{closed, sends}
use Rattle.bus_schedule.specs.Laws.{AcceptedIsClosed}
use Rattle.bus_schedule.specs.Runs.{IsClear, IsRun}
use Rattle.bus_vote.specs.Labels.{Channel, VotedLabel, channel_of, sender_channels, channels, are_apart, voted, labels, voted_labels}
use Rattle.bus_vote.specs.Rounds.{is_of, sent_by, words_in, words_of, first_words, second_words, third_words}
use Rattle.bus_vote.specs.Votes.{two_are_present, TwoAre}
use Rattle.bus_vote.specs.VoteLaws.{Brings, IsVotedFrom, RunsAreVoted}
use Rattle.bus_vote.proofs.HandLemmas.{sent_words}
use Rattle.bus_vote.proofs.TurnLemmas.{is_own, turn_of}
use Rattle.bus_vote.proofs.VotingLemmas.{votes_of_two}

-- ---- a list without overlaps
own_by : (number : ℕ) (xs : List Entry) → filter (is_of number) (map (λ x. (x, false)) xs) ≡ map (λ x. (x, false)) (filter (is_own number) xs)
own_by number [] = refl
own_by number (x ∷ xs) =
    elim (x.terminal == number) as (λ b. cond b ((x, false) ∷ filter (is_of number) (map (λ x. (x, false)) xs)) (filter (is_of number) (map (λ x. (x, false)) xs))
    ≡ map (λ x. (x, false)) (cond b (x ∷ filter (is_own number) xs) (filter (is_own number) xs))) [
      | true ↦ ap (λ t. (x, false) ∷ t) (own_by number xs)
      | false ↦ own_by number xs
    ]

-- the transmissions of a terminal in a list without overlaps are those that it has, none of them garbled
sent_clear : (number : ℕ) (list : List Entry) → IsClear list → sent_by number list ≡ map (λ x. (x, false)) (filter (is_own number) list)
sent_clear number list c = ap (filter (is_of number)) (unmarked list c) ∙ own_by number list

-- ---- the channels of a voted label
voted_parts : (label : ℕ) (cs : List Channel) (v : VotedLabel) → voted label cs ≡ Some v → (v.label ≡ label) × (cs ≡ v.first ∷ (v.second ∷ (v.third ∷ [])))
voted_parts label [] v h = absurd (let w : None ≡ Some v = h in cc)
voted_parts label (a ∷ []) v h = absurd (let w : None ≡ Some v = h in cc)
voted_parts label (a ∷ (b ∷ [])) v h = absurd (let w : None ≡ Some v = h in cc)
voted_parts label (a ∷ (b ∷ (c ∷ []))) v h = by_test (are_apart a b c) h where
  by_test : (t : Bool) → cond t (Some (record { label = label; first = a; second = b; third = c })) None ≡ Some v
      → (v.label ≡ label) × ((a ∷ (b ∷ (c ∷ []))) ≡ v.first ∷ (v.second ∷ (v.third ∷ [])))
  by_test true k = subst (λ (w : VotedLabel). (w.label ≡ label) × ((a ∷ (b ∷ (c ∷ []))) ≡ w.first ∷ (w.second ∷ (w.third ∷ [])))) (some_is k) (refl, refl) where
    some_is : {u : VotedLabel} → Some u ≡ Some v → u ≡ v
    some_is e = cc
  by_test false k = absurd (let w : None ≡ Some v = k in cc)
voted_parts label (a ∷ (b ∷ (c ∷ (d ∷ rest)))) v h = absurd (let w : None ≡ Some v = h in cc)

from_flat : {X Y : Type 0} (f : X → List Y) (xs : List X) (y : Y) → In y (flat_map f xs) → (x : X) × In x xs × In y (f x)
from_flat f [] y i = absurd i
from_flat f (x ∷ xs) y i = elim (in_append_cases (f x) (flat_map f xs) y i) [
  | inl h ↦ (x, inl refl, h)
  | inr r ↦ (let w = from_flat f xs y r in (w.0, inr w.1, w.2))
]

-- a channel of a label is a line of a sender
record IsLine (table : Table) (label : ℕ) (channel : Channel) : Type 0 where
  pub sender : Sender
  pub line : SendLine
  pub in_table : In sender table.senders
  pub in_sender : In line sender.sends
  pub label_is : line.label ≡ label
  pub channel_is : channel ≡ channel_of sender line

channel_line : (table : Table) (label : ℕ) (channel : Channel) → In channel (channels table label) → IsLine table label channel
channel_line table label channel i =
    let s = from_flat (sender_channels label) table.senders channel i in
    let l = from_map (channel_of s.0) (filter (λ (line : SendLine). line.label == label) s.0.sends) channel s.2 in
    let p = from_filter (λ (line : SendLine). line.label == label) s.0.sends l.0 l.1 in
    record { sender = s.0; line = l.0; in_table = s.1; in_sender = p.0; label_is = eqb-true l.0.label label p.1; channel_is = sym l.2 }

-- ---- a run
module _ (law : AcceptedIsClosed) (table : Table) (hands : List Hand) (valid : IsTrue (is_valid table)) (accepted : IsTrue (is_accepted (verdict_of table)))
    (even : IsTrue (are_even table hands)) where
  -- a channel has the words of its sender's message
  brings : (label : ℕ) (channel : Channel) (round : ℕ) → In channel (channels table label) → round < rounds hands
      → Brings hands (closed table hands) label channel round
  brings label channel round i within = of_line (channel_line table label channel i) where
    of_line : IsLine table label channel → Brings hands (closed table hands) label channel round
    of_line l =
        let facts = valid_facts table valid in
        let run : IsRun table hands (closed table hands) = law table hands valid accepted even in
        let words = sent_words table hands l.sender l.line round (numbers_differ table facts) even l.in_table l.in_sender within in
        let turn = turn_of table hands l.sender round facts l.in_table within in
        let x : Entry = sends (messages_of hands) round l.sender turn.0 in
        let at : slice_get (sent_by l.sender.number (closed table hands)) round ≡ Some (x, false) =
        ap (λ ms. slice_get ms round) (sent_clear l.sender.number (closed table hands) run.clear)
        ∙ slice_get-map (λ (y : Entry). (y, false)) (filter (is_own l.sender.number) (closed table hands)) round
        ∙ ap (option_map (λ (y : Entry). (y, false))) turn.1 in
        let sent : words_in label l.line.ext (message_in hands l.sender.number round) ≡ Some words.0 =
        ap (λ n. words_in n l.line.ext (message_in hands l.sender.number round)) (sym l.label_is) ∙ words.1 in
        let own : Brings hands (closed table hands) label (channel_of l.sender l.line) round = record {
          words = words.0;
          sent = sent;
          had = ap (option_and_then (words_of label l.line.ext)) at ∙ sent;
        } in
        subst (λ (c : Channel). Brings hands (closed table hands) label c round) (sym l.channel_is) own

  from_hands : (v : VotedLabel) (round : ℕ) → In v (voted_labels table) → round < rounds hands → IsVotedFrom hands (closed table hands) v round
  from_hands v round i within = of_parts (from_given (λ label. voted label (channels table label)) labels v i) where
    of_parts : (label : ℕ) × (voted label (channels table label) ≡ Some v) → IsVotedFrom hands (closed table hands) v round
    of_parts w = by_parts (voted_parts w.0 (channels table w.0) v w.1) where
      by_parts : (v.label ≡ w.0) × (channels table w.0 ≡ v.first ∷ (v.second ∷ (v.third ∷ []))) → IsVotedFrom hands (closed table hands) v round
      by_parts p =
          let list : List Entry = closed table hands in
          let cs : channels table v.label ≡ v.first ∷ (v.second ∷ (v.third ∷ [])) = ap (channels table) p.0 ∙ p.1 in
          let a : Brings hands list v.label v.first round = brings v.label v.first round (subst (λ ds. In v.first ds) (sym cs) (inl refl)) within in
          let b : Brings hands list v.label v.second round = brings v.label v.second round (subst (λ ds. In v.second ds) (sym cs) (inr (inl refl))) within in
          let c : Brings hands list v.label v.third round = brings v.label v.third round (subst (λ ds. In v.third ds) (sym cs) (inr (inr (inl refl)))) within in
          record {
            is_voted = present a.words b.words _ _ _ a.had b.had;
            first = a;
            second = b;
            third = c;
            fixed = λ words two. votes_of_two words (first_words list v round) (second_words list v round) (third_words list v round)
                (two_moved words _ _ _ _ _ _ (a.sent ∙ sym a.had) (b.sent ∙ sym b.had) (c.sent ∙ sym c.had) two);
          } where
            present : (x y : List ℕ) (a b c : Option (List ℕ)) → a ≡ Some x → b ≡ Some y → two_are_present a b c ≡ true
            present x y a b c h k = rw (h, k) refl

            two_moved : (words : List ℕ) (a b c p q r : Option (List ℕ)) → a ≡ p → b ≡ q → c ≡ r → TwoAre words a b c → TwoAre words p q r
            two_moved words a b c p q r h k l (inl t) = inl (sym h ∙ t.0, sym k ∙ t.1)
            two_moved words a b c p q r h k l (inr (inl t)) = inr (inl (sym h ∙ t.0, sym l ∙ t.1))
            two_moved words a b c p q r h k l (inr (inr t)) = inr (inr (sym k ∙ t.0, sym l ∙ t.1))

pub runs_are_voted : AcceptedIsClosed → RunsAreVoted
runs_are_voted law table list valid hands v round accepted even same i within =
    subst (λ (xs : List Entry). IsVotedFrom hands xs v round) (sym same) (from_hands law table hands valid accepted even v round i within)
