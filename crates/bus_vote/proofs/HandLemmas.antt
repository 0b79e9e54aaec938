-- The message of a sender in a round, and the words that it has for a SEND line.
use Rattle.std.proofs.Common.{◌≡◌, ℕ, ◌<◌, Bool, true, false, cond, ◌==◌, List, [], ◌∷◌, length, Some, inl, inr, refl, ap, ◌∙◌, arith}
use Rattle.std.specs.Prelude.{IsTrue}
use Rattle.std.specs.List.{list_all, find}
use Rattle.std.specs.Option.{option_map}
use Rattle.std.proofs.lemmas.Bool.{and_parts, and_from}
use Rattle.bus_strings.specs.Members.{In}
use Rattle.bus_strings.proofs.ListLaws.{all_pass}
use Rattle.bus_strings.specs.Messages.{Wordstring, Message}
use Rattle.bus_table.specs.declared.line.SendLine.{SendLine}
use Rattle.bus_table.specs.Tables.{Sender, Table, Hand}
use Rattle.bus_table.specs.Fits.{allows, matches, fits}
use Rattle.bus_table.specs.Hands.{are_hands}
use Rattle.bus_table.specs.inside.Orders.{Differ}
use Rattle.bus_schedule.proofs.HandLemmas.{own_fit, own_count}
use Rattle.bus_schedule.specs.Even.{messages_of, message_in, rounds, are_even}
use Rattle.bus_vote.specs.Rounds.{is_named, words_in}

-- ---- the words for a line
record Named (label ext : ℕ) (message : Message) : Type 0 where
  pub words : List ℕ
  pub has : words_in label ext message ≡ Some words

-- a message has words where one of its wordstrings is named so
named_here : (label ext : ℕ) (string : Wordstring) (message : Message) → is_named label ext string ≡ true → Named label ext (string ∷ message)
named_here label ext string message h = record {
  words = string.words;
  has = ap (λ (t : Bool). option_map (λ (s : Wordstring). s.words) (cond t (Some string) (find (is_named label ext) message))) h;
}

named_there : (label ext : ℕ) (string : Wordstring) (message : Message) → Named label ext message → Named label ext (string ∷ message)
named_there label ext string message n = by_test (is_named label ext string) refl where
  by_test : (t : Bool) → is_named label ext string ≡ t → Named label ext (string ∷ message)
  by_test true e = named_here label ext string message e
  by_test false e = record {
    words = n.words;
    has = ap (λ (t : Bool). option_map (λ (s : Wordstring). s.words) (cond t (Some string) (find (is_named label ext) message))) e ∙ n.has;
  }

named : (sends : List SendLine) (message : Message) (line : SendLine) → matches allows sends message ≡ true → In line sends → Named line.label line.ext message
named [] message line h i = absurd i
named (own ∷ sends) [] line h i = absurd cc
named (own ∷ sends) (string ∷ message) line h i =
    let label = and_parts (string.label == own.label) _ h in
    let ext = and_parts (string.ext == own.ext) _ label.1 in
    let words = and_parts (allows own (length string.words)) _ ext.1 in
    elim i [
      | inl same ↦ named_here line.label line.ext string message
          (and_from (string.label == line.label) (string.ext == line.ext)
          (ap (λ (l : SendLine). string.label == l.label) same ∙ label.0) (ap (λ (l : SendLine). string.ext == l.ext) same ∙ ext.0))
      | inr j ↦ named_there line.label line.ext string message (named sends message line words.1 j)
    ]

-- the message of a round has words for each line of its sender
pub sent_words : (table : Table) (hands : List Hand) (sender : Sender) (line : SendLine) (round : ℕ) → Differ (λ s. s.number) table.senders
    → IsTrue (are_even table hands) → In sender table.senders → In line sender.sends → round < rounds hands
    → (words : List ℕ) × (words_in line.label line.ext (message_in hands sender.number round) ≡ Some words)
sent_words table hands sender line round d even i j within =
    let parts = and_parts (are_hands table.senders hands) (list_all (λ hand. length hand.messages == rounds hands) hands) even in
    let count = own_count (rounds hands) table.senders hands parts.0 parts.1 d sender i in
    let fit = all_pass (fits sender) (messages_of hands sender.number) round [] (own_fit table.senders hands parts.0 d sender i) (omega (arith, count)) in
    let n : Named line.label line.ext (message_in hands sender.number round) = named sender.sends (message_in hands sender.number round) line fit j in
    (n.words, n.has)
