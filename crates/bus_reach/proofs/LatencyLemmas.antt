-- Data that just miss a start are received within their latency.
use Rattle.std.proofs.Common.{◌≡◌, ℕ, zero, suc, ◌+◌, ◌*◌, ◌<◌, ◌≤◌, true, List, [], ◌∷◌, length, map, take, Some, None, arith, sym, refl, ap, ◌∙◌, subst}
use Rattle.std.specs.Prelude.{◌==◌, nat_le, slice_get, IsTrue, Option}
use Rattle.std.specs.List.{sum_by, list_all}
use Rattle.std.specs.Option.{option_map_or}
use Rattle.std.proofs.lemmas.Bool.{and_parts, leb-true}
use Rattle.std.proofs.lemmas.List.Sums.{sum_by-cons}
use Rattle.bus_strings.specs.Limits.{word_bits}
use Rattle.bus_strings.specs.Members.{In}
use Rattle.bus_strings.proofs.MemberLaws.{at_in, from_map, in_map, pass_in}
use Rattle.bus_strings.specs.Messages.{Wordstring, Message, Entry, word_count}
use Rattle.bus_strings.specs.Pulses.{pulse_start, pulse_length}
use Rattle.bus_table.specs.declared.line.SendLine.{SendLine}
use Rattle.bus_table.specs.declared.mode.Mode.TheVariants.{Aperiodic, Periodic}
use Rattle.bus_table.specs.Fits.{allows, matches, fits}
use Rattle.bus_table.specs.Hands.{are_hands}
use Rattle.bus_table.specs.Lengths.{words_at_most}
use Rattle.bus_table.specs.Tables.{Sender, Table, Hand}
use Rattle.bus_table.specs.Valid.{is_valid}
use Rattle.bus_table.proofs.TurnLaws.{numbers_differ}
use Rattle.bus_table.proofs.ValidLaws.{valid_facts}
use Rattle.bus_medium.specs.Delays.{Delays}
use Rattle.bus_medium.specs.Lawful.{Station, IsNext}
use Rattle.bus_medium.specs.Timings.{stations_of}
use Rattle.bus_regime.specs.Verdicts.{is_accepted}
use Rattle.bus_regime.proofs.GapLaws.{same_by_number}
use Rattle.bus_schedule.specs.Even.{are_even, messages_of, rounds}
use Rattle.bus_schedule.specs.Runs.{IsApart}
use Rattle.bus_schedule.proofs.HandLemmas.{own_fit, station, stations_are}
use Rattle.bus_reach.specs.Latency.{wait_in, longest_wait, string_end}
use Rattle.bus_reach.specs.LatencyLaws.{received_end, AperiodicAreInTime, PeriodicAreInTime}
use Rattle.bus_reach.specs.Laws.{BorneIsClosed}
use Rattle.bus_reach.specs.PeriodicLaws.{PeriodicBorneIsClosed}
use Rattle.bus_reach.specs.Runs.{cycle_delay}

-- ---- where a wordstring ends
-- the words of the wordstring at a place, and of those before it
abbrev words_to : Message → ℕ → ℕ
words_to message place = sum_by word_count (take place message) + option_map_or word_count (slice_get message place) 0

one_more : (k : ℕ) → suc k + 1 ≡ suc (k + 1)
one_more k = omega arith

-- with one wordstring more in front
words_first : (line : SendLine) (sends : List SendLine) (string : Wordstring) (message : Message) (place : ℕ) → length string.words ≤ line.most
    → ((k : ℕ) → place ≡ suc k → words_to message k ≤ words_at_most (take (k + 1) sends))
    → words_to (string ∷ message) place ≤ words_at_most (take (place + 1) (line ∷ sends))
words_first line sends string message zero low rest =
    let one = sum_by-cons (λ (l : SendLine). 1 + l.most) line [] in
    omega (arith, one)
words_first line sends string message (suc place) low rest =
    let so = rest place refl in
    let first = sum_by-cons word_count string (take place message) in
    let lines = sum_by-cons (λ (l : SendLine). 1 + l.most) line (take (place + 1) sends) in
    subst (λ n. words_to (string ∷ message) (suc place) ≤ words_at_most (take n (line ∷ sends))) (sym (one_more place)) (omega (arith, so, first, lines))

words_within : (sends : List SendLine) (message : Message) (place : ℕ) → matches allows sends message ≡ true → place < length sends
    → words_to message place ≤ words_at_most (take (place + 1) sends)
words_within [] message place h inside = absurd (omega arith)
words_within (line ∷ sends) [] place h inside = absurd cc
words_within (line ∷ sends) (string ∷ message) place h inside =
    let label = and_parts (string.label == line.label) _ h in
    let ext = and_parts (string.ext == line.ext) _ label.1 in
    let words = and_parts (allows line (length string.words)) _ ext.1 in
    let bounds = and_parts (nat_le line.least (length string.words)) _ words.0 in
    words_first line sends string message place (leb-true (length string.words) line.most bounds.1)
    (λ k e. words_within sends message k words.1 (omega arith))

bits_of_words : (o : Option Wordstring) → option_map_or (λ string. word_bits * word_count string) o 0 ≡ word_bits * option_map_or word_count o 0
bits_of_words None = refl
bits_of_words (Some string) = refl

ends_within : (sender : Sender) (message : Message) (place : ℕ) → fits sender message ≡ true → place < length sender.sends
    → pulse_start message place + pulse_length message place ≤ string_end sender.sends place
ends_within sender message place h inside =
    let words = words_within sender.sends message place h inside in
    let bits = bits_of_words (slice_get message place) in
    omega (arith, words, bits)

-- ---- a transmission fits its sender
next_fits : (table : Table) (hands : List Hand) (list : List Entry) (x : Entry) (sender : Sender) → IsTrue (is_valid table) → IsTrue (are_even table hands)
    → IsNext (stations_of table hands) list x → In sender table.senders → x.terminal ≡ sender.number → fits sender x.message ≡ true
next_fits table hands list x sender valid even next there own =
    let parts = and_parts (are_hands table.senders hands) (list_all (λ hand. length hand.messages == rounds hands) hands) even in
    let differ = numbers_differ table (valid_facts table valid) in
    let w = from_map (station table (messages_of hands)) table.senders next.sender
    (subst (λ l. In next.sender l) (stations_are table table.senders hands parts.0 differ) next.there) in
    let number : w.0.number ≡ x.terminal = ap (λ (s : Station). s.number) w.2 ∙ next.number in
    let same : w.0 ≡ sender = same_by_number table.senders differ w.0 sender w.1 there (number ∙ own) in
    let hand : next.sender.hand ≡ messages_of hands w.0.number = ap (λ (s : Station). s.hand) (sym w.2) in
    let in_hand : In x.message (messages_of hands w.0.number) = subst (λ l. In x.message l) hand (at_in next.sender.hand _ x.message next.message) in
    subst (λ s. fits s x.message ≡ true) same
    (pass_in (fits w.0) (messages_of hands w.0.number) x.message (own_fit table.senders hands parts.0 differ w.0 w.1) in_hand)

-- ---- in time
in_time : (delay : Delays) (sender : Sender) (number place d wait least most : ℕ) (missed next : Entry) → IsApart least most missed next → most ≡ wait
    → fits sender next.message ≡ true → place < length sender.sends → delay next number ≤ d
    → received_end delay number next place ≤ missed.moment + (wait + string_end sender.sends place + d)
in_time delay sender number place d wait least most missed next apart is fit inside near =
    let late : next.moment ≤ missed.moment + most = apart.no_later in
    let end = ends_within sender next.message place fit inside in
    sums (pulse_start next.message place + pulse_length next.message place) (string_end sender.sends place) next.moment missed.moment most wait (delay next number) d late is end near
  where
    sums : (ends end next missed most wait lag d : ℕ) → next ≤ missed + most → most ≡ wait → ends ≤ end → lag ≤ d → next + ends + lag ≤ missed + (wait + end + d)
    sums ends end next missed most wait lag d late is low near = omega arith

pub aperiodic_in_time : BorneIsClosed → AperiodicAreInTime
aperiodic_in_time closed table hands least most d delay wake valid mode accepts even delays wakes borne = λ sender k place number missed next there inside at own later hears.
    let accepted = subst (λ v. IsTrue (is_accepted v)) (sym accepts) refl in
    let run = closed table hands d delay wake valid mode accepted even delays wakes borne in
    let apart = run.spaced Aperiodic least most k missed next accepts at later in
    let terminal : next.terminal ≡ sender.number = sym apart.one_sender ∙ own in
    let waits : most + cycle_delay table d ≡ longest_wait table most d = sym (ap (λ m. wait_in m table most d) mode) in
    let fit = next_fits table hands _ next sender valid even (run.lawful.sent next (at_in _ _ next later)).1 there terminal in
    (terminal, in_time delay sender number place d (longest_wait table most d) least (most + cycle_delay table d) missed next apart waits fit inside (hears next (subst (λ n. In n (map (λ (s : Sender). s.number) table.senders)) (sym terminal) (in_map (λ (s : Sender). s.number) table.senders sender there))))

pub periodic_in_time : PeriodicBorneIsClosed → PeriodicAreInTime
periodic_in_time closed table hands least most d delay valid mode accepts even delays borne = λ sender k place number missed next there inside at own later hears.
    let accepted = subst (λ v. IsTrue (is_accepted v)) (sym accepts) refl in
    let run = closed table hands d delay valid mode accepted even delays borne in
    let apart = run.paced.apart Periodic least most k missed next accepts at later in
    let terminal : next.terminal ≡ sender.number = sym apart.one_sender ∙ own in
    let waits : most ≡ longest_wait table most d = sym (ap (λ m. wait_in m table most d) mode) in
    let fit = next_fits table hands _ next sender valid even (run.lawful.sent next (at_in _ _ next later)).1 there terminal in
    (terminal, in_time delay sender number place d (longest_wait table most d) least most missed next apart waits fit inside (hears next (subst (λ n. In n (map (λ (s : Sender). s.number) table.senders)) (sym terminal) (in_map (λ (s : Sender). s.number) table.senders sender there))))
