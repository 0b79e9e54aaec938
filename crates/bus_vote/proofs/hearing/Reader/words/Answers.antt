use Rattle.std.proofs.Common.{◌≡◌, ◌≤◌, Some, length, refl, sym, ap, ◌∙◌}
use Rattle.std.specs.Prelude.{slice_get}
use Rattle.std.proofs.lemmas.Option.{slice_get_read}
use Rattle.bus_strings.specs.Messages.{Entry}
use Rattle.bus_vote.specs.inside.Finds.{Hearing}
use Rattle.bus_vote.specs.Rounds.{words_in, channel_words}
use Rattle.bus_vote.proofs.HearingLemmas.{words_found, hearing_next}
use Rattle.bus_vote.proofs.hearing.Reader.words.Goals as goal

pub returns-clause-words : goal.returns-clause-words
returns-clause-words c =
    let s = c.self.inside in
    let find = c.in_ok-find.find.now in
    let x = c.index-self-find.result in
    let found = c.in_ok-find.ensures.lookup in
    let there : slice_get s.finds.now s.at ≡ Some find = slice_get_read s.finds.now (length s.finds.now) s.at find refl found.3.0 found.1 in
    let sent : slice_get s.list.now find.place ≡ Some x =
    slice_get_read s.list.now (length s.list.now) find.place x refl (c.self.invariant.finds_are.placed s.at find there) c.index-self-find.is in
    let low : find.round ≤ s.round = c.if-round-find.false in
    c.words_in.ensures ∙ ap (λ (e : Entry). words_in s.label s.channel.ext e.message) (c.x.view_is ∙ sym c.index-self-find.is)
    ∙ words_found s.list.now s.finds.now s.label s.channel s.round s.at find x c.self.invariant there low sent
    ∙ ap (λ (h : Hearing). channel_words h.list h.label h.channel h.round) c.self.view_is

pub invariant_of-self-2 : goal.invariant_of-self-2
invariant_of-self-2 c =
    let s = c.self.inside in
    let find = c.in_ok-find.find.now in
    let found = c.in_ok-find.ensures.lookup in
    let there : slice_get s.finds.now s.at ≡ Some find = slice_get_read s.finds.now (length s.finds.now) s.at find refl found.3.0 found.1 in
    hearing_next s.list.now s.finds.now s.label s.channel s.round s.at c.next_own-self-inside.result find c.self.invariant there
    c.if-round-find.false c.next_own-self-inside.ensures.skipped c.next_own-self-inside.ensures.own
