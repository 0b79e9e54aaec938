use Rattle.std.proofs.Common.{◌≡◌, [], true, arith, sym, subst}
use Rattle.std.proofs.lemmas.List.{length-map}
use Rattle.bus_text.specs.Entries.{texts}
use Rattle.bus_words.specs.WordTexts.{form, is_of}
use Rattle.bus_stream.proofs.WordLemmas.{all_at, is_framed}
use Rattle.bus_stream.proofs.message.word_at.Goals as goal

pub unwrap-requires : goal.unwrap-requires
unwrap-requires c = is_framed _ _ _ c.read_frame.ensures
    (subst (λ f. is_of form f ≡ true) (sym c.field_at.ensures)
    (all_at (is_of form) (texts c.args.fields.now) c.args.place [] c.requires.spelled (omega (arith, c.requires.here, length-map c.args.fields.now (λ f. f.now)))))
