use Rattle.std.proofs.Common.{arith, length, ap}
use Rattle.std.proofs.lemmas.List.{length-map, length-drop}
use Rattle.bus_text.specs.Entries.{texts}
use Rattle.bus_trace.proofs.draft.Draft.take_string.Goals as goal

pub wordstring-requires-clause-few : goal.wordstring-requires-clause-few
wordstring-requires-clause-few c =
    omega (
      arith,
      ap length c.fields_from-words.ensures,
      length-map c.fields_from-words.result.now (λ f. f.now),
      length-drop 1 (texts c.args.fields.now),
      length-map c.args.fields.now (λ f. f.now),
      c.if-fields-gt-MOST_FIELDS.false,
    )
