-- Texts that are put into a `TextBuffer` field by field, on their way to a sink.
--
--   IsFresh t                               nothing is put yet
--   TextIs held faults start now t text     since the sink was `start`, this text was put
--   Adds held faults k k' old new bytes     a call adds these bytes to the text, whatever it was
--   Ends held faults k k' old result        the text that was put is written, or a front of it
--
-- `held` and `faults` are the members of the bound, `K.held` and `K.faults`; k and k' are the sink before and after the call.
--
-- How a writer is stated. A public writer makes a buffer, puts, and finishes, and its one clause is.
--   WritesText K.held K.faults sink.old sink.new result (TEXT)
-- Each form of the format has a spec function that gives its bytes, and a private helper that puts it, with the clause.
--   Adds K.held K.faults sink.old sink.new text.old text.new (FORM)
-- The spec function joins its fields by `++`, grouped to the left, in the order of the puts: `codes "HOLD " ++ decimal n ++ ..`.
-- A choice (`match`, `if`) and a loop each have a helper of their own; the loop's invariant is.
--   Adds g.K.Sink.held g.K.Sink.faults l.fn.sink l.sink l.fn.text l.text (flat_map form (take l.x-index l.xs))
-- A long loop may end early where `has_failed` says so: a text that takes no more is one to which anything was added (`failed_adds`).
-- A helper of up to five puts needs no answer; else, and at the public writer,.
--   returns g c = search (adds_then, ends_text) depth 40        (both of `TextLaws`)
use Rattle.std.specs.Prelude.{◌≡◌, Bool, false, ℕ, List, [], ◌++◌}
use Rattle.std.specs.declared.option.Option.{Option}
use Rattle.std.specs.declared.result.Result.{Result}
use Rattle.bus_outer.specs.Sinks.{WritesText}
use Rattle.bus_outer.specs.Standing.{Stands}
use Rattle.bus_outer.specs.Waiting.{waiting}
use Rattle.bus_outer.specs.declared.text_buffer.TextBuffer.{TextBuffer}

-- Nothing is put yet, and no write has failed.
pub record IsFresh (t : TextBuffer) : Type 0 where
  pub empty : waiting t.buffer ≡ []
  pub sound : t.failed ≡ false

-- Since the sink was `start`, this text was put.
abbrev pub TextIs : {K : Type 0} → (K → Option (List ℕ)) → (K → ℕ) → K → K → TextBuffer → List ℕ → Type 0
TextIs held faults start now t text = Stands held faults start now (waiting t.buffer) t.failed text

-- Whether a write has failed, so that no more of the text is taken.
abbrev pub has_failed : TextBuffer → Bool
has_failed t = t.failed

-- A call adds these bytes to the text, whatever it was.
pub record Adds {K : Type 0} (held : K → Option (List ℕ)) (faults : K → ℕ) (k k' : K) (old new : TextBuffer) (bytes : List ℕ)
    : Type 0 where
  pub goes : (start : K) (text : List ℕ) → TextIs held faults start k old text → TextIs held faults start k' new (text ++ bytes)

-- The text that was put is written, or a front of it.
pub record Ends {K T E : Type 0} (held : K → Option (List ℕ)) (faults : K → ℕ) (k k' : K) (old : TextBuffer) (result : Result T E)
    : Type 0 where
  pub ends : (start : K) (text : List ℕ) → TextIs held faults start k old text → WritesText held faults start k' result text
