-- Laws by which the puts of a text compose, for the writers of every crate (`Texts` says how they are used).
--
--   adds_then, p ▸ q   one put after another adds the bytes of both
--   ends_text          a buffer that was made, put and finished has written its text
--   adds_nothing       no put adds nothing
--   failed_adds        behind a failed write no put adds anything
use Rattle.std.specs.Prelude.{◌≡◌, ℕ, true, List, [], ◌++◌, refl}
use Rattle.std.proofs.Common.{sym, subst, ap, ◌∙◌, append_assoc, append-nil, arith}
use Rattle.std.specs.declared.option.Option.{Option}
use Rattle.std.specs.declared.result.Result.{Result}
use Rattle.bus_outer.specs.Sinks.{WritesText}
use Rattle.bus_outer.specs.Texts.{IsFresh, TextIs, Adds, Ends, has_failed}
use Rattle.bus_outer.proofs.WriteLaws.{written_none}
use Rattle.bus_outer.specs.declared.text_buffer.TextBuffer.{TextBuffer}

-- A buffer that was just made holds the empty text.
pub fresh_text : {K : Type 0} (held : K → Option (List ℕ)) (faults : K → ℕ) (k : K) (a : TextBuffer) → IsFresh a
    → TextIs held faults k k a []
fresh_text held faults k a f = record {
  rest = [];
  written = written_none (held k) [];
  waits = λ _. sym f.empty;
  same = λ _. refl;
  later = omega arith;
  cause = λ e. cc (e, f.sound);
}

-- A text that was begun, put and finished is written.
pub ends_text : {K T E : Type 0} (held : K → Option (List ℕ)) (faults : K → ℕ) (start k k' : K) (a b : TextBuffer) (result : Result T E)
    (text : List ℕ) → Ends held faults k k' b result → Adds held faults start k a b text → IsFresh a
    → WritesText held faults start k' result text
ends_text held faults start k k' a b result text e p f = e.ends start text (p.goes start [] (fresh_text held faults start a f))

-- One put after another adds the bytes of both.
pub adds_then : {K : Type 0} {held : K → Option (List ℕ)} {faults : K → ℕ} {k k' k'' : K} {a b c : TextBuffer} {xs ys : List ℕ}
    → Adds held faults k k' a b xs → Adds held faults k' k'' b c ys → Adds held faults k k'' a c (xs ++ ys)
adds_then {K} {held} {faults} {k} {k'} {k''} {a} {b} {c} {xs} {ys} p q = record {
  goes = λ start text h.
      subst (TextIs held faults start k'' c) (append_assoc text xs ys) (q.goes start (text ++ xs) (p.goes start text h));
}

infixl 5 ◌▸◌
-- The same law, as an operator.
pub ◌▸◌ : {K : Type 0} {held : K → Option (List ℕ)} {faults : K → ℕ} {k k' k'' : K} {a b c : TextBuffer} {xs ys : List ℕ}
    → Adds held faults k k' a b xs → Adds held faults k' k'' b c ys → Adds held faults k k'' a c (xs ++ ys)
p ▸ q = adds_then p q

-- No put adds nothing.
pub adds_nothing : {K : Type 0} (held : K → Option (List ℕ)) (faults : K → ℕ) (k : K) (a : TextBuffer) → Adds held faults k k a a []
adds_nothing held faults k a = record {
  goes = λ start text h. subst (TextIs held faults start k a) (sym (append-nil text)) h;
}

-- Behind a failed write nothing more is taken, so that no put adds anything.
pub failed_adds : {K : Type 0} (held : K → Option (List ℕ)) (faults : K → ℕ) (k : K) (a : TextBuffer) (bytes : List ℕ)
    → has_failed a ≡ true → Adds held faults k k a a bytes
failed_adds held faults k a bytes failed = record {
  goes = λ start text h. record {
    rest = h.rest ++ bytes;
    written = record {
      gone = h.written.gone;
      held_is = h.written.held_is;
      text_is = ap (λ t. t ++ bytes) h.written.text_is ∙ append_assoc h.written.gone h.rest bytes;
    };
    waits = λ e. cc (e, failed);
    same = λ e. cc (e, failed);
    later = h.later;
    cause = h.cause;
  };
}
