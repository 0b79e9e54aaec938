-- Laws of how a text buffer stands between its calls.
use Rattle.std.specs.Prelude.{◌≡◌, ◌≤◌, ℕ, Bool, true, false, List, [], ◌++◌, refl, Ok, Err}
use Rattle.std.proofs.Common.{◌∙◌, ap, subst, append-nil, arith}
use Rattle.std.specs.declared.option.Option.{Option}
use Rattle.bus_outer.specs.Faults.{Rose}
use Rattle.bus_outer.proofs.FaultLaws.{rose_later}
use Rattle.bus_outer.specs.Sinks.{Written, WritesText}
use Rattle.bus_outer.specs.Standing.{Stands}
use Rattle.bus_outer.specs.inside.Buffers.{Sends}
use Rattle.bus_outer.specs.Texts.{Adds, Ends}
use Rattle.bus_outer.specs.Waiting.{waiting}
use Rattle.bus_outer.proofs.WriteLaws.{written_on, written_longer}
use Rattle.bus_outer.specs.declared.text_buffer.TextBuffer.{TextBuffer}

-- the buffer grew, and no call of the sink was made
stands_longer : {K : Type 0} (held : K → Option (List ℕ)) (faults : K → ℕ) (s k : K) (w : List ℕ) (f : Bool) (text bytes : List ℕ)
    → Stands held faults s k w f text → Stands held faults s k (w ++ bytes) f (text ++ bytes)
stands_longer held faults s k w f text bytes h = record {
  rest = h.rest ++ bytes;
  written = written_longer _ _ _ _ bytes h.written;
  waits = λ e. ap (λ l. l ++ bytes) (h.waits e);
  same = h.same;
  later = h.later;
  cause = h.cause;
}

-- after a failure nothing goes on
stands_failed : {K : Type 0} (held : K → Option (List ℕ)) (faults : K → ℕ) (s k : K) (w w' : List ℕ) (text bytes : List ℕ)
    → Stands held faults s k w true text → Stands held faults s k w' true (text ++ bytes)
stands_failed held faults s k w w' text bytes h = record {
  rest = h.rest ++ bytes;
  written = written_longer _ _ _ _ bytes h.written;
  waits = λ e. cc;
  same = λ e. cc;
  later = h.later;
  cause = h.cause;
}

-- the buffer and more bytes were written, all or a part
stands_written : {K : Type 0} (held : K → Option (List ℕ)) (faults : K → ℕ) (s k k' : K) (w w' : List ℕ) (f' : Bool)
    (text bytes rest : List ℕ) → Stands held faults s k w false text
    → Written (held k) (held k') rest (w ++ bytes) → faults k ≤ faults k' → (f' ≡ false → faults k' ≡ faults k)
    → (f' ≡ false → rest ≡ w') → (f' ≡ true → Rose (faults k) (faults k')) → Stands held faults s k' w' f' (text ++ bytes)
stands_written held faults s k k' w w' f' text bytes rest h v le kept same rose = record {
  rest = rest;
  written = written_on _ _ _ _ _ bytes rest (subst (λ r. Written (held s) (held k) r text) (h.waits refl) h.written) v;
  waits = same;
  same = λ e. kept e ∙ h.same refl;
  later = omega (arith, h.later);
  cause = λ e. rose_later _ _ _ h.later (rose e);
}

-- after a failure nothing is sent
pub sends_nothing : {K : Type 0} (held : K → Option (List ℕ)) (faults : K → ℕ) (k : K) (bytes : List ℕ)
    → Sends held faults k k true true bytes
sends_nothing held faults k bytes = record {
  goes = λ start waiting more text e h. stands_failed held faults start k waiting [] text more h;
}

-- all was written
pub sends_all : {K T E : Type 0} (held : K → Option (List ℕ)) (faults : K → ℕ) (k k' : K) (bytes : List ℕ) (x : T)
    → WritesText {E = E} held faults k k' (Ok x) bytes → Sends held faults k k' false false bytes
sends_all held faults k k' bytes x w = record {
  goes = λ start waiting more text e h. stands_written held faults start k k' waiting [] false text more [] h
      (subst (Written (held k) (held k') []) e w.ok) w.later (λ _. w.same) (λ _. refl) (λ f. cc);
}

-- a part was written
pub sends_part : {K T E : Type 0} (held : K → Option (List ℕ)) (faults : K → ℕ) (k k' : K) (bytes : List ℕ) (x : E)
    → WritesText {T = T} held faults k k' (Err x) bytes → Sends held faults k k' false true bytes
sends_part held faults k k' bytes x w = record {
  goes = λ start waiting more text e h. stands_written held faults start k k' waiting [] true text more w.prefix.0 h
      (subst (Written (held k) (held k') w.prefix.0) e w.prefix.1) w.later (λ f. cc) (λ f. cc) (λ _. w.cause);
}

-- the buffer and more bytes were sent
pub adds_sent : {K : Type 0} (held : K → Option (List ℕ)) (faults : K → ℕ) (k k' : K) (a b : TextBuffer) (bytes more : List ℕ)
    → Sends held faults k k' a.failed b.failed bytes → bytes ≡ waiting a.buffer ++ more → waiting b.buffer ≡ []
    → Adds held faults k k' a b more
adds_sent held faults k k' a b bytes more s e w = record {
  goes = λ start text h. rw w (s.goes start (waiting a.buffer) more text e h);
}

-- what is put is written where no write failed
pub ends_ok : {K T E : Type 0} (held : K → Option (List ℕ)) (faults : K → ℕ) (k k' : K) (a b : TextBuffer) (x : T)
    → Adds held faults k k' a b [] → waiting b.buffer ≡ [] → b.failed ≡ false → Ends {E = E} held faults k k' a (Ok x)
ends_ok held faults k k' a b x p w f = record {
  ends = λ start text h.
      let s = p.goes start text h in
      record {
        ok = subst (λ t. Written (held start) (held k') [] t) (append-nil text)
            (subst (λ r. Written (held start) (held k') r (text ++ [])) (s.waits f ∙ w) s.written);
        prefix = tt;
        same = s.same f;
        later = s.later;
        cause = tt;
      };
}

pub ends_err : {K T E : Type 0} (held : K → Option (List ℕ)) (faults : K → ℕ) (k k' : K) (a b : TextBuffer) (e : E)
    → Adds held faults k k' a b [] → b.failed ≡ true → Ends {T = T} held faults k k' a (Err e)
ends_err held faults k k' a b e p f = record {
  ends = λ start text h.
      let s = p.goes start text h in
      record {
        ok = tt;
        prefix = (s.rest, subst (λ t. Written (held start) (held k') s.rest t) (append-nil text) s.written);
        same = tt;
        later = s.later;
        cause = s.cause f;
      };
}
