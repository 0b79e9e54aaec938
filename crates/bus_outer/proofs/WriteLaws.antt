-- Laws of what was taken of a source and written of a text, by which the clauses of several calls compose.
--
--   writes_nothing   a call that leaves the sink alone has written the empty text
--   writes_then      a writer after another one, which answered Ok, has written both texts
--   writes_cut       where the first one fails, a front of both texts stands there
--   taken_on         what two reads took came from the front together
use Rattle.std.specs.Prelude.{◌≡◌, ℕ, List, [], ◌++◌, take, drop, refl, Some, None, Ok, Err, IsErr}
use Rattle.std.proofs.Common.{sym, ap, ◌∙◌, append_assoc, append-nil, take-append-drop, arith}
use Rattle.std.specs.declared.option.Option.{Option}
use Rattle.std.specs.declared.result.Result.{Result}
use Rattle.std.specs.Io.KnownBytes.{append_known, prepend_known}
use Rattle.bus_outer.proofs.FaultLaws.{rose_later}
use Rattle.bus_outer.specs.Sources.{Taken}
use Rattle.bus_outer.specs.Sinks.{Written, WritesText}

-- Adding nothing changes nothing.
pub append_known-nil : (a : Option (List ℕ)) → append_known a [] ≡ a
append_known-nil None = refl
append_known-nil (Some x) = ap Some (append-nil x)

-- Adding twice adds both at once.
pub append_known-append : (a : Option (List ℕ)) (xs ys : List ℕ) → append_known (append_known a xs) ys ≡ append_known a (xs ++ ys)
append_known-append None xs ys = refl
append_known-append (Some x) xs ys = ap Some (append_assoc x xs ys)

-- Nothing of a text has gone.
pub written_none : (a : Option (List ℕ)) (text : List ℕ) → Written a a text text
written_none a text = record { gone = []; held_is = sym (append_known-nil a); text_is = refl }

-- One push more has gone.
pub written_front : (a b c : Option (List ℕ)) (waiting back text : List ℕ) (n : ℕ) → Written a b waiting text
    → c ≡ append_known b (take n waiting) → back ≡ drop n waiting → Written a c back text
written_front a b c waiting back text n w e d = record {
  gone = w.gone ++ take n waiting;
  held_is = e ∙ ap (λ h. append_known h (take n waiting)) w.held_is ∙ append_known-append a w.gone (take n waiting);
  text_is = w.text_is ∙ ap (λ l. w.gone ++ l) (sym (take-append-drop n waiting))
      ∙ sym (append_assoc w.gone (take n waiting) (drop n waiting)) ∙ ap (λ l. (w.gone ++ take n waiting) ++ l) (sym d);
}

-- A text went on, and more of it has gone.
pub written_on : (a b c : Option (List ℕ)) (waiting text more rest : List ℕ) → Written a b waiting text
    → Written b c rest (waiting ++ more) → Written a c rest (text ++ more)
written_on a b c waiting text more rest w v = record {
  gone = w.gone ++ v.gone;
  held_is = v.held_is ∙ ap (λ h. append_known h v.gone) w.held_is ∙ append_known-append a w.gone v.gone;
  text_is = ap (λ l. l ++ more) w.text_is ∙ append_assoc w.gone waiting more ∙ ap (λ l. w.gone ++ l) v.text_is
      ∙ sym (append_assoc w.gone v.gone rest);
}

-- Giving back twice gives back both at once.
pub prepend_known-append : (a : Option (List ℕ)) (xs ys : List ℕ) → prepend_known xs (prepend_known ys a) ≡ prepend_known (xs ++ ys) a
prepend_known-append None xs ys = refl
prepend_known-append (Some x) xs ys = ap Some (sym (append_assoc xs ys x))

-- What came in two parts came from the front.
pub taken_on : (a b c : Option (List ℕ)) (xs ys : List ℕ) → Taken a b xs → Taken b c ys → Taken a c (xs ++ ys)
taken_on a b c xs ys p q = p ∙ ap (prepend_known xs) q ∙ prepend_known-append c xs ys

-- A text went on, and no more of it has gone.
pub written_longer : (a b : Option (List ℕ)) (waiting text more : List ℕ) → Written a b waiting text
    → Written a b (waiting ++ more) (text ++ more)
written_longer a b waiting text more w = record {
  gone = w.gone;
  held_is = w.held_is;
  text_is = ap (λ l. l ++ more) w.text_is ∙ append_assoc w.gone waiting more;
}

-- A call that left the sink alone wrote the empty text.
pub writes_nothing : {K T E : Type 0} (held : K → Option (List ℕ)) (faults : K → ℕ) (k : K) (x : T)
    → WritesText {E = E} held faults k k (Ok x) []
writes_nothing held faults k x = record {
  ok = written_none (held k) [];
  prefix = tt;
  same = refl;
  later = omega arith;
  cause = tt;
}

-- One text was written whole, and another after it.
pub writes_then : {K T U E : Type 0} (held : K → Option (List ℕ)) (faults : K → ℕ) (a b c : K) (x : T) (result : Result U E)
    (first second : List ℕ) → WritesText {E = E} held faults a b (Ok x) first → WritesText held faults b c result second
    → WritesText held faults a c result (first ++ second)
writes_then held faults a b c x (Ok y) first second p q = record {
  ok = written_on _ _ _ [] first second [] p.ok q.ok;
  prefix = tt;
  same = q.same ∙ p.same;
  later = omega (arith, p.later, q.later);
  cause = tt;
}
writes_then held faults a b c x (Err e) first second p q = record {
  ok = tt;
  prefix = (q.prefix.0, written_on _ _ _ [] first second q.prefix.0 p.ok q.prefix.1);
  same = tt;
  later = omega (arith, p.later, q.later);
  cause = rose_later _ _ _ p.later q.cause;
}

-- One text was written in part, and no other was begun; the fault may be given as another error.
pub writes_cut : {K T U E F : Type 0} (held : K → Option (List ℕ)) (faults : K → ℕ) (a b : K) (e : E) (result : Result U F)
    (first second : List ℕ) → WritesText {T = T} held faults a b (Err e) first → IsErr result
    → WritesText held faults a b result (first ++ second)
writes_cut held faults a b e (Ok x) first second p h = cc
writes_cut held faults a b e (Err f) first second p h = record {
  ok = tt;
  prefix = (p.prefix.0 ++ second, written_longer _ _ p.prefix.0 first second p.prefix.1);
  same = tt;
  later = p.later;
  cause = p.cause;
}
