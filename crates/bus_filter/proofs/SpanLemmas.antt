-- The spans of receive lines, by label.
use Rattle.std.proofs.Common.{arith, zero, suc, ◌≡◌, ◌≢◌, ℕ, ◌+◌, ◌-◌, ◌<◌, ◌≤◌, ◌==◌, Bool, false, cond, List, [], ◌∷◌, length, take, drop, get_or, set}
use Rattle.std.proofs.Common.{Option, Some, refl, ap, sym, ◌∙◌, subst, inl, inr}
use Rattle.std.specs.Prelude.{slice_get}
use Rattle.std.specs.List.{filter, slice_range}
use Rattle.std.proofs.lemmas.Bool.{cases_lt, cases_eq, ne_eqb}
use Rattle.std.proofs.lemmas.List.{get_or-set_same, get_or-set_other, length-set}
use Rattle.std.proofs.lemmas.Option.{slice_get_within}
use Rattle.bus_table.specs.declared.line.TakeLine.{TakeLine}
use Rattle.bus_filter.specs.inside.Keys.{AreSpans, AreNoSpans, of_label, key_count, several, silent}

-- ---- the lines of a label stand in its span
pub none_pass : {X : Type 0} (p : X → Bool) (xs : List X) → ((k : ℕ) (x : X) → slice_get xs k ≡ Some x → p x ≡ false) → filter p xs ≡ []
none_pass p [] h = refl
none_pass p (x ∷ xs) h = ap (λ b. cond b (x ∷ filter p xs) (filter p xs)) (h zero x refl) ∙ none_pass p xs (λ k y e. h (suc k) y e)

front_pass : {X : Type 0} (p : X → Bool) (xs : List X) (n : ℕ) → ((k : ℕ) (x : X) → n ≤ k → slice_get xs k ≡ Some x → p x ≡ false)
    → filter p (take n xs) ≡ filter p xs
front_pass p [] zero h = refl
front_pass p [] (suc n) h = refl
front_pass p (x ∷ xs) zero h = sym (none_pass p (x ∷ xs) (λ k y e. h k y (omega arith) e))
front_pass p (x ∷ xs) (suc n) h = ap (λ t. cond (p x) (x ∷ t) t) (front_pass p xs n (λ k y low e. h (suc k) y (omega (arith, low)) e))

back_pass : {X : Type 0} (p : X → Bool) (xs : List X) (n : ℕ) → ((k : ℕ) (x : X) → k < n → slice_get xs k ≡ Some x → p x ≡ false)
    → filter p (drop n xs) ≡ filter p xs
back_pass p xs zero h = refl
back_pass p [] (suc n) h = refl
back_pass p (x ∷ xs) (suc n) h =
    back_pass p xs n (λ k y low e. h (suc k) y (omega (arith, low)) e)
    ∙ sym (ap (λ b. cond b (x ∷ filter p xs) (filter p xs)) (h zero x (omega arith) refl))

left_get : {X : Type 0} (xs : List X) (n k : ℕ) (x : X) → slice_get (drop n xs) k ≡ Some x → slice_get xs (n + k) ≡ Some x
left_get xs zero k x e = let z : 0 + k ≡ k = omega arith in ap (slice_get xs) z ∙ e
left_get [] (suc n) k x e = absurd (omega (arith, slice_get_within [] k x e))
left_get (y ∷ xs) (suc n) k x e = let z : suc n + k ≡ suc (n + k) = omega arith in ap (slice_get (y ∷ xs)) z ∙ left_get xs n k x e

-- Where all that pass stand in a range, they are those of the range.
range_pass : {X : Type 0} (p : X → Bool) (xs : List X) (a b : ℕ) → a ≤ b
    → ((k : ℕ) (x : X) → k < a → slice_get xs k ≡ Some x → p x ≡ false)
    → ((k : ℕ) (x : X) → b ≤ k → slice_get xs k ≡ Some x → p x ≡ false)
    → filter p (slice_range xs a b) ≡ filter p xs
range_pass p xs a b order low high =
    front_pass p (drop a xs) (b - a) (λ k x h e. high (a + k) x (omega (arith, h, order)) (left_get xs a k x e))
    ∙ back_pass p xs a low

pub span_lines : (takes : List TakeLine) (first behind : List ℕ) (label : ℕ) → label < several → AreSpans takes (length takes) first behind
    → of_label label (slice_range takes (get_or first label 0) (get_or behind label 0)) ≡ of_label label takes
span_lines takes first behind label low spans =
    range_pass (λ (line : TakeLine). line.label == label) takes (get_or first label 0) (get_or behind label 0) (spans.ordered label low)
    (λ k line before there. ne_eqb line.label label
    (λ same. let f = spans.from k line (slice_get_within takes k line there) there in
    let g : get_or first line.label 0 ≡ get_or first label 0 = ap (λ l. get_or first l 0) same in
    omega (arith, f, g, before)))
    (λ k line past there. ne_eqb line.label label
    (λ same. let f = spans.within k line (slice_get_within takes k line there) there in
    let g : get_or behind line.label 0 ≡ get_or behind label 0 = ap (λ l. get_or behind l 0) same in
    omega (arith, f, g, past)))

pub span_at : (takes : List TakeLine) (first behind : List ℕ) (label value : ℕ) (at a b : ℕ) → AreSpans takes (length takes) first behind → value < several → value ≡ label
    → at ≡ value → a ≡ get_or first at 0 → b ≡ get_or behind at 0 → of_label label (slice_range takes a b) ≡ of_label label takes
span_at takes first behind label value at a b spans low is i f g = rw (f, g, i, is) (span_lines takes first behind label (subst (λ (n : ℕ). n < several) is low) spans)

-- ---- one line after another
-- no line yet
pub none_spanned : (first behind : List ℕ) → length first ≡ key_count → length behind ≡ key_count
    → ((k : ℕ) → k < key_count → get_or first k 0 ≡ 0) → ((k : ℕ) → k < key_count → get_or behind k 0 ≡ 0)
    → AreNoSpans first (set behind several 1)
none_spanned first behind f b zero_first zero_behind = record {
  first_length = f;
  behind_length = length-set behind several 1 ∙ b;
  from = λ k line low there. absurd (omega (arith, low));
  within = λ k line low there. absurd (omega (arith, low));
  ordered = λ label low. let z = zero_first label (omega (arith, low)) in omega (arith, z);
  bound = λ label low.
      let other : label ≢ several = λ e. absurd (omega (arith, low, e)) in
      let z = get_or-set_other behind several label 1 0 other ∙ zero_behind label (omega (arith, low)) in
      omega (arith, z);
  unused = λ label low none.
      get_or-set_other behind several label 1 0 (λ e. absurd (omega (arith, low, e))) ∙ zero_behind label (omega (arith, low));
  several_taken = let z = get_or-set_same behind several 1 0 (omega (arith, b)) in omega (arith, z);
  silent_skipped = get_or-set_other behind several silent 1 0 (λ e. absurd (omega (arith, e))) ∙ zero_behind silent (omega arith);
}

-- none of other lines either
pub none_of : (takes : List TakeLine) (first behind : List ℕ) → AreNoSpans first behind → AreSpans takes 0 first behind
none_of takes first behind spans = record {
  first_length = spans.first_length;
  behind_length = spans.behind_length;
  from = λ k line low there. absurd (omega (arith, low));
  within = λ k line low there. absurd (omega (arith, low));
  ordered = spans.ordered;
  bound = spans.bound;
  unused = λ label low none. let b = spans.bound label low in omega (arith, b);
  several_taken = spans.several_taken;
  silent_skipped = spans.silent_skipped;
}

same_some : {X : Type 0} (o : Option X) (x y : X) → o ≡ Some x → o ≡ Some y → x ≡ y
same_some o x y a b = let e : Some x ≡ Some y = sym a ∙ b in cc

-- what is read where one value was set
set_read : (P : ℕ → Type 0) (xs : List ℕ) (a j v : ℕ) → a < length xs → (j ≡ a → P v) → ((j ≡ a → ⊥) → P (get_or xs j 0)) → P (get_or (set xs a v) j 0)
set_read P xs a j v within own other = elim (cases_eq j a) [
  | inl same ↦ subst P (sym (ap (λ n. get_or (set xs a v) n 0) same ∙ get_or-set_same xs a v 0 within)) (own same)
  | inr differs ↦ subst P (sym (get_or-set_other xs a j v 0 differs)) (other differs)
]

earlier : (k i : ℕ) → k < i + 1 → (k ≡ i → ⊥) → k < i
earlier k i h ne = elim (cases_lt k i) [
  | inl less ↦ less
  | inr more ↦ absurd (ne (omega (arith, h, more)))
]

-- and one more
pub one_spanned : (takes : List TakeLine) (i : ℕ) (line : TakeLine) (first behind : List ℕ) (v : ℕ) → slice_get takes i ≡ Some line → line.label < several
    → (get_or behind line.label 0 ≡ 0 → v ≡ i) → (0 < get_or behind line.label 0 → v ≡ get_or first line.label 0) → AreSpans takes i first behind
    → AreSpans takes (i + 1) (set first line.label v) (set behind line.label (i + 1))
one_spanned takes i line first behind v there low fresh known spans =
    let a : ℕ = line.label in
    let in_first : a < length first = omega (arith, low, spans.first_length) in
    let in_behind : a < length behind = omega (arith, low, spans.behind_length) in
    let order = spans.ordered a low in
    let bound = spans.bound a low in
    let v_low : v ≤ i = elim (cases_lt 0 (get_or behind a 0)) [
      | inl some ↦ let e = known some in omega (arith, e, order, bound)
      | inr none ↦ let e = fresh (omega (arith, none)) in omega (arith, e)
    ] in
    record {
      first_length = length-set first a v ∙ spans.first_length;
      behind_length = length-set behind a (i + 1) ∙ spans.behind_length;
      from = λ k l within at. set_read (λ n. n ≤ k) first a l.label v in_first
          (λ same. elim (cases_lt k i) [
            | inl less ↦
                let w = spans.within k l less at in
                let f = spans.from k l less at in
                let b : get_or behind l.label 0 ≡ get_or behind a 0 = ap (λ n. get_or behind n 0) same in
                let g : get_or first l.label 0 ≡ get_or first a 0 = ap (λ n. get_or first n 0) same in
                let e = known (omega (arith, w, b)) in
                omega (arith, f, e, g)
            | inr more ↦ omega (arith, more, v_low)
          ])
          (λ other. spans.from k l (earlier k i within (λ e. other (ap (λ (t : TakeLine). t.label) (same_some (slice_get takes i) l line (ap (slice_get takes) (sym e) ∙ at) there)))) at);
      within = λ k l within at. set_read (λ n. k < n) behind a l.label (i + 1) in_behind
          (λ same. within)
          (λ other. spans.within k l (earlier k i within (λ e. other (ap (λ (t : TakeLine). t.label) (same_some (slice_get takes i) l line (ap (slice_get takes) (sym e) ∙ at) there)))) at);
      ordered = λ label small. set_read (λ n. n ≤ get_or (set behind a (i + 1)) label 0) first a label v in_first
          (λ same. set_read (λ n. v ≤ n) behind a label (i + 1) in_behind (λ also. omega (arith, v_low)) (λ other. absurd (other same)))
          (λ other. set_read (λ n. get_or first label 0 ≤ n) behind a label (i + 1) in_behind (λ same. absurd (other same)) (λ also. spans.ordered label small));
      bound = λ label small. set_read (λ n. n ≤ i + 1) behind a label (i + 1) in_behind (λ same. omega arith) (λ other. let b = spans.bound label small in omega (arith, b));
      unused = λ label small none. set_read (λ n. n ≡ 0) behind a label (i + 1) in_behind
          (λ same. absurd (none i line (omega arith) there (sym same)))
          (λ other. spans.unused label small (λ k l less at. none k l (omega (arith, less)) at));
      several_taken = set_read (λ n. 0 < n) behind a several (i + 1) in_behind (λ same. omega arith) (λ other. spans.several_taken);
      silent_skipped = set_read (λ n. n ≡ 0) behind a silent (i + 1) in_behind (λ same. absurd (omega (arith, same, low))) (λ other. spans.silent_skipped);
    }

-- ---- and out again
-- what is left where the first i lines are taken out: all others' labels may still be noted
pub record AreLeft (takes : List TakeLine) (i : ℕ) (first behind : List ℕ) : Type 0 where
  pub first_length : length first ≡ key_count
  pub behind_length : length behind ≡ key_count
  pub ordered : (label : ℕ) → label < several → get_or first label 0 ≤ get_or behind label 0
  pub unused : (label : ℕ) → label < several → ((k : ℕ) (line : TakeLine) → i ≤ k → slice_get takes k ≡ Some line → line.label ≢ label)
      → get_or behind label 0 ≡ 0
  pub several_taken : 0 < get_or behind several 0
  pub silent_skipped : get_or behind silent 0 ≡ 0

pub all_left : (takes : List TakeLine) (first behind : List ℕ) → AreSpans takes (length takes) first behind → AreLeft takes 0 first behind
all_left takes first behind spans = record {
  first_length = spans.first_length;
  behind_length = spans.behind_length;
  ordered = spans.ordered;
  unused = λ label low none. spans.unused label low (λ k line less at. none k line (omega arith) at);
  several_taken = spans.several_taken;
  silent_skipped = spans.silent_skipped;
}

pub one_left : (takes : List TakeLine) (i : ℕ) (line : TakeLine) (first behind : List ℕ) → slice_get takes i ≡ Some line → line.label < several
    → AreLeft takes i first behind → AreLeft takes (i + 1) (set first line.label 0) (set behind line.label 0)
one_left takes i line first behind there low left =
    let a : ℕ = line.label in
    let in_first : a < length first = omega (arith, low, left.first_length) in
    let in_behind : a < length behind = omega (arith, low, left.behind_length) in
    record {
      first_length = length-set first a 0 ∙ left.first_length;
      behind_length = length-set behind a 0 ∙ left.behind_length;
      ordered = λ label small. set_read (λ n. n ≤ get_or (set behind a 0) label 0) first a label 0 in_first
          (λ same. omega arith)
          (λ other. set_read (λ n. get_or first label 0 ≤ n) behind a label 0 in_behind (λ same. absurd (other same)) (λ also. left.ordered label small));
      unused = λ label small none. set_read (λ n. n ≡ 0) behind a label 0 in_behind
          (λ same. refl)
          (λ other. left.unused label small (λ k l more at. elim (cases_lt i k) [
            | inl past ↦ none k l (omega (arith, past)) at
            | inr near ↦
                let e : i ≡ k = omega (arith, more, near) in
                (λ own. other (sym own ∙ ap (λ (t : TakeLine). t.label) (same_some (slice_get takes i) l line (ap (slice_get takes) e ∙ at) there)))
          ]));
      several_taken = set_read (λ n. 0 < n) behind a several 0 in_behind (λ same. absurd (omega (arith, same, low))) (λ other. left.several_taken);
      silent_skipped = set_read (λ n. n ≡ 0) behind a silent 0 in_behind (λ same. refl) (λ other. left.silent_skipped);
    }

pub none_left : (takes : List TakeLine) (i : ℕ) (first behind : List ℕ) → length takes ≤ i → AreLeft takes i first behind → AreNoSpans first behind
none_left takes i first behind past left =
    let zero_at : (label : ℕ) → label < several → get_or behind label 0 ≡ 0 = λ label low.
    left.unused label low (λ k line more at. absurd (let w = slice_get_within takes k line at in omega (arith, w, more, past))) in
    record {
      first_length = left.first_length;
      behind_length = left.behind_length;
      from = λ k line low there. absurd (omega (arith, low));
      within = λ k line low there. absurd (omega (arith, low));
      ordered = left.ordered;
      bound = λ label low. let z = zero_at label low in omega (arith, z);
      unused = λ label low none. zero_at label low;
      several_taken = left.several_taken;
      silent_skipped = left.silent_skipped;
    }

-- ---- at a label that is read of a line
pub note_spanned : (takes : List TakeLine) (i : ℕ) (line : TakeLine) (first behind : List ℕ) (at v value : ℕ) → slice_get takes i ≡ Some line
    → at ≡ line.label → at ≡ value → value < several → (get_or behind at 0 ≡ 0 → v ≡ i) → (0 < get_or behind at 0 → v ≡ get_or first at 0)
    → AreSpans takes i first behind → AreSpans takes (i + 1) (set first at v) (set behind at (i + 1))
note_spanned takes i line first behind at v value there is read low fresh known spans =
    subst (λ (a : ℕ). AreSpans takes (i + 1) (set first a v) (set behind a (i + 1))) (sym is)
    (one_spanned takes i line first behind v there (omega (arith, is, read, low))
    (subst (λ (a : ℕ). get_or behind a 0 ≡ 0 → v ≡ i) is fresh) (subst (λ (a : ℕ). 0 < get_or behind a 0 → v ≡ get_or first a 0) is known) spans)

pub forget_left : (takes : List TakeLine) (i : ℕ) (line : TakeLine) (first behind : List ℕ) (at value : ℕ) → slice_get takes i ≡ Some line
    → at ≡ line.label → at ≡ value → value < several → AreLeft takes i first behind → AreLeft takes (i + 1) (set first at 0) (set behind at 0)
forget_left takes i line first behind at value there is read low left =
    subst (λ (a : ℕ). AreLeft takes (i + 1) (set first a 0) (set behind a 0)) (sym is) (one_left takes i line first behind there (omega (arith, is, read, low)) left)
