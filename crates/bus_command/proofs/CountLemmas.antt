-- How many receptions are garbled in the lines that came so far.
use Rattle.std.specs.Prelude.{◌≡◌, ℕ, zero, suc, ◌+◌, ◌-◌, ◌*◌, ◌≤◌, ◌<◌, ◌==◌, Bool, true, false, ◌&&◌, ◌||◌, List, [], ◌∷◌, ◌++◌, length, take, drop, min, nat_eq, codes}
use Rattle.std.specs.Prelude.{Option, Some, None, Result, Ok, Err}
use Rattle.std.specs.List.{ends_with, starts_with}
use Rattle.std.specs.Str.{bytes_eq}
use Rattle.std.specs.Option.{option_map}
use Rattle.std.proofs.Common.{arith, refl, sym, ap, subst, cond, ◌∙◌, append_assoc, length-append}
use Rattle.std.proofs.Math.Seq.{drop-append_seam}
use Rattle.std.proofs.lemmas.Bool.Decides.{Decides-eqb}
use Rattle.std.proofs.lemmas.List.{length-take}
use Rattle.std.proofs.lemmas.Slice.Eq.{bytes_eq-Decides, ends_is}
use Rattle.bus_outer.specs.Sources.{Taken, line_length}
use Rattle.bus_outer.proofs.WriteLaws.{taken_on}
use Rattle.bus_command.specs.Heard.{Line, Last, Garbled, Plain, Other, most_line, next_line, behind_line, is_between, is_plain, line_of}
use Rattle.bus_command.specs.Heard.{counted, garbled_by, heard_limit, further, looked_by, is_first, looked_at, garbled_in, most_lines}
use Rattle.bus_command.specs.inside.Looking.{TakesBy, TakesLine, TakesLines, TakesLooked, PullFault}
use Rattle.bus_command.proofs.LineLemmas.{IsFeedless, ended_line, line_length-le, rest_of, rest_is}

-- ---- a line behind which another may stand
-- a line feed ends it
pub record Ended (line : List ℕ) : Type 0 where
  pub front : List ℕ
  pub is : line ≡ front ++ 10 ∷ []

-- it is none of the last
abbrev pub GoesOn : Line → Type 0
GoesOn Last = ⊥
GoesOn Garbled = Unit {0}
GoesOn Plain = Unit {0}
GoesOn Other = ⊥

ends_so : (line back : List ℕ) → ends_with nat_eq line (back ++ 10 ∷ []) ≡ true → Ended line
ends_so line back h = record {
  front = take (length line - length (back ++ 10 ∷ [])) line ++ back;
  is = (ends_is Decides-eqb line (back ++ 10 ∷ []) _ refl).0 h ∙ sym (append_assoc _ back (10 ∷ []));
}

second : (a b : Bool) → (a && b) ≡ true → b ≡ true
second true b h = h
second false b h = absurd cc

by_either : (P : Type 0) (a b : Bool) → (a ≡ true → P) → (b ≡ true → P) → (a || b) ≡ true → P
by_either P true b f g h = f refl
by_either P false b f g h = g h

on_by : (P : Type 0) (a b c : Bool) → (b ≡ true → P) → (c ≡ true → P) → GoesOn (cond a Last (cond b Garbled (cond c Plain Other))) → P
on_by P true b c f g h = absurd h
on_by P false true c f g h = f refl
on_by P false false true f g h = g refl
on_by P false false false f g h = absurd h

garbled_ends : (line : List ℕ) → is_between line (codes "HT ") (codes " C\n") ≡ true → Ended line
garbled_ends line e = ends_so line (codes " C") (second (starts_with nat_eq line (codes "HT ")) (ends_with nat_eq line (codes " C\n")) e)

plain_ends : (line : List ℕ) → is_plain line ≡ true → Ended line
plain_ends line e =
    by_either (Ended line) (is_between line (codes "HT ") (codes " -\n")) (is_between line (codes "TERMINAL ") (codes "\n"))
    (λ e. ends_so line (codes " -") (second (starts_with nat_eq line (codes "HT ")) (ends_with nat_eq line (codes " -\n")) e))
    (λ e. ends_so line [] (second (starts_with nat_eq line (codes "TERMINAL ")) (ends_with nat_eq line (codes "\n")) e)) e

ended : (line : List ℕ) → GoesOn (line_of line) → Ended line
ended line h =
    on_by (Ended line) (bytes_eq line (codes "END\n")) (is_between line (codes "HT ") (codes " C\n")) (is_plain line) (garbled_ends line) (plain_ends line) h

-- so it is the next whatever is behind it
feedless_next : (x : ℕ) (xs rest : List ℕ) (t : Bool) → (x == 10) ≡ t → suc (length xs) + 1 ≤ cond t 1 (suc (line_length (xs ++ 10 ∷ rest)))
    → (length xs + 1 ≤ line_length (xs ++ 10 ∷ rest) → IsFeedless xs) → IsFeedless (x ∷ xs)
feedless_next x xs rest true e h later = absurd (omega (arith, h))
feedless_next x xs rest false e h later = (e, later (omega (arith, h)))

feedless_by : (front rest : List ℕ) → length front + 1 ≤ line_length (front ++ 10 ∷ rest) → IsFeedless front
feedless_by [] rest h = tt
feedless_by (x ∷ xs) rest h = feedless_next x xs rest (x == 10) refl h (λ more. feedless_by xs rest more)

pub goes_line : (line rest more : List ℕ) → GoesOn (line_of line) → next_line (line ++ rest) ≡ line → next_line (line ++ more) ≡ line
goes_line line rest more h is =
    let e = ended line h in
    let l = e.front in
    let same : next_line ((l ++ 10 ∷ []) ++ rest) ≡ l ++ 10 ∷ [] = subst (λ x. next_line (x ++ rest) ≡ x) e.is is in
    let long : length (next_line ((l ++ 10 ∷ []) ++ rest)) ≡ length l + 1 = ap length same ∙ length-append l (10 ∷ []) in
    let taken = length-take (min most_line (line_length ((l ++ 10 ∷ []) ++ rest))) ((l ++ 10 ∷ []) ++ rest) in
    let much : length l + 1 ≤ line_length ((l ++ 10 ∷ []) ++ rest) = omega (arith, long, taken) in
    let few : length l < most_line = omega (arith, long, taken) in
    let feedless = feedless_by l rest (subst (λ x. length l + 1 ≤ line_length x) (append_assoc l (10 ∷ []) rest) much) in
    subst (λ x. next_line (x ++ more) ≡ x) (sym e.is) (ended_line l more feedless few)

pub behind_is : (line more : List ℕ) → next_line (line ++ more) ≡ line → behind_line (line ++ more) ≡ more
behind_is line more is =
    let long = length-take (min most_line (line_length (line ++ more))) (line ++ more) in
    let count : min most_line (line_length (line ++ more)) ≡ length line = omega (arith, ap length is, long, line_length-le (line ++ more)) in
    ap (λ n. drop n (line ++ more)) count ∙ drop-append_seam line more

-- ---- the lines that came so far
-- so many came, in which so many are garbled, and others may stand behind them
pub record HasCounted (old new : Option (List ℕ)) (lines garbled : ℕ) : Type 0 where
  pub bytes : List ℕ
  pub came : Taken old new bytes
  pub garbled_is : (n : ℕ) (more : List ℕ) → garbled_by (lines + n) (bytes ++ more) ≡ option_map (λ m. garbled + m) (garbled_by n more)
  pub looked_is : (n : ℕ) (more : List ℕ) → looked_by (lines + n) (bytes ++ more) ≡ length bytes + looked_by n more

map_none : (o : Option ℕ) → option_map (λ m. 0 + m) o ≡ o
map_none None = refl
map_none (Some n) = ap Some (omega arith)

none_taken : (left : Option (List ℕ)) → Taken left left []
none_taken None = refl
none_taken (Some text) = refl

none_before : (n : ℕ) → 0 + n ≡ n
none_before n = omega arith

pub none_counted : (left : Option (List ℕ)) → HasCounted left left 0 0
none_counted left = record {
  bytes = [];
  came = none_taken left;
  garbled_is = λ n more. ap (λ k. garbled_by k more) (none_before n) ∙ sym (map_none (garbled_by n more));
  looked_is = λ n more. ap (λ k. looked_by k more) (none_before n) ∙ sym (none_before (looked_by n more));
}

-- one line, whatever is behind it
garbled_next : (n : ℕ) (line more : List ℕ) → next_line (line ++ more) ≡ line → garbled_by (suc n) (line ++ more) ≡ counted (line_of line) (garbled_by n more)
unfolding garbled_by
garbled_next n line more is =
    ap (λ l. counted (line_of l) (garbled_by n (behind_line (line ++ more)))) is ∙ ap (λ l. counted (line_of line) (garbled_by n l)) (behind_is line more is)

looked_next : (n : ℕ) (line more : List ℕ) → next_line (line ++ more) ≡ line → looked_by (suc n) (line ++ more) ≡ length line + further (line_of line) (looked_by n more)
unfolding looked_by
looked_next n line more is =
    ap (λ l. length l + further (line_of l) (looked_by n (behind_line (line ++ more)))) is ∙ ap (λ l. length line + further (line_of line) (looked_by n l)) (behind_is line more is)

-- and it is looked at
looked_least : (n : ℕ) (bytes : List ℕ) → length (next_line bytes) ≤ looked_by (suc n) bytes
unfolding looked_by
looked_least n bytes = omega arith

-- with this line so many more are garbled
abbrev pub more_of : Line → ℕ
more_of Last = 0
more_of Garbled = 1
more_of Plain = 0
more_of Other = 0

counted_more : (line : Line) (garbled : ℕ) (others : Option ℕ) → GoesOn line
    → option_map (λ m. garbled + m) (counted line others) ≡ option_map (λ m. garbled + more_of line + m) others
counted_more Last garbled others h = absurd h
counted_more Garbled garbled None h = refl
counted_more Garbled garbled (Some n) h = ap Some (omega arith)
counted_more Plain garbled None h = refl
counted_more Plain garbled (Some n) h = ap Some (omega arith)
counted_more Other garbled others h = absurd h

further_more : (line : Line) (n : ℕ) → GoesOn line → further line n ≡ n
further_more Last n h = absurd h
further_more Garbled n h = refl
further_more Plain n h = refl
further_more Other n h = absurd h

module _ (old left new : Option (List ℕ)) (lines garbled count : ℕ) (line : List ℕ) (c : HasCounted old left lines garbled)
    (t : TakesLine left new line (Ok count)) where
  abbrev front : List ℕ
  front = c.bytes

  abbrev next : List ℕ
  next = take count line

  line_is : t.bytes ≡ next
  line_is = t.known.0

  next_is : next_line (next ++ t.rest) ≡ next
  next_is = subst (λ l. next_line (l ++ t.rest) ≡ l) line_is t.known.1

  came_on : Taken old new (front ++ next)
  came_on = taken_on _ _ _ _ _ c.came (subst (λ l. Taken left new l) line_is t.came)

  -- one that another may stand behind
  pub counted_on : GoesOn (line_of next) → HasCounted old new (lines + 1) (garbled + more_of (line_of next))
  counted_on h = record {
    bytes = front ++ next;
    came = came_on;
    garbled_is = λ n more.
        ap (λ l. garbled_by (lines + 1 + n) l) (append_assoc front next more)
        ∙ ap (λ k. garbled_by k (front ++ (next ++ more))) (omega arith)
        ∙ c.garbled_is (suc n) (next ++ more)
        ∙ ap (option_map (λ m. garbled + m)) (garbled_next n next more (goes_line next t.rest more h next_is))
        ∙ counted_more (line_of next) garbled (garbled_by n more) h;
    looked_is = λ n more.
        ap (λ l. looked_by (lines + 1 + n) l) (append_assoc front next more)
        ∙ ap (λ k. looked_by k (front ++ (next ++ more))) (omega arith)
        ∙ c.looked_is (suc n) (next ++ more)
        ∙ ap (λ n. length front + n) (looked_next n next more (goes_line next t.rest more h next_is) ∙ ap (λ m. length next + m) (further_more (line_of next) (looked_by n more) h))
        ∙ omega (arith, length-append front next);
  }

  -- one that none may stand behind
  pub decided : (most : ℕ) (answer : Option ℕ) → lines < most → ((n : ℕ) → further (line_of next) n ≡ 0)
      → ((others : Option ℕ) → option_map (λ m. garbled + m) (counted (line_of next) others) ≡ answer)
      → TakesBy (looked_by most) (garbled_by most) old new (Ok answer)
  decided most answer low last is =
      let n : ℕ = most - lines - 1 in
      let whole : most ≡ lines + suc n = omega arith in
      record {
        bytes = front ++ next;
        rest = t.rest;
        came = came_on;
        left = t.left;
        known = (
          ap (λ l. looked_by most l) (append_assoc front next t.rest) ∙ ap (λ k. looked_by k (front ++ (next ++ t.rest))) whole
              ∙ c.looked_is (suc n) (next ++ t.rest)
              ∙ ap (λ m. length front + m) (looked_next n next t.rest next_is ∙ ap (λ m. length next + m) (last (looked_by n t.rest)))
              ∙ omega (arith, length-append front next),
          ap (λ l. garbled_by most l) (append_assoc front next t.rest) ∙ ap (λ k. garbled_by k (front ++ (next ++ t.rest))) whole
              ∙ c.garbled_is (suc n) (next ++ t.rest)
              ∙ ap (option_map (λ m. garbled + m)) (garbled_next n next t.rest next_is) ∙ is (garbled_by n t.rest),
        );
      }

-- as many as may be
pub too_many : (old new : Option (List ℕ)) (most garbled : ℕ) → HasCounted old new most garbled → TakesBy (looked_by most) (garbled_by most) old new (Ok None)
unfolding garbled_by looked_by
too_many old new most garbled c =
    let rest = rest_of new in
    let whole : most ≡ most + 0 = omega arith in
    record {
      bytes = c.bytes;
      rest = rest;
      came = c.came;
      left = rest_is new;
      known = (
        ap (λ k. looked_by k (c.bytes ++ rest)) whole ∙ c.looked_is 0 rest ∙ omega arith,
        ap (λ k. garbled_by k (c.bytes ++ rest)) whole ∙ c.garbled_is 0 rest,
      );
    }

-- a pull failed
pub cut_off : (old left new : Option (List ℕ)) (most lines garbled : ℕ) (line : List ℕ) (fault : PullFault) → lines < most → HasCounted old left lines garbled
    → TakesLine left new line (Err fault) → TakesBy (looked_by most) (garbled_by most) old new (Err fault)
cut_off old left new most lines garbled line fault low c t =
    let n : ℕ = most - lines - 1 in
    let whole : most ≡ lines + suc n = omega arith in
    let looked = ap (λ l. looked_by most l) (append_assoc c.bytes t.bytes t.rest) ∙ ap (λ k. looked_by k (c.bytes ++ (t.bytes ++ t.rest))) whole ∙ c.looked_is (suc n) (t.bytes ++ t.rest) in
    record {
      bytes = c.bytes ++ t.bytes;
      rest = t.rest;
      came = taken_on _ _ _ _ _ c.came t.came;
      left = t.left;
      known = omega (arith, looked, looked_least n (t.bytes ++ t.rest), t.known, length-append c.bytes t.bytes);
    }

-- ---- a heard text
first_is : (line : List ℕ) → is_first line ≡ true → line ≡ codes "HEARD 1" ++ 10 ∷ []
first_is line h = (bytes_eq-Decides line (codes "HEARD 1\n")).0 h

first_line : (line more : List ℕ) → is_first line ≡ true → next_line (line ++ more) ≡ line
first_line line more h =
    subst (λ l. next_line (l ++ more) ≡ l) (sym (first_is line h))
    (ended_line (codes "HEARD 1") more (refl, (refl, (refl, (refl, (refl, (refl, (refl, tt))))))) (omega arith))

looked_behind : (line more : List ℕ) → is_first line ≡ true → looked_at (line ++ more) ≡ length line + looked_by most_lines more
looked_behind line more h =
    let next = first_line line more h in
    ap (λ l. length l + cond (is_first l) (looked_by most_lines (behind_line (line ++ more))) 0) next
    ∙ ap (λ b. length line + cond b (looked_by most_lines (behind_line (line ++ more))) 0) h
    ∙ ap (λ l. length line + looked_by most_lines l) (behind_is line more next)

garbled_behind : (line more : List ℕ) → is_first line ≡ true → garbled_in (line ++ more) ≡ garbled_by most_lines more
garbled_behind line more h =
    let next = first_line line more h in
    ap (λ l. cond (is_first l) (garbled_by most_lines (behind_line (line ++ more))) None) next
    ∙ ap (λ b. cond b (garbled_by most_lines (behind_line (line ++ more))) None) h
    ∙ ap (λ l. garbled_by most_lines l) (behind_is line more next)

-- what stands behind its first line
pub heard_behind : (old left new : Option (List ℕ)) (count : ℕ) (line : List ℕ) (answer : Result (Option ℕ) PullFault) → TakesLine old left line (Ok count)
    → is_first (take count line) ≡ true → TakesLines left new answer → TakesLooked old new answer
heard_behind old left new count line (Ok answer) t h u =
    let next = take count line in
    record {
      bytes = next ++ u.bytes;
      rest = u.rest;
      came = taken_on _ _ _ _ _ (subst (λ l. Taken old left l) t.known.0 t.came) u.came;
      left = u.left;
      known = (
        ap looked_at (append_assoc next u.bytes u.rest) ∙ looked_behind next (u.bytes ++ u.rest) h ∙ ap (λ n. length next + n) u.known.0
            ∙ sym (length-append next u.bytes),
        ap garbled_in (append_assoc next u.bytes u.rest) ∙ garbled_behind next (u.bytes ++ u.rest) h ∙ u.known.1,
      );
    }
heard_behind old left new count line (Err fault) t h u =
    let next = take count line in
    let looked = ap looked_at (append_assoc next u.bytes u.rest) ∙ looked_behind next (u.bytes ++ u.rest) h in
    record {
      bytes = next ++ u.bytes;
      rest = u.rest;
      came = taken_on _ _ _ _ _ (subst (λ l. Taken old left l) t.known.0 t.came) u.came;
      left = u.left;
      known = omega (arith, looked, u.known, length-append next u.bytes);
    }

-- another first line
pub other_first : (old new : Option (List ℕ)) (count : ℕ) (line : List ℕ) → TakesLine old new line (Ok count) → is_first (take count line) ≡ false
    → TakesLooked old new (Ok None)
other_first old new count line t h =
    let other : is_first (next_line (t.bytes ++ t.rest)) ≡ false = ap is_first (t.known.1 ∙ t.known.0) ∙ h in
    record {
      bytes = t.bytes;
      rest = t.rest;
      came = t.came;
      left = t.left;
      known = (
        ap (λ b. length (next_line (t.bytes ++ t.rest)) + cond b (looked_by most_lines (behind_line (t.bytes ++ t.rest))) 0) other
            ∙ omega (arith, ap length t.known.1),
        ap (λ b. cond b (garbled_by most_lines (behind_line (t.bytes ++ t.rest))) None) other,
      );
    }

-- a pull of it failed
pub first_failed : (old new : Option (List ℕ)) (line : List ℕ) (fault : PullFault) → TakesLine old new line (Err fault) → TakesLooked old new (Err fault)
first_failed old new line fault t = record {
  bytes = t.bytes;
  rest = t.rest;
  came = t.came;
  left = t.left;
  known = omega (arith, t.known);
}

-- ---- how much that is
looked_step : (line : Line) (bytes : List ℕ) (n more : ℕ) → more ≤ most_line * n → length (next_line bytes) + further line more ≤ most_line * (n + 1)
looked_step Last bytes n more h = omega (arith, length-take (min most_line (line_length bytes)) bytes)
looked_step Garbled bytes n more h = omega (arith, h, length-take (min most_line (line_length bytes)) bytes)
looked_step Plain bytes n more h = omega (arith, h, length-take (min most_line (line_length bytes)) bytes)
looked_step Other bytes n more h = omega (arith, length-take (min most_line (line_length bytes)) bytes)

looked_within : (n : ℕ) (bytes : List ℕ) → looked_by n bytes ≤ most_line * n
unfolding looked_by
looked_within zero bytes = omega arith
looked_within (suc n) bytes =
    let h = looked_step (line_of (next_line bytes)) bytes n (looked_by n (behind_line bytes)) (looked_within n (behind_line bytes)) in omega (arith, h)

looked_first : (b : Bool) (bytes : List ℕ) → length (next_line bytes) + cond b (looked_by most_lines (behind_line bytes)) 0 ≤ heard_limit
looked_first true bytes = omega (arith, looked_within most_lines (behind_line bytes), length-take (min most_line (line_length bytes)) bytes)
looked_first false bytes = omega (arith, length-take (min most_line (line_length bytes)) bytes)

pub looked_most : (bytes : List ℕ) → looked_at bytes ≤ heard_limit
looked_most bytes = looked_first (is_first (next_line bytes)) bytes
