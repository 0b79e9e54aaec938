-- How a text goes on from where its reading stops.
use Rattle.std.proofs.Common.{arith, ◌≡◌, ℕ, zero, suc, ◌+◌, ◌-◌, ◌<◌, ◌≤◌, Bool, true, false, cond, List, [], ◌∷◌, ◌++◌, length, take, codes, Option, Some, None}
use Rattle.std.proofs.Common.{Result, Ok, Err, refl, sym, ap, subst, ◌∙◌, inl, inr, append_assoc, append-nil}
use Rattle.std.specs.Prelude.{slice_get, ◌↔◌, IsTrue}
use Rattle.std.specs.List.{flat_map, onto_first, AllByRecursion}
use Rattle.std.proofs.lemmas.Bool.{cases_Bool}
use Rattle.bus_text.specs.declared.reason.Reason.{Reason}
use Rattle.bus_text.specs.declared.reason.Reason.TheVariants as reasons
use Rattle.bus_text.specs.AllOf.{◌>>=◌}
use Rattle.bus_text.specs.Lines.{Entry, is_feed, is_skipped, fields_of, physical_lines, entries_from, entries_of, line_after_of}
use Rattle.bus_text.specs.Refusals.{Refusal, at_line}
use Rattle.bus_text.proofs.CanonicalLaws.{line_first}
use Rattle.bus_table.specs.declared.keyword.Keyword.{Keyword}
use Rattle.bus_table.specs.Drafts.{Draft, start, may_end, line_reading}
use Rattle.bus_table.specs.Reading.{step, steps, ended, table_of, text_reading}
use Rattle.bus_table.specs.Stops.{Stop, stop_at, stop_in, read_or, stops, stop_of}
use Rattle.bus_table.specs.Tables.{Table}

-- ---- texts of given lines
abbrev pub HasNoFeed : List ℕ → Type 0
HasNoFeed line = AllByRecursion (λ b. is_feed b ≡ false) line

-- lines, a line feed behind each
abbrev pub fed : List (List ℕ) → List ℕ
fed lines = flat_map (λ line. line ++ 10 ∷ []) lines

onto_feedless : (b : ℕ) (lines : List (List ℕ)) → is_feed b ≡ false → AllByRecursion HasNoFeed lines → AllByRecursion HasNoFeed (onto_first b lines)
onto_feedless b [] h all = ((h, tt), tt)
onto_feedless b (line ∷ lines) h all = ((h, all.0), all.1)

-- no line of a text has a line feed
pub lines_feedless : (text : List ℕ) → AllByRecursion HasNoFeed (physical_lines text)
lines_feedless [] = tt
lines_feedless (b ∷ bs) = elim (cases_Bool (is_feed b)) [
  | inl feed ↦ subst (AllByRecursion HasNoFeed) (sym (ap (λ t. cond t ([] ∷ physical_lines bs) (onto_first b (physical_lines bs))) feed)) (tt, lines_feedless bs)
  | inr other ↦
      subst (AllByRecursion HasNoFeed) (sym (ap (λ t. cond t ([] ∷ physical_lines bs) (onto_first b (physical_lines bs))) other))
      (onto_feedless b (physical_lines bs) other (lines_feedless bs))
]

pub all_take : (n : ℕ) (lines : List (List ℕ)) → AllByRecursion HasNoFeed lines → AllByRecursion HasNoFeed (take n lines)
all_take zero lines h = tt
all_take (suc n) [] h = tt
all_take (suc n) (line ∷ lines) h = (h.0, all_take n lines h.1)

pub all_append : (xs ys : List (List ℕ)) → AllByRecursion HasNoFeed xs → AllByRecursion HasNoFeed ys → AllByRecursion HasNoFeed (xs ++ ys)
all_append [] ys h k = k
all_append (x ∷ xs) ys h k = (h.0, all_append xs ys h.1 k)

-- the lines of such a text are these
pub fed_lines : (lines : List (List ℕ)) → AllByRecursion HasNoFeed lines → physical_lines (fed lines) ≡ lines
fed_lines [] h = refl
fed_lines (line ∷ lines) h =
    ap physical_lines (append_assoc line (10 ∷ []) (fed lines)) ∙ line_first line (fed lines) h.0 ∙ ap (λ ls. line ∷ ls) (fed_lines lines h.1)

-- ---- reading on
pub entries_append : (n : ℕ) (xs ys : List (List ℕ)) → entries_from n (xs ++ ys) ≡ entries_from n xs ++ entries_from (n + length xs) ys
entries_append n [] ys = ap (λ k. entries_from k ys) (omega arith)
entries_append n (x ∷ xs) ys =
    let more = entries_append (n + 1) xs ys ∙ ap (λ k. entries_from (n + 1) xs ++ entries_from k ys) (omega arith) in
    elim (cases_Bool (is_skipped x)) [
      | inl skipped ↦
          ap (λ t. cond t (entries_from (n + 1) (xs ++ ys)) (record { number = n; fields = fields_of x } ∷ entries_from (n + 1) (xs ++ ys))) skipped ∙ more
          ∙ sym (ap (λ t. cond t (entries_from (n + 1) xs) (record { number = n; fields = fields_of x } ∷ entries_from (n + 1) xs) ++ entries_from (n + suc (length xs)) ys) skipped)
      | inr kept ↦
          ap (λ t. cond t (entries_from (n + 1) (xs ++ ys)) (record { number = n; fields = fields_of x } ∷ entries_from (n + 1) (xs ++ ys))) kept
          ∙ ap (λ (es : List Entry). record { number = n; fields = fields_of x } ∷ es) more
          ∙ sym (ap (λ t. cond t (entries_from (n + 1) xs) (record { number = n; fields = fields_of x } ∷ entries_from (n + 1) xs) ++ entries_from (n + suc (length xs)) ys) kept)
    ]

bind_again : (r : Result Draft Refusal) (xs ys : List Entry) (entry : Entry)
    → ((d : Draft) → steps d (xs ++ ys) ≡ steps d xs >>= λ e. steps e ys)
    → (r >>= λ d. steps d (xs ++ ys)) ≡ ((r >>= λ d. steps d xs) >>= λ e. steps e ys)
bind_again (Ok d) xs ys entry h = h d
bind_again (Err refusal) xs ys entry h = refl

pub steps_append : (xs ys : List Entry) (draft : Draft) → steps draft (xs ++ ys) ≡ steps draft xs >>= λ d. steps d ys
unfolding steps
steps_append [] ys draft = refl
steps_append (x ∷ xs) ys draft = bind_again (step draft x) xs ys x (steps_append xs ys)

-- ---- where the reading stops
-- the draft before the refused line
pub record Stopped (draft : Draft) (n : ℕ) (lines : List (List ℕ)) (refusal : Refusal) : Type 0 where
  pub last : Draft
  pub word : Option Keyword
  pub least : n ≤ refusal.line
  pub most : refusal.line ≤ n + length lines
  pub reads : steps draft (entries_from n (take (refusal.line - n) lines)) ≡ Ok last
  pub stop : stops draft (entries_from n lines) ≡ stop_in last word

-- the line of a refusal
abbrev refused_line : {X : Type 0} → Result X Refusal → ℕ
refused_line (Ok x) = 0
refused_line (Err refusal) = refusal.line

ended_by : (b : Bool) (table : Table) (after : ℕ) (refusal : Refusal) → cond b (Ok table) (Err (record { line = after; reason = reasons.Ended })) ≡ Err refusal
    → refusal.line ≡ after
ended_by true table after refusal h = absurd cc
ended_by false table after refusal h = sym (ap refused_line h)

abbrev entry_of : ℕ → List ℕ → Entry
entry_of n line = record { number = n; fields = fields_of line }

pub skipped_entries : (n : ℕ) (line : List ℕ) (lines : List (List ℕ)) → is_skipped line ≡ true → entries_from n (line ∷ lines) ≡ entries_from (n + 1) lines
skipped_entries n line lines h = ap (λ t. cond t (entries_from (n + 1) lines) (entry_of n line ∷ entries_from (n + 1) lines)) h

pub kept_entries : (n : ℕ) (line : List ℕ) (lines : List (List ℕ)) → is_skipped line ≡ false
    → entries_from n (line ∷ lines) ≡ entry_of n line ∷ entries_from (n + 1) lines
kept_entries n line lines h = ap (λ t. cond t (entries_from (n + 1) lines) (entry_of n line ∷ entries_from (n + 1) lines)) h

pub steps_first : (draft : Draft) (entry : Entry) (entries : List Entry) (r : Result Draft Reason) → line_reading draft entry.fields ≡ r
    → steps draft (entry ∷ entries) ≡ (at_line entry.number r >>= λ d. steps d entries)
unfolding steps
steps_first draft entry entries r h = ap (λ q. at_line entry.number q >>= λ d. steps d entries) h

stops_first : (draft : Draft) (entry : Entry) (entries : List Entry) (r : Result Draft Reason) → line_reading draft entry.fields ≡ r
    → stops draft (entry ∷ entries) ≡ read_or (λ d. stops d entries) (stop_at draft entry) (at_line entry.number r)
unfolding stops
stops_first draft entry entries r h = ap (λ q. read_or (λ d. stops d entries) (stop_at draft entry) (at_line entry.number q)) h

pub no_steps : (draft : Draft) → steps draft [] ≡ Ok draft
unfolding steps
no_steps draft = refl

no_stops : (draft : Draft) → stops draft [] ≡ stop_in draft None
unfolding stops
no_stops draft = refl

-- one line fewer before the refused one
next_taken : (n k : ℕ) (line : List ℕ) (lines : List (List ℕ)) → n + 1 ≤ k → take (k - n) (line ∷ lines) ≡ line ∷ take (k - (n + 1)) lines
next_taken n k line lines h = let more : k - n ≡ suc (k - (n + 1)) = omega (arith, h) in ap (λ m. take m (line ∷ lines)) more

stopped_behind : (draft : Draft) (n : ℕ) (line : List ℕ) (lines : List (List ℕ)) (refusal : Refusal) → is_skipped line ≡ true
    → Stopped draft (n + 1) lines refusal → Stopped draft n (line ∷ lines) refusal
stopped_behind draft n line lines refusal h s =
    let least = s.least in let most = s.most in record {
      last = s.last;
      word = s.word;
      least = omega (arith, least);
      most = omega (arith, most);
      reads =
          ap (λ ls. steps draft (entries_from n ls)) (next_taken n refusal.line line lines least)
          ∙ ap (steps draft) (skipped_entries n line (take (refusal.line - (n + 1)) lines) h) ∙ s.reads;
      stop = ap (stops draft) (skipped_entries n line lines h) ∙ s.stop;
    }

stopped_next : (draft next : Draft) (n : ℕ) (line : List ℕ) (lines : List (List ℕ)) (refusal : Refusal) → is_skipped line ≡ false
    → line_reading draft (fields_of line) ≡ Ok next → Stopped next (n + 1) lines refusal → Stopped draft n (line ∷ lines) refusal
stopped_next draft next n line lines refusal h read s =
    let least = s.least in let most = s.most in record {
      last = s.last;
      word = s.word;
      least = omega (arith, least);
      most = omega (arith, most);
      reads =
          ap (λ ls. steps draft (entries_from n ls)) (next_taken n refusal.line line lines least)
          ∙ ap (steps draft) (kept_entries n line (take (refusal.line - (n + 1)) lines) h)
          ∙ steps_first draft (entry_of n line) (entries_from (n + 1) (take (refusal.line - (n + 1)) lines)) (Ok next) read ∙ s.reads;
      stop = ap (stops draft) (kept_entries n line lines h) ∙ stops_first draft (entry_of n line) (entries_from (n + 1) lines) (Ok next) read ∙ s.stop;
    }

stopped_here : (draft : Draft) (n : ℕ) (line : List ℕ) (lines : List (List ℕ)) (refusal : Refusal) (reason : Reason) → is_skipped line ≡ false
    → line_reading draft (fields_of line) ≡ Err reason → refusal.line ≡ n → Stopped draft n (line ∷ lines) refusal
stopped_here draft n line lines refusal reason h read at = let none : refusal.line - n ≡ 0 = omega (arith, at) in record {
  last = draft;
  word = (stop_at draft (entry_of n line)).word;
  least = omega (arith, at);
  most = omega (arith, at);
  reads = ap (λ k. steps draft (entries_from n (take k (line ∷ lines)))) none ∙ no_steps draft;
  stop = ap (stops draft) (kept_entries n line lines h) ∙ stops_first draft (entry_of n line) (entries_from (n + 1) lines) (Err reason) read;
}

-- a line that isn't skipped: it is read, or refused
stopped_by : (r : Result Draft Reason) (draft : Draft) (n : ℕ) (line : List ℕ) (lines : List (List ℕ)) (refusal : Refusal) → is_skipped line ≡ false
    → line_reading draft (fields_of line) ≡ r → ((at_line n r >>= λ d. steps d (entries_from (n + 1) lines)) >>= ended (n + suc (length lines))) ≡ Err refusal
    → ((next : Draft) → (steps next (entries_from (n + 1) lines) >>= ended (n + 1 + length lines)) ≡ Err refusal → Stopped next (n + 1) lines refusal)
    → Stopped draft n (line ∷ lines) refusal
stopped_by (Ok next) draft n line lines refusal h read err more =
    let after : n + 1 + length lines ≡ n + suc (length lines) = omega arith in
    stopped_next draft next n line lines refusal h read (more next (ap (λ k. steps next (entries_from (n + 1) lines) >>= ended k) after ∙ err))
stopped_by (Err reason) draft n line lines refusal h read err more = stopped_here draft n line lines refusal reason h read (sym (ap refused_line err))

-- so the reading of lines that are refused stops before the line of the refusal
pub stopped : (lines : List (List ℕ)) (n : ℕ) (draft : Draft) (refusal : Refusal) → (steps draft (entries_from n lines) >>= ended (n + length lines)) ≡ Err refusal
    → Stopped draft n lines refusal
stopped [] n draft refusal err =
    let at = ended_by (may_end draft.stage) (table_of draft) (n + 0) refusal (sym (ap (λ r. r >>= ended (n + 0)) (no_steps draft)) ∙ err) in
    let none : refusal.line - n ≡ 0 = omega (arith, at) in
    record {
      last = draft;
      word = None;
      least = omega (arith, at);
      most = omega (arith, at);
      reads = ap (λ k. steps draft (entries_from n (take k []))) none ∙ no_steps draft;
      stop = no_stops draft;
    }
stopped (line ∷ lines) n draft refusal err = elim (cases_Bool (is_skipped line)) [
  | inl skipped ↦
      let after : n + 1 + length lines ≡ n + suc (length lines) = omega arith in
      let err2 : (steps draft (entries_from (n + 1) lines) >>= ended (n + 1 + length lines)) ≡ Err refusal =
      ap (λ k. steps draft (entries_from (n + 1) lines) >>= ended k) after
      ∙ sym (ap (λ es. steps draft es >>= ended (n + suc (length lines))) (skipped_entries n line lines skipped)) ∙ err in
      stopped_behind draft n line lines refusal skipped (stopped lines (n + 1) draft refusal err2)
  | inr kept ↦
      stopped_by (line_reading draft (fields_of line)) draft n line lines refusal kept refl
      (sym (ap (λ r. r >>= ended (n + suc (length lines))) (steps_first draft (entry_of n line) (entries_from (n + 1) lines) (line_reading draft (fields_of line)) refl))
      ∙ sym (ap (λ es. steps draft es >>= ended (n + suc (length lines))) (kept_entries n line lines kept)) ∙ err)
      (λ next h. stopped lines (n + 1) next refusal h)
]
