-- What may stand where the reading of a text stops is what goes on.
use Rattle.std.proofs.Common.{arith, ◌≡◌, ℕ, zero, suc, ◌+◌, ◌-◌, ◌≤◌, Bool, true, false, cond, List, [], ◌∷◌, ◌++◌, length, take, Some, Result, Ok, Err, refl, sym, ap}
use Rattle.std.proofs.Common.{◌∙◌, inl, inr, subst, append-nil}
use Rattle.std.specs.Prelude.{slice_get}
use Rattle.std.specs.List.{AllByRecursion}
use Rattle.std.proofs.Math.Seq.{take-append_seam, get_or-append_seam}
use Rattle.std.proofs.lemmas.Bool.{cases_Bool}
use Rattle.std.proofs.lemmas.List.{length-take-le, length-append}
use Rattle.std.proofs.lemmas.Option.{slice_get-get_or}
use Rattle.bus_text.specs.declared.reason.Reason.{Reason}
use Rattle.bus_text.specs.declared.reason.Reason.TheVariants as reasons
use Rattle.bus_text.specs.AllOf.{◌>>=◌}
use Rattle.bus_text.specs.Lines.{Entry, fields_of, physical_lines, entries_from, entries_of, line_after_of}
use Rattle.bus_text.specs.Refusals.{Refusal, at_line}
use Rattle.bus_table.specs.declared.keyword.Keyword.{Keyword}
use Rattle.bus_table.specs.Drafts.{Draft, start, may_come, may_end, form_reading, keyword_reading, line_reading}
use Rattle.bus_table.specs.Forms.{keyword_of}
use Rattle.bus_table.specs.GoingOn.{lines_before, GoesOnWith, EndsBefore, GoesOnAsTold, WhatMayStandGoesOn}
use Rattle.bus_table.specs.Reading.{steps, ended, table_of, text_reading}
use Rattle.bus_table.specs.Stops.{Stop, may_stand, stop_in, stop_of}
use Rattle.bus_table.specs.Tables.{Table}
use Rattle.bus_table.proofs.AgainLemmas.{text_again}
use Rattle.bus_table.proofs.GoingLemmas.{HasNoFeed, Stopped, all_append, all_take, entries_append, fed, fed_lines, kept_entries, lines_feedless, no_steps, steps_append, steps_first, stopped}
use Rattle.bus_table.proofs.SampleLemmas.{behind, sample, sample_ends, sample_kept, sample_word, samples_feedless}
use Rattle.bus_table.proofs.TextLemmas.{text_found}

-- ---- lists
seam_take : {X : Type 0} (n : ℕ) (xs ys : List X) → length xs ≡ n → take n (xs ++ ys) ≡ xs
seam_take n xs ys h = ap (λ k. take k (xs ++ ys)) (sym h) ∙ take-append_seam xs ys

seam_get : {X : Type 0} (n : ℕ) (xs : List X) (y : X) (ys : List X) → length xs ≡ n → slice_get (xs ++ y ∷ ys) n ≡ Some y
seam_get n xs y ys h =
    ap (λ k. slice_get (xs ++ y ∷ ys) k) (sym h)
    ∙ slice_get-get_or (xs ++ y ∷ ys) (length xs) y (let all = length-append xs (y ∷ ys) in omega (arith, all)) ∙ ap Some (get_or-append_seam xs y ys y)

split_at : {X : Type 0} (n : ℕ) (xs : List X) (x : X) → slice_get xs n ≡ Some x → (rest : List X) × (xs ≡ take n xs ++ x ∷ rest)
split_at n [] x h = absurd cc
split_at zero (y ∷ xs) x h = (xs, let same : y ≡ x = cc in ap (λ z. z ∷ xs) same)
split_at (suc n) (y ∷ xs) x h = let more = split_at n xs x h in (more.0, ap (λ zs. y ∷ zs) more.1)

-- ---- where a text stops
text_stopped : (text : List ℕ) (refusal : Refusal) → text_reading text ≡ Err refusal → Stopped start 1 (physical_lines text) refusal
unfolding text_reading
text_stopped text refusal h =
    let after : 1 + length (physical_lines text) ≡ line_after_of text = omega arith in
    stopped (physical_lines text) 1 start refusal (ap (λ k. steps start (entries_of text) >>= ended k) after ∙ h)

-- as many lines stand before the refused one as its number says
count_before : (text : List ℕ) (refusal : Refusal) → Stopped start 1 (physical_lines text) refusal → length (lines_before refusal.line text) ≡ refusal.line - 1
count_before text refusal s = let most = s.most in length-take-le (refusal.line - 1) (physical_lines text) (omega (arith, most))

feedless_before : (text : List ℕ) (line : ℕ) → AllByRecursion HasNoFeed (lines_before line text)
feedless_before text line = all_take (line - 1) (physical_lines text) (lines_feedless text)

-- ---- what is read of a text that begins as it does
steps_on : (before lines : List (List ℕ)) (last : Draft) → steps start (entries_from 1 before) ≡ Ok last
    → steps start (entries_from 1 (before ++ lines)) ≡ steps last (entries_from (1 + length before) lines)
steps_on before lines last h =
    ap (steps start) (entries_append 1 before lines) ∙ steps_append (entries_from 1 before) (entries_from (1 + length before) lines) start
    ∙ ap (λ r. r >>= λ d. steps d (entries_from (1 + length before) lines)) h

reads_on : (before lines : List (List ℕ)) (last final : Draft) → AllByRecursion HasNoFeed (before ++ lines) → steps start (entries_from 1 before) ≡ Ok last
    → steps last (entries_from (1 + length before) lines) ≡ Ok final → may_end final.stage ≡ true → text_reading (fed (before ++ lines)) ≡ Ok (table_of final)
unfolding text_reading
reads_on before lines last final all first then may =
    let after = line_after_of (fed (before ++ lines)) in
    ap (λ ls. steps start (entries_from 1 ls) >>= ended after) (fed_lines (before ++ lines) all)
    ∙ ap (λ r. r >>= ended after) (steps_on before lines last first ∙ then)
    ∙ ap (λ t. cond t (Ok (table_of final)) (Err (record { line = after; reason = reasons.Ended }))) may

-- ---- it goes on with what may stand
goes_on : (text : List ℕ) (refusal : Refusal) (keyword : Keyword) (s : Stopped start 1 (physical_lines text) refusal) → may_come s.last keyword ≡ true
    → GoesOnWith keyword refusal.line text
goes_on text refusal keyword s may =
    let before = lines_before refusal.line text in
    let lines = sample s.last.mode keyword ∷ behind keyword in
    let all = all_append before lines (feedless_before text refusal.line) (samples_feedless s.last.mode keyword) in
    let ends = sample_ends s.last.mode keyword s.last (1 + length before) refl may in
    let count = count_before text refusal s in
    record {
      table = table_of ends.last;
      other = fed (before ++ lines);
      stands = text_found (fed (before ++ lines)) (table_of ends.last) (reads_on before lines s.last ends.last all s.reads ends.reads ends.may);
      same = ap (take (refusal.line - 1)) (fed_lines (before ++ lines) all) ∙ seam_take (refusal.line - 1) before lines count;
      there = sample s.last.mode keyword;
      stands_there =
          ap (λ ls. slice_get ls (refusal.line - 1)) (fed_lines (before ++ lines) all)
          ∙ seam_get (refusal.line - 1) before (sample s.last.mode keyword) (behind keyword) count;
      read = sample_kept s.last.mode keyword;
      begins = sample_word s.last.mode keyword;
    }

ends_there : (text : List ℕ) (refusal : Refusal) (s : Stopped start 1 (physical_lines text) refusal) → may_end s.last.stage ≡ true → EndsBefore refusal.line text
ends_there text refusal s may =
    let before = lines_before refusal.line text in
    let all = feedless_before text refusal.line in
    let none = append-nil before in
    let nothing : steps s.last (entries_from (1 + length before) []) ≡ Ok s.last = no_steps s.last in
    record {
      table = table_of s.last;
      other = fed before;
      stands =
          text_found (fed before) (table_of s.last)
          (ap (λ ls. text_reading (fed ls)) (sym none)
          ∙ reads_on before [] s.last s.last (subst (AllByRecursion HasNoFeed) (sym none) all) s.reads nothing may);
      same = fed_lines before all;
    }

-- ---- and with nothing else
refused_word : (draft : Draft) (keyword : Keyword) (fields : List (List ℕ)) → keyword_of fields ≡ Some keyword → may_come draft keyword ≡ false
    → line_reading draft fields ≡ Err reasons.Keyword
unfolding line_reading
refused_word draft keyword fields word may =
    ap (λ k. keyword_reading draft k fields) word ∙ ap (λ t. cond t (form_reading draft keyword fields) (Err reasons.Keyword)) may

text_steps : (text : List ℕ) (table : Table) → text_reading text ≡ Ok table → (steps start (entries_of text) >>= ended (line_after_of text)) ≡ Ok table
unfolding text_reading
text_steps text table h = h

may_come_there : (text : List ℕ) (refusal : Refusal) (keyword : Keyword) (s : Stopped start 1 (physical_lines text) refusal)
    → GoesOnWith keyword refusal.line text → may_come s.last keyword ≡ true
may_come_there text refusal keyword s g = elim (cases_Bool (may_come s.last keyword)) [
  | inl may ↦ may
  | inr barred ↦
      let before = lines_before refusal.line text in
      let split = split_at (refusal.line - 1) (physical_lines g.other) g.there g.stands_there in
      let lines : physical_lines g.other ≡ before ++ g.there ∷ split.0 = split.1 ∙ ap (λ ls. ls ++ g.there ∷ split.0) g.same in
      let n = 1 + length before in
      let entry : Entry = record { number = n; fields = fields_of g.there } in
      let after = line_after_of g.other in
      let refused : steps start (entries_of g.other) ≡ Err (record { line = n; reason = reasons.Keyword }) =
      ap (λ ls. steps start (entries_from 1 ls)) lines ∙ steps_on before (g.there ∷ split.0) s.last s.reads
      ∙ ap (steps s.last) (kept_entries n g.there split.0 g.read)
      ∙ steps_first s.last entry (entries_from (n + 1) split.0) (Err reasons.Keyword) (refused_word s.last keyword (fields_of g.there) g.begins barred) in
      absurd (let both = sym (ap (λ r. r >>= ended after) refused) ∙ text_steps g.other g.table (text_again g.other g.table g.stands) in cc)
]

may_end_there : (text : List ℕ) (refusal : Refusal) (s : Stopped start 1 (physical_lines text) refusal) → EndsBefore refusal.line text → may_end s.last.stage ≡ true
may_end_there text refusal s e =
    let after = line_after_of e.other in
    let read : (Ok s.last >>= ended after) ≡ Ok e.table =
    sym (ap (λ ls. steps start (entries_from 1 ls) >>= ended after) e.same ∙ ap (λ r. r >>= ended after) s.reads)
    ∙ text_steps e.other e.table (text_again e.other e.table e.stands) in
    by_end (may_end s.last.stage) (table_of s.last) e.table after read
  where
    by_end : (b : Bool) (made table : Table) (after : ℕ) → cond {A = Result Table Refusal} b (Ok made) (Err (record { line = after; reason = reasons.Ended })) ≡ Ok table
        → b ≡ true
    by_end true made table after h = refl
    by_end false made table after h = absurd cc

-- ---- the law
told : (text : List ℕ) (refusal : Refusal) (s : Stopped start 1 (physical_lines text) refusal) → GoesOnAsTold text refusal.line
told text refusal s =
    let stop : stop_of text ≡ stop_in s.last s.word = s.stop in
    record {
      keywords = λ keyword. (
        (λ may. goes_on text refusal keyword s (sym (ap (λ (x : Stop). may_stand x keyword) stop) ∙ may)),
        (λ g. ap (λ (x : Stop). may_stand x keyword) stop ∙ may_come_there text refusal keyword s g),
      );
      end = (
        (λ may. ends_there text refusal s (sym (ap (λ (x : Stop). may_end x.stage) stop) ∙ may)),
        (λ e. ap (λ (x : Stop). may_end x.stage) stop ∙ may_end_there text refusal s e),
      );
    }

pub what_may_stand_goes_on : WhatMayStandGoesOn
what_may_stand_goes_on text refusal h = told text refusal (text_stopped text refusal h)
