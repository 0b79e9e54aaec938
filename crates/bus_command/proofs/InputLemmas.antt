-- What is made of the texts.
use Rattle.std.specs.Prelude.{◌≡◌, ℕ, ◌≤◌, List, Vec, Option, Result, Ok, Err, IsErrAnd}
use Rattle.std.specs.declared.alloc.Global.{Global}
use Rattle.std.proofs.Common.{arith, refl, sym, ap, ◌∙◌, subst}
use Rattle.std.proofs.lemmas.Result.{err_from_is_err_and}
use Rattle.bus_text.specs.AllOf.{◌>>=◌}
use Rattle.bus_table.specs.declared.error.TableError.{TableError}
use Rattle.bus_table.specs.declared.error.TableError.TheVariants.{Text, Whole, Memory}
use Rattle.bus_table.specs.Gives.{Fails}
use Rattle.bus_table.specs.Tables.{Table, Hand}
use Rattle.bus_table.specs.Reading.{answer_of}
use Rattle.bus_command.specs.declared.outcome.Outcome.{Outcome}
use Rattle.bus_command.specs.Stages.{stage_in, Gives, refusal_in}
use Rattle.bus_command.specs.declared.inputs.Dealt.{Dealt}
use Rattle.bus_command.specs.Kinds.{kind_of}
use Rattle.bus_command.specs.Outside.{Seen, both}
use Rattle.bus_command.specs.Readers.{entire, two_sources}
use Rattle.bus_command.specs.Steps.{Takes, Same, IsText, Prepares}
use Rattle.bus_command.specs.Due.{text_due, table_refusal, table_or_refusal, table_due, items_due, Inputs, with_items}
use Rattle.bus_command.specs.Taken.{AreHandsOf}
use Rattle.bus_command.specs.inside.Steps.{AreInputs}
use Rattle.bus_command.proofs.TakeLemmas.{RefusesAt, takes_then}
use Rattle.bus_command.proofs.ReadLemmas.{items_stage}
use Rattle.bus_command.proofs.StageLaws.{some_map, then_stage, stop_early, stop_low, gives_on}
use Rattle.bus_command.proofs.PrepareLaws.{prepares_none, prepares_both}

table_stage : (R : Type 0) (answer : Result Table TableError) → 1 ≤ stage_in (table_or_refusal {R = R} answer)
table_stage R (Ok table) = omega arith
table_stage R (Err (Text line reason)) = omega arith
table_stage R (Err (Whole reason)) = omega arith
table_stage R (Err Memory) = omega arith

-- a refused table text
table_fails : (R : Type 0) (e : TableError) (text : List ℕ) → Fails e (answer_of text) → Gives {R = R} {X = Table} {Y = Table} Same (Err (table_refusal e)) (table_or_refusal (answer_of text))
table_fails R (Text line reason) text h = ap table_or_refusal h
table_fails R (Whole reason) text h = ap table_or_refusal h
table_fails R Memory text h = table_stage R (answer_of text)

table_stops : (R : Type 0) (e : TableError) → RefusesAt 1 (kind_of (table_refusal {R = R} e))
table_stops R (Text line reason) = refl
table_stops R (Whole reason) = refl
table_stops R Memory = tt

pub table_refused : {R : Type 0} (old new : Seen) (text : Vec ℕ Global) (bytes : List ℕ) (e : TableError) (r : Result Table (Outcome R)) → Takes {R = R} IsText 1 entire (text_due 1) old new (Ok text) → bytes ≡ text.items → Fails e (answer_of bytes) → IsErrAnd r (λ o. o ≡ table_refusal e) → Takes Same 1 entire table_due old new r
table_refused {R} old new text bytes e r t same fails h =
    let came = err_from_is_err_and r h in
    let is : r ≡ Err (table_refusal e) = came.1 ∙ ap Err came.2 in
    subst (Takes Same 1 entire table_due old new) (sym is)
    (takes_then IsText Same 1 entire (text_due 1) (λ whole. table_or_refusal (answer_of whole)) old new text (Err (table_refusal e)) t
    (λ whole read. table_fails R e whole (subst (λ b. Fails e (answer_of b)) (same ∙ read) fails)) (table_stops R e))

-- a table
pub table_taken : {R : Type 0} (old new : Seen) (text : Vec ℕ Global) (bytes : List ℕ) (table : Table) → Takes {R = R} IsText 1 entire (text_due 1) old new (Ok text) → bytes ≡ text.items → answer_of bytes ≡ Ok table → Takes {R = R} Same 1 entire table_due old new (Ok table)
table_taken old new text bytes table t same h =
    takes_then IsText Same 1 entire (text_due 1) (λ whole. table_or_refusal (answer_of whole)) old new text (Ok table) t
    (λ whole read. (table, ap table_or_refusal (ap answer_of (sym (same ∙ read)) ∙ h), refl)) tt

-- ---- both texts
-- a table that is made of the first text, and items that fit it
module _ {R : Type 0} (made : List ℕ → Result Table (Outcome R)) where
  abbrev pub both_made : List ℕ → List ℕ → Result Inputs (Outcome R)
  both_made first second = made first >>= λ table. items_due table second >>= λ items. Ok (with_items table items)

  abbrev pub refused : List ℕ → Option (Outcome R)
  refused first = refusal_in (made first)

  made_stage : (table : Table) (text : List ℕ) → 2 ≤ stage_in (items_due {R = R} table text >>= λ items. Ok (with_items table items))
  made_stage table text = then_stage 2 (items_due table text) (λ items. Ok (with_items table items)) (items_stage R table text) (λ items. omega arith)

  pub none_made : (old new second : Seen) (o : Outcome R) (r : Result Dealt (Outcome R)) → IsErrAnd r (λ came. came ≡ o) → Takes {X = Table} Same 1 entire made old new (Err o)
      → Prepares AreInputs (two_sources entire entire) refused both_made (both old second) (both new second) r
  none_made old new second o r h t =
      let came = err_from_is_err_and r h in
      subst (Prepares AreInputs (two_sources entire entire) refused both_made (both old second) (both new second)) (sym (came.1 ∙ ap Err came.2))
      (prepares_none Same AreInputs entire entire made (λ table b. items_due table b >>= λ items. Ok (with_items table items)) old new second o made_stage t)

  with_hands : (old new : Seen) (table : Table) (hands : Vec Hand Global) → Takes {R = R} (AreHandsOf table) 2 entire (items_due table) old new (Ok hands)
      → Takes {R = R} AreInputs 2 entire (λ b. items_due table b >>= λ items. Ok (with_items table items)) old new (Ok (record { table = table; hands = hands }))
  with_hands old new table hands u =
      let inputs : Dealt = record { table = table; hands = hands } in
      takes_then (AreHandsOf table) AreInputs 2 entire (items_due table) (λ items. Ok (with_items table items)) old new hands (Ok inputs) u
      (λ items same. (with_items table items, refl, record { table = refl; hands = same })) tt

  pub all_made : (old new old' new' : Seen) (table : Table) (hands : Vec Hand Global) → Takes Same 1 entire made old new (Ok table) → Takes {R = R} (AreHandsOf table) 2 entire (items_due table) old' new' (Ok hands)
      → Prepares AreInputs (two_sources entire entire) refused both_made (both old old') (both new new') (Ok (record { table = table; hands = hands }))
  all_made old new old' new' table hands t u =
      let dealt : Dealt = record { table = table; hands = hands } in
      prepares_both Same AreInputs entire entire made (λ table b. items_due table b >>= λ items. Ok (with_items table items)) old new old' new' table table (Ok dealt) (λ z is. sym is) t
      (with_hands old' new' table hands u)

  -- the second text was refused
  pub hands_refused : (old new old' new' : Seen) (table : Table) (o : Outcome R) (r : Result Dealt (Outcome R)) → IsErrAnd r (λ came. came ≡ o) → Takes Same 1 entire made old new (Ok table) → Takes {R = R} (AreHandsOf table) 2 entire (items_due table) old' new' (Err o)
      → Prepares AreInputs (two_sources entire entire) refused both_made (both old old') (both new new') r
  hands_refused old new old' new' table o r h t u =
      let came = err_from_is_err_and r h in
      subst (Prepares AreInputs (two_sources entire entire) refused both_made (both old old') (both new new')) (sym (came.1 ∙ ap Err came.2))
      (prepares_both Same AreInputs entire entire made (λ table b. items_due table b >>= λ items. Ok (with_items table items)) old new old' new' table table (Err o) (λ z is. sym is) t
      (record { gives = some_map old'.bytes _ _ (λ text g. gives_on (kind_of o) o (items_due table text) (with_items table) (stop_early 2 (kind_of o) u.stops) (stop_low 2 (kind_of o) (omega arith) u.stops) g) u.gives; reads = u.reads; stops = u.stops; counts = u.counts }))
