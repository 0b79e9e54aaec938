-- A call that acts as it should keeps what is claimed of texts that are right.
use Rattle.std.specs.Prelude.{◌≡◌, ◌≢◌, ℕ, false, List, [], Option, Some, None, IfSome, IsSome, Result, Ok}
use Rattle.std.specs.Io.KnownBytes.{append_known}
use Rattle.std.proofs.Common.{refl, sym, ap, ◌∙◌, subst, inl, inr, append-nil}
use Rattle.bus_outer.specs.Sinks.{Written}
use Rattle.bus_command.specs.declared.outcome.Outcome.{Outcome}
use Rattle.bus_command.specs.declared.outcome.Outcome.TheVariants.{Done, Answered, Own, ReadFault, WriteFault, NoMemory}
use Rattle.bus_command.specs.declared.refusal.Place.TheVariants.{First as AtFirst, Second as AtSecond, Both}
use Rattle.bus_command.specs.declared.status.Status.{Status}
use Rattle.bus_command.specs.declared.status.Status.TheVariants.{Done as Told, NoMemory as Wanting}
use Rattle.bus_command.specs.Outcomes.{status_of}
use Rattle.bus_command.specs.Kinds.{Answer, kind_of, is_answer}
use Rattle.bus_command.specs.Stages.{MayReplace}
use Rattle.bus_command.specs.Outside.{Seen, Sources, Rises, Call, Outside}
use Rattle.bus_command.specs.Readers.{Reader, Named, one_source, two_sources, ForTexts, FailsToRead, First, Second, SourceCounts, OutCounts}
use Rattle.bus_command.specs.Due.{outcome_with, IsTextOf}
use Rattle.bus_command.specs.About.{TellsItself}
use Rattle.bus_command.specs.Acts.{Leaves, Does, Program, DoesForm, HasRoom, Acts}
use Rattle.bus_command.specs.Claims.{IsUndisturbed, NothingFails, Answers, Refuses}

-- all of a text has gone
written_all : (old new : Option (List ℕ)) (text : List ℕ) → Written old new [] text → new ≡ append_known old text
written_all old new text w = w.held_is ∙ ap (append_known old) (sym (w.text_is ∙ append-nil w.gone))

-- a named source that fails is disturbed
disturbed : (reader : Option Reader) (old new : Seen) → IsSome reader → IsUndisturbed reader old new → Rises old new → ⊥
disturbed None old new some u r = cc
disturbed (Some reader) old new some u r = u r.1

no_fault : (named : Named) (before after : Outside) (source : ℕ) → NothingFails named before after → FailsToRead named before.sources after.sources source → ⊥
no_fault named before after source u (First is some rises stays) = disturbed named.first before.sources.first after.sources.first some u.first rises
no_fault named before after source u (Second is some stays rises) = disturbed named.second before.sources.second after.sources.second some u.second rises

-- an outcome that stands for an answer, where nothing outside failed, is the answer or want of memory
pub answers : {R : Type 0} (own : R → Status) (named : Named) (reply o : Outcome R) (IsIt IsText : List ℕ → Type 0) (call : Call) → kind_of reply ≡ Answer
    → ((text : List ℕ) → IsIt text → IsText text)
    → MayReplace reply o → Leaves (kind_of o) IsIt call.before.out.bytes call.after.out.bytes
    → SourceCounts named call.before.sources call.after.sources (kind_of o) → OutCounts call.before.out call.after.out (kind_of o)
    → NothingFails named call.before call.after → Answers (status_of own reply) IsText call (status_of own o)
answers own named reply Done IsIt IsText call w f s l c d u =
    inl (ap (status_of own) (sym s), (l.0, f l.0 l.1, written_all call.before.out.bytes call.after.out.bytes l.0 l.2))
answers own named reply Answered IsIt IsText call w f s l c d u =
    inl (ap (status_of own) (sym s), (l.0, f l.0 l.1, written_all call.before.out.bytes call.after.out.bytes l.0 l.2))
answers own named reply NoMemory IsIt IsText call w f s l c d u = inr (refl, l)
answers own named reply (ReadFault source) IsIt IsText call w f s l c d u = absurd (no_fault named call.before call.after source u c)
answers own named reply WriteFault IsIt IsText call w f s l c d u = absurd (u.out d.1)
answers own named reply (Own AtFirst why) IsIt IsText call w f s l c d u = (let no : kind_of (Own AtFirst why) ≡ Answer = ap kind_of (sym s) ∙ w in absurd cc)
answers own named reply (Own AtSecond why) IsIt IsText call w f s l c d u = (let no : kind_of (Own AtSecond why) ≡ Answer = ap kind_of (sym s) ∙ w in absurd cc)
answers own named reply (Own Both why) IsIt IsText call w f s l c d u = (let no : kind_of (Own Both why) ≡ Answer = ap kind_of (sym s) ∙ w in absurd cc)
answers own named reply o IsIt IsText call w f s l c d u = (let no : kind_of o ≡ Answer = ap kind_of (sym s) ∙ w in absurd cc)

-- an outcome that stands for Done and is no want of memory has another status than that
not_wanting : {R : Type 0} (own : R → Status) (o : Outcome R) → MayReplace Done o → o ≢ NoMemory → status_of own o ≢ Wanting
not_wanting own NoMemory s room = absurd (room refl)
not_wanting own (Own AtFirst why) s room = absurd cc
not_wanting own (Own AtSecond why) s room = absurd cc
not_wanting own (Own Both why) s room = absurd cc
not_wanting own o s room = λ e. cc

-- so the text is told
pub told_itself : {R : Type 0} (own : R → Status) (o : Outcome R) (text : List ℕ) (call : Call) → MayReplace Done o → o ≢ NoMemory
    → Answers Told (λ written. written ≡ text) call (status_of own o) → TellsItself text call (status_of own o)
told_itself own o text call s room (inl told) = record {
  done = told.0;
  written = told.1.2 ∙ ap (append_known call.before.out.bytes) told.1.1;
}
told_itself own o text call s room (inr none) = absurd (not_wanting own o s room none.0)

-- ---- the texts that are told
-- what the command of these words did
pub does_of : {R Form : Type 0} (program : Program R Form) (call : Call) (outcome : Outcome R) (form : Form) → program.form_of call.words ≡ Some form
    → Acts program call outcome → DoesForm program form call.before call.after outcome
does_of program call outcome form is acts = subst (λ f. IfSome f (λ form. DoesForm program form call.before call.after outcome)) is acts.does

-- and that they took no memory, where their form takes none
pub room_of : {R Form : Type 0} (program : Program R Form) (call : Call) (outcome : Outcome R) (form : Form) → program.form_of call.words ≡ Some form
    → Acts program call outcome → HasRoom program form outcome
room_of program call outcome form is acts = subst (λ f. IfSome f (λ form. HasRoom program form outcome)) is acts.room

pub at_one : (reader : Reader) (before : Sources) (first : List ℕ) → before.first.bytes ≡ Some first → (P : List ℕ → List ℕ → Type 0)
    → ForTexts (one_source reader) before P → P first []
at_one reader before first told P h = subst (λ bytes. ForTexts (one_source reader) (record { first = record { bytes = bytes; faults = before.first.faults }; second = before.second }) P) told h

pub at_two : (one two : Reader) (before : Sources) (first second : List ℕ) → before.first.bytes ≡ Some first → before.second.bytes ≡ Some second
    → (P : List ℕ → List ℕ → Type 0) → ForTexts (two_sources one two) before P → P first second
at_two one two before first second told also P h =
    subst (λ bytes. ForTexts (two_sources one two) (record { first = record { bytes = Some first; faults = before.first.faults }; second = record { bytes = bytes; faults = before.second.faults } }) P) also
    (subst (λ bytes. ForTexts (two_sources one two) (record { first = record { bytes = bytes; faults = before.first.faults }; second = before.second }) P) told h)

-- what stands for the answer to a value that is told
pub stands_told : {R Y : Type 0} (answer : Y → Outcome R) (named : Named) (made : List ℕ → List ℕ → Result Y (Outcome R)) (first second : List ℕ) (y : Y)
    (before : Sources) (o : Outcome R) → ((P : List ℕ → List ℕ → Type 0) → ForTexts named before P → P first second) → made first second ≡ Ok y
    → ForTexts named before (λ a b. MayReplace (outcome_with answer (made a b)) o) → MayReplace (answer y) o
stands_told answer named made first second y before o at is due =
    subst (λ d. MayReplace (outcome_with answer d) o) is (at (λ a b. MayReplace (outcome_with answer (made a b)) o) due)

-- a text of the value that is told
text_told : {R Y : Type 0} (answer : Y → Outcome R) (IsIt : Y → List ℕ → Type 0) (made : Result Y (Outcome R)) (y : Y) (text : List ℕ) → made ≡ Ok y
    → IsTextOf answer IsIt made text → IsIt y text
text_told answer IsIt made y text is h = (let same : Ok h.0 ≡ made = sym h.1 in let e : h.0 ≡ y = cc in subst (λ y. IsIt y text) e h.3)

-- the answer to a value that is told
pub claimed : {R Y : Type 0} (own : R → Status) (answer : Y → Outcome R) (IsIt : Y → List ℕ → Type 0) (named : Named)
    (refusing : List ℕ → Option (Outcome R)) (made : List ℕ → List ℕ → Result Y (Outcome R)) (first second : List ℕ) (y : Y)
    (IsText : List ℕ → Type 0) (call : Call) (o : Outcome R)
    → ((P : List ℕ → List ℕ → Type 0) → ForTexts named call.before.sources P → P first second) → made first second ≡ Ok y → kind_of (answer y) ≡ Answer
    → ((text : List ℕ) → IsIt y text → IsText text)
    → Does named refusing (λ a b. outcome_with answer (made a b)) (λ a b text. IsTextOf answer IsIt (made a b) text) call.before call.after o
    → NothingFails named call.before call.after → Answers (status_of own (answer y)) IsText call (status_of own o)
claimed own answer IsIt named refusing made first second y IsText call o at is answer_is shows does undisturbed =
    answers own named (answer y) o _ IsText call answer_is
    (λ text it. shows text (text_told answer IsIt (made first second) y text is (at (λ a b. IsTextOf answer IsIt (made a b) text) it)))
    (stands_told answer named made first second y call.before.sources o at is does.due)
    does.text does.counts does.out_count undisturbed

-- ---- a refusal behind the texts
-- what stands for a refusal of the program's own, where nothing outside failed, is it or want of memory
pub refuses : {R : Type 0} (own : R → Status) (named : Named) (reply o : Outcome R) (IsIt : List ℕ → Type 0) (call : Call) → is_answer (kind_of reply) ≡ false
    → MayReplace reply o → Leaves (kind_of o) IsIt call.before.out.bytes call.after.out.bytes
    → SourceCounts named call.before.sources call.after.sources (kind_of o) → OutCounts call.before.out call.after.out (kind_of o)
    → NothingFails named call.before call.after → Refuses (status_of own reply) call (status_of own o)
refuses {R} own named reply Done IsIt call w s l c d u = (let no : is_answer (kind_of {R = R} Done) ≡ false = ap (λ o. is_answer (kind_of o)) (sym s) ∙ w in absurd cc)
refuses {R} own named reply Answered IsIt call w s l c d u = (let no : is_answer (kind_of {R = R} Answered) ≡ false = ap (λ o. is_answer (kind_of o)) (sym s) ∙ w in absurd cc)
refuses own named reply NoMemory IsIt call w s l c d u = record { ends = inr refl; unwritten = l }
refuses own named reply (ReadFault source) IsIt call w s l c d u = absurd (no_fault named call.before call.after source u c)
refuses own named reply WriteFault IsIt call w s l c d u = absurd (u.out d.1)
refuses own named reply (Own AtFirst why) IsIt call w s l c d u = record { ends = inl (ap (status_of own) (sym s)); unwritten = l }
refuses own named reply (Own AtSecond why) IsIt call w s l c d u = record { ends = inl (ap (status_of own) (sym s)); unwritten = l }
refuses own named reply (Own Both why) IsIt call w s l c d u = record { ends = inl (ap (status_of own) (sym s)); unwritten = l }
refuses own named reply o IsIt call w s l c d u = record { ends = inl (ap (status_of own) (sym s)); unwritten = l }
