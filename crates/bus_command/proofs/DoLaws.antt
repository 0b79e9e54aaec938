-- A command of its steps, and of what it did behind them.
use Rattle.std.specs.Prelude.{◌≡◌, ℕ, ◌≤◌, true, List, Option, None, IsSome, Result, Ok, Err}
use Rattle.std.proofs.Common.{refl, sym, ap, ◌∙◌, subst, inl, inr, arith}
use Rattle.bus_outer.specs.Sinks.{WritesText}
use Rattle.bus_outer.specs.declared.sink.Sink.{Ghosts as SinkGhosts}
use Rattle.bus_outer.specs.declared.sink.WriteFault.{WriteFault as Fault}
use Rattle.bus_command.specs.declared.outcome.Outcome.{Outcome}
use Rattle.bus_command.specs.declared.outcome.Outcome.TheVariants.{NoMemory}
use Rattle.bus_command.specs.Acts.{Leaves, written, IsBehind, Ends, Does}
use Rattle.bus_command.specs.Due.{outcome_with, IsTextOf}
use Rattle.bus_command.specs.Kinds.{Kind, NoForm, NotRead, TooMuch, Wrong, Late, NotWritten, NoRoom, Answer, kind_of, stage_of, is_answer}
use Rattle.bus_command.specs.Outside.{Seen, Sources, around, sink_seen}
use Rattle.bus_command.specs.Readers.{Named, no_source, known, ForTexts, OutCounts}
use Rattle.bus_command.specs.Stages.{MayReplaceAs, MayReplace, GivesStop, Gives}
use Rattle.bus_command.specs.Steps.{IsEarly, Prepares}
use Rattle.bus_command.specs.inside.Steps.{IsLate}
use Rattle.bus_command.proofs.PrepareLaws.{both_map}
use Rattle.bus_command.proofs.ReachLaws.{early_out, reads_behind, behind_counts, low_read}
use Rattle.bus_command.proofs.StageLaws.{if_map, stage_with, gives_stands}

-- ---- where the steps stopped
leaves_early : (k : Kind) (IsIt : List ℕ → Type 0) (out : Option (List ℕ)) → IsEarly k → Leaves k IsIt out out
leaves_early NoForm IsIt out h = refl
leaves_early (NotRead source) IsIt out h = refl
leaves_early (TooMuch source) IsIt out h = refl
leaves_early (Wrong source) IsIt out h = refl
leaves_early Late IsIt out h = refl
leaves_early NotWritten IsIt out h = absurd h
leaves_early NoRoom IsIt out h = refl
leaves_early Answer IsIt out h = absurd h

pub stopped : {R X Y : Type 0} (IsOf : X → Y → Type 0) (answer : Y → Outcome R) (IsIt : Y → List ℕ → Type 0) (named : Named)
    (refusing : List ℕ → Option (Outcome R)) (made : List ℕ → List ℕ → Result Y (Outcome R)) (before after : Sources) (out : Seen) (o : Outcome R)
    → ((y : Y) → 2 ≤ stage_of (kind_of (answer y))) → Prepares IsOf named refusing made before after (Err o)
    → Does named refusing (λ a b. outcome_with answer (made a b)) (λ a b text. IsTextOf answer IsIt (made a b) text) (around before out)
    (around after out) o
stopped IsOf answer IsIt named refusing made before after out o late p = record {
  due = both_map (known named.first before.first) (known named.second before.second) _ _
      (λ a b g. gives_stands (kind_of o) answer late o (made a b) p.early (low_read named before after (kind_of o) p.counts) g) p.gives;
  text = leaves_early (kind_of o) _ out.bytes p.early;
  first = p.first;
  second = p.second;
  order = p.order;
  counts = p.counts;
  out_count = early_out (kind_of o) out p.early;
  form = λ e. subst (λ k. IsEarly (kind_of k)) e p.early;
}

-- ---- where they gave a value
-- what is left of an answer's text, where it is due
leaves_answered : {R : Type 0} (k : Kind) (due o : Outcome R) (P Q : List ℕ → Type 0) (old new : Option (List ℕ)) → kind_of o ≡ k → MayReplaceAs k due o
    → (is_answer (kind_of due) ≡ true → (text : List ℕ) → P text → Q text) → Leaves k P old new → Leaves k Q old new
leaves_answered NoForm due o P Q old new is stands f l = l
leaves_answered (NotRead source) due o P Q old new is stands f l = l
leaves_answered (TooMuch source) due o P Q old new is stands f l = l
leaves_answered (Wrong source) due o P Q old new is stands f l = l
leaves_answered Late due o P Q old new is stands f l = l
leaves_answered NotWritten due o P Q old new is stands f l = (l.0, f (ap is_answer stands) l.0 l.1, l.2, l.3)
leaves_answered NoRoom due o P Q old new is stands f l = l
leaves_answered Answer due o P Q old new is stands f l = (l.0, f (ap is_answer (ap kind_of stands ∙ is)) l.0 l.1, l.2)

-- what is due of a value and its text are those of what was taken
pub record Agrees {R X Y : Type 0} (IsOf : X → Y → Type 0) (answer : Y → Outcome R) (IsIt : Y → List ℕ → Type 0) (x : X) (due : Outcome R)
    (IsText : List ℕ → Type 0) : Type 0 where
  pub answers : (y : Y) → IsOf x y → answer y ≡ due
  pub texts : (y : Y) → IsOf x y → (text : List ℕ) → IsText text → IsIt y text

due_answer : {R X Y : Type 0} (IsOf : X → Y → Type 0) (answer : Y → Outcome R) (IsIt : Y → List ℕ → Type 0) (x : X) (due : Outcome R)
    (IsText : List ℕ → Type 0) (made : Result Y (Outcome R)) → Agrees IsOf answer IsIt x due IsText → Gives IsOf (Ok x) made
    → outcome_with answer made ≡ due
due_answer IsOf answer IsIt x due IsText made a g = ap (outcome_with answer) g.1 ∙ a.answers g.0 g.2

due_text : {R X Y : Type 0} (IsOf : X → Y → Type 0) (answer : Y → Outcome R) (IsIt : Y → List ℕ → Type 0) (x : X) (due : Outcome R)
    (IsText : List ℕ → Type 0) (made : Result Y (Outcome R)) → Agrees IsOf answer IsIt x due IsText → Gives IsOf (Ok x) made
    → is_answer (kind_of due) ≡ true → (text : List ℕ) → IsText text → IsTextOf answer IsIt made text
due_text IsOf answer IsIt x due IsText made a g written_is text is =
    (g.0, g.1, ap (λ o. is_answer (kind_of o)) (a.answers g.0 g.2) ∙ written_is, a.texts g.0 g.2 text is)

pub ended : {R X Y : Type 0} (IsOf : X → Y → Type 0) (answer : Y → Outcome R) (IsIt : Y → List ℕ → Type 0) (named : Named)
    (refusing : List ℕ → Option (Outcome R)) (made : List ℕ → List ℕ → Result Y (Outcome R)) (before after : Sources) (old new : Seen) (x : X)
    (due : Outcome R) (IsText : List ℕ → Type 0) (o : Outcome R)
    → Agrees IsOf answer IsIt x due IsText → Prepares IsOf named refusing made before after (Ok x) → Ends named due IsText old new o
    → Does named refusing (λ a b. outcome_with answer (made a b)) (λ a b text. IsTextOf answer IsIt (made a b) text) (around before old)
    (around after new) o
ended IsOf answer IsIt named refusing made before after old new x due IsText o agrees p e = record {
  due = both_map (known named.first before.first) (known named.second before.second) _ _
      (λ a b g. subst (λ d. MayReplace d o) (sym (due_answer IsOf answer IsIt x due IsText (made a b) agrees g)) e.stands) p.gives;
  text = leaves_answered (kind_of o) due o IsText (λ text. ForTexts named before (λ a b. IsTextOf answer IsIt (made a b) text)) old.bytes new.bytes refl e.stands
      (λ written_is text is. both_map (known named.first before.first) (known named.second before.second) _ _
      (λ a b g. due_text IsOf answer IsIt x due IsText (made a b) agrees g written_is text is) p.gives) e.text;
  first = reads_behind named named.first 1 (kind_of o) before.first after.first (inl refl) e.behind p.first;
  second = reads_behind named named.second 2 (kind_of o) before.second after.second (inr refl) e.behind p.second;
  order = if_map (known named.first before.first) _ _ (λ first r. if_map (refusing first) (λ refusal. ⊥) _ (λ refusal no. absurd no) r)
      p.order;
  counts = behind_counts named before after (kind_of o) e.behind p.counts;
  out_count = e.count;
  form = λ is. subst (λ o. IsBehind named (kind_of o)) is e.behind;
}

-- ---- what a command did behind its texts
-- its answer was written, or a beginning of it
pub answered : {R K : Type 0} (named : Named) (due : Outcome R) (IsText : List ℕ → Type 0) (ghosts : SinkGhosts K) (k k' : K) (text : List ℕ)
    (result : Result (Unit {0}) Fault) (o : Outcome R)
    → kind_of due ≡ Answer → IsText text → WritesText ghosts.held ghosts.faults k k' result text → o ≡ written result due
    → Ends named due IsText (sink_seen ghosts k) (sink_seen ghosts k') o
answered named due IsText ghosts k k' text (Ok u) o answer_is is w came =
    let held : Ends named due IsText (sink_seen ghosts k) (sink_seen ghosts k') due = record {
      stands = subst (λ n. MayReplaceAs n due due) (sym answer_is) refl;
      text = subst (λ n. Leaves n IsText (ghosts.held k) (ghosts.held k')) (sym answer_is) (text, is, w.ok);
      count = subst (OutCounts (sink_seen ghosts k) (sink_seen ghosts k')) (sym answer_is) w.same;
      behind = subst (IsBehind named) (sym answer_is) tt;
    } in
    subst (Ends named due IsText (sink_seen ghosts k) (sink_seen ghosts k')) (sym came) held
answered named due IsText ghosts k k' text (Err fault) o answer_is is w came =
    let cut : Ends named due IsText (sink_seen ghosts k) (sink_seen ghosts k') (written (Err fault) due) = record {
      stands = answer_is;
      text = (text, is, w.prefix.0, w.prefix.1);
      count = (w.later, w.cause);
      behind = tt;
    } in
    subst (Ends named due IsText (sink_seen ghosts k) (sink_seen ghosts k')) (sym came) cut

-- there was no memory for it
pub roomless : {R : Type 0} (named : Named) (due : Outcome R) (IsText : List ℕ → Type 0) (seen : Seen) → 1 ≤ stage_of (kind_of due)
    → Ends named due IsText seen seen NoMemory
roomless named due IsText seen late = record { stands = late; text = refl; count = refl; behind = tt }

-- what is asked behind the texts was refused
failed_at : {R Y : Type 0} (k : Kind) (named : Named) (answer : Y → Outcome R) (due : Result Y (Outcome R)) (IsText : List ℕ → Type 0) (seen : Seen)
    (o : Outcome R) → kind_of o ≡ k → ((y : Y) → 2 ≤ stage_of (kind_of (answer y))) → IsLate k → GivesStop k o due
    → Ends named (outcome_with answer due) IsText seen seen o
failed_at NoForm named answer due IsText seen o is late at g = absurd at
failed_at (NotRead source) named answer due IsText seen o is late at g = absurd at
failed_at (TooMuch source) named answer due IsText seen o is late at g = absurd at
failed_at (Wrong source) named answer due IsText seen o is late at g = absurd at
failed_at Late named answer due IsText seen o is late at g = record {
  stands = subst (λ k. MayReplaceAs k (outcome_with answer due) o) (sym is) (ap (outcome_with answer) g);
  text = subst (λ k. Leaves k IsText seen.bytes seen.bytes) (sym is) refl;
  count = subst (OutCounts seen seen) (sym is) refl;
  behind = subst (IsBehind named) (sym is) tt;
}
failed_at NotWritten named answer due IsText seen o is late at g = absurd at
failed_at NoRoom named answer due IsText seen o is late at g = record {
  stands = subst (λ k. MayReplaceAs k (outcome_with answer due) o) (sym is) (stage_with 1 answer (omega arith) late due g);
  text = subst (λ k. Leaves k IsText seen.bytes seen.bytes) (sym is) refl;
  count = subst (OutCounts seen seen) (sym is) refl;
  behind = subst (IsBehind named) (sym is) tt;
}
failed_at Answer named answer due IsText seen o is late at g = absurd at

pub failed : {R Y : Type 0} (named : Named) (answer : Y → Outcome R) (due : Result Y (Outcome R)) (IsText : List ℕ → Type 0) (seen : Seen)
    (o : Outcome R) → ((y : Y) → 2 ≤ stage_of (kind_of (answer y))) → IsLate (kind_of o) → GivesStop (kind_of o) o due
    → Ends named (outcome_with answer due) IsText seen seen o
failed named answer due IsText seen o late at g = failed_at (kind_of o) named answer due IsText seen o refl late at g

-- what the second text says is refused, by a rule of the command's own
pub refused : {R : Type 0} (named : Named) (IsText : List ℕ → Type 0) (seen : Seen) (o : Outcome R) → kind_of o ≡ Wrong 2 → IsSome named.second
    → Ends named o IsText seen seen o
refused named IsText seen o is some = record {
  stands = subst (λ k. MayReplaceAs k o o) (sym is) refl;
  text = subst (λ k. Leaves k IsText seen.bytes seen.bytes) (sym is) refl;
  count = subst (OutCounts seen seen) (sym is) refl;
  behind = subst (IsBehind named) (sym is) (refl, some);
}

-- ---- a command that names no source
pub sourceless : {R : Type 0} (due : Outcome R) (IsIt : List ℕ → Type 0) (sources : Sources) (old new : Seen) (o : Outcome R)
    → Ends no_source due IsIt old new o
    → Does no_source (λ first. None) (λ first second. due) (λ first second text. IsIt text) (around sources old) (around sources new) o
sourceless due IsIt sources old new o e = record {
  due = e.stands;
  text = e.text;
  first = refl;
  second = refl;
  order = tt;
  counts = behind_counts no_source sources sources (kind_of o) e.behind (record { first = refl; second = refl });
  out_count = e.count;
  form = λ is. subst (λ o. IsBehind no_source (kind_of o)) is e.behind;
}
