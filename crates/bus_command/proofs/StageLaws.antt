-- Steps one after another: what they give, and at which stage.
use Rattle.std.specs.Prelude.{◌≡◌, ℕ, ◌≤◌, List, [], Option, Some, None, IfSome, Result, Ok, Err}
use Rattle.std.proofs.Common.{arith, sym, ap, subst}
use Rattle.bus_text.specs.AllOf.{◌>>=◌}
use Rattle.bus_command.specs.declared.outcome.Outcome.{Outcome}
use Rattle.bus_command.specs.Kinds.{Kind, NoForm, NotRead, TooMuch, Wrong, Late, NotWritten, NoRoom, Answer, kind_of, stage_of}
use Rattle.bus_command.specs.Stages.{MayReplaceAs, stage_in, GivesStop, Gives, refusal_in}
use Rattle.bus_command.specs.Outside.{Sources}
use Rattle.bus_command.specs.Readers.{ForKnown}
use Rattle.bus_command.specs.Steps.{StopsAt, IsEarly, IsRefused}
use Rattle.bus_command.specs.Due.{outcome_with}

pub if_map : {X : Type 0} (o : Option X) (P Q : X → Type 0) → ((x : X) → P x → Q x) → IfSome o P → IfSome o Q
if_map None P Q f h = tt
if_map (Some x) P Q f h = f x h

-- ---- the text of a source
pub some_map : (o : Option (List ℕ)) (P Q : List ℕ → Type 0) → ((text : List ℕ) → P text → Q text) → ForKnown o P → ForKnown o Q
some_map None P Q f h = (h.0, f h.0 h.1)
some_map (Some text) P Q f h = f text h

-- of each text
pub some_all : (o : Option (List ℕ)) (P : List ℕ → Type 0) → ((text : List ℕ) → P text) → ForKnown o P
some_all None P f = ([], f [])
some_all (Some text) P f = f text

-- of the one that is told, or of this one
pub told_or : (o : Option (List ℕ)) (P : List ℕ → Type 0) (text : List ℕ) → P text → IfSome o P → ForKnown o P
told_or None P text p h = (text, p)
told_or (Some told) P text p h = h

-- where it is told
pub where_told : (o : Option (List ℕ)) (P : List ℕ → Type 0) → ForKnown o P → IfSome o P
where_told None P h = tt
where_told (Some text) P h = h

-- ---- the kinds at which a step may stop
-- a step that reads a source stops before anything is written
pub stop_early : (number : ℕ) (k : Kind) → StopsAt number k → IsEarly k
stop_early number NoForm h = absurd h
stop_early number (NotRead source) h = tt
stop_early number (TooMuch source) h = tt
stop_early number (Wrong source) h = tt
stop_early number Late h = absurd h
stop_early number NotWritten h = absurd h
stop_early number NoRoom h = tt
stop_early number Answer h = absurd h

-- and at its source
pub stop_low : (number : ℕ) (k : Kind) → number ≤ 3 → StopsAt number k → stage_of k ≤ 3
stop_low number NoForm low h = absurd h
stop_low number (NotRead source) low h = omega arith
stop_low number (TooMuch source) low h = omega arith
stop_low number (Wrong source) low h = omega arith
stop_low number Late low h = absurd h
stop_low number NotWritten low h = absurd h
stop_low number NoRoom low h = omega arith
stop_low number Answer low h = absurd h

pub stop_stage : (number : ℕ) (k : Kind) → number ≤ 3 → StopsAt number k → number ≤ stage_of k
stop_stage number NoForm low h = absurd h
stop_stage number (NotRead source) low h = omega arith
stop_stage number (TooMuch source) low h = omega arith
stop_stage number (Wrong source) low h = omega arith
stop_stage number Late low h = absurd h
stop_stage number NotWritten low h = absurd h
stop_stage number NoRoom low h = low
stop_stage number Answer low h = absurd h

-- ---- the stages of what is due
pub then_stage : {R X Y : Type 0} (n : ℕ) (due : Result X (Outcome R)) (f : X → Result Y (Outcome R)) → n ≤ stage_in due
    → ((x : X) → n ≤ stage_in (f x)) → n ≤ stage_in (due >>= f)
then_stage n (Ok x) f h later = later x
then_stage n (Err o) f h later = h

-- ---- what steps give together
-- the step before gave this
pub gives_then : {R X Y V W : Type 0} (IsOf : X → Y → Type 0) (IsNext : V → W → Type 0) (x : X) (due : Result Y (Outcome R))
    (f : Y → Result W (Outcome R)) (r : Result V (Outcome R))
    → Gives IsOf (Ok x) due → ((y : Y) → IsOf x y → Gives IsNext r (f y)) → Gives IsNext r (due >>= f)
gives_then IsOf IsNext x due f r g next = subst (λ d. Gives IsNext r (d >>= f)) (sym g.1) (next g.0 g.2)

-- the first of two steps stopped
pub gives_first : {R Y W : Type 0} (k : Kind) (o : Outcome R) (due : Result Y (Outcome R)) (f : Y → Result W (Outcome R)) → StopsAt 1 k
    → ((y : Y) → 2 ≤ stage_in (f y)) → GivesStop k o due → GivesStop k o (due >>= f)
gives_first NoForm o due f stop later g = absurd stop
gives_first (NotRead source) o due f stop later g = then_stage source due f g (λ y. omega (arith, later y))
gives_first (TooMuch source) o due f stop later g = ap (λ d. d >>= f) g
gives_first (Wrong source) o due f stop later g = ap (λ d. d >>= f) g
gives_first Late o due f stop later g = absurd stop
gives_first NotWritten o due f stop later g = absurd stop
gives_first NoRoom o due f stop later g = then_stage 1 due f g (λ y. omega (arith, later y))
gives_first Answer o due f stop later g = absurd stop

-- a step stopped at its source, and what is asked behind it comes no earlier
pub gives_own : {R Y W : Type 0} (number : ℕ) (k : Kind) (o : Outcome R) (due : Result Y (Outcome R)) (f : Y → Result W (Outcome R)) → 1 ≤ number
    → StopsAt number k
    → ((y : Y) → number ≤ stage_in (f y)) → GivesStop k o due → GivesStop k o (due >>= f)
gives_own number NoForm o due f low stop later g = absurd stop
gives_own number (NotRead source) o due f low stop later g = then_stage source due f g
    (λ y. let k : source ≡ number = stop in omega (arith, k, later y))
gives_own number (TooMuch source) o due f low stop later g = ap (λ d. d >>= f) g
gives_own number (Wrong source) o due f low stop later g = ap (λ d. d >>= f) g
gives_own number Late o due f low stop later g = absurd stop
gives_own number NotWritten o due f low stop later g = absurd stop
gives_own number NoRoom o due f low stop later g = then_stage 1 due f g (λ y. omega (arith, low, later y))
gives_own number Answer o due f low stop later g = absurd stop

-- a step stopped behind the texts, or at its own source, and nothing is asked behind it
pub gives_on : {R Y W : Type 0} (k : Kind) (o : Outcome R) (due : Result Y (Outcome R)) (f : Y → W) → IsEarly k → (stage_of k ≤ 3)
    → GivesStop k o due → GivesStop k o (due >>= λ y. Ok (f y))
gives_on NoForm o due f early low g = absurd early
gives_on (NotRead source) o due f early low g = then_stage source due (λ y. Ok (f y)) g (λ y. low)
gives_on (TooMuch source) o due f early low g = ap (λ d. d >>= λ y. Ok (f y)) g
gives_on (Wrong source) o due f early low g = ap (λ d. d >>= λ y. Ok (f y)) g
gives_on Late o due f early low g = ap (λ d. d >>= λ y. Ok (f y)) g
gives_on NotWritten o due f early low g = absurd early
gives_on NoRoom o due f early low g = then_stage 1 due (λ y. Ok (f y)) g (λ y. omega arith)
gives_on Answer o due f early low g = absurd early

-- what is due of a value is no refusal
pub no_refusal : {R X Y : Type 0} (IsOf : X → Y → Type 0) (x : X) (due : Result Y (Outcome R)) (P : Outcome R → Type 0) → Gives IsOf (Ok x) due
    → IfSome (refusal_in due) P
no_refusal IsOf x due P g = subst (λ d. IfSome (refusal_in d) P) (sym g.1) tt

-- ---- what stands for the outcome that is due
same_refusal : {R Y : Type 0} (refusal o : Outcome R) → (let e : Result Y (Outcome R) = Err refusal in e) ≡ Err o → refusal ≡ o
same_refusal refusal o h = cc

-- a step that stopped, where its text is refused
pub stop_stands : {R : Type 0} (Y : Type 0) (k : Kind) (refusal o : Outcome R) → GivesStop {Y = Y} k o (Err refusal) → IsEarly k → MayReplaceAs k refusal o
stop_stands Y NoForm refusal o g early = absurd early
stop_stands Y (NotRead source) refusal o g early = g
stop_stands Y (TooMuch source) refusal o g early = same_refusal refusal o g
stop_stands Y (Wrong source) refusal o g early = same_refusal refusal o g
stop_stands Y Late refusal o g early = same_refusal refusal o g
stop_stands Y NotWritten refusal o g early = absurd early
stop_stands Y NoRoom refusal o g early = g
stop_stands Y Answer refusal o g early = absurd early

pub refused_first : {R Y : Type 0} (o : Outcome R) (due : Result Y (Outcome R)) (before after : Sources) → IsEarly (kind_of o)
    → after.second ≡ before.second → GivesStop (kind_of o) o due → IfSome (refusal_in due) (λ refusal. IsRefused refusal o before after)
refused_first o (Ok y) before after early same g = tt
refused_first {R} {Y} o (Err refusal) before after early same g = record
    { stands = stop_stands Y (kind_of o) refusal o g early; unpulled = same }

-- a source that couldn't be read is the first or the second
abbrev pub IsLowRead : Kind → Type 0
IsLowRead NoForm = Unit {0}
IsLowRead (NotRead source) = source ≤ 2
IsLowRead (TooMuch source) = Unit {0}
IsLowRead (Wrong source) = Unit {0}
IsLowRead Late = Unit {0}
IsLowRead NotWritten = Unit {0}
IsLowRead NoRoom = Unit {0}
IsLowRead Answer = Unit {0}

pub stage_with : {R Y : Type 0} (n : ℕ) (answer : Y → Outcome R) → n ≤ 2 → ((y : Y) → 2 ≤ stage_of (kind_of (answer y))) → (due : Result Y (Outcome R))
    → n ≤ stage_in due → n ≤ stage_of (kind_of (outcome_with answer due))
stage_with n answer low late (Ok y) h = omega (arith, low, late y)
stage_with n answer low late (Err o) h = h

-- a step that stopped, before the answer
pub gives_stands : {R Y : Type 0} (k : Kind) (answer : Y → Outcome R) → ((y : Y) → 2 ≤ stage_of (kind_of (answer y)))
    → (o : Outcome R) (due : Result Y (Outcome R)) → IsEarly k → IsLowRead k → GivesStop k o due → MayReplaceAs k (outcome_with answer due) o
gives_stands NoForm answer late o due early low g = absurd early
gives_stands (NotRead source) answer late o due early low g = stage_with source answer low late due g
gives_stands (TooMuch source) answer late o due early low g = ap (outcome_with answer) g
gives_stands (Wrong source) answer late o due early low g = ap (outcome_with answer) g
gives_stands Late answer late o due early low g = ap (outcome_with answer) g
gives_stands NotWritten answer late o due early low g = absurd early
gives_stands NoRoom answer late o due early low g = stage_with 1 answer (omega arith) late due g
gives_stands Answer answer late o due early low g = absurd early
