-- The heading of a picture: what the verdict on the table comes to, and what is told of the trace, in words. Times are in bit times, and
-- those of a cycle and of a breach in microseconds too.
use Rattle.std.specs.Prelude.{ℕ, Bool, true, false, List, [], ◌++◌, codes, Option, Some, None, is_some, if◌then◌else◌}
use Rattle.std.specs.Fmt.{decimal, signed_decimal}
use Rattle.bus_strings.specs.Messages.{Entry}
use Rattle.bus_strings.specs.Microseconds.{microseconds_unit}
use Rattle.bus_audit.specs.declared.answer.AuditAnswer.{AuditAnswer}
use Rattle.bus_audit.specs.declared.answer.AuditAnswer.TheVariants.{Lawful, Breach}
use Rattle.bus_audit.specs.declared.answer.BreachKind.{BreachKind}
use Rattle.bus_audit.specs.declared.answer.BreachKind.TheVariants.{Stranger, Unheld, Early, Misfit, Missing}
use Rattle.bus_regime.specs.declared.table_verdict.TableVerdict.{TableVerdict}
use Rattle.bus_regime.specs.declared.table_verdict.TableVerdict.TheVariants.{Accept, ShortCycle, SmallGap, NoSync}
use Rattle.bus_table.specs.declared.mode.Mode.{Mode}
use Rattle.bus_table.specs.declared.mode.Mode.TheVariants.{Aperiodic, Periodic}
use Rattle.bus_audit.specs.Lines.{answer_words}
use Rattle.bus_bounds.specs.Bounds.{Bounds}
use Rattle.bus_findings.specs.declared.judgement.Judgement.{Judgement}
use Rattle.bus_findings.specs.Terminals.{fault_sum}
use Rattle.bus_findings.specs.Texts.{within_words}
use Rattle.bus_pen.specs.declared.class.Class.{Class}
use Rattle.bus_pen.specs.declared.class.Class.TheVariants.{Verdict, Refusal}
use Rattle.bus_shapes.specs.Later.{later}
use Rattle.bus_pen.specs.Numbers.{parted, parted_microseconds}
use Rattle.bus_pen.specs.Numbers.{counted, plainly_counted}
pub use Rattle.bus_shapes.specs.declared.told.Told.{Told}
pub use Rattle.bus_shapes.specs.declared.told.Told.TheVariants.{Audit, OnCable, Findings}

-- ---- the verdict
-- An acceptance: the shortest and the longest cycle, which in periodic mode are one.
abbrev pub accept_heading : Mode → ℕ → ℕ → List ℕ
accept_heading Aperiodic least most =
    codes "ACCEPT aperiodic, cycle " ++ parted (decimal least) ++ codes " to " ++ parted (decimal most) ++ codes " bit times ("
    ++ parted_microseconds least
    ++ codes " to " ++ parted_microseconds most ++ microseconds_unit ++ codes ")"
accept_heading Periodic least most =
    codes "ACCEPT periodic, cycle " ++ parted (decimal least) ++ codes " bit times (" ++ parted_microseconds least
    ++ microseconds_unit ++ codes ")"

-- A verdict.
abbrev pub verdict_heading : TableVerdict → List ℕ
verdict_heading (Accept mode least most) = accept_heading mode least most
verdict_heading (ShortCycle least ti) =
    codes "REFUSE: shortest cycle " ++ parted (decimal least) ++ codes " bit times, below TI " ++ parted (decimal ti)
verdict_heading (SmallGap terminal gap needed) =
    codes "REFUSE: gap before terminal " ++ decimal terminal ++ codes " is " ++ signed_decimal gap ++ codes " bit times, below TG "
    ++ parted (decimal needed)
verdict_heading (NoSync terminal gap needed) =
    codes "REFUSE: no gap for SG, gap before terminal " ++ decimal terminal ++ codes " is " ++ parted (decimal gap)
    ++ codes " bit times, below SG + TG " ++ parted (decimal needed)

-- How it looks: a refusal isn't to be taken for an acceptance.
abbrev pub verdict_class : TableVerdict → Class
verdict_class (Accept mode least most) = Verdict
verdict_class (ShortCycle least ti) = Refusal
verdict_class (SmallGap terminal gap needed) = Refusal
verdict_class (NoSync terminal gap needed) = Refusal

-- ---- the audit
-- What a terminal does that doesn't start where it should: its next start is so many bit times later, whether it is the one that is due or
-- another, or there is none any more.
abbrev pub missing_words : Option ℕ → List ℕ
missing_words None = codes " should start and doesn't"
missing_words (Some n) = codes " is due, next start in " ++ counted n (codes "bit time")

-- What a terminal does that breaches at a moment of a list.
abbrev pub breach_words : List Entry → ℕ → ℕ → BreachKind → List ℕ
breach_words list moment terminal Stranger = codes " starts and is no sender"
breach_words list moment terminal Unheld = codes " starts and has no message left"
breach_words list moment terminal Early = codes " starts before its timers allow it"
breach_words list moment terminal Misfit = codes " sends what its lines don't allow"
breach_words list moment terminal Missing = missing_words (later moment terminal list)

-- That nothing is wrong.
abbrev pub lawful_heading : ℕ → List ℕ
lawful_heading collided = codes "LAWFUL, " ++ counted collided (codes "transmission") ++ codes " collided"

-- What an audit found in a list.
abbrev pub answer_heading : List Entry → AuditAnswer → List ℕ
answer_heading list (Lawful collided) = lawful_heading collided
answer_heading list (Breach moment terminal kind) =
    codes "BREACH at " ++ parted (decimal moment) ++ codes " (" ++ parted_microseconds moment ++ microseconds_unit ++ codes "): terminal "
    ++ decimal terminal ++ breach_words list moment terminal kind

-- ---- a cable
-- How many receptions are garbled where terminals hear them.
abbrev pub receptions_words : ℕ → List ℕ
receptions_words garbled = counted garbled (codes "reception") ++ codes " garbled at terminals"

-- That the trace was recorded on a cable, of which an audit knows nothing: `diagnose` does.
abbrev pub cable_heading : ℕ → List ℕ
cable_heading garbled = codes "recorded on a cable, " ++ receptions_words garbled ++ codes ": see diagnose"

-- Behind other words, how many receptions are garbled, where that is known.
abbrev pub known_words : Option ℕ → List ℕ
known_words None = []
known_words (Some garbled) = codes ", " ++ receptions_words garbled

-- ---- what is told of the trace
-- As a recording of a bus within bounds: these, how many faults are found, and what is known of receptions.
abbrev pub findings_heading : Bounds → List Judgement → Option ℕ → List ℕ
findings_heading bounds judgements garbled =
    within_words bounds ++ codes ": " ++ plainly_counted (fault_sum judgements) (codes "fault") ++ known_words garbled

-- What an audit found in a list, or one of these.
abbrev pub told_heading : List Entry → Told → List ℕ
told_heading list (Audit answer) = answer_heading list answer
told_heading list (OnCable garbled) = cable_heading garbled
told_heading list (Findings bounds judgements garbled) = findings_heading bounds judgements.items garbled

-- The same in a title, where an audit's is its line.
abbrev pub told_words : Told → List ℕ
told_words (Audit answer) = answer_words answer
told_words (OnCable garbled) = cable_heading garbled
told_words (Findings bounds judgements garbled) = findings_heading bounds judgements.items garbled

-- Whether it is known what terminals hear of the trace.
abbrev pub is_heard : Told → Bool
is_heard (Audit answer) = false
is_heard (OnCable garbled) = true
is_heard (Findings bounds judgements garbled) = is_some garbled

-- Behind a count of what is garbled: that it is so as it was sent, where it is known what terminals hear of it.
abbrev pub sending_words : Told → List ℕ
sending_words told = if is_heard told then codes " as sent" else []
