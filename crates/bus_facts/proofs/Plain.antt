-- What is told of a text has no float and nests six deep at most.
use Rattle.std.proofs.Common.{◌≡◌, ℕ, suc, ◌+◌, ◌≤◌, Bool, false, List, [], ◌∷◌, ◌==◌, Some, None, arith, refl}
use Rattle.std.specs.Prelude.{ℤ, pos, negsuc, Option, Result, Ok, Err}
use Rattle.serde_json.specs.Data.{Data, null, boolean, number, string, depth}
use Rattle.serde_json.specs.Find.{of_integer}
use Rattle.serde_json.specs.Written.{has_float}
use Rattle.bus_table.specs.declared.error.TableError.{TableError}
use Rattle.bus_table.specs.declared.error.TableError.TheVariants.{Text, Whole, Memory}
use Rattle.bus_table.specs.declared.error.WholeReason.{WholeReason}
use Rattle.bus_table.specs.declared.error.WholeReason.TheVariants.{NoSender, NumberTwice, GapTwice, GapNotShort, PairTwice, OffsetRange}
use Rattle.bus_table.specs.declared.keyword.Keyword.{Keyword}
use Rattle.bus_table.specs.declared.line.SendLine.{SendLine}
use Rattle.bus_table.specs.declared.mode.Mode.{Mode}
use Rattle.bus_table.specs.declared.mode.Mode.TheVariants.{Aperiodic, Periodic}
use Rattle.bus_table.specs.Reading.{answer_of}
use Rattle.bus_table.specs.Stops.{Stop, spent, stop_of}
use Rattle.bus_table.specs.declared.line.TakeLine.{TakeLine}
use Rattle.bus_table.specs.Tables.{Sender, Listener, Table}
use Rattle.bus_filter.specs.Received.{Taker, sender_taker, listener_taker}
use Rattle.bus_text.specs.declared.reason.Reason.{Reason}
use Rattle.bus_regime.specs.Gaps.{width}
use Rattle.bus_regime.specs.Verdicts.{verdict_of}
use Rattle.bus_regime.specs.declared.table_verdict.TableVerdict.{TableVerdict}
use Rattle.bus_regime.specs.declared.table_verdict.TableVerdict.TheVariants.{Accept, ShortCycle, SmallGap, NoSync}
use Rattle.bus_advice.specs.declared.advice.Advice.{Advice}
use Rattle.bus_advice.specs.declared.advice.Advice.TheVariants.{Interval, Synchronization, Gap, Least, Plan, AsPeriodic, Start}
use Rattle.bus_cable_plan.specs.Answers.{most_borne_of}
use Rattle.bus_reach.specs.declared.limit.Limit.{Limit}
use Rattle.bus_facts.specs.declared.pace.Pace.{Pace}
use Rattle.bus_facts.specs.Values.{count, count_or_null, count_or_any, delayed}
use Rattle.bus_facts.specs.Verdicts as verdicts
use Rattle.bus_facts.specs.Advised.{table_change, advice_value, advices_value}
use Rattle.bus_bounds.specs.Bounds.{Bounds}
use Rattle.bus_facts.specs.Bounds as bounds
use Rattle.bus_facts.specs.Margins as margins
use Rattle.bus_facts.specs.Senders as senders
use Rattle.bus_facts.specs.Starts as starts
use Rattle.bus_facts.specs.Takes as takes
use Rattle.bus_facts.specs.Wrong as wrong
use Rattle.bus_facts.specs.Facts as facts
use Rattle.bus_facts.proofs.Shapes.{IsPlain, EachPlain, done, one, plain_object, no_more, one_more, each_plain, plain_append, plain_flat, plain_unless, plain_list}

-- ---- leaves
no_less : (n : ℕ) → 0 ≤ n
no_less n = omega arith

leaf : (n : ℕ) (d : Data) → has_float d ≡ false → depth d ≡ 0 → IsPlain n d
leaf n d h k = record { whole = h; deep = omega (arith, k) }

plain_null : (n : ℕ) → IsPlain n null
plain_null n = leaf n null refl refl

plain_boolean : (n : ℕ) (b : Bool) → IsPlain n (boolean b)
plain_boolean n b = leaf n (boolean b) refl refl

plain_string : (n : ℕ) (s : List ℕ) → IsPlain n (string s)
plain_string n s = leaf n (string s) refl refl

plain_count : (n k : ℕ) → IsPlain n (count k)
plain_count n k = leaf n (count k) refl refl

plain_integer : (n : ℕ) (z : ℤ) → IsPlain n (number (of_integer z))
plain_integer n (pos k) = leaf n (number (of_integer (pos k))) refl refl
plain_integer n (negsuc k) = leaf n (number (of_integer (negsuc k))) refl refl

plain_or_null : (n : ℕ) (o : Option ℕ) → IsPlain n (count_or_null o)
plain_or_null n None = plain_null n
plain_or_null n (Some k) = plain_count n k

plain_or_any : (n : ℕ) (o : Option ℕ) → IsPlain n (count_or_any o)
plain_or_any n None = plain_string n _
plain_or_any n (Some k) = plain_count n k

-- ---- objects
plain_delayed : (n : ℕ) (o : Option ℕ) (k : ℕ) → IsPlain (suc n) (delayed o k)
plain_delayed n o k = plain_object n _ (one n _ _ _ (plain_or_null n o) (one n _ _ _ (plain_count n k) (done n)))

plain_verdict : (n : ℕ) (verdict : TableVerdict) → IsPlain (suc n) (verdicts.verdict_value verdict)
plain_verdict n (Accept mode least most) =
    plain_object n _ (one n _ _ _ (plain_string n _) (one n _ _ _ (plain_count n least) (one n _ _ _ (plain_count n most) (done n))))
plain_verdict n (ShortCycle least ti) =
    plain_object n _ (one n _ _ _ (plain_string n _) (one n _ _ _ (plain_count n least) (one n _ _ _ (plain_count n ti) (done n))))
plain_verdict n (SmallGap terminal gap needed) =
    plain_object n _ (one n _ _ _ (plain_integer n gap) (one n _ _ _ (plain_string n _) (one n _ _ _ (plain_count n needed)
    (one n _ _ _ (plain_count n terminal) (done n)))))
plain_verdict n (NoSync terminal gap needed) =
    plain_object n _ (one n _ _ _ (plain_integer n (pos gap)) (one n _ _ _ (plain_string n _) (one n _ _ _ (plain_count n needed)
    (one n _ _ _ (plain_count n terminal) (done n)))))

plain_change : (n : ℕ) (word : List ℕ) (to : ℕ) → IsPlain (suc n) (table_change word to)
plain_change n word to = plain_object n _ (one n _ _ _ (plain_string n word) (one n _ _ _ (plain_count n to) (done n)))

plain_advice : (n : ℕ) (advice : Advice) → IsPlain (suc n) (advice_value advice)
plain_advice n (Interval ti) = plain_change n _ ti
plain_advice n (Synchronization sg) = plain_change n _ sg
plain_advice n (Gap terminal tg) =
    plain_object n _ (one n _ _ _ (plain_string n _) (one n _ _ _ (plain_count n terminal) (one n _ _ _ (plain_count n tg) (done n))))
plain_advice n (Least terminal line least) =
    plain_object n _ (one n _ _ _ (plain_string n _) (one n _ _ _ (plain_count n line) (one n _ _ _ (plain_count n terminal)
    (one n _ _ _ (plain_count n least) (done n)))))
plain_advice n (Plan ti) = plain_change n _ ti
plain_advice n (AsPeriodic ti) = plain_change n _ ti
plain_advice n (Start ti) = plain_change n _ ti

plain_advices : (n : ℕ) (advices : List Advice) → IsPlain (suc (suc n)) (advices_value advices)
plain_advices n advices = plain_list (suc n) _ (each_plain (suc n) advice_value advices (λ advice i. plain_advice n advice))

plain_cycle : (n least most : ℕ) → IsPlain (suc n) (bounds.cycle_value least most)
plain_cycle n least most = plain_object n _ (one n _ _ _ (plain_count n least) (one n _ _ _ (plain_count n most) (done n)))

plain_load : (n : ℕ) (table : Table) (most : ℕ) → IsPlain (suc n) (bounds.load_value table most)
plain_load n table most =
    plain_object n _ (one n _ _ _ (plain_count n _) (one n _ _ _ (plain_count n most) (one n _ _ _ (plain_count n _) (done n))))

plain_level : (n : ℕ) (limits : Bounds) (level : List ℕ) → IsPlain (suc n) (margins.level_value limits level)
plain_level n limits level =
    plain_object n _ (one n _ _ _ (plain_count n _) (one n _ _ _ (plain_count n _) (one n _ _ _ (plain_count n _) (one n _ _ _ (plain_string n level)
    (done n)))))

plain_limit : (n : ℕ) (tolerance : Option ℕ) (limit : Limit) → IsPlain (suc n) (bounds.limit_value tolerance limit)
plain_limit n tolerance limit =
    plain_object n _ (one n _ _ _ (plain_or_any n limit.bears) (one n _ _ _ (plain_boolean n _) (one n _ _ _ (plain_string n _)
    (one n _ _ _ (plain_count n _) (done n)))))

plain_best : (n : ℕ) (table : Table) → IsPlain n (bounds.best_value table)
unfolding bounds.best_value
plain_best n table = plain_or_null n (most_borne_of table)

plain_tolerance : (n : ℕ) (table : Table) → IsPlain (suc (suc (suc n))) (bounds.tolerance_value table)
plain_tolerance n table =
    plain_object (suc (suc n)) _ (one _ _ _ _ (plain_best _ table) (one _ _ _ _ (plain_or_any _ _) (one _ _ _ _
    (plain_list (suc n) _ (each_plain (suc n) (bounds.limit_value _) _ (λ limit i. plain_limit n _ limit))) (done _))))

-- ---- senders
plain_latency : (n : ℕ) (table : Table) (pace : Option Pace) (sender : Sender) (place : ℕ) → IsPlain (suc n) (senders.latency_value table pace sender place)
plain_latency n table None sender place = plain_null (suc n)
plain_latency n table (Some pace) sender place = plain_delayed n _ _

plain_wait : (n : ℕ) (table : Table) (pace : Option Pace) → IsPlain (suc n) (senders.wait_value table pace)
plain_wait n table None = plain_null (suc n)
plain_wait n table (Some pace) = plain_delayed n _ _

plain_taken : (n : ℕ) (table : Table) (own : ℕ) (send : SendLine) → IsPlain (suc n) (takes.taken_by_value table own send)
plain_taken n table own send =
    plain_list n _ (plain_append n _ _ (each_plain n _ _ (λ (sender : Sender) i. plain_count n sender.number))
    (each_plain n _ _ (λ (listener : Listener) i. plain_count n listener.number)))

plain_send : (n : ℕ) (latency taken_by : Data) (line : SendLine) → IsPlain n latency → IsPlain n taken_by
    → IsPlain (suc n) (senders.send_value latency taken_by line)
plain_send n latency taken_by line h k =
    plain_object n _ (one n _ _ _ (plain_string n _) (one n _ _ _ (plain_string n _) (one n _ _ _ h (one n _ _ _ (plain_count n line.least)
    (one n _ _ _ (plain_count n line.most) (one n _ _ _ k (done n)))))))

plain_sends : (n : ℕ) (table : Table) (pace : Option Pace) (sender : Sender) (place : ℕ) (lines : List SendLine)
    → EachPlain (suc (suc n)) (senders.send_values table pace sender place lines)
plain_sends n table pace sender place [] = no_more _
plain_sends n table pace sender place (line ∷ lines) =
    one_more _ _ _ (plain_send (suc n) _ _ line (plain_latency n table pace sender place) (plain_taken n table sender.number line)) (plain_sends n table pace sender (suc place) lines)

plain_sender : (n : ℕ) (table : Table) (pace : Option Pace) (at : Option ℕ) (gap : Data) (sender : Sender) → IsPlain (suc (suc (suc n))) gap
    → IsPlain (suc (suc (suc (suc n)))) (senders.sender_value table pace at gap sender)
plain_sender n table pace at gap sender h =
    plain_object (suc (suc (suc n))) _
    (one _ _ _ _ (plain_or_null _ at) (one _ _ _ _ h (one _ _ _ _ (plain_count _ _) (one _ _ _ _ (plain_count _ _)
    (one _ _ _ _ (plain_list (suc (suc n)) _ (plain_sends n table pace sender 0 sender.sends))
    (one _ _ _ _ (plain_count _ _) (one _ _ _ _ (plain_count _ _) (one _ _ _ _ (plain_wait (suc (suc n)) table pace) (done _)))))))))

plain_turns : (n : ℕ) (table : Table) (pace : Option Pace) (before : ℕ) (order : List Sender)
    → EachPlain (suc (suc (suc (suc n)))) (senders.turn_values table pace before order)
plain_turns n table pace before [] = no_more _
plain_turns n table pace before (sender ∷ order) =
    one_more _ _ _ (plain_sender n table pace None (count (before + sender.tg)) sender (plain_count _ _)) (plain_turns n table pace 0 order)

plain_senders_in : (n : ℕ) (mode : Mode) (table : Table) (pace : Option Pace) → EachPlain (suc (suc (suc (suc n)))) (senders.sender_values_in mode table pace)
plain_senders_in n Aperiodic table pace = plain_turns n table pace _ _
plain_senders_in n Periodic table pace = each_plain _ (senders.offset_value table pace) _ (λ gap i. plain_sender n table pace (Some gap.sender.at) (number (of_integer (width gap))) gap.sender (plain_integer _ _))

plain_senders : (table : Table) (pace : Option Pace) → IsPlain 5 (senders.senders_value table pace)
plain_senders table pace = plain_list 4 _ (plain_senders_in 0 table.mode table pace)

plain_start_in : (n : ℕ) (mode : Mode) (table : Table) → IsPlain (suc n) (starts.start_value_in mode table)
plain_start_in n Aperiodic table = plain_object n _ (one n _ _ _ (plain_or_null n _) (one n _ _ _ (plain_boolean n _) (done n)))
plain_start_in n Periodic table = plain_null (suc n)

-- ---- TAKE lines
plain_ext : (n : ℕ) (ext : Option ℕ) → IsPlain n (takes.ext_or_null ext)
plain_ext n (Some ext) = plain_string n _
plain_ext n None = plain_null n

plain_feed : (n other : ℕ) (take : TakeLine) (send : SendLine) → IsPlain (suc n) (takes.feed_value other take send)
plain_feed n other take send =
    plain_object n _ (one n _ _ _ (plain_count n _) (one n _ _ _ (plain_string n _) (one n _ _ _ (plain_string n _) (one n _ _ _ (plain_count n _)
    (one n _ _ _ (plain_count n _) (one n _ _ _ (plain_count n other) (done n)))))))

plain_feeder : (n own : ℕ) (take : TakeLine) (sender : Sender) → EachPlain (suc n) (takes.feeder_values own take sender)
plain_feeder n own take sender =
    plain_unless (suc n) (sender.number == own) _ (each_plain (suc n) (takes.feed_value sender.number take) _ (λ send i. plain_feed n sender.number take send))

plain_take : (n : ℕ) (table : Table) (own : ℕ) (take : TakeLine) → IsPlain (suc (suc (suc n))) (takes.take_value table own take)
plain_take n table own take =
    plain_object (suc (suc n)) _
    (one _ _ _ _ (plain_count _ _) (one _ _ _ _ (plain_ext _ take.ext)
    (one _ _ _ _ (plain_list (suc n) _ (plain_flat (suc n) (takes.feeder_values own take) table.senders (plain_feeder n own take)))
    (one _ _ _ _ (plain_count _ _) (one _ _ _ _ (plain_string _ _) (one _ _ _ _ (plain_count _ own) (done _)))))))

plain_taker : (n : ℕ) (table : Table) (taker : Taker) → EachPlain (suc (suc (suc n))) (takes.taker_values table taker)
plain_taker n table taker = each_plain _ (takes.take_value table taker.number) taker.takes (λ take i. plain_take n table taker.number take)

plain_takes : (table : Table) → IsPlain 5 (takes.takes_value table)
plain_takes table =
    plain_list 4 _ (plain_append 4 _ _
    (plain_flat 4 (λ sender. takes.taker_values table (sender_taker sender)) table.senders (λ sender. plain_taker 1 table (sender_taker sender)))
    (plain_flat 4 (λ listener. takes.taker_values table (listener_taker listener)) table.listeners
    (λ listener. plain_taker 1 table (listener_taker listener))))

-- ---- why there is no table
plain_spent : (n : ℕ) (keyword : Option Keyword) → IsPlain n (wrong.spent_value keyword)
plain_spent n (Some keyword) = plain_string n _
plain_spent n None = plain_null n

plain_text : (n line : ℕ) (reason : Reason) (stop : Stop) → IsPlain (suc (suc n)) (wrong.text_value line reason stop)
plain_text n line reason stop =
    plain_object (suc n) _
    (one _ _ _ _ (plain_list n _ (each_plain n wrong.keyword_value _ (λ keyword i. plain_string n _))) (one _ _ _ _ (plain_string _ _)
    (one _ _ _ _ (plain_count _ line) (one _ _ _ _ (plain_boolean _ _) (one _ _ _ _ (plain_string _ _)
    (one _ _ _ _ (plain_spent _ (spent stop)) (done _)))))))

plain_terminal : (n : ℕ) (reason : List ℕ) (terminal : ℕ) → IsPlain (suc n) (wrong.terminal_value reason terminal)
plain_terminal n reason terminal =
    plain_object n _ (one n _ _ _ (plain_string n _) (one n _ _ _ (plain_string n reason) (one n _ _ _ (plain_count n terminal) (done n))))

plain_whole : (n : ℕ) (reason : WholeReason) → IsPlain (suc n) (wrong.whole_value reason)
plain_whole n NoSender = plain_object n _ (one n _ _ _ (plain_string n _) (one n _ _ _ (plain_string n _) (done n)))
plain_whole n (NumberTwice terminal) = plain_terminal n _ terminal
plain_whole n (GapTwice terminal) = plain_terminal n _ terminal
plain_whole n (GapNotShort terminal) = plain_terminal n _ terminal
plain_whole n (PairTwice label ext) =
    plain_object n _ (one n _ _ _ (plain_string n _) (one n _ _ _ (plain_string n _) (one n _ _ _ (plain_string n _)
    (one n _ _ _ (plain_string n _) (done n)))))
plain_whole n (OffsetRange terminal) = plain_terminal n _ terminal

-- ---- facts
-- the figures of a table
record PlainFigures (figures : facts.Figures) : Type 0 where
  cycle : IsPlain 5 figures.cycle
  load : IsPlain 5 figures.load
  margins : IsPlain 5 figures.margins
  spare : IsPlain 5 figures.spare
  tolerance : IsPlain 5 figures.tolerance
  senders : IsPlain 5 figures.senders
  takes : IsPlain 5 figures.takes

plain_refused : (table : Table) → PlainFigures (facts.refused_figures table)
plain_refused table = record {
  cycle = plain_null 5;
  load = plain_null 5;
  margins = plain_null 5;
  spare = plain_null 5;
  tolerance = plain_null 5;
  senders = plain_senders table None;
  takes = plain_takes table;
}

plain_figures : (verdict : TableVerdict) (table : Table) → PlainFigures (facts.figures_of verdict table)
plain_figures (Accept mode least most) table = record {
  cycle = plain_cycle 4 least most;
  load = plain_load 4 table most;
  margins = plain_level 4 _ _;
  spare = plain_count 5 _;
  tolerance = plain_tolerance 2 table;
  senders = plain_senders table _;
  takes = plain_takes table;
}
plain_figures (ShortCycle least ti) table = plain_refused table
plain_figures (SmallGap terminal gap needed) table = plain_refused table
plain_figures (NoSync terminal gap needed) table = plain_refused table

plain_told : (figures : facts.Figures) (table : Table) → PlainFigures figures → IsPlain 6 (facts.told_of figures table)
plain_told figures table h =
    plain_object 5 _
    (one _ _ _ _ (plain_boolean _ _) (one _ _ _ _ (plain_advices 3 _) (one _ _ _ _ h.cycle (one _ _ _ _ (plain_null _) (one _ _ _ _ h.load
    (one _ _ _ _ h.margins (one _ _ _ _ (plain_string _ _) (one _ _ _ _ h.senders (one _ _ _ _ (plain_count _ _) (one _ _ _ _ h.spare
    (one _ _ _ _ (plain_start_in 4 table.mode table) (one _ _ _ _ h.takes (one _ _ _ _ (plain_count _ _) (one _ _ _ _ h.tolerance
    (one _ _ _ _ (plain_verdict 4 _) (done 5))))))))))))))))

plain_error : (error : Data) → IsPlain 5 error → IsPlain 6 (facts.error_value error)
plain_error error h =
    plain_object 5 _
    (one _ _ _ _ (plain_boolean _ _) (one _ _ _ _ (plain_list 4 _ (no_more 4)) (one _ _ _ _ (plain_null _) (one _ _ _ _ h (one _ _ _ _ (plain_null _) (one _ _ _ _ (plain_null _)
    (one _ _ _ _ (plain_null _) (one _ _ _ _ (plain_list 4 _ (no_more 4)) (one _ _ _ _ (plain_null _) (one _ _ _ _ (plain_null _)
    (one _ _ _ _ (plain_null _) (one _ _ _ _ (plain_list 4 _ (no_more 4)) (one _ _ _ _ (plain_null _) (one _ _ _ _ (plain_null _)
    (one _ _ _ _ (plain_null _) (done 5))))))))))))))))

pub plain_table : (table : Table) → IsPlain 6 (facts.table_value table)
plain_table table = plain_told (facts.figures_of (verdict_of table) table) table (plain_figures (verdict_of table) table)

plain_answer : (answer : Result Table TableError) (text : List ℕ) → IsPlain 6 (facts.answer_value answer text)
plain_answer (Ok table) text = plain_table table
plain_answer (Err (Text line reason)) text = plain_error (wrong.text_value line reason (stop_of text)) (plain_text 3 line reason (stop_of text))
plain_answer (Err (Whole reason)) text = plain_error (wrong.whole_value reason) (plain_whole 4 reason)
plain_answer (Err Memory) text = plain_null 6

pub plain_facts : (text : List ℕ) → IsPlain 6 (facts.facts_value text)
plain_facts text = plain_answer (answer_of text) text
