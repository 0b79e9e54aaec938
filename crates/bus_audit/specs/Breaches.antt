-- The first breach of a trace: what is wrong at a pair of a moment and a terminal, and which pair is the first at which something is.
--   pair    a moment, and the number of a terminal; pairs go by moment, then by number
--   entry   the transmission that the trace has at a pair, if it has one
--   holds   how many messages a terminal held, as the trace's HOLD lines say; 0 where none names it
use Rattle.std.specs.Prelude.{◌≡◌, ℕ, zero, suc, ◌<◌, unwrap_or, IsTrue, Bool, true, false, ◌&&◌, ◌==◌, nat_lt, List, [], ◌∷◌, length}
use Rattle.std.specs.Prelude.{Option, Some, None, count_by, if◌then◌else◌}
use Rattle.std.specs.List.{find}
use Rattle.std.specs.Option.{option_map, option_or}
use Rattle.bus_timers.specs.MayStartTest.{may_start}
use Rattle.bus_strings.specs.Limits.{most_terminal}
use Rattle.bus_strings.specs.Messages.{Entry}
use Rattle.bus_strings.specs.Transmissions.{marks}
use Rattle.bus_table.specs.Tables.{Sender, Table}
use Rattle.bus_table.specs.Fits.{fits, sender_of}
use Rattle.bus_table.specs.Valid.{is_valid}
use Rattle.bus_trace.specs.declared.hold.Hold.{Hold}
use Rattle.bus_trace.specs.Traces.{Recording, IsTrace}
use Rattle.bus_medium.specs.Past.{past, own, last_place}
use Rattle.bus_medium.specs.Lawful.{IsBefore}
use Rattle.bus_medium.specs.Timings.{quiet_of, timing_of}
use Rattle.bus_audit.specs.declared.answer.BreachKind.{BreachKind}
use Rattle.bus_audit.specs.declared.answer.BreachKind.TheVariants.{Stranger, Unheld, Early, Misfit, Missing}
use Rattle.bus_audit.specs.declared.answer.AuditAnswer.{AuditAnswer}
use Rattle.bus_audit.specs.declared.answer.AuditAnswer.TheVariants.{Lawful, Breach}

-- How many messages terminal n held, as the first hold that names it says.
abbrev pub held : List Hold → ℕ → ℕ
held [] n = 0
held (hold ∷ holds) n = if hold.terminal == n then hold.count else held holds n

-- The entry of terminal n at moment t.
abbrev pub entry_at : List Entry → ℕ → ℕ → Option Entry
entry_at list t n = find (λ x. x.moment == t && x.terminal == n) list

-- Whether the sender has fewer entries before moment t than it holds.
abbrev pub has_left : Recording → Sender → ℕ → Bool
has_left trace sender t = nat_lt (length (own trace.list sender.number t)) (held trace.holds sender.number)

-- Whether the sender's timers allow a start at moment t, after the past that the entries before make.
abbrev pub may : Table → Recording → Sender → ℕ → Bool
may table trace sender t =
    may_start (timing_of table sender) (past (quiet_of table) trace.list t) (last_place (quiet_of table) (own trace.list sender.number t))

-- What is wrong with an entry of a sender that has a message left or not, may start or not, and whose message fits or not.
abbrev pub flaw : Bool → Bool → Bool → Option BreachKind
flaw false allowed fit = Some Unheld
flaw true false fit = Some Early
flaw true true false = Some Misfit
flaw true true true = None

-- What is wrong with the silence of a sender that has a message left or not, and may start or not.
abbrev pub lack : Bool → Bool → Option BreachKind
lack true true = Some Missing
lack true false = None
lack false allowed = None

-- What is wrong at moment t, with an entry or none, of a sender or of a terminal that is none.
abbrev pub pair_kind : Table → Recording → ℕ → Option Entry → Option Sender → Option BreachKind
pair_kind table trace t (Some x) None = Some Stranger
pair_kind table trace t (Some x) (Some sender) = flaw (has_left trace sender t) (may table trace sender t) (fits sender x.message)
pair_kind table trace t None None = None
pair_kind table trace t None (Some sender) = lack (has_left trace sender t) (may table trace sender t)

-- What is wrong at the pair of moment t and terminal n: the first kind that applies, if one does.
abbrev pub kind_at : Table → Recording → ℕ → ℕ → Option BreachKind
kind_at table trace t n = pair_kind table trace t (entry_at trace.list t n) (sender_of table.senders n)

-- Nothing is wrong at any pair before the one of moment t and terminal n.
abbrev pub IsCleanTo : Table → Recording → ℕ → ℕ → Type 0
IsCleanTo table trace t n = (u m : ℕ) → IsBefore u m t n → kind_at table trace u m ≡ None

-- At this pair, the first at which something is wrong, this kind applies.
pub record IsFirstBreach (table : Table) (trace : Recording) (moment terminal : ℕ) (kind : BreachKind) : Type 0 where
  pub below : moment < trace.horizon
  pub here : kind_at table trace moment terminal ≡ Some kind
  pub first : IsCleanTo table trace moment terminal

-- Nothing is wrong at any pair below the horizon.
abbrev pub HasNoBreach : Table → Recording → Type 0
HasNoBreach table trace = IsCleanTo table trace trace.horizon 0

-- How many transmissions are garbled.
abbrev pub garbled_count : List Entry → ℕ
garbled_count list = count_by (λ mark. mark) (marks list)

-- The answer names the first breach; or there is none, and it counts the garbled entries.
abbrev pub IsAnswer : Table → Recording → AuditAnswer → Type 0
IsAnswer table trace (Lawful count) = HasNoBreach table trace × (count ≡ garbled_count trace.list)
IsAnswer table trace (Breach moment terminal kind) = IsFirstBreach table trace moment terminal kind

-- There is one answer at most.
abbrev pub OneAnswer : Type 0
OneAnswer = (table : Table) (trace : Recording) (a b : AuditAnswer) → IsAnswer table trace a → IsAnswer table trace b → a ≡ b

-- ---- the answer, computed: every pair is tried
-- What is wrong at a pair, as an answer.
abbrev pub breach_at : Table → Recording → ℕ → ℕ → Option AuditAnswer
breach_at table trace t n = option_map (Breach t n) (kind_at table trace t n)

-- The first breach at moment t, of the terminals 1 to n.
unfoldable pub first_at : Table → Recording → ℕ → ℕ → Option AuditAnswer
first_at table trace t zero = None
first_at table trace t (suc n) = option_or (first_at table trace t n) (breach_at table trace t (suc n))

-- The first breach before moment t.
unfoldable pub first_before : Table → Recording → ℕ → Option AuditAnswer
first_before table trace zero = None
first_before table trace (suc t) = option_or (first_before table trace t) (first_at table trace t most_terminal)

-- The answer for a trace.
unfoldable pub answer_of : Table → Recording → AuditAnswer
answer_of table trace = unwrap_or (first_before table trace trace.horizon) (Lawful (garbled_count trace.list))

-- It is the answer.
abbrev pub TheAnswer : Type 0
TheAnswer = (table : Table) (trace : Recording) → IsTrue (is_valid table) → IsTrace trace → IsAnswer table trace (answer_of table trace)
