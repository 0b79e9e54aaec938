-- The lines of all transmissions of a spaced trace, and the end behind them.
use Rattle.std.proofs.Common.{arith, ◌≡◌, ℕ, zero, suc, ◌+◌, ◌-◌, ◌*◌, ◌<◌, ◌≤◌, Bool, true, false, cond, ◌==◌, List, [], ◌∷◌, ◌++◌}
use Rattle.std.proofs.Common.{length, Some, Result, Ok, Err, refl, sym, ap, subst, ◌∙◌, append_assoc, append-nil}
use Rattle.std.specs.Prelude.{nat_lt, nat_le, IsTrue}
use Rattle.std.specs.List.{AllByRecursion}
use Rattle.std.proofs.lemmas.Bool.Decides.{nat_tests}
use Rattle.bus_strings.specs.Limits.{horizon_limit}
use Rattle.bus_strings.specs.Messages.{Wordstring, Message, Entry, IsMessage}
use Rattle.bus_strings.specs.Transmissions.{end_of}
use Rattle.bus_table.specs.declared.line.SendLine.{SendLine}
use Rattle.bus_table.specs.Fits.{allows, matches}
use Rattle.bus_table.specs.Tables.{Sender, Table}
use Rattle.bus_table.specs.Valid.{is_valid}
use Rattle.bus_wave.specs.declared.fault.WaveReason.{WaveReason}
use Rattle.bus_wave.specs.declared.fault.WaveReason.TheVariants.{Order}
use Rattle.bus_wave.specs.declared.symbol.Symbol.TheVariants as symbol
use Rattle.bus_wave.specs.Judging.{Phase, Opened, Silent, Saying, Closed, State, opening, string_of, with_string, quiet_behind, end_behind, beginner, step}
use Rattle.bus_wave.specs.Spacing.{least_gap, IsOfSender, AreApart}
use Rattle.bus_wave.specs.WaveTexts.{WaveLine, Quiet, quiet_lines, message_lines, last_end, laid, lines_up_to}
use Rattle.bus_wave.proofs.StateLemmas.{quiet_some}
use Rattle.bus_wave.proofs.SenderLemmas.{matched}
use Rattle.bus_wave.proofs.StepLemmas.{step_ok}
use Rattle.bus_wave.proofs.LeadLemmas.{Leads, lead_append, Reaches, message_reaches, IsReady, is_label}
use Rattle.bus_wave.proofs.BeginLemmas.{beginner_is, of_number}

-- ---- one transmission
entry_reaches : (table : Table) → IsTrue (is_valid table) → (list : List Entry) (phase : Phase) (x : Entry) → IsReady phase → IsOfSender table x
    → IsMessage x.message → end_of x ≤ horizon_limit
    → Reaches table.senders (record { at = x.moment; list = list; phase = phase }) (message_lines x.message) (end_of x) list x
entry_reaches table valid list phase x ready of right low =
    let sender : Sender = of.sender in
    let w = of_number table.senders x.terminal sender of.found in
    let first = λ (string : Wordstring) (strings : List Wordstring) (e : x.message ≡ string ∷ strings). by_sends sender.sends refl string strings
    (ap (matches allows sender.sends) (sym e) ∙ of.fits) (subst (λ (m : Message). IsMessage m) e right) in
    let all = message_reaches table.senders x.moment list phase sender x.message ready right of.fits first low in
    subst (λ (n : ℕ). Reaches table.senders (record { at = x.moment; list = list; phase = phase }) (message_lines x.message) (end_of x) list
    (record { moment = x.moment; terminal = n; message = x.message })) w.1 all
  where
    by_sends : (sends : List SendLine) → of.sender.sends ≡ sends → (string : Wordstring) (strings : List Wordstring)
        → matches allows of.sender.sends (string ∷ strings) ≡ true → IsMessage (string ∷ strings)
        → beginner table.senders (16 * string.label + string.ext) ≡ Some of.sender
    by_sends [] e string strings fit m = absurd (let k = ap (λ ls. matches allows ls (string ∷ strings)) (sym e) ∙ fit in cc)
    by_sends (line ∷ left) e string strings fit m =
        let f = matched line left string strings (ap (λ ls. matches allows ls (string ∷ strings)) (sym e) ∙ fit) in
        let ext : string.ext < 16 = m.strings.0.ext in
        beginner_is table valid of.sender line left (16 * string.label + string.ext) (of_number table.senders x.terminal of.sender of.found).0 e
        (is_label line string f.label f.ext ext)

-- ---- all of them
-- within the last wordstring of the last of these transmissions
record Says (senders : List Sender) (s : State) (lines : List WaveLine) (at : ℕ) (list : List Entry) : Type 0 where
  before : List Entry
  x : Entry
  line : SendLine
  words : List ℕ
  least : line.least ≤ length words
  all : before ++ with_string x (string_of line words) ∷ [] ≡ list
  leads : Leads senders s lines (record { at = at; list = before; phase = Saying x line words [] })

from_reaches : (senders : List Sender) (s : State) (lines : List WaveLine) (at : ℕ) (list : List Entry) (y : Entry)
    → Reaches senders s lines at list y → Says senders s lines at (list ++ y ∷ [])
from_reaches senders s lines at list y r =
    record { before = list; x = r.x; line = r.line; words = r.words; least = r.least; all = ap (λ e. list ++ e ∷ []) r.entry; leads = r.leads }

onto_says : (senders : List Sender) (s m : State) (ls ms : List WaveLine) (at : ℕ) (list : List Entry) → Leads senders s ls m
    → Says senders m ms at list → Says senders s (ls ++ ms) at list
onto_says senders s m ls ms at list a r =
    record { before = r.before; x = r.x; line = r.line; words = r.words; least = r.least; all = r.all; leads = lead_append senders s m _ ls ms a r.leads }

-- a Q line behind a whole message
quiet_lead : (senders : List Sender) (at n : ℕ) (list before : List Entry) (x : Entry) (line : SendLine) (words : List ℕ) → 1 ≤ n
    → line.least ≤ length words → before ++ with_string x (string_of line words) ∷ [] ≡ list → at + n ≤ horizon_limit
    → step senders (record { at = at; list = before; phase = Saying x line words [] }) (symbol.Quiet n)
    ≡ Ok (record { at = at + n; list = list; phase = Silent (nat_le least_gap n) })
quiet_lead senders at n list before x line words some least all low =
    let old : State = record { at = at; list = before; phase = Saying x line words [] } in
    let test : nat_lt (length words) line.least ≡ false = grind (arith, nat_tests) in
    let nothing : (n == 0) ≡ false = grind (arith, nat_tests) in
    let keeps = ap (λ b. cond b (Err Order) (quiet_behind old n (with_string x (string_of line words)) [])) test
    ∙ ap (λ l. (let r : Result State WaveReason = Ok (record { at = at + n; list = l; phase = Silent (nat_le least_gap n) }) in r)) all in
    step_ok senders old (symbol.Quiet n) (record { at = at + n; list = list; phase = Silent (nat_le least_gap n) }) (record { some = nothing; keeps = keeps; low = omega arith })

list_says : (table : Table) → IsTrue (is_valid table) → (horizon at : ℕ) (list xs : List Entry) (s : State) (lines : List WaveLine)
    → horizon ≤ horizon_limit → AreApart (at + least_gap) horizon xs → AllByRecursion (IsOfSender table) xs
    → AllByRecursion (λ x. IsMessage x.message) xs → Says table.senders s lines at list
    → Says table.senders s (lines ++ laid at xs) (last_end at xs) (list ++ xs)
list_says table valid horizon at list [] s lines low apart of right h =
    subst (λ (ls : List WaveLine). Says table.senders s ls at (list ++ [])) (sym (append-nil lines))
    (subst (λ (l : List Entry). Says table.senders s lines at l) (sym (append-nil list)) h)
list_says table valid horizon at list (z ∷ zs) s lines low apart of right h =
    let n : ℕ = z.moment - at in
    let far : at + least_gap ≤ z.moment = apart.0 in
    let ends : end_of z ≤ horizon = apart.1 in
    let some : 1 ≤ n = omega arith in
    let place : at + n ≡ z.moment = omega arith in
    let free : nat_le least_gap n ≡ true = grind (arith, nat_tests) in
    let said : State = record { at = at; list = h.before; phase = Saying h.x h.line h.words [] } in
    let now = quiet_lead table.senders at n list h.before h.x h.line h.words some h.least h.all (omega arith) in
    let silent : State = record { at = z.moment; list = list; phase = Silent true } in
    let same = ap (λ k. (let r : Result State WaveReason = Ok (record { at = k; list = list; phase = Silent (nat_le least_gap n) }) in r)) place
    ∙ ap (λ b. (let r : Result State WaveReason = Ok (record { at = z.moment; list = list; phase = Silent b }) in r)) free in
    let gap : Leads table.senders said (quiet_lines n) silent = subst (λ (ls : List WaveLine). Leads table.senders said ls silent) (sym (quiet_some n some)) (silent, now ∙ same, refl) in
    let spoken = from_reaches table.senders silent (message_lines z.message) (end_of z) list z
    (entry_reaches table valid list (Silent true) z (λ senders s value. refl) of.0 right.0 (omega arith)) in
    let one = onto_says table.senders s said lines (quiet_lines n ++ message_lines z.message) (end_of z) (list ++ z ∷ []) h.leads
    (onto_says table.senders said silent (quiet_lines n) (message_lines z.message) (end_of z) (list ++ z ∷ []) gap spoken) in
    let rest = list_says table valid horizon (end_of z) (list ++ z ∷ []) zs s (lines ++ (quiet_lines n ++ message_lines z.message)) low apart.2 of.1 right.1 one in
    subst (λ (ls : List WaveLine). Says table.senders s ls (last_end (end_of z) zs) (list ++ z ∷ zs)) (append_assoc lines (quiet_lines n ++ message_lines z.message) (laid (end_of z) zs))
    (subst (λ (l : List Entry). Says table.senders s ((lines ++ (quiet_lines n ++ message_lines z.message)) ++ laid (end_of z) zs) (last_end (end_of z) zs) l) (append_assoc list (z ∷ []) zs) rest)

-- ---- from the first line to the end
-- these lines lead to a state behind which END may stand, which then has this moment and this list
pub record LeadToEnd (senders : List Sender) (lines : List WaveLine) (horizon : ℕ) (list : List Entry) : Type 0 where
  pub last : State
  pub leads : Leads senders opening lines last
  pub ends : step senders last symbol.End ≡ Ok (record { at = horizon; list = list; phase = Closed })

first_quiet : (senders : List Sender) (n : ℕ) → 1 ≤ n → n ≤ horizon_limit
    → step senders opening (symbol.Quiet n) ≡ Ok (record { at = n; list = []; phase = Silent true })
first_quiet senders n some low =
    let nothing : (n == 0) ≡ false = grind (arith, nat_tests) in
    let place : 0 + n ≡ n = omega arith in
    step_ok senders opening (symbol.Quiet n) (record { at = n; list = []; phase = Silent true })
    (record { some = nothing; keeps = ap (λ k. (let r : Result State WaveReason = Ok (record { at = k; list = []; phase = Silent true }) in r)) place; low = omega arith })

-- the first transmission
first_says : (table : Table) → IsTrue (is_valid table) → (x : Entry) → IsOfSender table x → IsMessage x.message → end_of x ≤ horizon_limit
    → Says table.senders opening (quiet_lines (x.moment - 0) ++ message_lines x.message) (end_of x) (x ∷ [])
first_says table valid x of right low = by_moment x.moment refl where
  by_moment : (m : ℕ) → x.moment ≡ m → Says table.senders opening (quiet_lines (x.moment - 0) ++ message_lines x.message) (end_of x) (x ∷ [])
  by_moment zero e =
      let none : x.moment - 0 ≡ 0 = omega (arith, e) in
      let spoken = from_reaches table.senders (record { at = x.moment; list = []; phase = Opened }) (message_lines x.message) (end_of x) [] x
      (entry_reaches table valid [] Opened x (λ senders s value. refl) of right low) in
      subst (λ (n : ℕ). Says table.senders opening (quiet_lines n ++ message_lines x.message) (end_of x) (x ∷ [])) (sym none)
      (subst (λ (k : ℕ). Says table.senders (record { at = k; list = []; phase = Opened }) (message_lines x.message) (end_of x) (x ∷ [])) e spoken)
  by_moment (suc m) e =
      let count : x.moment - 0 ≡ x.moment = omega arith in
      let some : 1 ≤ x.moment = omega (arith, e) in
      let silent : State = record { at = x.moment; list = []; phase = Silent true } in
      let gap : Leads table.senders opening (quiet_lines x.moment) silent =
      subst (λ (ls : List WaveLine). Leads table.senders opening ls silent) (sym (quiet_some x.moment some)) (silent, first_quiet table.senders x.moment some (omega arith), refl) in
      let spoken = from_reaches table.senders silent (message_lines x.message) (end_of x) [] x
      (entry_reaches table valid [] (Silent true) x (λ senders s value. refl) of right low) in
      subst (λ (n : ℕ). Says table.senders opening (quiet_lines n ++ message_lines x.message) (end_of x) (x ∷ [])) (sym count)
      (onto_says table.senders opening silent (quiet_lines x.moment) (message_lines x.message) (end_of x) (x ∷ []) gap spoken)

silent_ends : (senders : List Sender) (at : ℕ) (list : List Entry) (free : Bool) → at ≤ horizon_limit
    → step senders (record { at = at; list = list; phase = Silent free }) symbol.End ≡ Ok (record { at = at; list = list; phase = Closed })
silent_ends senders at list free low =
    step_ok senders (record { at = at; list = list; phase = Silent free }) symbol.End (record { at = at; list = list; phase = Closed })
    (record { some = refl; keeps = refl; low = omega arith })

said_ends : (senders : List Sender) (horizon : ℕ) (list : List Entry) (lines : List WaveLine) (at : ℕ) → Says senders opening lines at list → at ≤ horizon
    → horizon ≤ horizon_limit → LeadToEnd senders (lines ++ quiet_lines (horizon - at)) horizon list
said_ends senders horizon list lines at h early low = by_rest (horizon - at) refl where
  test : nat_lt (length h.words) h.line.least ≡ false
  test = (let k = h.least in grind (arith, nat_tests))

  by_rest : (n : ℕ) → horizon - at ≡ n → LeadToEnd senders (lines ++ quiet_lines n) horizon list
  by_rest zero e =
      let said : State = record { at = at; list = h.before; phase = Saying h.x h.line h.words [] } in
      let done : State = record { at = horizon; list = list; phase = Closed } in
      let same : at ≡ horizon = omega (arith, e) in
      let keeps = ap (λ b. cond b (Err Order) (end_behind said (with_string h.x (string_of h.line h.words)) [])) test
      ∙ ap (λ l. (let r : Result State WaveReason = Ok (record { at = at; list = l; phase = Closed }) in r)) h.all
      ∙ ap (λ k. (let r : Result State WaveReason = Ok (record { at = k; list = list; phase = Closed }) in r)) same in
      subst (λ (ls : List WaveLine). LeadToEnd senders ls horizon list) (sym (append-nil lines))
      (record { last = said; leads = h.leads; ends = step_ok senders said symbol.End done (record { some = refl; keeps = keeps; low = omega arith }) })
  by_rest (suc n) e =
      let said : State = record { at = at; list = h.before; phase = Saying h.x h.line h.words [] } in
      let silent : State = record { at = horizon; list = list; phase = Silent (nat_le least_gap (suc n)) } in
      let place : at + suc n ≡ horizon = omega (arith, e) in
      let now = quiet_lead senders at (suc n) list h.before h.x h.line h.words (omega arith) h.least h.all (omega arith) in
      let there = now ∙ ap (λ k. (let r : Result State WaveReason = Ok (record { at = k; list = list; phase = Silent (nat_le least_gap (suc n)) }) in r)) place in
      let last : Leads senders said (Quiet (suc n) ∷ []) silent = (silent, there, refl) in
      record {
        last = silent;
        leads = lead_append senders opening said silent lines (Quiet (suc n) ∷ []) h.leads last;
        ends = silent_ends senders horizon list (nat_le least_gap (suc n)) low;
      }

none_ends : (senders : List Sender) (horizon : ℕ) → horizon ≤ horizon_limit → LeadToEnd senders (quiet_lines (horizon - 0)) horizon []
none_ends senders zero low = record {
  last = opening;
  leads = refl;
  ends = step_ok senders opening symbol.End (record { at = 0; list = []; phase = Closed }) (record { some = refl; keeps = refl; low = omega arith });
}
none_ends senders (suc n) low =
    let count : suc n - 0 ≡ suc n = omega arith in
    let silent : State = record { at = suc n; list = []; phase = Silent true } in
    let now : Leads senders opening (Quiet (suc n) ∷ []) silent = (silent, first_quiet senders (suc n) (omega arith) low, refl) in
    subst (λ (k : ℕ). LeadToEnd senders (quiet_lines k) (suc n) []) (sym count)
    (record { last = silent; leads = now; ends = silent_ends senders (suc n) [] true low })

ends_by : (from start horizon : ℕ) (list : List Entry) → from ≤ horizon → AreApart start horizon list → last_end from list ≤ horizon
ends_by from start horizon [] low a = low
ends_by from start horizon (x ∷ xs) low a = ends_by (end_of x) (end_of x + least_gap) horizon xs a.1 a.2

-- the lines of a spaced list up to a horizon lead to the end
pub all_lead : (table : Table) → IsTrue (is_valid table) → (horizon : ℕ) (list : List Entry) → horizon ≤ horizon_limit → AreApart 0 horizon list
    → AllByRecursion (IsOfSender table) list → AllByRecursion (λ x. IsMessage x.message) list
    → LeadToEnd table.senders (lines_up_to horizon list) horizon list
all_lead table valid horizon [] low apart of right = none_ends table.senders horizon low
all_lead table valid horizon (x ∷ xs) low apart of right =
    let ends : end_of x ≤ horizon = apart.1 in
    let first = first_says table valid x of.0 right.0 (omega arith) in
    let rest = list_says table valid horizon (end_of x) (x ∷ []) xs opening (quiet_lines (x.moment - 0) ++ message_lines x.message) low apart.2 of.1 right.1 first in
    said_ends table.senders horizon (x ∷ xs) (laid 0 (x ∷ xs)) (last_end (end_of x) xs) rest (ends_by (end_of x) (end_of x + least_gap) horizon xs ends apart.2) low
