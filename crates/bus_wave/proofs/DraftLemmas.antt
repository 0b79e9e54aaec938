-- What a symbol more gives, by the phase of a draft.
use Rattle.std.proofs.Common.{arith, ◌≡◌, ◌≢◌, ◌^◌, min, inl, inr, ℕ, ◌+◌, ◌-◌, ◌*◌, ◌<◌, ◌≤◌, Bool, true, false, cond, ◌==◌, List, [], ◌∷◌, ◌++◌, length}
use Rattle.std.proofs.Common.{Result, Ok, Err, refl, sym, ap, subst, ◌∙◌, length-append}
use Rattle.std.specs.Prelude.{nat_lt, nat_le}
use Rattle.std.proofs.lemmas.Bool.{cases_lt}
use Rattle.std.proofs.lemmas.Bool.Decides.{nat_tests}
use Rattle.bus_text.specs.AllOf.{◌>>=◌}
use Rattle.bus_words.specs.declared.word.Kind.TheVariants.{Plain}
use Rattle.bus_strings.specs.Limits.{horizon_limit, word_bits, inner_gap}
use Rattle.bus_strings.specs.Messages.{Entry}
use Rattle.bus_table.specs.declared.line.SendLine.{SendLine}
use Rattle.bus_table.specs.Tables.{Sender}
use Rattle.bus_wave.specs.declared.draft.Draft.{Draft}
use Rattle.bus_wave.specs.declared.fault.WaveReason.{WaveReason}
use Rattle.bus_wave.specs.declared.fault.WaveReason.TheVariants.{Range, Order}
use Rattle.bus_wave.specs.declared.phase.Phase.{Phase}
use Rattle.bus_wave.specs.declared.symbol.Symbol.{Symbol}
use Rattle.bus_wave.specs.declared.symbol.Symbol.TheVariants as symbol
use Rattle.bus_wave.specs.inside.Drafts.{begun_of, phase_of, state_of, PhaseKeeps, Keeps}
use Rattle.bus_wave.specs.inside.Capped.{cap}
use Rattle.bus_wave.specs.Spacing.{least_gap}
use Rattle.bus_wave.specs.Judging as judging
use Rattle.bus_wave.specs.Judging.{quiet_step, Opened, Silent, Saying, Waiting, Closed, State, string_of, with_string, later, least_rest, bounded, quiet_behind}
use Rattle.bus_wave.specs.Judging.{step}

-- the state of a draft, by its phase
abbrev pub state_in : Draft → Phase → State
state_in d p = record { at = d.at; list = d.list.items; phase = phase_of p (begun_of d) d.words.items }

pub stepped : (senders : List Sender) (d : Draft) (p : Phase) (y : Symbol) → d.phase ≡ p → step senders (state_of d) y ≡ step senders (state_in d p) y
stepped senders d p y e = ap (λ q. step senders (state_in d q) y) e

-- what a draft keeps, by its phase
pub kept : (d : Draft) (p : Phase) → Keeps d → d.phase ≡ p
    → PhaseKeeps p (begun_of d) d.words.items × (d.at + least_rest (phase_of p (begun_of d) d.words.items) ≤ horizon_limit)
kept d p h e =
    (subst (λ q. PhaseKeeps q (begun_of d) d.words.items) e h.phase, subst (λ q. d.at + least_rest (phase_of q (begun_of d) d.words.items) ≤ horizon_limit) e h.low)

-- a state past the greatest horizon, and one within it
pub past : (s : State) → horizon_limit < s.at + least_rest s.phase → bounded s ≡ Err Range
past s h = let e : nat_le (s.at + least_rest s.phase) horizon_limit ≡ false = grind (arith, nat_tests) in ap (λ b. cond b (Ok s) (Err Range)) e

pub within : (s : State) → s.at + least_rest s.phase ≤ horizon_limit → bounded s ≡ Ok s
within s h = let e : nat_le (s.at + least_rest s.phase) horizon_limit ≡ true = grind (arith, nat_tests) in ap (λ b. cond b (Ok s) (Err Range)) e

-- ---- a data word
pub data_full : (senders : List Sender) (at : ℕ) (list : List Entry) (x : Entry) (line : SendLine) (words : List ℕ) (left : List SendLine) (value : ℕ)
    → line.most ≤ length words
    → step senders (record { at = at; list = list; phase = Saying x line words left }) (symbol.Sent (record { kind = Plain; value = value })) ≡ Err Order
unfolding step
data_full senders at list x line words left value h =
    let e : nat_lt (length words) line.most ≡ false = grind (arith, nat_tests) in
    ap (λ b. cond b (let r : Result State WaveReason = Ok (record { at = at + word_bits; list = list; phase = Saying x line (words ++ value ∷ []) left }) in r) (Err Order) >>= bounded) e

data_bounded : (senders : List Sender) (at : ℕ) (list : List Entry) (x : Entry) (line : SendLine) (words : List ℕ) (left : List SendLine) (value : ℕ)
    → length words < line.most
    → step senders (record { at = at; list = list; phase = Saying x line words left }) (symbol.Sent (record { kind = Plain; value = value }))
    ≡ bounded (record { at = at + word_bits; list = list; phase = Saying x line (words ++ value ∷ []) left })
unfolding step
data_bounded senders at list x line words left value h =
    let e : nat_lt (length words) line.most ≡ true = grind (arith, nat_tests) in
    ap (λ b. cond b (let r : Result State WaveReason = Ok (record { at = at + word_bits; list = list; phase = Saying x line (words ++ value ∷ []) left }) in r) (Err Order) >>= bounded) e

pub data_past : (senders : List Sender) (at : ℕ) (list : List Entry) (x : Entry) (line : SendLine) (words : List ℕ) (left : List SendLine) (value : ℕ)
    → length words < line.most → horizon_limit < at + word_bits + (word_bits * (line.least - (length words + 1)) + later left)
    → step senders (record { at = at; list = list; phase = Saying x line words left }) (symbol.Sent (record { kind = Plain; value = value })) ≡ Err Range
data_past senders at list x line words left value h far =
    data_bounded senders at list x line words left value h
    ∙ past (record { at = at + word_bits; list = list; phase = Saying x line (words ++ value ∷ []) left }) (omega (arith, length-append words (value ∷ [])))

pub data_taken : (senders : List Sender) (at : ℕ) (list : List Entry) (x : Entry) (line : SendLine) (words : List ℕ) (left : List SendLine) (value : ℕ)
    → length words < line.most → at + word_bits + (word_bits * (line.least - (length words + 1)) + later left) ≤ horizon_limit
    → step senders (record { at = at; list = list; phase = Saying x line words left }) (symbol.Sent (record { kind = Plain; value = value }))
    ≡ Ok (record { at = at + word_bits; list = list; phase = Saying x line (words ++ value ∷ []) left })
data_taken senders at list x line words left value h near =
    data_bounded senders at list x line words left value h
    ∙ within (record { at = at + word_bits; list = list; phase = Saying x line (words ++ value ∷ []) left }) (omega (arith, length-append words (value ∷ [])))

-- ---- a Q line
pub quiet_none : (senders : List Sender) (s : State) (n : ℕ) → n ≡ 0 → step senders s (symbol.Quiet n) ≡ Err Range
unfolding step
quiet_none senders s n h =
    let e : (n == 0) ≡ true = grind (arith, nat_tests) in
    ap (λ b. cond b (Err Range) (quiet_step s.phase s n >>= bounded)) e

pub quiet_on : (senders : List Sender) (s : State) (n : ℕ) → n ≢ 0 → step senders s (symbol.Quiet n) ≡ (quiet_step s.phase s n >>= bounded)
unfolding step
quiet_on senders s n h =
    let e : (n == 0) ≡ false = grind (arith, nat_tests, h) in
    ap (λ b. cond b (Err Range) (quiet_step s.phase s n >>= bounded)) e

-- a number past the last value of a u64 is as good as that value
far_quiet : (at : ℕ) (list : List Entry) (phase : judging.Phase) (n : ℕ) → at ≤ horizon_limit → 2 ^ 64 - 1 < n
    → (quiet_step phase (record { at = at; list = list; phase = phase }) n >>= bounded)
    ≡ (quiet_step phase (record { at = at; list = list; phase = phase }) (2 ^ 64 - 1) >>= bounded)
far_quiet at list Opened n low far =
    past (record { at = at + n; list = list; phase = Silent true }) (omega arith)
    ∙ sym (past (record { at = at + (2 ^ 64 - 1); list = list; phase = Silent true }) (omega arith))
far_quiet at list (Silent free) n low far = refl
far_quiet at list (Waiting x next left) n low far = refl
far_quiet at list Closed n low far = refl
far_quiet at list (Saying x line words left) n low far =
    by_test (nat_lt (length words) line.least) left
  where
    by_test : (b : Bool) (ls : List SendLine)
        → (cond b (Err Order) (quiet_behind (record { at = at; list = list; phase = Saying x line words left }) n (with_string x (string_of line words)) ls) >>= bounded)
        ≡ (cond b (Err Order) (quiet_behind (record { at = at; list = list; phase = Saying x line words left }) (2 ^ 64 - 1) (with_string x (string_of line words)) ls) >>= bounded)
    by_test true ls = refl
    by_test false [] =
        past (record { at = at + n; list = list ++ with_string x (string_of line words) ∷ []; phase = Silent (nat_le least_gap n) }) (omega arith)
        ∙ sym (past (record { at = at + (2 ^ 64 - 1); list = list ++ with_string x (string_of line words) ∷ []; phase = Silent (nat_le least_gap (2 ^ 64 - 1)) }) (omega arith))
    by_test false (next ∷ ls) =
        let e : (n == inner_gap) ≡ false = grind (arith, nat_tests) in
        ap (λ b. cond b (let r : Result State WaveReason = Ok (record { at = at + n; list = list; phase = Waiting (with_string x (string_of line words)) next ls }) in r) (Err Order) >>= bounded) e

pub cap_step : (senders : List Sender) (s : State) (y : Symbol) → s.at ≤ horizon_limit → step senders s (cap y) ≡ step senders s y
cap_step senders s (symbol.Sent word) low = refl
cap_step senders s symbol.End low = refl
cap_step senders s (symbol.Quiet n) low = elim (cases_lt (2 ^ 64 - 1) n) as (λ _. step senders s (symbol.Quiet (min n (2 ^ 64 - 1))) ≡ step senders s (symbol.Quiet n)) [
  | inr le ↦ (let e : min n (2 ^ 64 - 1) ≡ n = omega arith in ap (λ k. step senders s (symbol.Quiet k)) e)
  | inl far ↦ (let e : min n (2 ^ 64 - 1) ≡ 2 ^ 64 - 1 = omega arith in
      let some : n ≢ 0 = λ z. omega (arith, z, far) in
      let most : 2 ^ 64 - 1 ≢ 0 = λ z. omega (arith, z) in
      ap (λ k. step senders s (symbol.Quiet k)) e ∙ quiet_on senders s (2 ^ 64 - 1) most ∙ sym (quiet_on senders s n some ∙ far_quiet s.at s.list s.phase n low far))
]
