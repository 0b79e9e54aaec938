-- What a step that is taken tells, of the state before it and of the one behind it.
use Rattle.std.proofs.Common.{arith, ◌≡◌, ℕ, ◌+◌, ◌≤◌, Bool, true, false, cond, ◌==◌, List, [], ◌∷◌}
use Rattle.std.proofs.Common.{length, Result, Ok, Err, refl, sym, ap, subst, ◌∙◌}
use Rattle.std.specs.Prelude.{nat_lt, nat_le}
use Rattle.std.proofs.lemmas.Bool.Decides.{nat_tests}
use Rattle.bus_text.specs.AllOf.{◌>>=◌}
use Rattle.bus_text.proofs.AllOfLaws.{bind_ok}
use Rattle.bus_words.specs.declared.word.Kind.{Kind}
use Rattle.bus_words.specs.declared.word.Kind.TheVariants.{Label, Plain}
use Rattle.bus_strings.specs.Limits.{horizon_limit, inner_gap}
use Rattle.bus_strings.specs.Messages.{Entry}
use Rattle.bus_table.specs.declared.line.SendLine.{SendLine}
use Rattle.bus_table.specs.Tables.{Sender}
use Rattle.bus_wave.specs.declared.fault.WaveReason.TheVariants.{Range, Order}
use Rattle.bus_wave.specs.declared.symbol.Symbol.{Symbol}
use Rattle.bus_wave.specs.declared.symbol.Symbol.TheVariants as symbol
use Rattle.bus_wave.specs.Judging.{Phase, Opened, Silent, Saying, Waiting, Closed, State, string_of, with_string, least_rest, bounded, quiet_behind}
use Rattle.bus_wave.specs.Judging.{quiet_step, word_step}
use Rattle.bus_wave.specs.Judging.{order_step, is_nothing, step}
use Rattle.bus_wave.specs.Reading.{is_closed}

-- ---- answers
pub ok_is : {A E : Type 0} (x y : A) → (let r : Result A E = Ok x in r) ≡ Ok y → x ≡ y
ok_is x y h = cc

pub no_error : {A E : Type 0} (b : Bool) (e : E) (r : Result A E) (y : A) → cond b (Err e) r ≡ Ok y → (b ≡ false) × (r ≡ Ok y)
no_error true e r y h = absurd cc
no_error false e r y h = (refl, h)

pub no_other : {A E : Type 0} (b : Bool) (r : Result A E) (e : E) (y : A) → cond b r (Err e) ≡ Ok y → (b ≡ true) × (r ≡ Ok y)
no_other true r e y h = (refl, h)
no_other false r e y h = absurd cc

-- ---- a step
pub record Steps (senders : List Sender) (s : State) (symbol : Symbol) (new : State) : Type 0 where
  pub some : is_nothing symbol ≡ false
  pub keeps : order_step senders s symbol ≡ Ok new
  pub low : new.at + least_rest new.phase ≤ horizon_limit

bounded_is : (m new : State) → bounded m ≡ Ok new → (m ≡ new) × (m.at + least_rest m.phase ≤ horizon_limit)
bounded_is m new h =
    let p = no_other (nat_le (m.at + least_rest m.phase) horizon_limit) (Ok m) Range new h in
    (ok_is m new p.1, grind (arith, nat_tests, p.0))

pub step_is : (senders : List Sender) (s : State) (symbol : Symbol) (new : State) → step senders s symbol ≡ Ok new → Steps senders s symbol new
unfolding step
step_is senders s symbol new h =
    let p = no_error (is_nothing symbol) Range (order_step senders s symbol >>= bounded) new h in
    let b = bind_ok (order_step senders s symbol) bounded new p.1 in
    let m = bounded_is b.0 new b.2 in
    record {
      some = p.0;
      keeps = b.1 ∙ ap Ok m.0;
      low = subst (λ (k : State). k.at + least_rest k.phase ≤ horizon_limit) m.0 m.1;
    }

pub step_ok : (senders : List Sender) (s : State) (symbol : Symbol) (new : State) → Steps senders s symbol new → step senders s symbol ≡ Ok new
unfolding step
step_ok senders s symbol new h =
    let test : nat_le (new.at + least_rest new.phase) horizon_limit ≡ true = (let k = h.low in grind (arith, nat_tests)) in
    ap (λ b. cond b (Err Range) (order_step senders s symbol >>= bounded)) h.some
    ∙ ap (λ r. r >>= bounded) h.keeps
    ∙ ap (λ b. cond b (Ok new) (Err Range)) test

-- ---- what a step that is taken tells of the state before it
quiet_behind_at : (s m : State) (n : ℕ) (x : Entry) (left : List SendLine) → quiet_behind s n x left ≡ Ok m → m.at ≡ s.at + n
quiet_behind_at s m n x [] h = ap (λ (k : State). k.at) (sym (ok_is _ m h))
quiet_behind_at s m n x (next ∷ left) h =
    let p = no_other (n == inner_gap) (Ok (record { at = s.at + n; list = s.list; phase = Waiting x next left })) Order m h in
    ap (λ (k : State). k.at) (sym (ok_is _ m p.1))

pub quiet_at : (phase : Phase) (s m : State) (n : ℕ) → quiet_step phase s n ≡ Ok m → m.at ≡ s.at + n
quiet_at Opened s m n h = ap (λ (k : State). k.at) (sym (ok_is _ m h))
quiet_at (Silent free) s m n h = absurd cc
quiet_at (Saying x line words left) s m n h =
    let p = no_error (nat_lt (length words) line.least) Order (quiet_behind s n (with_string x (string_of line words)) left) m h in
    quiet_behind_at s m n (with_string x (string_of line words)) left p.1
quiet_at (Waiting x next left) s m n h = absurd cc
quiet_at Closed s m n h = absurd cc

pub still_going : (senders : List Sender) (at : ℕ) (list : List Entry) (phase : Phase) (symbol : Symbol) (m : State)
    → order_step senders (record { at = at; list = list; phase = phase }) symbol ≡ Ok m → is_closed phase ≡ false
still_going senders at list Opened symbol m h = refl
still_going senders at list (Silent free) symbol m h = refl
still_going senders at list (Saying x line words left) symbol m h = refl
still_going senders at list (Waiting x next left) symbol m h = refl
still_going senders at list Closed (symbol.Quiet n) m h = absurd cc
still_going senders at list Closed symbol.End m h = absurd cc
still_going senders at list Closed (symbol.Sent word) m h = absurd (by_kind word.kind h) where
  by_kind : (kind : Kind) → word_step senders kind (record { at = at; list = list; phase = Closed }) word.value ≡ Ok m → ⊥
  by_kind Label k = cc
  by_kind Plain k = cc
