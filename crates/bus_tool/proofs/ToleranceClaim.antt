-- What the tolerance line of an accepted table tells.
use Rattle.std.proofs.Common.{◌≡◌, ◌≢◌, ◌↔◌, ℕ, ◌+◌, ◌*◌, ◌<◌, Bool, true, false, cond, List, ◌∷◌, ◌++◌, reverse, length, get_or, codes, decimal, Some, None, inl, inr, arith, sym, refl, ap, ◌∙◌, subst, append_assoc}
use Rattle.std.specs.Prelude.{◌&&◌, ◌||◌, ◌==◌, IsTrue, [], Option}
use Rattle.std.specs.List.{list_all}
use Rattle.std.proofs.lemmas.Bool.{cases_Bool, eq-eqb, true≢false}
use Rattle.std.proofs.lemmas.List.{reverse-append}
use Rattle.bus_table.specs.declared.mode.Mode.{Mode}
use Rattle.bus_table.specs.declared.mode.Mode.TheVariants.{Aperiodic, Periodic}
use Rattle.bus_table.specs.Tables.{Table}
use Rattle.bus_table.specs.Text.{mode_word}
use Rattle.bus_table.specs.Valid.{is_valid}
use Rattle.bus_regime.specs.declared.table_verdict.TableVerdict.{TableVerdict}
use Rattle.bus_regime.specs.declared.table_verdict.TableVerdict.TheVariants.{Accept, ShortCycle, SmallGap, NoSync}
use Rattle.bus_regime.specs.Verdicts.{verdict_of, is_accepted}
use Rattle.bus_regime.specs.Gaps.{gaps}
use Rattle.bus_schedule.specs.Slack.{is_wide, all_stay}
use Rattle.bus_reach.specs.Bearing.{bears, bears_in}
use Rattle.bus_reach.specs.Tolerance.{leaves_room}
use Rattle.bus_reach.specs.Laws.{BorneIsClosed, ToleranceIsExact}
use Rattle.bus_reach.specs.PeriodicLaws.{AcceptedBearZero, PeriodicBorneIsClosed, PeriodicNotBorneBreaks}
use Rattle.bus_reach.specs.Settling.{AnyStartSettles}
use Rattle.bus_exact.specs.Settling.{AnyStartSettlesOnCable}
use Rattle.bus_tool.specs.Answering.{reply_text}
use Rattle.bus_tool.specs.ToleranceClaims.{EndsIn, KeepsOrderIn, LosesOrderIn, SettlesFromAnyStart, SettlesOnCable, StartsItself, TellsStart, TellsTolerance, tolerance_reply}
use Rattle.bus_tool.specs.Tolerances.{greatest_to, most_apart, starts_in, tolerance_fields, tolerance_line, tolerance_of, tolerance_text, tolerance_word}
use Rattle.bus_tool.proofs.ReplyLemmas.{tolerance_same}
use Rattle.bus_tool.proofs.ToleranceLemmas.{borne_below, greatest_beyond, greatest_takes}

-- the laws by which it does
pub record ToleranceLaws : Type 0 where
  pub closed : BorneIsClosed
  pub offsets : PeriodicBorneIsClosed
  pub exact : ToleranceIsExact
  pub breaks : PeriodicNotBorneBreaks
  pub zero_borne : AcceptedBearZero
  pub settles : AnyStartSettles
  pub settles_on_cable : AnyStartSettlesOnCable

keeps_in : ToleranceLaws → (mode : Mode) (table : Table) (d : ℕ) → table.mode ≡ mode → IsTrue (is_valid table) → IsTrue (is_accepted (verdict_of table))
    → IsTrue (bears table d) → KeepsOrderIn mode table d
keeps_in laws Aperiodic table d mode valid accepted borne = λ hands delay wake even delays wakes.
    laws.closed table hands d delay wake valid mode accepted even delays wakes borne
keeps_in laws Periodic table d mode valid accepted borne = λ hands delay even delays. laws.offsets table hands d delay valid mode accepted even delays borne

loses_in : ToleranceLaws → (mode : Mode) (table : Table) (d : ℕ) → table.mode ≡ mode → IsTrue (is_valid table) → IsTrue (is_accepted (verdict_of table))
    → bears table d ≡ false → LosesOrderIn mode table d
loses_in laws Aperiodic table d mode valid accepted not_borne = laws.exact table d valid mode accepted not_borne
loses_in laws Periodic table d mode valid accepted not_borne = laws.breaks table d valid mode accepted not_borne

pub starts_from : ToleranceLaws → (table : Table) → IsTrue (is_valid table) → StartsItself table → SettlesFromAnyStart table
starts_from laws table valid starts = λ hands wake up horizon list fit powered left long lawful.
    laws.settles table hands wake up horizon list valid starts.0 starts.1 fit powered left long lawful

starts_on_cable : ToleranceLaws → (table : Table) (d : ℕ) → IsTrue (is_valid table) → StartsItself table → IsTrue (bears table d) → SettlesOnCable table d
starts_on_cable laws table d valid starts borne = λ hands delay wake up horizon list fit delays powered left long lawful.
    laws.settles_on_cable table hands delay wake d up horizon list valid starts.0 starts.1 borne fit delays powered left long lawful

-- the last word is that of this
starts_by : (mode : Mode) (table : Table) → table.mode ≡ mode → IsTrue (starts_in mode table) ↔ StartsItself table
starts_by Aperiodic table mode = ((λ h. (mode, h)), (λ starts. starts.1))
starts_by Periodic table mode = ((λ h. absurd (true≢false (sym h))), (λ starts. absurd (let e : Periodic ≡ Aperiodic = sym mode ∙ starts.0 in cc)))

-- behind this front stand a space, a word and a line feed
front_of : (mode : Mode) (tolerance : Option ℕ) (least most : ℕ) → List ℕ
front_of mode tolerance least most =
    codes "TOLERANCE " ++ mode_word mode ++ 32 ∷ [] ++ tolerance_word tolerance ++ 32 ∷ [] ++ decimal least ++ 32 ∷ [] ++ decimal most

behind : (front word : List ℕ) → front ++ 32 ∷ [] ++ word ++ 10 ∷ [] ≡ front ++ (32 ∷ (word ++ 10 ∷ []))
behind front word = append_assoc (front ++ 32 ∷ []) word (10 ∷ []) ∙ append_assoc front (32 ∷ []) (word ++ 10 ∷ [])

fields_any : (mode : Mode) (tolerance : Option ℕ) (least most : ℕ) → EndsIn (codes " any\n") (tolerance_fields mode tolerance least most true)
unfolding front_of
fields_any mode tolerance least most = (front_of mode tolerance least most, behind (front_of mode tolerance least most) (codes "any"))

fields_settled : (mode : Mode) (tolerance : Option ℕ) (least most : ℕ) → EndsIn (codes " settled\n") (tolerance_fields mode tolerance least most false)
unfolding front_of
fields_settled mode tolerance least most = (front_of mode tolerance least most, behind (front_of mode tolerance least most) (codes "settled"))

-- no text has both ends
not_both : (text : List ℕ) → EndsIn (codes " any\n") text → EndsIn (codes " settled\n") text → ⊥
not_both text any settled =
    let one : reverse text ≡ reverse (codes " any\n") ++ reverse any.0 = ap reverse any.1 ∙ reverse-append any.0 (codes " any\n") in
    let two : reverse text ≡ reverse (codes " settled\n") ++ reverse settled.0 = ap reverse settled.1 ∙ reverse-append settled.0 (codes " settled\n") in
    let last : 121 ≡ 100 = ap (λ (l : List ℕ). get_or l 1 0) (sym one ∙ two) in
    omega (arith, last)

line_start : (table : Table) (least most : ℕ) → TellsStart table (tolerance_line table least most)
line_start table least most =
    let by = starts_by table.mode table refl in
    elim (cases_Bool (starts_in table.mode table)) [
      | inl yes' ↦
          let any : EndsIn (codes " any\n") (tolerance_line table least most) =
          subst (λ b. EndsIn (codes " any\n") (tolerance_fields table.mode (tolerance_of table) least (most_apart table.mode (length table.senders) (tolerance_of table) most) b)) (sym yes')
          (fields_any table.mode (tolerance_of table) least (most_apart table.mode (length table.senders) (tolerance_of table) most)) in
          record {
            any = ((λ _. by.0 yes'), (λ _. any));
            settled = ((λ other. absurd (not_both (tolerance_line table least most) any other)), (λ none. absurd (none (by.0 yes'))));
          }
      | inr no' ↦
          let settled : EndsIn (codes " settled\n") (tolerance_line table least most) =
          subst (λ b. EndsIn (codes " settled\n") (tolerance_fields table.mode (tolerance_of table) least (most_apart table.mode (length table.senders) (tolerance_of table) most) b)) (sym no')
          (fields_settled table.mode (tolerance_of table) least (most_apart table.mode (length table.senders) (tolerance_of table) most)) in
          let none : StartsItself table → ⊥ = λ h. true≢false (sym (by.1 h) ∙ no') in
          record {
            any = ((λ other. absurd (not_both (tolerance_line table least most) other settled)), (λ h. absurd (none h)));
            settled = ((λ _. none), (λ _. settled));
          }
    ]

start_in : (table : Table) (verdict : TableVerdict) → IsTrue (is_accepted verdict) → TellsStart table (tolerance_text verdict table)
start_in table (Accept mode least most) accepted = line_start table least most
start_in table (ShortCycle least ti) accepted = absurd (true≢false (sym accepted))
start_in table (SmallGap terminal gap needed) accepted = absurd (true≢false (sym accepted))
start_in table (NoSync terminal gap needed) accepted = absurd (true≢false (sym accepted))

pub start_told : (table : Table) → IsTrue (is_accepted (verdict_of table)) → TellsStart table (reply_text (tolerance_reply (verdict_of table) table))
start_told table accepted = subst (TellsStart table) (tolerance_same (verdict_of table) table) (start_in table (verdict_of table) accepted)

-- a sender alone bears every delay
alone_bears : (mode : Mode) (table : Table) (d : ℕ) → (length table.senders == 1) ≡ true → bears_in mode table d ≡ true
alone_bears Aperiodic table d one = ap (λ b. b || list_all (leaves_room d table.sg table.senders) table.senders) one
alone_bears Periodic table d one = ap (λ b. b || (list_all (is_wide d) (gaps table) && all_stay d table.sg [] (gaps table))) one

abbrev number_at : Table → Bool → Option ℕ
number_at table one = cond one None (Some (greatest_to (bears table) (2 * table.ti)))

-- the number, where there are several senders
told_number : ToleranceLaws → (table : Table) (d : ℕ) → IsTrue (is_valid table) → IsTrue (is_accepted (verdict_of table))
    → (length table.senders == 1) ≡ false → greatest_to (bears table) (2 * table.ti) ≡ d → IsTrue (bears table d) × (bears table (d + 1) ≡ false)
told_number laws table d valid accepted one is =
    let several : length table.senders ≢ 1 = λ e. true≢false (sym (eq-eqb (length table.senders) 1 e) ∙ one) in
    let borne : IsTrue (bears table d) = subst (λ k. bears table k ≡ true) is (greatest_takes (bears table) (2 * table.ti) (laws.zero_borne table valid accepted)) in
    let below : d < 2 * table.ti = borne_below table d valid several borne in
    (borne, greatest_beyond (bears table) (2 * table.ti) (d + 1) (omega arith) (omega arith))

pub tells : ToleranceLaws → (table : Table) → IsTrue (is_valid table) → IsTrue (is_accepted (verdict_of table)) → TellsTolerance table
tells laws table valid accepted = record {
  number = λ d h. elim (cases_Bool (length table.senders == 1)) [
    | inl one ↦ absurd (let none : None ≡ Some d = sym (ap (number_at table) one) ∙ h in cc)
    | inr one ↦
        let some : Some (greatest_to (bears table) (2 * table.ti)) ≡ Some d = sym (ap (number_at table) one) ∙ h in
        let both = told_number laws table d valid accepted one cc in
        (keeps_in laws table.mode table d refl valid accepted both.0, loses_in laws table.mode table (d + 1) refl valid accepted both.1)
  ];
  alone = λ h d. elim (cases_Bool (length table.senders == 1)) [
    | inl one ↦ keeps_in laws table.mode table d refl valid accepted (alone_bears table.mode table d one)
    | inr one ↦ absurd (let some : Some (greatest_to (bears table) (2 * table.ti)) ≡ None = sym (ap (number_at table) one) ∙ h in cc)
  ];
  told = starts_by table.mode table refl;
  start = λ h. starts_from laws table valid h;
  cable = λ d starts borne. starts_on_cable laws table d valid starts borne;
}
