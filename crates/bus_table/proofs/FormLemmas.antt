-- What the fields of a line read as, once they are cut.
use Rattle.std.proofs.Common.{arith, ◌≡◌, ℕ, ◌-◌, ◌<◌, ◌≤◌, ◌^◌, min, Bool, true, false, not, cond, ◌&&◌, ◌⊎◌, inl, inr, nat_lt, nat_le, List, [], ◌∷◌, length, codes, Option, Some, None, Result, Ok, Err, refl, sym, ap, ◌∙◌}
use Rattle.std.specs.Int.{is_in_range}
use Rattle.std.specs.Option.{ok_or, option_map_or}
use Rattle.std.proofs.lemmas.Bool.{eq-eqb, and_from, and_right, lt-leb}
use Rattle.std.proofs.lemmas.Bool.Decides.{nat_tests}
use denote.Ref.{Bor}
use Rattle.std.proofs.lemmas.List.{length-map}
use Rattle.bus_text.specs.Entries.{texts}
use Rattle.bus_text.specs.declared.reason.Reason.{Reason}
use Rattle.bus_text.specs.declared.reason.Reason.TheVariants.{Fields, Spelling, Range}
use Rattle.bus_text.specs.Numbers.{is_plain_decimal, decimal_value}
use Rattle.bus_text.proofs.NumberLaws.{is_in_range-min}
use Rattle.bus_text.specs.Refusals.{first_of, unless}
use Rattle.bus_text.specs.Numbers.{is_hexadecimal, hexadecimal_value}
use Rattle.bus_text.specs.Fields.{is_at}
use Rattle.std.proofs.lemmas.Bool.{and_parts, cases_lt}
use Rattle.bus_table.specs.Tables.{SendLine, TakeLine}
use Rattle.bus_table.specs.Ranges.{is_number, is_tg, is_offset, is_label, is_ext, is_send_line, is_take_line}
use Rattle.bus_table.specs.Heads.{Head, is_head}
use Rattle.bus_table.specs.Forms.{field, number_reading, sender_reading, head_of, offset_reading, offset_head_of, send_reading, send_line_of, is_send_spelled, is_ext_spelled, ext_of, take_reading, take_line_of, is_take_spelled}

-- what `plain_decimal` answers
abbrev pub read_decimal : List ℕ → Option ℕ
read_decimal f = cond (is_plain_decimal f) (Some (min (decimal_value f) (2 ^ 64 - 1))) None

-- the field is spelled, and the number read is its value or the greatest number of the code
pub record Decimal (f : List ℕ) (n : ℕ) : Type 0 where
  pub plain : is_plain_decimal f ≡ true
  pub value : n ≡ min (decimal_value f) (2 ^ 64 - 1)

-- as many fields as there are
pub count_is : (fields : List (Bor (List ℕ))) (n : ℕ) → length fields ≡ n → length (texts fields) ≡ n
count_is fields n h = length-map fields (λ f. f.now) ∙ h

-- a value that a test lets through, or not
pub let_through : {A : Type 0} (t : Bool) (v n : A) → Some n ≡ cond t (Some v) None → (t ≡ true) × (n ≡ v)
let_through true v n h = (refl, cc)
let_through false v n h = absurd cc

pub decimal_read : (f : List ℕ) (n : ℕ) → Some n ≡ read_decimal f → Decimal f n
decimal_read f n h = let p = let_through (is_plain_decimal f) (min (decimal_value f) (2 ^ 64 - 1)) n h in record { plain = p.0; value = p.1 }

-- a number in a range of the code is the value
pub in_range : (f : List ℕ) (n lo hi : ℕ) → Decimal f n → hi < 2 ^ 64 - 1 → is_in_range lo hi n ≡ is_in_range lo hi (decimal_value f)
in_range f n lo hi d h = ap (is_in_range lo hi) d.value ∙ is_in_range-min lo hi (decimal_value f) (2 ^ 64 - 1) h

pub value_is : (f : List ℕ) (n lo hi : ℕ) → Decimal f n → hi < 2 ^ 64 - 1 → is_in_range lo hi n ≡ true → decimal_value f ≡ n
value_is f n lo hi d h r = let small : n ≤ hi = grind (arith, nat_tests, r) in omega (arith, d.value)

-- of three tests
abbrev pub staged : {A : Type 0} → Bool → Bool → Bool → A → Result A Reason
staged a b c v = unless (first_of ((not a, Fields) ∷ (not b, Spelling) ∷ (not c, Range) ∷ [])) v

pub number_found : (lo hi n : ℕ) (fields : List (List ℕ)) → hi < 2 ^ 64 - 1 → length fields ≡ 2 → Decimal (field fields 1) n → is_in_range lo hi n ≡ true → number_reading (is_in_range lo hi) fields ≡ Ok n
unfolding number_reading
number_found lo hi n fields h two d r =
    let v = value_is (field fields 1) n lo hi d h r in
    ap (λ a. staged a (is_plain_decimal (field fields 1)) (is_in_range lo hi (decimal_value (field fields 1))) (decimal_value (field fields 1))) (eq-eqb _ _ two)
    ∙ ap (λ b. staged true b (is_in_range lo hi (decimal_value (field fields 1))) (decimal_value (field fields 1))) d.plain
    ∙ ap (λ (m : ℕ). staged true true (is_in_range lo hi m) m) v
    ∙ ap (λ c. staged true true c n) r

pub number_out : (lo hi n : ℕ) (fields : List (List ℕ)) → hi < 2 ^ 64 - 1 → length fields ≡ 2 → Decimal (field fields 1) n → is_in_range lo hi n ≡ false → number_reading (is_in_range lo hi) fields ≡ Err Range
unfolding number_reading
number_out lo hi n fields h two d r =
    ap (λ a. staged a (is_plain_decimal (field fields 1)) (is_in_range lo hi (decimal_value (field fields 1))) (decimal_value (field fields 1))) (eq-eqb _ _ two)
    ∙ ap (λ b. staged true b (is_in_range lo hi (decimal_value (field fields 1))) (decimal_value (field fields 1))) d.plain
    ∙ ap (λ c. staged true true c (decimal_value (field fields 1))) (sym (in_range (field fields 1) n lo hi d h) ∙ r)

-- ---- SENDER lines
-- the numbers of a SENDER line, and what was read of them
pub record HeadFields (fields : List (List ℕ)) (head : Head) : Type 0 where
  pub number : Decimal (field fields 1) head.number
  pub tg : Decimal (field fields 3) head.tg

head_range : (fields : List (List ℕ)) (head : Head) (at : ℕ) → HeadFields fields head → is_offset head.at ≡ is_offset at
    → is_head head ≡ is_head (record { number = decimal_value (field fields 1); tg = decimal_value (field fields 3); at = at })
head_range fields head at f e =
    ap (λ a. a && (is_tg head.tg && is_offset head.at)) (in_range (field fields 1) head.number 1 128 f.number (omega arith))
    ∙ ap (λ b. is_number (decimal_value (field fields 1)) && (b && is_offset head.at)) (in_range (field fields 3) head.tg 8 256 f.tg (omega arith))
    ∙ ap (λ c. is_number (decimal_value (field fields 1)) && (is_tg (decimal_value (field fields 3)) && c)) e

pub sender_out : (n tg : ℕ) (fields : List (List ℕ)) → length fields ≡ 4 → is_at fields 2 (codes "TG") ≡ true → Decimal (field fields 1) n → Decimal (field fields 3) tg → is_head (record { number = n; tg = tg; at = 0 }) ≡ false
    → sender_reading fields ≡ Err Range
unfolding sender_reading
sender_out n tg fields four gap d e r =
    ap (λ a. staged (a && is_at fields 2 (codes "TG")) (is_plain_decimal (field fields 1) && is_plain_decimal (field fields 3)) (is_head (head_of fields)) (head_of fields)) (eq-eqb _ _ four)
    ∙ ap (λ a. staged a (is_plain_decimal (field fields 1) && is_plain_decimal (field fields 3)) (is_head (head_of fields)) (head_of fields)) gap
    ∙ ap (λ b. staged true b (is_head (head_of fields)) (head_of fields)) (and_from _ _ d.plain e.plain)
    ∙ ap (λ c. staged true true c (head_of fields)) (sym (head_range fields (record { number = n; tg = tg; at = 0 }) 0 (record { number = d; tg = e }) refl) ∙ r)

offset_min : (v : ℕ) → is_offset (min v (2 ^ 64 - 1)) ≡ is_offset v
offset_min v = grind (arith, nat_tests)

offset_below : (f : List ℕ) (at : ℕ) → Decimal f at → is_offset at ≡ is_offset (decimal_value f)
offset_below f at d = ap is_offset d.value ∙ offset_min (decimal_value f)

pub offset_out : (n tg at : ℕ) (fields : List (List ℕ)) → length fields ≡ 6 → is_at fields 2 (codes "TG") ≡ true → is_at fields 4 (codes "AT") ≡ true
    → Decimal (field fields 1) n → Decimal (field fields 3) tg → Decimal (field fields 5) at → is_head (record { number = n; tg = tg; at = at }) ≡ false
    → offset_reading fields ≡ Err Range
unfolding offset_reading
offset_out n tg at fields six gap word d e o r =
    let spelled : Bool = is_plain_decimal (field fields 1) && (is_plain_decimal (field fields 3) && is_plain_decimal (field fields 5)) in
    ap (λ a. staged a spelled (is_head (offset_head_of fields)) (offset_head_of fields)) (and_from _ _ (eq-eqb _ _ six) (and_from _ _ gap word))
    ∙ ap (λ b. staged true b (is_head (offset_head_of fields)) (offset_head_of fields)) (and_from _ _ d.plain (and_from _ _ e.plain o.plain))
    ∙ ap (λ c. staged true true c (offset_head_of fields))
    (sym (head_range fields (record { number = n; tg = tg; at = at }) (decimal_value (field fields 5)) (record { number = d; tg = e }) (offset_below (field fields 5) at o)) ∙ r)

-- ---- SEND lines
-- the field is so many digits, which write the number
pub record Hex (count : ℕ) (f : List ℕ) (n : ℕ) : Type 0 where
  pub digits : is_hexadecimal count f ≡ true
  pub value : n ≡ hexadecimal_value f

pub hex_read : (count : ℕ) (f : List ℕ) (n : ℕ) → Some n ≡ cond (is_hexadecimal count f) (Some (hexadecimal_value f)) None → Hex count f n
hex_read count f n h = let p = let_through (is_hexadecimal count f) (hexadecimal_value f) n h in record { digits = p.0; value = p.1 }

stopped_below : (least most : ℕ) → most ≤ 256 → nat_le (min least (2 ^ 64 - 1)) most ≡ nat_le least most
stopped_below least most h = grind (arith, nat_tests)

-- numbers of data words that stop at the greatest number of the code
stopped : (least most : ℕ) → (nat_le (min least (2 ^ 64 - 1)) (min most (2 ^ 64 - 1)) && nat_le (min most (2 ^ 64 - 1)) 256) ≡ (nat_le least most && nat_le most 256)
stopped least most = by_most (cases_lt 256 most) where
  by_most : (256 < most) ⊎ (most ≤ 256) → (nat_le (min least (2 ^ 64 - 1)) (min most (2 ^ 64 - 1)) && nat_le (min most (2 ^ 64 - 1)) 256) ≡ (nat_le least most && nat_le most 256)
  by_most (inl gt) = and_right _ _ (lt-leb (min most (2 ^ 64 - 1)) 256 (omega arith)) ∙ sym (and_right _ _ (lt-leb most 256 gt))
  by_most (inr le) =
      let same : min most (2 ^ 64 - 1) ≡ most = omega arith in
      ap (λ (m : ℕ). nat_le (min least (2 ^ 64 - 1)) m && nat_le m 256) same ∙ ap (λ b. b && nat_le most 256) (stopped_below least most le)

-- the fields of a SEND line, and what was read of them
pub record SendFields (fields : List (List ℕ)) (line : SendLine) : Type 0 where
  pub five : length fields ≡ 5
  pub label : Hex 3 (field fields 1) line.label
  pub ext : Hex 1 (field fields 2) line.ext
  pub least : Decimal (field fields 3) line.least
  pub most : Decimal (field fields 4) line.most

send_range : (fields : List (List ℕ)) (line : SendLine) → SendFields fields line → is_send_line line ≡ is_send_line (send_line_of fields)
send_range fields line f =
    ap (λ (l : ℕ). is_label l && (is_ext line.ext && (nat_le line.least line.most && nat_le line.most 256))) f.label.value
    ∙ ap (λ (e : ℕ). is_label (hexadecimal_value (field fields 1)) && (is_ext e && (nat_le line.least line.most && nat_le line.most 256))) f.ext.value
    ∙ ap (λ b. is_label (hexadecimal_value (field fields 1)) && (is_ext (hexadecimal_value (field fields 2)) && b))
    (ap (λ (a : ℕ). nat_le a line.most && nat_le line.most 256) f.least.value ∙ ap (λ (b : ℕ). nat_le (min (decimal_value (field fields 3)) (2 ^ 64 - 1)) b && nat_le b 256) f.most.value ∙ stopped (decimal_value (field fields 3)) (decimal_value (field fields 4)))

spelled : (fields : List (List ℕ)) (line : SendLine) → SendFields fields line → is_send_spelled fields ≡ true
spelled fields line f = and_from _ _ f.label.digits (and_from _ _ f.ext.digits (and_from _ _ f.least.plain f.most.plain))

send_values : (fields : List (List ℕ)) (line : SendLine) → SendFields fields line → is_send_line line ≡ true → send_line_of fields ≡ line
send_values fields line f r =
    let parts = and_parts (nat_le line.least line.most) _ (and_parts (is_ext line.ext) _ (and_parts (is_label line.label) _ r).1).1 in
    let most : line.most ≤ 256 = grind (arith, nat_tests, parts.1) in
    let least : line.least ≤ line.most = grind (arith, nat_tests, parts.0) in
    ap (λ (l : ℕ). record { label = l; ext = hexadecimal_value (field fields 2); least = decimal_value (field fields 3); most = decimal_value (field fields 4) }) (sym f.label.value)
    ∙ ap (λ (e : ℕ). record { label = line.label; ext = e; least = decimal_value (field fields 3); most = decimal_value (field fields 4) }) (sym f.ext.value)
    ∙ ap (λ (n : ℕ). record { label = line.label; ext = line.ext; least = n; most = decimal_value (field fields 4) }) (omega (arith, f.least.value))
    ∙ ap (λ (n : ℕ). record { label = line.label; ext = line.ext; least = line.least; most = n }) (omega (arith, f.most.value))

pub send_found : (fields : List (List ℕ)) (line : SendLine) → SendFields fields line → is_send_line line ≡ true → send_reading fields ≡ Ok line
unfolding send_reading
send_found fields line f r =
    ap (λ a. staged a (is_send_spelled fields) (is_send_line (send_line_of fields)) (send_line_of fields)) (eq-eqb _ _ f.five)
    ∙ ap (λ b. staged true b (is_send_line (send_line_of fields)) (send_line_of fields)) (spelled fields line f)
    ∙ ap (λ c. staged true true c (send_line_of fields)) (sym (send_range fields line f) ∙ r)
    ∙ ap Ok (send_values fields line f r)

pub send_out : (fields : List (List ℕ)) (line : SendLine) → SendFields fields line → is_send_line line ≡ false → send_reading fields ≡ Err Range
unfolding send_reading
send_out fields line f r =
    ap (λ a. staged a (is_send_spelled fields) (is_send_line (send_line_of fields)) (send_line_of fields)) (eq-eqb _ _ f.five)
    ∙ ap (λ b. staged true b (is_send_line (send_line_of fields)) (send_line_of fields)) (spelled fields line f)
    ∙ ap (λ c. staged true true c (send_line_of fields)) (sym (send_range fields line f) ∙ r)

pub send_unspelled : (fields : List (List ℕ)) → length fields ≡ 5 → is_plain_decimal (field fields 4) ≡ false → send_reading fields ≡ Err Spelling
unfolding send_reading
send_unspelled fields five h =
    ap (λ a. staged a (is_send_spelled fields) (is_send_line (send_line_of fields)) (send_line_of fields)) (eq-eqb _ _ five)
    ∙ ap (λ b. staged true b (is_send_line (send_line_of fields)) (send_line_of fields)) (and_right (is_hexadecimal 3 (field fields 1)) _ (and_right (is_hexadecimal 1 (field fields 2)) _ (and_right (is_plain_decimal (field fields 3)) _ h)))

-- ---- TAKE lines
-- the fields of a TAKE line, and what was read of them
pub record TakeFields (fields : List (List ℕ)) (line : TakeLine) : Type 0 where
  pub five : length fields ≡ 5
  pub label : Hex 3 (field fields 1) line.label
  pub spelled : is_ext_spelled (field fields 2) ≡ true
  pub ext : line.ext ≡ ext_of (field fields 2)
  pub first : Decimal (field fields 3) line.first
  pub count : Decimal (field fields 4) line.count

-- what `taken_ext` answers
abbrev pub read_ext : List ℕ → Result (Option ℕ) Reason
read_ext f = cond (is_ext_spelled f) (Ok (ext_of f)) (Err Spelling)

pub ext_read : (f : List ℕ) (ext : Option ℕ) (r : Result (Option ℕ) Reason) → r ≡ read_ext f → r ≡ Ok ext → (is_ext_spelled f ≡ true) × (ext ≡ ext_of f)
ext_read f ext r h k = by_test (is_ext_spelled f) (sym k ∙ h) where
  by_test : (t : Bool) → Ok ext ≡ cond t (Ok (ext_of f)) (Err Spelling) → (t ≡ true) × (ext ≡ ext_of f)
  by_test true e = (refl, cc)
  by_test false e = absurd cc

first_min : (v : ℕ) → nat_lt (min v (2 ^ 64 - 1)) 256 ≡ nat_lt v 256
first_min v = grind (arith, nat_tests)

first_below : (f : List ℕ) (n : ℕ) → Decimal f n → nat_lt n 256 ≡ nat_lt (decimal_value f) 256
first_below f n d = ap (λ m. nat_lt m 256) d.value ∙ first_min (decimal_value f)

take_range : (fields : List (List ℕ)) (line : TakeLine) → TakeFields fields line → is_take_line line ≡ is_take_line (take_line_of fields)
take_range fields line f =
    let counts = nat_lt line.first 256 && is_in_range 1 256 line.count in
    ap (λ (l : ℕ). is_label l && (option_map_or is_ext line.ext true && counts)) f.label.value
    ∙ ap (λ (e : Option ℕ). is_label (hexadecimal_value (field fields 1)) && (option_map_or is_ext e true && counts)) f.ext
    ∙ ap (λ b. is_label (hexadecimal_value (field fields 1)) && (option_map_or is_ext (ext_of (field fields 2)) true && b))
    (ap (λ b. b && is_in_range 1 256 line.count) (first_below (field fields 3) line.first f.first) ∙ ap (λ b. nat_lt (decimal_value (field fields 3)) 256 && b) (in_range (field fields 4) line.count 1 256 f.count (omega arith)))

taken_spelled : (fields : List (List ℕ)) (line : TakeLine) → TakeFields fields line → is_take_spelled fields ≡ true
taken_spelled fields line f = and_from _ _ f.label.digits (and_from _ _ f.spelled (and_from _ _ f.first.plain f.count.plain))

first_is : (f : List ℕ) (n : ℕ) → Decimal f n → nat_lt n 256 ≡ true → decimal_value f ≡ n
first_is f n d r = let small : n < 256 = grind (arith, nat_tests, r) in omega (arith, d.value)

take_values : (fields : List (List ℕ)) (line : TakeLine) → TakeFields fields line → is_take_line line ≡ true → take_line_of fields ≡ line
take_values fields line f r =
    let parts = and_parts (nat_lt line.first 256) _ (and_parts (option_map_or is_ext line.ext true) _ (and_parts (is_label line.label) _ r).1).1 in
    let made : ℕ → Option ℕ → ℕ → ℕ → TakeLine = λ l x n c. record { label = l; ext = x; first = n; count = c } in
    ap (λ (l : ℕ). made l (ext_of (field fields 2)) (decimal_value (field fields 3)) (decimal_value (field fields 4))) (sym f.label.value)
    ∙ ap (λ (x : Option ℕ). made line.label x (decimal_value (field fields 3)) (decimal_value (field fields 4))) (sym f.ext)
    ∙ ap (λ (n : ℕ). made line.label line.ext n (decimal_value (field fields 4))) (first_is (field fields 3) line.first f.first parts.0)
    ∙ ap (λ (c : ℕ). made line.label line.ext line.first c) (value_is (field fields 4) line.count 1 256 f.count (omega arith) parts.1)

pub take_found : (fields : List (List ℕ)) (line : TakeLine) → TakeFields fields line → is_take_line line ≡ true → take_reading fields ≡ Ok line
unfolding take_reading
take_found fields line f r =
    ap (λ a. staged a (is_take_spelled fields) (is_take_line (take_line_of fields)) (take_line_of fields)) (eq-eqb _ _ f.five)
    ∙ ap (λ b. staged true b (is_take_line (take_line_of fields)) (take_line_of fields)) (taken_spelled fields line f)
    ∙ ap (λ c. staged true true c (take_line_of fields)) (sym (take_range fields line f) ∙ r)
    ∙ ap Ok (take_values fields line f r)

pub take_out : (fields : List (List ℕ)) (line : TakeLine) → TakeFields fields line → is_take_line line ≡ false → take_reading fields ≡ Err Range
unfolding take_reading
take_out fields line f r =
    ap (λ a. staged a (is_take_spelled fields) (is_take_line (take_line_of fields)) (take_line_of fields)) (eq-eqb _ _ f.five)
    ∙ ap (λ b. staged true b (is_take_line (take_line_of fields)) (take_line_of fields)) (taken_spelled fields line f)
    ∙ ap (λ c. staged true true c (take_line_of fields)) (sym (take_range fields line f) ∙ r)

-- a TAKE line of which some field isn't spelled
pub take_unspelled : (fields : List (List ℕ)) → length fields ≡ 5 → is_take_spelled fields ≡ false → take_reading fields ≡ Err Spelling
unfolding take_reading
take_unspelled fields five h =
    ap (λ a. staged a (is_take_spelled fields) (is_take_line (take_line_of fields)) (take_line_of fields)) (eq-eqb _ _ five)
    ∙ ap (λ b. staged true b (is_take_line (take_line_of fields)) (take_line_of fields)) h

pub no_count : (fields : List (List ℕ)) → is_plain_decimal (field fields 4) ≡ false → is_take_spelled fields ≡ false
no_count fields h = and_right (is_hexadecimal 3 (field fields 1)) _ (and_right (is_ext_spelled (field fields 2)) _ (and_right (is_plain_decimal (field fields 3)) _ h))

pub no_first : (fields : List (List ℕ)) → is_plain_decimal (field fields 3) ≡ false → is_take_spelled fields ≡ false
no_first fields h = and_right (is_hexadecimal 3 (field fields 1)) _ (and_right (is_ext_spelled (field fields 2)) _ (ap (λ b. b && is_plain_decimal (field fields 4)) h))

-- the error of a `Some` that was asked for
pub error_is : {A E : Type 0} (o : Option A) (given found : E) (r : Result A E) → r ≡ ok_or o given → o ≡ None → r ≡ Err found → found ≡ given
error_is o given found r e h k = let asked = rw h at e in cc
