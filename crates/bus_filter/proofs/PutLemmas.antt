-- What is put is the received text.
use Rattle.std.proofs.Common.{arith, ◌≡◌, ◌==◌, ℕ, Bool, true, false, cond, List, [], ◌∷◌, ◌++◌, codes, length, map, refl, ap, sym, ◌∙◌, append_assoc}
use Rattle.std.specs.Fmt.{decimal}
use Rattle.std.specs.List.{filter, flat_map, zip}
use Rattle.std.proofs.lemmas.List.Concat.{flat_map-append}
use Rattle.bus_text.specs.Digits.{hex_digit, hexadecimal}
use Rattle.bus_strings.specs.Messages.{Wordstring, Entry}
use Rattle.std.proofs.lemmas.Bool.{eqb-true}
use Rattle.bus_strings.specs.Transmissions.{marks}
use Rattle.bus_table.specs.declared.line.TakeLine.{TakeLine}
use Rattle.bus_table.specs.Tables.{Sender, Listener, Table}
use Rattle.bus_filter.specs.Received.{Taker, matches, selection, received_line, string_lines, entry_lines, is_heard, received_by, sender_taker, listener_taker}
use Rattle.bus_filter.specs.ReceivedTexts.{word_text, line_text, taker_text, received_text}
use Rattle.bus_filter.specs.inside.Putting.{string_put, entry_put, marked_put, sender_put, listener_put}
use Rattle.bus_strings.proofs.ListLaws.{flat_map-same, flat_map-map}
use Rattle.bus_filter.proofs.Folds.{flat_map-flat_map, flat_map-passing}

-- an RX line, of which the label and the extension are put in one step
pub line_is : (moment : ℕ) (string : Wordstring) (line : TakeLine) (label ext : ℕ) (head words : List ℕ) → head ≡ codes " " ++ hexadecimal 3 label ++ codes " " ++ hex_digit ext ∷ []
    → label ≡ string.label → ext ≡ string.ext → words ≡ selection line string.words
    → codes "RX " ++ decimal moment ++ head ++ flat_map word_text words ++ codes "\n" ≡ line_text (received_line moment string line)
line_is moment string line label ext head words h l e w =
    let begin : List ℕ = codes "RX " ++ decimal moment in
    let whole : List ℕ → List ℕ → List ℕ = λ x ws. begin ++ x ++ flat_map word_text ws ++ codes "\n" in
    ap (λ x. whole x words) h
    ∙ ap (λ n. whole (codes " " ++ hexadecimal 3 n ++ codes " " ++ hex_digit ext ∷ []) words) l
    ∙ ap (λ n. whole (codes " " ++ hexadecimal 3 string.label ++ codes " " ++ hex_digit n ∷ []) words) e
    ∙ ap (λ ws. whole (codes " " ++ hexadecimal 3 string.label ++ codes " " ++ hex_digit string.ext ∷ []) ws) w
    ∙ ap (λ t. t ++ flat_map word_text (selection line string.words) ++ codes "\n")
    (sym (append_assoc begin (codes " " ++ hexadecimal 3 string.label ++ codes " ") (hex_digit string.ext ∷ []))
    ∙ ap (λ t. t ++ hex_digit string.ext ∷ []) (sym (append_assoc begin (codes " " ++ hexadecimal 3 string.label) (codes " "))
    ∙ ap (λ t. t ++ codes " ") (sym (append_assoc begin (codes " ") (hexadecimal 3 string.label)))))

pub string_is : (takes : List TakeLine) (moment : ℕ) (string : Wordstring) → string_put takes moment string ≡ flat_map line_text (string_lines takes moment string)
string_is takes moment string = flat_map-passing (λ (line : TakeLine). matches line string.label string.ext) line_text (received_line moment string) takes

pub entry_is : (takes : List TakeLine) (x : Entry) → entry_put takes x ≡ flat_map line_text (entry_lines takes x)
entry_is takes x =
    flat_map-same (string_put takes x.moment) (λ s. flat_map line_text (string_lines takes x.moment s)) x.message (string_is takes x.moment)
    ∙ sym (flat_map-flat_map line_text (string_lines takes x.moment) x.message)

pub marked_is : (taker : Taker) (marked : Entry × Bool) → marked_put taker marked ≡ cond (is_heard taker.number marked) (flat_map line_text (entry_lines taker.takes marked.0)) []
marked_is taker marked = ap (λ t. cond (is_heard taker.number marked) t []) (entry_is taker.takes marked.0)

-- what is put of a list is what the taker receives
pub list_is : (list : List Entry) (taker : Taker) → flat_map (marked_put taker) (zip list (marks list)) ≡ flat_map line_text (received_by list taker)
list_is list taker =
    let pairs : List (Entry × Bool) = zip list (marks list) in
    flat_map-same (marked_put taker) (λ (m : Entry × Bool). cond (is_heard taker.number m) (flat_map line_text (entry_lines taker.takes m.0)) []) pairs (marked_is taker)
    ∙ flat_map-passing (is_heard taker.number) (λ (x : Entry). flat_map line_text (entry_lines taker.takes x)) (λ (m : Entry × Bool). m.0) pairs
    ∙ sym (flat_map-flat_map line_text (entry_lines taker.takes) (map (λ (m : Entry × Bool). m.0) (filter (is_heard taker.number) pairs)))

-- ---- what needs no walk
no_lines : (moment : ℕ) (strings : List Wordstring) → flat_map (string_put [] moment) strings ≡ []
no_lines moment [] = refl
no_lines moment (string ∷ strings) = no_lines moment strings

nothing_if : (b : Bool) (t : List ℕ) → t ≡ [] → cond b t [] ≡ []
nothing_if true t e = e
nothing_if false t e = refl

pub takes_nothing : (taker : Taker) (pairs : List (Entry × Bool)) → taker.takes ≡ [] → flat_map (marked_put taker) pairs ≡ []
takes_nothing taker [] e = refl
takes_nothing taker (marked ∷ pairs) e =
    let own : marked_put taker marked ≡ [] = nothing_if (is_heard taker.number marked) (entry_put taker.takes marked.0)
    (ap (λ takes. entry_put takes marked.0) e ∙ no_lines marked.0.moment marked.0.message) in
    ap (λ t. t ++ flat_map (marked_put taker) pairs) own ∙ takes_nothing taker pairs e

pub empty : {X : Type 0} (xs : List X) (b : Bool) → b ≡ (length xs == 0) → b ≡ true → xs ≡ []
empty [] b e t = refl
empty (x ∷ xs) b e t = absurd (let w : length (x ∷ xs) ≡ 0 = eqb-true (length (x ∷ xs)) 0 (sym e ∙ t) in omega (arith, w))

-- the terminals are put in two parts
pub takers_put : (table : Table) (list : List Entry) (senders : List Sender) (listeners : List Listener) → senders ≡ table.senders → listeners ≡ table.listeners
    → codes "RECEIVED 1\n" ++ flat_map (sender_put list) senders ++ flat_map (listener_put list) listeners ++ codes "END\n" ≡ received_text table list
takers_put table list senders listeners s l =
    let text : List ℕ → List ℕ → List ℕ = λ a b. (codes "RECEIVED 1\n" ++ a) ++ b ++ codes "END\n" in
    ap (λ (x : List Sender). text (flat_map (sender_put list) x) (flat_map (listener_put list) listeners)) s
    ∙ ap (λ (x : List Listener). text (flat_map (sender_put list) table.senders) (flat_map (listener_put list) x)) l
    ∙ ap (λ t. t ++ codes "END\n")
    (append_assoc (codes "RECEIVED 1\n") (flat_map (sender_put list) table.senders) (flat_map (listener_put list) table.listeners)
    ∙ ap (λ t. codes "RECEIVED 1\n" ++ t)
    (ap (λ t. t ++ flat_map (listener_put list) table.listeners) (sym (flat_map-map (taker_text list) sender_taker table.senders))
    ∙ ap (λ t. flat_map (taker_text list) (map sender_taker table.senders) ++ t) (sym (flat_map-map (taker_text list) listener_taker table.listeners))
    ∙ sym (flat_map-append (taker_text list) (map sender_taker table.senders) (map listener_taker table.listeners))))
