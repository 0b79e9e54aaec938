-- What feeds mean for received lines.
use Rattle.std.proofs.Common.{arith, ◌≡◌, ◌≢◌, ℕ, ◌+◌, ◌≤◌, Bool, true, false, not, ◌&&◌, ◌==◌, List, [], ◌∷◌, ◌++◌, length, map, refl, ap, sym, ◌∙◌, subst}
use Rattle.std.specs.List.{All, Contains, filter, flat_map, zip}
use Rattle.std.proofs.lemmas.Bool.{and_parts}
use Rattle.std.proofs.lemmas.Bool.Decides.{nat_tests}
use Rattle.std.proofs.lemmas.List.Elements.{All-contains}
use Rattle.bus_strings.specs.Messages.{Wordstring, Entry, Message}
use Rattle.bus_strings.specs.Transmissions.{marks}
use Rattle.bus_table.specs.declared.line.SendLine.{SendLine}
use Rattle.bus_table.specs.declared.line.TakeLine.{TakeLine}
use Rattle.bus_table.specs.Tables.{Sender, Table}
use Rattle.bus_filter.specs.Received.{ReceivedLine, matches, received_line, string_lines, entry_lines, is_heard, heard}
use Rattle.bus_feeds.specs.Feeds.{feeds, has_feed, is_feeder, is_fed, always, never}
use Rattle.bus_feeds.specs.FeedLaws.{FitsTable, UnfedGivesNothing, UnfedAddsNothing, EachLineIsFed, EachFeedGives}
use Rattle.bus_feeds.proofs.Members.{from_map, to_map, from_filter, to_filter, from_flat_map, to_flat_map, from_zip, any_of, same_flat_map, filter_without, bool_cases}
use Rattle.bus_feeds.proofs.Strings.{IsOf, line_of, string_of, at_least, at_most}

not_false : (b : Bool) → not b ≡ true → b ≡ false
not_false true h = absurd (let wrong : false ≡ true = h in cc)
not_false false h = refl

-- what a terminal hears is of the list, and of another
heard_of : (number : ℕ) (list : List Entry) (x : Entry) → Contains (heard number list) x → Contains list x × ((x.terminal == number) ≡ false)
heard_of number list x w =
    let a = from_map (λ (marked : Entry × Bool). marked.0) (filter (is_heard number) (zip list (marks list))) x w in
    let b = from_filter (is_heard number) (zip list (marks list)) a.x a.stands in
    let c = from_zip list (marks list) a.x b.stands in
    let d = and_parts (not a.x.1) (not (a.x.0.terminal == number)) b.passes in
    (subst (Contains list) a.gives c, subst (λ (y : Entry). (y.terminal == number) ≡ false) a.gives (not_false (a.x.0.terminal == number) d.1))

-- the SEND line of another terminal that a wordstring is of, where it is heard
pub record Source (table : Table) (number : ℕ) (string : Wordstring) : Type 0 where
  pub sender : Sender
  pub send : SendLine
  pub stands : Contains table.senders sender
  pub other : (sender.number == number) ≡ false
  pub sends : Contains sender.sends send
  pub is : IsOf send string

source_of : (table : Table) (list : List Entry) (number : ℕ) (x : Entry) (string : Wordstring) → All (FitsTable table) list → Contains (heard number list) x → Contains x.message string → Source table number string
source_of table list number x string fit w v =
    let h = heard_of number list x w in
    let f = All-contains (FitsTable table) list x fit h.0 in
    let l = line_of f.sender.sends x.message string f.message v in
    record { sender = f.sender; send = l.send; stands = f.stands; other = subst (λ n. (n == number) ≡ false) (sym f.number) h.1; sends = l.stands; is = l.is }

-- a line that matches is fed by the SEND line
feeds_of : (send : SendLine) (take : TakeLine) (string : Wordstring) → IsOf send string → matches take string.label string.ext ≡ feeds send take
feeds_of send take string f = ap (λ l. matches take l string.ext) f.label ∙ ap (matches take send.label) f.ext

-- so the TAKE line is fed
fed_by : (table : Table) (number : ℕ) (take : TakeLine) (sender : Sender) (send : SendLine) → Contains table.senders sender → (sender.number == number) ≡ false → Contains sender.sends send → feeds send take ≡ true → is_fed table number take ≡ true
fed_by table number take sender send w o v h =
    any_of (is_feeder number take) table.senders sender w (ap (λ b. not b && has_feed take sender) o ∙ any_of (λ s. feeds s take) sender.sends send v h)

differs : (m n : ℕ) → (m == n) ≡ false → m ≢ n
differs m n h = grind (arith, nat_tests)

pub each_line : EachLineIsFed
each_line table list taker line fit w =
    let a = from_flat_map (entry_lines taker.takes) (heard taker.number list) line w in
    let b = from_flat_map (string_lines taker.takes a.x.moment) a.x.message line a.gives in
    let c = from_map (received_line a.x.moment b.x) (filter (λ l. matches l b.x.label b.x.ext) taker.takes) line b.gives in
    let d = from_filter (λ l. matches l b.x.label b.x.ext) taker.takes c.x c.stands in
    let s = source_of table list taker.number a.x b.x fit a.stands b.stands in
    record {
      take = c.x;
      takes = d.stands;
      transmission = a.x;
      is_heard = a.stands;
      string = b.x;
      stands = b.stands;
      gives = sym c.gives;
      sender = s.sender;
      sends = s.stands;
      other = differs s.sender.number taker.number s.other;
      send = s.send;
      of_sender = s.sends;
      feeds = sym (feeds_of s.send c.x b.x s.is) ∙ d.passes;
      label = s.is.label;
      ext = s.is.ext;
      all = subst (λ (l : ReceivedLine). always s.send c.x ≤ length l.words) c.gives (at_least s.send c.x b.x s.is);
      none = subst (λ (l : ReceivedLine). length l.words + never s.send c.x ≤ c.x.count) c.gives (at_most s.send c.x b.x s.is);
    }

-- a wordstring that is heard doesn't match a TAKE line that nothing feeds
unmatched : (table : Table) (list : List Entry) (number : ℕ) (take : TakeLine) (x : Entry) (string : Wordstring) → All (FitsTable table) list → is_fed table number take ≡ false → Contains (heard number list) x → Contains x.message string
    → matches take string.label string.ext ≡ false
unmatched table list number take x string fit none w v =
    let s = source_of table list number x string fit w v in
    bool_cases (matches take string.label string.ext) (λ h.
    let fed = fed_by table number take s.sender s.send s.stands s.other s.sends (sym (feeds_of s.send take string s.is) ∙ h) in
    let wrong : true ≡ false = sym fed ∙ none in cc)

pub adds_nothing : UnfedAddsNothing
adds_nothing table list number before take behind fit none =
    same_flat_map (entry_lines (before ++ take ∷ behind)) (entry_lines (before ++ behind)) (heard number list) (λ x w.
    same_flat_map (string_lines (before ++ take ∷ behind) x.moment) (string_lines (before ++ behind) x.moment) x.message (λ string v.
    ap (map (received_line x.moment string)) (filter_without (λ l. matches l string.label string.ext) before take behind (unmatched table list number take x string fit none w v))))

-- without TAKE lines nothing is received
none_of_strings : (moment : ℕ) (message : Message) → flat_map (string_lines [] moment) message ≡ []
none_of_strings moment [] = refl
none_of_strings moment (string ∷ message) = none_of_strings moment message

none_of_entries : (list : List Entry) → flat_map (entry_lines []) list ≡ []
none_of_entries [] = refl
none_of_entries (x ∷ list) = ap (λ l. l ++ flat_map (entry_lines []) list) (none_of_strings x.moment x.message) ∙ none_of_entries list

pub gives_nothing : UnfedGivesNothing
gives_nothing table list number take fit none = adds_nothing table list number [] take [] fit none ∙ none_of_entries (heard number list)

pub each_feed : EachFeedGives
each_feed list taker x sender send take w fit v t h =
    let s = string_of sender.sends x.message send fit v in
    let m : matches take s.string.label s.string.ext ≡ true = feeds_of send take s.string s.is ∙ h in
    let a = to_filter (λ l. matches l s.string.label s.string.ext) taker.takes take t m in
    let b = to_map (received_line x.moment s.string) (filter (λ l. matches l s.string.label s.string.ext) taker.takes) take a in
    let c = to_flat_map (string_lines taker.takes x.moment) x.message s.string (received_line x.moment s.string take) s.stands b in
    record {
      string = s.string;
      stands = s.stands;
      label = s.is.label;
      ext = s.is.ext;
      received = to_flat_map (entry_lines taker.takes) (heard taker.number list) x (received_line x.moment s.string take) w c;
      all = at_least send take s.string s.is;
    }
