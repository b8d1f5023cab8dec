-- Forms are read again, are octets, and decide which messages are the same.
use Rattle.std.proofs.Common.{◌≡◌, ℕ, suc, ◌+◌, ◌<◌, true, false, ◌⊎◌, ◌↔◌, List, [], ◌∷◌, ◌++◌, map, length, Some, None, Ok, sum_by, sym, refl, ap, ◌∙◌, inl, inr, arith}
use mathlib.Core.Path.{fun_ext}
use Rattle.std.specs.List.{flat_map, AllByRecursion}
use Rattle.std.proofs.lemmas.List.{length-append}
use Rattle.std.proofs.lemmas.List.Sums.{sum_by-cons}
use Rattle.scan.proofs.Numbers.{length_le}
use Rattle.std.proofs.ByRecursion.{All-weaker, All-append}
use Rattle.std.proofs.lemmas.Bool.{cases_Bool, or_parts}
use Rattle.source.specs.Bytes.{Octets}
use Rattle.frame.specs.Frames.{signature}
use Rattle.frame.specs.declared.stages.Stage.{Stage}
use Rattle.frame.specs.declared.stages.Stage.TheVariants as stage
use Rattle.index.specs.Keys.{Key, same_key}
use Rattle.index.specs.Rows.{has}
use Rattle.index.specs.SameKeys.{key_itself, same_key_true}
use Rattle.property.specs.Lists.{Property, same_property}
use Rattle.message.specs.declared.Target.TheVariants.{Message as to_message, Row as to_row, Attachment as to_attachment}
use Rattle.stream.specs.Messages.{Holding, Message, message_of, read}
use Rattle.stream.specs.Reading.{Entry}
use Rattle.stream.specs.Writing.{entries_in, entry_data, write_entry, written}
use Rattle.message.specs.Promise.{FormsRead}
use Rattle.message.specs.Sameness.{nth, row_holding, contents_held, property_in, property_held, keys_held, Same, IsMessage}
use Rattle.message.specs.Grammar.{Stream}
use Rattle.message.proofs.Indexing.{ApartKeys, WellList}
use Rattle.message.proofs.Laying.{Good, LaidAs, good_laid, Well, WellAttachment, message_good}
use Rattle.message.proofs.Telling.{message_back}
use Rattle.message.proofs.Orders.{allowed_ordered}
use Rattle.message.proofs.FrameReads.{entry}
use Rattle.message.proofs.Earliest.{tells, same_message}
use Rattle.message.proofs.Streams.{by_grammar}
use Rattle.message.proofs.Carried.{stream_well}

pub well : (m : Message) → IsMessage m → Well m
well m (xs, (o, l), c) = stream_well xs m o l ((by_grammar xs m).0 c)

form_laid : (m : Message) → Well m → LaidAs stage.Version (entries_in m) (flat_map write_entry (entries_in m))
form_laid m w = good_laid (entries_in m) stage.Version (message_good m w)

-- A form is a stream that carries its message.
form_stream : (m : Message) → Well m → Stream (written m) m
unfolding written
form_stream m w =
    let l = form_laid m w in
    let bs = flat_map write_entry (entries_in m) in
    let key = 1 ∷ (0 ∷ []) in
    let order = allowed_ordered l.frames l.allowed in
    let whole : message_of (map entry l.frames) ≡ m = ap message_of l.tells ∙ message_back m w in
    record {
      frames = l.frames;
      bytes = record { front = signature; back = key ++ bs; joins = refl; one = refl; other = record { front = key; back = bs; joins = refl; one = refl; other = l.bytes } };
      right = l.right;
      order = order;
      tells = rw whole at (tells l.frames order l.right);
    }

pub form_read : (m : Message) → Well m → read (written m) ≡ Ok m
form_read m w = (by_grammar (written m) m).1 (form_stream m w)

pub form_octets : (m : Message) → Well m → Octets (written m)
unfolding written
form_octets m w = All-append _ (signature ++ 1 ∷ (0 ∷ [])) _ (omega arith, (omega arith, (omega arith, (omega arith, (omega arith, (omega arith, tt)))))) (form_laid m w).octets

absent : (ps : List Property) (p : Property) (k : Key) → p.key ≡ k → has same_property ps p ≡ false → property_in ps k ≡ None
absent [] p k is e = refl
absent (q ∷ ps) p k is e =
    let (a, b) = or_parts (same_property q p) (has same_property ps p) e in
    rw (ap (same_key q.key) (sym is) ∙ a) (absent ps p k is b)

abbrev keys : List Property → List Key
keys ps = map (λ p. p.key) ps

-- Lists with the same keys in the same order and the same property under each.
lists_equal : (ps qs : List Property) → ApartKeys ps → ApartKeys qs → keys ps ≡ keys qs → ((k : Key) → property_in ps k ≡ property_in qs k) → ps ≡ qs
lists_equal [] [] a b order at = refl
lists_equal [] (q ∷ qs) a b order at = absurd (let z : ◌≡◌ {A = ℕ} 0 1 = cc in omega arith)
lists_equal (p ∷ ps) [] a b order at = absurd (let z : ◌≡◌ {A = ℕ} 0 1 = cc in omega arith)
lists_equal (p ∷ ps) (q ∷ qs) a b order at =
    let key : p.key ≡ q.key = cc in
    let rest : keys ps ≡ keys qs = cc in
    let here : property_in (p ∷ ps) p.key ≡ Some p = rw (key_itself p.key) in
    let there : property_in (q ∷ qs) q.key ≡ Some q = rw (key_itself q.key) in
    let both : Some p ≡ Some q = sym here ∙ at p.key ∙ ap (property_in (q ∷ qs)) key ∙ there in
    let same : p ≡ q = cc in
    rw (same, lists_equal ps qs a.1 b.1 rest (λ k. behind k (cases_Bool (same_key p.key k))))
  where
    behind : (k : Key) → (same_key p.key k ≡ true) ⊎ (same_key p.key k ≡ false) → property_in ps k ≡ property_in qs k
    behind k (inl t) =
        let is : p.key ≡ k = same_key_true p.key k t in
        let is' : q.key ≡ k = cc in
        absent ps p k is a.0 ∙ sym (absent qs q k is' b.0)
    behind k (inr f) =
        let key : p.key ≡ q.key = cc in
        let f' : same_key q.key k ≡ false = ap (λ l. same_key l k) (sym key) ∙ f in
        let e : property_in (p ∷ ps) k ≡ property_in (q ∷ qs) k = at k in
        rw (f, f') at e

rows_equal : (rs qs : List (List Property)) → length rs ≡ length qs → AllByRecursion ApartKeys rs → AllByRecursion ApartKeys qs →
    ((r : ℕ) (k : Key) → property_held (row_holding (nth rs r)) k ≡ property_held (row_holding (nth qs r)) k) →
    ((r : ℕ) → keys_held (row_holding (nth rs r)) ≡ keys_held (row_holding (nth qs r))) → rs ≡ qs
rows_equal [] [] l a b at order = refl
rows_equal [] (q ∷ qs) l a b at order = absurd (omega arith)
rows_equal (p ∷ ps) [] l a b at order = absurd (omega arith)
rows_equal (p ∷ ps) (q ∷ qs) l a b at order =
    let one : p ≡ q = lists_equal p q a.0 b.0 (order 0) (at 0) in
    let more : ps ≡ qs = rows_equal ps qs (omega arith) a.1 b.1 (λ r. at (suc r)) (λ r. order (suc r)) in
    cc

holding_equal : (h g : Holding) → ApartKeys h.properties → ApartKeys g.properties → ((i : ℕ) → h.attributes i ≡ g.attributes i) →
    keys h.properties ≡ keys g.properties → ((k : Key) → property_in h.properties k ≡ property_in g.properties k) → h ≡ g
holding_equal h g a b at order under =
    ap (λ f. record { attributes = f; properties = h.properties }) (fun_ext at)
    ∙ ap (λ l. record { attributes = g.attributes; properties = l }) (lists_equal h.properties g.properties a b order under)

holdings_equal : (hs gs : List Holding) → length hs ≡ length gs → AllByRecursion WellAttachment hs → AllByRecursion WellAttachment gs →
    ((r i : ℕ) → contents_held (nth hs r) i ≡ contents_held (nth gs r) i) →
    ((r : ℕ) (k : Key) → property_held (nth hs r) k ≡ property_held (nth gs r) k) →
    ((r : ℕ) → keys_held (nth hs r) ≡ keys_held (nth gs r)) → hs ≡ gs
holdings_equal [] [] l a b c at order = refl
holdings_equal [] (g ∷ gs) l a b c at order = absurd (omega arith)
holdings_equal (h ∷ hs) [] l a b c at order = absurd (omega arith)
holdings_equal (h ∷ hs) (g ∷ gs) l a b c at order =
    let one : h ≡ g = holding_equal h g a.0.holds.list_well.1 b.0.holds.list_well.1 (c 0) (order 0) (at 0) in
    let more : hs ≡ gs = holdings_equal hs gs (omega arith) a.1 b.1 (λ r. c (suc r)) (λ r. at (suc r)) (λ r. order (suc r)) in
    cc

apart_rows : (rs : List (List Property)) → AllByRecursion WellList rs → AllByRecursion ApartKeys rs
apart_rows rs w = All-weaker WellList ApartKeys (λ ps v. v.1) rs w

-- Well-formed messages that are the same are equal.
pub same_equal : (m n : Message) → Well m → Well n → Same m n → m ≡ n
same_equal m n v w s =
    let a : m.primary ≡ n.primary = s.primary in
    let b : m.own ≡ n.own = holding_equal m.own n.own v.own_well.list_well.1 w.own_well.list_well.1 (s.contents to_message) (s.order to_message) (s.properties to_message) in
    let c : m.rows ≡ n.rows = rows_equal m.rows n.rows s.rows (apart_rows m.rows v.rows_well) (apart_rows n.rows w.rows_well) (λ r. s.properties (to_row r)) (λ r. s.order (to_row r)) in
    let d : m.attachments ≡ n.attachments =
    holdings_equal m.attachments n.attachments s.attachments v.attachments_well w.attachments_well
    (λ r. s.contents (to_attachment r)) (λ r. s.properties (to_attachment r)) (λ r. s.order (to_attachment r)) in
    same_message a b c d

pub equal_same : (m n : Message) → m ≡ n → Same m n
equal_same m n e = rw e (record { primary = refl; rows = refl; attachments = refl; contents = λ t i. refl; properties = λ t k. refl; order = λ t. refl })

pub forms_decide : (m n : Message) → IsMessage m → IsMessage n → (written m ≡ written n) ↔ Same m n
forms_decide m n a b =
    let v = well m a in
    let w = well n b in (
      λ e. let both : Ok m ≡ Ok n = sym (form_read m v) ∙ ap read e ∙ form_read n w in let same : m ≡ n = cc in equal_same m n same,
      λ s. ap written (same_equal m n v w s),
    )

good_lengths : (es : List Entry) (s : Stage) → Good s es → AllByRecursion (λ e. length (entry_data e.meant) < 0x80000000) es
good_lengths [] s g = tt
good_lengths (e ∷ es) s (a, t, f, go, g) = (f.data_small, good_lengths es t g)

entry_size : (e : Entry) → length (write_entry e) ≡ 11 + length (entry_data e.meant)
unfolding write_entry
entry_size e = simp (length-append, length_le) (omega arith)

entries_size : (es : List Entry) → length (flat_map write_entry es) ≡ sum_by (λ e. 11 + length (entry_data e.meant)) es
entries_size [] = refl
entries_size (e ∷ es) =
    length-append (write_entry e) (flat_map write_entry es)
    ∙ omega (arith, entry_size e, entries_size es, sum_by-cons (λ e. 11 + length (entry_data e.meant)) e es)

form_size : (m : Message) → length (written m) ≡ 6 + sum_by (λ e. 11 + length (entry_data e.meant)) (entries_in m)
unfolding written
form_size m = length-append (signature ++ 1 ∷ (0 ∷ [])) (flat_map write_entry (entries_in m)) ∙ ap (λ n. 6 + n) (entries_size (entries_in m))

pub forms_read : FormsRead
forms_read = record {
  again = λ m a. form_read m (well m a);
  fixed = λ m n a c. let both : Ok m ≡ Ok n = sym (form_read m (well m a)) ∙ c in let same : n ≡ m = cc in ap written same;
  octets = λ m a. form_octets m (well m a);
  size = form_size;
  lengths = λ m a. good_lengths (entries_in m) stage.Version (message_good m (well m a));
}
