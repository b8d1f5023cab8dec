-- Keys, values, properties, lists and tables: what the grammar tells is what is read.
use Rattle.std.proofs.Common.{◌≡◌, ℕ, ◌+◌, ◌<◌, ◌≤◌, Bool, true, false, cond, ◌&&◌, eqb, ltb, leb, ◌↔◌, List, [], ◌++◌, length, drop, Some, None, Ok, Option, sym, refl, ap, ◌∙◌, arith}
use Rattle.std.proofs.lemmas.List.{append-nil, take-append-drop}
use Rattle.std.proofs.lemmas.Bool.{le-leb, leb-true, eqb-true, eqb-false, ltb-true, ltb-false, eq-eqb, and_parts, and_from}
use Rattle.source.specs.declared.refusals.Reason.TheVariants.{FieldRule, Limit}
use Rattle.source.specs.Bytes.{part}
use Rattle.source.specs.Outcome.{Outcome, ◌>>=◌, ◌>>◌, need, given}
use Rattle.scan.specs.Texts.{is_text16}
use Rattle.scan.proofs.Numbers.{length_part}
use Rattle.index.specs.Keys.{Key, tag, numbered, named}
use Rattle.index.specs.Limits.{name_limit}
use Rattle.property.specs.declared.kinds.Kind.{Kind}
use Rattle.property.specs.declared.kinds.Shape.{Shape}
use Rattle.property.specs.Fields.{At, at, repeated, number_at, sized, whole}
use Rattle.property.specs.Kinds.{value, admits, width, shape_of}
use Rattle.property.specs.Names.{first_named, name_string, name_number, name, key_at}
use Rattle.property.specs.Values.{fixed_value, sized_value, fixed_values, sized_values, values_of, values_at}
use Rattle.property.specs.Lists.{Property, property_from, property_at, list_at, table_at, one_property, property_list, recipient_table, list_limit, row_limit}
use Rattle.message.specs.Grammar.{◌▷◌, these, number, sizing, run, key_bytes, fixed_bytes, sized_bytes, Many, values_bytes, property_bytes, list_bytes, table_bytes}
use Rattle.message.proofs.Outcomes.{bind_ok, need_ok}
use Rattle.message.proofs.Readers.{Laws, bind_laws, same_reads, same_laws, view_laws, checked_laws, give_laws, test_laws, given_laws, either_laws, repeated_laws, number_then, number_last, counted_laws, field_then, padding_laws, sized_laws}

-- A name behind its number, behind its GUID, and behind its kind.
abbrev name_bytes : Key → List ℕ → Type 0
name_bytes (tag i) bs = ⊥
name_bytes (numbered g n) bs = (length g ≡ 16) × (these g ▷ number 4 0 ▷ number 4 n) bs
name_bytes (named g s) bs = (length g ≡ 16) × (length s ≤ name_limit) × (is_text16 s ≡ true) × (these g ▷ number 4 1 ▷ sizing s) bs

abbrev behind_guid : List ℕ → Key → List ℕ → Type 0
behind_guid g (tag i) bs = ⊥
behind_guid g (numbered h n) bs = (h ≡ g) × (number 4 0 ▷ number 4 n) bs
behind_guid g (named h s) bs = (h ≡ g) × (length s ≤ name_limit) × (is_text16 s ≡ true) × (number 4 1 ▷ sizing s) bs

abbrev behind_kind : List ℕ → ℕ → Key → List ℕ → Type 0
behind_kind g f (tag i) bs = ⊥
behind_kind g f (numbered h n) bs = (h ≡ g) × (f ≡ 0) × number 4 n bs
behind_kind g f (named h s) bs = (h ≡ g) × (f ≡ 1) × (length s ≤ name_limit) × (is_text16 s ≡ true) × sizing s bs

abbrev behind_id : ℕ → Key → List ℕ → Type 0
behind_id i (tag j) bs = (i < first_named) × (j ≡ i) × (bs ≡ [])
behind_id i (numbered g n) bs = (first_named ≤ i) × name_bytes (numbered g n) bs
behind_id i (named g s) bs = (first_named ≤ i) × name_bytes (named g s) bs

module _ (xs : List ℕ) (end : ℕ) (fits : end ≤ length xs) (start : ℕ) where
  name_number_laws : (g : List ℕ) → Laws xs end (name_number xs end start g) (behind_kind g 0)
  unfolding name_number
  name_number_laws g = number_last xs end fits start 4 (numbered g) (behind_kind g 0) down (λ n bs w. (refl, refl, w))
    where
      down : (k : Key) (bs : List ℕ) → behind_kind g 0 k bs → (n : ℕ) × (numbered g n ≡ k) × number 4 n bs
      down (tag i) bs w = absurd w
      down (numbered h n) bs w = (n, ap (λ l. numbered l n) (sym w.0), w.2)
      down (named h s) bs w = absurd (omega arith)

  name_string_laws : (g : List ℕ) → Laws xs end (name_string xs end start g) (behind_kind g 1)
  unfolding name_string
  name_string_laws g =
      checked_laws xs end (λ s. leb (length s) name_limit && is_text16 s) FieldRule start (named g) (sized xs end start) sizing (behind_kind g 1) (sized_laws xs end fits start) down
      (λ s bs t w. let (a, b) = and_parts _ _ t in (refl, refl, leb-true _ _ a, b, w))
    where
      down : (k : Key) (bs : List ℕ) → behind_kind g 1 k bs → (s : List ℕ) × (named g s ≡ k) × ((leb (length s) name_limit && is_text16 s) ≡ true) × sizing s bs
      down (tag i) bs w = absurd w
      down (numbered h n) bs w = absurd (omega arith)
      down (named h s) bs w = (s, ap (λ l. named l s) (sym w.0), and_from _ _ (le-leb _ _ w.2) w.3, w.4)

  kind_laws : (g : List ℕ) (f : ℕ) → leb f 1 ≡ true → Laws xs end (λ q. cond (eqb f 0) (name_number xs end start g q) (name_string xs end start g q)) (behind_kind g f)
  kind_laws g f t =
      either_laws xs end (eqb f 0) _ _ _
      (λ e. rw (eqb-true f 0 e) (name_number_laws g))
      (λ e. let n = eqb-false f 0 e in let m = leb-true f 1 t in let one : f ≡ 1 = omega arith in rw one (name_string_laws g))

  guid_laws : (g : List ℕ) → Laws xs end (λ q. number_at xs end start q 4 >>= (λ k. need (leb k 1) FieldRule start >> cond (eqb k 0) (name_number xs end start g (q + 4)) (name_string xs end start g (q + 4)))) (behind_guid g)
  guid_laws g =
      number_then xs end fits start 4 (λ k q. need (leb k 1) FieldRule start >> cond (eqb k 0) (name_number xs end start g q) (name_string xs end start g q))
      (λ f k bs. (leb f 1 ≡ true) × behind_kind g f k bs) (behind_guid g)
      (λ f. test_laws xs end (leb f 1) FieldRule start _ _ (λ t. kind_laws g f t)) down up
    where
      down : (k : Key) (bs : List ℕ) → behind_guid g k bs → (f : ℕ) × (number 4 f ▷ (λ cs. (leb f 1 ≡ true) × behind_kind g f k cs)) bs
      down (tag i) bs w = absurd w
      down (numbered h n) bs w = (0, record { front = w.1.front; back = w.1.back; joins = w.1.joins; one = w.1.one; other = (refl, (w.0, refl, w.1.other)) })
      down (named h s) bs w = (1, record { front = w.3.front; back = w.3.back; joins = w.3.joins; one = w.3.one; other = (refl, (w.0, refl, w.1, w.2, w.3.other)) })

      up : (f : ℕ) (k : Key) (bs : List ℕ) → (number 4 f ▷ (λ cs. (leb f 1 ≡ true) × behind_kind g f k cs)) bs → behind_guid g k bs
      up f (tag i) bs w = absurd w.other.1
      up f (numbered h n) bs w = (w.other.1.0, record { front = w.front; back = w.back; joins = w.joins; one = rw w.other.1.1 at w.one; other = w.other.1.2 })
      up f (named h s) bs w = (w.other.1.0, w.other.1.2, w.other.1.3, record { front = w.front; back = w.back; joins = w.joins; one = rw w.other.1.1 at w.one; other = w.other.1.4 })

  name_laws : Laws xs end (name xs end start) name_bytes
  unfolding name
  name_laws =
      same_reads xs end _ _ name_bytes (λ p. let far : p + 20 ≡ p + 16 + 4 = omega arith in rw far)
      (field_then xs end fits start 16 (λ g q. number_at xs end start q 4 >>= (λ k. need (leb k 1) FieldRule start >> cond (eqb k 0) (name_number xs end start g (q + 4)) (name_string xs end start g (q + 4))))
      behind_guid name_bytes guid_laws down up)
    where
      down : (k : Key) (bs : List ℕ) → name_bytes k bs → (g : List ℕ) × ((λ cs. (length cs ≡ 16) × (cs ≡ g)) ▷ behind_guid g k) bs
      down (tag i) bs w = absurd w
      down (numbered h n) bs w = (h, record { front = w.1.front; back = w.1.back; joins = w.1.joins; one = (ap length w.1.one ∙ w.0, w.1.one); other = (refl, w.1.other) })
      down (named h s) bs w = (h, record { front = w.3.front; back = w.3.back; joins = w.3.joins; one = (ap length w.3.one ∙ w.0, w.3.one); other = (refl, w.1, w.2, w.3.other) })

      up : (g : List ℕ) (k : Key) (bs : List ℕ) → ((λ cs. (length cs ≡ 16) × (cs ≡ g)) ▷ behind_guid g k) bs → name_bytes k bs
      up g (tag i) bs w = absurd w.other
      up g (numbered h n) bs w = (ap length (w.other.0 ∙ sym w.one.1) ∙ w.one.0, record { front = w.front; back = w.back; joins = w.joins; one = w.one.1 ∙ sym w.other.0; other = w.other.1 })
      up g (named h s) bs w =
          (ap length (w.other.0 ∙ sym w.one.1) ∙ w.one.0, w.other.1, w.other.2, record { front = w.front; back = w.back; joins = w.joins; one = w.one.1 ∙ sym w.other.0; other = w.other.3 })

  behind_id_laws : (i : ℕ) → Laws xs end (λ q. cond (ltb i first_named) (Ok (at (tag i) q)) (name xs end start q)) (behind_id i)
  behind_id_laws i =
      either_laws xs end (ltb i first_named) _ _ _
      (λ e. same_laws xs end _ _ _ (give_laws xs end (tag i)) (low (ltb-true i first_named e)) (λ k bs g. rw g.0 (ltb-true i first_named e, refl, g.1)))
      (λ e. same_laws xs end _ _ _ name_laws (high (ltb-false i first_named e)) (back (ltb-false i first_named e)))
    where
      low : i < first_named → (k : Key) (bs : List ℕ) → behind_id i k bs → (k ≡ tag i) × (bs ≡ [])
      low m (tag j) bs w = (ap tag w.1, w.2)
      low m (numbered g n) bs w = absurd (omega arith)
      low m (named g s) bs w = absurd (omega arith)

      high : first_named ≤ i → (k : Key) (bs : List ℕ) → behind_id i k bs → name_bytes k bs
      high m (tag j) bs w = absurd (omega arith)
      high m (numbered g n) bs w = w.1
      high m (named g s) bs w = w.1

      back : first_named ≤ i → (k : Key) (bs : List ℕ) → name_bytes k bs → behind_id i k bs
      back m (tag j) bs w = absurd w
      back m (numbered g n) bs w = (m, w)
      back m (named g s) bs w = (m, w)

  key_laws : Laws xs end (key_at xs end start) key_bytes
  unfolding key_at
  key_laws = number_then xs end fits start 2 (λ i q. cond (ltb i first_named) (Ok (at (tag i) q)) (name xs end start q)) behind_id key_bytes behind_id_laws down up
    where
      down : (k : Key) (bs : List ℕ) → key_bytes k bs → (i : ℕ) × (number 2 i ▷ behind_id i k) bs
      down (tag j) bs w = (j, record { front = bs; back = []; joins = sym (append-nil bs); one = w.1; other = (w.0, refl, refl) })
      down (numbered g n) bs (i, large, lg, w) = (i, record { front = w.front; back = w.back; joins = w.joins; one = w.one; other = (large, (lg, w.other)) })
      down (named g s) bs (i, large, lg, ls, ts, w) = (i, record { front = w.front; back = w.back; joins = w.joins; one = w.one; other = (large, (lg, ls, ts, w.other)) })

      up : (i : ℕ) (k : Key) (bs : List ℕ) → (number 2 i ▷ behind_id i k) bs → key_bytes k bs
      up i (tag j) bs w =
          let same : bs ≡ w.front = w.joins ∙ ap (λ l. w.front ++ l) w.other.2 ∙ append-nil w.front in
          let small : i < first_named = w.other.0 in
          let is : j ≡ i = w.other.1 in
          (omega arith, rw (same, is) w.one)
      up i (numbered g n) bs w = (i, w.other.0, w.other.1.0, record { front = w.front; back = w.back; joins = w.joins; one = w.one; other = w.other.1.1 })
      up i (named g s) bs w = (i, w.other.0, w.other.1.0, w.other.1.1, w.other.1.2, record { front = w.front; back = w.back; joins = w.joins; one = w.one; other = w.other.1.3 })

  -- Values.
  fixed_laws : (k : Kind) (w : ℕ) → Laws xs end (fixed_value xs end start k w) (fixed_bytes k w)
  unfolding fixed_value
  fixed_laws k w = padding_laws xs end fits start (value k) w

  sized_value_laws : (k : Kind) → Laws xs end (sized_value xs end start k) (sized_bytes k)
  unfolding sized_value
  sized_value_laws k =
      checked_laws xs end (admits k) FieldRule start (value k) (sized xs end start) sizing (sized_bytes k) (sized_laws xs end fits start)
      (λ v bs g. let (s, ok, is, w) = g in (s, sym is, ok, w)) (λ s bs ok w. (s, ok, refl, w))

  fixed_values_laws : (k : Kind) (w : ℕ) (several : Bool) → Laws xs end (fixed_values xs end start k w several) (values_bytes (Some w) k several)
  unfolding fixed_values
  fixed_values_laws k w false = repeated_laws xs end _ _ (fixed_laws k w) 1
  fixed_values_laws k w true =
      number_then xs end fits start 4 (λ n q. repeated (fixed_value xs end start k w) n q) (λ n vs bs. (length vs ≡ n) × run (fixed_bytes k w) vs bs) _
      (λ n. repeated_laws xs end _ _ (fixed_laws k w) n)
      (λ vs bs g. (length vs, record { front = g.front; back = g.back; joins = g.joins; one = g.one; other = (refl, g.other) }))
      (λ n vs bs g. rw g.other.0 (record { front = g.front; back = g.back; joins = g.joins; one = g.one; other = g.other.1 }))

  sized_values_laws : (k : Kind) (several : Bool) → Laws xs end (sized_values xs end start k several) (values_bytes None k several)
  unfolding sized_values
  sized_values_laws k several =
      same_laws xs end _ _ _ (counted_laws xs end fits start (sized_value xs end start k) (sized_bytes k) (sized_value_laws k) (λ n. cond several (leb 1 n) (eqb n 1)) FieldRule start)
      (λ vs bs g. (enough several (length vs) g.0, g.1)) (λ vs bs g. (many several (length vs) g.0, g.1))
    where
      enough : (several : Bool) (n : ℕ) → Many several n → cond several (leb 1 n) (eqb n 1) ≡ true
      enough true n m = le-leb 1 n m
      enough false n m = eq-eqb n 1 m

      many : (several : Bool) (n : ℕ) → cond several (leb 1 n) (eqb n 1) ≡ true → Many several n
      many true n e = leb-true 1 n e
      many false n e = eqb-true n 1 e

  values_of_laws : (o : Option ℕ) (k : Kind) (several : Bool) → Laws xs end (values_of xs end start o k several) (values_bytes o k several)
  values_of_laws (Some w) k several = fixed_values_laws k w several
  values_of_laws None k several = sized_values_laws k several

  abbrev shaped : Shape → Property → List ℕ → Type 0
  shaped s p = values_bytes (width s.kind) s.kind s.several p.values

  values_laws : (s : Shape) → Laws xs end (values_at xs end start s) (values_bytes (width s.kind) s.kind s.several)
  unfolding values_at
  values_laws s = values_of_laws (width s.kind) s.kind s.several

  -- Properties, of which a refusal stands at `start`.
  from_laws : (t : ℕ) (s : Shape) → shape_of t ≡ Some s → (k : Key) → Laws xs end (λ q. property_from xs end start t (at k q)) (λ p bs. (p.type ≡ t) × (p.key ≡ k) × shaped s p bs)
  unfolding property_from
  from_laws t s is k =
      same_laws xs end _ _ _
      (given_laws xs end (shape_of t) FieldRule start (λ s q. values_at xs end start s q >>= (λ v. Ok (at (record { key = k; type = t; values = v.what }) v.next)))
      (λ s p bs. (p.type ≡ t) × (p.key ≡ k) × shaped s p bs)
      (λ s₁ is₁. view_laws xs end (λ vs. record { key = k; type = t; values = vs }) _ _ _ (values_laws s₁) (λ p bs g. (p.values, rw (← g.0, ← g.1), g.2)) (λ vs bs g. (refl, refl, g))))
      (λ p bs g. (s, is, g))
      (λ p bs g. let (s₁, is₁, g₁) = g in let same : s₁ ≡ s = cc in rw same at g₁)

  typed_laws : Laws xs end (λ p. number_at xs end start p 2 >>= (λ t. given (shape_of t) FieldRule start >>= (λ s. key_at xs end start (p + 2) >>= (λ k. property_from xs end start t k)))) property_bytes
  typed_laws =
      number_then xs end fits start 2 (λ t q. given (shape_of t) FieldRule start >>= (λ s. key_at xs end start q >>= (λ k. property_from xs end start t k)))
      (λ t p bs. (s : Shape) × (shape_of t ≡ Some s) × ((p.type ≡ t) × (key_bytes p.key ▷ shaped s p) bs)) property_bytes
      (λ t. given_laws xs end (shape_of t) FieldRule start (λ s q. key_at xs end start q >>= (λ k. property_from xs end start t k)) (λ s p bs. (p.type ≡ t) × (key_bytes p.key ▷ shaped s p) bs)
      (λ s is. bind_laws xs end (key_at xs end start) key_bytes (λ k q. property_from xs end start t (at k q)) (λ k p bs. (p.type ≡ t) × (p.key ≡ k) × shaped s p bs) _ key_laws (from_laws t s is)
      (λ p bs g. (p.key, record { front = g.1.front; back = g.1.back; joins = g.1.joins; one = g.1.one; other = (g.0, refl, g.1.other) }))
      (λ k p bs g. (g.other.0, record { front = g.front; back = g.back; joins = g.joins; one = rw g.other.1 g.one; other = g.other.2 }))))
      (λ p bs g. let (s, is, w) = g in (p.type, record { front = w.front; back = w.back; joins = w.joins; one = w.one; other = (s, is, (refl, w.other)) }))
      (λ t p bs g. let (s, is, (same, w)) = g.other in (s, ap shape_of same ∙ is, record { front = g.front; back = g.back; joins = g.joins; one = rw same g.one; other = w }))

module _ (xs : List ℕ) (end : ℕ) (fits : end ≤ length xs) where
  property_laws : Laws xs end (property_at xs end) property_bytes
  unfolding property_at
  property_laws = record { back = λ p. (typed_laws xs end fits p).back p; gives = λ p. (typed_laws xs end fits p).gives p }

  list_laws : Laws xs end (list_at xs end) list_bytes
  unfolding list_at
  list_laws =
      let at_start : (start : ℕ) → Laws xs end (λ p. number_at xs end start p 4 >>= (λ n. need (leb n list_limit) Limit start >> repeated (property_at xs end) n (p + 4))) list_bytes = λ start.
      same_laws xs end _ _ _ (counted_laws xs end fits start (property_at xs end) property_bytes property_laws (λ n. leb n list_limit) Limit start)
      (λ ps bs g. (le-leb _ _ g.0, g.1)) (λ ps bs g. (leb-true _ _ g.0, g.1)) in
      record { back = λ p. (at_start p).back p; gives = λ p. (at_start p).gives p }

  table_laws : Laws xs end (table_at xs end) table_bytes
  unfolding table_at
  table_laws =
      let at_start : (start : ℕ) → Laws xs end (λ p. number_at xs end start p 4 >>= (λ n. need (leb n row_limit) Limit start >> repeated (list_at xs end) n (p + 4))) table_bytes = λ start.
      same_laws xs end _ _ _ (counted_laws xs end fits start (list_at xs end) list_bytes list_laws (λ n. leb n row_limit) Limit start)
      (λ ps bs g. (le-leb _ _ g.0, g.1)) (λ ps bs g. (leb-true _ _ g.0, g.1)) in
      record { back = λ p. (at_start p).back p; gives = λ p. (at_start p).gives p }

-- What fills its data.
split_part : (xs : List ℕ) (p n : ℕ) → drop p xs ≡ part xs p n ++ drop n (drop p xs)
unfolding part
split_part xs p n = sym (take-append-drop n (drop p xs))

whole_ok : {A : Type 0} (end : ℕ) (r : At A) (a : A) → whole end r ≡ Ok a → (r.next ≡ end) × (r.what ≡ a)
unfolding whole
whole_ok end r a e = let (t, e₁) = need_ok _ _ _ _ _ e in (eqb-true _ _ t, cc)

whole_told : {A : Type 0} (xs : List ℕ) (base n : ℕ) (read : ℕ → Outcome (At A)) (G : A → List ℕ → Type 0) (a : A) → base + n ≤ length xs → Laws xs (base + n) read G →
    ((read base >>= whole (base + n)) ≡ Ok a) ↔ G a (part xs base n)
unfolding whole ◌>>=◌ ◌>>◌
whole_told xs base n read G a fits l = (
  λ e.
      let (r, er, e₁) = bind_ok _ _ _ e in
      let (last, is) = whole_ok (base + n) r a e₁ in
      let (m, nm, im, g) = l.gives base r (omega arith) er in
      let same : m ≡ n = omega arith in
      rw (same, is) at g,
  λ g.
      let long : length (part xs base n) ≡ n = length_part xs base n fits in
      let next : base + length (part xs base n) ≡ base + n = ap (λ k. base + k) long in
      rw (l.back base a (part xs base n) _ g (split_part xs base n) (omega arith), next, eq-eqb (base + n) (base + n) refl),
)

pub list_told : (xs : List ℕ) (base n : ℕ) (ps : List Property) → base + n ≤ length xs → (property_list xs base (base + n) ≡ Ok ps) ↔ list_bytes ps (part xs base n)
unfolding property_list
list_told xs base n ps fits = whole_told xs base n (list_at xs (base + n)) list_bytes ps fits (list_laws xs (base + n) fits)

pub table_told : (xs : List ℕ) (base n : ℕ) (rs : List (List Property)) → base + n ≤ length xs → (recipient_table xs base (base + n) ≡ Ok rs) ↔ table_bytes rs (part xs base n)
unfolding recipient_table
table_told xs base n rs fits = whole_told xs base n (table_at xs (base + n)) table_bytes rs fits (table_laws xs (base + n) fits)

pub property_told : (xs : List ℕ) (base n : ℕ) (p : Property) → base + n ≤ length xs → (one_property xs base (base + n) ≡ Ok p) ↔ property_bytes p (part xs base n)
unfolding one_property
property_told xs base n p fits = whole_told xs base n (property_at xs (base + n)) property_bytes p fits (property_laws xs (base + n) fits)
