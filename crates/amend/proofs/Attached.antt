-- Attachments one after another: those before a place, the one there and those behind it.
use Rattle.std.proofs.Common.{◌≡◌, ℕ, zero, suc, ◌<◌, ◌≤◌, true, List, [], ◌∷◌, ◌++◌, length, take, drop, is_some, Some, None, Option, sym, refl, ap, ◌∙◌, append-nil, arith}
use Rattle.std.specs.List.{flat_map}
use Rattle.std.proofs.lemmas.Bool.{eq-eqb}
use Rattle.attribute.specs.Table.{attribute_of, rendering_id}
use Rattle.attribute.specs.declared.Rule.TheVariants as rule
use Rattle.frame.specs.Frames.{next_frame}
use Rattle.frame.specs.declared.Frame.{Frame}
use Rattle.frame.specs.declared.stages.Stage.{Stage}
use Rattle.contents.specs.Writing.{known}
use Rattle.stream.specs.Reading.{Entry}
use Rattle.stream.specs.Messages.{Holding, holding_of, attachment_parts}
use Rattle.stream.specs.Writing.{write_entry, attribute_entries, attachment_entries}
use Rattle.form.specs.Framing.{framed}
use Rattle.form.specs.Targets.{remaining, Readable, own_part, past_part}
use Rattle.form.specs.Wholes.{Rendered, attached, all_attached}
use Rattle.form.proofs.Walks.{steps, ends}
use Rattle.form.proofs.Holds.{joined_append}
use Rattle.form.proofs.Beginnings.{later_parts, past_rendered, head}
use Rattle.contents.specs.Contents.{Contents, means, admits, normal_data, normal_of}
use Rattle.message.specs.Sameness.{nth}
use Rattle.editing.specs.Amendments as spec
use Rattle.editing.specs.Amendments.{change_at}
use Rattle.editing.specs.Edits.{bare_attachment}
use Rattle.editing.specs.Slots.{without_nth}
use Rattle.amend.specs.Attachments.{attachments_in, attachments_bytes, first_touched, nth_touched}

-- The frames of attachments, one by one.
pub bytes_none : attachments_bytes [] ≡ []
unfolding attachments_bytes
bytes_none = refl

pub bytes_append : (hs ks : List Holding) → attachments_bytes (hs ++ ks) ≡ attachments_bytes hs ++ attachments_bytes ks
unfolding attachments_bytes
bytes_append hs ks = ap (flat_map write_entry) (joined_append attachment_entries hs ks) ∙ joined_append write_entry (flat_map attachment_entries hs) (flat_map attachment_entries ks)

pub bytes_cons : (h : Holding) (hs : List Holding) → attachments_bytes (h ∷ hs) ≡ flat_map write_entry (attachment_entries h) ++ attachments_bytes hs
unfolding attachments_bytes
bytes_cons h hs = joined_append write_entry (attachment_entries h) (flat_map attachment_entries hs)

pub all_bytes : (es : List Entry) → all_attached es ≡ attachments_bytes (attachments_in es)
unfolding all_attached attachments_bytes attachments_in
all_bytes es = refl

-- The first attachment among entries that begin with a rendering.
first_held : (e : Entry) (es : List Entry) → e.id ≡ rendering_id → attachments_in (e ∷ es) ≡ holding_of (own_part (e ∷ es)) ∷ attachments_in (past_part (e ∷ es))
unfolding attachments_in own_part past_part attachment_parts
first_held e es d = rw (eq-eqb e.id rendering_id d, later_parts es)

nothing_held : attachments_in [] ≡ []
unfolding attachments_in attachment_parts
nothing_held = refl

pub past_held : (es : List Entry) → Rendered es → attachments_in (past_part es) ≡ drop 1 (attachments_in es)
unfolding past_part
past_held [] r = rw nothing_held
past_held (e ∷ es) r = sym (ap (drop 1) (first_held e es r))

module _ (xs : List ℕ) (p : ℕ) (s : Stage) (g : Readable xs p s) where
  pub none_held : length xs ≤ p → attachments_in (remaining xs p s) ≡ []
  none_held h = by_next (known (next_frame xs p s)) refl
    where
      by_next : (o : Option Frame) → known (next_frame xs p s) ≡ o → attachments_in (remaining xs p s) ≡ []
      by_next None o = ap attachments_in (ends xs p s g o).0 ∙ nothing_held
      by_next (Some f) o = let k = (steps xs p s g f o).stands in absurd (omega (arith, k.next, k.within))

  pub more_held : Rendered (remaining xs p s) → p < length xs → (q : ℕ) (t : Stage) → remaining xs q t ≡ past_part (remaining xs p s)
      → attachments_in (remaining xs p s) ≡ holding_of (own_part (remaining xs p s)) ∷ attachments_in (remaining xs q t)
  more_held r h q t e = let (x, es, m, d) = head xs p s g r h in rw (e, m) (first_held x es d)

-- One attachment more of those that are left.
pub left_more : (n m : ℕ) (es : List Entry) (hs ks : List Holding) → n ≡ suc m → hs ≡ holding_of es ∷ ks
    → attachments_bytes (take n hs) ≡ attached es ++ attachments_bytes (take m ks)
unfolding attached
left_more n m es hs ks z e = rw (z, e) (bytes_cons (holding_of es) (take m ks))

pub left_behind : (n m : ℕ) (es : List Entry) (hs ks all : List Holding) → n ≡ suc m → hs ≡ holding_of es ∷ ks → drop n hs ≡ all → drop m ks ≡ all
left_behind n m es hs ks all z e f = rw (z, e) at f

-- Nothing is left.
pub left_none : (n : ℕ) (hs all : List Holding) → n ≤ 0 → drop n hs ≡ all → (attachments_bytes (take n hs) ≡ []) × (hs ≡ all)
left_none zero hs all z e = (bytes_none, e)
left_none (suc n) hs all z e = absurd (omega arith)

pub left_empty : (n : ℕ) (hs all : List Holding) → hs ≡ [] → drop n hs ≡ all → (attachments_bytes (take n hs) ≡ []) × (hs ≡ all)
left_empty zero hs all z e = (bytes_none, e)
left_empty (suc n) hs all z e = (rw z bytes_none, z ∙ (rw z at e))

-- Lists of which one element is left out or changed, by what stands before it.
pub without_parted : (hs : List Holding) (k : ℕ) → without_nth hs k ≡ take k hs ++ drop 1 (drop k hs)
without_parted [] zero = refl
without_parted [] (suc k) = refl
without_parted (h ∷ hs) zero = refl
without_parted (h ∷ hs) (suc k) = ap (λ l. h ∷ l) (without_parted hs k)

pub change_parted : (hs : List Holding) (k : ℕ) (τ : spec.Touch) → change_at hs k τ (nth hs k) ≡ take k hs ++ first_touched τ (drop k hs)
change_parted [] zero τ = refl
change_parted [] (suc k) τ = refl
change_parted (h ∷ hs) zero τ = refl
change_parted (h ∷ hs) (suc k) τ = passed (nth hs k) ∙ ap (λ l. h ∷ l) (change_parted hs k τ)
  where
    passed : (o : Option Holding) → change_at (h ∷ hs) (suc k) τ o ≡ h ∷ change_at hs k τ o
    passed None = refl
    passed (Some x) = refl

-- An attachment of nothing but its rendering.
pub bare_framed : (ys : List ℕ) (c : Contents) → means rule.Rendering ys ≡ Some c
    → attachments_bytes (bare_attachment c ∷ []) ≡ framed 2 rendering_id (normal_data rule.Rendering ys)
unfolding attachments_bytes attribute_entries write_entry framed attribute_of
bare_framed ys c e = append-nil _ ∙ ap (λ o. framed 2 rendering_id (normal_of o)) (sym e)

pub bare_admitted : (ys : List ℕ) (c : Contents) → means rule.Rendering ys ≡ Some c → admits rule.Rendering ys ≡ true
unfolding admits
bare_admitted ys c e = ap is_some e

-- What is behind the first.
pub behind_rendered : (es ks : List Entry) → ks ≡ past_part es → Rendered ks
behind_rendered es ks e = rw e (past_rendered es)

pub behind_bytes : (es ks : List Entry) → Rendered es → ks ≡ past_part es → all_attached ks ≡ attachments_bytes (drop 1 (attachments_in es))
behind_bytes es ks r e = all_bytes ks ∙ ap (λ l. attachments_bytes (attachments_in l)) e ∙ ap attachments_bytes (past_held es r)

pub without_bytes : (hs : List Holding) (k : ℕ) (rest : List Holding) → rest ≡ drop k hs
    → attachments_bytes (without_nth hs k) ≡ attachments_bytes (take k hs) ++ attachments_bytes (drop 1 rest)
without_bytes hs k rest e = ap attachments_bytes (without_parted hs k ∙ ap (λ l. take k hs ++ drop 1 l) (sym e)) ∙ bytes_append (take k hs) (drop 1 rest)

pub change_bytes : (hs : List Holding) (k : ℕ) (τ : spec.Touch) (rest : List Holding) → rest ≡ drop k hs
    → attachments_bytes (nth_touched τ k hs) ≡ attachments_bytes (take k hs) ++ attachments_bytes (first_touched τ rest)
unfolding nth_touched
change_bytes hs k τ rest e =
    ap attachments_bytes (change_parted hs k τ ∙ ap (λ l. take k hs ++ first_touched τ l) (sym e)) ∙ bytes_append (take k hs) (first_touched τ rest)
