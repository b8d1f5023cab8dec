-- What an edit makes of a message, at each end of its checks.
use Rattle.std.proofs.Common.{◌≡◌, ℕ, ◌+◌, ◌<◌, ◌≤◌, Bool, List, length, is_some, IfOk, Some, None, Ok, Err, Option, sym, refl, ap, ◌∙◌, arith}
use Rattle.std.proofs.lemmas.List.{take_all}
use Rattle.std.proofs.lemmas.Bool.{le-leb, lt-leb}
use Rattle.source.specs.Content.{source_limit}
use Rattle.source.specs.Bytes.{part}
use Rattle.source.specs.Outcome.{Outcome, ◌>>=◌, ◌>>◌, need, given, refused}
use Rattle.scan.specs.Scans.{asked}
use Rattle.source.specs.declared.refusals.Reason.TheVariants.{SourceTooLong, NotAdmitted}
use Rattle.source.proofs.Outcomes.{ok_same}
use Rattle.attribute.specs.declared.Rule.{Rule}
use Rattle.contents.specs.Contents.{Contents, means, admits}
use Rattle.property.specs.Fields.{done}
use Rattle.property.specs.Lists.{Property, one_property}
use Rattle.property.specs.Names.{one_key}
use Rattle.stream.specs.Messages.{Message, Holding}
use Rattle.message.specs.declared.Target.{Target}
use Rattle.message.specs.declared.Target.TheVariants.{Message as to_message, Row as to_row, Attachment as to_attachment}
use Rattle.message.specs.Sameness.{nth, row_holding, holding}
use Rattle.editing.specs.Targets.{with_holding}
use Rattle.editing.specs.Edits.{held, given_contents, given_property, given_key}
use Rattle.editing.specs.Amendments.{Touch, touched, amended, change_at, to_target}

-- A change of one target is a change of what it holds.
pub at_target : (m : Message) (t : Target) (h : Holding) (c : Touch) → holding m t ≡ Some h → amended (to_target t c) m ≡ with_holding m t (touched c h)
at_target m to_message h c e = let q : m.own ≡ h = cc in ap (λ o. with_holding m to_message (touched c o)) q
at_target m (to_row r) h c e = by_row (nth m.rows r) refl e
  where
    by_row : (o : Option (List Property)) → nth m.rows r ≡ o → row_holding o ≡ Some h → amended (to_target (to_row r) c) m ≡ with_holding m (to_row r) (touched c h)
    by_row (Some ps) n e = let q : h.properties ≡ ps = ap (λ k. k.properties) (sym (some_same e)) in rw (n, q)
      where
        some_same : {A : Type 0} {a b : A} → ◌≡◌ {A = Option A} (Some a) (Some b) → a ≡ b
        some_same e = cc
    by_row None n e = absurd (let z : ◌≡◌ {A = ℕ} 0 1 = cc in omega arith)
at_target m (to_attachment k) h c e = ap (λ o. with_list (change_at m.attachments k c o)) e
  where
    with_list : List Holding → Message
    with_list hs = record { primary = m.primary; own = m.own; rows = m.rows; attachments = hs }

-- The bytes that are given.
pub held_long : (xs : List ℕ) → source_limit < length xs → held xs ≡ refused SourceTooLong 0
unfolding held
held_long xs h = rw (lt-leb (length xs) source_limit h)

pub held_short : (xs : List ℕ) → length xs ≤ source_limit → held xs ≡ Ok xs
unfolding held ◌>>◌
held_short xs h = rw (le-leb (length xs) source_limit h)

pub contents_held : (r : Rule) (xs : List ℕ) → length xs ≤ source_limit → given_contents r xs ≡ given (means r xs) NotAdmitted 0
unfolding given_contents ◌>>=◌
contents_held r xs h = rw (held_short xs h)

pub contents_long : (r : Rule) (xs : List ℕ) → source_limit < length xs → given_contents r xs ≡ refused SourceTooLong 0
unfolding given_contents ◌>>=◌
contents_long r xs h = rw (held_long xs h)

pub property_held : (xs : List ℕ) → length xs ≤ source_limit → given_property xs ≡ one_property xs 0 (length xs)
unfolding given_property ◌>>=◌
property_held xs h = rw (held_short xs h)

pub property_long : (xs : List ℕ) → source_limit < length xs → given_property xs ≡ refused SourceTooLong 0
unfolding given_property ◌>>=◌
property_long xs h = rw (held_long xs h)

pub key_held : (xs : List ℕ) → length xs ≤ source_limit → given_key xs ≡ one_key xs 0 (length xs)
unfolding given_key ◌>>=◌
key_held xs h = rw (held_short xs h)

pub key_long : (xs : List ℕ) → source_limit < length xs → given_key xs ≡ refused SourceTooLong 0
unfolding given_key ◌>>=◌
key_long xs h = rw (held_long xs h)

-- What is said of all bytes.
pub asked_whole : {A : Type 0} (f : List ℕ → A) (xs : List ℕ) → asked f xs 0 (length xs) ≡ Ok (f xs)
unfolding asked part
asked_whole f xs = rw (le-leb (0 + length xs) (length xs) (omega arith)) (ap (λ l. Ok (f l)) (take_all (length xs) xs (omega arith)))

by_admits : (r : Rule) (xs : List ℕ) (b : Bool) → b ≡ admits r xs → done (given (means r xs) NotAdmitted 0) ≡ need b NotAdmitted 0
unfolding admits
by_admits r xs b e = rw e (by (means r xs))
  where
    by : (o : Option Contents) → done (given o NotAdmitted 0) ≡ need (is_some o) NotAdmitted 0
    by (Some c) = refl
    by None = refl

pub contents_judged : (r : Rule) (xs : List ℕ) (b : Bool) → length xs ≤ source_limit → Ok b ≡ asked (admits r) xs 0 (length xs) → need b NotAdmitted 0 ≡ done (given_contents r xs)
contents_judged r xs b h e = sym (ap done (contents_held r xs h) ∙ by_admits r xs b (ok_same _ _ (e ∙ asked_whole (admits r) xs)))

pub made_any : {A P : Type 0} (r : Outcome A) → P → IfOk r (λ _. P)
made_any (Ok a) p = p
made_any (Err e) p = tt
