-- The form of a blank message, byte by byte.
use Rattle.std.proofs.Common.{◌≡◌, ℕ, ◌+◌, ◌/◌, ◌%◌, ◌<◌, ◌≤◌, true, false, List, [], ◌∷◌, ◌++◌, length, take, Some, None, Ok, Option, sym, refl, ap, ◌∙◌, arith}
use Rattle.std.specs.Option.{ok_or}
use Rattle.std.proofs.lemmas.Bool.{le-leb, lt-leb}
use Rattle.std.proofs.lemmas.List.{take-append-le}
use Rattle.source.specs.Content.{source_limit}
use Rattle.source.specs.Outcome.{over, refused}
use Rattle.source.specs.declared.refusals.Reason.TheVariants.{ShortWork, FormTooLong}
use Rattle.source.specs.Bytes.{le}
use Rattle.scan.specs.Scans.{checksum}
use Rattle.scan.proofs.Numbers.{le_four}
use Rattle.attribute.specs.Table.{attribute_of}
use Rattle.contents.specs.Contents.{normal}
use Rattle.stream.specs.Writing.{write_entry, attribute_entries, entries_in, written}
use Rattle.form.specs.Wholes.{Fills}
use Rattle.form.proofs.Restated.{wrote_some, wrote_none}
use Rattle.draft.specs.Drafts.{Memory, enough, fitted, blank, begun, Front}

abbrev pub front : List ℕ
front =
    0x78 ∷ (0x9F ∷ (0x3E ∷ (0x22 ∷ (1 ∷ (0 ∷ (1 ∷ (0x06 ∷ (0x90 ∷ (0x08 ∷ (0 ∷ (4 ∷ (0 ∷ (0 ∷ (0 ∷ (0 ∷ (0 ∷ (1 ∷ (0 ∷ (1 ∷ (0
    ∷ (1 ∷ (0x07 ∷ (0x90 ∷ (0x06 ∷ (0 ∷ (8 ∷ (0 ∷ (0 ∷ (0 ∷ [])))))))))))))))))))))))))))))

pub blank_form : (p s : ℕ) → s ≡ checksum (le 4 p ++ le 4 0) → front ++ (le 4 p ++ (le 4 0 ++ le 2 s)) ≡ written (blank p)
unfolding written entries_in write_entry attribute_entries attribute_of normal le
blank_form p s e = rw e

pub blank_sum : (n a b c d : ℕ) → a ≡ n % 256 → b ≡ n / 256 % 256 → c ≡ n / 65536 % 256 → d ≡ n / 16777216 % 256
    → a + b + c + d ≡ checksum (le 4 n ++ le 4 0)
blank_sum n a b c d p q r s = rw (le_four n, le_four 0) (omega arith)

pub blank_length : (p : ℕ) → length (written (blank p)) ≡ 40
unfolding le
blank_length p = ap length (sym (blank_form p (checksum (le 4 p ++ le 4 0)) refl))

module _ (w : Memory) (room p : ℕ) where
  pub begin_short : enough w room ≡ false → begun w room p ≡ refused ShortWork 0
  unfolding begun
  begin_short e = rw e

  begin_long : enough w room ≡ true → room < length (written (blank p)) → begun w room p ≡ refused FormTooLong 0
  unfolding begun fitted
  begin_long e h = rw (e, lt-leb (length (written (blank p))) room h)

  begin_done : enough w room ≡ true → length (written (blank p)) ≤ room → begun w room p ≡ Ok (written (blank p))
  unfolding begun fitted
  begin_done e h = rw (e, le-leb (length (written (blank p))) room h, le-leb (length (written (blank p))) source_limit (omega (arith, blank_length p)))

  module _ (t : enough w room ≡ true) (before after rest : List ℕ) (h : length before ≡ room) where
    pub begin_form : (o : Option ℕ) → Fills before (written (blank p)) after o
        → ok_or o (record { reason = FormTooLong; place = 0 }) ≡ over length (begun w room p)
    begin_form (Some n) f =
        let (e, l, _) = wrote_some before (written (blank p)) after n f in ap Ok e ∙ sym (ap (over length) (begin_done t (omega arith)))
    begin_form None f = sym (ap (over length) (begin_long t (omega (arith, wrote_none before (written (blank p)) after f))))

    pub begin_front : (o : Option ℕ) → Fills before (written (blank p)) after o → Front (begun w room p) (after ++ rest)
    begin_front (Some n) f =
        let (e, l, q) = wrote_some before (written (blank p)) after n f in
        let k : length (written (blank p)) ≤ length after = omega (arith, f.kept) in
        rw (begin_done t (omega arith)) (take-append-le (length (written (blank p))) after rest k ∙ rw (← e) q)
    begin_front None f = rw (begin_long t (omega (arith, wrote_none before (written (blank p)) after f))) tt
