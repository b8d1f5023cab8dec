-- A stream that is as its entries are written, frame by frame.
use Rattle.std.proofs.Common.{◌≡◌, ℕ, ◌+◌, ◌-◌, ◌^◌, ◌<◌, List, ◌∷◌, ◌++◌, length, take, drop, sym, refl, ap, ◌∙◌, append_assoc, arith}
use Rattle.std.specs.List.{flat_map}
use Rattle.std.proofs.lemmas.List.{drop-drop, drop_at, take_at, length-append, length-drop}
use Rattle.source.specs.Bytes.{part, val, le}
use Rattle.scan.specs.Scans.{checksum}
use Rattle.attribute.specs.Table.{attribute_of}
use Rattle.frame.specs.declared.Frame.{Frame}
use Rattle.frame.specs.declared.stages.Stage.{Stage}
use Rattle.scan.proofs.Numbers.{length_le, val_le}
use Rattle.stream.specs.Writing.{entry_data, level_in, write_entry}
use Rattle.form.specs.Targets.{remaining, row_entry, frame_row, AsWritten, NormalRow}
use Rattle.form.proofs.Walks.{Stepped}

-- What is left behind a front, and the front.
drop_past : (xs front rest : List ℕ) (p n : ℕ) → drop p xs ≡ front ++ rest → length front ≡ n → drop (p + n) xs ≡ rest
drop_past xs front rest p n e l = sym (drop-drop n p xs) ∙ ap (drop n) e ∙ drop_at front rest n l

part_first : (xs front rest : List ℕ) (p n : ℕ) → drop p xs ≡ front ++ rest → length front ≡ n → part xs p n ≡ front
unfolding part
part_first xs front rest p n e l = ap (take n) e ∙ take_at front rest n l

-- The size, the data and what is behind a frame that was written.
record Framed (xs : List ℕ) (p : ℕ) (data_of rest : List ℕ) : Type 0 where
  size : val (part xs (p + 5) 4) ≡ length data_of
  bytes : part xs (p + 9) (length data_of) ≡ data_of
  behind : drop (p + 9 + length data_of + 2) xs ≡ rest

framed : (xs : List ℕ) (p level : ℕ) (id body rest : List ℕ) → length id ≡ 4 → length xs < 256 ^ 4
    → drop p xs ≡ (level ∷ (id ++ (le 4 (length body) ++ (body ++ le 2 (checksum body))))) ++ rest → Framed xs p body rest
framed xs p level id body rest l short e =
    let n = le 4 (length body) in
    let sum = le 2 (checksum body) in
    let e₁ : drop p xs ≡ (level ∷ id) ++ (n ++ (body ++ (sum ++ rest))) = e ∙ ap (λ t. level ∷ t) (simp append_assoc) in
    let e₂ : drop (p + 5) xs ≡ n ++ (body ++ (sum ++ rest)) = drop_past xs (level ∷ id) _ p 5 e₁ (omega arith) in
    let q : p + 5 + 4 ≡ p + 9 = omega arith in
    let e₃ : drop (p + 9) xs ≡ body ++ (sum ++ rest) = rw q at (drop_past xs n _ (p + 5) 4 e₂ (length_le 4 (length body))) in
    let e₄ : drop (p + 9 + length body) xs ≡ sum ++ rest = drop_past xs body _ (p + 9) (length body) e₃ refl in
    let long : length xs - (p + 9) ≡ length body + (length sum + length rest) = simp (length-drop, length-append) at (ap length e₃) in
    record {
      size = ap val (part_first xs n _ (p + 5) 4 e₂ (length_le 4 (length body))) ∙ val_le 4 (length body) (omega arith);
      bytes = part_first xs body _ (p + 9) (length body) e₃ refl;
      behind = drop_past xs sum rest (p + 9 + length body) 2 e₄ (length_le 2 (checksum body));
    }

module _ (xs : List ℕ) (p : ℕ) (s : Stage) (f : Frame) (k : Stepped xs p s f) (w : AsWritten xs p s) where
  here : Framed xs p (entry_data (row_entry xs (frame_row f)).meant) (flat_map write_entry (remaining xs f.next f.stage))
  unfolding write_entry
  here =
      framed xs p (level_in (attribute_of (row_entry xs (frame_row f)).id)) (le 4 (row_entry xs (frame_row f)).id) (entry_data (row_entry xs (frame_row f)).meant) _
      (length_le 4 _) w.short (w.left ∙ ap (flat_map write_entry) k.more)

  pub frame_normal : NormalRow xs (frame_row f)
  frame_normal =
      let n : f.size ≡ length (entry_data (row_entry xs (frame_row f)).meant) = k.sized ∙ here.size in
      ap (λ q. part xs (q + 9) f.size) k.stands.place ∙ ap (part xs (p + 9)) n ∙ here.bytes

  pub written_on : AsWritten xs f.next f.stage
  written_on =
      let n : f.size ≡ length (entry_data (row_entry xs (frame_row f)).meant) = k.sized ∙ here.size in
      let q : f.next ≡ p + 9 + length (entry_data (row_entry xs (frame_row f)).meant) + 2 = k.stands.next ∙ ap (λ m. p + 9 + m + 2) n in
      record { short = w.short; left = ap (λ m. drop m xs) q ∙ here.behind }
