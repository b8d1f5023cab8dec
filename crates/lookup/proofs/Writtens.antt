-- A written form is, behind its header, as its entries are written.
use Rattle.std.proofs.Common.{◌≡◌, ℕ, ◌^◌, ◌<◌, ◌≤◌, List, length, drop, sym, refl, ap, ◌∙◌, subst, arith}
use Rattle.std.specs.List.{flat_map}
use Rattle.frame.specs.declared.stages.Stage.TheVariants.{Version}
use Rattle.stream.specs.Messages.{Message}
use Rattle.stream.specs.Writing.{write_entry, entries_in, written}
use Rattle.message.specs.Sameness.{IsMessage}
use Rattle.message.specs.Grammar.{run, frame_bytes}
use Rattle.message.proofs.FrameReads.{entries_back}
use Rattle.message.proofs.Laying.{Well, LaidAs, good_laid, message_good}
use Rattle.message.proofs.Forms.{well}
use Rattle.form.specs.Targets.{or_none, remaining, AsWritten}

behind_header : (m : Message) → (drop 6 (written m) ≡ flat_map write_entry (entries_in m)) × (6 ≤ length (written m))
unfolding written
behind_header m = (refl, omega arith)

form_entries : (m : Message) → Well m → remaining (written m) 6 Version ≡ entries_in m
unfolding remaining
form_entries m w =
    let l : LaidAs Version (entries_in m) (flat_map write_entry (entries_in m)) = good_laid (entries_in m) Version (message_good m w) in
    let (d, six) = behind_header m in
    let laid : run frame_bytes l.frames (drop 6 (written m)) = rw d l.bytes in
    ap or_none (entries_back l.frames (length (written m)) (written m) 6 Version l.right l.allowed laid six (omega arith)) ∙ l.tells

pub form_written : (xs : List ℕ) (m : Message) → IsMessage m → xs ≡ written m → length xs < 256 ^ 4 → AsWritten xs 6 Version
form_written xs m is e short =
    let left : drop 6 (written m) ≡ flat_map write_entry (remaining (written m) 6 Version) = (behind_header m).0 ∙ ap (flat_map write_entry) (sym (form_entries m (well m is))) in
    record { short = short; left = subst (λ ys. drop 6 ys ≡ flat_map write_entry (remaining ys 6 Version)) (sym e) left }
