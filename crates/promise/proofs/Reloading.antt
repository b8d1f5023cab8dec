-- After any run of calls from an accepted begin or load, loading the form leaves the same draft.
use Rattle.std.proofs.Common.{◌≡◌, ℕ, ◌<◌, ◌≤◌, true, List, [], ◌∷◌, length, Ok, Err, sym, refl, ap, ◌∙◌, arith}
use Rattle.std.proofs.lemmas.Bool.{le-leb}
use Rattle.source.specs.Content.{source_limit}
use Rattle.source.specs.Outcome.{Outcome, ◌>>=◌, ◌>>◌}
use Rattle.attribute.specs.Table.{message_attributes}
use Rattle.stream.specs.Messages.{Message, read}
use Rattle.stream.specs.Writing.{written}
use Rattle.message.specs.Sameness.{SourceBytes}
use Rattle.message.proofs.Laying.{Well}
use Rattle.message.proofs.Forms.{well, form_read}
use Rattle.editing.specs.Edits.{Edit}
use Rattle.editing.specs.Promise.{GivenOctets}
use Rattle.editing.proofs.Shapes.{Shaped, well_shaped, shaped_well}
use Rattle.editing.proofs.Changes.{change_shaped, nothing_admitted, empty_list}
use Rattle.draft.specs.Drafts.{Memory, enough, fitted, blank, begun, loaded}
use Rattle.draft.specs.Calls.{State, form, edited, left_by}
use Rattle.promise.specs.Runs.{Call, begin, load, edit, look, Step, leaves, Accepted, after, Starts, Possible, AllPossible}
use Rattle.promise.specs.Canonical.{RunsReload}
use Rattle.promise.proofs.Accepting.{Fits, begun_ok, loaded_ok, edited_ok, settled, settled_form, settled_length}

-- The form of a well-formed message that fits into n bytes.
record Wrote (n : ℕ) (f : List ℕ) : Type 0 where
  message : Message
  message_well : Well message
  fits : Fits n message f

record Kept (n : ℕ) (d : State) : Type 0 where
  bytes : List ℕ
  wrote : Wrote n bytes
  draft_is : d ≡ settled n bytes

kept_form : (n : ℕ) (d : State) (k : Kept n d) → form d ≡ k.bytes
kept_form n d k = ap form k.draft_is ∙ settled_form n k.bytes

kept_length : (n : ℕ) (d : State) → Kept n d → length d.area ≡ n
kept_length n d k = ap (λ x. length x.area) k.draft_is ∙ settled_length n k.bytes k.wrote.fits.room_enough

-- Calls that write.
shaped_wrote : (n : ℕ) (m : Message) (f : List ℕ) → Shaped m → Fits n m f → Wrote n f
shaped_wrote n m f s fits =
    let l : length f ≡ length (written m) = ap length fits.form_is in
    let short = fits.short in
    record { message = m; message_well = shaped_well m s (omega arith); fits = fits }

blank_shaped : (n : ℕ) → n < 0x100000000 → Shaped (blank n)
blank_shaped n i = record {
  primary_small = omega arith;
  own_shaped = record { admitted = nothing_admitted message_attributes; list_well = empty_list };
  rows_well = tt;
  rows_few = omega arith;
  attachments_shaped = tt;
  attachments_few = omega arith;
}

begun_wrote : (w : Memory) (room n : ℕ) (f : List ℕ) → n < 0x100000000 → begun w room n ≡ Ok f → Wrote room f
begun_wrote w room n f i e = shaped_wrote room (blank n) f (blank_shaped n i) (begun_ok w room n f e)

loaded_wrote : (w : Memory) (room : ℕ) (xs f : List ℕ) → SourceBytes xs → loaded w room xs ≡ Ok f → Wrote room f
loaded_wrote w room xs f o e =
    let (m, is, fits) = loaded_ok w room xs f e in
    record { message = m; message_well = well m (xs, o, is); fits = fits }

edited_wrote : (w : Memory) (n : ℕ) (d : State) (e : Edit) (f : List ℕ) → GivenOctets e → Kept n d → edited w d e ≡ Ok f → Wrote (length d.area) f
edited_wrote w n d e f o k q =
    let m = k.wrote.message in
    let v = k.wrote.message_well in
    let (l, el, fits) = edited_ok w d e m f v (kept_form n d k ∙ k.wrote.fits.form_is) q in
    shaped_wrote (length d.area) l f (change_shaped e m l o (well_shaped m v) el) fits

-- Every call keeps the draft so.
write_keeps : (n : ℕ) (d : State) (f : List ℕ) → length d.area ≡ n → Wrote (length d.area) f → Kept n (left_by (Ok f) d)
write_keeps n d f l w = record { bytes = f; wrote = rw l at w; draft_is = ap (λ k. settled k f) l }

left_keeps : (n : ℕ) (d : State) (o : Outcome (List ℕ)) → Kept n d → ((f : List ℕ) → o ≡ Ok f → Wrote (length d.area) f) → Kept n (left_by o d)
left_keeps n d (Ok f) k next = write_keeps n d f (kept_length n d k) (next f refl)
left_keeps n d (Err e) k next = k

call_keeps : (n : ℕ) (d : State) (w : Memory) (c : Call) → Possible c → Kept n d → Kept n (leaves (record { memory = w; call = c }) d)
call_keeps n d w (begin p) o k = left_keeps n d (begun w (length d.area) p) k (λ f e. begun_wrote w (length d.area) p f o e)
call_keeps n d w (load xs) o k = left_keeps n d (loaded w (length d.area) xs) k (λ f e. loaded_wrote w (length d.area) xs f o e)
call_keeps n d w (edit e) o k = left_keeps n d (edited w d e) k (λ f q. edited_wrote w n d e f o k q)
call_keeps n d w look o k = k

run_keeps : (n : ℕ) (d : State) (ss : List Step) → AllPossible ss → Kept n d → Kept n (after ss d)
run_keeps n d [] o k = k
run_keeps n d (s ∷ ss) o k = run_keeps n (leaves s d) ss o.1 (call_keeps n d s.memory s.call o.0 k)

-- The start.
accepted_keeps : (d : State) (o : Outcome (List ℕ)) → (f : List ℕ) × (o ≡ Ok f) → ((f : List ℕ) → o ≡ Ok f → Wrote (length d.area) f) → Kept (length d.area) (left_by o d)
accepted_keeps d o (f, e) next = rw e (write_keeps (length d.area) d f refl (next f e))

start_keeps : (w : Memory) (c : Call) (a : State) → Starts c → Possible c → Accepted (record { memory = w; call = c }) a → Kept (length a.area) (leaves (record { memory = w; call = c }) a)
start_keeps w (begin p) a st o ok = accepted_keeps a (begun w (length a.area) p) ok (λ f e. begun_wrote w (length a.area) p f o e)
start_keeps w (load xs) a st o ok = accepted_keeps a (loaded w (length a.area) xs) ok (λ f e. loaded_wrote w (length a.area) xs f o e)
start_keeps w (edit e) a st o ok = elim st [ ]
start_keeps w look a st o ok = elim st [ ]

-- Loading a form that is kept.
loaded_back : (w : Memory) (b : State) (f : List ℕ) → Wrote (length b.area) f → enough w (length b.area) ≡ true → loaded w (length b.area) f ≡ Ok f
unfolding ◌>>=◌ ◌>>◌ loaded fitted
loaded_back w b f k e =
    let m = k.message in
    let is : f ≡ written m = k.fits.form_is in
    let l : length f ≡ length (written m) = ap length is in
    let i : length (written m) ≤ length b.area = let r = k.fits.room_enough in omega arith in
    let j : length (written m) ≤ source_limit = let r = k.fits.short in omega arith in
    let back : read f ≡ Ok m = ap read is ∙ form_read m k.message_well in
    rw (e, back, le-leb _ _ i, le-leb _ _ j) (ap Ok (sym is))

pub runs_reload : RunsReload
runs_reload s st o a ok ss os w b same e =
    let n = length a.area in
    let d = after ss (leaves s a) in
    let k : Kept n d = run_keeps n (leaves s a) ss os (start_keeps s.memory s.call a st o ok) in
    let f = k.bytes in
    let is : form d ≡ f = kept_form n d k in
    let wrote : Wrote (length b.area) f = rw same k.wrote in
    let back : loaded w (length b.area) f ≡ Ok f = loaded_back w b f wrote e in
    let again : loaded w (length b.area) (form d) ≡ Ok f = ap (loaded w (length b.area)) is ∙ back in
    (again ∙ ap Ok (sym is), ap (λ x. left_by x b) again ∙ ap (λ l. settled l f) same ∙ sym k.draft_is)
