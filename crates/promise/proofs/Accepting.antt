-- What is known of calls that are accepted.
use Rattle.std.proofs.Common.{◌≡◌, ℕ, ◌-◌, ◌≤◌, ◌&&◌, leb, List, ◌++◌, length, replicate, Some, Ok, sym, refl, ap, ◌∙◌, arith}
use Rattle.std.proofs.lemmas.List.{length-append, length-replicate, take_at}
use Rattle.std.proofs.lemmas.Bool.{and_parts, leb-true}
use Rattle.source.specs.Content.{source_limit}
use Rattle.source.specs.declared.refusals.Reason.TheVariants.{ShortWork, NotWritten}
use Rattle.source.proofs.Outcomes.{ok_same}
use Rattle.contents.proofs.Parts.{where_some}
use Rattle.stream.specs.Messages.{Message, read}
use Rattle.stream.specs.Writing.{written}
use Rattle.message.proofs.Outcomes.{bind_ok, need_ok, given_ok}
use Rattle.message.proofs.Laying.{Well}
use Rattle.message.proofs.Forms.{form_read}
use Rattle.editing.specs.Edits.{Edit, change}
use Rattle.draft.specs.Drafts.{Memory, enough, fitted, blank, begun, loaded}
use Rattle.draft.specs.Calls.{State, form, if_written, opened, edited}

-- The form of a message, which fits.
pub record Fits (room : ℕ) (m : Message) (f : List ℕ) : Type 0 where
  pub form_is : f ≡ written m
  pub room_enough : length f ≤ room
  pub short : length f ≤ source_limit

fitted_ok : (room : ℕ) (m : Message) (f : List ℕ) → fitted room m ≡ Ok f → Fits room m f
unfolding fitted
fitted_ok room m f e =
    let (t, e₁) = need_ok _ _ _ _ _ e in
    let (a, b) = and_parts (leb (length (written m)) room) (leb (length (written m)) source_limit) t in
    let same : written m ≡ f = ok_same (written m) f e₁ in
    let l : length (written m) ≡ length f = ap length same in
    let i = leb-true _ _ a in
    let j = leb-true _ _ b in
    record { form_is = sym same; room_enough = omega arith; short = omega arith }

pub begun_ok : (w : Memory) (room n : ℕ) (f : List ℕ) → begun w room n ≡ Ok f → Fits room (blank n) f
unfolding begun
begun_ok w room n f e = let (t, e₁) = need_ok _ _ _ _ _ e in fitted_ok room (blank n) f e₁

pub loaded_ok : (w : Memory) (room : ℕ) (xs f : List ℕ) → loaded w room xs ≡ Ok f → (m : Message) × (read xs ≡ Ok m) × Fits room m f
unfolding loaded
loaded_ok w room xs f e =
    let (t, e₁) = need_ok _ _ _ _ _ e in
    let (m, is, e₂) = bind_ok (read xs) (fitted room) f e₁ in
    (m, is, fitted_ok room m f e₂)

-- A draft that is the form of a message is opened as it.
opened_is : (w : Memory) (d : State) (m k : Message) → Well m → form d ≡ written m → opened w d ≡ Ok k → m ≡ k
unfolding opened
opened_is w d m k v is e =
    let (a, e₁) = need_ok (enough w (length d.area)) ShortWork 0 _ k e in
    let (b, e₂) = need_ok (leb d.size (length d.area) && leb d.size source_limit) NotWritten 0 _ k e₁ in
    let known : read (form d) ≡ Ok m = ap read is ∙ form_read m v in
    let found : if_written (form d) (read (form d)) ≡ Some k = given_ok (if_written (form d) (read (form d))) NotWritten 0 k e₂ in
    (where_some _ m k (sym (ap (if_written (form d)) known) ∙ found)).1

pub edited_ok : (w : Memory) (d : State) (e : Edit) (m : Message) (f : List ℕ) → Well m → form d ≡ written m → edited w d e ≡ Ok f
    → (k : Message) × (change e m ≡ Ok k) × Fits (length d.area) k f
unfolding edited
edited_ok w d e m f v is q =
    let (x, opened-x, q₁) = bind_ok (opened w d) _ _ q in
    let (k, changed-k, q₂) = bind_ok (change e x) _ _ q₁ in
    (k, ap (change e) (opened_is w d m x v is opened-x) ∙ changed-k, fitted_ok (length d.area) k f q₂)

-- A form in an area of n bytes, and zeros.
abbrev pub settled : ℕ → List ℕ → State
settled n f = record { area = f ++ replicate (n - length f) 0; size = length f }

pub settled_form : (n : ℕ) (f : List ℕ) → form (settled n f) ≡ f
settled_form n f = take_at f (replicate (n - length f) 0) (length f) refl

pub settled_length : (n : ℕ) (f : List ℕ) → length f ≤ n → length (settled n f).area ≡ n
settled_length n f i = omega (arith, length-append f (replicate (n - length f) 0), length-replicate {A = ℕ} (n - length f) 0)
