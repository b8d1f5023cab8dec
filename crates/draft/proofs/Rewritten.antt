-- What is written for an amended message, and for an edit.
use Rattle.std.proofs.Common.{◌≡◌, ℕ, ◌-◌, ◌<◌, ◌≤◌, min, Bool, true, false, ◌&&◌, leb, List, ◌++◌, length, take, Some, None, IfOk, Ok, Err, Option, Result, sym, refl, ap, ◌∙◌, arith}
use Rattle.std.specs.Option.{ok_or}
use Rattle.std.specs.Str.{bytes_eq}
use Rattle.std.proofs.lemmas.Slice.Eq.{bytes_eq-Decides}
use Rattle.std.proofs.lemmas.List.{take-append-le}
use Rattle.std.proofs.lemmas.Bool.{and_parts, leb-true}
use Rattle.std.proofs.lemmas.Bool.Decides.{nat_tests}
use Rattle.source.specs.Content.{source_limit}
use Rattle.source.specs.Outcome.{Outcome, ◌>>=◌, ◌>>◌, need, given, over, refused}
use Rattle.source.specs.declared.refusals.Reason.TheVariants.{ShortWork, NotWritten, FormTooLong}
use Rattle.source.specs.declared.refusals.Refusal.{Refusal}
use Rattle.source.proofs.Outcomes.{err_not_ok, ok_same, over_got, over_lost}
use Rattle.contents.specs.Options.{where_true}
use Rattle.frame.specs.declared.stages.Stage.TheVariants.{Version}
use Rattle.property.specs.Fields.{done}
use Rattle.property.specs.Lists.{list_limit}
use Rattle.stream.specs.Reading.{entries_of}
use Rattle.stream.specs.Messages.{Message, message_of, read}
use Rattle.stream.specs.Writing.{written}
use Rattle.form.specs.Targets.{Readable}
use Rattle.form.specs.Wholes.{Fills}
use Rattle.form.proofs.Restated.{judged_good, judged_read, wrote_some, wrote_none}
use Rattle.editing.specs.Edits.{Edit, change}
use Rattle.lookup.specs.Finding.{message_in}
use Rattle.draft.specs.Drafts.{Memory, enough, fitted, Front}
use Rattle.draft.specs.Calls.{State, form, if_written, opened, edited}
use Rattle.draft.proofs.Loading.{written_by, made_fits, is_enough}

-- A message that was written where there was room, or that found none.
module _ (room : ℕ) (m : Message) (before after rest : List ℕ) (h : length before ≡ min room source_limit) where
  fits : (n : ℕ) → n ≤ min room source_limit → (leb n room && leb n source_limit) ≡ true
  fits n h = grind (arith, nat_tests)

  fits_not : (n : ℕ) → min room source_limit < n → (leb n room && leb n source_limit) ≡ false
  fits_not n h = grind (arith, nat_tests)

  wrote_some_form : (n : ℕ) → Fills before (written m) after (Some n) → Ok n ≡ over length (fitted room m)
  unfolding fitted ◌>>◌
  wrote_some_form n p = let (e, l, t) = wrote_some before (written m) after n p in rw (fits (length (written m)) (omega arith), e)

  wrote_some_front : (n : ℕ) → Fills before (written m) after (Some n) → Front (fitted room m) (after ++ rest)
  unfolding fitted ◌>>◌
  wrote_some_front n p =
      let (e, l, t) = wrote_some before (written m) after n p in
      let k : length (written m) ≤ length after = omega (arith, p.kept) in
      rw (fits (length (written m)) (omega arith)) (take-append-le (length (written m)) after rest k ∙ rw (← e) t)

  wrote_nothing : Fills before (written m) after None → fitted room m ≡ refused FormTooLong 0
  unfolding fitted ◌>>◌
  wrote_nothing p = rw (fits_not (length (written m)) (omega (arith, wrote_none before (written m) after p)))

  pub wrote_form : (o : Option ℕ) → Fills before (written m) after o → ok_or o (record { reason = FormTooLong; place = 0 }) ≡ over length (fitted room m)
  wrote_form (Some n) p = wrote_some_form n p
  wrote_form None p = sym (ap (over length) (wrote_nothing p))

  pub wrote_front : (o : Option ℕ) → Fills before (written m) after o → Front (fitted room m) (after ++ rest)
  wrote_front (Some n) p = wrote_some_front n p
  wrote_front None p = rw (wrote_nothing p) tt

-- A readable stream, and the message in it.
pub read_good : (xs : List ℕ) (m : Message) → read xs ≡ Ok m → Readable xs 6 Version × (message_in xs ≡ m)
unfolding read
read_good xs m e =
    let (es, p, q) = over_got message_of (entries_of xs) m (sym e) in
    let t : Ok tt ≡ done (entries_of xs) = ap done p in
    (judged_good xs tt t, ok_same _ _ (sym (judged_read xs tt t) ∙ e))

-- The form that a source holds.
pub held_form : (area : List ℕ) (n : ℕ) (xs : List ℕ) → xs ≡ take (n - 0) area → xs ≡ take n area
held_form area n xs e = e ∙ ap (λ (k : ℕ). take k area) (omega arith)

-- A draft that was opened.
pub record Open (w : Memory) (d : State) (m : Message) : Type 0 where
  pub is : opened w d ≡ Ok m
  pub reads : read (form d) ≡ Ok m
  pub writes : written m ≡ form d
  pub bytes_enough : length d.area ≤ w.bytes
  pub rows_enough : list_limit ≤ w.rows
  pub within : d.size ≤ length d.area
  pub short : d.size ≤ source_limit

if_got : (xs : List ℕ) (o : Outcome Message) (m : Message) → if_written xs o ≡ Some m → (o ≡ Ok m) × (written m ≡ xs)
if_got xs (Ok n) m e = by (bytes_eq (written n) xs) refl e
  where
    by : (b : Bool) → bytes_eq (written n) xs ≡ b → where_true b n ≡ Some m → (◌≡◌ {A = Outcome Message} (Ok n) (Ok m)) × (written m ≡ xs)
    by true t e = let q : n ≡ m = cc in (ap Ok q, ap written (sym q) ∙ (bytes_eq-Decides (written n) xs).0 t)
    by false t e = absurd (let z : ◌≡◌ {A = ℕ} 0 1 = cc in omega arith)
if_got xs (Err r) m e = absurd (let z : ◌≡◌ {A = ℕ} 0 1 = cc in omega arith)

pub opened_got : (w : Memory) (d : State) (u : Unit {0}) → Ok u ≡ done (opened w d) → (m : Message) × Open w d m
unfolding opened ◌>>◌
opened_got w d u e = by_memory (enough w (length d.area)) refl e
  where
    by_form : (o : Option Message) → if_written (form d) (read (form d)) ≡ o → enough w (length d.area) ≡ true
        → (leb d.size (length d.area) && leb d.size source_limit) ≡ true → Ok u ≡ done (given o NotWritten 0) → (m : Message) × Open w d m
    by_form (Some m) f a b e =
        let (r, s) = if_got (form d) (read (form d)) m f in (
          m,
          record {
            is = rw (a, b, f);
            reads = r;
            writes = s;
            bytes_enough = leb-true (length d.area) w.bytes (and_parts _ _ a).0;
            rows_enough = leb-true list_limit w.rows (and_parts _ _ a).1;
            within = leb-true d.size (length d.area) (and_parts _ _ b).0;
            short = leb-true d.size source_limit (and_parts _ _ b).1;
          },
        )
    by_form None f a b e = absurd (err_not_ok (sym e))

    by_size : (b : Bool) → (leb d.size (length d.area) && leb d.size source_limit) ≡ b → enough w (length d.area) ≡ true
        → Ok u ≡ done (need b NotWritten 0 >> given (if_written (form d) (read (form d))) NotWritten 0) → (m : Message) × Open w d m
    by_size true b a e = by_form _ refl a b e
    by_size false b a e = absurd (err_not_ok (sym e))

    by_memory : (b : Bool) → enough w (length d.area) ≡ b
        → Ok u ≡ done (need b ShortWork 0 >> (need (leb d.size (length d.area) && leb d.size source_limit) NotWritten 0 >> given (if_written (form d) (read (form d))) NotWritten 0))
        → (m : Message) × Open w d m
    by_memory true a e = by_size _ refl a e
    by_memory false a e = absurd (err_not_ok (sym e))

-- The ends of an edit.
module _ (w : Memory) (d : State) (e : Edit) where
  pub edit_unopened : (r : Refusal) → Err r ≡ done (opened w d) → edited w d e ≡ Err r
  unfolding edited ◌>>=◌
  edit_unopened r q = rw (← over_lost _ (opened w d) r q)

  pub edit_refused : (m : Message) (r : Refusal) → opened w d ≡ Ok m → change e m ≡ Err r → edited w d e ≡ Err r
  unfolding edited ◌>>=◌
  edit_refused m r o q = rw (o, q)

  pub edit_fitted : (m n : Message) → opened w d ≡ Ok m → change e m ≡ Ok n → edited w d e ≡ fitted (length d.area) n
  unfolding edited ◌>>=◌
  edit_fitted m n o q = rw (o, q)

  -- A form that an edit writes fits the area, and the work bytes.
  pub edit_fits : (size : ℕ) (r : Result ℕ Refusal) → r ≡ over length (edited w d e) → w.bytes ≤ size → IfOk r (λ n. (n ≤ length d.area) × (n ≤ size))
  unfolding edited written_by ◌>>=◌ ◌>>◌
  edit_fits size r q h = by_opened (opened w d) refl q
    where
      by_opened : (o : Outcome Message) → opened w d ≡ o → r ≡ over length (o >>= (λ m. change e m >>= (λ n. fitted (length d.area) n))) → IfOk r (λ n. (n ≤ length d.area) × (n ≤ size))
      by_opened (Ok m) o q =
          let (_, k) = opened_got w d tt (ap done (sym o)) in
          let t = is_enough w (length d.area) k.bytes_enough k.rows_enough in
          made_fits w (length d.area) (change e m) size r (rw t q) h
      by_opened (Err x) o q = rw q tt
