-- Frames around data that are written first.
use Rattle.std.proofs.Common.{◌≡◌, ℕ, ◌+◌, ◌-◌, ◌%◌, ◌≤◌, List, [], ◌∷◌, ◌++◌, length, take, drop, Some, None, Option, sym, ap, ◌∙◌, append_assoc, arith, rules}
use borrow.Rule.Slice.PartMut.{put_mid}
use Rattle.std.proofs.lemmas.List.{places, same_lists, length-take, length-drop, length-append, drop_at}
use Rattle.std.proofs.lemmas.List.Sums.{sum_by_push}
use Rattle.source.specs.Bytes.{part, le}
use Rattle.scan.specs.Scans.{checksum}
use Rattle.scan.proofs.Numbers.{length_part, length_le}
use Rattle.pen.specs.declared.Pen.{Pen}
use Rattle.pen.specs.Pen.{Told, Wrote}
use Rattle.form.specs.Framing.{placed, framed, Begins, Opened, Closable, Sealed, Closed}

pub checksum_push : (xs : List ℕ) (x : ℕ) → (checksum xs + x) % 65536 ≡ checksum (xs ++ x ∷ [])
checksum_push xs x = omega (arith, sum_by_push (λ y. y) xs x)

pub length_framed : (level id : ℕ) (xs : List ℕ) → length (framed level id xs) ≡ 11 + length xs
unfolding framed
length_framed level id xs = simp (length-append, length_le) (omega arith)

pub length_placed : (xs : List ℕ) (i : ℕ) (bs : List ℕ) → i + length bs ≤ length xs → length (placed xs i bs) ≡ length xs
unfolding placed
length_placed xs i bs h = simp (length-append, length-take, length-drop) (omega arith)

front_placed : (xs : List ℕ) (i : ℕ) (bs : List ℕ) → i + length bs ≤ length xs → take (i + length bs) (placed xs i bs) ≡ take i xs ++ bs
unfolding placed
front_placed xs i bs h = same_lists _ _ (search (rules, places)) (λ k d l. grind (arith, places))

-- What a write to `out[i..i + n]` leaves.
pub mid_placed : (b : List ℕ) (i n : ℕ) (xs : List ℕ) → length xs ≡ n → put_mid i (i + n - i) b xs ≡ placed b i xs
unfolding placed
mid_placed b i n xs e = same_lists _ _ (search (rules, places)) (λ k d l. grind (arith, places))

-- A frame around data that stand where they are.
front_kept : (b : List ℕ) (start end : ℕ) (head : List ℕ) → length head ≡ 9 → start + 9 ≤ end → end ≤ length b
    → take end (placed b start head) ≡ take start b ++ (head ++ part b (start + 9) (end - (start + 9)))
unfolding placed part
front_kept b start end head e h k = same_lists _ _ (search (rules, places)) (λ k d l. grind (arith, places))

regroup : (f h p s : List ℕ) → (f ++ (h ++ p)) ++ s ≡ f ++ (h ++ (p ++ s))
regroup f h p s = simp append_assoc

frame_of : (level id : ℕ) (f head p sum : List ℕ) (n : ℕ) → length p ≡ n → head ≡ level ∷ (le 4 id ++ le 4 n) → sum ≡ le 2 (checksum p)
    → (f ++ (head ++ p)) ++ sum ≡ f ++ framed level id p
unfolding framed
frame_of level id f head p sum n l e s =
    rw (regroup f head p sum, e, s, ← l) (ap (λ t. f ++ (level ∷ t)) (append_assoc (le 4 id) (le 4 (length p)) (p ++ le 2 (checksum p))))

pub closed : (b m a : List ℕ) (start end level id : ℕ) (head sum : List ℕ) → start + 9 ≤ end → end + 2 ≤ length b
    → head ≡ level ∷ (le 4 id ++ le 4 (end - (start + 9)))
    → sum ≡ le 2 (checksum (part b (start + 9) (end - (start + 9))))
    → m ≡ placed b start head → a ≡ placed m end sum
    → Told b (Some start) (framed level id (part b (start + 9) (end - (start + 9)))) a (Some (end + 2))
closed b m a start end level id head sum h k e s f g =
    let n : end - (start + 9) ≡ length (part b (start + 9) (end - (start + 9))) = sym (length_part b (start + 9) (end - (start + 9)) (omega arith)) in
    let lh : length head ≡ 9 = ap length e ∙ simp (length-append, length_le) in
    let ls : length sum ≡ 2 = ap length s ∙ length_le 2 _ in
    let lm : length m ≡ length b = ap length f ∙ length_placed b start head (omega arith) in
    let w : take (end + length sum) a ≡ take end m ++ sum = ap (take (end + length sum)) g ∙ front_placed m end sum (omega arith) in
    let v : take (end + 2) a ≡ take end m ++ sum = rw ls at w in (
      omega (arith, length_framed level id (part b (start + 9) (end - (start + 9)))),
      v ∙ ap (λ l. l ++ sum) (ap (take end) f ∙ front_kept b start end head lh h (omega arith)) ∙ frame_of level id (take start b) head _ sum _ (sym n) e s,
    )

behind_front : (b : List ℕ) (i : ℕ) (xs m : List ℕ) (end : ℕ) → end ≡ i + length xs → length m ≡ length b → end ≤ length b
    → take end m ≡ take i b ++ xs → part m i (end - i) ≡ xs
unfolding part
behind_front b i xs m end e l h t =
    let u : take (end - i) (drop i m) ≡ drop i (take end m) = same_lists _ _ (search (rules, places)) (λ k d l. grind (arith, places)) in
    u ∙ ap (drop i) t ∙ drop_at (take i b) xs i (simp length-take (omega arith))

before_front : (b : List ℕ) (start i : ℕ) (xs m : List ℕ) (end : ℕ) → start ≤ i → end ≡ i + length xs → length m ≡ length b → end ≤ length b
    → take end m ≡ take i b ++ xs → take start m ≡ take start b
before_front b start i xs m end s e l h t =
    let u : take start m ≡ take start (take end m) = same_lists _ _ (search (rules, places)) (λ k d l. grind (arith, places)) in
    let v : take start (take i b ++ xs) ≡ take start b = same_lists _ _ (search (rules, places)) (λ k d l. grind (arith, places)) in
    u ∙ ap (take start) t ∙ v

moved : (b m : List ℕ) (i : ℕ) (xs ys a : List ℕ) (r : Option ℕ) → length m ≡ length b → take i m ≡ take i b → xs ≡ ys
    → Told m (Some i) xs a r → Told b (Some i) ys a r
moved b m i xs ys a None l t e q = rw (← e) (omega arith)
moved b m i xs ys a (Some n) l t e q = rw (← e, ← t) q

-- Data that were written end within the slice.
grown : (b : List ℕ) (i : ℕ) (xs m : List ℕ) (n : ℕ) → i ≤ length b → length m ≡ length b → n ≡ i + length xs → take n m ≡ take i b ++ xs → n ≤ length b
grown b i xs m n h l e t =
    let f : length (take n m) ≡ length (take i b ++ xs) = ap length t in
    omega (arith, length-take n m, length-take i b, length-append (take i b) xs)

sealed : (b : List ℕ) (o k : Option ℕ) (xs m : List ℕ) (p : Option ℕ) (level id : ℕ) (a : List ℕ) (r : Option ℕ)
    → length m ≡ length b → Begins b o k → Told b k xs m p → Sealed m o p level id a r → Told b o (framed level id xs) a r
sealed b None k xs m p level id a r l f s t = t
sealed b (Some i) None xs m None level id a r l f s t = rw t (omega (arith, length_framed level id xs))
sealed b (Some i) None xs m (Some e) level id a r l f s t = let z : ◌≡◌ {A = ℕ} 0 1 = cc in absurd (omega arith)
sealed b (Some i) (Some n) xs m None level id a r l f s t = rw t (omega (arith, length_framed level id xs))
sealed b (Some i) (Some n) xs m (Some e) level id a r l f s t =
    let g = grown b n xs m e f.1 l s.0 s.1 in
    let q : take e m ≡ take (i + 9) b ++ xs = rw f.0 at s.1 in
    let d : part m (i + 9) (e - (i + 9)) ≡ xs = behind_front b (i + 9) xs m e (omega arith) l g q in
    moved b m i _ _ a r l (before_front b i (i + 9) xs m e (omega arith) (omega arith) l g q) (ap (framed level id) d) t

closes : (b : List ℕ) (o k : Option ℕ) (xs m : List ℕ) (p : Option ℕ) → length m ≡ length b → Begins b o k → Told b k xs m p → Closable m o p
closes b None k xs m p l f s = tt
closes b (Some i) k xs m None l f s = tt
closes b (Some i) None xs m (Some e) l f s = let z : ◌≡◌ {A = ℕ} 0 1 = cc in absurd (omega arith)
closes b (Some i) (Some n) xs m (Some e) l f s = let g = grown b n xs m e f.1 l s.0 s.1 in (omega arith, omega arith)

-- The data that a pen has written behind the place that was opened.
pub pen_closable : {p : Pen} {start : Option ℕ} {q : Pen} {xs : List ℕ} {r : Pen} → Opened p start q → Wrote q xs r → Closable r.out.now start r.here
pen_closable {p} {start} {q} {xs} {r} f s =
    rw f.from (closes p.out.now p.here q.here xs r.out.now r.here (s.kept ∙ ap length f.same) f.place (rw f.same at s.told))

pub pen_frame : {p : Pen} {start : Option ℕ} {q : Pen} {xs : List ℕ} {r : Pen} {level id : ℕ} {after : Pen}
    → Opened p start q → Wrote q xs r → Closed r start level id after → Wrote p (framed level id xs) after
pen_frame {p} {start} {q} {xs} {r} {level} {id} {after} f s t = record {
  reference = t.reference ∙ s.reference ∙ f.reference;
  kept = t.kept ∙ s.kept ∙ ap length f.same;
  told = sealed p.out.now p.here q.here xs r.out.now r.here level id after.out.now after.here
      (s.kept ∙ ap length f.same) f.place (rw f.same at s.told) (rw f.from at t.told);
}
