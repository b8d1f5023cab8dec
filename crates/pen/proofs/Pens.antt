-- Writing one part after another.
use Rattle.std.proofs.Common.{◌≡◌, ℕ, ◌+◌, ◌-◌, ◌≤◌, List, [], ◌++◌, length, take, Some, None, Option, sym, refl, ap, ◌∙◌, append_assoc, append-nil, arith, rules}
use borrow.Rule.Slice.PartMut.{put_mid}
use Rattle.std.proofs.lemmas.List.{places, same_lists, length-append}
use Rattle.pen.specs.declared.Pen.{Pen}
use Rattle.pen.specs.Pen.{Told, Wrote, Leads}

infixr 20 ◌▷◌
told_none : (b : List ℕ) (o : Option ℕ) → Told b o [] b o
told_none b None = refl
told_none b (Some i) = (omega arith, sym (append-nil _))

told_then : (b : List ℕ) (o : Option ℕ) (xs m : List ℕ) (p : Option ℕ) (ys a : List ℕ) (r : Option ℕ)
    → length m ≡ length b → Told b o xs m p → Told m p ys a r → Told b o (xs ++ ys) a r
told_then b None xs m None ys a r e s t = t
told_then b None xs m (Some n) ys a r e s t = let z : ◌≡◌ {A = ℕ} 0 1 = cc in absurd (omega arith)
told_then b (Some i) xs m None ys a r e s t = rw t (simp length-append (omega arith))
told_then b (Some i) xs m (Some n) ys a None e s t = simp length-append (omega arith)
told_then b (Some i) xs m (Some n) ys a (Some k) e s t =
    (simp length-append (omega arith), t.1 ∙ ap (λ l. l ++ ys) s.1 ∙ append_assoc (take i b) xs ys)

pub pen_none : {p : Pen} → Wrote p [] p
pen_none {p} = record { reference = refl; kept = refl; told = told_none p.out.now p.here }

-- One after another.
pub ◌▷◌ : {p : Pen} {xs : List ℕ} {q : Pen} {ys : List ℕ} {r : Pen} → Wrote p xs q → Wrote q ys r → Wrote p (xs ++ ys) r
◌▷◌ {p} {xs} {q} {ys} {r} s t = record {
  reference = t.reference ∙ s.reference;
  kept = t.kept ∙ s.kept;
  told = told_then p.out.now p.here xs q.out.now q.here ys r.out.now r.here s.kept s.told t.told;
}

-- One part more of what is left, and nothing left.
pub leads_on : {p : Pen} {whole : List ℕ} {m : Pen} {rest xs rest' : List ℕ} {m' : Pen}
    → Leads p whole m rest → rest ≡ xs ++ rest' → Wrote m xs m' → Leads p whole m' rest'
leads_on l e s a t = l a (rw e (s ▷ t))

pub leads_end : {p : Pen} {whole : List ℕ} {m : Pen} {rest : List ℕ} → Leads p whole m rest → rest ≡ [] → Wrote p whole m
leads_end {m = m} l e = l m (rw e pen_none)

-- What a write to `out[i..i + n]` leaves.
pub mid_told : (b : List ℕ) (i n : ℕ) (xs ys : List ℕ) → i + n ≤ length b → length ys ≡ n → xs ≡ ys
    → (length (put_mid i (i + n - i) b xs) ≡ length b) × Told b (Some i) ys (put_mid i (i + n - i) b xs) (Some (i + n))
mid_told b i n xs ys h l e =
    let f : length xs ≡ n = ap length e ∙ l in
    let k : length (put_mid i (i + n - i) b xs) ≡ length b = search (rules, places) in
    let t : take (i + n) (put_mid i (i + n - i) b xs) ≡ take i b ++ xs = same_lists _ _ (search (rules, places)) (λ k d l. grind (arith, places)) in
    (k, (omega arith, t ∙ ap (λ l. take i b ++ l) e))
