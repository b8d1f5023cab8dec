-- Readings in a row: what is left behind the first of them.
use Rattle.std.proofs.Common.{◌≡◌, ℕ, zero, suc, ◌+◌, ◌-◌, ◌<◌, List, [], ◌∷◌, drop, Some, Ok, Err, sym, ap, ◌∙◌, arith}
use Rattle.std.proofs.lemmas.List.{drop-drop}
use Rattle.source.specs.Outcome.{Outcome}
use Rattle.source.specs.declared.refusals.Refusal.{Refusal}
use Rattle.source.proofs.Outcomes.{err_not_ok, ok_same, over_got, over_lost}
use Rattle.property.specs.Fields.{At, at, behind, repeated}
use Rattle.message.specs.Sameness.{nth}
use Rattle.listform.proofs.WalkSteps.{repeated_first}
use Rattle.lookup.specs.Listing.{Reaches}

-- What stands at a place begins what is left from there on.
pub nth_drop : {A : Type 0} (l : List A) (k : ℕ) (x : A) (rest : List A) → drop k l ≡ x ∷ rest → nth l k ≡ Some x
nth_drop [] zero x rest e = let z : ◌≡◌ {A = ℕ} 0 1 = cc in absurd (omega arith)
nth_drop [] (suc k) x rest e = let z : ◌≡◌ {A = ℕ} 0 1 = cc in absurd (omega arith)
nth_drop (y ∷ l) zero x rest e = let s : y ≡ x = cc in ap Some s
nth_drop (y ∷ l) (suc k) x rest e = nth_drop l k x rest e

drop_next : {A : Type 0} (l : List A) (k : ℕ) (x : A) (rest : List A) → drop k l ≡ x ∷ rest → drop (k + 1) l ≡ rest
drop_next l k x rest e = sym (drop-drop 1 k l) ∙ ap (drop 1) e

module _ {A : Type 0} (read : ℕ → Outcome (At A)) where
  pub reach_none : (p : ℕ) → Reaches read 0 p p
  reach_none p n a h e = let z : n - 0 ≡ n = omega arith in rw z e

  -- The next reading.
  pub reach_first : (k p q n : ℕ) (a : At (List A)) → Reaches read k p q → k < n → repeated read n p ≡ Ok a
      → (b : At A) × (rest : List A) × (read q ≡ Ok b) × (drop k a.what ≡ b.what ∷ rest) × (repeated read (n - (k + 1)) b.next ≡ Ok (at rest a.next))
  reach_first k p q n a r h e =
      let u = r n a (omega arith) e in
      let (b, rest, f, g, s) = repeated_first read (n - k) (n - (k + 1)) q (at (drop k a.what) a.next) (omega arith) (sym u) in
      let w : drop k a.what ≡ b.what ∷ rest.what = ap (λ (x : At (List A)). x.what) s in
      let l : a.next ≡ rest.next = ap (λ (x : At (List A)). x.next) s in
      (b, rest.what, sym f, w, sym g ∙ ap (λ (n : ℕ). Ok (at rest.what n)) (sym l))

  -- The place behind it, where it is known.
  pub reach_step : (k p q next : ℕ) → Reaches read k p q → ((b : At A) → read q ≡ Ok b → next ≡ b.next) → Reaches read (k + 1) p next
  reach_step k p q next r there n a h f =
      let (b, rest, g, w, m) = reach_first k p q n a r (omega arith) f in
      rw (there b g, drop_next a.what k b.what rest w) m

  pub reach_more : (k p q next : ℕ) → Reaches read k p q → Ok next ≡ behind (read q) → Reaches read (k + 1) p next
  reach_more k p q next r e = reach_step k p q next r there
    where
      there : (b : At A) → read q ≡ Ok b → next ≡ b.next
      there b g = let (d, i, j) = over_got (λ (x : At A). x.next) (read q) next e in j ∙ ap (λ (x : At A). x.next) (ok_same d b (i ∙ g))

  pub reach_stopped : (k p q n : ℕ) (a : At (List A)) → Reaches read k p q → k < n → repeated read n p ≡ Ok a → ((b : At A) → read q ≡ Ok b → ⊥) → ⊥
  reach_stopped k p q n a w h e f = let (b, _, g, _, _) = reach_first k p q n a w h e in f b g

  pub reach_lost : (k p q n : ℕ) (a : At (List A)) (r : Refusal) → Reaches read k p q → k < n → repeated read n p ≡ Ok a → Err r ≡ behind (read q) → ⊥
  reach_lost k p q n a r w h e f = reach_stopped k p q n a w h e (λ b g. err_not_ok (over_lost _ (read q) r f ∙ g))
