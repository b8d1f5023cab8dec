use Rattle.std.proofs.Common.{◌≡◌, ℕ, suc, ◌+◌, ◌-◌, Ok, Err, sym, ◌∙◌, arith}
use Rattle.std.proofs.lemmas.Result.{err_from_is_err_and}
use Rattle.source.specs.Outcome.{Outcome}
use Rattle.source.specs.declared.refusals.Refusal.{Refusal}
use Rattle.property.specs.Repeats.{stepped}
use Rattle.property.proofs.repeats.behind_each.Goals as goal

module _ (next : ℕ → Outcome ℕ) where
  stepped_none : (n p : ℕ) → n ≡ 0 → stepped next n p ≡ Ok p
  unfolding stepped
  stepped_none n p e = rw e

  stepped_lost : (n m p : ℕ) (r : Refusal) → n ≡ suc m → Err r ≡ next p → stepped next n p ≡ Err r
  unfolding stepped
  stepped_lost n m p r e h = rw (e, ← h)

  stepped_more : (n m p q : ℕ) → n ≡ suc m → Ok q ≡ next p → stepped next n p ≡ stepped next m q
  unfolding stepped
  stepped_more n m p q e h = rw (e, ← h)

pub returns-in_err-here-clause-reads : goal.returns-in_err-here-clause-reads
returns-in_err-here-clause-reads g c = λ next h.
    let i = c.loop-i.invariant in
    let p = err_from_is_err_and c.from_residual.result c.from_residual.ensures.1 in
    let q = h _ _ _ _ (rw i.same c.requires.sized.0) c.in_err-here.ensures in
    let d = c.args.count - (c.loop-i.i + 1) in
    rw (p.1, p.2) (sym (i.reads next h ∙ stepped_lost _ _ d _ _ (omega arith) (rw i.same at q)))

pub loop-i-preserved : goal.loop-i-preserved
loop-i-preserved g c =
    let i = c.loop-i.invariant in
    let d = c.args.count - (c.loop-i.i + 1) in
    let s = c.requires.stays _ _ _ _ (rw i.same c.requires.sized.0) c.in_ok-here.ensures in
    record {
      same = s.0 ∙ i.same;
      within = s.1;
      reads = λ next h. i.reads next h ∙ stepped_more _ _ d _ _ (omega arith) (rw i.same at (h _ _ _ _ (rw i.same c.requires.sized.0) c.in_ok-here.ensures));
    }

pub returns-clause-reads : goal.returns-clause-reads
returns-clause-reads g c = λ next h. sym (c.loop-i.invariant.reads next h ∙ stepped_none _ _ _ (omega arith))
