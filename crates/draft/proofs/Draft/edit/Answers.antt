use Rattle.std.proofs.Common.{ℕ, replicate, ap, ◌∙◌, arith}
use Rattle.draft.specs.Drafts.{area_after, size_after, blank_row}
use Rattle.draft.proofs.Loading.{front_is, told_is}
use Rattle.draft.proofs.Rewritten.{edit_fits}
use Rattle.draft.proofs.Draft.edit.Goals as goal

pub settle-requires : goal.settle-requires
settle-requires c = edit_fits _ _ _ _ _ (rw c.whole.ensures at c.edit_within-result.ensures.outcome) (omega arith)

pub returns : goal.returns
returns c =
    let h = c.edit_within-result.ensures in
    let o = rw c.whole.ensures at h.outcome in
    let s = c.settle.ensures in
    let e = front_is _ _ _ o (rw c.whole.ensures at h.form) in
    record {
      outcome = told_is _ _ _ s.outcome o;
      area = s.area ∙ ap (λ o. area_after o c.args.self.now.area.now) e;
      size = s.size ∙ ap (λ o. size_after o c.args.self.now.size) e;
      bytes = s.bytes ∙ ap (λ (k : ℕ). replicate k 0) (omega arith);
      rows = s.rows ∙ ap (λ (k : ℕ). replicate k blank_row) (omega arith);
    }
