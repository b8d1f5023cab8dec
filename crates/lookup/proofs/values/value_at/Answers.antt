use Rattle.std.proofs.Common.{sym, ◌∙◌, subst}
use Rattle.source.specs.Content.{meaning}
use Rattle.message.specs.Sameness.{nth}
use Rattle.lookup.specs.Values.{ValueStands}
use Rattle.lookup.proofs.Valued.{said_as, unshaped, shaped_fixed, shaped_sized}
use Rattle.lookup.proofs.values.value_at.Goals as goal

pub returns-in_err-shape-clause-value : goal.returns-in_err-shape-clause-value
returns-in_err-shape-clause-value g c =
    let xs = meaning (g.S.Source.content c.args.source.now) in
    λ end p l h. absurd (unshaped xs end c.args.row.now p h c.in_err-shape.ensures)

pub returns-in-Some-clause-value : goal.returns-in-Some-clause-value
returns-in-Some-clause-value g c =
    let xs = meaning (g.S.Source.content c.args.source.now) in
    let s = c.in_ok-shape.shape in
    let q = c.fixed_at.ensures in
    λ end p l h.
    let (start, a, reads, vs, t) = said_as xs end c.args.row.now p h s c.in_ok-shape.ensures in (
      s,
      t,
      subst (λ ws. ValueStands xs s.kind (nth ws c.args.number) c.fixed_at.result) (sym vs)
          (q.value end start s.kind a l (sym (shaped_fixed xs end start l s c.in-Some.width _ (sym c.in-Some.ensures)) ∙ reads)),
    )

pub returns-in-None-clause-value : goal.returns-in-None-clause-value
returns-in-None-clause-value g c =
    let xs = meaning (g.S.Source.content c.args.source.now) in
    let s = c.in_ok-shape.shape in
    let q = c.sized_at.ensures in
    λ end p l h.
    let (start, a, reads, vs, t) = said_as xs end c.args.row.now p h s c.in_ok-shape.ensures in (
      s,
      t,
      subst (λ ws. ValueStands xs s.kind (nth ws c.args.number) c.sized_at.result) (sym vs)
          (q.value end start s.kind s.several a l (sym (shaped_sized xs end start l s _ (sym c.in-None.ensures)) ∙ reads)),
    )
