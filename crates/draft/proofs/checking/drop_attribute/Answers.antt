use Rattle.std.proofs.Common.{[], sym, refl, ap, ◌∙◌, arith}
use Rattle.message.specs.Sameness.{contents_held, holding}
use Rattle.std.proofs.lemmas.Result.{err_from_is_err_and}
use Rattle.source.specs.Content.{meaning}
use Rattle.editing.specs.Amendments as spec
use Rattle.editing.specs.Targets.{may_drop}
use Rattle.lookup.specs.Finding.{message_in}
use Rattle.draft.proofs.Ends.{attribute_named, target_got, ok_or_got, ok_or_lost, held_at, drop_no_target, drop_unnamed, drop_absent, drop_changed}
use Rattle.draft.proofs.Puts.{plain_dropped}
use Rattle.draft.proofs.checking.drop_attribute.Goals as goal

pub returns-in_err-target_there : goal.returns-in_err-target_there
returns-in_err-target_there g c =
    let p = err_from_is_err_and c.from_residual.result c.from_residual.ensures.1 in
    let h = c.in_err-target_there.ensures in
    rw (p.1, p.2) (record { same = h.same; checks = drop_no_target _ _ _ _ h.value })

pub returns-in_err-attribute : goal.returns-in_err-attribute
returns-in_err-attribute g c =
    let p = err_from_is_err_and c.from_residual-in_err-attribute.result c.from_residual-in_err-attribute.ensures.1 in
    let t = c.in_ok-target_there.ensures in
    let m = message_in (meaning (g.S.Source.content c.args.source.now)) in
    let (h, there) = target_got m c.args.target _ t.value in
    rw (p.1, p.2) (record { same = t.same; checks = drop_unnamed m c.args.target c.args.id h there _ c.in_err-attribute.ensures })

pub returns : goal.returns
returns g c =
    let t = c.in_ok-target_there.ensures in
    let m = message_in (meaning (g.S.Source.content c.args.source.now)) in
    let (h, there) = target_got m c.args.target _ t.value in
    let is = c.in_ok-attribute.ensures in
    let a = c.in_ok-attribute.attribute in
    let n = attribute_named c.args.target c.args.id may_drop a is in
    let r = c.attribute_row.ensures in
    let (k, q, s) = rw (ok_or_got _ _ _ c.in_ok-ok_or.ensures.value) at r.value (plain_dropped c.args.target c.args.id a n) in
    record {
      same = r.same ∙ t.same;
      checks = (
        _,
        c.to_target.ensures [] (record { slot = spec.dropped c.args.id; listing = spec.same }) (record { slot = refl; listing = tt }),
        drop_changed m c.args.target c.args.id h there a is k (held_at m c.args.target h c.args.id a _ there n (ap (λ x. contents_held (holding (message_in (meaning x)) c.args.target) a.id) (sym t.same) ∙ q)),
        omega arith,
      );
    }

pub returns-in_err-ok_or : goal.returns-in_err-ok_or
returns-in_err-ok_or g c =
    let t = c.in_ok-target_there.ensures in
    let m = message_in (meaning (g.S.Source.content c.args.source.now)) in
    let (h, there) = target_got m c.args.target _ t.value in
    let is = c.in_ok-attribute.ensures in
    let a = c.in_ok-attribute.attribute in
    let n = attribute_named c.args.target c.args.id may_drop a is in
    let r = c.attribute_row.ensures in
    let p = err_from_is_err_and c.from_residual-in_err-ok_or.result c.from_residual-in_err-ok_or.ensures.1 in
    let (o, e) = ok_or_lost _ _ _ c.in_err-ok_or.ensures.value in
    let q = rw o at r.value (plain_dropped c.args.target c.args.id a n) in
    rw (p.1, p.2, e) (record {
      same = r.same ∙ t.same;
      checks = drop_absent m c.args.target c.args.id h there a is (held_at m c.args.target h c.args.id a _ there n (ap (λ x. contents_held (holding (message_in (meaning x)) c.args.target) a.id) (sym t.same) ∙ q));
    })
