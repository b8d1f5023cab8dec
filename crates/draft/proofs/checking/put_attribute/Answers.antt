use Rattle.std.proofs.Common.{Ok, sym, ap, ◌∙◌}
use Rattle.std.proofs.lemmas.Result.{err_from_is_err_and}
use Rattle.source.specs.Content.{meaning}
use Rattle.lookup.specs.Finding.{message_in}
use Rattle.editing.specs.Targets.{may_put}
use Rattle.draft.proofs.Ends.{attribute_named, target_got, contents_got, put_no_target, put_unnamed, put_unfit, put_changed}
use Rattle.draft.proofs.Puts.{put_is}
use Rattle.draft.proofs.checking.put_attribute.Goals as goal

pub returns-in_err-target_there : goal.returns-in_err-target_there
returns-in_err-target_there g c =
    let p = err_from_is_err_and c.from_residual.result c.from_residual.ensures.1 in
    let h = c.in_err-target_there.ensures in
    rw (p.1, p.2) (record { same = h.same; checks = put_no_target _ _ _ _ _ h.value })

pub returns-in_err-attribute : goal.returns-in_err-attribute
returns-in_err-attribute g c =
    let p = err_from_is_err_and c.from_residual-in_err-attribute.result c.from_residual-in_err-attribute.ensures.1 in
    let t = c.in_ok-target_there.ensures in
    let m = message_in (meaning (g.S.Source.content c.args.source.now)) in
    let (h, there) = target_got m c.args.target _ t.value in
    rw (p.1, p.2) (record { same = t.same; checks = put_unnamed m c.args.target c.args.id c.args.bytes.now h there _ c.in_err-attribute.ensures })

pub returns-in_err-contents_given : goal.returns-in_err-contents_given
returns-in_err-contents_given g c =
    let p = err_from_is_err_and c.from_residual-in_err-contents_given.result c.from_residual-in_err-contents_given.ensures.1 in
    let t = c.in_ok-target_there.ensures in
    let m = message_in (meaning (g.S.Source.content c.args.source.now)) in
    let (h, there) = target_got m c.args.target _ t.value in
    rw (p.1, p.2) (record { same = t.same; checks = put_unfit m c.args.target c.args.id c.args.bytes.now h there c.in_ok-attribute.attribute c.in_ok-attribute.ensures _ c.in_err-contents_given.ensures.judged })

pub returns : goal.returns
returns g c =
    let t = c.in_ok-target_there.ensures in
    let m = message_in (meaning (g.S.Source.content c.args.source.now)) in
    let (h, there) = target_got m c.args.target _ t.value in
    let is = c.in_ok-attribute.ensures in
    let a = c.in_ok-attribute.attribute in
    let k = c.in_ok-contents_given.ensures in
    let (q, fits, means) = contents_got a.rule c.args.bytes.now _ k.short k.judged in
    record {
      same = t.same;
      checks = (
        _,
        c.to_put.ensures c.args.bytes.now c.args.id q (attribute_named c.args.target c.args.id may_put a is) means,
        put_changed m c.args.target c.args.id c.args.bytes.now h there a is q fits ∙ ap Ok (sym (put_is m c.args.target a q h there a.rule)),
        k.short,
      );
    }
